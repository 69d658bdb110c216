-- The parts of a text between single bytes: the lines of an input, the words of a line.
use Rattle.std.specs.Prelude.{◌≡◌, ℕ, ◌==◌, false, List, [], ◌∷◌, if◌then◌else◌}

-- b, followed by the first part
abbrev pub onto_first : ℕ → List (List ℕ) → List (List ℕ)
onto_first b [] = (b ∷ []) ∷ []
onto_first b (part ∷ parts) = (b ∷ part) ∷ parts

-- what stands before, between and after the bytes that equal `at`: always one part more than there
-- are such bytes. One recursion splits a text both into lines and into words, so no law about
-- joining words is needed
abbrev pub parts : ℕ → List ℕ → List (List ℕ)
parts at [] = [] ∷ []
parts at (b ∷ bs) = if b == at then [] ∷ parts at bs else onto_first b (parts at bs)

-- each line ends with a line feed, except perhaps the last. After a final line feed an empty line
-- is left
abbrev pub lines_of : List ℕ → List (List ℕ)
lines_of = parts 10

-- words are separated by one space
abbrev pub words_of : List ℕ → List (List ℕ)
words_of = parts 32

-- no byte equals `at`: the text is one part
abbrev pub HasNone : ℕ → List ℕ → Type 0
HasNone at [] = Unit {0}
HasNone at (b ∷ bs) = ((b == at) ≡ false) × HasNone at bs
