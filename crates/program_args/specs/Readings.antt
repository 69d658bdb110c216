-- What the functions that read the words ensure.
use Rattle.std.specs.Prelude.{◌≡◌, ◌≢◌, ⊤, ℕ, List, [], ◌∷◌, ◌++◌, ◌⊎◌, codes, false, option_copied}
use Rattle.program_args.specs.Arguments.{Choices, Texts, has}
use Rattle.program_args.specs.declared.choices.Chosen.{Chosen}
use Rattle.program_args.specs.declared.member_texts.MemberTexts.{MemberTexts}

-- a word is one byte, or two with a hyphen between them
abbrev pub IsOneOrTwo : List ℕ → (first last : ℕ) → Type 0
IsOneOrTwo word first last = ((word ≡ first ∷ []) × (last ≡ first)) ⊎ (word ≡ first ∷ 45 ∷ last ∷ [])

-- the first of some words doesn't begin with this name
abbrev pub IsNotSaid : List ℕ → List (List ℕ) → Type 0
IsNotSaid name words = (text : List ℕ) (others : List (List ℕ)) → words ≡ (name ++ text) ∷ others → ⊥

-- the first of some words isn't this word
abbrev pub IsNotFirst : List ℕ → List (List ℕ) → Type 0
IsNotFirst word words = (others : List (List ℕ)) → words ≡ word ∷ others → ⊥

-- the first of some words has no `=`, and isn't `strict` or `anew`
abbrev pub IsUnnamed : List (List ℕ) → Type 0
IsUnnamed [] = ⊤
IsUnnamed (word ∷ words) = (has 61 word ≡ false) × (word ≢ codes "strict") × (word ≢ codes "anew")

-- the texts that were found in the words
abbrev pub texts_in : MemberTexts → Texts
texts_in it = record {
  listen = option_copied it.listen;
  operate = option_copied it.operate;
  names = option_copied it.names;
  ended = option_copied it.ended;
  failed = option_copied it.failed;
  group = option_copied it.group;
  copies = option_copied it.copies;
  patience = option_copied it.patience;
  strict = it.strict;
  anew = it.anew;
}

-- the options that were found in the words
abbrev pub chosen : Chosen → Choices
chosen it = record { listen = it.listen; operate = it.operate; names = it.names.now; ended = it.ended; failed = it.failed; group = option_copied it.group; copies = it.copies; patience = it.patience; strict = it.strict; anew = it.anew }
