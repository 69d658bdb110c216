-- How LRAs and participants are named to services, and how services name them.
use Rattle.std.specs.Prelude.{◌≡◌, false, ◌==◌, ◌||◌, ℕ, Bool, List, [], ◌∷◌, ◌++◌, codes, if◌then◌else◌, reverse}
use Rattle.std.specs.Fmt.{decimal}
use Rattle.std.specs.List.{list_any}
use Rattle.percent_encoding.specs.Percent.{percent_decode}
use Rattle.state_ids.specs.Ids.{Id, IsId, IsTextOf, text_of}

-- an id as services know it
abbrev pub url_of : List ℕ → Id → List ℕ
url_of base id = base ++ (codes "/lra-coordinator/" ++ text_of id)

-- the URL at which services find a participant
abbrev pub recovery_of : List ℕ → Id → ℕ → List ℕ
recovery_of base id member = base ++ (codes "/lra-coordinator/recovery/" ++ (text_of id ++ (codes "/" ++ decimal member)))

-- the part before the first `?` (63)
unfoldable pub path_of : List ℕ → List ℕ
path_of [] = []
path_of (b ∷ bs) = if b == 63 then [] else b ∷ path_of bs

abbrev pub without_first_slashes : List ℕ → List ℕ
without_first_slashes [] = []
without_first_slashes (b ∷ bs) = if b == 47 then without_first_slashes bs else b ∷ bs

-- the text without the slashes at its end
abbrev pub without_slashes : List ℕ → List ℕ
without_slashes bs = reverse (without_first_slashes (reverse bs))

-- a slash or a colon separates a name from what stands before it
abbrev pub is_parting : ℕ → Bool
is_parting b = (b == 47) || (b == 58)

-- the longest end of a text without a slash or colon
unfoldable pub last_part : List ℕ → List ℕ
last_part [] = []
last_part (b ∷ bs) = if list_any is_parting (b ∷ bs) then last_part bs else b ∷ bs

-- the name in a path, a URL or a URN: the last part of its path
abbrev pub name_in : List ℕ → List ℕ
name_in text = last_part (without_slashes (path_of text))

-- a text names an id: unescaped, escaped once by a client, or escaped once more by its HTTP library
abbrev pub Names : List ℕ → Id → Type 0
Names text id = IsId id × IsTextOf (name_in (percent_decode (percent_decode text))) id

-- a base has no `%` (37), which begins escapes, and no `?` (63), which begins queries
abbrev pub IsBaseUrl : List ℕ → Type 0
IsBaseUrl base = list_any (λ b. (b == 37) || (b == 63)) base ≡ false
