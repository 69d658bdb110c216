-- Pieces of JSON.
use Rattle.std.specs.Prelude.{◌==◌, ◌||◌, ℕ, Bool, true, false, List, [], ◌∷◌, ◌++◌, codes, Option, Some, None, if◌then◌else◌}
use Rattle.std.specs.Fmt.{decimal}
use Rattle.state_ids.specs.Ids.{Id, text_of}

-- "TEXT", for a text in which nothing must be escaped
unfoldable pub word : List ℕ → List ℕ
word text = codes "\"" ++ (text ++ codes "\"")

-- {"NAME": and ,"NAME":
unfoldable pub opening : List ℕ → List ℕ
opening name = codes "{\"" ++ (name ++ codes "\":")

unfoldable pub key : List ℕ → List ℕ
key name = codes ",\"" ++ (name ++ codes "\":")

-- the first member of an object, and another one
unfoldable pub opened : (name value : List ℕ) → List ℕ
opened name value = opening name ++ value

unfoldable pub named : (name value : List ℕ) → List ℕ
named name value = key name ++ value

-- the name, or null
abbrev pub name_or_null : Option (List ℕ) → List ℕ
name_or_null (Some name) = word name
name_or_null None = codes "null"

abbrev pub id_or_null : Option Id → List ℕ
id_or_null (Some id) = word (text_of id)
id_or_null None = codes "null"

-- a number, or null in place of 0
abbrev pub number_or_null : ℕ → List ℕ
number_or_null n = if n == 0 then codes "null" else decimal n

abbrev pub truth : Bool → List ℕ
truth true = codes "true"
truth false = codes "false"

-- a quote or a backslash follows a backslash
abbrev pub escaped : ℕ → List ℕ
escaped b = if (b == 34) || (b == 92) then 92 ∷ b ∷ [] else b ∷ []

abbrev pub quoted_bytes : List ℕ → List ℕ
quoted_bytes [] = []
quoted_bytes (b ∷ bytes) = escaped b ++ quoted_bytes bytes

-- "TEXT", escaped
unfoldable pub quoted : List ℕ → List ℕ
quoted text = codes "\"" ++ (quoted_bytes text ++ codes "\"")
