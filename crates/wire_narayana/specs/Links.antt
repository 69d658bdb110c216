-- The links with which a service joins.
use Rattle.std.specs.Prelude.{◌≡◌, ◌≢◌, ◌⊎◌, ⊤, ℕ, List, [], ◌∷◌, ◌++◌, codes, string_bytes}
use Rattle.wire_narayana.specs.declared.link_kind.LinkKind.{LinkKind}
use Rattle.wire_narayana.specs.declared.link_kind.LinkKind.TheVariants.{Compensate, Complete, Status, Forget}
use Rattle.wire_narayana.specs.declared.given_link.GivenLink.{GivenLink}

-- the text ends with this
abbrev pub IsEnd : List ℕ → List ℕ → Type 0
IsEnd text end = (front : List ℕ) × (text ≡ front ++ end)

-- the URL stands in the text between `<` (60) and `>` (62)
abbrev pub IsGiven : List ℕ → List ℕ → Type 0
IsGiven text url = (front : List ℕ) × (back : List ℕ) × (text ≡ front ++ (60 ∷ (url ++ (62 ∷ back))))

-- the text gives each of these links
abbrev pub AreGiven : List ℕ → List GivenLink → Type 0
AreGiven text [] = ⊤
AreGiven text (link ∷ links) = IsGiven text (string_bytes link.url) × AreGiven text links

-- a link's kind and URL
abbrev pub said_by : GivenLink → LinkKind × List ℕ
said_by link = (link.kind, string_bytes link.url)

-- the links that a plain URL stands for
abbrev pub of_base : List ℕ → List (LinkKind × List ℕ)
of_base base = (Compensate, base ++ codes "/compensate") ∷ (Complete, base ++ codes "/complete") ∷ (Status, base) ∷ (Forget, base) ∷ []

-- a URL without a slash at its end
abbrev pub IsBase : List ℕ → List ℕ → Type 0
IsBase url base = (url ≡ base ++ codes "/") ⊎ ((url ≡ base) × ((front : List ℕ) → url ≢ front ++ codes "/"))
