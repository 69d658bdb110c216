-- The contents of a carried link.
use Rattle.std.specs.Prelude.{◌≡◌, ◌==◌, ◌&&◌, ◌+◌, ◌%◌, ℕ, Bool, true, List, [], ◌∷◌, ◌++◌, Option, Some, None, Ok, is_some, codes, if◌then◌else◌, slice_index, string_bytes}
use mathlib.Core.Bool.{not}
use Rattle.std.specs.Fmt.{decimal}
use Rattle.std.specs.List.{list_any}
use Rattle.std.specs.Str.{bytes_eq}
use Rattle.sha2.specs.Sha256.{sha256}
use Rattle.url.specs.Input.{is_empty}
use Rattle.url.specs.Parser.{parse_url}
use Rattle.url.specs.Parts.{Parts, serialize, text_between}
use Rattle.url.specs.declared.slicing.Position.TheVariants.{BeforeHost, AfterPort}
use Rattle.state_ids.specs.Ids.{Id}
use Rattle.wire_narayana.specs.declared.link_kind.LinkKind.{LinkKind}
use Rattle.wire_narayana.specs.declared.link_kind.Query.{Query}
use Rattle.wire_narayana.specs.declared.short.Short.{Short}
use Rattle.wire_narayana.specs.Kinds.{letter_of, query_text}
use Rattle.wire_narayana.specs.Seals.{seal}

-- what follows a text's beginning, if the text has that beginning
unfoldable pub behind : List ℕ → List ℕ → Option (List ℕ)
behind [] bs = Some bs
behind (x ∷ xs) [] = None
behind (x ∷ xs) (b ∷ bs) = if x == b then behind xs bs else None

abbrev pub spelled_by : Short → List ℕ → Option (List ℕ) → List ℕ
spelled_by short others None = others
spelled_by short others (Some tail) = string_bytes short.long ++ tail

-- a rest spelled out: the first short form with which it begins is replaced by its long form
unfoldable pub spelled : List Short → List ℕ → List ℕ
spelled [] rest = rest
spelled (short ∷ shorts) rest = spelled_by short (spelled shorts rest) (behind (string_bytes short.short) rest)

abbrev pub shortened_by : Short → List ℕ → Option (List ℕ) → List ℕ
shortened_by short others None = others
shortened_by short others (Some tail) = string_bytes short.short ++ tail

-- a rest made short: the first long form with which it begins is replaced by its short form
unfoldable pub shortened : List Short → List ℕ → List ℕ
shortened [] rest = rest
shortened (short ∷ shorts) rest = shortened_by short (shortened shorts rest) (behind (string_bytes short.long) rest)

-- a target carries a participant's own link: by a letter, the seal of the whole link, and the rest
pub record Carries (key : List ℕ) (shorts : List Short) (id : Id) (target : List ℕ) (kind : LinkKind) (link : List ℕ) : Type 0 where
  pub form : Query
  pub rest : List ℕ
  pub is : link ≡ codes "http://" ++ (spelled shorts rest ++ query_text kind form)
  pub says : target ≡ 47 ∷ letter_of kind form ∷ (seal key kind id link ++ (47 ∷ rest))

-- A participant can be called at an http URL with no user, password or fragment. A link with a
-- backslash (92) isn't carried: nodes write links in JSON, where a backslash has another meaning.
abbrev pub is_plain : Parts → Bool
is_plain url =
    bytes_eq url.scheme (codes "http") && (is_empty url.username && (is_empty url.password && (not (is_some url.fragment)
    && not (list_any (λ b. b == 92) (serialize url)))))

-- an address of the loopback interface for a participant's host, from the first bytes of the host's
-- digest: no address ends with 0 or 255
abbrev pub loopback_by : List ℕ → List ℕ
loopback_by digest =
    codes "127." ++ (decimal (slice_index digest 0) ++ (codes "." ++ (decimal (slice_index digest 1) ++ (codes "." ++ decimal (slice_index digest 2 % 254 + 1)))))

-- the host at which nodes reach the gateway for a participant's host
abbrev pub host_for : Option (List ℕ) → List ℕ → List ℕ
host_for None host = loopback_by (sha256 host)
host_for (Some named) host = named

-- the part of a carried link before its target
abbrev pub address_of : Option (List ℕ) → ℕ → Parts → List ℕ
address_of named port own = codes "http://" ++ (host_for named (text_between own BeforeHost AfterPort) ++ (codes ":" ++ decimal port))

-- `url` writes the text unchanged
abbrev pub IsWritten : List ℕ → Type 0
IsWritten text = (url : Parts) × (parse_url None text ≡ Ok url) × (serialize url ≡ text)

-- the text is the link of a participant that can be called there
abbrev pub IsOwn : List ℕ → Parts → Type 0
IsOwn text own = (parse_url None text ≡ Ok own) × (is_plain own ≡ true)

-- a text carries a link of this kind, in this LRA
abbrev pub IsCarrying : (key : List ℕ) → (named : Option (List ℕ)) → (port : ℕ) → List Short → LinkKind → Id → List ℕ → List ℕ → Type 0
IsCarrying key named port shorts kind id link text =
    (own : Parts) × (target : List ℕ) × IsOwn link own × Carries key shorts id target kind (serialize own) × (text ≡ address_of named port own ++ target)
