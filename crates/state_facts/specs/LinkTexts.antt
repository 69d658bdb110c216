-- The text that is kept of a link.
use Rattle.std.specs.Prelude.{◌≡◌, ◌&&◌, ℕ, List, length, Bool, false, ⊤, Option, Some, None, Result, Ok, Err, is_some, nat_le, if◌then◌else◌, codes}
use mathlib.Core.Bool.{not}
use Rattle.std.specs.Str.{bytes_eq, is_utf8}
use Rattle.url.specs.Input.{is_empty}
use Rattle.url.specs.Parts.{Parts, serialize}
use Rattle.url.specs.Parser.{Parsed, parse_url}
use Rattle.state_facts.specs.declared.refusal.Refusal.{Refusal}
use Rattle.state_facts.specs.declared.refusal.Refusal.TheVariants.{BadText, NoMemory}

-- the greatest length of a link in bytes, both as given and as kept
abbrev pub max_link_bytes : ℕ
max_link_bytes = 127

-- an http URL without user, password or fragment, whose serialised text has at most 127 bytes
abbrev pub is_link : Parts → Bool
is_link url =
    bytes_eq url.scheme (codes "http") && (is_empty url.username && (is_empty url.password && (not (is_some url.fragment)
    && nat_le (length (serialize url)) max_link_bytes)))

abbrev pub kept_of : Parsed Parts → Option (List ℕ)
kept_of (Ok url) = if is_link url then Some (serialize url) else None
kept_of (Err e) = None

-- the text that is kept of a link's text: the URL Standard's serialisation. It is `None` if the
-- text is no link
abbrev pub kept_text : List ℕ → Option (List ℕ)
kept_text text = if nat_le (length text) max_link_bytes then kept_of (parse_url None text) else None

abbrev pub is_same : Option (List ℕ) → List ℕ → Bool
is_same (Some kept) text = bytes_eq kept text
is_same None text = false

-- whether the text is the kept text of a link
unfoldable pub is_kept : List ℕ → Bool
is_kept text = is_utf8 text && is_same (kept_text text) text

-- the result of reading, where `kept` is what the texts decide: only out of memory doesn't depend
-- on the texts
abbrev pub Reads : {A : Type 0} → Option A → Result A Refusal → Type 0
Reads kept (Ok x) = kept ≡ Some x
Reads kept (Err BadText) = kept ≡ None
Reads kept (Err NoMemory) = ⊤
Reads kept (Err _) = ⊥
