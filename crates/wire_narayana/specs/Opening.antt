-- The result of opening a link.
use Rattle.std.specs.Prelude.{◌≡◌, ℕ, List, Option, Some, None, string_bytes}
use Rattle.wire_narayana.specs.declared.link_kind.LinkKind.{LinkKind}
use Rattle.wire_narayana.specs.declared.carried.Opened.{Opened}

-- a link of this kind was opened
abbrev pub IsOpened : Option Opened → LinkKind → List ℕ → Type 0
IsOpened None kind link = ⊥
IsOpened (Some it) kind link = (it.kind ≡ kind) × (string_bytes it.link ≡ link)
