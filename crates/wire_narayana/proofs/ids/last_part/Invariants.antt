use Rattle.std.proofs.Common.{◌≡◌, ◌≤◌, drop}
use Rattle.std.specs.Prelude.{if◌then◌else◌}
use Rattle.std.specs.List.{list_any}
use Rattle.wire_narayana.specs.Naming.{is_parting, last_part}
use Rattle.wire_narayana.proofs.ids.last_part.Given as goal

-- the part so far is the last, if nothing separates the rest
abbrev pub invariant-loop-place : goal.invariant-loop-place
invariant-loop-place l = (l.start ≤ l.place) × ((if list_any is_parting (drop l.place l.path) then last_part (drop l.place l.path) else drop l.start l.path) ≡ last_part l.path)
