use Rattle.std.proofs.Common.{◌≡◌, ◌++◌, drop, take}
use Rattle.wire_narayana.specs.Naming.{path_of}
use Rattle.wire_narayana.proofs.ids.path_of.Given as goal

-- together with what is left it makes up the whole
abbrev pub invariant-loop-place : goal.invariant-loop-place
invariant-loop-place l = take l.place l.text ++ path_of (drop l.place l.text) ≡ path_of l.text
