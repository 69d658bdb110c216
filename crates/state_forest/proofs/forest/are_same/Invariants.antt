use Rattle.std.proofs.Common.{◌≡◌}
use Rattle.state_forest.proofs.forest.are_same.Given as goal

-- the lists are the same exactly if what is left is
abbrev pub invariant-loop-theirs : goal.invariant-loop-theirs
invariant-loop-theirs l = record {
  all : l.own ≡ l.theirs-iterator → l.fn.own ≡ l.fn.other;
  left : l.fn.own ≡ l.fn.other → l.own ≡ l.theirs-iterator;
}
