use Rattle.std.proofs.Common.{◌≡◌, ◌+◌, ◌*◌, drop}
use Rattle.std.specs.List.{list_any}
use Rattle.state_forest.specs.Shape.{found_at}
use Rattle.state_forest.specs.Statuses.{seen_by, seen_or, shows_within}
use Rattle.state_forest.proofs.forest.Forest.+descent.Given as goal

abbrev pub decreases-seen : goal.decreases-seen
decreases-seen l = 2 * l.levels + 1

abbrev pub decreases-seen_in : goal.decreases-seen_in
decreases-seen_in l = 2 * l.levels

-- what was seen so far, with what is left, is what is seen of all
abbrev pub invariant-seen-loop-member : goal.invariant-seen-loop-member
invariant-seen-loop-member l =
    seen_or l.seen (seen_by (λ test. list_any (shows_within l.levels test (found_at l.self.home l.self.records) l.num l.want) (drop l.member-index l.members)))
    ≡ seen_by (λ test. list_any (shows_within l.levels test (found_at l.self.home l.self.records) l.num l.want) l.members)
