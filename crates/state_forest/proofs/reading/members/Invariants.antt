use Rattle.std.proofs.Common.{◌≡◌, ◌++◌, filter, length, map, nat_lt}
use Rattle.state_forest.specs.Gathering.{IsRecordable}
use Rattle.state_forest.specs.Records.{givers, member_by, members_of}
use Rattle.state_forest.proofs.reading.members.Given as goal

-- the members so far, with those after the last one, are all
abbrev pub invariant-places : goal.invariant-places
invariant-places l = record {
  counted : length l.members ≡ l.counter;
  rest : IsRecordable l.facts → l.members ++ map (λ f. member_by l.facts l.id f.num f.body) (filter (λ x. nat_lt l.after x.num) (givers l.facts l.id)) ≡ members_of l.facts l.id;
}
