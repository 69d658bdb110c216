use Rattle.std.proofs.Common.{ℕ, List, refl, ◌+◌, ◌≤◌, ◌<◌, ap, arith, sym, subst, Option, None, Some, IsSome}
use Rattle.state_stamps.specs.declared.stamp_entry.StampEntry.{StampEntry}
use Rattle.state_stamps.specs.Indexes.{AreIndexesOf, AreRestamped, HeldIndex, least_spare, stamp_at}
use Rattle.state_stamps.proofs.Rooms.{each_least, kept_room, moved_indexes, moved_room}
use Rattle.state_stamps.proofs.index.Index.reindex.Goals as goal

pub reindex_each-requires : goal.reindex_each-requires
reindex_each-requires c = λ k within some. each_least 1 c.self.inside.origins.items (by k c.args.now some c.requires) k within
  where
    by : (k : ℕ) (now : Option (List ℕ)) → 0 < stamp_at now (k + 1) → (IsSome now → 1 ≤ c.args.self.now.spare) → 1 ≤ least_spare c.self.inside.origins.items
    by k None some room = absurd (omega (arith, some))
    by k (Some v) some room = omega (arith, room refl, ap (λ (x : HeldIndex). x.spare) c.self.view_is)

pub returns-clause-entries : goal.returns-clause-entries
returns-clause-entries c = λ known all known_is.
    let old = subst (λ (os : List (List StampEntry)). AreIndexesOf os known) (sym (ap (λ (x : HeldIndex). x.origins) c.self.view_is)) all in
    moved_indexes (record { home = c.args.home; num = c.args.num }) c.args.was c.args.now c.self.inside.origins.items c.reindex_each.new.origins.items c.reindex_each.ensures c.are_few.ensures known old known_is

pub returns-clause-spare : goal.returns-clause-spare
returns-clause-spare c =
    omega (arith, moved_room (record { home = c.args.home; num = c.args.num }) c.args.was c.args.now c.self.inside.origins.items c.reindex_each.new.origins.items c.reindex_each.ensures, ap (λ (x : HeldIndex). x.spare) c.self.view_is)

pub returns-clause-kept : goal.returns-clause-kept
returns-clause-kept c = λ none.
    let each = subst (λ (v : Option (List ℕ)). AreRestamped (record { home = c.args.home; num = c.args.num }) c.args.was v c.self.inside.origins.items c.reindex_each.new.origins.items) none c.reindex_each.ensures in
    omega (arith, kept_room (record { home = c.args.home; num = c.args.num }) c.args.was c.self.inside.origins.items c.reindex_each.new.origins.items each, ap (λ (x : HeldIndex). x.spare) c.self.view_is)
