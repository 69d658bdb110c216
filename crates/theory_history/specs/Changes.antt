-- The changes that a patch makes to a view, and when they add exactly one fact.
use mathlib.Core.Bool.{not}
use Rattle.std.specs.Prelude.{◌≡◌, ◌+◌, ◌-◌, ◌==◌, ℕ, true, Some, List, [], ◌∷◌, length, filter, slice_set, Option, None}
use Rattle.state_ids.specs.Ids.{Id}
use Rattle.state_ids.specs.Fronts.{count}
use Rattle.state_facts.specs.declared.fact.Fact.{Fact}
use Rattle.state_facts.specs.Lists.{In}
use Rattle.state_facts.specs.Sets.{is_under}
use Rattle.state_forest.specs.declared.record.Record.{Record}
use Rattle.state_forest.specs.Forests.{is_of}
use Rattle.state_forest.specs.OnlyChanges.{AreOnlyChanges}
use Rattle.state_forest.specs.Places.{put_record}
use Rattle.state_forest.specs.declared.record.Place.{Place}
use Rattle.theory_history.specs.Views.{View, record_at, records_at, StandsFor}
use Rattle.state_facts.specs.declared.command.Command.{Command}
use Rattle.theory_history.specs.Growth.{IsMore, begun_record, stamped}
use Rattle.theory_history.specs.Replies.{AlreadyKnown, Accepted, judge, next_fact}

-- what is put into a view and removed from it, and the front and last purges afterwards
pub record Change : Type 0 where
  pub records : List Record
  pub removed : List Id
  pub front : List ℕ
  pub purges : List ℕ

-- the records of all homes with a record in its place at its home
abbrev pub put_at_home : Record → List (List Record) → List (List Record)
put_at_home r homes = slice_set homes (r.home - 1) (put_record r (records_at homes r.home))

abbrev pub put_each : List Record → List (List Record) → List (List Record)
put_each [] homes = homes
put_each (r ∷ records) homes = put_each records (put_at_home r homes)

-- the records of all homes without the record of l
abbrev pub remove_at_home : Id → List (List Record) → List (List Record)
remove_at_home l homes = slice_set homes (l.home - 1) (filter (λ r. not (is_of l r)) (records_at homes l.home))

abbrev pub remove_each : List Id → List (List Record) → List (List Record)
remove_each [] homes = homes
remove_each (l ∷ ids) homes = remove_each ids (remove_at_home l homes)

-- the view after a patch
abbrev pub patched : Change → View → View
patched change view =
    record { front = change.front; purges = change.purges; records = put_each change.records (remove_each change.removed view.records) }

-- the view after a patch, if there is one
abbrev pub with_patch : Option Change → View → View
with_patch None view = view
with_patch (Some change) view = patched change view

-- what a patch removes and puts at a home
abbrev pub ids_of : ℕ → List Id → List Id
ids_of home ids = filter (λ l. l.home == home) ids

abbrev pub records_of : ℕ → List Record → List Record
records_of home records = filter (λ r. r.home == home) records

-- A patch of a view has only what changes, each once. At each home the records that it puts are in
-- order, and the view has none of them unchanged. The LRAs that it removes are in order, the view
-- has a record of each, and none of them is put
abbrev pub HoldsOnlyChanges : View → Change → Type 0
HoldsOnlyChanges view change =
    (home : ℕ) → AreOnlyChanges home (records_at view.records home) (ids_of home change.removed) (records_of home change.records)

-- a front that counts one more fact of a node
abbrev pub raised : List ℕ → ℕ → List ℕ
raised v node = stamped node (count v node + 1) v

-- what a node's fact changes if it changes one record
abbrev pub one_change : View → ℕ → Record → Change
one_change view me next =
    record { records = next ∷ []; removed = []; front = raised view.front me; purges = view.purges }

-- what it changes if it changes two records, of which the first is put in its place first
abbrev pub two_changes : View → ℕ → (first second : Record) → Change
two_changes view me first second =
    record { records = first ∷ second ∷ []; removed = []; front = raised view.front me; purges = view.purges }

-- Among the LRAs of the root's home of which the view has a record, the list has exactly those
-- under the root. All ids in it are of that home
pub record IsRemoval (S : List Fact) (view : View) (root : Id) (removed : List Id) : Type 0 where
  pub homes : (l : Id) → In l removed → l.home ≡ root.home
  pub only : (l : Id) (r : Record) → l.home ≡ root.home → record_at view l ≡ Some r → In l removed → is_under S root l ≡ true
  pub all : (l : Id) (r : Record) → l.home ≡ root.home → record_at view l ≡ Some r → is_under S root l ≡ true → In l removed

-- what a node's purge changes if it removes these LRAs; it also becomes the node's last purge
abbrev pub purge_change : View → ℕ → List Id → Change
purge_change view me removed =
    record { records = []; removed = removed; front = raised view.front me; purges = slice_set view.purges (me - 1) (count view.front me + 1) }

-- the record of an LRA that a node begins with its next fact
abbrev pub fresh_record : List ℕ → ℕ → Option Place → ℕ → Record
fresh_record v me parent deadline = begun_record (length v) me (count v me + 1) parent deadline

-- the record stamped with this number of a node
abbrev pub with_stamp : ℕ → ℕ → Record → Record
with_stamp node num r = record r { stamps = stamped node num r.stamps }

-- What a patch does. If the command is accepted, the patched view stands for the set with exactly
-- the command's fact added. There is no patch if the command was already known.
abbrev pub AddsFact : List Fact → View → ℕ → Command → Option Change → Type 0
AddsFact S view me c None = judge S view.front me c ≡ AlreadyKnown
AddsFact S view me c (Some change) =
    (judge S view.front me c ≡ Accepted)
    × (change.front ≡ raised view.front me)
    × ((T : List Fact) → IsMore (next_fact S view.front me c) S T → StandsFor T (patched change view))
