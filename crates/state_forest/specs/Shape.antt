-- The shape of a home's records: what records of a lawful history satisfy, whatever they say of
-- their LRAs.
use Rattle.std.specs.Prelude.{◌≡◌, ◌≤◌, ◌&&◌, ℕ, zero, suc, Bool, true, false, Option, Some, List, find, is_none, is_some, length}
use mathlib.Core.Bool.{not}
use Rattle.std.specs.List.{list_any}
use Rattle.std.specs.Option.{option_map_or}
use Rattle.state_ids.specs.Fronts.{IsBelow}
use Rattle.state_facts.specs.Lists.{In}
use Rattle.state_forest.specs.declared.forest.TheConstants.{MAX_DEPTH}
use Rattle.state_forest.specs.declared.shape.TheConstants.{MAX_HELD}
use Rattle.state_forest.specs.declared.record.Member.TheVariants.{Nested}
use Rattle.state_forest.specs.declared.record.Place.{Place}
use Rattle.state_forest.specs.declared.record.Record.{Record}
use Rattle.state_forest.specs.declared.merging.Changes.{Changes}
use Rattle.state_forest.specs.Forests.{HomeRecords, is_of}
use Rattle.state_forest.specs.RecordMerges.{changed_by}
use Rattle.state_forest.specs.MembersByNumber.{numbered}

-- the record of the LRA that the home began with its fact of this number
abbrev pub found_at : (home : ℕ) → List Record → (num : ℕ) → Option Record
found_at home records num = find (is_of (record { home = home; num = num })) records

-- following the parents that the records name from an LRA up, a root is found within this many
-- LRAs, counting the LRA itself
abbrev pub is_shallow : (levels home : ℕ) → List Record → (num : ℕ) → Bool
is_shallow zero home records num = false
is_shallow (suc levels) home records num =
    option_map_or (λ (r : Record). option_map_or (λ (p : Place). is_shallow levels home records p.number) r.parent true)
    (found_at home records num) false

-- there is a record of the parent, and its member at the place is the LRA with this number
pub record IsNestedAt (home : ℕ) (records : List Record) (num : ℕ) (place : Place) : Type 0 where
  pub parent : Record
  pub found : found_at home records place.number ≡ Some parent
  pub member : numbered parent.members place.slot ≡ Some (Nested num)

-- The record r of the LRA with this number is in place among the records. They have a record of its
-- parent, if it names one, with the LRA as the member there, and a record of each LRA that is
-- nested in it. It is no deeper than 8, and no stamp is beyond the front
pub record IsInPlace (front : List ℕ) (home : ℕ) (records : List Record) (num : ℕ) (r : Record) : Type 0 where
  pub parent : (place : Place) → r.parent ≡ Some place → IsNestedAt home records num place
  pub nested : (child : ℕ) → In (Nested child) r.members → is_some (found_at home records child) ≡ true
  pub shallow : is_shallow MAX_DEPTH home records num ≡ true
  pub stamps : IsBelow r.stamps front

-- the record of the LRA with this number, if there is one, is in place
abbrev pub IsInPlaceAt : (front : List ℕ) (home : ℕ) (records : List Record) (num : ℕ) → Type 0
IsInPlaceAt front home records num = (r : Record) → found_at home records num ≡ Some r → IsInPlace front home records num r

-- there are at most 256 records, and each is in place
pub record AreInShape (front : List ℕ) (home : ℕ) (records : List Record) : Type 0 where
  pub few : length records ≤ MAX_HELD
  pub in_place : (num : ℕ) → IsInPlaceAt front home records num

-- the records of a home after the changes
abbrev pub records_after : Changes → HomeRecords → List Record
records_after changes own = changed_by changes.removed.items changes.records.records own.records

-- the changes leave this record unchanged: they have none with its number, and don't remove it
abbrev pub is_untouched : Changes → Record → Bool
is_untouched changes r = is_none (found_at changes.records.home changes.records.records r.num) && not (list_any (λ l. is_of l r) changes.removed.items)
