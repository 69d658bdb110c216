-- What one home tells that is news to another replica.
use Rattle.std.specs.Prelude.{◌≡◌, ℕ, Some, map}
use Rattle.state_forest.specs.declared.merging.Told.{Told}
use Rattle.state_forest.specs.declared.record.Record.{Record}
use Rattle.state_forest.specs.Forests.{AreOf, HomeRecords}
use Rattle.state_forest.specs.OnlyChanges.{IsTold}
use Rattle.state_forest.specs.RecordMerges.{held_numbers}
use Rattle.state_forest.specs.Shape.{found_at}
use Rattle.theory_history.specs.Views.{View, records_at}

-- of each LRA its record, unless that changes nothing in a, and the numbers of all LRAs; the home's
-- records are in order
abbrev pub IsToldBy : View → HomeRecords → Told → Type 0
IsToldBy a home told =
    (told.records.home ≡ home.home)
    × ((num : ℕ) → IsTold (found_at home.home (records_at a.records home.home) num) (found_at home.home home.records num) (found_at home.home told.records.records num))
    × (held_numbers told.held ≡ Some (map (λ (r : Record). r.num) home.records))
    × AreOf home.home home.records
