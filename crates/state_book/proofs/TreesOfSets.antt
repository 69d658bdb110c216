-- What a view shows of trees is what its set shows.
use Rattle.std.proofs.Common.{◌≡◌, ◌∙◌, Bool, true, false, List, [], ◌∷◌, Option, Some, None, Ok, Err, refl, sym, ap, is_some, length}
use Rattle.std.specs.Option.{option_map_or}
use Rattle.state_ids.specs.Ids.{Id}
use Rattle.state_ids.specs.States.{same_member_status, shown}
use Rattle.state_ids.specs.declared.status.LraStatus.TheVariants.{Active}
use Rattle.state_ids.specs.declared.status.MemberStatus.TheVariants.{FailedToComplete, FailedToCompensate}
use Rattle.state_facts.specs.declared.fact.Fact.{Fact}
use Rattle.state_facts.specs.declared.refusal.Refusal.{Refusal}
use Rattle.state_facts.specs.declared.refusal.Refusal.TheVariants.{NotHeld}
use Rattle.state_facts.specs.Refusals.{first, unknown, unless}
use Rattle.state_facts.specs.Sets.{is_held}
use Rattle.state_forest.specs.declared.forest.TheConstants.{MAX_DEPTH}
use Rattle.state_forest.specs.declared.record.Record.{Record}
use Rattle.state_forest.specs.Said.{is_ended_at, some_shows_at, wanted_by}
use Rattle.state_forest.specs.Standing.{answered}
use Rattle.state_forest.specs.Trees.{tree_shows, tree_status}
use Rattle.state_forest.proofs.RecordsSayTheSet.{tree_said, up_none}
use Rattle.theory_history.specs.Growth.{IsSettled}
use Rattle.theory_history.specs.Readings.{at_home}
use Rattle.theory_history.specs.Views.{StandsFor, View, record_at, records_at}
use Rattle.theory_history.proofs.Covered.{nested_settled}
use Rattle.theory_history.proofs.SameReadings.{has_record, stands_at}
use Rattle.state_book.specs.Trees.{tree_on, tree_shown_of, tree_shown_on}

-- an LRA without a record is Active
none_active : (a : View) (l : Id) → record_at a l ≡ None → tree_on a l ≡ Active
none_active a l none =
    let at = at_home a l.home in
    let incomplete = some_shows_at (same_member_status FailedToComplete) at l.num in
    let uncompensated = some_shows_at (same_member_status FailedToCompensate) at l.num in
    ap (λ (rs : List Record). tree_status (shown (wanted_by rs) (is_ended_at at l.num) incomplete uncompensated) uncompensated) (up_none MAX_DEPTH at l.num none)

-- so an LRA that is refused is Active
pub refused_active : (a : View) (l : Id) (refusal : Refusal) → Err refusal ≡ answered (is_some (record_at a l)) (tree_on a l) → Active ≡ tree_on a l
refused_active a l refusal is = by (record_at a l) refl is
  where
    by : (o : Option Record) → record_at a l ≡ o → Err refusal ≡ answered (is_some o) (tree_on a l) → Active ≡ tree_on a l
    by None none e = sym (none_active a l none)
    by (Some r) some e = absurd cc

-- the tree that an LRA shows is the set's, if it is held
pub tree_alike : (S : List Fact) (a : View) (l : Id) → IsSettled S → StandsFor S a → is_held S l ≡ true → tree_on a l ≡ tree_shows S l
tree_alike S a l settled stands held =
    tree_said (length a.front) S (records_at a.records l.home) l settled.whole (nested_settled S settled) (stands_at S a l stands held) held

pub tree_settled : (S : List Fact) (a : View) (l : Id) → IsSettled S → StandsFor S a → tree_shown_on a l ≡ tree_shown_of S a.front l
tree_settled S a l settled stands =
    ap (λ (b : Bool). option_map_or (λ r. Err r) (first (unknown a.front l ∷ unless b NotHeld ∷ [])) (Ok (tree_on a l))) (has_record S a l stands)
    ∙ by (unknown a.front l) (is_held S l) (tree_alike S a l settled stands)
  where
    by : (o : Option Refusal) (b : Bool) → (b ≡ true → tree_on a l ≡ tree_shows S l) → option_map_or (λ r. Err r) (first (o ∷ unless b NotHeld ∷ [])) (Ok (tree_on a l)) ≡ option_map_or (λ r. Err r) (first (o ∷ unless b NotHeld ∷ [])) (Ok (tree_shows S l))
    by (Some r) b same = refl
    by None true same = ap (λ s. Ok s) (same refl)
    by None false same = refl
