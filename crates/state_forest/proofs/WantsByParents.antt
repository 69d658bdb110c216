-- what an LRA wants depends on its own decision and on what its parent wants
use Rattle.std.proofs.Common.{◌≡◌, ◌||◌, ℕ, List, refl, sym, ap, ◌∙◌, Bool, true, false, cond, Option, Some, None, find}
use Rattle.std.specs.List.{list_any, AllByRecursion}
use Rattle.state_ids.specs.Ids.{Id}
use Rattle.state_ids.specs.declared.outcome.Verdict.{Verdict}
use Rattle.state_ids.specs.declared.outcome.Verdict.TheVariants.{Close, Cancel}
use Rattle.state_facts.specs.declared.fact.Fact.{Fact}
use Rattle.state_facts.specs.Sets.{parent_of, chain, is_decided, is_held, want, NamesEarlier}
use Rattle.state_forest.specs.declared.record.Place.{Place}
use Rattle.state_forest.specs.declared.record.Record.{Record}
use Rattle.state_forest.specs.Forests.{is_of}
use Rattle.state_forest.specs.Standing.{IsWhole, Stands}
use Rattle.state_forest.specs.Records.{decision_of}
use Rattle.state_forest.specs.Wants.{over}
use Rattle.state_forest.proofs.ParentsAndChains.{chain_up, chain_root}
use Rattle.state_forest.proofs.RecordsOfASet.{found_is, found_parent, found_root}

pub over_none : (a : Option Verdict) → over a None ≡ a
over_none None = refl
over_none (Some Close) = refl
over_none (Some Cancel) = refl

pub over_over : (a b c : Option Verdict) → over (over a b) c ≡ over a (over b c)
over_over None b c = refl
over_over (Some Cancel) b c = refl
over_over (Some Close) None c = refl
over_over (Some Close) (Some Cancel) c = refl
over_over (Some Close) (Some Close) None = refl
over_over (Some Close) (Some Close) (Some Close) = refl
over_over (Some Close) (Some Close) (Some Cancel) = refl

wants_or : (a b c d : Bool) → cond (a || c) (Some Cancel) (cond (b || d) (Some Close) None) ≡ over (cond a (Some Cancel) (cond b (Some Close) None)) (cond c (Some Cancel) (cond d (Some Close) None))
wants_or true b c d = refl
wants_or false true true d = refl
wants_or false true false true = refl
wants_or false true false false = refl
wants_or false false true d = refl
wants_or false false false true = refl
wants_or false false false false = refl

pub want_up : (S : List Fact) → AllByRecursion NamesEarlier S → (l p : Id) → parent_of S l ≡ Some p → want S l ≡ over (decision_of S l) (want S p)
want_up S nested l p e =
    ap (λ ids. cond (list_any (is_decided S Cancel) ids) (Some Cancel) (cond (list_any (is_decided S Close) ids) (Some Close) None)) (chain_up S nested l p e)
    ∙ wants_or (is_decided S Cancel l) (is_decided S Close l) (list_any (is_decided S Cancel) (chain S p)) (list_any (is_decided S Close) (chain S p))

pub want_root : (S : List Fact) → AllByRecursion NamesEarlier S → (l : Id) → parent_of S l ≡ None → want S l ≡ decision_of S l
want_root S nested l e =
    ap (λ ids. cond (list_any (is_decided S Cancel) ids) (Some Cancel) (cond (list_any (is_decided S Close) ids) (Some Close) None)) (chain_root S nested l e)
    ∙ wants_or (is_decided S Cancel l) (is_decided S Close l) false false
    ∙ over_none (decision_of S l)

-- the same, by the record that was found
pub want_above : (nodes : ℕ) (S : List Fact) (records : List Record) (x : Id) (r : Record) (p : Place) → IsWhole S → Stands nodes x.home S records → is_held S x ≡ true → find (is_of x) records ≡ Some r → r.parent ≡ Some p → want S x ≡ over r.decision (want S (record { home = x.home; num = p.number }))
want_above nodes S records x r p whole stands held found e =
    let up = found_parent nodes S records x r p whole stands held found e in
    want_up S whole.nested x _ up
    ∙ ap (λ (y : Record). over y.decision (want S (record { home = x.home; num = p.number }))) (sym (found_is nodes S records x r stands held found))

pub want_alone : (nodes : ℕ) (S : List Fact) (records : List Record) (x : Id) (r : Record) → IsWhole S → Stands nodes x.home S records → is_held S x ≡ true → find (is_of x) records ≡ Some r → r.parent ≡ None → want S x ≡ r.decision
want_alone nodes S records x r whole stands held found e =
    want_root S whole.nested x (found_root nodes S records x r stands held found e)
    ∙ ap (λ (y : Record). y.decision) (sym (found_is nodes S records x r stands held found))
