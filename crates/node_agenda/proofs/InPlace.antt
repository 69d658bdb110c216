-- What waits at a node's place came from that node.
use Rattle.std.proofs.Common.{◌≡◌, ◌≤◌, ◌-◌, ◌∙◌, ℕ, Bool, true, false, Option, None, Some, ap, arith, get_or, if◌then◌else◌, inl, inr, refl, subst, suc, sym, zero}
use Rattle.std.specs.Prelude.{replicate}
use Rattle.std.specs.declared.time.Duration.{Duration}
use Rattle.std.proofs.lemmas.Bool.{cases_eq}
use Rattle.std.proofs.lemmas.List.{get_or-set_other, get_or-set_same, length-set}
use Rattle.node_inbox.specs.Tellings.{Told}
use Rattle.node_agenda.specs.Backlogs.{AreInPlace, HasPlaces, IsFrom, IsKept, IsTaken, after_end, after_put, has_as_many, has_more, no_backlog, own_of, settled, waiting_of, waiting_with}
use Rattle.node_agenda.specs.declared.backlog.Backlog.{Backlog}
use Rattle.node_agenda.specs.declared.backlog.Taking.{Taking}

-- nothing waits at first
none_at : (n k : ℕ) → ◌≡◌ {A = Option Told} (get_or (replicate n None) k None) None
none_at zero k = refl
none_at (suc n) zero = refl
none_at (suc n) (suc k) = none_at n k

pub none_waits : (me : ℕ) → AreInPlace (no_backlog me)
none_waits me node least most = subst (IsFrom node) (sym (none_at 8 (node - 1))) tt

-- after something was put at a node's place that came from it
put_in : (at : ℕ) (waiting : Option Told) (b : Backlog) → HasPlaces b → 1 ≤ at → at ≤ 8 → IsFrom at waiting → AreInPlace b → HasPlaces (waiting_with at waiting b) × AreInPlace (waiting_with at waiting b)
put_in at waiting b places least most is all = (
  length-set b.waiting (at - 1) waiting ∙ places,
  λ node some one.
      elim (cases_eq node at) [
        | inl here ↦ subst (λ (n : ℕ). IsFrom n (waiting_of n (waiting_with at waiting b))) (sym here)
            (subst (IsFrom at) (sym (get_or-set_same b.waiting (at - 1) waiting None (omega (arith, places, least, most)))) is)
        | inr apart ↦ subst (IsFrom node) (sym (get_or-set_other b.waiting (at - 1) (node - 1) waiting None (λ e. apart (omega (arith, e, some, least))))) (all node some one)
      ],
)

put_if : (more : Bool) (told : Told) (b : Backlog) → HasPlaces b → 1 ≤ told.from → told.from ≤ 8 → AreInPlace b
    → HasPlaces (if more then b else waiting_with told.from (Some told) b) × AreInPlace (if more then b else waiting_with told.from (Some told) b)
put_if true told b places least most all = (places, all)
put_if false told b places least most all = put_in told.from (Some told) b places least most refl all

pub after_some_put : (told : Told) (b : Backlog) → HasPlaces b → 1 ≤ told.from → told.from ≤ 8 → AreInPlace b → HasPlaces (after_put told b) × AreInPlace (after_put told b)
after_some_put told b places least most all = put_if (has_more (waiting_of told.from b) told) told b places least most all

-- after one was taken out, which came from that node
pub after_some_take : (now : Duration) (old new : Backlog) (told : Told) → HasPlaces old → AreInPlace old → IsTaken now old new told
    → HasPlaces new × AreInPlace new × (new.taking ≡ Some (record { from = told.from; own = own_of told }))
after_some_take now old new told places all t =
    let left = put_in t.node None old places t.first.some t.first.one tt all in
    let came : told.from ≡ t.node = subst (IsFrom t.node) t.waits (all t.node t.first.some t.first.one) in (
      subst HasPlaces (sym t.rest) left.0,
      subst AreInPlace (sym t.rest) left.1,
      ap (λ (b : Backlog). b.taking) t.rest ∙ ap (λ (n : ℕ). Some (record { from = n; own = own_of told })) (sym came),
    )

-- the end of a taking changes nothing that waits
ended : (taking : Option Taking) (has_failed : Bool) (b : Backlog) → HasPlaces b → AreInPlace b → HasPlaces (settled taking has_failed b) × AreInPlace (settled taking has_failed b)
ended None has_failed b places all = (places, all)
ended (Some taking) has_failed b places all = (places, all)

pub after_some_end : (is_taken : Bool) (b : Backlog) → HasPlaces b → AreInPlace b → HasPlaces (after_end is_taken b) × AreInPlace (after_end is_taken b)
after_some_end true b places all = ended b.taking false b places all
after_some_end false b places all = ended b.taking false b places all

pub after_some_keep : (now : Duration) (told : Told) (old new : Backlog) → HasPlaces old → 1 ≤ told.from → told.from ≤ 8 → AreInPlace old → IsKept now told old new → HasPlaces new × AreInPlace new
after_some_keep now told old new places least most all k =
    let b = settled old.taking true old in
    let before = ended old.taking true old places all in
    let back = put_if (has_as_many (waiting_of told.from b) told) told b before.0 least most before.1 in
    (subst HasPlaces (sym k.rest) back.0, subst AreInPlace (sym k.rest) back.1)
