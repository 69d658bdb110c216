-- Receipts that stand in a trail.
use Rattle.std.proofs.Common.{◌≡◌, ◌≢◌, ◌++◌, ◌∷◌, ◌∙◌, ℕ, zero, suc, List, [], length, Bool, true, false, Some, None, Option, if◌then◌else◌, refl, ap, subst}
use Rattle.std.specs.Prelude.{IfSome, nat_le, slice_get}
use mathlib.Core.Bool.{not}
use Rattle.state_facts.specs.declared.refusal.Refusal.TheVariants.{Stopped, TrailLost}
use Rattle.state_facts.specs.Refusals.{first, unless}
use Rattle.theory_history.specs.Views.{View}
use Rattle.state_book.specs.declared.calls.Call.{Call}
use Rattle.state_book.specs.declared.calls.Entry.{Entry}
use Rattle.state_book.specs.declared.calls.Receipt.{Receipt}
use Rattle.state_book.specs.Books.{BookState, IsEntered, IsLegal}
use Rattle.state_book.specs.Desks.{HasTrail, Opening}
use Rattle.state_book.specs.Looks.{lesser, look_of, lost, lost_from}
use Rattle.state_book.specs.Trails.{AllStand, LeadsTo, entry, is_told, stands}
use Rattle.state_book.proofs.SameAsItself.{call_own, reply_own}

pub slice_get-last : {X : Type 0} (t : List X) (e : X) → slice_get (t ++ e ∷ []) (length t) ≡ Some e
slice_get-last [] e = refl
slice_get-last (x ∷ t) e = slice_get-last t e

slice_get-front : (t : List Entry) (e x : Entry) (k : ℕ) → slice_get t k ≡ Some x → slice_get (t ++ e ∷ []) k ≡ Some x
slice_get-front [] e x k is = absurd cc
slice_get-front (y ∷ t) e x zero is = is
slice_get-front (y ∷ t) e x (suc k) is = slice_get-front t e x k is

told_front : (t : List Entry) (e : Entry) (r : Receipt) (o : Option Entry) → slice_get t r.index ≡ o → is_told o r ≡ true → stands (t ++ e ∷ []) r ≡ true
told_front t e r None is told = absurd cc
told_front t e r (Some x) is told = ap (λ o. is_told o r) (slice_get-front t e x r.index is) ∙ told

-- a receipt that stands in a trail still stands in it with one more entry
stands_front : (t : List Entry) (e : Entry) (r : Receipt) → stands t r ≡ true → stands (t ++ e ∷ []) r ≡ true
stands_front t e r told = told_front t e r (slice_get t r.index) refl told

-- the receipt of the last entry stands
stands_last : (t : List Entry) (e : Entry) (r : Receipt) → r.index ≡ length t → r.call ≡ e.call → r.reply ≡ e.reply → stands (t ++ e ∷ []) r ≡ true
stands_last t e r index call reply =
    ap (λ o. is_told o r) (ap (slice_get (t ++ e ∷ [])) index ∙ slice_get-last t e) ∙ rw (call, reply, call_own e.call, reply_own e.reply) refl

found_stays : (t : List Entry) (n : ℕ) (rs : List Receipt) → lost_from t (Some n) rs ≢ None
found_stays t n [] = λ (is : Some n ≡ None). absurd cc
found_stays t n (r ∷ rs) = by (stands t r) (λ k. found_stays t k rs)
  where
    by : (b : Bool) → ((k : ℕ) → lost_from t (Some k) rs ≢ None) → lost_from t (if b then Some n else Some (lesser r.index (Some n))) rs ≢ None
    by true rest is = rest n is
    by false rest is = rest (lesser r.index (Some n)) is

-- a look that finds nothing lost finds each receipt
all_stand : (t : List Entry) (rs : List Receipt) → lost_from t None rs ≡ None → AllStand t rs
all_stand t [] is = tt
all_stand t (r ∷ rs) is = by (stands t r) refl (all_stand t rs) is
  where
    by : (b : Bool) → stands t r ≡ b → (lost_from t None rs ≡ None → AllStand t rs) → lost_from t (if b then None else Some (lesser r.index None)) rs ≡ None → (stands t r ≡ true) × AllStand t rs
    by true so rest none = (so, rest none)
    by false so rest none = absurd (found_stays t r.index rs none)

all_stand-push : (t : List Entry) (e : Entry) (rs : List Receipt) (r : Receipt) → AllStand t rs → stands (t ++ e ∷ []) r ≡ true → AllStand (t ++ e ∷ []) (rs ++ r ∷ [])
all_stand-push t e [] r all last = (last, tt)
all_stand-push t e (x ∷ rs) r all last = (stands_front t e x all.0, all_stand-push t e rs r all.1 last)

-- what a look that answered Ok has found
looked : {S : Type 0} (b : BookState S) (seen : ℕ) (rs : List Receipt) → look_of b seen rs ≡ None → AllStand b.trail rs
looked b seen rs is = by (not b.stopped) (nat_le seen (length b.trail)) (lost_from b.trail None rs) (all_stand b.trail rs) is
  where
    by : (p q : Bool) (o : Option ℕ) → (o ≡ None → AllStand b.trail rs) → first (unless p Stopped ∷ unless q (TrailLost (length b.trail)) ∷ lost o ∷ []) ≡ None → AllStand b.trail rs
    by false q o all is = absurd cc
    by true false o all is = absurd cc
    by true true (Some n) all is = absurd cc
    by true true None all is = all refl

begun_at : (opening : Option View) (v : View) (P : View → Type 0) → opening ≡ Some v → IfSome opening P → P v
begun_at None v P is legal = absurd cc
begun_at (Some w) v P is legal = subst P (let same : w ≡ v = cc in same) legal

-- After a look that finds all, a call leaves a trail that has each receipt and ends with the call
pub has_trail : {S : Type 0} (opening : Opening) (old new : BookState S) (seen : ℕ) (rs : List Receipt) (call : Call) (now : ℕ) (r : Receipt) → old.opening ≡ Some opening.view → old.me ≡ opening.node
    → look_of old seen rs ≡ None → IsEntered old seen new call now r → IsLegal new → HasTrail opening (rs ++ r ∷ []) call now r
has_trail opening old new seen rs call now r begun node look is legal =
    let e = entry call now r.reply in
    let leads : LeadsTo new.me opening.view new.trail new.records = begun_at new.opening opening.view (λ v. LeadsTo new.me v new.trail new.records) (is.opening ∙ begun) legal in
    let here : LeadsTo opening.node opening.view new.trail new.records = subst (λ (n : ℕ). LeadsTo n opening.view new.trail new.records) (is.node ∙ node) leads in
    record {
      before = old.trail;
      after = new.records;
      legal = subst (λ (t : List Entry). LeadsTo opening.node opening.view t new.records) is.trail here;
      index = is.index;
      call = is.call;
      stand = all_stand-push old.trail e rs r (looked old seen rs look) (stands_last old.trail e r is.index is.call refl);
    }
