-- If a trail is said to be lost, it is lost at a place that the pass has seen.
use Rattle.std.proofs.Common.{◌≡◌, ◌<◌, ◌≤◌, ◌+◌, ◌++◌, ℕ, Bool, true, false, List, [], ◌∷◌, Option, Some, None, if◌then◌else◌, length, refl, subst, arith}
use Rattle.std.proofs.lemmas.Bool.Decides.{nat_tests}
use Rattle.std.specs.Prelude.{nat_le, nat_lt}
use mathlib.Core.Bool.{not}
use Rattle.state_facts.specs.declared.refusal.Refusal.{Refusal}
use Rattle.state_facts.specs.declared.refusal.Refusal.TheVariants.{RunFull, Stopped, TrailLost}
use Rattle.state_facts.specs.Refusals.{first, unless}
use Rattle.state_book.specs.declared.calls.Call.{Call}
use Rattle.state_book.specs.declared.calls.Entry.{Entry}
use Rattle.state_book.specs.declared.calls.Receipt.{Receipt}
use Rattle.state_book.specs.Books.{BookState, has_room_for, refusal_at_once}
use Rattle.state_book.specs.Desks.{AreSeen, IsLostBelow}
use Rattle.state_book.specs.Looks.{lesser, look_of, lost, lost_from}
use Rattle.state_book.specs.Trails.{stands}

-- What a pass has seen

seen_more : (seen more : ℕ) (rs : List Receipt) → seen ≤ more → AreSeen seen rs → AreSeen more rs
seen_more seen more [] less are = tt
seen_more seen more (r ∷ rs) less are = (omega (arith, less, are.0), seen_more seen more rs less are.1)

seen_put : (more : ℕ) (rs : List Receipt) (r : Receipt) → AreSeen more rs → r.index < more → AreSeen more (rs ++ r ∷ [])
seen_put more [] r are last = (last, tt)
seen_put more (x ∷ rs) r are last = (are.0, seen_put more rs r are.1 last)

pub seen_one_more : (seen more : ℕ) (rs : List Receipt) (r : Receipt) → AreSeen seen rs → seen ≤ r.index → more ≡ r.index + 1 → AreSeen more (rs ++ r ∷ [])
seen_one_more seen more rs r are before after = seen_put more rs r (seen_more seen more rs (omega (arith, before, after)) are) (omega (arith, after))

-- A look

abbrev IsBelow : (seen : ℕ) → Option ℕ → Type 0
IsBelow seen None = Unit {0}
IsBelow seen (Some n) = n < seen

lesser_below : (seen n : ℕ) (found : Option ℕ) → n < seen → IsBelow seen found → lesser n found < seen
lesser_below seen n None low below = low
lesser_below seen n (Some k) low below = by (nat_lt n k)
  where
    by : (b : Bool) → (if b then n else k) < seen
    by true = low
    by false = below

lost_below : (seen : ℕ) (t : List Entry) (found : Option ℕ) (rs : List Receipt) → AreSeen seen rs → IsBelow seen found → IsBelow seen (lost_from t found rs)
lost_below seen t found [] are below = below
lost_below seen t found (r ∷ rs) are below =
    by (stands t r) (lost_below seen t found rs are.1 below) (lost_below seen t (Some (lesser r.index found)) rs are.1 (lesser_below seen r.index found are.0 below))
  where
    by : (b : Bool) → IsBelow seen (lost_from t found rs) → IsBelow seen (lost_from t (Some (lesser r.index found)) rs)
        → IsBelow seen (lost_from t (if b then found else Some (lesser r.index found)) rs)
    by true here later = here
    by false here later = later

the_same : (seen : ℕ) (r q : Refusal) → IsLostBelow seen q → Some q ≡ Some r → IsLostBelow seen r
the_same seen r q is e = subst (IsLostBelow seen) (let same : q ≡ r = cc in same) is

short : (seen n : ℕ) → nat_le seen n ≡ false → n < seen
short seen n e = grind (arith, nat_tests, e)

pub look_lost : {S : Type 0} (book : BookState S) (seen : ℕ) (rs : List Receipt) (r : Refusal) → AreSeen seen rs → look_of book seen rs ≡ Some r → IsLostBelow seen r
look_lost book seen rs r are is = by (not book.stopped) (nat_le seen (length book.trail)) refl (lost_from book.trail None rs) (lost_below seen book.trail None rs are tt) is
  where
    by : (p q : Bool) → nat_le seen (length book.trail) ≡ q → (o : Option ℕ) → IsBelow seen o → first (unless p Stopped ∷ unless q (TrailLost (length book.trail)) ∷ lost o ∷ []) ≡ Some r → IsLostBelow seen r
    by false q e o below is = the_same seen r Stopped tt is
    by true false e o below is = the_same seen r (TrailLost (length book.trail)) (short seen (length book.trail) e) is
    by true true e (Some n) below is = the_same seen r (TrailLost n) below is
    by true true e None below is = absurd cc

pub at_once_lost : {S : Type 0} (book : BookState S) (seen : ℕ) (asked : Call) (r : Refusal) → refusal_at_once book seen asked ≡ Some r → IsLostBelow seen r
at_once_lost book seen asked r is = by (not book.stopped) (nat_le seen (length book.trail)) refl (has_room_for book.trail asked) is
  where
    by : (p q : Bool) → nat_le seen (length book.trail) ≡ q → (s : Bool) → first (unless p Stopped ∷ unless q (TrailLost (length book.trail)) ∷ unless s RunFull ∷ []) ≡ Some r → IsLostBelow seen r
    by false q e s is = the_same seen r Stopped tt is
    by true false e s is = the_same seen r (TrailLost (length book.trail)) (short seen (length book.trail) e) is
    by true true e false is = the_same seen r RunFull tt is
    by true true e true is = absurd cc
