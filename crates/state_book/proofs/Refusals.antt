-- The refusals that a clerk makes itself.
use Rattle.std.proofs.Common.{◌≡◌, inl, inr, ℕ, List, Bool, true, false, Option, Some, None, [], ◌∷◌, subst}
use Rattle.std.specs.Prelude.{nat_le, length}
use mathlib.Core.Bool.{not}
use Rattle.state_facts.specs.declared.refusal.Refusal.{Refusal}
use Rattle.state_facts.specs.declared.refusal.Refusal.TheVariants.{JournalFailed, NoMemory, RunFull, Stopped, TrailLost}
use Rattle.state_facts.specs.Refusals.{first, unless}
use Rattle.state_book.specs.declared.calls.Call.{Call}
use Rattle.state_book.specs.declared.calls.Receipt.{Receipt}
use Rattle.state_book.specs.Books.{BookState, IsNotEntered, IsRefusedLate, has_room_for, refusal_at_once}
use Rattle.state_book.specs.Clerks.{IsOfClerk}
use Rattle.state_book.specs.Looks.{IsRefusedAt, look_of, lost, lost_from}

the_same : (r q : Refusal) → IsOfClerk q → Some q ≡ Some r → IsOfClerk r
the_same r q of e = subst IsOfClerk (let same : q ≡ r = cc in same) of

pub look_of_clerk : {S : Type 0} (book : BookState S) (seen : ℕ) (rs : List Receipt) (r : Refusal) → look_of book seen rs ≡ Some r → IsOfClerk r
look_of_clerk book seen rs r is = by (not book.stopped) (nat_le seen (length book.trail)) (lost_from book.trail None rs) is
  where
    by : (p q : Bool) (o : Option ℕ) → first (unless p Stopped ∷ unless q (TrailLost (length book.trail)) ∷ lost o ∷ []) ≡ Some r → IsOfClerk r
    by false q o is = the_same r Stopped tt is
    by true false o is = the_same r (TrailLost (length book.trail)) tt is
    by true true (Some n) is = the_same r (TrailLost n) tt is
    by true true None is = absurd cc

at_once_of_clerk : {S : Type 0} (book : BookState S) (seen : ℕ) (asked : Call) (r : Refusal) → refusal_at_once book seen asked ≡ Some r → IsOfClerk r
at_once_of_clerk book seen asked r is = by (not book.stopped) (nat_le seen (length book.trail)) (has_room_for book.trail asked) is
  where
    by : (p q s : Bool) → first (unless p Stopped ∷ unless q (TrailLost (length book.trail)) ∷ unless s RunFull ∷ []) ≡ Some r → IsOfClerk r
    by false q s is = the_same r Stopped tt is
    by true false s is = the_same r (TrailLost (length book.trail)) tt is
    by true true false is = the_same r RunFull tt is
    by true true true is = absurd cc

late_of_clerk : {S : Type 0} (old new : BookState S) (r : Refusal) → IsRefusedLate old new r → IsOfClerk r
late_of_clerk old new NoMemory late = tt
late_of_clerk old new JournalFailed late = tt
late_of_clerk old new _ late = absurd late

pub book_of_clerk : {S : Type 0} (old : BookState S) (seen : ℕ) (new : BookState S) (asked : Call) (r : Refusal) → IsNotEntered old seen new asked r → IsOfClerk r
book_of_clerk old seen new asked r (inl once) = at_once_of_clerk old seen asked r once.0
book_of_clerk old seen new asked r (inr late) = late_of_clerk old new r late.1

pub refused_of_clerk : {S : Type 0} (old : BookState S) (seen : ℕ) (rs : List Receipt) (new : BookState S) (asked : Call) (r : Refusal) → IsRefusedAt old seen rs new asked r → IsOfClerk r
refused_of_clerk old seen rs new asked r (inl found) = look_of_clerk old seen rs r found.0
refused_of_clerk old seen rs new asked r (inr refused) = book_of_clerk old seen new asked r refused.1
