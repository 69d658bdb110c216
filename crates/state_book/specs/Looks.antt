-- What a look at the trail finds.
use Rattle.std.specs.Prelude.{◌≡◌, ◌⊎◌, ◌∷◌, ℕ, Option, Some, None, List, [], if◌then◌else◌, length, nat_le, nat_lt}
use mathlib.Core.Bool.{not}
use Rattle.state_facts.specs.declared.refusal.Refusal.{Refusal}
use Rattle.state_facts.specs.declared.refusal.Refusal.TheVariants.{Stopped, TrailLost}
use Rattle.state_facts.specs.Refusals.{first, unless}
use Rattle.state_book.specs.declared.calls.Call.{Call}
use Rattle.state_book.specs.declared.calls.Entry.{Entry}
use Rattle.state_book.specs.declared.calls.Receipt.{Receipt}
use Rattle.state_book.specs.Books.{BookState, IsNotEntered}
use Rattle.state_book.specs.Trails.{stands}

-- the lesser of a number and the one found so far
abbrev pub lesser : ℕ → Option ℕ → ℕ
lesser n None = n
lesser n (Some k) = if nat_lt n k then n else k

-- the least index of a receipt that doesn't stand in the trail, or the one found so far
abbrev pub lost_from : List Entry → (found : Option ℕ) → List Receipt → Option ℕ
lost_from trail found [] = found
lost_from trail found (r ∷ rs) = lost_from trail (if stands trail r then found else Some (lesser r.index found)) rs

abbrev pub lost : Option ℕ → Option Refusal
lost None = None
lost (Some n) = Some (TrailLost n)

-- the refusal that these receipts meet, for a pass that has seen this many entries
abbrev pub look_of : {S : Type 0} → BookState S → (seen : ℕ) → List Receipt → Option Refusal
look_of book seen receipts =
    first (unless (not book.stopped) Stopped ∷ unless (nat_le seen (length book.trail)) (TrailLost (length book.trail))
    ∷ lost (lost_from book.trail None receipts) ∷ [])

-- why a call at a desk is refused: because of what a look finds, and then nothing changes, or else
-- for the book's reason
abbrev pub IsRefusedAt : {S : Type 0} → (old : BookState S) → (seen : ℕ) → List Receipt → (new : BookState S) → Call → Refusal → Type 0
IsRefusedAt old seen receipts new asked refusal =
    ((look_of old seen receipts ≡ Some refusal) × (new ≡ old))
    ⊎ ((look_of old seen receipts ≡ None) × IsNotEntered old seen new asked refusal)
