-- paths of the diagram, given the ranks of their ends
use Rattle.std.proofs.Common.{◌≡◌, ◌⊎◌, inl, inr, ◌≤◌, ◌&&◌, ◌||◌, List, [], ◌∷◌, refl, Bool, true, false, arith}
use Rattle.state_ids.specs.States.{rank}
use Rattle.state_ids.specs.declared.status.LraStatus.{LraStatus}
use Rattle.state_ids.specs.declared.status.LraStatus.TheVariants.{Active, Cancelled, Cancelling, Closed, Closing, FailedToCancel, FailedToClose}
use Rattle.state_forest.proofs.Bools.{and_left, and_right, or_cases}
use Rattle.theory_progress.specs.Diagram.{IsPath, LeadsBy, are_parted, is_edge, is_own_edge, is_to_cancel, is_to_close}

abbrev Own : LraStatus → LraStatus → Type 0
Own a b = IsPath is_own_edge a b

here : (a : LraStatus) → Own a a
here a = ([], refl)

by : (a c b : LraStatus) → is_own_edge a c ≡ true → Own c b → Own a b
by a c b e path = (c ∷ path.0, (e, path.1))

-- paths of one edge and of two
once : (a b : LraStatus) → is_own_edge a b ≡ true → Own a b
once a b e = by a b b e (here b)

twice : (a c b : LraStatus) → is_own_edge a c ≡ true → is_own_edge c b ≡ true → Own a b
twice a c b e f = by a c b e (once c b f)

-- a path on one branch
pub own_path : (a b : LraStatus) → rank a ≤ rank b → are_parted a b ≡ false → IsPath is_own_edge a b
own_path Active Active le e = here Active
own_path Active Closing le e = once Active Closing refl
own_path Active Closed le e = twice Active Closing Closed refl refl
own_path Active FailedToClose le e = twice Active Closing FailedToClose refl refl
own_path Active Cancelling le e = once Active Cancelling refl
own_path Active Cancelled le e = twice Active Cancelling Cancelled refl refl
own_path Active FailedToCancel le e = twice Active Cancelling FailedToCancel refl refl
own_path Closing Closing le e = here Closing
own_path Closing Closed le e = once Closing Closed refl
own_path Closing FailedToClose le e = once Closing FailedToClose refl
own_path Closed Closed le e = here Closed
own_path Closed FailedToClose le e = once Closed FailedToClose refl
own_path FailedToClose FailedToClose le e = here FailedToClose
own_path Cancelling Cancelling le e = here Cancelling
own_path Cancelling Cancelled le e = once Cancelling Cancelled refl
own_path Cancelling FailedToCancel le e = once Cancelling FailedToCancel refl
own_path Cancelled Cancelled le e = here Cancelled
own_path Cancelled FailedToCancel le e = once Cancelled FailedToCancel refl
own_path FailedToCancel FailedToCancel le e = here FailedToCancel
own_path a b le e = absurd (first_of (cc, omega (arith, le)))

-- an edge on one branch is an edge
widen : (a b : LraStatus) (steps : List LraStatus) → LeadsBy is_own_edge a steps b → LeadsBy is_edge a steps b
widen a b [] e = e
widen a b (c ∷ steps) e = (left (is_own_edge a c) _ e.0, widen c b steps e.1)
  where
    left : (x y : Bool) → x ≡ true → (x || y) ≡ true
    left true y s = refl
    left false y s = absurd cc

-- a path from one branch to the other

above_edge : (a : LraStatus) → is_to_close a ≡ true → is_edge a Cancelling ≡ true
above_edge Closing e = refl
above_edge Closed e = refl
above_edge FailedToClose e = refl
above_edge a e = absurd cc

cancel_path : (b : LraStatus) → is_to_cancel b ≡ true → Own Cancelling b
cancel_path Cancelling e = here Cancelling
cancel_path Cancelled e = once Cancelling Cancelled refl
cancel_path FailedToCancel e = once Cancelling FailedToCancel refl
cancel_path b e = absurd cc

-- there is no way back
never_back : (a b : LraStatus) → is_to_cancel a ≡ true → is_to_close b ≡ true → rank a ≤ rank b → ⊥
never_back a b e f le = omega (arith, low b f, high a e, le)
  where
    low : (x : LraStatus) → is_to_close x ≡ true → rank x ≤ 3
    low Closing s = omega arith
    low Closed s = omega arith
    low FailedToClose s = omega arith
    low x s = absurd cc

    high : (x : LraStatus) → is_to_cancel x ≡ true → 4 ≤ rank x
    high Cancelling s = omega arith
    high Cancelled s = omega arith
    high FailedToCancel s = omega arith
    high x s = absurd cc

pub parted_so : (a b : LraStatus) → are_parted a b ≡ true → ((is_to_close a ≡ true) × (is_to_cancel b ≡ true)) ⊎ ((is_to_cancel a ≡ true) × (is_to_close b ≡ true))
parted_so a b e = elim (or_cases (is_to_close a && is_to_cancel b) (is_to_cancel a && is_to_close b) e) [
  | inl one ↦ inl (and_left (is_to_close a) _ one, and_right (is_to_close a) _ one)
  | inr other ↦ inr (and_left (is_to_cancel a) _ other, and_right (is_to_cancel a) _ other)
]

pub rises_so : (a b : LraStatus) → rank a ≤ rank b → are_parted a b ≡ true → (is_to_close a ≡ true) × (is_to_cancel b ≡ true)
rises_so a b le e = elim (parted_so a b e) [
  | inl so ↦ so
  | inr back ↦ absurd (never_back a b back.0 back.1 le)
]

pub any_path : (a b : LraStatus) → rank a ≤ rank b → IsPath is_edge a b
any_path a b le = branch (are_parted a b) refl
  where
    branch : (p : Bool) → are_parted a b ≡ p → IsPath is_edge a b
    branch false e = let path = own_path a b le e in (path.0, widen a b path.0 path.1)
    branch true e =
        let so = rises_so a b le e in
        let path = cancel_path b so.1 in
        (Cancelling ∷ path.0, (above_edge a so.0, widen Cancelling b path.0 path.1))
