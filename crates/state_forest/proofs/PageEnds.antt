-- the place of one more record that comes behind all others
use Rattle.std.proofs.Common.{◌≡◌, ◌<◌, ◌≤◌, ◌++◌, ℕ, zero, suc, List, [], ◌∷◌, refl, sym, ◌∙◌, ap, arith, drop, get_or, length, set}
use Rattle.std.proofs.lemmas.List.{append_assoc}
use Rattle.state_forest.specs.declared.record.Record.{Record}
use Rattle.state_forest.specs.Pages.{AreEmptyLast, IsLastSeat, records_in}
use Rattle.state_forest.proofs.PageEdits.{nil_right, nothing_last}
use Rattle.state_forest.proofs.PageOrder.{none_on}

-- The page that it goes to

pub seat_first : (ps : List (List Record)) → records_in ps ≡ [] → IsLastSeat 0 ps
seat_first [] none = tt
seat_first ([] ∷ ps) none = (omega arith, none)
seat_first ((r ∷ rs) ∷ ps) none = absurd cc

-- the page is the last one with records, if that has room
pub seat_on : (ps : List (List Record)) (k : ℕ) → AreEmptyLast ps → k < length ps → (get_or ps k [] ≡ [] → ⊥) → length (get_or ps k []) < 32 → records_in (drop (suc k) ps) ≡ [] → IsLastSeat k ps
seat_on [] k last less some room none = absurd (omega (arith, less))
seat_on ([] ∷ ps) zero last less some room none = absurd (some refl)
seat_on ((r ∷ rs) ∷ ps) zero last less some room none = (room, none)
seat_on ([] ∷ ps) (suc k) last less some room none = absurd (some (none_on ps k [] (omega (arith, less)) last))
seat_on ((r ∷ rs) ∷ ps) (suc k) last less some room none = seat_on ps k last (omega (arith, less)) some room none

-- otherwise it is the one behind it
pub seat_behind : (ps : List (List Record)) (k : ℕ) → AreEmptyLast ps → k < length ps → (get_or ps k [] ≡ [] → ⊥) → records_in (drop (suc k) ps) ≡ [] → IsLastSeat (suc k) ps
seat_behind [] k last less some none = absurd (omega (arith, less))
seat_behind ([] ∷ ps) zero last less some none = absurd (some refl)
seat_behind ((r ∷ rs) ∷ ps) zero last less some none = seat_first ps none
seat_behind ([] ∷ ps) (suc k) last less some none = absurd (some (none_on ps k [] (omega (arith, less)) last))
seat_behind ((r ∷ rs) ∷ ps) (suc k) last less some none = seat_behind ps k last (omega (arith, less)) some none

-- if there is no such page, the next one is added
pub seat_added : (ps : List (List Record)) (at : ℕ) → IsLastSeat at ps → length ps ≤ at → IsLastSeat at (ps ++ [] ∷ [])
seat_added [] zero seat beyond = (omega arith, refl)
seat_added [] (suc at) seat beyond = absurd seat
seat_added (p ∷ ps) zero seat beyond = absurd (omega (arith, beyond))
seat_added ([] ∷ ps) (suc at) seat beyond = absurd seat
seat_added ((r ∷ rs) ∷ ps) (suc at) seat beyond = seat_added ps at seat (omega (arith, beyond))

pub seat_within : (ps : List (List Record)) (at : ℕ) → IsLastSeat at ps → at ≤ length ps
seat_within [] zero seat = omega arith
seat_within [] (suc at) seat = absurd seat
seat_within (p ∷ ps) zero seat = omega arith
seat_within ([] ∷ ps) (suc at) seat = absurd seat
seat_within ((r ∷ rs) ∷ ps) (suc at) seat = omega (arith, seat_within ps at seat)

-- What follows after one more record is put there

pub seat_room : (ps : List (List Record)) (at : ℕ) (d : List Record) → IsLastSeat at ps → at < length ps → length (get_or ps at d) < 32
seat_room [] at d seat less = absurd (omega (arith, less))
seat_room (p ∷ ps) zero d seat less = seat.0
seat_room ([] ∷ ps) (suc at) d seat less = absurd seat
seat_room ((r ∷ rs) ∷ ps) (suc at) d seat less = seat_room ps at d seat (omega (arith, less))

pub pushed : (r : Record) (ps : List (List Record)) (at : ℕ) (p : List Record) → IsLastSeat at ps → at < length ps → p ≡ get_or ps at p → records_in (set ps at (p ++ r ∷ [])) ≡ records_in ps ++ r ∷ []
pushed r [] at p seat less is = absurd (omega (arith, less))
pushed r (q ∷ ps) zero p seat less is =
    ap (λ xs. (p ++ r ∷ []) ++ xs) seat.1 ∙ nil_right (p ++ r ∷ []) ∙ ap (λ xs. xs ++ r ∷ []) (is ∙ sym (nil_right q) ∙ ap (λ xs. q ++ xs) (sym seat.1))
pushed r ([] ∷ ps) (suc at) p seat less is = absurd seat
pushed r ((x ∷ q) ∷ ps) (suc at) p seat less is =
    ap (λ xs. (x ∷ q) ++ xs) (pushed r ps at p seat (omega (arith, less)) is) ∙ sym (append_assoc (x ∷ q) (records_in ps) (r ∷ []))

pub pushed_last : (ps : List (List Record)) (at : ℕ) (x : Record) (p : List Record) → IsLastSeat at ps → AreEmptyLast ps → AreEmptyLast (set ps at (p ++ x ∷ []))
pushed_last [] zero x p seat last = tt
pushed_last [] (suc at) x p seat last = absurd seat
pushed_last (q ∷ ps) zero x [] seat last = nothing_last ps seat.1
pushed_last (q ∷ ps) zero x (y ∷ p) seat last = nothing_last ps seat.1
pushed_last ([] ∷ ps) (suc at) x p seat last = absurd seat
pushed_last ((r ∷ rs) ∷ ps) (suc at) x p seat last = pushed_last ps at x p seat last
