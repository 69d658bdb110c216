-- the origins of an index, one after the other
use Rattle.std.proofs.Common.{◌≡◌, ◌≤◌, ◌<◌, ◌+◌, ◌-◌, ◌^◌, ℕ, zero, suc, List, [], ◌∷◌, refl, sym, ap, ◌∙◌, subst, arith, Bool, true, false, cond, IfSome, Option, None, get_or, length}
use Rattle.std.specs.List.{AllZip}
use Rattle.state_ids.specs.Ids.{Id, same_id}
use Rattle.state_stamps.specs.declared.stamp_entry.StampEntry.{StampEntry}
use Rattle.state_stamps.specs.Indexes.{AreIndexesOf, AreRestamped, AreReserved, HeldEntries, IsIndexOf, at_place, entries_at, entries_of, least_spare, with_exchange, stamp_at, with_stamps}
use Rattle.state_stamps.proofs.Moving.{moved_index}

pub entries_place : (os : List HeldEntries) (k : ℕ) → get_or (entries_of os) k [] ≡ (at_place os k).entries
entries_place [] k = refl
entries_place (o ∷ os) zero = refl
entries_place (o ∷ os) (suc k) = entries_place os k

pub entries_length : (os : List HeldEntries) → length (entries_of os) ≡ length os
entries_length [] = refl
entries_length (o ∷ os) = ap suc (entries_length os)

-- if each origin has room for n entries, so has the least
pub least_all : (n : ℕ) (os : List HeldEntries) → n ≤ 2 ^ 64 → ((k : ℕ) → k < length os → n ≤ (at_place os k).spare) → n ≤ least_spare os
least_all n [] most h = most
least_all n (o ∷ os) most h = omega (arith, h 0 (omega arith), least_all n os most (λ k e. h (suc k) (omega (arith, e))))

-- and if the least has the room, each has it
pub each_least : (n : ℕ) (os : List HeldEntries) → n ≤ least_spare os → (k : ℕ) → k < length os → n ≤ (at_place os k).spare
each_least n [] h k e = absurd (omega (arith, e))
each_least n (o ∷ os) h zero e = omega (arith, h)
each_least n (o ∷ os) h (suc k) e = each_least n os (omega (arith, h)) k (omega (arith, e))

-- the least room falls by no more than each room does
pub least_falls : (n : ℕ) (xs ys : List HeldEntries) → length ys ≡ length xs → ((k : ℕ) → k < length xs → (at_place xs k).spare ≤ (at_place ys k).spare + n) → least_spare xs ≤ least_spare ys + n
least_falls n [] [] e h = omega arith
least_falls n [] (y ∷ ys) e h = absurd (omega (arith, e))
least_falls n (x ∷ xs) [] e h = absurd (omega (arith, e))
least_falls n (x ∷ xs) (y ∷ ys) e h = omega (arith, h 0 (omega arith), least_falls n xs ys (omega (arith, e)) (λ k l. h (suc k) (omega (arith, l))))

pub same_lists : (xs ys : List HeldEntries) → length ys ≡ length xs → ((k : ℕ) → k < length xs → (at_place ys k).entries ≡ (at_place xs k).entries) → entries_of ys ≡ entries_of xs
same_lists [] [] e h = refl
same_lists [] (y ∷ ys) e h = absurd (omega (arith, e))
same_lists (x ∷ xs) [] e h = absurd (omega (arith, e))
same_lists (x ∷ xs) (y ∷ ys) e h =
    ap (λ (es : List StampEntry). es ∷ entries_of ys) (h 0 (omega arith)) ∙ ap (λ (r : List (List StampEntry)). x.entries ∷ r) (same_lists xs ys (omega (arith, e)) (λ k l. h (suc k) (omega (arith, l))))

pub reserved_same : (n : ℕ) (xs ys : List HeldEntries) → AreReserved n xs ys → entries_of ys ≡ entries_of xs
reserved_same n xs ys h = same_lists xs ys h.same (λ k l. (h.each k l).entries)

pub reserved_kept : (n : ℕ) (xs ys : List HeldEntries) → AreReserved n xs ys → least_spare xs ≤ least_spare ys
reserved_kept n xs ys h = omega (arith, least_falls 0 xs ys h.same (λ k l. omega (arith, (h.each k l).kept)))

pub reserved_room : (n : ℕ) (xs ys : List HeldEntries) → n ≤ 2 ^ 64 → AreReserved n xs ys → n ≤ least_spare ys
reserved_room n xs ys most h = least_all n ys most (λ k l. (h.each k (omega (arith, l, h.same))).room)

pub moved_room : (l : Id) (was now : Option (List ℕ)) (xs ys : List HeldEntries) → AreRestamped l was now xs ys → least_spare xs ≤ least_spare ys + 1
moved_room l was now xs ys h = least_falls 1 xs ys h.same (λ k e. (h.each k e).spare)

few_with : (l : Id) (now : Option (List ℕ)) (known : Id → Option (List ℕ)) → IfSome now (λ v. length v ≤ 8) → ((m : Id) → IfSome (known m) (λ v. length v ≤ 8)) → (m : Id) → IfSome (with_stamps l now known m) (λ v. length v ≤ 8)
few_with l now known here all m = by (same_id m l)
  where
    by : (b : Bool) → IfSome (cond b now (known m)) (λ v. length v ≤ 8)
    by true = here
    by false = all m

pub moved_indexes : (l : Id) (was now : Option (List ℕ)) (xs ys : List HeldEntries) → AreRestamped l was now xs ys → IfSome now (λ v. length v ≤ 8) → (known : Id → Option (List ℕ)) → AreIndexesOf (entries_of xs) known → known l ≡ was → AreIndexesOf (entries_of ys) (with_stamps l now known)
moved_indexes l was now xs ys h here known all known_is = record { each = each; few = few_with l now known here all.few }
  where
    each : (origin : ℕ) → 1 ≤ origin → origin ≤ length (entries_of ys) → IsIndexOf origin (entries_at (entries_of ys) origin) (with_stamps l now known)
    each origin some within =
        let place : origin - 1 < length xs = omega (arith, some, within, entries_length ys, h.same) in
        let back : (origin - 1) + 1 ≡ origin = omega (arith, some) in
        let there : origin ≤ length (entries_of xs) = omega (arith, some, place, entries_length xs) in
        let old : IsIndexOf origin (at_place xs (origin - 1)).entries known = subst (λ es. IsIndexOf origin es known) (entries_place xs (origin - 1)) (all.each origin some there) in
        let step : (at_place ys (origin - 1)).entries ≡ with_exchange l (stamp_at was origin) (stamp_at now origin) (at_place xs (origin - 1)).entries =
        subst (λ n. (at_place ys (origin - 1)).entries ≡ with_exchange l (stamp_at was n) (stamp_at now n) (at_place xs (origin - 1)).entries) back (h.each (origin - 1) place).entries in
        subst (λ es. IsIndexOf origin es (with_stamps l now known)) (sym (entries_place ys (origin - 1) ∙ step)) (moved_index origin l was now known (at_place xs (origin - 1)).entries known_is old)

pub kept_room : (l : Id) (was : Option (List ℕ)) (xs ys : List HeldEntries) → AreRestamped l was None xs ys → least_spare xs ≤ least_spare ys
kept_room l was xs ys h = omega (arith, least_falls 0 xs ys h.same (λ k e. omega (arith, (h.each k e).kept refl)))

-- a copy has the same entries
pub copied : (xs ys : List HeldEntries) → AllZip (λ (x y : HeldEntries). y.entries ≡ x.entries) xs ys → entries_of ys ≡ entries_of xs
copied [] [] h = refl
copied [] (y ∷ ys) h = absurd h
copied (x ∷ xs) [] h = absurd h
copied (x ∷ xs) (y ∷ ys) h = ap (λ (es : List StampEntry). es ∷ entries_of ys) h.0 ∙ ap (λ (r : List (List StampEntry)). x.entries ∷ r) (copied xs ys h.1)
