-- the number of records after they are changed
use Rattle.std.proofs.Common.{◌≡◌, ◌<◌, ◌+◌, ◌==◌, ℕ, suc, List, [], ◌∷◌, refl, ap, subst, ◌∙◌, Bool, true, false, cond, arith, None, find, filter, is_none, length, nat_lt}
use Rattle.std.specs.List.{AllByRecursion}
use Rattle.std.proofs.lemmas.Bool.Decides.{nat_tests}
use Rattle.state_ids.specs.Ids.{Id}
use Rattle.state_forest.specs.declared.record.Record.{Record}
use Rattle.state_forest.specs.Forests.{AreOf, is_of}
use Rattle.state_forest.specs.Places.{put_record}
use Rattle.state_forest.specs.RecordMerges.{changed_by, put_all, without}
use Rattle.state_forest.specs.Shape.{found_at}
use Rattle.state_forest.proofs.ChangedRecords.{without_are_of}
use Rattle.state_forest.proofs.Places.{beyond_all, none_of}
use Rattle.state_forest.proofs.Puts.{put_are_of, put_find}

-- none of the records has the number of r
abbrev pub is_added : (home : ℕ) → List Record → Record → Bool
is_added home own r = is_none (found_at home own r.num)

-- putting a record in its place adds one record if none has its number
length_put : (home : ℕ) (r : Record) (qs : List Record) → AreOf home qs → length (put_record r qs) ≡ length qs + cond (is_added home qs r) 1 0
length_put home r [] h = omega arith
length_put home r (q ∷ qs) h =
    let rest : AreOf home qs = record { homes = h.homes.1; ascending = h.ascending.1 } in
    by (nat_lt q.num r.num) refl (length_put home r qs rest)
  where
    l : Id
    l = record { home = home; num = r.num }

    by : (b : Bool) → nat_lt q.num r.num ≡ b → length (put_record r qs) ≡ length qs + cond (is_added home qs r) 1 0 → length (cond b (q ∷ put_record r qs) (cond (q.num == r.num) (r ∷ qs) (r ∷ q ∷ qs))) ≡ length (q ∷ qs) + cond (is_added home (q ∷ qs) r) 1 0
    by true t rest =
        let other : is_of l q ≡ false = grind (arith, nat_tests, t) in
        rw other (omega (arith, rest))
    by false t rest = here (q.num == r.num) refl
      where
        here : (c : Bool) → (q.num == r.num) ≡ c → length (cond c (r ∷ qs) (r ∷ q ∷ qs)) ≡ length (q ∷ qs) + cond (is_added home (q ∷ qs) r) 1 0
        here true s =
            let own = h.homes.0 in
            let same : is_of l q ≡ true = grind (arith, nat_tests, s, own) in
            rw same (omega arith)
        here false s =
            let less : r.num < q.num = grind (arith, nat_tests, s, t) in
            let none : find (is_of l) (q ∷ qs) ≡ None = none_of l (q ∷ qs) (less, beyond_all r.num q.num qs (omega (arith, less)) h.ascending.0) in
            rw none (omega arith)

filter_alike : (p t : Record → Bool) (xs : List Record) → AllByRecursion (λ x. p x ≡ t x) xs → filter p xs ≡ filter t xs
filter_alike p t [] h = refl
filter_alike p t (x ∷ xs) h = by (p x) (t x) h.0 (filter_alike p t xs h.1)
  where
    by : (a b : Bool) → a ≡ b → filter p xs ≡ filter t xs → cond a (x ∷ filter p xs) (filter p xs) ≡ cond b (x ∷ filter t xs) (filter t xs)
    by true true e rest = ap (λ ys. x ∷ ys) rest
    by false false e rest = rest
    by true false e rest = absurd cc
    by false true e rest = absurd cc

-- a record that is put before changes with greater numbers is none of those changes
added_after : (home : ℕ) (r : Record) (qs changed : List Record) → r.home ≡ home → AreOf home qs → AllByRecursion (λ (x : Record). r.num < x.num) changed → AllByRecursion (λ x. is_added home (put_record r qs) x ≡ is_added home qs x) changed
added_after home r qs [] at h more = tt
added_after home r qs (x ∷ changed) at h more =
    let greater = more.0 in
    let other : is_of (record { home = home; num = x.num }) r ≡ false = grind (arith, nat_tests, greater) in
    (ap is_none (put_find home r qs (record { home = home; num = x.num }) at h ∙ rw other refl), added_after home r qs changed at h more.1)

-- putting records in their places adds as many records as have a number that none had before
length_put_all : (home : ℕ) (changed own : List Record) → AreOf home changed → AreOf home own → length (put_all changed own) ≡ length own + length (filter (is_added home own) changed)
length_put_all home [] own h g = omega arith
length_put_all home (r ∷ changed) own h g =
    let at = h.homes.0 in
    let rest : AreOf home changed = record { homes = h.homes.1; ascending = h.ascending.1 } in
    let after = length_put_all home changed (put_record r own) rest (put_are_of home r own at g) in
    let alike = filter_alike (is_added home (put_record r own)) (is_added home own) changed (added_after home r own changed at g h.ascending.0) in
    by (is_added home own r) (length_put home r own g) (after ∙ ap (λ xs. length (put_record r own) + length xs) alike)
  where
    by : (b : Bool) → length (put_record r own) ≡ length own + cond b 1 0 → length (put_all changed (put_record r own)) ≡ length (put_record r own) + length (filter (is_added home own) changed) → length (put_all changed (put_record r own)) ≡ length own + length (cond b (r ∷ filter (is_added home own) changed) (filter (is_added home own) changed))
    by true more all = omega (arith, more, all)
    by false more all = omega (arith, more, all)

-- after the changes there are the records that stay, and the changes that replace none of those
pub length_changed : (home : ℕ) (removed : List Id) (changed own : List Record) → AreOf home changed → AreOf home own → length (changed_by removed changed own) ≡ length (without removed own) + length (filter (is_added home (without removed own)) changed)
length_changed home removed changed own h g = length_put_all home changed (without removed own) h (without_are_of home removed own g)

-- the same for changes whose home is given as that of another list
pub length_after : (home there : ℕ) (removed : List Id) (changed own : List Record) → there ≡ home → AreOf there changed → AreOf home own → length (changed_by removed changed own) ≡ length (without removed own) + length (filter (is_added home (without removed own)) changed)
length_after home there removed changed own same h g = length_changed home removed changed own (subst (λ n. AreOf n changed) same h) g

-- all records stay if none is removed
pub all_stay : (removed : List Id) (rs : List Record) → length removed ≡ 0 → length (without removed rs) ≡ length rs
all_stay [] [] none = refl
all_stay [] (r ∷ rs) none = ap suc (all_stay [] rs refl)
all_stay (l ∷ removed) rs none = absurd (omega (arith, none))
