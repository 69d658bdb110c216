-- records of one home after another in the order of a frame, and the list of each home again
use Rattle.std.proofs.Common.{◌≡◌, ◌≤◌, ◌<◌, ◌+◌, ◌-◌, ◌*◌, ◌^◌, ℕ, zero, suc, List, [], ◌∷◌, ◌++◌, Bool, true, false, cond, refl, sym, ap, subst, ◌∙◌, arith, inl, inr, filter, get_or, length, map}
use Rattle.std.specs.Prelude.{◌==◌, ◌&&◌, ◌⊎◌, nat_lt}
use Rattle.std.specs.List.{AllByRecursion}
use Rattle.std.proofs.lemmas.Bool.{cases_lt}
use Rattle.std.proofs.lemmas.Bool.Decides.{nat_tests}
use Rattle.std.proofs.lemmas.List.{length-append, length-map, same_lists}
use Rattle.std.proofs.lemmas.List.Elements.{recursion_from_All}
use Rattle.state_ids.specs.Fronts.{count}
use Rattle.state_forest.specs.declared.record.Record.{Record}
use Rattle.state_forest.specs.Forests.{AreOf, IsAscending}
use Rattle.state_forest.specs.Records.{nodes_to}
use Rattle.theory_history.proofs.Basics.{length_nodes}
use Rattle.theory_history.proofs.MergedRecords.{nth_of}
use Rattle.theory_history.proofs.ListsWithOneMore.{filter_append}
use Rattle.wire_frames.specs.declared.order.Last.{Last}
use Rattle.wire_frames.specs.FrameFields.{Along}
use Rattle.wire_frames.specs.Frames.{live_at}
use Rattle.wire_frames.specs.Grammar.{KeepsRulesIn}
use Rattle.wire_frames.specs.Order.{Follows}
use Rattle.wire_frames.specs.Rules.{Context, IsRecord, after, by_home, is_home, is_next}
use Rattle.wire_frames.specs.Encoding.{flat}
use Rattle.wire_frames.specs.Typed.{HasLinks, IsTypedRecord}
use Rattle.wire_frames.proofs.Fitted.{Knows, record_fits}
use Rattle.wire_frames.proofs.ToldLists.{last_of}

-- the record fits in a frame, and its numbers and links have their types
pub record MeetsSettled (k : Context) (r : Record) : Type 0 where
  pub fits : KeepsRulesIn k.base k.front (live_at k.lives r.home) r
  pub typed : IsTypedRecord r
  pub known : AllByRecursion (Knows k.version) r.members

-- at most 256 records of the home, in order, each of which fits
pub record AreFit (k : Context) (home : ℕ) (rs : List Record) : Type 0 where
  pub own : AreOf home rs
  pub few : length rs ≤ 256
  pub each : AllByRecursion (MeetsSettled k) rs

-- the records of the homes after `low` are such lists
abbrev pub AreHomes : Context → ℕ → List (List Record) → Type 0
AreHomes k low [] = Unit {0}
AreHomes k low (rs ∷ homes) = AreFit k (low + 1) rs × AreHomes k (low + 1) homes

-- ---- order

-- these records of a home may come after the last one
abbrev MayFollow : ℕ → Last → List Record → Type 0
MayFollow home last rs = (last.home < home) ⊎ ((last.home ≡ home) × AllByRecursion (λ (r : Record). last.num < r.num) rs × (last.count + length rs ≤ 256))

home_right : (nodes last home : ℕ) → 1 ≤ home → home ≤ nodes → last ≤ home → is_home nodes last home ≡ true
home_right nodes last home some high low = grind (arith, nat_tests)

differ : (a b : ℕ) → a < b → (a == b) ≡ false
differ a b lt = grind (arith, nat_tests)

both_less : (a b c : ℕ) → a < b → c < 256 → (nat_lt a b && nat_lt c 256) ≡ true
both_less a b c lt few = grind (arith, nat_tests)

or_true : (b c : Bool) → c ≡ true → cond b c true ≡ true
or_true true c e = e
or_true false c e = refl

next_right : (last : Last) (r : Record) (rs : List Record) → MayFollow r.home last (r ∷ rs) → is_next last r.home r.num ≡ true
next_right last r rs (inl lt) = rw (differ last.home r.home lt) refl
next_right last r rs (inr same) = or_true (last.home == r.home) _ (both_less last.num r.num last.count same.1.0 (omega (arith, same.2)))

low_right : (last : Last) (home : ℕ) (rs : List Record) → MayFollow home last rs → last.home ≤ home
low_right last home rs (inl lt) = omega (arith, lt)
low_right last home rs (inr same) = omega (arith, same.0)

count_right : (last : Last) (r : Record) (rs : List Record) → length (r ∷ rs) ≤ 256 → MayFollow r.home last (r ∷ rs) → (after last r).count + length rs ≤ 256
count_right last r rs few (inl lt) = rw (differ last.home r.home lt) (omega (arith, few))
count_right last r rs few (inr same) = by (last.home == r.home)
  where
    by : (b : Bool) → cond b (last.count + 1) 1 + length rs ≤ 256
    by true = omega (arith, same.2)
    by false = omega (arith, same.2)

records_along : (k : Context) (home : ℕ) (last : Last) (rs : List Record) → length k.front ≤ 8 → ((node : ℕ) → count k.front node < 2 ^ 48) → 1 ≤ home → home ≤ length k.front
    → AllByRecursion (λ (r : Record). r.home ≡ home) rs → IsAscending rs → length rs ≤ 256 → AllByRecursion (MeetsSettled k) rs → MayFollow home last rs → Along (IsRecord k) after last rs
records_along k home last [] nodes small some high own rising few each may = tt
records_along k home last (r ∷ rs) nodes small some high own rising few each may =
    let here : MayFollow r.home last (r ∷ rs) = subst (λ (h : ℕ). MayFollow h last (r ∷ rs)) (sym own.0) may in
    let follows : Follows (length k.front) last r = (home_right (length k.front) last.home r.home (omega (arith, some, own.0)) (omega (arith, high, own.0)) (low_right last r.home (r ∷ rs) here), next_right last r rs here) in (
      record_fits k last r nodes small each.0.fits follows each.0.typed.deadline (recursion_from_All HasLinks r.members each.0.typed.links) each.0.known,
      records_along k home (after last r) rs nodes small some high own.1 rising.1 (omega (arith, few)) each.1 (inr (own.0, rising.0, count_right last r rs few here)),
    )

last_home : (home : ℕ) (last : Last) (rs : List Record) → AllByRecursion (λ (r : Record). r.home ≡ home) rs → last.home ≤ home → (last_of last rs).home ≤ home
last_home home last [] own low = low
last_home home last (r ∷ rs) own low = last_home home (after last r) rs own.1 (omega (arith, own.0))

along_append : (k : Context) (last : Last) (rs more : List Record) → Along (IsRecord k) after last rs → Along (IsRecord k) after (last_of last rs) more → Along (IsRecord k) after last (rs ++ more)
along_append k last [] more f g = g
along_append k last (r ∷ rs) more f g = (f.0, along_append k (after last r) rs more f.1 g)

pub homes_along : (k : Context) (low : ℕ) (last : Last) (homes : List (List Record)) → length k.front ≤ 8 → ((node : ℕ) → count k.front node < 2 ^ 48) → last.home ≤ low → low + length homes ≤ length k.front
    → AreHomes k low homes → Along (IsRecord k) after last (flat homes)
homes_along k low last [] nodes small before high are = tt
homes_along k low last (rs ∷ homes) nodes small before high are =
    along_append k last rs (flat homes)
    (records_along k (low + 1) last rs nodes small (omega arith) (omega (arith, high)) are.0.own.homes are.0.own.ascending are.0.few are.0.each (inl (omega (arith, before))))
    (homes_along k (low + 1) (last_of last rs) homes nodes small (last_home (low + 1) last rs are.0.own.homes (omega (arith, before))) (omega (arith, high)) are.1)

-- ---- the list of each home again

itself : (a : ℕ) → (a == a) ≡ true
itself a = grind (arith, nat_tests)

own_all : (home : ℕ) (rs : List Record) → AllByRecursion (λ (r : Record). r.home ≡ home) rs → filter (λ (r : Record). r.home == home) rs ≡ rs
own_all home [] own = refl
own_all home (r ∷ rs) own =
    let mine : (r.home == home) ≡ true = rw own.0 (itself home) in
    rw mine (ap (λ (l : List Record). r ∷ l) (own_all home rs own.1))

others_none : (home other : ℕ) (rs : List Record) → AllByRecursion (λ (r : Record). r.home ≡ home) rs → (home == other) ≡ false → filter (λ (r : Record). r.home == other) rs ≡ []
others_none home other [] own not = refl
others_none home other (r ∷ rs) own not =
    let mine : (r.home == other) ≡ false = rw own.0 not in
    rw mine (others_none home other rs own.1 not)

later : (a b : ℕ) → b < a → (a == b) ≡ false
later a b lt = grind (arith, nat_tests)

none_after : (k : Context) (low home : ℕ) (homes : List (List Record)) → home ≤ low → AreHomes k low homes → filter (λ (r : Record). r.home == home) (flat homes) ≡ []
none_after k low home [] le are = refl
none_after k low home (rs ∷ homes) le are =
    filter_append (λ (r : Record). r.home == home) rs (flat homes)
    ∙ ap (λ (l : List Record). l ++ filter (λ (r : Record). r.home == home) (flat homes)) (others_none (low + 1) home rs are.0.own.homes (later (low + 1) home (omega (arith, le))))
    ∙ none_after k (low + 1) home homes (omega (arith, le)) are.1

no_more : (xs : List Record) → xs ++ [] ≡ xs
no_more [] = refl
no_more (x ∷ xs) = ap (λ zs. x ∷ zs) (no_more xs)

home_again : (k : Context) (low home : ℕ) (homes : List (List Record)) → low < home → home ≤ low + length homes → AreHomes k low homes → filter (λ (r : Record). r.home == home) (flat homes) ≡ get_or homes (home - 1 - low) []
home_again k low home [] lt le are = absurd (omega (arith, lt, le))
home_again k low home (rs ∷ homes) lt le are =
    elim (cases_lt (low + 1) home) [
      | inl more ↦
          let place : home - 1 - low ≡ suc (home - 1 - (low + 1)) = omega (arith, more) in
          filter_append (λ (r : Record). r.home == home) rs (flat homes)
          ∙ ap (λ (l : List Record). l ++ filter (λ (r : Record). r.home == home) (flat homes)) (others_none (low + 1) home rs are.0.own.homes (differ (low + 1) home more))
          ∙ home_again k (low + 1) home homes more (omega (arith, le)) are.1
          ∙ ap (λ (i : ℕ). get_or (rs ∷ homes) i []) (sym place)
      | inr least ↦
          let here : low + 1 ≡ home = omega (arith, least, lt) in
          let place : home - 1 - low ≡ 0 = omega (arith, here) in
          filter_append (λ (r : Record). r.home == home) rs (flat homes)
          ∙ ap (λ (l : List Record). l ++ filter (λ (r : Record). r.home == home) (flat homes)) (own_all home rs (subst (λ (h : ℕ). AllByRecursion (λ (r : Record). r.home ≡ h) rs) here are.0.own.homes))
          ∙ ap (λ (l : List Record). rs ++ l) (none_after k (low + 1) home homes (omega (arith, least)) are.1)
          ∙ no_more rs
          ∙ ap (λ (i : ℕ). get_or (rs ∷ homes) i []) (sym place)
    ]

other_default : {X : Type 0} (xs : List X) (i : ℕ) (d e : X) → i < length xs → get_or xs i d ≡ get_or xs i e
other_default [] i d e lt = absurd (omega (arith, lt))
other_default (x ∷ xs) zero d e lt = refl
other_default (x ∷ xs) (suc i) d e lt = other_default xs i d e (omega (arith, lt))

pub parted : (k : Context) (homes : List (List Record)) → AreHomes k 0 homes → homes ≡ by_home (length homes) (flat homes)
parted k homes are =
    same_lists homes (by_home (length homes) (flat homes)) (sym (length-map (nodes_to (length homes)) of_home ∙ length_nodes (length homes))) one
  where
    of_home : ℕ → List Record
    of_home home = filter (λ (r : Record). r.home == home) (flat homes)

    one : (i : ℕ) (d : List Record) → i < length homes → get_or homes i d ≡ get_or (map of_home (nodes_to (length homes))) i d
    one i d lt =
        let place : suc i - 1 - 0 ≡ i = omega arith in
        other_default homes i d [] lt
        ∙ ap (λ (n : ℕ). get_or homes n []) (sym place)
        ∙ sym (home_again k 0 (suc i) homes (omega arith) (omega (arith, lt)) are)
        ∙ sym (nth_of of_home d (length homes) i lt)

-- ---- how many

pub flat_few : (k : Context) (low : ℕ) (homes : List (List Record)) → AreHomes k low homes → length (flat homes) ≤ 256 * length homes
flat_few k low [] are = omega arith
flat_few k low (rs ∷ homes) are = omega (arith, length-append rs (flat homes), are.0.few, flat_few k (low + 1) homes are.1)

-- ---- from what is known of the records of each home

pub are_homes : (k : Context) (low : ℕ) (homes : List (List Record)) → ((home : ℕ) → low < home → home ≤ low + length homes → AreFit k home (get_or homes (home - 1 - low) [])) → AreHomes k low homes
are_homes k low [] f = tt
are_homes k low (rs ∷ homes) f = (
  (let place : low + 1 - 1 - low ≡ 0 = omega arith in
      subst (AreFit k (low + 1)) (ap (λ (i : ℕ). get_or (rs ∷ homes) i []) place) (f (low + 1) (omega arith) (omega arith))),
  are_homes k (low + 1) homes (λ home lt le.
      let place : home - 1 - low ≡ suc (home - 1 - (low + 1)) = omega (arith, lt) in
      subst (AreFit k home) (ap (λ (i : ℕ). get_or (rs ∷ homes) i []) place) (f home (omega (arith, lt)) (omega (arith, le)))),
)
