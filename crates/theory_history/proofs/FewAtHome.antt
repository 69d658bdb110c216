-- a closed set of a lawful history holds at most 256 LRAs of each home
use Rattle.std.proofs.Common.{◌≡◌, ◌⊎◌, inl, inr, ◌≤◌, ◌<◌, ◌+◌, ◌&&◌, ◌==◌, ℕ, zero, suc, List, [], ◌∷◌, refl, sym, ap, ◌∙◌, Bool, true, false, cond, arith, Some, None, filter, length, map}
use Rattle.state_ids.specs.Fronts.{IsBelow, count}
use Rattle.state_facts.specs.declared.fact.Body.{Body}
use Rattle.state_facts.specs.declared.fact.Body.TheVariants.{Begin, Join, Leave, Decide, Report, Forgot, Told, Purge}
use Rattle.state_facts.specs.declared.fact.Fact.{Fact}
use Rattle.state_facts.specs.Lists.{In}
use Rattle.state_facts.specs.Sets.{begins_held, begun_by, held_at, is_begin}
use Rattle.state_forest.specs.Standing.{AreOnce}
use Rattle.state_forest.proofs.Begins.{once_in}
use Rattle.state_forest.proofs.Bools.{all_in, and_left, and_right}
use Rattle.state_forest.proofs.GiversOfNumbers.{filter_both}
use Rattle.theory_history.specs.Histories.{History, IsClosed, IsLawful, Made, facts, is_counted, made}
use Rattle.theory_history.specs.Replies.{IsLawfulBody}
use Rattle.state_facts.specs.declared.command.Command.TheVariants.{Begin as BeginAsked}
use Rattle.theory_history.proofs.Decisions.{counted_entry}
use Rattle.theory_history.proofs.SettledFacts.{filter_agree}
use Rattle.theory_history.proofs.ClosedSets.{closed_counted, closed_settled, counted_le, facts_inside, in_facts, le_counted}
use Rattle.theory_history.proofs.MergedViews.{held_first}
use Rattle.theory_history.proofs.AcceptedCommands.{lawful_gives}
use Rattle.theory_history.proofs.SetsToMerge.{closed_proper}
use Rattle.theory_history.proofs.TwoClosedSets.{AreTogether}
use Rattle.theory_history.proofs.Basics.{at_most, equal_from, equal_itself}

-- The number of elements that pass a test

-- if each element that passes a test passes one of two others, no more pass it than pass those
-- together
fewer_than_both : {X : Type 0} (p q r : X → Bool) (xs : List X) → ((x : X) → In x xs → p x ≡ true → (q x ≡ true) ⊎ (r x ≡ true)) → length (filter p xs) ≤ length (filter q xs) + length (filter r xs)
fewer_than_both p q r [] h = omega arith
fewer_than_both p q r (x ∷ xs) h = by (p x) refl (q x) refl (r x) refl (fewer_than_both p q r xs (λ y m. h y (inr m)))
  where
    by : (a : Bool) → p x ≡ a → (b : Bool) → q x ≡ b → (c : Bool) → r x ≡ c → length (filter p xs) ≤ length (filter q xs) + length (filter r xs) → length (cond a (x ∷ filter p xs) (filter p xs)) ≤ length (cond b (x ∷ filter q xs) (filter q xs)) + length (cond c (x ∷ filter r xs) (filter r xs))
    by true s true t true u e = omega (arith, e)
    by true s true t false u e = omega (arith, e)
    by true s false t true u e = omega (arith, e)
    by true s false t false u e = absurd (elim (h x (inl refl) s) [
      | inl y ↦ let wrong : true ≡ false = sym y ∙ t in cc
      | inr y ↦ let wrong : true ≡ false = sym y ∙ u in cc
    ])
    by false s true t true u e = omega (arith, e)
    by false s true t false u e = omega (arith, e)
    by false s false t true u e = omega (arith, e)
    by false s false t false u e = omega (arith, e)

none_pass : {X : Type 0} (t : X → Bool) (xs : List X) → ((x : X) → In x xs → t x ≡ true → ⊥) → length (filter t xs) ≡ 0
none_pass t [] h = refl
none_pass t (x ∷ xs) h = by (t x) refl (none_pass t xs (λ y m. h y (inr m)))
  where
    by : (b : Bool) → t x ≡ b → length (filter t xs) ≡ 0 → length (cond b (x ∷ filter t xs) (filter t xs)) ≡ 0
    by true e rest = absurd (h x (inl refl) e)
    by false e rest = rest

-- at most one fact has this origin and number
one_passes : (t : Fact → Bool) (node num : ℕ) (S : List Fact) → AreOnce S → ((f : Fact) → t f ≡ true → (f.origin ≡ node) × (f.num ≡ num)) → length (filter t S) ≤ 1
one_passes t node num [] once h = omega arith
one_passes t node num (f ∷ S) once h = by (t f) refl (one_passes t node num S once.1 h)
  where
    by : (b : Bool) → t f ≡ b → length (filter t S) ≤ 1 → length (cond b (f ∷ filter t S) (filter t S)) ≤ 1
    by false e rest = rest
    by true e rest =
        let own = h f e in
        let none : length (filter t S) ≡ 0 = none_pass t S (λ g m passes.
        let at = h g passes in
        all_in _ S once.0 g m (own.0 ∙ sym at.0) (own.1 ∙ sym at.1)) in
        omega (arith, none)

-- What a home holds after its last entry

-- a home that begins an LRA has room for it
room_to_begin : (S : List Fact) (v : List ℕ) (node : ℕ) (body : Body) → IsLawfulBody S v node body → is_begin body ≡ true → held_at S node < 256
room_to_begin S v node (Begin None deadline) lawful e = lawful_gives S v node (BeginAsked None deadline) lawful.accepted
room_to_begin S v node (Begin (Some p) deadline) lawful e = (lawful_gives S v node (BeginAsked (Some p) deadline) lawful.accepted).3
room_to_begin S v node (Join l m links) lawful e = absurd cc
room_to_begin S v node (Leave l m) lawful e = absurd cc
room_to_begin S v node (Decide l verdict) lawful e = absurd cc
room_to_begin S v node (Report l m act outcome) lawful e = absurd cc
room_to_begin S v node (Forgot l m) lawful e = absurd cc
room_to_begin S v node (Told l m) lawful e = absurd cc
room_to_begin S v node (Purge root) lawful e = absurd cc

counted_too : (u v : List ℕ) → IsBelow u v → (f : Fact) → (is_counted v f && is_counted u f) ≡ is_counted u f
counted_too u v below f = by (is_counted u f) refl
  where
    fails : (b : Bool) → (b && false) ≡ false
    fails true = refl
    fails false = refl

    by : (b : Bool) → is_counted u f ≡ b → (is_counted v f && is_counted u f) ≡ is_counted u f
    by true e =
        let less = counted_le u f e in
        let more = below f.origin in
        let also = le_counted v f (omega (arith, less, more)) in
        rw (also, e) refl
    by false e = rw e (fails (is_counted v f))

-- the facts of the lesser front are those of the greater one that it counts
lesser_facts : (h : History) (u v : List ℕ) → IsBelow u v → filter (is_counted u) (facts h v) ≡ facts h u
lesser_facts h u v below =
    let all = map (λ (e : Made). e.fact) (made h) in
    sym (filter_both (is_counted v) (is_counted u) all)
    ∙ filter_agree (λ f. is_counted v f && is_counted u f) (is_counted u) all (λ f m. counted_too u v below f)

-- two closed sets of one history, the first of which is inside the second
inside_together : (h : History) → IsLawful h → (u v : List ℕ) → IsClosed h u → IsClosed h v → IsBelow u v → AreTogether (facts h u) (facts h v) (facts h v) u v
inside_together h law u v cu cv below =
    record {
      first = closed_settled h law u cu;
      second = closed_settled h law v cv;
      both = closed_settled h law v cv;
      union = record { left = facts_inside h u v below; right = λ f m. m; only = λ f m. inr m };
      counted_first = closed_counted h u cu;
      counted_second = closed_counted h v cv;
      proper = closed_proper h law v cv;
    }

-- the fact begins the LRA with this number
abbrev is_begin_at : ℕ → ℕ → Fact → Bool
is_begin_at home num f = is_begin f.body && ((f.origin == home) && (f.num == num))

is_at : (home num : ℕ) (f : Fact) → is_begin_at home num f ≡ true → (f.origin ≡ home) × (f.num ≡ num)
is_at home num f e =
    let at = and_right (is_begin f.body) _ e in
    (equal_from f.origin home (and_left (f.origin == home) _ at), equal_from f.num num (and_right (f.origin == home) _ at))

module _ (h : History) (law : IsLawful h) (home : ℕ) (v : List ℕ) (closed : IsClosed h v) (e : Made) (there : In e (made h)) (origin : e.fact.origin ≡ home) (last : e.fact.num ≡ count v home) where
  abbrev before : List Fact
  before = facts h e.front

  abbrev now : List Fact
  now = facts h v

  counted : e.fact.num ≤ count v e.fact.origin
  counted = let same = ap (count v) origin in omega (arith, last, same)

  below : IsBelow e.front v
  below = closed.kept e there counted

  own : count e.front home + 1 ≡ e.fact.num
  own = ap (λ (k : ℕ). count e.front k + 1) (sym origin) ∙ (law.each e there).own

  abbrev held_before : Fact → Bool
  held_before f = is_counted e.front f && begins_held before home f

  -- an LRA that is held was held at the entry, or begins with it
  held_or_new : (f : Fact) → In f now → begins_held now home f ≡ true → (held_before f ≡ true) ⊎ (is_begin_at home e.fact.num f ≡ true)
  held_or_new f m passes =
      let begin = and_left (is_begin f.body) _ passes in
      let rest = and_right (is_begin f.body) _ passes in
      let here = and_left (f.origin == home) _ rest in
      let held = and_right (f.origin == home) _ rest in
      let at = equal_from f.origin home here in
      let most = (closed_counted h v closed).counted f m in
      let same = ap (count v) at in
      let earlier = ap (count e.front) at in
      elim (at_most f.num (count e.front home)) [
        | inl old ↦
            let within : f.num ≤ count e.front f.origin = omega (arith, old, earlier) in
            let kept = held_first before now now e.front v (inside_together h law e.front v (law.each e there).closed closed below) (begun_by f) held within in
            inl (rw (le_counted e.front f within, begin, here, kept) refl)
        | inr new ↦
            let number : f.num ≡ e.fact.num = omega (arith, new, own, most, same, last) in
            let test : (f.num == e.fact.num) ≡ true = ap (λ (k : ℕ). k == e.fact.num) number ∙ equal_itself e.fact.num in
            inr (rw (begin, here, test) refl)
      ]

  held_then : length (filter held_before now) ≡ held_at before home
  held_then =
      ap (λ (fs : List Fact). length fs) (filter_both (is_counted e.front) (begins_held before home) now)
      ∙ ap (λ (fs : List Fact). length (filter (begins_held before home) fs)) (lesser_facts h e.front v below)

  -- so the home holds no more than then, or one more if the entry begins an LRA
  held_after : held_at before home ≤ 256 → held_at now home ≤ 256
  held_after few = by (is_begin e.fact.body) refl
    where
      total : held_at now home ≤ held_at before home + length (filter (is_begin_at home e.fact.num) now)
      total =
          let more = fewer_than_both (begins_held now home) held_before (is_begin_at home e.fact.num) now held_or_new in
          omega (arith, more, held_then)

      once : AreOnce now
      once = (closed_settled h law v closed).seated.once

      by : (b : Bool) → is_begin e.fact.body ≡ b → held_at now home ≤ 256
      by true begins =
          let room = room_to_begin before e.front e.fact.origin e.fact.body (law.each e there).lawful begins in
          let same : held_at before e.fact.origin ≡ held_at before home = ap (held_at before) origin in
          let one = one_passes (is_begin_at home e.fact.num) home e.fact.num now once (is_at home e.fact.num) in
          omega (arith, room, same, one, total)
      by false no_begin =
          let none : length (filter (is_begin_at home e.fact.num) now) ≡ 0 = none_pass (is_begin_at home e.fact.num) now (λ f m passes.
          let at = is_at home e.fact.num f passes in
          let same : f ≡ e.fact = once_in now once f e.fact m (in_facts h v e there counted) (at.0 ∙ sym origin) at.1 in
          let begin : is_begin e.fact.body ≡ true = ap (λ (g : Fact). is_begin g.body) (sym same) ∙ and_left (is_begin f.body) _ passes in
          let wrong : true ≡ false = sym begin ∙ no_begin in
          cc) in
          omega (arith, none, few, total)

few_up_to : (h : History) → IsLawful h → (home : ℕ) → 1 ≤ home → (k : ℕ) (v : List ℕ) → IsClosed h v → count v home ≤ k → held_at (facts h v) home ≤ 256
few_up_to h law home some zero v closed le =
    let none : held_at (facts h v) home ≡ 0 = none_pass (begins_held (facts h v) home) (facts h v) (λ f m passes.
    let at = equal_from f.origin home (and_left (f.origin == home) _ (and_right (is_begin f.body) _ passes)) in
    let same = ap (count v) at in
    let low = (closed_counted h v closed).some f m in
    let high = (closed_counted h v closed).counted f m in
    omega (arith, low.1, high, same, le)) in
    omega (arith, none)
few_up_to h law home some (suc k) v closed le = elim (at_most (count v home) k) [
  | inl less ↦ few_up_to h law home some k v closed less
  | inr more ↦
      let last : suc k ≡ count v home = omega (arith, le, more) in
      let f = (closed_counted h v closed).all home (suc k) some (omega arith) (omega (arith, last)) in
      let e = counted_entry h v f.0 f.1 in
      let origin : e.0.fact.origin ≡ home = ap (λ (x : Fact). x.origin) (sym e.2) ∙ f.2 in
      let number : e.0.fact.num ≡ suc k = ap (λ (x : Fact). x.num) (sym e.2) ∙ f.3 in
      let own : count e.0.front home + 1 ≡ e.0.fact.num = ap (λ (n : ℕ). count e.0.front n + 1) (sym origin) ∙ (law.each e.0 e.1).own in
      held_after h law home v closed e.0 e.1 origin (number ∙ last) (few_up_to h law home some k e.0.front (law.each e.0 e.1).closed (omega (arith, own, number)))
]

-- a closed set of a lawful history holds at most 256 LRAs of a home
pub few_held : (h : History) → IsLawful h → (v : List ℕ) → IsClosed h v → (home : ℕ) → 1 ≤ home → held_at (facts h v) home ≤ 256
few_held h law v closed home some = few_up_to h law home some (count v home) v closed (omega arith)
