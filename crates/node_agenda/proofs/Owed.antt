-- A node that is answered lacks none of its own facts that it sent here.
use Rattle.std.proofs.Common.{◌≡◌, ◌≢◌, ◌⊎◌, ◌≤◌, ◌<◌, ◌-◌, ◌&&◌, ◌==◌, ◌∙◌, ℕ, Bool, true, false, List, Option, None, Some, ap, arith, if◌then◌else◌, inl, inr, length, refl, subst, sym}
use Rattle.std.specs.Prelude.{max, nat_le, nat_lt, slice_set}
use Rattle.std.specs.declared.time.Duration.{Duration}
use Rattle.std.proofs.lemmas.Bool.{cases_eq, eqb-true, leb-true, ltb-false, ltb-true}
use Rattle.std.proofs.lemmas.Bool.Decides.{nat_tests}
use Rattle.std.proofs.lemmas.List.{get_or-set_other, get_or-set_same}
use Rattle.state_ids.specs.Fronts.{count}
use Rattle.node_inbox.specs.Tellings.{Told}
use Rattle.node_agenda.specs.Backlogs.{HasPlaces, IsKept, IsTaken, after_end, after_put, after_return, has_as_many, has_more, is_owed, most_of, own_in, own_of, own_taken, settled, waiting_of, waiting_with}
use Rattle.node_agenda.specs.declared.backlog.Backlog.{Backlog}
use Rattle.node_agenda.specs.declared.backlog.Taking.{Taking}

-- what is owed still is if the node counts no less
more_is_owed : (asks most more front : ℕ) → most ≤ more → (nat_lt asks most && nat_lt front most) ≡ true → (nat_lt asks more && nat_lt front more) ≡ true
more_is_owed asks most more front up e = grind (arith, nat_tests)

owed_by : (from : ℕ) (asks front : List ℕ) (old new : Backlog) → most_of from old ≤ most_of from new → is_owed from asks front old ≡ true → is_owed from asks front new ≡ true
owed_by from asks front old new up e = more_is_owed (count asks from) (most_of from old) (most_of from new) (count front from) up e

one_is : (asks most front : ℕ) → (nat_lt asks most && nat_lt front most) ≡ false → (most ≤ asks) ⊎ (most ≤ front)
one_is asks most front e = grind (arith, nat_tests)

-- what waits after something else was put at a node's place
here : (node : ℕ) (waiting : Option Told) (b : Backlog) → HasPlaces b → 1 ≤ node → node ≤ 8 → waiting_of node (waiting_with node waiting b) ≡ waiting
here node waiting b places some one = get_or-set_same b.waiting (node - 1) waiting None (omega (arith, places, some, one))

elsewhere : (node other : ℕ) (waiting : Option Told) (b : Backlog) → 1 ≤ node → 1 ≤ other → node ≢ other → waiting_of node (waiting_with other waiting b) ≡ waiting_of node b
elsewhere node other waiting b some more apart =
    get_or-set_other b.waiting (other - 1) (node - 1) waiting None (λ e. apart (omega (arith, e, some, more)))

-- what waits counts no less after a telling came
put_if : (from : ℕ) (told : Told) (b : Backlog) (more : Bool) → HasPlaces b → 1 ≤ from → 1 ≤ told.from → told.from ≤ 8 → has_more (waiting_of told.from b) told ≡ more
    → own_in (waiting_of from b) ≤ own_in (waiting_of from (if more then b else waiting_with told.from (Some told) b))
put_if from told b true places some least one e = omega arith
put_if from told b false places some least one e = elim (cases_eq from told.from) [
  | inl is ↦
      let now = here told.from (Some told) b places least one in
      let less = ltb-false (own_of told) (own_in (waiting_of told.from b)) e in
      subst (λ (n : ℕ). own_in (waiting_of n b) ≤ own_in (waiting_of n (waiting_with told.from (Some told) b))) (sym is)
      (subst (λ (w : Option Told). own_in (waiting_of told.from b) ≤ own_in w) (sym now) less)
  | inr apart ↦ subst (λ (w : Option Told). own_in (waiting_of from b) ≤ own_in w) (sym (elsewhere from told.from (Some told) b some least apart)) (omega arith)
]

taking_put : (told : Told) (b : Backlog) (more : Bool) → (if more then b else waiting_with told.from (Some told) b).taking ≡ b.taking
taking_put told b true = refl
taking_put told b false = refl

most_up : (from : ℕ) (old new : Backlog) → own_in (waiting_of from old) ≤ own_in (waiting_of from new) → own_taken from old.taking ≡ own_taken from new.taking → most_of from old ≤ most_of from new
most_up from old new up same = omega (arith, up, same)

pub put : (told : Told) (from : ℕ) (asks front : List ℕ) (b : Backlog) → HasPlaces b → 1 ≤ from → 1 ≤ told.from → told.from ≤ 8
    → is_owed from asks front b ≡ true → is_owed from asks front (after_put told b) ≡ true
put told from asks front b places some least one e =
    owed_by from asks front b (after_put told b)
    (most_up from b (after_put told b) (put_if from told b (has_more (waiting_of told.from b) told) places some least one refl)
    (ap (own_taken from) (sym (taking_put told b (has_more (waiting_of told.from b) told))))) e

-- what came lies there, or more
came_if : (told : Told) (b : Backlog) (more : Bool) → HasPlaces b → 1 ≤ told.from → told.from ≤ 8 → has_more (waiting_of told.from b) told ≡ more
    → own_of told ≤ own_in (waiting_of told.from (if more then b else waiting_with told.from (Some told) b))
came_if told b true places least one e = let more = ltb-true (own_of told) (own_in (waiting_of told.from b)) e in omega (arith, more)
came_if told b false places least one e = subst (λ (w : Option Told). own_of told ≤ own_in w) (sym (here told.from (Some told) b places least one)) (omega arith)

pub answered : (told : Told) (asks front : List ℕ) (b : Backlog) → HasPlaces b → 1 ≤ told.from → told.from ≤ 8
    → is_owed told.from asks front (after_put told b) ≡ false → (own_of told ≤ count asks told.from) ⊎ (own_of told ≤ count front told.from)
answered told asks front b places least one e =
    let there = came_if told b (has_more (waiting_of told.from b) told) places least one refl in
    elim (one_is (count asks told.from) (most_of told.from (after_put told b)) (count front told.from) e) [
      | inl asked ↦ inl (omega (arith, there, asked))
      | inr stored ↦ inr (omega (arith, there, stored))
    ]

-- a telling is taken out, and is being taken
own_same : (from node own : ℕ) → from ≡ node → own_taken from (Some (record { from = node; own = own })) ≡ own
own_same from node own e = grind (arith, nat_tests, e)

own_none : (from node own : ℕ) → from ≢ node → own_taken from (Some (record { from = node; own = own })) ≡ 0
own_none from node own e = grind (arith, nat_tests, e)

pub taken : (now : Duration) (from : ℕ) (asks front : List ℕ) (old new : Backlog) (told : Told) → HasPlaces old → 1 ≤ from → IsTaken now old new told
    → is_owed from asks front old ≡ true → is_owed from asks front new ≡ true
taken now from asks front old new told places some t e = owed_by from asks front old new up e
  where
    after : Backlog
    after = record old { waiting = slice_set old.waiting (t.node - 1) None; taking = Some (record { from = t.node; own = own_of told }); last = t.node }

    was : own_taken from old.taking ≡ 0
    was = ap (own_taken from) t.free

    within : most_of from old ≤ most_of from after
    within = elim (cases_eq from t.node) [
      | inl is ↦
          let counted = own_same from t.node (own_of told) is in
          let waits : own_in (waiting_of from old) ≡ own_of told = ap own_in (subst (λ (n : ℕ). waiting_of n old ≡ Some told) (sym is) t.waits) in
          let was = was in
          omega (arith, counted, waits, was)
      | inr apart ↦
          let same : own_in (waiting_of from after) ≡ own_in (waiting_of from old) = ap own_in (elsewhere from t.node None old some t.first.some apart) in
          let was = was in
          omega (arith, same, was)
    ]

    up : most_of from old ≤ most_of from new
    up = subst (λ (b : Backlog). most_of from old ≤ most_of from b) (sym t.rest) within

-- a telling waits again that the journal couldn't take
returned_if : (from : ℕ) (told : Told) (b : Backlog) (as_many : Bool) → HasPlaces b → 1 ≤ from → 1 ≤ told.from → told.from ≤ 8 → has_as_many (waiting_of told.from b) told ≡ as_many
    → max (own_in (waiting_of from b)) (own_taken from (Some (record { from = told.from; own = own_of told })))
    ≤ own_in (waiting_of from (if as_many then b else waiting_with told.from (Some told) b))
returned_if from told b as_many places some least one e = elim (cases_eq from told.from) [
  | inl is ↦
      let counted = own_same from told.from (own_of told) is in
      subst (λ (n : ℕ). max (own_in (waiting_of n b)) (own_taken n (Some (record { from = told.from; own = own_of told }))) ≤ own_in (waiting_of n (if as_many then b else waiting_with told.from (Some told) b)))
      (sym is) (of_it as_many e)
  | inr apart ↦
      let none = own_none from told.from (own_of told) apart in
      let same = of_others as_many apart in
      omega (arith, none, same)
]
  where
    own_it : own_taken told.from (Some (record { from = told.from; own = own_of told })) ≡ own_of told
    own_it = own_same told.from told.from (own_of told) refl

    as_many_in : (waiting : Option Told) → has_as_many waiting told ≡ true → own_of told ≤ own_in waiting
    as_many_in None h = absurd cc
    as_many_in (Some other) h = leb-true (own_of told) (own_of other) h

    fewer_in : (waiting : Option Told) → has_as_many waiting told ≡ false → own_in waiting ≤ own_of told
    fewer_in None h = omega arith
    fewer_in (Some other) h = grind (arith, nat_tests, h)

    of_it : (b_as_many : Bool) → has_as_many (waiting_of told.from b) told ≡ b_as_many
        → max (own_in (waiting_of told.from b)) (own_taken told.from (Some (record { from = told.from; own = own_of told })))
        ≤ own_in (waiting_of told.from (if b_as_many then b else waiting_with told.from (Some told) b))
    of_it true h = let it = own_it in let more = as_many_in (waiting_of told.from b) h in omega (arith, it, more)
    of_it false h =
        let it = own_it in
        let fewer = fewer_in (waiting_of told.from b) h in
        let now : own_in (waiting_of told.from (waiting_with told.from (Some told) b)) ≡ own_of told = ap own_in (here told.from (Some told) b places least one) in
        omega (arith, it, fewer, now)

    of_others : (b_as_many : Bool) → from ≢ told.from → own_in (waiting_of from b) ≤ own_in (waiting_of from (if b_as_many then b else waiting_with told.from (Some told) b))
    of_others true apart = omega arith
    of_others false apart = subst (λ (w : Option Told). own_in (waiting_of from b) ≤ own_in w) (sym (elsewhere from told.from (Some told) b some least apart)) (omega arith)

pub kept : (now : Duration) (told : Told) (from : ℕ) (asks front : List ℕ) (old new : Backlog) → HasPlaces old → 1 ≤ from → 1 ≤ told.from → told.from ≤ 8
    → old.taking ≡ Some (record { from = told.from; own = own_of told }) → IsKept now told old new
    → is_owed from asks front old ≡ true → is_owed from asks front new ≡ true
kept now told from asks front old new places some least one is k e = owed_by from asks front old new up e
  where
    waiting_is : waiting_of from new ≡ waiting_of from (after_return told old)
    waiting_is =
        ap (waiting_of from) k.rest
        ∙ ap (λ (t : Option Taking). waiting_of from (record (after_return told (settled t true old)) { retry_at = new.retry_at; pause_ms = new.pause_ms })) is
        ∙ same_waiting (has_as_many (waiting_of told.from old) told)
      where
        same_waiting : (as_many : Bool)
            → waiting_of from (if as_many then settled (Some (record { from = told.from; own = own_of told })) true old else waiting_with told.from (Some told) (settled (Some (record { from = told.from; own = own_of told })) true old))
            ≡ waiting_of from (if as_many then old else waiting_with told.from (Some told) old)
        same_waiting true = refl
        same_waiting false = refl

    up : most_of from old ≤ most_of from new
    up =
        let returned = returned_if from told old (has_as_many (waiting_of told.from old) told) places some least one refl in
        let waits = ap own_in waiting_is in
        let counted = ap (own_taken from) is in
        omega (arith, returned, waits, counted)

-- the taking of another node's telling ends
pub left : (taking : Taking) (is_taken : Bool) (from : ℕ) (asks front : List ℕ) (b : Backlog) → b.taking ≡ Some taking → from ≢ taking.from
    → is_owed from asks front b ≡ true → is_owed from asks front (after_end is_taken b) ≡ true
left taking is_taken from asks front b is apart e =
    let none = own_none from taking.from taking.own apart in
    let was = ap (own_taken from) is in
    let same = waits is_taken in
    owed_by from asks front b (after_end is_taken b) (omega (arith, none, was, same)) e
  where
    settled_same : (t : Option Taking) → own_in (waiting_of from (settled t false b)) ≡ own_in (waiting_of from b)
    settled_same None = refl
    settled_same (Some t) = refl

    waits : (is_taken : Bool) → own_in (waiting_of from (after_end is_taken b)) ≡ own_in (waiting_of from b)
    waits true = settled_same b.taking
    waits false = settled_same b.taking
