-- a history with one more entry
use Rattle.std.proofs.Common.{◌≡◌, ◌⊎◌, inl, inr, ◌≤◌, ◌<◌, ◌+◌, ◌-◌, ℕ, zero, suc, List, [], ◌∷◌, ◌++◌, refl, sym, ap, subst, ◌∙◌, Bool, true, false, cond, arith, append_assoc, filter, length, map, get_or, get_or-set_other, get_or-set_same, nat_le, slice_set}
use Rattle.std.proofs.lemmas.Bool.Decides.{nat_tests}
use Rattle.std.proofs.lemmas.List.{length-append, length-set, map-append}
use Rattle.std.proofs.lemmas.List.Elements.{filter-append}
use Rattle.state_ids.specs.Fronts.{IsBelow, count}
use Rattle.state_facts.specs.declared.fact.Fact.{Fact}
use Rattle.state_facts.specs.Lists.{In}
use Rattle.state_facts.proofs.Membership.{filter_in, in_append, map_in}
use Rattle.state_facts.specs.declared.command.Command.{Command}
use Rattle.state_facts.specs.declared.command.Command.TheVariants.{Begin as BeginAsked, Join as JoinAsked, Leave as LeaveAsked, Decide as DecideAsked, Report as ReportAsked, Forgot as ForgotAsked, Told as ToldAsked, Purge as PurgeAsked}
use Rattle.theory_history.specs.Growth.{IsMore}
use Rattle.theory_history.specs.NodeViews.{IsCurrent}
use Rattle.theory_history.specs.Histories.{Entry, History, IsClosed, IsLawful, IsLawfulEntry, Made, entries_of, facts, is_counted, made, made_by, made_from, with_entry}
use Rattle.theory_history.specs.Changes.{raised}
use Rattle.theory_history.specs.Replies.{IsLawfulBody, Accepted, body_for, command_of, judge}
use Rattle.theory_history.proofs.CountedByFronts.{raised_else, raised_here}
use Rattle.theory_history.proofs.SettledFacts.{filter_agree}
use Rattle.theory_history.proofs.ClosedSets.{counted_le, fact_of, le_counted, made_by_at}
use Rattle.theory_history.proofs.Basics.{in_left, in_right, same_or_not}

-- Where the new entry stands

-- a list with one more element somewhere in it
record HasMore (x : Made) (was is : List Made) : Type 0 where
  before : List Made
  after : List Made
  old : was ≡ before ++ after
  new : is ≡ before ++ x ∷ after

-- an entry as the fact of a node with this number
abbrev made_as : ℕ → ℕ → Entry → Made
made_as node num e = record { fact = record { origin = node; num = num; body = e.body }; front = e.front }

last_by : (node num : ℕ) (es : List Entry) (e : Entry) → made_by node num (es ++ e ∷ []) ≡ made_by node num es ++ made_as node (num + length es) e ∷ []
last_by node num [] e = let same : num ≡ num + 0 = omega arith in ap (λ n. made_as node n e ∷ []) same
last_by node num (x ∷ es) e =
    let same : num + 1 + length es ≡ num + suc (length es) = omega arith in
    ap (λ ms. made_as node num x ∷ ms) (last_by node (num + 1) es e ∙ ap (λ n. made_by node (num + 1) es ++ made_as node n e ∷ []) same)

more_first : (node : ℕ) (es : List Entry) (e : Entry) (rest : List Made) → HasMore (made_as node (length es + 1) e) (made_by node 1 es ++ rest) (made_by node 1 (es ++ e ∷ []) ++ rest)
more_first node es e rest =
    let same : 1 + length es ≡ length es + 1 = omega arith in
    record {
      before = made_by node 1 es;
      after = rest;
      old = refl;
      new = ap (λ ms. ms ++ rest) (last_by node 1 es e ∙ ap (λ n. made_by node 1 es ++ made_as node n e ∷ []) same)
          ∙ append_assoc (made_by node 1 es) (made_as node (length es + 1) e ∷ []) rest;
    }

more_later : (xs : List Made) (x : Made) (was is : List Made) → HasMore x was is → HasMore x (xs ++ was) (xs ++ is)
more_later xs x was is more =
    record {
      before = xs ++ more.before;
      after = more.after;
      old = ap (λ ms. xs ++ ms) more.old ∙ sym (append_assoc xs more.before more.after);
      new = ap (λ ms. xs ++ ms) more.new ∙ sym (append_assoc xs more.before (x ∷ more.after));
    }

more_from : (node i : ℕ) (h : History) (e : Entry) → i < length h → HasMore (made_as (node + i) (length (get_or h i []) + 1) e) (made_from node h) (made_from node (slice_set h i (get_or h i [] ++ e ∷ [])))
more_from node i [] e there = absurd (omega (arith, there))
more_from node zero (es ∷ h) e there =
    let same : node ≡ node + 0 = omega arith in
    subst (λ (n : ℕ). HasMore (made_as n (length es + 1) e) (made_from node (es ∷ h)) (made_from node ((es ++ e ∷ []) ∷ h))) same
    (more_first node es e (made_from (node + 1) h))
more_from node (suc i) (es ∷ h) e there =
    let same : node + 1 + i ≡ node + suc i = omega arith in
    let longer = slice_set h i (get_or h i [] ++ e ∷ []) in
    more_later (made_by node 1 es) (made_as (node + suc i) (length (get_or h i []) + 1) e) (made_from (node + 1) h) (made_from (node + 1) longer)
    (subst (λ (n : ℕ). HasMore (made_as n (length (get_or h i []) + 1) e) (made_from (node + 1) h) (made_from (node + 1) longer)) same
    (more_from (node + 1) i h e (omega (arith, there))))

-- the new entry of a node, with its number
abbrev new_of : History → ℕ → Entry → Made
new_of h node e = made_as node (length (entries_of h node) + 1) e

more_made : (h : History) (node : ℕ) (e : Entry) → 1 ≤ node → node ≤ length h → HasMore (new_of h node e) (made h) (made (with_entry h node e))
more_made h node e some there =
    let same : 1 + (node - 1) ≡ node = omega (arith, some) in
    subst (λ (n : ℕ). HasMore (made_as n (length (entries_of h node) + 1) e) (made h) (made (with_entry h node e))) same
    (more_from 1 (node - 1) h e (omega (arith, some, there)))

-- an entry of the longer history was there before, or is the new one
old_or_new : (h : History) (node : ℕ) (e : Entry) → 1 ≤ node → node ≤ length h → (x : Made) → In x (made (with_entry h node e)) → In x (made h) ⊎ (x ≡ new_of h node e)
old_or_new h node e some there x m =
    let more = more_made h node e some there in
    let was : In x (more.before ++ more.after) → In x (made h) = (λ n. subst (λ (ms : List Made). In x ms) (sym more.old) n) in
    elim (in_append more.before (new_of h node e ∷ more.after) x (subst (λ (ms : List Made). In x ms) more.new m)) [
      | inl first ↦ inl (was (in_left more.before more.after x first))
      | inr (inl same) ↦ inr same
      | inr (inr last) ↦ inl (was (in_right more.before more.after x last))
    ]

-- the longer history has as many nodes
pub length_with : (h : History) (node : ℕ) (e : Entry) → length (with_entry h node e) ≡ length h
length_with h node e = length-set h (node - 1) (entries_of h node ++ e ∷ [])

-- each node's list is as long as it was, or longer
entries_with : (h : History) (node n : ℕ) (e : Entry) → 1 ≤ node → node ≤ length h → length (entries_of h n) ≤ length (entries_of (with_entry h node e) n)
entries_with h node n e some there = elim (same_or_not (n - 1) (node - 1)) [
  | inl same ↦
      let at : node - 1 < length h = omega (arith, some, there) in
      subst (λ (k : ℕ). length (get_or h k []) ≤ length (get_or (with_entry h node e) k [])) (sym same)
      (rw (get_or-set_same h (node - 1) (entries_of h node ++ e ∷ []) [] at) (omega (arith, length-append (entries_of h node) (e ∷ []))))
  | inr other ↦ rw (get_or-set_other h (node - 1) (n - 1) (entries_of h node ++ e ∷ []) [] other) (omega arith)
]

-- no entry has a greater number than its node has entries
within_by : (node num : ℕ) (es : List Entry) (x : Made) → In x (made_by node num es) → x.fact.num < num + length es
within_by node num [] x m = absurd m
within_by node num (e ∷ es) x (inl s) = omega (arith, ap (λ (y : Made). y.fact.num) s)
within_by node num (e ∷ es) x (inr m) = omega (arith, within_by node (num + 1) es x m)

within_from : (node : ℕ) (h : History) (x : Made) → In x (made_from node h) → (i : ℕ) × (x.fact.origin ≡ node + i) × (x.fact.num ≤ length (get_or h i []))
within_from node [] x m = absurd m
within_from node (es ∷ h) x m = elim (in_append (made_by node 1 es) (made_from (node + 1) h) x m) [
  | inl own ↦ (0, omega (arith, (made_by_at node 1 es x own).0), omega (arith, within_by node 1 es x own))
  | inr other ↦ let rest = within_from (node + 1) h x other in (suc rest.0, omega (arith, rest.1), rest.2)
]

within_made : (h : History) (x : Made) → In x (made h) → (1 ≤ x.fact.origin) × (x.fact.num ≤ length (entries_of h x.fact.origin))
within_made h x m =
    let found = within_from 1 h x m in
    let place : found.0 ≡ x.fact.origin - 1 = omega (arith, found.1) in
    (omega (arith, found.1), subst (λ (i : ℕ). x.fact.num ≤ length (get_or h i [])) place found.2)

-- Fronts over the longer history

-- the raised front counts no less
pub below_raised : (v : List ℕ) (node : ℕ) → IsBelow v (raised v node)
below_raised v node = λ n. by v (node - 1) (n - 1)
  where
    by : (v : List ℕ) (i k : ℕ) → get_or v k 0 ≤ get_or (slice_set v i (get_or v i 0 + 1)) k 0
    by [] i k = omega arith
    by (a ∷ v) zero zero = omega arith
    by (a ∷ v) zero (suc k) = omega arith
    by (a ∷ v) (suc i) zero = omega arith
    by (a ∷ v) (suc i) (suc k) = by v i k

-- of the facts that were there, the raised front counts those that were counted
counted_before : (h : History) (v : List ℕ) (node : ℕ) → 1 ≤ node → node ≤ length v → count v node ≡ length (entries_of h node)
    → (x : Made) → In x (made h) → is_counted (raised v node) x.fact ≡ is_counted v x.fact
counted_before h v node some there own x m =
    let within = within_made h x m in
    elim (same_or_not x.fact.origin node) [
      | inl same ↦
          let old : x.fact.num ≤ count v x.fact.origin = omega (arith, within.1, own, ap (λ (n : ℕ). length (entries_of h n)) same, ap (count v) same) in
          le_counted (raised v node) x.fact (omega (arith, old, below_raised v node x.fact.origin)) ∙ sym (le_counted v x.fact old)
      | inr other ↦ ap (λ (n : ℕ). nat_le x.fact.num n) (raised_else v node x.fact.origin some within.0 other)
    ]

-- a front that counts no more than there was does not count the new fact
new_uncounted : (h : History) (u : List ℕ) (node : ℕ) (e : Entry) → IsClosed h u → is_counted u (new_of h node e).fact ≡ false
new_uncounted h u node e closed = beyond (length (entries_of h node)) (count u node) (closed.within node)
  where
    beyond : (a b : ℕ) → b ≤ a → nat_le (a + 1) b ≡ false
    beyond a b le = grind (arith, nat_tests)

parts : (p : Fact → Bool) (before after : List Made) → filter p (map fact_of (before ++ after)) ≡ filter p (map fact_of before) ++ filter p (map fact_of after)
parts p before after = ap (filter p) (map-append fact_of before after) ∙ filter-append p (map fact_of before) (map fact_of after)

-- the set of a front that is closed in the shorter history stays the same
pub unmoved : (h : History) (u : List ℕ) (node : ℕ) (e : Entry) → 1 ≤ node → node ≤ length h → IsClosed h u → facts (with_entry h node e) u ≡ facts h u
unmoved h u node e some there closed =
    let more = more_made h node e some there in
    let late : is_counted u (new_of h node e).fact ≡ false = new_uncounted h u node e closed in
    ap (λ (ms : List Made). filter (is_counted u) (map fact_of ms)) more.new
    ∙ parts (is_counted u) more.before (new_of h node e ∷ more.after)
    ∙ ap (λ (b : Bool). filter (is_counted u) (map fact_of more.before) ++ cond b ((new_of h node e).fact ∷ filter (is_counted u) (map fact_of more.after)) (filter (is_counted u) (map fact_of more.after))) late
    ∙ sym (parts (is_counted u) more.before more.after)
    ∙ ap (λ (ms : List Made). filter (is_counted u) (map fact_of ms)) (sym more.old)

-- such a front stays closed
pub closed_still : (h : History) (u : List ℕ) (node : ℕ) (e : Entry) → 1 ≤ node → node ≤ length h → IsClosed h u → IsClosed (with_entry h node e) u
closed_still h u node e some there closed =
    record {
      kept = λ x m bound. elim (old_or_new h node e some there x m) [
        | inl old ↦ closed.kept x old bound
        | inr new ↦ absurd (omega (arith, bound, closed.within node, ap (λ (y : Made). y.fact.num) new, ap (λ (y : Made). count u y.fact.origin) new))
      ];
      nodes = closed.nodes ∙ sym (length_with h node e);
      within = λ n. omega (arith, closed.within n, entries_with h node n e some there);
    }

-- and the front of another node still has all that the other node entered
pub current_still : (h : History) (node other : ℕ) (u : List ℕ) (e : Entry) → 1 ≤ node → node ≤ length h → IsCurrent h other u → (other ≡ node → ⊥) → IsCurrent (with_entry h node e) other u
current_still h node other u e some there current apart =
    let places : other - 1 ≡ node - 1 → ⊥ = λ same. apart (omega (arith, same, some, current.some)) in
    record {
      some = current.some;
      there = omega (arith, current.there, length_with h node e);
      closed = closed_still h u node e some there current.closed;
      own = current.own ∙ ap (λ (es : List Entry). length es) (sym (get_or-set_other h (node - 1) (other - 1) (entries_of h node ++ e ∷ []) [] places));
    }

-- the set of a front that has all that the node entered, and the set of that front raised by one
-- for the node, are one fact apart
pub one_more : (h : History) (v : List ℕ) (node : ℕ) (e : Entry) → 1 ≤ node → node ≤ length h → IsClosed h v → count v node ≡ length (entries_of h node)
    → IsMore (record { origin = node; num = count v node + 1; body = e.body }) (facts h v) (facts (with_entry h node e) (raised v node))
one_more h v node e some there closed own =
    let more = more_made h node e some there in
    let w = raised v node in
    let f : Fact = record { origin = node; num = count v node + 1; body = e.body } in
    let short : node ≤ length v = omega (arith, there, closed.nodes) in
    let is : (new_of h node e).fact ≡ f = ap (λ (n : ℕ). record { origin = node; num = n + 1; body = e.body }) (sym own) in
    let counted : is_counted w (new_of h node e).fact ≡ true = le_counted w (new_of h node e).fact (omega (arith, own, raised_here v node some short)) in
    let agree : (x : Made) → In x (more.before ++ more.after) → is_counted w x.fact ≡ is_counted v x.fact =
    (λ x m. counted_before h v node some short own x (subst (λ (ms : List Made). In x ms) (sym more.old) m)) in
    record {
      before = filter (is_counted v) (map fact_of more.before);
      after = filter (is_counted v) (map fact_of more.after);
      was = ap (λ (ms : List Made). filter (is_counted v) (map fact_of ms)) more.old ∙ parts (is_counted v) more.before more.after;
      is = ap (λ (ms : List Made). filter (is_counted w) (map fact_of ms)) more.new
          ∙ parts (is_counted w) more.before (new_of h node e ∷ more.after)
          ∙ ap (λ (b : Bool). filter (is_counted w) (map fact_of more.before) ++ cond b ((new_of h node e).fact ∷ filter (is_counted w) (map fact_of more.after)) (filter (is_counted w) (map fact_of more.after))) counted
          ∙ ap (λ (g : Fact). filter (is_counted w) (map fact_of more.before) ++ g ∷ filter (is_counted w) (map fact_of more.after)) is
          ∙ ap (λ (fs : List Fact). fs ++ f ∷ filter (is_counted w) (map fact_of more.after)) (agreed w v more.before (λ x m. agree x (in_left more.before more.after x m)))
          ∙ ap (λ (fs : List Fact). filter (is_counted v) (map fact_of more.before) ++ f ∷ fs) (agreed w v more.after (λ x m. agree x (in_right more.before more.after x m)));
      some = some;
      newest = λ g m o. let bound = counted_le v g (filter_in (is_counted v) (map fact_of (made h)) g m).1 in omega (arith, bound, ap (count v) o);
    }
  where
    agreed : (w v : List ℕ) (ms : List Made) → ((x : Made) → In x ms → is_counted w x.fact ≡ is_counted v x.fact) → filter (is_counted w) (map fact_of ms) ≡ filter (is_counted v) (map fact_of ms)
    agreed w v ms agree = filter_agree (is_counted w) (is_counted v) (map fact_of ms) (λ f m.
        let found = map_in fact_of ms f m in
        subst (λ (g : Fact). is_counted w g ≡ is_counted v g) (sym found.2) (agree found.0 found.1))

-- the raised front has all that the node has then entered
pub own_with : (h : History) (v : List ℕ) (node : ℕ) (e : Entry) → 1 ≤ node → node ≤ length h → IsClosed h v → count v node ≡ length (entries_of h node) → count (raised v node) node ≡ length (entries_of (with_entry h node e) node)
own_with h v node e some there closed own =
    let at : node - 1 < length h = omega (arith, some, there) in
    let short : node ≤ length v = omega (arith, there, closed.nodes) in
    rw (get_or-set_same h (node - 1) (entries_of h node ++ e ∷ []) [] at)
    (omega (arith, raised_here v node some short, own, length-append (entries_of h node) (e ∷ [])))

-- the raised front is closed in the longer history, if the node kept the front that was raised
pub closed_with : (h : History) (v : List ℕ) (node : ℕ) (e : Entry) → 1 ≤ node → node ≤ length h → IsClosed h v → count v node ≡ length (entries_of h node) → e.front ≡ v → IsClosed (with_entry h node e) (raised v node)
closed_with h v node e some there closed own front =
    let short : node ≤ length v = omega (arith, there, closed.nodes) in
    let up : IsBelow v (raised v node) = below_raised v node in
    record {
      kept = λ x m bound. elim (old_or_new h node e some there x m) [
        | inl old ↦
            let counted : is_counted v x.fact ≡ true = sym (counted_before h v node some short own x old) ∙ le_counted (raised v node) x.fact bound in
            let below : IsBelow x.front v = closed.kept x old (counted_le v x.fact counted) in
            (λ n. omega (arith, below n, up n))
        | inr new ↦ subst (λ (u : List ℕ). IsBelow u (raised v node)) (sym (ap (λ (y : Made). y.front) new ∙ front)) up
      ];
      nodes = length-set v (node - 1) (count v node + 1) ∙ (closed.nodes ∙ sym (length_with h node e));
      within = λ n. elim (same_or_not (n - 1) (node - 1)) [
        | inl same ↦ subst (λ (k : ℕ). get_or (raised v node) k 0 ≤ length (get_or (with_entry h node e) k [])) (sym same) (omega (arith, own_with h v node e some there closed own))
        | inr other ↦
            rw (get_or-set_other v (node - 1) (n - 1) (count v node + 1) 0 other)
            (rw (get_or-set_other h (node - 1) (n - 1) (entries_of h node ++ e ∷ []) [] other) (closed.within n))
      ];
    }

-- a history stays lawful with one more lawful entry
pub lawful_with : (h : History) (v : List ℕ) (node : ℕ) (e : Entry) → 1 ≤ node → node ≤ length h → IsClosed h v → count v node ≡ length (entries_of h node) → IsLawful h → e.front ≡ v → IsLawfulBody (facts h v) v node e.body → IsLawful (with_entry h node e)
lawful_with h v node e some there closed own lawful front body =
    record {
      each = λ x m. elim (old_or_new h node e some there x m) [
        | inl old ↦ still x (lawful.each x old)
        | inr new ↦ subst (IsLawfulEntry (with_entry h node e)) (sym (new ∙ ap (λ (u : List ℕ). record { fact = (new_of h node e).fact; front = u }) front)) here
      ];
    }
  where
    longer : History
    longer = with_entry h node e

    still : (x : Made) → IsLawfulEntry h x → IsLawfulEntry longer x
    still x entry =
        record {
          closed = closed_still h x.front node e some there entry.closed;
          own = entry.own;
          lawful = subst (λ (S : List Fact). IsLawfulBody S x.front x.fact.origin x.fact.body) (sym (unmoved h x.front node e some there entry.closed)) entry.lawful;
        }

    here : IsLawfulEntry longer (record { fact = (new_of h node e).fact; front = v })
    here =
        record {
          closed = closed_still h v node e some there closed;
          own = ap (λ (n : ℕ). n + 1) own;
          lawful = subst (λ (S : List Fact). IsLawfulBody S v node e.body) (sym (unmoved h v node e some there closed)) body;
        }

-- what is entered for an accepted command is lawful
pub accepted_lawful : (S : List Fact) (v : List ℕ) (node : ℕ) (c : Command) → judge S v node c ≡ Accepted → IsLawfulBody S v node (body_for S c)
accepted_lawful S v node c taken =
    record {
      accepted = ap (judge S v node) (asked S c) ∙ taken;
      made = ap (body_for S) (asked S c);
    }
  where
    asked : (S : List Fact) (c : Command) → command_of (body_for S c) ≡ c
    asked S (BeginAsked parent deadline) = refl
    asked S (JoinAsked l links) = refl
    asked S (LeaveAsked l m) = refl
    asked S (DecideAsked l verdict) = refl
    asked S (ReportAsked l m act outcome) = refl
    asked S (ForgotAsked l m) = refl
    asked S (ToldAsked l m) = refl
    asked S (PurgeAsked l) = refl
