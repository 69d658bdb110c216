-- closed sets of lawful histories are settled
use Rattle.std.proofs.Common.{◌≡◌, inl, inr, ◌≤◌, ◌<◌, ◌+◌, ◌-◌, ◌&&◌, ℕ, zero, suc, List, [], ◌∷◌, ◌++◌, refl, sym, ap, subst, ◌∙◌, Bool, true, false, cond, arith, filter, length, map, get_or, nat_le, nat_lt}
use Rattle.std.proofs.lemmas.Bool.Decides.{nat_tests}
use Rattle.std.proofs.lemmas.List.{map-append}
use Rattle.state_ids.specs.Ids.{Id}
use Rattle.state_ids.specs.Fronts.{IsBelow, count}
use Rattle.state_facts.specs.declared.fact.Body.{Body}
use Rattle.state_facts.specs.declared.fact.Body.TheVariants.{Join}
use Rattle.state_facts.specs.declared.fact.Fact.{Fact}
use Rattle.state_facts.specs.Links.{Links}
use Rattle.state_facts.specs.Lists.{In, IsInside}
use Rattle.state_facts.specs.Sets.{NamesEarlier, gives_number, member_number, numbers_given}
use Rattle.state_facts.proofs.Membership.{filter_in, in_append, in_filter, in_map, map_in}
use Rattle.state_forest.specs.Records.{is_named}
use Rattle.state_forest.specs.Standing.{AreOnce, IsWhole}
use Rattle.state_forest.proofs.Bools.{all_from, all_in}
use Rattle.state_forest.proofs.GiversOfNumbers.{filter_both}
use Rattle.theory_history.specs.Growth.{IsSettled}
use Rattle.theory_history.specs.Histories.{Entry, History, IsClosed, IsLawful, IsLawfulEntry, Made, entries_of, facts, is_counted, made, made_by, made_from}
use Rattle.theory_history.specs.Views.{IsCounted}
use Rattle.theory_history.specs.Replies.{body_for, command_of, next_fact}
use Rattle.state_facts.specs.declared.command.Command.{Command}
use Rattle.theory_history.proofs.AcceptedCommands.{lawful_gives}
use Rattle.theory_history.proofs.SettledFacts.{IsEntered, MeetsSettled, begun_inside, body_gives, earlier_new, filter_agree, meets_new, join_gives, joined_as, named_new, settled_from, whole_from}
use Rattle.theory_history.proofs.Basics.{in_left, in_right}

-- Entries as facts

abbrev pub fact_of : Made → Fact
fact_of e = e.fact

-- the entries of a node are its facts, numbered from `num` on
pub made_by_at : (node num : ℕ) (es : List Entry) (e : Made) → In e (made_by node num es) → (e.fact.origin ≡ node) × (num ≤ e.fact.num)
made_by_at node num [] e m = absurd m
made_by_at node num (x ∷ es) e (inl s) = (ap (λ (y : Made). y.fact.origin) s, omega (arith, ap (λ (y : Made). y.fact.num) s))
made_by_at node num (x ∷ es) e (inr m) = let rest = made_by_at node (num + 1) es e m in (rest.0, omega (arith, rest.1))

-- and the same for the entries of all nodes from `node` on
pub made_from_at : (node : ℕ) (h : History) (e : Made) → In e (made_from node h) → (node ≤ e.fact.origin) × (1 ≤ e.fact.num)
made_from_at node [] e m = absurd m
made_from_at node (es ∷ h) e m = elim (in_append (made_by node 1 es) (made_from (node + 1) h) e m) [
  | inl own ↦ (omega (arith, (made_by_at node 1 es e own).0), (made_by_at node 1 es e own).1)
  | inr other ↦ (omega (arith, (made_from_at (node + 1) h e other).0), (made_from_at (node + 1) h e other).1)
]

entry_by : (node num i : ℕ) (es : List Entry) → i < length es → (e : Made) × In e (made_by node num es) × (e.fact.origin ≡ node) × (e.fact.num ≡ num + i)
entry_by node num i [] h = absurd (omega (arith, h))
entry_by node num zero (x ∷ es) h = (record { fact = record { origin = node; num = num; body = x.body }; front = x.front }, inl refl, refl, omega arith)
entry_by node num (suc i) (x ∷ es) h =
    let rest = entry_by node (num + 1) i es (omega (arith, h)) in
    (rest.0, inr rest.1, rest.2, omega (arith, rest.3))

entry_from : (node i num : ℕ) (h : History) → 1 ≤ num → num ≤ length (get_or h i []) → (e : Made) × In e (made_from node h) × (e.fact.origin ≡ node + i) × (e.fact.num ≡ num)
entry_from node i num [] one bound = absurd (omega (arith, one, bound))
entry_from node zero num (es ∷ h) one bound =
    let found = entry_by node 1 (num - 1) es (omega (arith, one, bound)) in
    (found.0, in_left (made_by node 1 es) (made_from (node + 1) h) found.0 found.1, omega (arith, found.2), omega (arith, found.3, one))
entry_from node (suc i) num (es ∷ h) one bound =
    let found = entry_from (node + 1) i num h one bound in
    (found.0, in_right (made_by node 1 es) (made_from (node + 1) h) found.0 found.1, omega (arith, found.2), found.3)

-- each number up to the length of a node's list is that of an entry
entry_at : (h : History) (node num : ℕ) → 1 ≤ node → 1 ≤ num → num ≤ length (entries_of h node) → (e : Made) × In e (made h) × (e.fact.origin ≡ node) × (e.fact.num ≡ num)
entry_at h node num some one bound =
    let found = entry_from 1 (node - 1) num h one bound in
    (found.0, found.1, omega (arith, found.2, some), found.3)

-- No two facts have the same origin and the same number

once_append : (xs ys : List Fact) → AreOnce xs → AreOnce ys → ((x y : Fact) → In x xs → In y ys → x.origin ≡ y.origin → x.num ≡ y.num → ⊥) → AreOnce (xs ++ ys)
once_append [] ys a b apart = b
once_append (x ∷ xs) ys a b apart = (
  all_from (λ (g : Fact). x.origin ≡ g.origin → x.num ≡ g.num → ⊥) (xs ++ ys) (λ g m. elim (in_append xs ys g m) [
    | inl l ↦ all_in (λ (g : Fact). x.origin ≡ g.origin → x.num ≡ g.num → ⊥) xs a.0 g l
    | inr r ↦ apart x g (inl refl) r
  ]),
  once_append xs ys a.1 b (λ f g m n. apart f g (inr m) n),
)

once_filter : (p : Fact → Bool) (xs : List Fact) → AreOnce xs → AreOnce (filter p xs)
once_filter p [] a = tt
once_filter p (x ∷ xs) a = by (p x) (once_filter p xs a.1)
  where
    by : (b : Bool) → AreOnce (filter p xs) → AreOnce (cond b (x ∷ filter p xs) (filter p xs))
    by true rest = (
      all_from (λ (g : Fact). x.origin ≡ g.origin → x.num ≡ g.num → ⊥) (filter p xs) (λ g m.
          all_in (λ (g : Fact). x.origin ≡ g.origin → x.num ≡ g.num → ⊥) xs a.0 g (filter_in p xs g m).0),
      rest,
    )
    by false rest = rest

once_by : (node num : ℕ) (es : List Entry) → AreOnce (map fact_of (made_by node num es))
once_by node num [] = tt
once_by node num (x ∷ es) = (
  all_from (λ (g : Fact). node ≡ g.origin → num ≡ g.num → ⊥) (map fact_of (made_by node (num + 1) es)) (λ g m o n.
      let found = map_in fact_of (made_by node (num + 1) es) g m in
      omega (arith, n, ap (λ (y : Fact). y.num) found.2, (made_by_at node (num + 1) es found.0 found.1).1)),
  once_by node (num + 1) es,
)

once_from : (node : ℕ) (h : History) → AreOnce (map fact_of (made_from node h))
once_from node [] = tt
once_from node (es ∷ h) =
    subst AreOnce (sym (map-append fact_of (made_by node 1 es) (made_from (node + 1) h)))
    (once_append (map fact_of (made_by node 1 es)) (map fact_of (made_from (node + 1) h)) (once_by node 1 es) (once_from (node + 1) h) (λ f g m n o k.
    let own = map_in fact_of (made_by node 1 es) f m in
    let other = map_in fact_of (made_from (node + 1) h) g n in
    omega (arith, o, ap (λ (y : Fact). y.origin) own.2, ap (λ (y : Fact). y.origin) other.2, (made_by_at node 1 es own.0 own.1).0, (made_from_at (node + 1) h other.0 other.1).0)))

facts_once : (h : History) (v : List ℕ) → AreOnce (facts h v)
facts_once h v = once_filter (is_counted v) (map fact_of (made h)) (once_from 1 h)

-- The set of a front

-- a front that counts a fact reaches its number
pub counted_le : (v : List ℕ) (f : Fact) → is_counted v f ≡ true → f.num ≤ count v f.origin
counted_le v f e = grind (arith, nat_tests)

-- and a front counts each fact whose number it reaches
pub le_counted : (v : List ℕ) (f : Fact) → f.num ≤ count v f.origin → is_counted v f ≡ true
le_counted v f h = grind (arith, nat_tests)

-- a fact of the set is that of an entry that the front counts
pub entry_of : (h : History) (v : List ℕ) (f : Fact) → In f (facts h v) → (e : Made) × In e (made h) × (f ≡ e.fact) × (f.num ≤ count v f.origin)
entry_of h v f m =
    let there = filter_in (is_counted v) (map fact_of (made h)) f m in
    let found = map_in fact_of (made h) f there.0 in
    (found.0, found.1, found.2, counted_le v f there.1)

-- and conversely
pub in_facts : (h : History) (v : List ℕ) (e : Made) → In e (made h) → e.fact.num ≤ count v e.fact.origin → In e.fact (facts h v)
in_facts h v e m bound = in_filter (is_counted v) (map fact_of (made h)) e.fact (in_map fact_of (made h) e m) (le_counted v e.fact bound)

-- a front that counts no more counts a part of the set
pub facts_inside : (h : History) (u v : List ℕ) → IsBelow u v → IsInside (facts h u) (facts h v)
facts_inside h u v below f m =
    let there = filter_in (is_counted u) (map fact_of (made h)) f m in
    in_filter (is_counted v) (map fact_of (made h)) f there.0 (le_counted v f (omega (arith, counted_le u f there.1, below f.origin)))

-- a closed front counts its set
pub closed_counted : (h : History) (v : List ℕ) → IsClosed h v → IsCounted (facts h v) v
closed_counted h v closed =
    record {
      some = λ f m.
          let e = entry_of h v f m in
          let at = made_from_at 1 h e.0 e.1 in
          (omega (arith, at.0, ap (λ (y : Fact). y.origin) e.2), omega (arith, at.1, ap (λ (y : Fact). y.num) e.2));
      counted = λ f m. (entry_of h v f m).3;
      all = λ node num some one bound.
          let e = entry_at h node num some one (omega (arith, bound, closed.within node)) in
          (e.0.fact, in_facts h v e.0 e.1 (omega (arith, bound, e.3, ap (count v) e.2)), e.2, e.3);
    }

-- Lawful entries

-- the command that an entry answers
abbrev asked : Made → Command
asked e = command_of e.fact.body

-- an entry is the next fact of its node over the facts that its front counts
next_is : (h : History) (e : Made) → IsLawfulEntry h e → e.fact ≡ next_fact (facts h e.front) e.front e.fact.origin (asked e)
next_is h e entry =
    ap (λ (n : ℕ). record { origin = e.fact.origin; num = n; body = e.fact.body }) (sym entry.own)
    ∙ ap (λ (b : Body). record { origin = e.fact.origin; num = count e.front e.fact.origin + 1; body = b }) (sym entry.lawful.made)

giver_home : (h : History) → IsLawful h → (e : Made) (l : Id) → In e (made h) → gives_number l e.fact.body ≡ true → e.fact.origin ≡ l.home
giver_home h lawful e l m gives =
    let entry = lawful.each e m in
    let J = facts h e.front in
    let asked_gives : gives_number l (body_for J (asked e)) ≡ true = ap (gives_number l) entry.lawful.made ∙ gives in
    sym (body_gives J e.front e.fact.origin (asked e) l (lawful_gives J e.front e.fact.origin (asked e) entry.lawful.accepted) asked_gives).0

-- a closed set is whole
closed_whole : (h : History) → IsLawful h → (v : List ℕ) → IsClosed h v → IsWhole (facts h v)
closed_whole h lawful v closed =
    whole_from (facts h v)
    (λ f m.
    let e = entry_of h v f m in
    let entry = lawful.each e.0 e.1 in
    let J = facts h e.0.front in
    subst NamesEarlier (sym (e.2 ∙ next_is h e.0 entry)) (earlier_new J e.0.front e.0.fact.origin (asked e.0) (closed_counted h e.0.front entry.closed) entry.lawful.accepted))
    (λ f l m named.
    let e = entry_of h v f m in
    let entry = lawful.each e.0 e.1 in
    let J = facts h e.0.front in
    let bound : e.0.fact.num ≤ count v e.0.fact.origin = subst (λ (x : Fact). x.num ≤ count v x.origin) e.2 e.3 in
    let asked_named : is_named l (body_for J (asked e.0)) ≡ true = subst (λ (x : Fact). is_named l x.body ≡ true) (e.2 ∙ next_is h e.0 entry) named in
    begun_inside J (facts h v) (facts_inside h e.0.front v (closed.kept e.0 e.1 bound)) l (named_new J e.0.front e.0.fact.origin (asked e.0) l entry.lawful.accepted asked_named))

-- the member number that an entry gives counts the givers that its front counts
next_number : (h : History) → IsLawful h → (v : List ℕ) → IsClosed h v → (e : Made) → In e (made h) → e.fact.num ≤ count v e.fact.origin → (l : Id) → gives_number l e.fact.body ≡ true → member_number (facts h v) l (count e.front e.fact.origin + 1) ≡ numbers_given (facts h e.front) l + 1
next_number h lawful v closed e m bound l gives =
    let n = count e.front e.fact.origin + 1 in
    let all = map fact_of (made h) in
    ap (λ (xs : List Fact). length xs + 1)
    (sym (filter_both (is_counted v) (λ f. gives_number l f.body && nat_lt f.num n) all)
    ∙ (filter_agree (λ f. is_counted v f && (gives_number l f.body && nat_lt f.num n)) (λ f. is_counted e.front f && gives_number l f.body) all agree
    ∙ filter_both (is_counted e.front) (λ f. gives_number l f.body) all))
  where
    never : (b c : Bool) → (b && false) ≡ (c && false)
    never true true = refl
    never true false = refl
    never false true = refl
    never false false = refl

    alike : (a u w : ℕ) → u ≤ w → (nat_le a w && (true && nat_lt a (u + 1))) ≡ (nat_le a u && true)
    alike a u w h = grind (arith, nat_tests)

    agree : (f : Fact) → In f (map fact_of (made h)) → (is_counted v f && (gives_number l f.body && nat_lt f.num (count e.front e.fact.origin + 1))) ≡ (is_counted e.front f && gives_number l f.body)
    agree f k = by (gives_number l f.body) refl
      where
        by : (b : Bool) → gives_number l f.body ≡ b → (is_counted v f && (b && nat_lt f.num (count e.front e.fact.origin + 1))) ≡ (is_counted e.front f && b)
        by false t = never (is_counted v f) (is_counted e.front f)
        by true t =
            let found = map_in fact_of (made h) f k in
            let home : found.0.fact.origin ≡ l.home = giver_home h lawful found.0 l found.1 (subst (λ (x : Fact). gives_number l x.body ≡ true) found.2 t) in
            let same : f.origin ≡ e.fact.origin = ap (λ (x : Fact). x.origin) found.2 ∙ (home ∙ sym (giver_home h lawful e l m gives)) in
            subst (λ (o : ℕ). (nat_le f.num (count v o) && (true && nat_lt f.num (count e.front e.fact.origin + 1))) ≡ (nat_le f.num (count e.front o) && true)) (sym same)
            (alike f.num (count e.front e.fact.origin) (count v e.fact.origin) (closed.kept e m bound e.fact.origin))

-- joins have the member numbers of their places
join_number : (h : History) → IsLawful h → (v : List ℕ) → IsClosed h v → (f : Fact) (l : Id) (m : ℕ) (links : Links) → In f (facts h v) → f.body ≡ Join l m links → m ≡ member_number (facts h v) l f.num
join_number h lawful v closed f l m links k joins =
    let e = entry_of h v f k in
    let entry = lawful.each e.0 e.1 in
    let J = facts h e.0.front in
    let bound : e.0.fact.num ≤ count v e.0.fact.origin = subst (λ (x : Fact). x.num ≤ count v x.origin) e.2 e.3 in
    let body : e.0.fact.body ≡ Join l m links = ap (λ (x : Fact). x.body) (sym e.2) ∙ joins in
    let given = joined_as J e.0.front (asked e.0) l m links (entry.lawful.made ∙ body) in
    let number = next_number h lawful v closed e.0 e.1 bound l (join_gives l m links e.0.fact.body body) in
    given ∙ (sym number ∙ ap (member_number (facts h v) l) (entry.own ∙ ap (λ (x : Fact). x.num) (sym e.2)))

-- a closed set of a lawful history is settled
pub closed_settled : (h : History) → IsLawful h → (v : List ℕ) → IsClosed h v → IsSettled (facts h v)
closed_settled h lawful v closed = settled_from (facts h v) (closed_whole h lawful v closed) (facts_once h v) (λ f m.
    let e = entry_of h v f m in
    let entry = lawful.each e.0 e.1 in
    let J = facts h e.0.front in
    let is = next_is h e.0 entry in
    let bound : e.0.fact.num ≤ count v e.0.fact.origin = subst (λ (x : Fact). x.num ≤ count v x.origin) e.2 e.3 in
    let inside : IsInside J (facts h v) = facts_inside h e.0.front v (closed.kept e.0 e.1 bound) in
    let new : IsEntered J (facts h v) e.0.front e.0.fact.origin (asked e.0) =
    record {
      accepted = entry.lawful.accepted;
      part = inside;
      there = subst (λ (x : Fact). In x (facts h v)) (e.2 ∙ is) m;
      whole = closed_whole h lawful e.0.front entry.closed;
      once = facts_once h e.0.front;
      next = λ l gives. next_number h lawful v closed e.0 e.1 bound l (ap (gives_number l) (sym entry.lawful.made) ∙ gives);
      joins = λ g l n links k joins. join_number h lawful v closed g l n links (inside g k) joins;
    } in
    subst (MeetsSettled (facts h v)) (sym (e.2 ∙ is)) (meets_new J (facts h v) e.0.front e.0.fact.origin (asked e.0) new (closed_whole h lawful v closed) (facts_once h v)))
