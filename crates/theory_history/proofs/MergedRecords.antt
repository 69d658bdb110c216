-- the record of an LRA in a union, made of those in the two sets
use Rattle.std.proofs.Common.{◌≡◌, inl, inr, ◌≤◌, ◌<◌, ◌+◌, ◌-◌, ◌==◌, ◌&&◌, ℕ, zero, suc, List, [], ◌∷◌, ◌++◌, refl, sym, ap, ◌∙◌, Bool, true, false, cond, arith, Option, Some, None, filter, map, max, length, nat_le, nat_lt, get_or}
use Rattle.std.proofs.lemmas.Bool.Decides.{nat_tests}
use Rattle.std.proofs.lemmas.List.{get_or_append_left, length-map, map-append}
use Rattle.std.proofs.Math.Seq.{get_or-append_seam}
use Rattle.std.specs.List.{list_any}
use Rattle.state_ids.specs.Ids.{Id, same_id}
use Rattle.state_ids.specs.Fronts.{count, join_fronts}
use Rattle.state_ids.specs.States.{level, same_act}
use Rattle.state_ids.specs.declared.outcome.Act.{Act}
use Rattle.state_ids.specs.declared.outcome.Act.TheVariants.{Complete, Compensate}
use Rattle.state_ids.specs.declared.outcome.Outcome.{Outcome}
use Rattle.state_facts.specs.declared.fact.Body.{Body}
use Rattle.state_facts.specs.declared.fact.Body.TheVariants.{Begin, Join, Leave, Decide, Report, Forgot, Told, Purge}
use Rattle.state_facts.specs.declared.fact.Fact.{Fact}
use Rattle.state_facts.specs.Duties.{has_forgot, is_forgot, has_told, is_told_of}
use Rattle.state_facts.specs.Lists.{In}
use Rattle.state_facts.specs.Sets.{begins, has_left, heard, is_begun, is_leave, member_number, parent_of, reported}
use Rattle.state_facts.proofs.Heard.{heard_inside, level_heard, same_level}
use Rattle.state_facts.proofs.Membership.{any_from, any_gives, filter_in, in_filter, most_bounds, most_least, most_union, same_bools}
use Rattle.state_forest.specs.declared.record.Record.{Record}
use Rattle.state_forest.specs.Records.{deadline_given, deadline_of, givers, is_about, is_named, member_by, members_of, nodes_to, place_in, record_of, stamp}
use Rattle.state_forest.specs.Standing.{AreOnce}
use Rattle.state_forest.proofs.Begins.{once_in, parent_found}
use Rattle.state_forest.proofs.Bools.{all_from, all_in, and_left}
use Rattle.state_forest.proofs.ParentsAndChains.{begins_at, parent_home}
use Rattle.state_forest.proofs.GiversOfNumbers.{Ascend, giver_in, givers_ascend, in_givers, number_is}
use Rattle.state_forest.specs.RecordMerges.{home_stamp, merged_members, merged_record}
use Rattle.theory_history.proofs.ListsWithOneMore.{map_agree}
use Rattle.theory_history.proofs.Prefixes.{same_ascending}
use Rattle.theory_history.proofs.TwoClosedSets.{AreTogether, decision_union, givers_union, known, named_leave, stamp_reaches, swapped}
use Rattle.theory_history.proofs.MergedMembers.{members_union}
use Rattle.theory_history.proofs.Basics.{about_named, at_most, length_nodes}

-- Lists of what each node has

-- the element at a node's place is that of the node
pub nth_of : {X : Type 0} (g : ℕ → X) (d : X) (n k : ℕ) → k < n → get_or (map g (nodes_to n)) k d ≡ g (suc k)
nth_of g d zero k l = absurd (omega (arith, l))
nth_of g d (suc n) k l =
    let size : length (map g (nodes_to n)) ≡ n = length-map (nodes_to n) g ∙ length_nodes n in
    ap (λ xs. get_or xs k d) (map-append g (nodes_to n) (suc n ∷ []))
    ∙ (elim (at_most n k) [
      | inl ge ↦
          let at : k ≡ length (map g (nodes_to n)) = omega (arith, ge, l, size) in
          let same : k ≡ n = omega (arith, ge, l) in
          ap (λ i. get_or (map g (nodes_to n) ++ g (suc n) ∷ []) i d) at ∙ get_or-append_seam (map g (nodes_to n)) (g (suc n)) [] d ∙ ap (λ i. g (suc i)) (sym same)
      | inr lt ↦ get_or_append_left (map g (nodes_to n)) (g (suc n) ∷ []) d k (omega (arith, lt, size)) ∙ nth_of g d n k lt
    ])

-- the count that a list of each node's counts has at a node is that node's
pub count_nodes : (g : ℕ → ℕ) (n k : ℕ) → 1 ≤ k → k ≤ n → count (map g (nodes_to n)) k ≡ g k
count_nodes g n k a b =
    let back : suc (k - 1) ≡ k = omega (arith, a) in
    nth_of g 0 n (k - 1) (omega (arith, a, b)) ∙ ap g back

-- joining the lists of each node's counts gives the greater of the two counts
pub joined_maps : (f g k : ℕ → ℕ) (ns : List ℕ) → ((n : ℕ) → k n ≡ max (f n) (g n)) → map k ns ≡ join_fronts (map f ns) (map g ns)
joined_maps f g k [] e = refl
joined_maps f g k (n ∷ ns) e = ap (λ x. x ∷ map k ns) (e n) ∙ ap (λ xs. max (f n) (g n) ∷ xs) (joined_maps f g k ns e)

-- What a begin says

deadline_found : (S : List Fact) (l : Id) (f : Fact) → AreOnce S → In f S → begins l f ≡ true → deadline_of S l ≡ deadline_given f.body
deadline_found [] l f once m e = absurd m
deadline_found (g ∷ S) l f once m e = by (λ n. deadline_found S l f once.1 n e) (begins l g) refl m
  where
    by : (In f S → deadline_of S l ≡ deadline_given f.body) → (b : Bool) → begins l g ≡ b → In f (g ∷ S) → cond b (deadline_given g.body) (deadline_of S l) ≡ deadline_given f.body
    by rest true at m =
        let one = begins_at l f e in
        let other = begins_at l g at in
        ap (λ (x : Fact). deadline_given x.body) (once_in (g ∷ S) once g f (inl refl) m (other.0 ∙ sym one.0) (other.1 ∙ sym one.1))
    by rest false at (inl s) = absurd (let wrong : begins l g ≡ true = rw s at e in cc)
    by rest false at (inr n) = rest n

ascend_filter : (p : Fact → Bool) (fs : List Fact) → Ascend fs → Ascend (filter p fs)
ascend_filter p [] h = tt
ascend_filter p (f ∷ fs) h = by (p f) (ascend_filter p fs h.1)
  where
    by : (b : Bool) → Ascend (filter p fs) → Ascend (cond b (f ∷ filter p fs) (filter p fs))
    by true rest = (all_from (λ (g : Fact). f.num < g.num) (filter p fs) (λ g m. all_in (λ (x : Fact). f.num < x.num) fs h.0 g (filter_in p fs g m).0), rest)
    by false rest = rest

place_same : (S T : List Fact) (num : ℕ) (o : Option Id) → ((p : Id) → o ≡ Some p → member_number S p num ≡ member_number T p num) → place_in S num o ≡ place_in T num o
place_same S T num None e = refl
place_same S T num (Some p) e = ap (λ n. Some (record { number = p.num; slot = n })) (e p refl)

-- Two records

le_test : (a b : ℕ) → a ≤ b → nat_le a b ≡ true
le_test a b l = grind (arith, nat_tests)

lt_test : (a b : ℕ) → b < a → nat_le a b ≡ false
lt_test a b l = grind (arith, nat_tests)

abbrev first_kept : Record → Record → Record
first_kept r t =
    record {
      home = r.home;
      num = r.num;
      parent = r.parent;
      deadline = r.deadline;
      decision = r.decision;
      stamps = join_fronts r.stamps t.stamps;
      members = merged_members r.members t.members;
    }

abbrev second_kept : Record → Record → Record
second_kept r t =
    record {
      home = r.home;
      num = r.num;
      parent = r.parent;
      deadline = r.deadline;
      decision = t.decision;
      stamps = join_fronts r.stamps t.stamps;
      members = merged_members t.members r.members;
    }

first_wins : (r t : Record) → home_stamp t ≤ home_stamp r → merged_record r t ≡ first_kept r t
first_wins r t le = let test = le_test (home_stamp t) (home_stamp r) le in rw test refl

second_wins : (r t : Record) → home_stamp r < home_stamp t → merged_record r t ≡ second_kept r t
second_wins r t lt = let test = lt_test (home_stamp t) (home_stamp r) lt in rw test refl

named_report : (l : Id) (m : ℕ) (a : Act) (body : Body) (o : Outcome) → reported l m a body ≡ Some o → is_named l body ≡ true
named_report l m a (Report id n act outcome) o e = by (same_id id l) (n == m) (same_act act a) e
  where
    by : (b c d : Bool) → cond (b && (c && d)) (Some outcome) None ≡ Some o → b ≡ true
    by true c d e = refl
    by false c d e = absurd cc
named_report l m a (Begin parent deadline) o e = absurd cc
named_report l m a (Join id n links) o e = absurd cc
named_report l m a (Leave id n) o e = absurd cc
named_report l m a (Decide id u) o e = absurd cc
named_report l m a (Forgot id n) o e = absurd cc
named_report l m a (Told id n) o e = absurd cc
named_report l m a (Purge root) o e = absurd cc

named_forgot : (l : Id) (m : ℕ) (body : Body) → is_forgot l m body ≡ true → is_named l body ≡ true
named_forgot l m (Forgot id n) e = and_left (same_id id l) (n == m) e
named_forgot l m (Begin parent deadline) e = absurd cc
named_forgot l m (Join id n links) e = absurd cc
named_forgot l m (Leave id n) e = absurd cc
named_forgot l m (Decide id u) e = absurd cc
named_forgot l m (Report id n act outcome) e = absurd cc
named_forgot l m (Told id n) e = absurd cc
named_forgot l m (Purge root) e = absurd cc

named_told : (l : Id) (m : ℕ) (body : Body) → is_told_of l m body ≡ true → is_named l body ≡ true
named_told l m (Told id n) e = and_left (same_id id l) (n == m) e
named_told l m (Begin parent deadline) e = absurd cc
named_told l m (Join id n links) e = absurd cc
named_told l m (Leave id n) e = absurd cc
named_told l m (Decide id u) e = absurd cc
named_told l m (Report id n act outcome) e = absurd cc
named_told l m (Forgot id n) e = absurd cc
named_told l m (Purge root) e = absurd cc

module _ (S T U : List Fact) (v w : List ℕ) (t : AreTogether S T U v w) (l : Id) (begun : is_begun S l ≡ true) where
  -- the member number of a nested LRA depends only on what its home did before
  number_stays : (p : Id) → p.home ≡ l.home → member_number U p l.num ≡ member_number S p l.num
  number_stays p home =
      let less : Fact → Bool = λ f. nat_lt f.num l.num in
      let b = any_gives (begins l) S begun in
      let at = begins_at l b.0 b.2 in
      let reach : l.num ≤ count v l.home = omega (arith, t.counted_first.counted b.0 b.1, at.1, ap (count v) at.0) in
      let same : filter less (givers U p) ≡ filter less (givers S p) =
      same_ascending (filter less (givers U p)) (filter less (givers S p)) (ascend_filter less (givers U p) (givers_ascend U p t.both.seated)) (ascend_filter less (givers S p) (givers_ascend S p t.first.seated))
      (λ f m.
      let kept = filter_in less (givers U p) f m in
      let g = giver_in U p f kept.0 in
      let own : f.origin ≡ l.home = t.both.seated.givers f p g.0 g.1 ∙ home in
      in_filter less (givers S p) f (in_givers S p f (elim (t.union.only f g.0) [
        | inl s ↦ s
        | inr k ↦ known S T U v w t f k (omega (arith, lesser f.num l.num kept.1, reach, ap (count v) own))
      ]) g.1) kept.1)
      (λ f m.
      let kept = filter_in less (givers S p) f m in
      let g = giver_in S p f kept.0 in
      in_filter less (givers U p) f (in_givers U p f (t.union.left f g.0) g.1) kept.1) in
      number_is U p l.num ∙ ap (λ (xs : List Fact). length xs + 1) same ∙ sym (number_is S p l.num)
    where
      lesser : (a b : ℕ) → nat_lt a b ≡ true → a < b
      lesser a b e = grind (arith, nat_tests)

  begin_stays : (deadline_of U l ≡ deadline_of S l) × (place_in U l.num (parent_of U l) ≡ place_in S l.num (parent_of S l))
  begin_stays =
      let b = any_gives (begins l) S begun in
      let there = t.union.left b.0 b.1 in
      let ps = parent_found S l b.0 t.first.seated.once b.1 b.2 in
      let pu = parent_found U l b.0 t.both.seated.once there b.2 in (
        deadline_found U l b.0 t.both.seated.once there b.2 ∙ sym (deadline_found S l b.0 t.first.seated.once b.1 b.2),
        ap (place_in U l.num) (pu ∙ sym ps) ∙ place_same U S l.num (parent_of S l) (λ p named. number_stays p (parent_home S l p t.first.whole.nested named)),
      )

  stamps_union : (nodes : ℕ) → map (stamp U l) (nodes_to nodes) ≡ join_fronts (map (stamp S l) (nodes_to nodes)) (map (stamp T l) (nodes_to nodes))
  stamps_union nodes = joined_maps (stamp S l) (stamp T l) (stamp U l) (nodes_to nodes) (λ node. most_union (λ f. cond ((f.origin == node) && is_about l f) f.num 0) S T U t.union)

  -- in the union the record is the merge of the two sets' records
  pub record_union : (nodes : ℕ) → 1 ≤ l.home → l.home ≤ nodes → record_of nodes U l ≡ merged_record (record_of nodes S l) (record_of nodes T l)
  record_union nodes low high =
      let begin = begin_stays in
      let deadline = begin.0 in
      let place = begin.1 in
      let stamps = stamps_union nodes in
      let hs : home_stamp (record_of nodes S l) ≡ stamp S l l.home = count_nodes (stamp S l) nodes l.home low high in
      let ht : home_stamp (record_of nodes T l) ≡ stamp T l l.home = count_nodes (stamp T l) nodes l.home low high in
      elim (at_most (stamp T l l.home) (stamp S l l.home)) [
        | inl le ↦
            let members = members_union S T U v w t l le in
            let decision = decision_union S T U v w t l le in
            let step : record_of nodes U l ≡ first_kept (record_of nodes S l) (record_of nodes T l) = rw (place, deadline, stamps, members, decision) refl in
            step ∙ sym (first_wins (record_of nodes S l) (record_of nodes T l) (omega (arith, le, hs, ht)))
        | inr lt ↦
            let le : stamp S l l.home ≤ stamp T l l.home = omega (arith, lt) in
            let members = members_union T S U w v (swapped S T U v w t) l le in
            let decision = decision_union T S U w v (swapped S T U v w t) l le in
            let step : record_of nodes U l ≡ second_kept (record_of nodes S l) (record_of nodes T l) = rw (place, deadline, stamps, members, decision) refl in
            step ∙ sym (second_wins (record_of nodes S l) (record_of nodes T l) (omega (arith, lt, hs, ht)))
      ]

  -- if the first set has all that the second has about an LRA, the union's record is the first's
  pub record_known : (nodes : ℕ) → ((f : Fact) → In f T → is_about l f ≡ true → In f S) → record_of nodes U l ≡ record_of nodes S l
  record_known nodes has =
      let begin = begin_stays in
      let deadline = begin.0 in
      let place = begin.1 in
      let decision = decision_union S T U v w t l (lesser l.home) in
      let members : members_of U l ≡ members_of S l = ap (map (λ f. member_by U l f.num f.body)) (givers_union S T U v w t l (lesser l.home)) ∙ map_agree (λ f. member_by U l f.num f.body) (λ f. member_by S l f.num f.body) (givers S l) (λ f m. member_known f.num f.body) in
      let stamps : map (stamp U l) (nodes_to nodes) ≡ map (stamp S l) (nodes_to nodes) =
      map_agree (stamp U l) (stamp S l) (nodes_to nodes) (λ node m. most_union (λ f. cond ((f.origin == node) && is_about l f) f.num 0) S T U t.union ∙ greater_first (stamp S l node) (stamp T l node) (lesser node)) in
      rw (place, deadline, stamps, members, decision) refl
    where
      greater_first : (m n : ℕ) → n ≤ m → max m n ≡ m
      greater_first m n h = omega (arith, h)

      bounded : (b c : Bool) (n k : ℕ) → (b ≡ true → c ≡ true → n ≤ k) → cond (b && c) n 0 ≤ k
      bounded true true n k h = h refl refl
      bounded true false n k h = omega arith
      bounded false c n k h = omega arith

      origin_is : (a b : ℕ) → (a == b) ≡ true → a ≡ b
      origin_is a b e = grind (arith, nat_tests)

      lesser : (node : ℕ) → stamp T l node ≤ stamp S l node
      lesser node =
          most_least (λ f. cond ((f.origin == node) && is_about l f) f.num 0) T (stamp S l node) (λ f m.
          bounded (f.origin == node) (is_about l f) f.num (stamp S l node) (λ at about. stamp_reaches S l f node (has f m about) (origin_is f.origin node at) about))

      -- a test that only facts about the LRA pass finds in the union what it finds in the first set
      told : (test : Fact → Bool) → ((f : Fact) → test f ≡ true → is_named l f.body ≡ true) → list_any test U ≡ list_any test S
      told test named =
          same_bools (list_any test U) (list_any test S)
          (λ e. let f = any_gives test U e in elim (t.union.only f.0 f.1) [
            | inl s ↦ any_from test S f.0 s f.2
            | inr k ↦ any_from test S f.0 (has f.0 k (about_named l f.0 (named f.0 f.2))) f.2
          ])
          (λ e. let f = any_gives test S e in any_from test U f.0 (t.union.left f.0 f.1) f.2)

      heard_known : (m : ℕ) (a : Act) → heard U l m a ≡ heard S l m a
      heard_known m a =
          same_level (heard U l m a) (heard S l m a)
          (omega (arith, heard_inside S U t.union.left l m a, level_heard U l m a, most_least (λ f. level (reported l m a f.body)) U (level (heard S l m a)) (λ f k. one f k (reported l m a f.body) refl)))
        where
          one : (f : Fact) → In f U → (o : Option Outcome) → reported l m a f.body ≡ o → level o ≤ level (heard S l m a)
          one f k None e = omega arith
          one f k (Some o) e =
              let here : In f S = elim (t.union.only f k) [ inl s ↦ s | inr n ↦ has f n (about_named l f (named_report l m a f.body o e)) ] in
              omega (arith, level_heard S l m a, most_bounds (λ g. level (reported l m a g.body)) S f here, ap level e)

      member_known : (num : ℕ) (body : Body) → member_by U l num body ≡ member_by S l num body
      member_known num (Join id m links) =
          let complete = heard_known m Complete in
          let compensate = heard_known m Compensate in
          let mark : has_forgot U l m ≡ has_forgot S l m = told (λ f. is_forgot l m f.body) (λ f e. named_forgot l m f.body e) in
          let gone : has_left U l m ≡ has_left S l m = told (λ f. is_leave l m f.body) (λ f e. named_leave l m f.body e) in
          let note : has_told U l m ≡ has_told S l m = told (λ f. is_told_of l m f.body) (λ f e. named_told l m f.body e) in
          rw (gone, complete, compensate, mark, note) refl
      member_known num (Begin parent deadline) = refl
      member_known num (Leave id m) = refl
      member_known num (Decide id u) = refl
      member_known num (Report id m act outcome) = refl
      member_known num (Forgot id m) = refl
      member_known num (Told id m) = refl
      member_known num (Purge root) = refl
