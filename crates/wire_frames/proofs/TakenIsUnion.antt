-- a view that takes the frame of a set stands for the union of its own set with that set
use Rattle.std.proofs.Common.{◌≡◌, ◌≤◌, ◌==◌, ◌&&◌, ℕ, List, refl, sym, ap, subst, ◌∙◌, Bool, true, false, cond, not, arith, Option, Some, None, find, length, map, nat_lt}
use Rattle.std.proofs.lemmas.Bool.Decides.{nat_tests}
use Rattle.state_ids.specs.Ids.{Id, is_fact_number}
use Rattle.state_ids.specs.Fronts.{IsBelow, count, is_covered, join_fronts}
use Rattle.state_facts.specs.declared.fact.Body.{Body}
use Rattle.state_facts.specs.declared.fact.Body.TheVariants.{Begin, Join, Leave, Decide, Report, Forgot, Told, Purge}
use Rattle.state_facts.specs.declared.fact.Fact.{Fact}
use Rattle.state_facts.specs.Lists.{In}
use Rattle.state_facts.specs.Sets.{is_held, is_purge}
use Rattle.state_facts.proofs.Membership.{most_bounds, most_union}
use Rattle.state_forest.specs.declared.record.Record.{Record}
use Rattle.state_forest.specs.Forests.{is_of}
use Rattle.state_forest.specs.RecordMerges.{is_gone, absorbed}
use Rattle.state_forest.specs.Records.{is_about, nodes_to, record_of}
use Rattle.theory_history.specs.Views.{IsCounted, StandsFor, View, is_purge_fact, purge_number, record_at, records_at}
use Rattle.theory_history.proofs.MergedViews.{fact_number, guarded, record_standing, taken_part}
use Rattle.theory_history.proofs.MergedRecords.{joined_maps}
use Rattle.theory_history.proofs.TwoClosedSets.{AreTogether, known}
use Rattle.theory_history.proofs.OneViewOfASet.{one_front}
use Rattle.theory_history.proofs.JoinedFronts.{counted_join, length_join}
use Rattle.wire_frames.specs.Frames.{Frame, IsFrame, has_news, live_at}
use Rattle.wire_frames.specs.TakenFrames.{IsTaken, taken_from}
use Rattle.wire_frames.proofs.Beyond.{no_news, not_less}

purge_is : (a : Id) (body : Body) → is_purge a body ≡ true → is_purge_fact body ≡ true
purge_is a (Begin p d) e = absurd cc
purge_is a (Join q m links) e = absurd cc
purge_is a (Leave q m) e = absurd cc
purge_is a (Decide q v) e = absurd cc
purge_is a (Report q m act o) e = absurd cc
purge_is a (Forgot q m) e = absurd cc
purge_is a (Told q m) e = absurd cc
purge_is a (Purge q) e = refl

-- the last purge of a node reaches each of its purges
purge_reaches : (T : List Fact) (f : Fact) (a : Id) (node : ℕ) → In f T → f.origin ≡ node → is_purge a f.body ≡ true → f.num ≤ purge_number T node
purge_reaches T f a node m at purge =
    let test : ((f.origin == node) && is_purge_fact f.body) ≡ true = rw (purge_is a f.body purge) (same f.origin node at) in
    let here : cond ((f.origin == node) && is_purge_fact f.body) f.num 0 ≡ f.num = rw test refl in
    omega (arith, most_bounds (λ g. cond ((g.origin == node) && is_purge_fact g.body) g.num 0) T f m, here)
  where
    same : (a b : ℕ) → a ≡ b → ((a == b) && true) ≡ true
    same a b e = grind (arith, nat_tests)

-- What is not told, the receiver already has

module _ (S T U : List Fact) (v w base : List ℕ) (t : AreTogether S T U v w) (below : IsBelow base v) where
  -- if the base counts the last purge of a home, the first set has all purges of the home
  pub purges_known : (home : ℕ) → nat_lt (count base home) (purge_number T home) ≡ false → (f : Fact) (a : Id) → In f T → is_purge a f.body ≡ true → a.home ≡ home → In f S
  purges_known home e f a m purge at =
      let origin : f.origin ≡ home = t.proper.purges f a (t.union.right f m) purge ∙ at in
      let reach = purge_reaches T f a home m origin purge in
      known S T U v w t f m (omega (arith, reach, not_less (count base home) (purge_number T home) e, below home, ap (count v) origin))

  -- if nothing about an LRA is new since the base, the first set has all that the second has about
  -- it
  pub facts_known : (l : Id) → has_news T base l ≡ false → (f : Fact) → In f T → is_about l f ≡ true → In f S
  facts_known l e f m about = known S T U v w t f m (omega (arith, no_news T base l e f m about, below f.origin))

-- What is taken

some_listed : (a b c : Bool) → ((a && b) && c) ≡ (a && (true && (b && c)))
some_listed true b c = refl
some_listed false b c = refl

not_told : (a b c : Bool) → ((a && b) && false) ≡ (a && (false && (b && c)))
not_told true true c = refl
not_told true false c = refl
not_told false b c = refl

split_news : (held news : Bool) (r : Record) → cond (held && news) (Some r) None ≡ cond news (cond held (Some r) None) None
split_news true true r = refl
split_news true false r = refl
split_news false true r = refl
split_news false false r = refl

module _ (S T U : List Fact) (a : View) (frame : Frame) (base : List ℕ) (t : AreTogether S T U a.front frame.front) (sa : StandsFor S a) (is : IsFrame T base frame)
    (nodes : length a.front ≡ length frame.front) (below : IsBelow base a.front) where
  -- the home has purged after the base
  abbrev listed : Id → Bool
  listed l = nat_lt (count base l.home) (purge_number T l.home)

  gone_is : (l : Id) → 1 ≤ l.home → l.home ≤ length frame.front → is_gone (count frame.front l.home) (live_at frame.live l.home) l.num ≡ (is_fact_number l.num && (listed l && (is_covered frame.front l && not (is_held T l))))
  gone_is l low high = by (listed l) refl
    where
      by : (b : Bool) → listed l ≡ b → is_gone (count frame.front l.home) (live_at frame.live l.home) l.num ≡ (is_fact_number l.num && (b && (is_covered frame.front l && not (is_held T l))))
      by true e =
          let told = is.listed l.home low high e in
          ap (λ (o : Option (List ℕ)). is_gone (count frame.front l.home) o l.num) told.1
          ∙ ap (λ (b : Bool). (is_fact_number l.num && is_covered frame.front l) && not b) (told.2.held l.num)
          ∙ some_listed (is_fact_number l.num) (is_covered frame.front l) (not (is_held T l))
      by false e =
          ap (λ (o : Option (List ℕ)). is_gone (count frame.front l.home) o l.num) (is.unlisted l.home low high e)
          ∙ not_told (is_fact_number l.num) (is_covered frame.front l) (not (is_held T l))

  -- what is taken of the frame for each LRA is what the union has
  pub taken_of_frame : (l : Id) → 1 ≤ l.home → l.home ≤ length a.front → taken_from a frame l ≡ cond (is_held U l) (Some (record_of (length a.front) U l)) None
  taken_of_frame l low high =
      let far : l.home ≤ length frame.front = omega (arith, high, nodes) in
      let n = length a.front in
      ap (λ g. absorbed (is_covered a.front l) g (record_at a l) (find (is_of l) (records_at frame.records l.home))) (gone_is l low far)
      ∙ ap (λ o. absorbed (is_covered a.front l) (is_fact_number l.num && (listed l && (is_covered frame.front l && not (is_held T l)))) o (find (is_of l) (records_at frame.records l.home))) (record_standing S a l sa low high)
      ∙ guarded (is_covered a.front l) (listed l && (is_covered frame.front l && not (is_held T l))) (is_fact_number l.num) (is_held S l) (record_of n S l) (find (is_of l) (records_at frame.records l.home)) (fact_number S l t.first)
      ∙ ap (absorbed (is_covered a.front l) (listed l && (is_covered frame.front l && not (is_held T l))) (cond (is_held S l) (Some (record_of n S l)) None))
      (is.records l low far ∙ ap (λ k. cond (is_held T l && has_news T base l) (Some (record_of k T l)) None) (sym nodes) ∙ split_news (is_held T l) (has_news T base l) (record_of n T l))
      ∙ sym (taken_part S T U a.front frame.front t l n low high (listed l) (has_news T base l)
      (purges_known S T U a.front frame.front base t below l.home) (facts_known S T U a.front frame.front base t below l))

  joined_purges : join_fronts a.purges frame.purges ≡ map (purge_number U) (nodes_to (length a.front))
  joined_purges =
      ap (λ x. join_fronts x frame.purges) sa.purges
      ∙ ap (join_fronts (map (purge_number S) (nodes_to (length a.front)))) (is.purges ∙ ap (λ n. map (purge_number T) (nodes_to n)) (sym nodes))
      ∙ sym (joined_maps (purge_number S) (purge_number T) (purge_number U) (nodes_to (length a.front)) (λ node. most_union (λ f. cond ((f.origin == node) && is_purge_fact f.body) f.num 0) S T U t.union))

  counted : IsCounted U (join_fronts a.front frame.front)
  counted = counted_join S T U a.front frame.front t.union sa.front is.front

  -- a view that takes the frame stands for the union
  pub taken_stands : (c : View) → IsTaken a frame c → StandsFor U c
  taken_stands c m =
      let size : length c.front ≡ length a.front = ap (λ (x : List ℕ). length x) m.front ∙ length_join a.front frame.front nodes in
      record {
        front = subst (IsCounted U) (sym m.front) counted;
        purges = m.purges ∙ joined_purges ∙ ap (λ n. map (purge_number U) (nodes_to n)) (sym size);
        homes = m.homes;
        records = λ home low high.
            record {
              order = m.order home low high;
              stands = λ l at. here l home at low high size;
            };
      }
    where
      one : (l : Id) → 1 ≤ l.home → l.home ≤ length c.front → length c.front ≡ length a.front → record_at c l ≡ cond (is_held U l) (Some (record_of (length c.front) U l)) None
      one l low high size =
          m.records l low high ∙ taken_of_frame l low (omega (arith, high, size)) ∙ ap (λ n. cond (is_held U l) (Some (record_of n U l)) None) (sym size)

      here : (l : Id) (home : ℕ) → l.home ≡ home → 1 ≤ home → home ≤ length c.front → length c.front ≡ length a.front → find (is_of l) (records_at c.records home) ≡ cond (is_held U l) (Some (record_of (length c.front) U l)) None
      here l home at low high size =
          subst (λ (k : ℕ). find (is_of l) (records_at c.records k) ≡ cond (is_held U l) (Some (record_of (length c.front) U l)) None) at
          (one l (omega (arith, low, at)) (omega (arith, high, at)) size)

  -- and the view that stands for the union takes the frame
  pub stands_taken : (c : View) → length c.front ≡ length a.front → StandsFor U c → IsTaken a frame c
  stands_taken c size stands =
      record {
        nodes = nodes;
        front = one_front U c.front (join_fronts a.front frame.front) (size ∙ sym (length_join a.front frame.front nodes)) stands.front counted;
        purges = stands.purges ∙ ap (λ n. map (purge_number U) (nodes_to n)) size ∙ sym joined_purges;
        homes = stands.homes;
        order = λ home low high. (stands.records home low high).order;
        records = λ l low high.
            record_standing U c l stands low high ∙ ap (λ n. cond (is_held U l) (Some (record_of n U l)) None) size ∙ sym (taken_of_frame l low (omega (arith, high, size)));
      }
