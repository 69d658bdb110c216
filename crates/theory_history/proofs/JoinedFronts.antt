-- joined fronts count the union of what the two count
use Rattle.std.proofs.Common.{◌≡◌, ◌⊎◌, inl, inr, ◌≤◌, ℕ, zero, suc, List, [], ◌∷◌, refl, sym, ap, subst, ◌∙◌, arith, max, length, get_or}
use Rattle.state_ids.specs.Fronts.{IsBelow, count, join_fronts}
use Rattle.state_facts.specs.declared.fact.Fact.{Fact}
use Rattle.state_facts.specs.Lists.{In, IsUnion}
use Rattle.theory_history.specs.NodeViews.{IsCurrent}
use Rattle.theory_history.specs.Histories.{History, IsClosed, Made, facts, made}
use Rattle.theory_history.specs.Views.{IsCounted}
use Rattle.theory_history.proofs.ClosedSets.{entry_of, facts_inside, in_facts}

join_at : (v w : List ℕ) (k : ℕ) → get_or (join_fronts v w) k 0 ≡ max (get_or v k 0) (get_or w k 0)
join_at [] w k = omega arith
join_at (a ∷ v) [] k = omega arith
join_at (a ∷ v) (b ∷ w) zero = refl
join_at (a ∷ v) (b ∷ w) (suc k) = join_at v w k

-- joined fronts count the greater of the two counts
pub count_join : (v w : List ℕ) (node : ℕ) → count (join_fronts v w) node ≡ max (count v node) (count w node)
count_join v w node = join_at v w _

-- the fronts join to the same in either order
pub join_swap : (v w : List ℕ) → join_fronts v w ≡ join_fronts w v
join_swap [] [] = refl
join_swap [] (b ∷ w) = refl
join_swap (a ∷ v) [] = refl
join_swap (a ∷ v) (b ∷ w) =
    let here : max a b ≡ max b a = omega arith in
    ap (λ n. n ∷ join_fronts v w) here ∙ ap (λ r. max b a ∷ r) (join_swap v w)

-- joined fronts of the same number of nodes count that many nodes
pub length_join : (v w : List ℕ) → length v ≡ length w → length (join_fronts v w) ≡ length v
length_join [] [] e = refl
length_join [] (b ∷ w) e = absurd cc
length_join (a ∷ v) [] e = absurd cc
length_join (a ∷ v) (b ∷ w) e = ap suc (length_join v w (omega (arith, e)))

-- a number that is at most the greater of two is at most one of them
pub at_most_one : (n a b : ℕ) → n ≤ max a b → (n ≤ a) ⊎ (n ≤ b)
at_most_one n a b h = grind arith

-- each front counts no more than the joined one
pub below_left : (v w : List ℕ) → IsBelow v (join_fronts v w)
below_left v w node = omega (arith, count_join v w node)

pub below_right : (v w : List ℕ) → IsBelow w (join_fronts v w)
below_right v w node = omega (arith, count_join v w node)

-- the facts that joined fronts count are those that one front or the other counts
pub facts_union : (h : History) (v w : List ℕ) → IsUnion (facts h v) (facts h w) (facts h (join_fronts v w))
facts_union h v w =
    record {
      left = facts_inside h v (join_fronts v w) (below_left v w);
      right = facts_inside h w (join_fronts v w) (below_right v w);
      only = λ f m.
          let e = entry_of h (join_fronts v w) f m in
          let bound : f.num ≤ max (count v f.origin) (count w f.origin) = omega (arith, e.3, count_join v w f.origin) in
          by f e.0 e.1 e.2 (at_most_one f.num (count v f.origin) (count w f.origin) bound);
    }
  where
    moved : (f g : Fact) (x : List ℕ) → f ≡ g → f.num ≤ count x f.origin → g.num ≤ count x g.origin
    moved f g x s b = subst (λ (y : Fact). y.num ≤ count x y.origin) s b

    by : (f : Fact) (e : Made) → In e (made h) → f ≡ e.fact → (f.num ≤ count v f.origin) ⊎ (f.num ≤ count w f.origin) → In f (facts h v) ⊎ In f (facts h w)
    by f e m s (inl b) = inl (subst (λ (y : Fact). In y (facts h v)) (sym s) (in_facts h v e m (moved f e.fact v s b)))
    by f e m s (inr b) = inr (subst (λ (y : Fact). In y (facts h w)) (sym s) (in_facts h w e m (moved f e.fact w s b)))

-- closed fronts join to a closed one
pub closed_join : (h : History) (v w : List ℕ) → IsClosed h v → IsClosed h w → IsClosed h (join_fronts v w)
closed_join h v w cv cw =
    record {
      kept = λ e m bound node.
          let one = at_most_one e.fact.num (count v e.fact.origin) (count w e.fact.origin) (omega (arith, bound, count_join v w e.fact.origin)) in
          elim one [
            | inl b ↦ omega (arith, cv.kept e m b node, count_join v w node)
            | inr b ↦ omega (arith, cw.kept e m b node, count_join v w node)
          ];
      nodes = length_join v w (cv.nodes ∙ sym cw.nodes) ∙ cv.nodes;
      within = λ node. omega (arith, count_join v w node, cv.within node, cw.within node);
    }

-- and if one of them counts all that a node entered, so does the joined front
pub current_join : (h : History) (node : ℕ) (v w : List ℕ) → IsCurrent h node v → IsClosed h w → IsCurrent h node (join_fronts v w)
current_join h node v w current closed =
    record {
      some = current.some;
      there = current.there;
      closed = closed_join h v w current.closed closed;
      own = omega (arith, count_join v w node, current.own, closed.within node);
    }

-- if two fronts count two sets, the joined front counts their union
pub counted_join : (S T U : List Fact) (v w : List ℕ) → IsUnion S T U → IsCounted S v → IsCounted T w → IsCounted U (join_fronts v w)
counted_join S T U v w union cs ct =
    record {
      some = λ f m. elim (union.only f m) [ inl s ↦ cs.some f s | inr t ↦ ct.some f t ];
      counted = λ f m.
          elim (union.only f m) [
            | inl s ↦ omega (arith, cs.counted f s, count_join v w f.origin)
            | inr t ↦ omega (arith, ct.counted f t, count_join v w f.origin)
          ];
      all = λ node num one some bound.
          elim (at_most_one num (count v node) (count w node) (omega (arith, bound, count_join v w node))) [
            | inl b ↦ let f = cs.all node num one some b in (f.0, union.left f.0 f.1, f.2, f.3)
            | inr b ↦ let f = ct.all node num one some b in (f.0, union.right f.0 f.1, f.2, f.3)
          ];
    }
