-- the merge of the views of closed sets is a join
use Rattle.std.proofs.Common.{◌≡◌, ℕ, List, [], ◌∷◌, refl, sym, ap, subst, ◌∙◌, arith, length, max}
use Rattle.state_ids.specs.Fronts.{count, join_fronts}
use Rattle.theory_history.specs.Histories.{History, IsClosed, IsLawful, facts}
use Rattle.theory_history.specs.Merging.{IsClosedView, IsMerged, IsPartOf}
use Rattle.theory_history.specs.Views.{IsCounted, StandsFor, View}
use Rattle.theory_history.proofs.ClosedSets.{closed_counted, closed_settled}
use Rattle.theory_history.proofs.MergedViews.{merged_stands}
use Rattle.theory_history.proofs.SetsToMerge.{closed_proper}
use Rattle.theory_history.proofs.TwoClosedSets.{AreTogether}
use Rattle.theory_history.proofs.JoinedFronts.{below_left, below_right, closed_join, count_join, facts_union, join_swap, length_join}
use Rattle.theory_history.proofs.OneViewOfASet.{one_front, one_view}

join_same : (v : List ℕ) → join_fronts v v ≡ v
join_same [] = refl
join_same (a ∷ v) = let here : max a a ≡ a = omega arith in ap (λ n. n ∷ join_fronts v v) here ∙ ap (λ r. a ∷ r) (join_same v)

join_assoc : (u v w : List ℕ) → join_fronts (join_fronts u v) w ≡ join_fronts u (join_fronts v w)
join_assoc [] v w = refl
join_assoc (a ∷ u) [] w = refl
join_assoc (a ∷ u) (b ∷ v) [] = refl
join_assoc (a ∷ u) (b ∷ v) (c ∷ w) =
    let here : max (max a b) c ≡ max a (max b c) = omega arith in
    ap (λ n. n ∷ join_fronts (join_fronts u v) w) here ∙ ap (λ r. max a (max b c) ∷ r) (join_assoc u v w)

-- two closed sets of one history and their union
pub together : (h : History) → IsLawful h → (v w x y : List ℕ) → IsClosed h v → IsClosed h w → IsCounted (facts h v) x → IsCounted (facts h w) y → AreTogether (facts h v) (facts h w) (facts h (join_fronts v w)) x y
together h law v w x y cv cw counted also =
    let closed = closed_join h v w cv cw in
    record {
      first = closed_settled h law v cv;
      second = closed_settled h law w cw;
      both = closed_settled h law (join_fronts v w) closed;
      union = facts_union h v w;
      counted_first = counted;
      counted_second = also;
      proper = closed_proper h law (join_fronts v w) closed;
    }

-- the merge of the views of two closed sets is the view of the union
pub merge_law : (h : History) (v w : List ℕ) (a b c : View) → IsLawful h → IsClosed h v → IsClosed h w → StandsFor (facts h v) a → StandsFor (facts h w) b → IsMerged a b c → StandsFor (facts h (join_fronts v w)) c
merge_law h v w a b c law cv cw sa sb m =
    merged_stands (facts h v) (facts h w) (facts h (join_fronts v w)) a b c (together h law v w a.front b.front cv cw sa.front sb.front) sa sb m

-- and that merge is a view of a closed front
pub merged_view : (h : History) (v w : List ℕ) (a b c : View) → IsLawful h → IsClosedView h v a → IsClosedView h w b → IsMerged a b c → IsClosedView h (join_fronts v w) c
merged_view h v w a b c law left right m =
    record {
      closed = closed_join h v w left.closed right.closed;
      nodes = ap (λ (x : List ℕ). length x) m.front ∙ length_join a.front b.front m.nodes ∙ left.nodes;
      stands = merge_law h v w a b c law left.closed right.closed left.stands right.stands m;
    }

-- a closed front has one view
same_view : (h : History) (v w : List ℕ) (a b : View) → v ≡ w → IsClosedView h v a → IsClosedView h w b → a ≡ b
same_view h v w a b same left right =
    one_view (facts h w) a b (left.nodes ∙ sym right.nodes) (subst (λ (x : List ℕ). StandsFor (facts h x) a) same left.stands) right.stands

-- a view of a front has that front
own_front : (h : History) (v : List ℕ) (a : View) → IsClosedView h v a → a.front ≡ v
own_front h v a view = one_front (facts h v) a.front v (view.nodes ∙ sym view.closed.nodes) view.stands.front (closed_counted h v view.closed)

-- a view merged with itself stays as it is
pub merge_same : (h : History) (v : List ℕ) (a c : View) → IsLawful h → IsClosedView h v a → IsMerged a a c → c ≡ a
merge_same h v a c law view m = same_view h (join_fronts v v) v c a (join_same v) (merged_view h v v a a c law view view m) view

-- merging gives the same in either order
pub merge_swap : (h : History) (v w : List ℕ) (a b c d : View) → IsLawful h → IsClosedView h v a → IsClosedView h w b → IsMerged a b c → IsMerged b a d → c ≡ d
merge_swap h v w a b c d law left right m n =
    same_view h (join_fronts v w) (join_fronts w v) c d (join_swap v w) (merged_view h v w a b c law left right m) (merged_view h w v b a d law right left n)

-- merging three views gives the same, whichever two are merged first
pub merge_assoc : (h : History) (u v w : List ℕ) (a b c ab bc left right : View) → IsLawful h → IsClosedView h u a → IsClosedView h v b → IsClosedView h w c
    → IsMerged a b ab → IsMerged ab c left → IsMerged b c bc → IsMerged a bc right → left ≡ right
merge_assoc h u v w a b c ab bc left right law va vb vc m_ab m_left m_bc m_right =
    same_view h (join_fronts (join_fronts u v) w) (join_fronts u (join_fronts v w)) left right (join_assoc u v w)
    (merged_view h (join_fronts u v) w ab c left law (merged_view h u v a b ab law va vb m_ab) vc m_left)
    (merged_view h u (join_fronts v w) a bc right law va (merged_view h v w b c bc law vb vc m_bc) m_right)

-- each of the two views is a part of the merge
pub merge_above_first : (h : History) (v w : List ℕ) (a b c : View) → IsLawful h → IsClosedView h v a → IsClosedView h w b → IsMerged a b c → IsPartOf h a c
merge_above_first h v w a b c law left right m =
    record { lesser = v; greater = join_fronts v w; first = left; second = merged_view h v w a b c law left right m; below = below_left v w }

pub merge_above_second : (h : History) (v w : List ℕ) (a b c : View) → IsLawful h → IsClosedView h v a → IsClosedView h w b → IsMerged a b c → IsPartOf h b c
merge_above_second h v w a b c law left right m =
    record { lesser = w; greater = join_fronts v w; first = right; second = merged_view h v w a b c law left right m; below = below_right v w }

-- and the merge is a part of every view of which both are parts
pub merge_least : (h : History) (a b c d : View) → IsLawful h → IsPartOf h a d → IsPartOf h b d → IsMerged a b c → IsPartOf h c d
merge_least h a b c d law left right m =
    let one : left.greater ≡ right.greater = sym (own_front h left.greater d left.second) ∙ own_front h right.greater d right.second in
    record {
      lesser = join_fronts left.lesser right.lesser;
      greater = left.greater;
      first = merged_view h left.lesser right.lesser a b c law left.first right.first m;
      second = left.second;
      below = λ node. omega (arith, count_join left.lesser right.lesser node, left.below node, right.below node, ap (λ (x : List ℕ). count x node) one);
    }
