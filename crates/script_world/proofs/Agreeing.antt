-- Nodes that took the same facts agree.
use Rattle.std.proofs.Common.{◌≡◌, ℕ, List, sym, ap, subst, ◌∙◌, length}
use Rattle.state_facts.specs.Lists.{IsInside}
use Rattle.theory_history.specs.Histories.{History, IsClosed, facts}
use Rattle.theory_history.specs.Replies.{member_shown, shown_of}
use Rattle.theory_history.specs.Views.{IsCounted, StandsFor, View}
use Rattle.theory_history.proofs.ClosedSets.{closed_counted}
use Rattle.theory_history.proofs.OneViewOfASet.{one_front, one_view}
use Rattle.script_world.specs.Headline.{Agree, TookTheSame}
use Rattle.script_world.specs.Worlds.{IsViewOf, IsWorld, State, front_of}

-- a front that counts the same facts counts no less
counted_same : (h : History) (v w : List ℕ) → IsClosed h v → IsClosed h w → IsInside (facts h v) (facts h w) → IsInside (facts h w) (facts h v) → IsCounted (facts h v) w
counted_same h v w cv cw forth back =
    let one = closed_counted h v cv in
    let other = closed_counted h w cw in
    record {
      some = one.some;
      counted = λ f m. other.counted f (forth f m);
      all = λ node num some first bound. let g = other.all node num some first bound in (g.0, back g.0 g.1, g.2, g.3);
    }

-- closed fronts that count the same facts are equal
pub same_front : (h : History) (v w : List ℕ) → IsClosed h v → IsClosed h w → IsInside (facts h v) (facts h w) → IsInside (facts h w) (facts h v) → v ≡ w
same_front h v w cv cw forth back =
    one_front (facts h v) v w (cv.nodes ∙ sym cw.nodes) (closed_counted h v cv) (counted_same h v w cv cw forth back)

-- a front has one view
pub same_view : (h : History) (v w : List ℕ) (a b : View) → v ≡ w → IsViewOf h v a → IsViewOf h w b → a ≡ b
same_view h v w a b same one other =
    one_view (facts h w) a b (ap (λ (u : List ℕ). length u) (one.counts ∙ same ∙ sym other.counts))
    (subst (λ (u : List ℕ). StandsFor (facts h u) a) same one.stands) other.stands

pub nodes_agree : (s : State) (one other : ℕ) → IsWorld s → TookTheSame s one other → Agree s one other
nodes_agree s one other w took =
    record {
      front = same;
      view = λ a b x y. same_view s.history (front_of s one) (front_of s other) a b same x y;
      shown = λ l. ap (λ (u : List ℕ). shown_of (facts s.history u) u l) same;
      member = λ l m. ap (λ (u : List ℕ). member_shown (facts s.history u) u l m) same;
    }
  where
    same : front_of s one ≡ front_of s other
    same =
        same_front s.history (front_of s one) (front_of s other)
        (w.current one took.one_node.some took.one_node.there).closed (w.current other took.other_node.some took.other_node.there).closed
        took.forth took.back
