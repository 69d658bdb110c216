-- What two closed sets of one history say of one LRA, and what their union says
use Rattle.std.proofs.Common.{◌≡◌, ◌≤◌, ◌<◌, ◌&&◌, ℕ, List, Bool, true, false, refl, sym, ap, arith}
use Rattle.std.proofs.lemmas.Bool.Decides.{nat_tests}
use Rattle.state_ids.specs.Fronts.{count, is_covered, join_fronts}
use Rattle.state_ids.specs.Ids.{Id}
use Rattle.state_ids.specs.States.{greater}
use Rattle.state_ids.specs.declared.outcome.Act.{Act}
use Rattle.state_facts.specs.declared.fact.Fact.{Fact}
use Rattle.state_facts.specs.Lists.{In}
use Rattle.state_facts.specs.Sets.{heard, is_held}
use Rattle.state_facts.proofs.Heard.{heard_union}
use Rattle.state_forest.specs.Records.{is_about, stamp}
use Rattle.theory_history.specs.Histories.{History, IsClosed, IsLawful, facts}
use Rattle.theory_history.proofs.ClosedSets.{closed_counted}
use Rattle.theory_history.proofs.JoinedFronts.{facts_union}
use Rattle.theory_history.proofs.MergeIsAJoin.{together}
use Rattle.theory_history.proofs.MergedViews.{held_alone, held_both, held_first}
use Rattle.theory_history.proofs.TwoClosedSets.{AreTogether, known, stamp_counted, stamp_reaches, swapped}

two_tests : (u s t : Bool) → (u ≡ true → s ≡ true) → (u ≡ true → t ≡ true) → (s ≡ true → t ≡ true → u ≡ true) → u ≡ (s && t)
two_tests true true true f g h = refl
two_tests true true false f g h = sym (g refl)
two_tests true false t f g h = sym (f refl)
two_tests false true true f g h = h refl refl
two_tests false true false f g h = refl
two_tests false false t f g h = refl

one_test : (u s : Bool) → (u ≡ true → s ≡ true) → (s ≡ true → u ≡ true) → u ≡ s
one_test true s f g = sym (f refl)
one_test false true f g = g refl
one_test false false f g = refl

covered_by : (v : List ℕ) (l : Id) → is_covered v l ≡ true → l.num ≤ count v l.home
covered_by v l e = grind (arith, nat_tests)

beyond : (v : List ℕ) (l : Id) → is_covered v l ≡ false → count v l.home < l.num
beyond v l e = grind (arith, nat_tests)

module _ (S T U : List Fact) (v w : List ℕ) (t : AreTogether S T U v w) (l : Id) where
  held_where_both : is_covered v l ≡ true → is_covered w l ≡ true → is_held U l ≡ (is_held S l && is_held T l)
  held_where_both one other =
      two_tests (is_held U l) (is_held S l) (is_held T l) (λ held. held_first S T U v w t l held (covered_by v l one))
      (λ held. held_first T S U w v (swapped S T U v w t) l held (covered_by w l other)) (held_both S T U v w t l)

  held_where_first : is_covered v l ≡ true → is_covered w l ≡ false → is_held U l ≡ is_held S l
  held_where_first one other =
      one_test (is_held U l) (is_held S l) (λ held. held_first S T U v w t l held (covered_by v l one)) (λ held. held_alone S T U v w t l held (beyond w l other))

  told_at_home : stamp T l l.home ≤ stamp S l l.home → (f : Fact) → In f T → f.origin ≡ l.home → is_about l f ≡ true → In f S
  told_at_home less f m at about =
      known S T U v w t f m (omega (arith, stamp_reaches T l f l.home m at about, less, stamp_counted S v l l.home t.counted_first, ap (count v) at))

module _ (h : History) (v w : List ℕ) (law : IsLawful h) (cv : IsClosed h v) (cw : IsClosed h w) where
  sets : AreTogether (facts h v) (facts h w) (facts h (join_fronts v w)) v w
  sets = together h law v w v w cv cw (closed_counted h v cv) (closed_counted h w cw)

  pub both_cover : (l : Id) → is_covered v l ≡ true → is_covered w l ≡ true → is_held (facts h (join_fronts v w)) l ≡ (is_held (facts h v) l && is_held (facts h w) l)
  both_cover l = held_where_both (facts h v) (facts h w) (facts h (join_fronts v w)) v w sets l

  pub one_covers : (l : Id) → is_covered v l ≡ true → is_covered w l ≡ false → is_held (facts h (join_fronts v w)) l ≡ is_held (facts h v) l
  one_covers l = held_where_first (facts h v) (facts h w) (facts h (join_fronts v w)) v w sets l

  pub home_facts : (l : Id) (f : Fact) → stamp (facts h w) l l.home ≤ stamp (facts h v) l l.home → In f (facts h w) → f.origin ≡ l.home → is_about l f ≡ true → In f (facts h v)
  home_facts l f less = told_at_home (facts h v) (facts h w) (facts h (join_fronts v w)) v w sets l less f

-- the union hears the greater outcome, for any fronts
pub greater_heard : (h : History) (v w : List ℕ) (l : Id) (m : ℕ) (act : Act) → heard (facts h (join_fronts v w)) l m act ≡ greater (heard (facts h v) l m act) (heard (facts h w) l m act)
greater_heard h v w l m act = heard_union (facts h v) (facts h w) (facts h (join_fronts v w)) (facts_union h v w) l m act
