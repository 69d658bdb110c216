use Rattle.std.proofs.Common.{◌≡◌, ℕ, List, length, take, ap, ◌∙◌, sym, subst, arith, min}
use Rattle.state_ids.specs.Fronts.{IsBelow, pairwise}
use Rattle.state_ids.proofs.Pairs.{pairs_kept, pairs_seen, meet_below, meet_greatest}
use Rattle.state_ids.proofs.front.Front.meet.Goals as goal

pub invariant_of-result : goal.invariant_of-result
invariant_of-result c =
    let same : length (take c.self.inside.nodes c.self.inside.counts) ≡ length (take c.other.inside.nodes c.other.inside.counts) =
    ap length c.self.view_is ∙ c.requires ∙ sym (ap length c.other.view_is) in
    rw c.lesser.ensures (pairs_kept min (λ n. omega arith) c.self.inside c.other.inside c.self.invariant c.other.invariant same)

pub returns-clause-value : goal.returns-clause-value
returns-clause-value c =
    let same : length (take c.self.inside.nodes c.self.inside.counts) ≡ length (take c.other.inside.nodes c.other.inside.counts) =
    ap length c.self.view_is ∙ c.requires ∙ sym (ap length c.other.view_is) in
    ap (take c.self.inside.nodes) c.lesser.ensures ∙ pairs_seen min c.self.inside c.other.inside c.self.invariant c.other.invariant same
    ∙ ap (λ v. pairwise min v (take c.other.inside.nodes c.other.inside.counts)) c.self.view_is ∙ ap (pairwise min c.args.self.now) c.other.view_is

pub returns-clause-lower : goal.returns-clause-lower
returns-clause-lower c =
    let P : List ℕ → Type 0 = λ x. IsBelow x c.args.self.now × IsBelow x c.args.other.now in
    subst P (sym (returns-clause-value c)) (meet_below c.args.self.now c.args.other.now c.requires)

pub returns-clause-greatest : goal.returns-clause-greatest
returns-clause-greatest c = λ w a b.
    let P : List ℕ → Type 0 = λ x. IsBelow w x in
    subst P (sym (returns-clause-value c)) (meet_greatest c.args.self.now c.args.other.now w c.requires a b)
