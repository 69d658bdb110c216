use Rattle.std.proofs.Common.{ℕ, List, take, ap, ◌∙◌, sym, subst}
use Rattle.state_ids.specs.FrontParts.{counts_of}
use Rattle.state_ids.specs.Fronts.{IsBelow, join_fronts}
use Rattle.state_ids.proofs.Pairs.{join_kept, join_seen, join_above, join_least}
use Rattle.state_ids.proofs.front.Front.join.Goals as goal

pub invariant_of-result : goal.invariant_of-result
invariant_of-result c = rw (c.greater.ensures, c.max.ensures) (join_kept c.self.inside c.other.inside c.self.invariant c.other.invariant)

pub returns-clause-value : goal.returns-clause-value
returns-clause-value c =
    ap (take c.max.result) c.greater.ensures ∙ ap (λ n. take n (join_fronts c.self.inside.counts c.other.inside.counts)) c.max.ensures
    ∙ join_seen c.self.inside c.other.inside c.self.invariant c.other.invariant
    ∙ ap (λ v. join_fronts v (counts_of c.other.inside)) c.self.view_is ∙ ap (join_fronts c.args.self.now) c.other.view_is

pub returns-clause-upper : goal.returns-clause-upper
returns-clause-upper c =
    let P : List ℕ → Type 0 = λ x. IsBelow c.args.self.now x × IsBelow c.args.other.now x in
    subst P (sym (returns-clause-value c)) (join_above c.args.self.now c.args.other.now)

pub returns-clause-least : goal.returns-clause-least
returns-clause-least c = λ w a b.
    let P : List ℕ → Type 0 = λ x. IsBelow x w in
    subst P (sym (returns-clause-value c)) (join_least c.args.self.now c.args.other.now w a b)
