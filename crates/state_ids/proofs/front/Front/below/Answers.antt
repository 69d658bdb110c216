use Rattle.std.proofs.Common.{◌≡◌, ◌+◌, ◌-◌, ℕ, ap, ◌∙◌, sym, get_or, arith}
use Rattle.state_ids.proofs.Pairs.{kept_count}
use Rattle.state_ids.proofs.front.Front.below.Goals as goal

pub returns : goal.returns
returns c =
    let mine = λ (k : ℕ). sym (ap (λ v. get_or v k 0) c.self.view_is) ∙ kept_count c.self.inside c.self.invariant k in
    let other = λ (k : ℕ). sym (ap (λ v. get_or v k 0) c.other.view_is) ∙ kept_count c.other.inside c.other.invariant k in (
      λ yes node. omega (arith, mine (node - 1), other (node - 1), c.are_below.ensures.0 yes (node - 1)),
      λ below. c.are_below.ensures.1 (λ k. let e : (k + 1) - 1 ≡ k = omega arith in omega (arith, mine k, other k, rw e at (below (k + 1)))),
    )
