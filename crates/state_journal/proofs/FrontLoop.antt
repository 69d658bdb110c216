-- The rows of the nodes, one after another.
use Rattle.std.proofs.Common.{◌≡◌, ◌<◌, ◌+◌, ◌⊎◌, ◌↔◌, inl, inr, ℕ, List, refl, subst, ◌∙◌, arith}
use Rattle.sqlite.specs.Tree.{Trees}
use Rattle.state_ids.specs.Fronts.{count}
use Rattle.theory_history.proofs.Basics.{at_most}
use Rattle.state_journal.specs.Tables.{signed, HasFront, IsFormed, SetsFront, SetsFronts}

-- no row was written yet
pub no_fronts : (front purges : List ℕ) (db : Trees) → IsFormed db → SetsFronts front purges 0 db db
no_fronts front purges db formed = record {
  lra = refl;
  formed = formed;
  there = λ node h p some none. absurd (omega (arith, some, none));
  others = λ o h p other. (λ has. has, λ has. has);
}

-- one more node's row
pub fronts_more : (front purges : List ℕ) (place node : ℕ) (a b c : Trees) → node ≡ place + 1 → SetsFronts front purges place a b → SetsFront node (signed (count front node)) (signed (count purges node)) b c → SetsFronts front purges (place + 1) a c
fronts_more front purges place node a b c next was set = record {
  lra = set.lra ∙ was.lra;
  formed = set.formed;
  there = λ n h p some within. elim (at_most n place) [
    | inl before ↦
        let same = set.others n h p (λ e. omega (arith, before, next, e)) in
        let held = was.there n h p some before in
        (λ has. held.0 (same.0 has), λ is. same.1 (held.1 is))
    | inr last ↦
        let here : node ≡ n = omega (arith, last, next, within) in
        subst (λ n. HasFront c n h p ↔ ((h ≡ signed (count front n)) × (p ≡ signed (count purges n)))) here (set.there h p)
  ];
  others = λ o h p other.
      let apart : ¬ (o ≡ node) = λ e. elim other [ inl zero ↦ omega (arith, zero, e, next) | inr past ↦ omega (arith, past, e, next) ] in
      let before : (o ≡ 0) ⊎ (place < o) = elim other [ inl zero ↦ inl zero | inr past ↦ inr (omega (arith, past)) ] in
      let same = set.others o h p apart in
      let held = was.others o h p before in
      (λ has. held.0 (same.0 has), λ has. same.1 (held.1 has));
}
