-- Rows of `front`, one after another.
use Rattle.std.proofs.Common.{◌≡◌, inl, inr, ℕ, ◌+◌, ◌-◌, ◌<◌, ◌≤◌, List, [], length, get_or, refl, sym, ap, subst, ◌∙◌, arith}
use Rattle.std.specs.Prelude.{slice_set}
use Rattle.std.proofs.lemmas.Bool.{cases_lt}
use Rattle.std.proofs.lemmas.List.{get_or-set_same, get_or-set_other}
use Rattle.std.proofs.lemmas.Option.{slice_get-get_or, slice_get_within}
use Rattle.sqlite.specs.Order.{Row}
use Rattle.state_ids.specs.Fronts.{count}
use Rattle.wire_frames.specs.declared.version.Version.{Version}
use Rattle.wire_frames.specs.Versions.{version_mark}
use Rattle.state_journal.specs.FrontRows.{AreFronts, FrontBreaksAt, IsFrontRight, IsSaid}

abbrev pub AreSaid : List Row → List ℕ → List ℕ → ℕ → Type 0
AreSaid rows front purges last = (node : ℕ) → 1 ≤ node → node ≤ last → IsSaid rows node (count front node) (count purges node)

-- the first row breaks the format
pub breaks_first : (me nodes : ℕ) (rows : List Row) → ((v : Version) → ¬ IsSaid rows 0 me (version_mark v)) → FrontBreaksAt me nodes rows 0
breaks_first me nodes rows none = record { before = λ i low. absurd (omega (arith, low)); breaks = λ right. let own = right.own refl in none own.0 own.1 }

module _ (v : Version) (me nodes : ℕ) (rows : List Row) (own : IsSaid rows 0 me (version_mark v)) where
  -- the rows up to here are right
  pub right_before : (place : ℕ) (front purges : List ℕ) → place ≤ nodes → AreSaid rows front purges place → (i : ℕ) → i < place + 1 → IsFrontRight me nodes rows i
  right_before place front purges within said i low = record {
    own = λ first. (v, own);
    of_node = λ some high. (count front i, count purges i, said i some (omega (arith, low)));
    no_more = λ past. absurd (omega (arith, past, low, within));
  }

  -- the next row breaks the format
  pub breaks_next : (place : ℕ) (front purges : List ℕ) → place < nodes → AreSaid rows front purges place → ((held purged : ℕ) → ¬ IsSaid rows (place + 1) held purged) → FrontBreaksAt me nodes rows (place + 1)
  breaks_next place front purges within said none = record {
    before = right_before place front purges (omega (arith, within)) said;
    breaks = λ right. let it = right.of_node (omega arith) (omega (arith, within)) in none it.0 it.1 it.2;
  }

  -- there is one row too many
  pub breaks_past : (front purges : List ℕ) → AreSaid rows front purges nodes → nodes + 1 < length rows → FrontBreaksAt me nodes rows (nodes + 1)
  breaks_past front purges said more = record {
    before = right_before nodes front purges (omega arith) said;
    breaks = λ right. let none = right.no_more (omega arith) in let some = slice_get-get_or rows (nodes + 1) [] more in absurd (let both = sym none ∙ some in cc);
  }

  -- these are all the rows
  pub are_fronts : (front purges : List ℕ) → 1 ≤ nodes → length front ≡ nodes → length purges ≡ nodes → AreSaid rows front purges nodes → length rows ≤ nodes + 1 → AreFronts v me rows front purges
  are_fronts front purges some size as_many said few =
      let last = said nodes some (omega arith) in
      let there = slice_get_within rows nodes last.0 last.1 in
      record {
        own = own;
        nodes = as_many ∙ sym size;
        each = λ node low high. said node low (omega (arith, high, size));
        all = omega (arith, there, few, size);
      }

-- the counts of one more node
pub one_node_more : (rows : List Row) (front purges front' purges' : List ℕ) (nodes place own held purged : ℕ) → own ≡ place + 1 → place < nodes → length front ≡ nodes → length purges ≡ nodes
    → front' ≡ slice_set front (own - 1) held → purges' ≡ slice_set purges (own - 1) purged → AreSaid rows front purges place → IsSaid rows (place + 1) held purged → AreSaid rows front' purges' (place + 1)
one_node_more rows front purges front' purges' nodes place own held purged at within size as_many front_is purges_is said last node some high =
    let set : own - 1 ≡ place = omega (arith, at) in
    let fronts : front' ≡ slice_set front place held = front_is ∙ ap (λ i. slice_set front i held) set in
    let purge : purges' ≡ slice_set purges place purged = purges_is ∙ ap (λ i. slice_set purges i purged) set in
    elim (cases_lt node (place + 1)) [
      | inl before ↦
          let other : (node - 1 ≡ place) → ⊥ = λ e. omega (arith, before, e, some) in
          let first : count front' node ≡ count front node = ap (λ v. count v node) fronts ∙ get_or-set_other front place (node - 1) held 0 other in
          let second : count purges' node ≡ count purges node = ap (λ v. count v node) purge ∙ get_or-set_other purges place (node - 1) purged 0 other in
          rw (first, second) (said node some (omega (arith, before)))
      | inr after ↦
          let here : node ≡ place + 1 = omega (arith, after, high) in
          let spot : node - 1 ≡ place = omega (arith, here) in
          let first : count front' node ≡ held = ap (λ v. count v node) fronts ∙ ap (λ i. get_or (slice_set front place held) i 0) spot ∙ get_or-set_same front place held 0 (omega (arith, within, size)) in
          let second : count purges' node ≡ purged = ap (λ v. count v node) purge ∙ ap (λ i. get_or (slice_set purges place purged) i 0) spot ∙ get_or-set_same purges place purged 0 (omega (arith, within, as_many)) in
          rw (first, second) (subst (λ n. IsSaid rows n held purged) (sym here) last)
    ]
