-- each record of a node of a lawful history has an encoding by itself
use Rattle.std.proofs.Common.{◌≡◌, ◌≤◌, ◌-◌, ℕ, zero, suc, List, Bool, true, false, refl, arith, length, replicate}
use Rattle.std.specs.Prelude.{◌==◌, slice_index}
use Rattle.std.proofs.lemmas.Bool.Decides.{nat_tests}
use Rattle.std.proofs.lemmas.List.Elements.{recursion_from_All}
use Rattle.state_ids.specs.Fronts.{count}
use Rattle.state_facts.specs.Lists.{In}
use Rattle.state_forest.specs.declared.record.Record.{Record}
use Rattle.state_forest.proofs.Bools.{all_in}
use Rattle.theory_history.proofs.ClosedSets.{closed_settled}
use Rattle.theory_history.proofs.SetsToMerge.{closed_proper}
use Rattle.theory_history.proofs.ViewsHaveShape.{closed_shape}
use Rattle.theory_history.specs.Histories.{History, IsClosed, IsLawful, facts}
use Rattle.theory_history.specs.Views.{StandsFor, View, records_at}
use Rattle.wire_frames.specs.declared.version.Version.TheVariants.{Two}
use Rattle.wire_frames.specs.Frames.{frame_of, is_beyond, live_at}
use Rattle.wire_frames.specs.Grammar.{KeepsRulesIn}
use Rattle.wire_frames.specs.Order.{Follows}
use Rattle.wire_frames.specs.OneRecord.{KeepsRulesUnder, IsRecordUnder, under}
use Rattle.wire_frames.specs.Rules.{is_home, is_next, start}
use Rattle.wire_frames.specs.Typed.{HasLinks, IsTypedRecord}
use Rattle.wire_frames.proofs.Beyond.{below_from}
use Rattle.wire_frames.proofs.Fitted.{knows_all, record_fits as is_record}
use Rattle.wire_frames.proofs.Grammar.{own_counted, record_fits, small_counts}

first_home : (nodes home : ℕ) → 1 ≤ home → home ≤ nodes → is_home nodes 0 home ≡ true
first_home nodes home some high = grind (arith, nat_tests)

no_home : (home : ℕ) → 1 ≤ home → (0 == home) ≡ false
no_home home some = grind (arith, nat_tests)

first_next : (home num : ℕ) → 1 ≤ home → is_next start home num ≡ true
first_next home num some = rw (no_home home some) refl

-- so has each record that fits under a front
pub is_record_under : (front : List ℕ) (kept : Record) → IsTypedRecord kept → KeepsRulesUnder front kept → IsRecordUnder front kept
is_record_under front kept typed is =
    let follows : Follows (length front) start kept = (first_home (length front) kept.home is.some is.high, first_next kept.home kept.num is.some) in
    is_record (under Two front) start kept is.few is.small is.fits follows typed.deadline (recursion_from_All HasLinks kept.members typed.links) (knows_all kept.members)

zero_count : (n i : ℕ) → slice_index (replicate n 0) i ≡ 0
zero_count zero i = refl
zero_count (suc n) zero = refl
zero_count (suc n) (suc i) = zero_count n i

-- and each record that a node of a lawful history keeps fits under its front
pub fits_under : (h : History) (w : List ℕ) (view : View) (home : ℕ) (kept : Record) → IsLawful h → IsClosed h w → StandsFor (facts h w) view → length view.front ≤ 8
    → 1 ≤ home → home ≤ length view.front → In kept (records_at view.records home) → KeepsRulesUnder view.front kept
fits_under h w view home kept law closed stands few low high m =
    let S = facts h w in
    let zeros : List ℕ = replicate (length view.front) 0 in
    let settled = closed_settled h law w closed in
    let proper = closed_proper h law w closed in
    let shape = closed_shape h w view law closed stands in
    let own : 1 ≤ count kept.stamps kept.home = own_counted S view zeros settled proper shape stands home kept low high m in
    let mine : kept.home ≡ home = all_in (λ (r : Record). r.home ≡ home) (records_at view.records home) (stands.records home low high).order.homes kept m in
    let new : is_beyond zeros kept.stamps ≡ true = by kept.stamps kept.home (length view.front) own (is_beyond zeros kept.stamps) refl in
    let fits : KeepsRulesIn zeros view.front (live_at (frame_of view zeros).live home) kept = record_fits S view zeros settled proper shape stands home kept low high m new in
    record {
      few = few;
      small = small_counts S view.front settled stands.front;
      some = omega (arith, mine, low);
      high = omega (arith, mine, high);
      fits = record {
        some = fits.some;
        reach = fits.reach;
        told = λ nums e. absurd cc;
        placed = fits.placed;
        nodes = fits.nodes;
        within = fits.within;
        own = fits.own;
        new = new;
        few = fits.few;
        rising = fits.rising;
        nested = fits.nested;
        linked = fits.linked;
      };
    }
  where
    by : (stamps : List ℕ) (home nodes : ℕ) → 1 ≤ count stamps home → (b : Bool) → is_beyond (replicate nodes 0) stamps ≡ b → b ≡ true
    by stamps home nodes own true e = refl
    by stamps home nodes own false e = absurd (omega (arith, own, below_from (replicate nodes 0) stamps e home, zero_count nodes (home - 1)))
