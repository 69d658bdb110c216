-- frames of closed sets of one lawful history
use Rattle.std.proofs.Common.{◌≡◌, ◌⊎◌, inl, inr, ℕ, List, sym, true, false, length, nat_lt}
use Rattle.std.specs.Prelude.{Result, Ok, Err, IfErr, IfOk, MatchResult}
use Rattle.state_ids.specs.Ids.{Id}
use Rattle.state_ids.specs.Fronts.{IsBelow, count, join_fronts}
use Rattle.state_facts.specs.declared.fact.Fact.{Fact}
use Rattle.state_facts.specs.declared.refusal.Refusal.{Refusal}
use Rattle.state_facts.specs.declared.refusal.Refusal.TheVariants.{BadFrame, NoMemory}
use Rattle.state_facts.specs.Lists.{In}
use Rattle.state_facts.specs.Sets.{is_purge}
use Rattle.state_forest.specs.Records.{is_about}
use Rattle.theory_history.specs.Histories.{History, IsClosed, IsLawful, facts}
use Rattle.theory_history.specs.Merging.{IsAbsorbed, Telling, merged}
use Rattle.theory_history.specs.Changes.{Change, patched}
use Rattle.theory_history.specs.ViewShape.{HasShape}
use Rattle.theory_history.specs.Views.{StandsFor, View, purge_number}
use Rattle.theory_history.proofs.ClosedSets.{closed_counted}
use Rattle.theory_history.proofs.MergeIsAJoin.{merge_law, together}
use Rattle.theory_history.proofs.ViewsHaveShape.{closed_shape}
use Rattle.theory_history.proofs.OneMerge.{merge_is}
use Rattle.theory_history.proofs.JoinedFronts.{closed_join, counted_join, facts_union, length_join}
use Rattle.wire_frames.specs.Frames.{Frame, IsFrame, frame_of, has_news}
use Rattle.wire_frames.specs.Sending.{IsToldBy}
use Rattle.wire_frames.specs.TakenFrames.{IsTaken}
use Rattle.wire_frames.proofs.Existing.{view_made, view_stands}
use Rattle.wire_frames.proofs.OfSets.{frame_stands}
use Rattle.wire_frames.proofs.ToldByFrames.{absorbed_by, taken_by}
use Rattle.wire_frames.proofs.TakenIsUnion.{facts_known, purges_known, stands_taken, taken_stands}

-- a home whose last purge the base counts has no purge that the receiver lacks
pub no_purge_lacks : (h : History) (v w base : List ℕ) (home : ℕ) (f : Fact) (a : Id) → IsLawful h → IsClosed h v → IsClosed h w → IsBelow base v
    → nat_lt (count base home) (purge_number (facts h w) home) ≡ false → In f (facts h w) → is_purge a f.body ≡ true → a.home ≡ home → In f (facts h v)
no_purge_lacks h v w base home f a law cv cw below e m purge at =
    purges_known (facts h v) (facts h w) (facts h (join_fronts v w)) v w base (together h law v w v w cv cw (closed_counted h v cv) (closed_counted h w cw)) below home e f a m purge at

-- an LRA about which nothing is new since the base has no fact that the receiver lacks
pub no_fact_lacks : (h : History) (v w base : List ℕ) (l : Id) (f : Fact) → IsLawful h → IsClosed h v → IsClosed h w → IsBelow base v
    → has_news (facts h w) base l ≡ false → In f (facts h w) → is_about l f ≡ true → In f (facts h v)
no_fact_lacks h v w base l f law cv cw below e m about =
    facts_known (facts h v) (facts h w) (facts h (join_fronts v w)) v w base (together h law v w v w cv cw (closed_counted h v cv) (closed_counted h w cw)) below l e f m about

-- a view that takes a frame of a base that its own front counts stands for the union
pub take_law : (h : History) (v w base : List ℕ) (a c : View) (frame : Frame) → IsLawful h → IsClosed h v → IsClosed h w → StandsFor (facts h v) a → IsFrame (facts h w) base frame
    → IsBelow base a.front → IsTaken a frame c → StandsFor (facts h (join_fronts v w)) c
take_law h v w base a c frame law cv cw sa is below m =
    taken_stands (facts h v) (facts h w) (facts h (join_fronts v w)) a frame base (together h law v w a.front frame.front cv cw sa.front is.front) sa is m.nodes below c m

-- the merge of two views takes the frame of the second
pub merge_takes : (h : History) (v w base : List ℕ) (a b : View) → IsLawful h → IsClosed h v → IsClosed h w → StandsFor (facts h v) a → StandsFor (facts h w) b
    → length a.front ≡ length b.front → IsBelow base a.front → IsTaken a (frame_of b base) (merged a b)
merge_takes h v w base a b law cv cw sa sb nodes below =
    let m = merge_is a b nodes (λ home low high. (sa.records home low high).order) (λ home low high. (sb.records home low high).order) in
    let is = frame_stands (facts h w) b base sb in
    stands_taken (facts h v) (facts h w) (facts h (join_fronts v w)) a (frame_of b base) base (together h law v w a.front b.front cv cw sa.front sb.front) sa is nodes below (merged a b)
    (length_join a.front b.front nodes) (merge_law h v w a b (merged a b) law cv cw sa sb m)

-- A view exists that takes a frame of a base that its front counts, and it has the shape
pub some_view : (h : History) (v w base : List ℕ) (a : View) (frame : Frame) → IsLawful h → IsClosed h v → IsClosed h w → StandsFor (facts h v) a → IsFrame (facts h w) base frame
    → length a.front ≡ length frame.front → IsBelow base a.front → (c : View) × IsTaken a frame c × HasShape c
some_view h v w base a frame law cv cw sa is nodes below =
    let S = facts h v in
    let T = facts h w in
    let U = facts h (join_fronts v w) in
    let front = join_fronts a.front frame.front in
    let stands = view_stands U front (counted_join S T U a.front frame.front (facts_union h v w) sa.front is.front) in (
      view_made U front,
      stands_taken S T U a frame base (together h law v w a.front frame.front cv cw sa.front is.front) sa is nodes below (view_made U front) (length_join a.front frame.front nodes) stands,
      closed_shape h (join_fronts v w) (view_made U front) law (closed_join h v w cv cw) stands,
    )

-- The result of preparing a frame that a node of the history sent: a patch with which the view
-- stands for the union, or an answer that memory ran out
pub patched_union : (h : History) (v w : List ℕ) (a : View) (frame : Frame) (telling : Telling) (result : Result Change Refusal) → IsLawful h → IsClosed h v → IsClosed h w
    → StandsFor (facts h v) a → IsFrame (facts h w) frame.base frame → length frame.front ≡ length a.front → IsBelow frame.base a.front → IsToldBy frame telling
    → IfOk result (λ patch. IsAbsorbed a telling (patched patch a))
    → IfErr result (λ refusal. (refusal ≡ NoMemory) ⊎ ((refusal ≡ BadFrame 0) × ((c : View) → IsAbsorbed a telling c → HasShape c → ⊥)))
    → MatchResult result (λ patch. StandsFor (facts h (join_fronts v w)) (patched patch a)) (λ refusal. refusal ≡ NoMemory)
patched_union h v w a frame telling (Ok patch) law cv cw sa is nodes below told taken refused =
    take_law h v w frame.base a (patched patch a) frame law cv cw sa is below (taken_by a (patched patch a) frame telling told taken)
patched_union h v w a frame telling (Err refusal) law cv cw sa is nodes below told taken refused = elim refused [
  | inl memory ↦ memory
  | inr broken ↦
      let some = some_view h v w frame.base a frame law cv cw sa is (sym nodes) below in
      absurd (broken.1 some.0 (absorbed_by a some.0 frame telling told some.1) some.2)
]
