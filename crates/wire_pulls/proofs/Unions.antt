-- What a node takes by a pull.
use Rattle.std.proofs.Common.{◌≡◌, ◌∙◌, ℕ, ◌≤◌, List, Ok, arith, length, subst, sym}
use Rattle.state_ids.specs.Fronts.{IsBelow, join_fronts, meet_fronts}
use Rattle.state_ids.proofs.Pairs.{meet_below}
use Rattle.state_facts.specs.declared.refusal.Refusal.{Refusal}
use Rattle.theory_history.specs.Histories.{History, IsClosed, IsLawful, facts}
use Rattle.theory_history.specs.ViewShape.{HasShape}
use Rattle.theory_history.specs.Views.{StandsFor, View}
use Rattle.std.specs.Prelude.{Result}
use Rattle.wire_frames.specs.Frames.{Frame, frame_of}
use Rattle.wire_frames.specs.TakenFrames.{IsTaken}
use Rattle.wire_frames.proofs.FramesOfHistories.{some_view, take_law}
use Rattle.wire_frames.proofs.OfSets.{frame_stands}
use Rattle.wire_pulls.specs.PullBodies.{IsAsked, asked, pull_body}
use Rattle.wire_pulls.specs.Serving.{Serves}
use Rattle.wire_pulls.proofs.Coded.{asked_again}

-- what is served to a node that asks from a front
served_is : (other : View) (own front : List ℕ) (frame : Frame) → length own ≡ length other.front → length own ≤ 8 → IsAsked (length own) front
    → Serves other (asked (length other.front) (pull_body front)) (Ok frame) → frame ≡ frame_of other (meet_fronts front other.front)
served_is other own front frame nodes few is serves =
    let again : asked (length other.front) (pull_body front) ≡ Ok front = subst (λ (n : ℕ). asked n (pull_body front) ≡ Ok front) nodes (asked_again (length own) front few is) in
    subst (λ (r : Result (List ℕ) Refusal). Serves other r (Ok frame)) again serves

base_below : (v w own : List ℕ) → length v ≡ length w → IsBelow v own → IsBelow (meet_fronts v w) own
base_below v w own nodes below = λ node. let low = (meet_below v w nodes).0 node in let high = below node in omega (arith, low, high)

pub pull_some : (h : History) (v w front : List ℕ) (own other : View) (frame : Frame) → IsLawful h → IsClosed h v → IsClosed h w
    → StandsFor (facts h v) own → StandsFor (facts h w) other → length own.front ≡ length other.front
    → length own.front ≤ 8 → IsAsked (length own.front) front → IsBelow front own.front → Serves other (asked (length other.front) (pull_body front)) (Ok frame)
    → IsBelow frame.base own.front × ((taken : View) × IsTaken own frame taken × HasShape taken)
pull_some h v w front own other frame law cv cw sa sb nodes few is below serves =
    let base = meet_fronts front other.front in
    let made = served_is other own.front front frame nodes few is serves in
    let reached : IsBelow base own.front = base_below front other.front own.front (is.count ∙ nodes) below in
    let P : Frame → Type 0 = λ f. IsBelow f.base own.front × ((taken : View) × IsTaken own f taken × HasShape taken) in
    subst P (sym made) (reached, some_view h v w base own (frame_of other base) law cv cw sa (frame_stands (facts h w) other base sb) nodes reached)

pub pull_union : (h : History) (v w front : List ℕ) (own other taken : View) (frame : Frame) → IsLawful h → IsClosed h v → IsClosed h w
    → StandsFor (facts h v) own → StandsFor (facts h w) other → length own.front ≡ length other.front
    → length own.front ≤ 8 → IsAsked (length own.front) front → IsBelow front own.front → Serves other (asked (length other.front) (pull_body front)) (Ok frame)
    → IsTaken own frame taken → StandsFor (facts h (join_fronts v w)) taken
pull_union h v w front own other taken frame law cv cw sa sb nodes few is below serves takes =
    let base = meet_fronts front other.front in
    let made = served_is other own.front front frame nodes few is serves in
    take_law h v w base own taken (frame_of other base) law cv cw sa (frame_stands (facts h w) other base sb)
    (base_below front other.front own.front (is.count ∙ nodes) below) (subst (λ (f : Frame). IsTaken own f taken) made takes)
