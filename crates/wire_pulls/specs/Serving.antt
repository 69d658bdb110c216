-- How a pull is answered.
use Rattle.std.specs.Prelude.{◌≡◌, List, ℕ, MatchResult, Result, Ok, Err}
use Rattle.state_ids.specs.Fronts.{meet_fronts}
use Rattle.state_facts.specs.declared.refusal.Refusal.{Refusal}
use Rattle.state_facts.specs.declared.refusal.Refusal.TheVariants.{NoMemory}
use Rattle.theory_history.specs.Views.{View}
use Rattle.wire_frames.specs.Frames.{Frame, frame_of}

-- the frame of the view since what both fronts count, unless memory runs out; or the refusal of a
-- bad body
abbrev pub Serves : View → Result (List ℕ) Refusal → Result Frame Refusal → Type 0
Serves view (Ok front) result = MatchResult result (λ delta. delta ≡ frame_of view (meet_fronts front view.front)) (λ refusal. refusal ≡ NoMemory)
Serves view (Err refusal) result = result ≡ Err refusal
