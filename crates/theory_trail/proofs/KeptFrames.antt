-- A frame that was sent says the same from then on.
use Rattle.std.proofs.Common.{◌≡◌, ◌+◌, ◌-◌, ◌==◌, ◌++◌, ℕ, zero, suc, List, [], ◌∷◌, refl, sym, ap, subst, ◌∙◌, Bool, true, false, cond, arith, Some, None, length, slice_get}
use Rattle.std.proofs.lemmas.Bool.Decides.{nat_tests}
use Rattle.state_facts.specs.declared.fact.Fact.{Fact}
use Rattle.theory_history.specs.Views.{StandsFor}
use Rattle.wire_frames.specs.Frames.{Frame}
use Rattle.script_world.specs.declared.event.Event.{Event}
use Rattle.script_world.specs.declared.event.EventReply.{EventReply}
use Rattle.script_world.specs.Worlds.{IsWorld, Runs, SentFrame, State, Steps, frame_at}
use Rattle.script_world.proofs.Moving.{IsMove, Still, Entered, Joined, Posted, frame_in, step_keeps, step_moves}
use Rattle.theory_trail.specs.NodeTrails.{IsTold}

get_more : {X : Type 0} (xs ys : List X) (i : ℕ) (x : X) → slice_get xs i ≡ Some x → slice_get (xs ++ ys) i ≡ Some x
get_more [] ys i x e = absurd cc
get_more (y ∷ xs) ys zero x e = e
get_more (y ∷ xs) ys (suc i) x e = get_more xs ys i x e

get_last : {X : Type 0} (xs : List X) (x : X) → slice_get (xs ++ x ∷ []) (length xs) ≡ Some x
get_last [] x = refl
get_last (y ∷ xs) x = get_last xs x

-- frames are numbered from 1
numbered_still : (b : Bool) (frames more : List SentFrame) (place : ℕ) (frame : SentFrame) → cond b None (slice_get frames place) ≡ Some frame → cond b None (slice_get (frames ++ more) place) ≡ Some frame
numbered_still true frames more place frame e = absurd cc
numbered_still false frames more place frame e = get_more frames more place frame e

-- the last frame has the last number
pub last_numbered : (frames : List SentFrame) (frame : SentFrame) (number : ℕ) → number ≡ length frames + 1 → cond (number == 0) None (slice_get (frames ++ frame ∷ []) (number - 1)) ≡ Some frame
last_numbered frames frame number e = by (number == 0) refl
  where
    by : (b : Bool) → (number == 0) ≡ b → cond b None (slice_get (frames ++ frame ∷ []) (number - 1)) ≡ Some frame
    by true k = let none : number ≡ 0 = grind (arith, nat_tests) in absurd (omega (arith, e, none))
    by false k =
        let place : length frames ≡ number - 1 = omega (arith, e) in
        subst (λ (i : ℕ). slice_get (frames ++ frame ∷ []) i ≡ Some frame) place (get_last frames frame)

move_numbered : (s t : State) (number : ℕ) (frame : SentFrame) → IsMove s t → frame_at s number ≡ Some frame → frame_at t number ≡ Some frame
move_numbered s t number frame (Still e) at = ap (λ (u : State). frame_at u number) e ∙ at
move_numbered s t number frame (Entered node c is taken e) at = ap (λ (u : State). frame_at u number) e ∙ at
move_numbered s t number frame (Joined node from is m e) at = ap (λ (u : State). frame_at u number) e ∙ at
move_numbered s t number frame (Posted version node base is nodes below e) at =
    ap (λ (u : State). frame_at u number) e ∙ numbered_still (number == 0) s.sent _ (number - 1) frame at

pub step_told : (s t : State) (event : Event) (reply : EventReply) (number : ℕ) (delta : Frame) → IsWorld s → Steps s event reply t → IsTold s number delta → IsTold t number delta
step_told s t event reply number delta world steps told =
    let kept = step_keeps s t event reply world steps in
    let closed = (world.sent told.sent (frame_in s number told.sent told.numbered)).closed in
    record {
      sent = told.sent;
      numbered = move_numbered s t number told.sent (step_moves s t event reply steps) told.numbered;
      version = told.version;
      view = told.view;
      sender = record {
        stands = subst (λ (S : List Fact). StandsFor S told.view) (sym (kept.grown.same told.sent.front closed)) told.sender.stands;
        counts = told.sender.counts;
      };
      told = told.told;
    }

pub run_told : (s t : State) (events : List Event) (replies : List EventReply) (number : ℕ) (delta : Frame) → IsWorld s → Runs s events replies t → IsTold s number delta → IsTold t number delta
run_told s t [] [] number delta world runs told = subst (λ (u : State). IsTold u number delta) (sym runs) told
run_told s t [] (reply ∷ replies) number delta world runs told = absurd runs
run_told s t (event ∷ events) [] number delta world runs told = absurd runs
run_told s t (event ∷ events) (reply ∷ replies) number delta world runs told =
    let kept = step_keeps s runs.0 event reply world runs.1 in
    run_told runs.0 t events replies number delta kept.world runs.2 (step_told s runs.0 event reply number delta world runs.1 told)
