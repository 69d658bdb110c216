-- A frame that a node gives can be taken.
use Rattle.std.proofs.Common.{◌≡◌, ◌++◌, ℕ, List, [], Result, Ok, Err, refl, sym, ap, subst, Some, length}
use Rattle.state_ids.specs.Fronts.{meet_fronts}
use Rattle.state_ids.proofs.Pairs.{meet_below}
use Rattle.state_facts.specs.declared.refusal.Refusal.{Refusal}
use Rattle.theory_history.specs.Views.{View}
use Rattle.wire_frames.specs.Frames.{Frame, frame_of}
use Rattle.wire_frames.specs.Grammar.{IsOfGrammar}
use Rattle.wire_frames.specs.Rules.{IsDelta, IsDeltaAs}
use Rattle.wire_frames.specs.Encoding.{encoding_as}
use Rattle.wire_frames.specs.Typed.{IsTyped}
use Rattle.wire_frames.specs.declared.version.Version.{Version}
use Rattle.wire_frames.proofs.FrameCodes.{one_delta}
use Rattle.wire_frames.proofs.Grammar.{grammar_law}
use Rattle.wire_frames.proofs.HaveEncodings.{is_delta}
use Rattle.wire_pulls.specs.PullBodies.{asked}
use Rattle.script_world.specs.Worlds.{IsEncoded, SentFrame, State, frame_at, front_of}
use Rattle.state_book.specs.declared.calls.Call.TheVariants.{Pull}
use Rattle.state_book.specs.declared.calls.Reply.{Reply}
use Rattle.state_book.specs.declared.calls.Reply.TheVariants.{Gave}
use Rattle.state_book.specs.Next.{IsNext, pull_reply}
use Rattle.theory_trail.specs.NodeTrails.{IsServed, IsToldAs}
use Rattle.theory_trail.proofs.Entries.{asked_nodes, encoded_as, meet_nodes}
use Rattle.theory_trail.proofs.OwnCommands.{current_of}

-- what a frame tells is what its bytes encode

pub told_encoded : (v : Version) (s : State) (number : ℕ) (delta : Frame) → IsDeltaAs v delta → IsToldAs v s number delta
    → (sent : SentFrame) × (frame_at s number ≡ Some sent) × IsEncoded s.history sent (encoding_as v delta)
told_encoded v s number delta rules told =
    (told.sent, told.numbered, encoded_as v s number delta told rules)

pub encoded_told : (v : Version) (s : State) (number : ℕ) (sent : SentFrame) (delta : Frame) → IsDeltaAs v delta → frame_at s number ≡ Some sent → IsEncoded s.history sent (encoding_as v delta)
    → IsToldAs v s number delta
encoded_told v s number sent delta rules numbered encoded =
    let one = one_delta v sent.version delta (frame_of encoded.view sent.base) [] [] rules encoded.rules (ap (λ (bytes : List ℕ). bytes ++ []) encoded.encodes) in
    record {
      sent = sent;
      numbered = numbered;
      version = sym one.0;
      view = encoded.view;
      sender = encoded.sender;
      told = one.1;
    }

-- a frame that is given keeps the rules of frames

same_frame : (a : View) (asker : List ℕ) (delta : Frame) → Gave delta ≡ pull_reply a (Ok asker) → delta ≡ frame_of a (meet_fronts asker a.front)
same_frame a asker delta e = ap frame_in_reply e
  where
    frame_in_reply : Reply → Frame
    frame_in_reply (Gave frame) = frame
    frame_in_reply _ = delta

pub given_fits : (me now : ℕ) (s : State) (a b : View) (body : List ℕ) (delta : Frame) → IsServed me s a → IsNext me a (Pull body) now (Gave delta) b → IsTyped delta → IsDelta delta
given_fits me now s a b body delta served next typed = by (asked (length a.front) body) refl next.0
  where
    by : (o : Result (List ℕ) Refusal) → asked (length a.front) body ≡ o → Gave delta ≡ pull_reply a o → IsDelta delta
    by (Ok asker) asks e =
        let same = same_frame a asker delta e in
        let nodes = asked_nodes (length a.front) body asker asks in
        is_delta delta typed
        (subst IsOfGrammar (sym same)
        (grammar_law s.history (front_of s me) (meet_fronts asker a.front) a served.world.lawful (current_of me s a served).closed served.holds.stands
        (meet_nodes asker a.front nodes) (meet_below asker a.front nodes).1))
    by (Err refusal) asks e = absurd cc
