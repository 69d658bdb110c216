-- A written response whose body is a frame.
use Rattle.std.proofs.Common.{◌≡◌, ◌∙◌, ℕ, List, [], ◌++◌, append-nil, subst}
use Rattle.wire_http.specs.ByteResponses.{Response}
use Rattle.wire_http.specs.Responses.{IsResponse, head_room}
use Rattle.wire_http.specs.MessageTexts.{response_text}
use Rattle.wire_http.specs.WholeMessages.{IsSound}
use Rattle.wire_http.proofs.WholeMessages.{whole_response}
use Rattle.wire_frames.specs.Frames.{Frame}
use Rattle.wire_frames.specs.Encoding.{encoding}
use Rattle.wire_pulls.specs.PullAnswers.{IsAnswer, max_frame_bytes}

pub written_frame : (r : Response) (frame : Frame) → IsSound max_frame_bytes r → r.status ≡ 200 → r.body ≡ encoding frame
    → IsAnswer (response_text r) 200 (encoding frame)
written_frame r frame sound status body =
    let whole = whole_response max_frame_bytes r [] sound in
    record {
      head = whole.0;
      whole = subst (λ (bytes : List ℕ). IsResponse head_room max_frame_bytes bytes whole.0 (encoding frame) []) (append-nil (response_text r))
          (subst (λ (text : List ℕ). IsResponse head_room max_frame_bytes (response_text r ++ []) whole.0 text []) body whole.1);
      status_is = whole.2 ∙ status;
    }
