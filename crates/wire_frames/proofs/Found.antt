-- what decode answers is a delta that the bytes encode
use Rattle.std.proofs.Common.{◌≡◌, ℕ, List, Result, Ok, Err, ap, subst, ◌∙◌}
use Rattle.std.specs.Prelude.{IfOk}
use Rattle.state_facts.specs.declared.refusal.Refusal.{Refusal}
use Rattle.wire_frames.specs.declared.version.Version.{Version}
use Rattle.wire_frames.specs.Frames.{Frame}
use Rattle.state_forest.specs.declared.record.Record.{Record}
use Rattle.wire_frames.specs.OneRecord.{IsRecordUnderAs, record_in_as}
use Rattle.wire_frames.specs.Encoding.{record_text_as, encoding_as}
use Rattle.wire_frames.specs.Rules.{IsDeltaAs}
use Rattle.wire_frames.specs.Reading.{frame_in}
use Rattle.wire_frames.specs.Answer.{Decodes}
use Rattle.wire_frames.proofs.Codes.{IsBytes}
use Rattle.wire_frames.proofs.FrameCodes.{frame_takes, frame_again, record_takes, record_again}

pub is_found : (bytes : List ℕ) (r : Result Frame Refusal) → IsBytes bytes → Decodes r (frame_in bytes) → IfOk r (λ d. (v : Version) × IsDeltaAs v d × (bytes ≡ encoding_as v d))
is_found bytes (Ok d) fits given = frame_takes bytes d fits given
is_found bytes (Err e) fits given = tt

pub is_only : (bytes : List ℕ) (r : Result Frame Refusal) → Decodes r (frame_in bytes) → (v : Version) (d : Frame) → IsDeltaAs v d → bytes ≡ encoding_as v d → Decodes r (Ok d)
is_only bytes r given v d f e = subst (Decodes r) (ap frame_in e ∙ frame_again v d f) given

-- the same for one record

pub is_found_alone : (v : Version) (front bytes : List ℕ) (r : Result Record Refusal) → IsBytes bytes → Decodes r (record_in_as v front bytes) → IfOk r (λ kept. IsRecordUnderAs v front kept × (bytes ≡ record_text_as v kept))
is_found_alone v front bytes (Ok kept) fits given = record_takes v front bytes kept fits given
is_found_alone v front bytes (Err e) fits given = tt

pub is_only_alone : (v : Version) (front bytes : List ℕ) (r : Result Record Refusal) → Decodes r (record_in_as v front bytes) → (kept : Record) → IsRecordUnderAs v front kept → bytes ≡ record_text_as v kept → Decodes r (Ok kept)
is_only_alone v front bytes r given kept f e = subst (Decodes r) (ap (record_in_as v front) e ∙ record_again v front kept f) given
