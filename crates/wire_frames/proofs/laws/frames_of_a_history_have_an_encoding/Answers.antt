use Rattle.wire_frames.specs.declared.version.Version.TheVariants.{Two}
use Rattle.wire_frames.specs.Frames.{frame_of}
use Rattle.wire_frames.proofs.FrameCodes.{frame_again}
use Rattle.wire_frames.proofs.Grammar.{grammar_law}
use Rattle.wire_frames.proofs.HaveEncodings.{is_delta, is_first_delta}
use Rattle.wire_frames.proofs.laws.frames_of_a_history_have_an_encoding.Goals as goal

pub returns : goal.returns
returns c = record {
  rules = is_delta;
  first = is_first_delta;
  read = λ h w base view lawful closed stands nodes below typed. frame_again Two (frame_of view base) (is_delta (frame_of view base) typed (grammar_law h w base view lawful closed stands nodes below));
}
