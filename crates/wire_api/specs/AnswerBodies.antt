-- The bytes of an answer's body.
use Rattle.std.specs.Prelude.{ℕ, List}
use Rattle.wire_frames.specs.Encoding.{encoding}
use Rattle.wire_api.specs.declared.body.BodyKind.{BodyKind}
use Rattle.wire_api.specs.declared.body.BodyKind.TheVariants.{Bytes, Frame}

-- the bytes of a borrowed delta are its encoding
abbrev pub bytes_of : BodyKind → List ℕ
bytes_of (Bytes bytes) = bytes
bytes_of (Frame delta) = encoding delta.now
