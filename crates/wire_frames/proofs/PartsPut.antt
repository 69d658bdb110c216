-- what was taken of a text before a fault
use Rattle.std.proofs.Common.{◌≡◌, ◌++◌, ℕ, List, Bool, true, false, take, drop, sym}
use Rattle.std.proofs.lemmas.List.{take-append-drop}
use Rattle.std.specs.Io.KnownBytes.{Appends}
use Rattle.wire_http.specs.Streams.{TakenBytes, TakesPart}
use Rattle.wire_frames.specs.WrittenSoFar.{part_taken, size_since}

pub part_put : (broken : Bool) (old new : TakenBytes) (text : List ℕ) → broken ≡ true → new.taken ≡ old.taken ++ part_taken broken old new text → Appends old.written new.written (part_taken broken old new text) → TakesPart old new text
part_put true old new text e taken written =
    let n = size_since old new in
    (take n text, drop n text, sym (take-append-drop n text), record { taken = taken; written = written })
part_put false old new text e taken written = absurd cc
