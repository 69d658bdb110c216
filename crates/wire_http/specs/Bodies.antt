-- When reading a body of a stated length ends in a fault.
use Rattle.std.specs.Prelude.{ℕ, ◌<◌, List, length}
use Rattle.wire_http.specs.declared.fault.Fault.{Fault}
use Rattle.wire_http.specs.declared.fault.Fault.TheVariants.{Cut, ReadFault, WriteFault, HeadTooLong, BodyTooLong, BadHead, LengthNeeded, NotOffered, NoMemory}

-- the most bytes that the body of a message may have, unless it is a frame
abbrev pub max_body_bytes : ℕ
max_body_bytes = 65536

abbrev pub RefusesBody : ℕ → List ℕ → Fault → Type 0
RefusesBody size input Cut = length input < size
RefusesBody size input ReadFault = Unit {0}
RefusesBody size input NoMemory = Unit {0}
RefusesBody size input HeadTooLong = ⊥
RefusesBody size input BodyTooLong = ⊥
RefusesBody size input BadHead = ⊥
RefusesBody size input LengthNeeded = ⊥
RefusesBody size input NotOffered = ⊥
RefusesBody size input WriteFault = ⊥
