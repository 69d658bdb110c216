-- Faults.
use Rattle.std.specs.Prelude.{◌≡◌, ◌≢◌, ℕ, ◌≤◌, List, [], ◌++◌, length, codes}
use Rattle.wire_http.specs.declared.fault.Fault.{Fault}
use Rattle.wire_http.specs.declared.fault.Fault.TheVariants.{Cut, ReadFault, WriteFault, HeadTooLong, BodyTooLong, BadHead, LengthNeeded, NotOffered, NoMemory}
use Rattle.wire_http.specs.Streams.{FoundEnd, GivenBytes, Gives}

-- the names of faults, which are also their texts
abbrev pub fault_name : Fault → List ℕ
fault_name Cut = codes "Cut"
fault_name ReadFault = codes "ReadFault"
fault_name WriteFault = codes "WriteFault"
fault_name HeadTooLong = codes "HeadTooLong"
fault_name BodyTooLong = codes "BodyTooLong"
fault_name BadHead = codes "BadHead"
fault_name LengthNeeded = codes "LengthNeeded"
fault_name NotOffered = codes "NotOffered"
fault_name NoMemory = codes "NoMemory"

-- the fault lies in the bytes that came, and not in a call or the memory
abbrev pub IsOfBytes : Fault → Type 0
IsOfBytes fault = (fault ≢ ReadFault) × (fault ≢ NoMemory)

-- the bytes, at most `most` of them, show the fault, whatever follows; nothing follows a cut
pub record Shows (most : ℕ) (Refuses : List ℕ → Fault → Type 0) (bytes : List ℕ) (fault : Fault) : Type 0 where
  pub shown : (more : List ℕ) → (fault ≡ Cut → more ≡ []) → Refuses (bytes ++ more) fault
  pub short : length bytes ≤ most

-- `Is` holds of what was given, and a cut comes only if the last call found the end
pub record Stops (old new : GivenBytes) (Is : List ℕ → Fault → Type 0) (fault : Fault) : Type 0 where
  pub bytes : List ℕ
  pub gives : Gives old new bytes
  pub is : Is bytes fault
  pub ended : fault ≡ Cut → FoundEnd new
