-- the answer of decoding
use Rattle.std.specs.Prelude.{◌≡◌, Result, Ok, Err}
use Rattle.state_facts.specs.declared.refusal.Refusal.{Refusal}
use Rattle.state_facts.specs.declared.refusal.Refusal.TheVariants.{BadFrame, NoMemory}
use Rattle.wire_frames.specs.declared.input.Stop.{Stop}
use Rattle.wire_frames.specs.declared.input.Stop.TheVariants.{Fault}

abbrev pub Refuses : {A : Type 0} → Refusal → Result A Stop → Type 0
Refuses (BadFrame place) read = read ≡ Err (Fault place)
Refuses NoMemory read = Unit {0}
Refuses _ read = ⊥

-- the result of reading, unless memory ran out
abbrev pub Decodes : {A : Type 0} → Result A Refusal → Result A Stop → Type 0
Decodes (Ok d) read = read ≡ Ok d
Decodes (Err e) read = Refuses e read
