-- what was put of a text, and what a sink has taken of it
use Rattle.std.specs.Prelude.{◌≡◌, ◌+◌, ◌-◌, ◌<◌, ◌≤◌, ℕ, Bool, true, false, List, [], length, take, Option, None, Some}
use Rattle.std.specs.Borrow.{MutBor, GName}
use Rattle.std.specs.Io.KnownBytes.{Appends}
use Rattle.std.proofs.Props.{props}
use Rattle.wire_http.specs.Streams.{Calls, TakenBytes, no_calls, too_many_interrupted}

-- which sink it is, its state at the start, and the count of interrupted calls of the message
pub record Start : Type 0 where
  pub sink : GName
  pub stream : TakenBytes
  pub calls : Calls
  pub counted : ℕ

abbrev pub no_sink : Start
no_sink = record { sink = 0; stream = record { taken = []; flushed = []; written = None }; calls = no_calls; counted = 0 }

abbrev pub of_sink : {W : Type 0} → (W → TakenBytes) → (W → Calls) → MutBor W → W → ℕ → Start
of_sink stream calls sink w counted = record { sink = sink.ghost_name; stream = stream w; calls = calls w; counted = counted }

-- how many bytes the sink has taken since
abbrev pub size_since : TakenBytes → TakenBytes → ℕ
size_since old new = length new.taken - length old.taken

-- the sink has taken all of the text, or after a fault a prefix of it
abbrev pub part_taken : Bool → TakenBytes → TakenBytes → List ℕ → List ℕ
part_taken false old new text = text
part_taken true old new text = take (size_since old new) text

-- no call failed and the count of interrupted calls is below the limit; or after a fault the last
-- call failed, or one too many was interrupted
abbrev pub Blames : Bool → Calls → Calls → ℕ → Type 0
Blames false old new counted = (new.failed ≡ old.failed) × (counted < too_many_interrupted)
Blames true old new counted =
    (counted < too_many_interrupted → (new.failed ≡ old.failed + 1) × (new.last_failed ≡ 1))
    × (too_many_interrupted ≤ counted → (new.failed ≡ old.failed) × (counted ≡ too_many_interrupted))

pub appends_is_fact : (old new : Option (List ℕ)) (bytes : List ℕ) → IsProp (Appends old new bytes)
appends_is_fact None new bytes = hlevel props
appends_is_fact (Some xs) None bytes = hlevel props
appends_is_fact (Some xs) (Some ys) bytes = hlevel props

pub blames_is_fact : (broken : Bool) (old new : Calls) (counted : ℕ) → IsProp (Blames broken old new counted)
blames_is_fact false old new counted = hlevel props
blames_is_fact true old new counted = hlevel props
