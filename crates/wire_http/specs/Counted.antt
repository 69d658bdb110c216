-- A reader or a writer, the bytes that went through it, and how its calls came out so far.
use Rattle.std.specs.Prelude.{ℕ, List, []}
use Rattle.wire_http.specs.Streams.{Calls, no_calls}

pub record Reader (R : Type 0) : Type 0 where
  pub inner : R
  pub given : List ℕ
  pub ended : ℕ
  pub calls : Calls

pub record Writer (W : Type 0) : Type 0 where
  pub inner : W
  pub taken : List ℕ
  pub flushed : List ℕ
  pub calls : Calls

-- no call has been made yet
abbrev pub unread : {R : Type 0} → R → Reader R
unread reader = record { inner = reader; given = []; ended = 0; calls = no_calls }

abbrev pub unwritten : {W : Type 0} → W → Writer W
unwritten writer = record { inner = writer; taken = []; flushed = []; calls = no_calls }
