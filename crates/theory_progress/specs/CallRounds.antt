-- Rounds of calls: in each, every participant under an LRA that is to act at the start is called,
-- and gives an end.
use Rattle.std.specs.Prelude.{◌≡◌, ◌&&◌, ℕ, Bool, false, List, [], ◌∷◌}
use Rattle.state_ids.specs.Ids.{Id}
use Rattle.state_facts.specs.declared.fact.Fact.{Fact}
use Rattle.state_facts.specs.Duties.{is_pending, wants_cancel}
use Rattle.state_facts.specs.Links.{Links}
use Rattle.state_facts.specs.Sets.{heard, want}
use Rattle.wire_callbacks.specs.declared.duty.Duty.{Duty}
use Rattle.script_world.specs.declared.event.Event.{Event}
use Rattle.script_world.specs.declared.event.EventReply.{EventReply}
use Rattle.script_world.specs.Worlds.{Runs, State, set_of}
use Rattle.theory_progress.specs.Calls.{IsActUnder, count_under, is_open_at}

-- the participant is open, and its LRA is to be cancelled
abbrev pub is_to_compensate : List Fact → Id → ℕ → Links → Bool
is_to_compensate S d m links = is_open_at S d m links && wants_cancel (want S d)

-- how many participants under l must still compensate
abbrev pub compensations_left : List Fact → Id → ℕ
compensations_left S l = count_under (is_to_compensate S) S l

-- for each call to act that was due under l by S, T has heard the end: Done or Failed
abbrev pub HearsAllEnds : List Fact → List Fact → Id → Type 0
HearsAllEnds S T l = (call : Duty) → IsActUnder S l call → is_pending (heard T call.id call.member call.act) ≡ false

-- one round, from s to t: whatever else happens, the node hears the end of each such call
pub record IsCallRound (node : ℕ) (l : Id) (s t : State) : Type 0 where
  pub events : List Event
  pub replies : List EventReply
  pub runs : Runs s events replies t
  pub hears : HearsAllEnds (set_of s node) (set_of t node) l

-- one round after another, from each state to the next
abbrev pub GoInRounds : ℕ → Id → State → List State → Type 0
GoInRounds node l s [] = Unit {0}
GoInRounds node l s (t ∷ ts) = IsCallRound node l s t × GoInRounds node l t ts
