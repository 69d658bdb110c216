-- Which participants are to be called, which are being called, and which pause.
use Rattle.std.specs.Prelude.{◌≡◌, [], List, Option, None, Some, false, map}
use Rattle.std.specs.declared.time.Duration.{Duration}
use Rattle.wire_callbacks.specs.declared.duty.Duty.{Duty}
use Rattle.node_schedule.specs.declared.slip.Slip.{Slip}
use Rattle.node_schedule.specs.Slips.{begun_to, called_of, without}
use Rattle.node_schedule.specs.Turns.{IsTaken, Turns, changed_at, place_of, with_end, with_hosts}
use Rattle.node_schedule.specs.declared.pace.Pace.{Pace}
use Rattle.node_schedule.specs.declared.slip.Called.{Called}

-- the hosts with the duties queued there, what is remembered of each participant, and when the
-- first pause ends
pub record Calling : Type 0 where
  pub now : Turns
  pub slips : List Slip
  pub resumes_at : Option Duration

-- what is remembered once this duty is taken: its participant is being called
abbrev pub slips_after : Option Duty → List Slip → List Slip
slips_after None slips = slips
slips_after (Some duty) slips = map (begun_to (called_of duty)) slips

-- a duty is taken as the hosts' turns demand, and its participant is being called
pub record IsTakenFrom (old new : Calling) (duty : Option Duty) : Type 0 where
  pub hosts : IsTaken old.now new.now duty
  pub slips : new.slips ≡ slips_after duty old.slips
  pub resumes : new.resumes_at ≡ old.resumes_at

-- before anything was put
abbrev pub nothing : Calling
nothing = record { now = record { hosts = []; turns = 0; is_for_new = false }; slips = []; resumes_at = None }

-- after a call for a duty is over, with its host's answer recorded
abbrev pub ended : Duty → Pace → Calling → Calling
ended duty pace calling = record { now = with_hosts (changed_at (place_of duty calling.now.hosts) (with_end pace) calling.now.hosts) calling.now; slips = calling.slips; resumes_at = calling.resumes_at }

-- after it is forgotten that a participant was called
abbrev pub forgotten : Called → Calling → Calling
forgotten who calling = record { now = calling.now; slips = without who calling.slips; resumes_at = calling.resumes_at }
