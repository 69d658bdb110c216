-- What participants are to be called for: none of it is made up.
use Rattle.std.specs.Prelude.{◌≡◌, Bool, true, List, IfSome}
use Rattle.std.specs.List.{All}
use Rattle.wire_callbacks.specs.declared.duty.Duty.{Duty}
use Rattle.node_schedule.specs.Calling.{Calling}
use Rattle.node_schedule.specs.Turns.{AtHost}
use Rattle.node_schedule.specs.declared.slip.Slip.{Slip}

-- a duty passes a test
abbrev pub Passes : (Duty → Bool) → Duty → Type 0
Passes test duty = test duty ≡ true

-- all duties that are queued at a host pass the test; and at all hosts
abbrev pub AllDue : (Duty → Bool) → AtHost → Type 0
AllDue test host = All (Passes test) host.due

abbrev pub AllWaiting : (Duty → Bool) → List AtHost → Type 0
AllWaiting test hosts = All (AllDue test) hosts

-- the duty that is kept in a slip passes the test; and in all slips
abbrev pub IsKept : (Duty → Bool) → Slip → Type 0
IsKept test slip = IfSome slip.kept (Passes test)

abbrev pub AllKept : (Duty → Bool) → List Slip → Type 0
AllKept test slips = All (IsKept test) slips

-- all duties that are queued or kept pass the test
pub record AllNamed (test : Duty → Bool) (calling : Calling) : Type 0 where
  pub waiting : AllWaiting test calling.now.hosts
  pub kept : AllKept test calling.slips

-- Nothing is queued or kept but what was before, or is among these: a test that all of those pass,
-- all pass.
abbrev pub NamesNoOther : (old new : Calling) → (added : List Duty) → Type 0
NamesNoOther old new added = (test : Duty → Bool) → AllNamed test old → All (Passes test) added → AllNamed test new

-- Only what is among these is queued or kept: a test that all of these pass, all pass.
abbrev pub NamesOnly : Calling → List Duty → Type 0
NamesOnly calling duties = (test : Duty → Bool) → All (Passes test) duties → AllNamed test calling
