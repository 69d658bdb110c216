-- What threads do to one part of a node's state by itself.
use Rattle.std.specs.Prelude.{◌≡◌, ℕ, Bool, Option, Result, true}
use Rattle.std.specs.declared.time.Duration.{Duration}
use Rattle.wire_callbacks.specs.declared.duty.Duty.{Duty}
use Rattle.node_inbox.specs.Letters.{Said}
use Rattle.node_inbox.specs.Tellings.{Told}
use Rattle.node_inbox.specs.declared.letter.Unheard.{Unheard}
use Rattle.node_schedule.specs.declared.plight.Plight.{Plight}
use Rattle.node_replication.specs.Followers.{standing_at, with_pace, with_wait}
use Rattle.node_replication.specs.Paces.{Pace}
use Rattle.node_replication.specs.Waits.{Wait}
use Rattle.node_agenda.specs.Hearing.{HearsOf, IsAskedNow, IsDueFrom, IsNoted, IsPutIn, IsPutLast, IsReturned}
use Rattle.node_agenda.specs.Mail.{Mail, after_news, hastened, to_count, with_asking, with_end, with_hold, with_hurry, with_known, with_sweeps, with_wanted}
use Rattle.node_agenda.specs.Sweeps.{Sweeps}
use Rattle.node_agenda.specs.declared.task.OperatorWant.{OperatorWant}
use Rattle.node_core.specs.Nodes.{with_followers, with_mail}
use Rattle.node_core.specs.Peers.{Behaviour}
use Rattle.node_core.specs.Tallies.{Tally}
use Rattle.node_core.specs.declared.node_state.NodeState.{NodeState}

-- Calls of the mailbox: a new list of duties is to be asked for, or is asked for now; nothing is stored
-- for a while, because the journal failed; the writer thread checks whether the run is over; deadlines
-- are checked at once; operators want a call, or take that back; the program is to end; the node's facts
-- are to be counted; a telling waits, or waits again; the sweeps have seen something; a letter waits to
-- be stored, or was stored; a participant is called, and answered or didn't
pub data IsMailCall (old new : Mail) : Type 0 where
  Stirs : (makes_none_due : Bool) → new ≡ after_news makes_none_due old → IsMailCall old new
  BeginsList : (now : Duration) → IsAskedNow now old new → IsMailCall old new
  Spares : (until : Duration) → new ≡ with_hold until old → IsMailCall old new
  Hurries : new ≡ with_hurry true old → IsMailCall old new
  Hastens : new ≡ with_asking (hastened old.asking) old → IsMailCall old new
  Wants : (wanted : OperatorWant) → new ≡ with_wanted wanted old → IsMailCall old new
  Ends : new ≡ with_end old → IsMailCall old new
  Counts : new ≡ with_known (to_count old.known) old → IsMailCall old new
  PutsTelling : (told : Told) (result : Result (Option Told) Told) → IsPutIn told old new result → IsMailCall old new
  KeepsTelling : (now : Duration) (told : Told) → IsReturned now told old new → IsMailCall old new
  IsSwept : (sweeps : Sweeps) → new ≡ with_sweeps sweeps old → IsMailCall old new
  PutsLetter : (said : Said) → IsPutLast said old new → IsMailCall old new
  NotesLetter : (said : Said) (now : Duration) → IsNoted said now old new → IsMailCall old new
  TakesDue : (due : Option Duty) → IsDueFrom old new due → IsMailCall old new
  HearsOfCall : (time now : Duration) (came : Result Said Unheard) (plight : Option Plight) → HearsOf time now came old new plight → IsMailCall old new

-- Calls of one part that the threads of a node make: of the mailbox; of the followers, if it is asked how
-- an answer stands, if a run begins or ends, and if what was late is logged; of the peers; and of the
-- tally. Two flags are set: whether the journal is closed, and that the program is about to end
pub data IsPartCall (old new : NodeState) : Type 0 where
  OfMail : IsMailCall old.mail new.mail → new ≡ with_mail new.mail old → IsPartCall old new
  Stands : (ticket : ℕ) (since now : Duration) → new ≡ with_followers (standing_at ticket since now old.followers) old → IsPartCall old new
  Runs : (pace : Pace) → new ≡ with_followers (with_pace pace old.followers) old → IsPartCall old new
  Logs : (wait : Wait) → new ≡ with_followers (with_wait wait old.followers) old → IsPartCall old new
  OfPeers : (peers : Behaviour) → new ≡ record old { peers = peers } → IsPartCall old new
  OfTally : (tally : Tally) → new ≡ record old { tally = tally } → IsPartCall old new
  Shuts : (is_shut : Bool) → new ≡ record old { is_shut = is_shut } → IsPartCall old new
  Stops : new ≡ record old { is_ending = true } → IsPartCall old new
