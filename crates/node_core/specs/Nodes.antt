-- A node's state besides its journal.
use Rattle.std.specs.Prelude.{◌&&◌, ◌||◌, ◌==◌, ℕ, Bool, List, Option, None, Some, false, if◌then◌else◌, nat_lt, not, true}
use Rattle.std.specs.List.{list_any}
use Rattle.std.specs.declared.time.Duration.{Duration}
use Rattle.state_ids.specs.Fronts.{count}
use Rattle.wire_callbacks.specs.declared.duty.Duty.{Duty}
use Rattle.node_replication.specs.Followers.{Followed, at_first, refuses, wants_any, with_spread}
use Rattle.node_replication.specs.Spreads.{begun, counted, ended, looked, target}
use Rattle.node_agenda.specs.Asks.{unasked}
use Rattle.node_agenda.specs.Mail.{Mail, empty_mail, with_opening}
use Rattle.node_agenda.specs.Starts.{patient}
use Rattle.node_agenda.specs.Sweeps.{Sweeps}
use Rattle.node_agenda.specs.Tasks.{is_spared, may_enter}
use Rattle.node_core.specs.Desks.{has_waited, nobody}
use Rattle.node_core.specs.Peers.{strangers}
use Rattle.node_core.specs.Tallies.{unused}
use Rattle.node_core.specs.declared.desk_watch.TheConstants.{HANGS_MS}
use Rattle.node_core.specs.declared.node_state.NodeSettings.{NodeSettings}
use Rattle.node_core.specs.declared.node_state.NodeState.{NodeState}
use Rattle.node_core.specs.declared.node_state.Unready.{Unready}
use Rattle.node_core.specs.declared.node_state.Unready.TheVariants.{Behind, Copies, Disk, Ending, Journal}

-- before the journal is looked at
abbrev pub node_at_first : (me nodes : ℕ) → NodeSettings → Sweeps → NodeState
node_at_first me nodes s sweeping = record {
  me = me;
  nodes = nodes;
  is_apart = s.is_apart;
  is_anew = s.is_anew;
  mail = empty_mail me nodes s.is_apart s.is_anew sweeping;
  asks = unasked nodes;
  followers = at_first (record { me = me; nodes = nodes; wanted = s.copies; patience = s.patience }) s.is_strict;
  peers = strangers;
  tally = unused s.max_calls s.max_moves;
  desk = nobody;
  is_new = false;
  has_entered = false;
  is_shut = false;
  is_ending = false;
  has_news = false;
}

abbrev pub with_mail : Mail → NodeState → NodeState
with_mail mail n = record n { mail = mail }

abbrev pub with_followers : Followed (List Duty) → NodeState → NodeState
with_followers followers n = record n { followers = followers }

-- how many facts of its own it has is known
abbrev pub with_count : (own : ℕ) → NodeState → NodeState
with_count own n = with_followers (with_spread (counted own n.followers.spread) n.followers) n

-- others may lack the last fact of the node, as if it had been stored just now
abbrev pub as_stored : NodeState → NodeState
as_stored n = with_followers (with_spread (ended true (begun n.followers.spread)) n.followers) n

-- its disk may be lost: a start waits for all others
abbrev pub as_empty : NodeState → NodeState
as_empty n = record n { is_new = not n.is_anew; mail = with_opening (patient n.mail.opening) n.mail }

abbrev pub started_with : (own : ℕ) → NodeState → NodeState
started_with own n = if not (wants_any n.followers) then n else if own == 0 then as_empty n else as_stored n

abbrev pub started : List ℕ → NodeState → NodeState
started front n = started_with (count front n.me) (with_count (count front n.me) n)

-- whether the journal is new although another node knows facts of this one, and nobody said that the
-- old journal is lost
abbrev pub is_lost : List ℕ → NodeState → Bool
is_lost told n = not (n.is_anew || not (wants_any n.followers)) && (nat_lt 0 (count told n.me) && (count n.mail.known.front n.me == 0))

-- whether it answers only pulls: its disk may be lost, and it hasn't heard from all others
abbrev pub answers_nothing : NodeState → Bool
answers_nothing n = n.is_new && not n.mail.opening.is_open

-- whether commands are accepted: the program isn't about to end, the others were heard from and have
-- no more facts of this node, the journal hasn't just failed, enough others have what is stored if
-- copies are strict, and no other process has its number
abbrev pub takes_commands : Duration → NodeState → Bool
takes_commands now n = not n.is_ending && (may_enter now n.mail && not (refuses n.followers))

-- whether a call has waited at the desk for seconds
abbrev pub is_hung : Duration → NodeState → Bool
is_hung now n = list_any (has_waited now HANGS_MS) n.desk.since

-- the first reason why it accepts no commands
abbrev pub unready : Duration → NodeState → Option Unready
unready now n =
    if n.is_ending then Some Ending
    else if refuses n.followers then Some Copies
    else if n.is_shut || (n.tally.has_failed || is_spared now n.mail) then Some Journal
    else if is_hung now n then Some Disk
    else if not n.mail.opening.is_open then Some Behind
    else None

-- the ticket of all that may be shown now
abbrev pub shown : NodeState → ℕ
shown n = target (looked n.followers.spread)

abbrev pub as_looked : NodeState → NodeState
as_looked n = with_followers (with_spread (looked n.followers.spread) n.followers) n
