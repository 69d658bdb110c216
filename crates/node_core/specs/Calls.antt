-- Which calls are made at the desk, and what each of them leaves.
use Rattle.std.specs.Prelude.{◌≡◌, ◌-◌, ◌&&◌, ◌||◌, ℕ, Bool, Option, MatchBool, None, Some, false, if◌then◌else◌, nat_lt, not, true}
use Rattle.std.specs.List.{list_any}
use Rattle.std.specs.Duration.{as_nanos}
use Rattle.std.specs.declared.time.Duration.{Duration}
use Rattle.state_ids.specs.Fronts.{count}
use Rattle.node_replication.specs.Followers.{promised, with_spread}
use Rattle.node_replication.specs.Spreads.{begun, drawn, ended, given, next_ticket}
use Rattle.node_agenda.specs.Mail.{counted, learnt, with_known}
use Rattle.node_agenda.specs.Noted.{Notes}
use Rattle.node_core.specs.Desks.{begun as waiting, ended as waited_at, has_waited}
use Rattle.node_core.specs.Nodes.{answers_nothing, as_looked, shown, takes_commands, with_followers, with_mail}
use Rattle.node_core.specs.Tallies.{counted as tallied, failed}
use Rattle.node_core.specs.declared.calls.AskedCall.{AskedCall}
use Rattle.node_core.specs.declared.calls.Caller.{Caller}
use Rattle.node_core.specs.declared.calls.Caller.TheVariants.{Worker, Writer}
use Rattle.node_core.specs.declared.calls.CallResult.{CallResult}
use Rattle.node_core.specs.declared.calls.CallStep.{CallStep}
use Rattle.node_core.specs.declared.calls.CallStep.TheVariants.{Asks, Enters, Other}
use Rattle.node_core.specs.declared.calls.ReplyKind.{ReplyKind}
use Rattle.node_core.specs.declared.calls.ReplyKind.TheVariants.{Gave, Stored, Other as OtherReply}
use Rattle.node_core.specs.declared.desk_watch.TheConstants.{STALLS_MS}
use Rattle.node_core.specs.declared.node_state.NodeState.{NodeState}

-- a call that is being made: whose it is, at which place its thread waits, and what it means for the
-- nodes that pull
pub record Admitted : Type 0 where
  pub caller : Caller
  pub place : ℕ
  pub step : CallStep

-- whether operators ask nothing of the writer thread
abbrev pub is_closed : Duration → NodeState → Bool
is_closed now n = n.is_shut || (answers_nothing n || list_any (has_waited now STALLS_MS) n.desk.since)

-- whether a command that has waited since a moment waits on: a start still has to hear from the
-- others, and a second isn't over
abbrev pub since_or : Option Duration → Duration → Duration
since_or None now = now
since_or (Some since) now = since

abbrev pub holds_command : Option Duration → Duration → NodeState → Bool
holds_command since now n =
    n.is_apart && ((not n.mail.opening.is_open && (not n.mail.opening.is_late && not n.mail.has_ended))
    && nat_lt (as_nanos now - as_nanos (since_or since now)) 1_000_000_000)

-- Whether a call is made: each of the writer thread. Of a worker's, only a pull is made while the disk
-- may be lost, and none that may store a fact of the node's own while no commands are accepted.
abbrev pub is_admitted : Caller → AskedCall → Duration → NodeState → Bool
is_admitted Writer asked now n = true
is_admitted Worker asked now n = (asked.pulls || not (answers_nothing n)) && (not asked.enters || takes_commands now n)

-- what a call means for the nodes that pull, if these are in other processes
abbrev pub asks_by : Caller → (ticket : ℕ) → CallStep
asks_by Worker ticket = Asks ticket
asks_by Writer ticket = Other

abbrev pub step_of : Caller → AskedCall → NodeState → CallStep
step_of caller asked n =
    if not n.is_apart then Other
    else if asked.enters then Enters
    else if asked.pulls then asks_by caller (next_ticket n.followers.spread)
    else Other

abbrev pub begun_by : CallStep → NodeState → NodeState
begun_by Enters n = with_followers (with_spread (begun n.followers.spread) n.followers) n
begun_by (Asks ticket) n = with_followers (with_spread (drawn n.followers.spread) n.followers) n
begun_by Other n = n

abbrev pub begun_at : (place : ℕ) → Duration → NodeState → NodeState
begun_at place now n = record n { desk = waiting place now n.desk }

abbrev pub Admits : Caller → AskedCall → (place : ℕ) → Duration → (old new : NodeState) → Option Admitted → Type 0
Admits caller asked place now old new result =
    MatchBool (is_admitted caller asked now old)
    ((result ≡ Some (record { caller = caller; place = place; step = step_of caller asked old })) × (new ≡ begun_at place now (begun_by (step_of caller asked old) old)))
    ((result ≡ None) × (new ≡ old))

-- whether a fact of the node was stored
abbrev pub is_stored_by : ReplyKind → Bool
is_stored_by Stored = true
is_stored_by (Gave front) = false
is_stored_by OtherReply = false

-- what the other nodes have, once the call is over; and the ticket of the fact that it stored
abbrev pub given_by : (ticket : ℕ) → ReplyKind → Duration → NodeState → NodeState
given_by ticket Stored now n = n
given_by ticket (Gave front) now n = with_followers (with_spread (given (record { ticket = ticket; count = count front n.me; at = now }) n.followers.spread) n.followers) n
given_by ticket OtherReply now n = n

abbrev pub after_step : CallStep → ReplyKind → Duration → NodeState → NodeState
after_step Enters kind now n = with_followers (with_spread (ended (is_stored_by kind) n.followers.spread) n.followers) n
after_step (Asks ticket) kind now n = given_by ticket kind now n
after_step Other kind now n = n

abbrev pub ticket_of : CallStep → ReplyKind → NodeState → ℕ
ticket_of Enters kind n = promised (is_stored_by kind) n.followers
ticket_of (Asks ticket) kind n = 0
ticket_of Other kind n = 0

-- an answer waits for a ticket: if for any, the others are told that there is something new
abbrev pub with_answer : (ticket : ℕ) → NodeState → NodeState
with_answer ticket n = record n { has_news = n.has_news || nat_lt 0 ticket }

abbrev pub waits_for : (ticket : ℕ) → (old new : NodeState) → Option ℕ → Type 0
waits_for ticket old new result =
    MatchBool (nat_lt 0 ticket)
    ((result ≡ Some ticket) × (new ≡ old))
    ((result ≡ Some (shown old)) × (new ≡ with_answer (shown old) (as_looked old)))

-- A worker's answer waits for the fact that its call stored, or for everything that it may show. A
-- frame is no answer, and the writer thread answers nobody.
abbrev pub worker_waits : CallStep → (ticket : ℕ) → (old new : NodeState) → Option ℕ → Type 0
worker_waits Enters ticket old new result = waits_for ticket old new result
worker_waits (Asks asked) ticket old new result = (result ≡ None) × (new ≡ old)
worker_waits Other ticket old new result = waits_for ticket old new result

abbrev pub answer_of : Caller → CallStep → (ticket : ℕ) → (old new : NodeState) → Option ℕ → Type 0
answer_of Writer step ticket old new result = (result ≡ None) × (new ≡ old)
answer_of Worker step ticket old new result = worker_waits step ticket old new result

-- what a reply says of the node's own facts: one was stored, or a frame shows how many there are
abbrev pub after_reply : ReplyKind → NodeState → NodeState
after_reply Stored n = record n { has_entered = true; has_news = true }
after_reply (Gave front) n = with_mail (with_known (counted (learnt front n.mail.known)) n.mail) n
after_reply OtherReply n = n

abbrev pub counted_by : CallResult → NodeState → NodeState
counted_by came n = record n { tally = tallied came.weight came.is_move came.is_stored n.tally }

abbrev pub ended_at : (place : ℕ) → NodeState → NodeState
ended_at place n = record n { desk = waited_at place n.desk }

-- A call is over. Its thread waits no longer; the others' copies, the answer's ticket, the tally and
-- the node's own facts follow from what the call meant and what came; and its effects are noted.
pub record IsSettled (a : Admitted) (came : CallResult) (now : Duration) (old new : NodeState) (ticket : Option ℕ) : Type 0 where
  pub answered : NodeState
  pub answer : answer_of a.caller a.step (ticket_of a.step came.kind old) (after_step a.step came.kind now (ended_at a.place old)) answered ticket
  pub noted : Notes came.effects now (after_reply came.kind (counted_by came answered)).mail new.mail
  pub rest : new ≡ with_mail new.mail (after_reply came.kind (counted_by came answered))

-- a call is over that was refused: if the journal failed, something may be stored
abbrev pub after_refusal : CallStep → (has_failed : Bool) → NodeState → NodeState
after_refusal Enters has_failed n = with_followers (with_spread (ended has_failed n.followers.spread) n.followers) n
after_refusal (Asks ticket) has_failed n = n
after_refusal Other has_failed n = n

abbrev pub failed_if : (has_failed : Bool) → NodeState → NodeState
failed_if has_failed n = if has_failed then record n { tally = failed n.tally } else n

abbrev pub given_up : Admitted → (has_failed : Bool) → NodeState → NodeState
given_up a has_failed n = failed_if has_failed (after_refusal a.step has_failed (ended_at a.place n))
