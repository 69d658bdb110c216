-- What other nodes' pulls say, and what they send.
use Rattle.std.specs.Prelude.{◌≡◌, ◌↔◌, ◌&&◌, ◌==◌, ℕ, Bool, List, MatchBool, Option, MatchOption, None, Some, IsTrue, Result, Err, Ok, false, if◌then◌else◌, is_some, length, nat_lt, not, true}
use Rattle.std.specs.declared.time.Duration.{Duration}
use Rattle.state_ids.specs.Fronts.{IsBelow, count}
use Rattle.state_ids.specs.declared.TheConstants.{LAST_NUMBER}
use Rattle.node_inbox.specs.Tellings.{Told}
use Rattle.node_replication.specs.Followers.{doubted, hearing, judged, judging, wants_any}
use Rattle.node_replication.specs.declared.standing.PullDecision.{PullDecision}
use Rattle.node_replication.specs.declared.standing.PullDecision.TheVariants.{Later, Serve}
use Rattle.node_agenda.specs.Asks.{asked_by as counted_by, is_of_before}
use Rattle.node_agenda.specs.Backlogs.{ended_of, is_owed}
use Rattle.node_agenda.specs.Hearing.{IsPutIn}
use Rattle.node_agenda.specs.Mail.{with_end_of as mail_after, with_opening}
use Rattle.node_agenda.specs.Starts.{claimed_by, heard_by, own_awaited}
use Rattle.node_core.specs.Nodes.{as_stored, is_lost, with_count, with_followers, with_mail}
use Rattle.node_core.specs.Peers.{asked_by as alive, is_silent}
use Rattle.node_core.specs.declared.node_state.NodeState.{NodeState}
use Rattle.node_core.specs.declared.pulling.AskedPull.{AskedPull}
use Rattle.node_core.specs.declared.pulling.Receipt.{Receipt}
use Rattle.node_core.specs.declared.pulling.Receipt.TheVariants.{Lost, Newer, Nothing, Older, Outdated, Unanswered, Waits}

-- whether this many facts of the node are a claim: more than it has, and not all that there can be
abbrev pub is_claim : (theirs ours : ℕ) → Bool
is_claim theirs ours = nat_lt ours theirs && nat_lt theirs LAST_NUMBER

abbrev pub claimed_if : AskedPull → NodeState → NodeState
claimed_if pull n =
    if is_claim (count pull.front n.me) (count n.mail.known.front n.me)
    then with_mail (with_opening (claimed_by pull.from (count pull.front n.me) n.mail.opening) n.mail) n
    else n

-- another node asks: it is alive, has stored so many facts of this node, and counts so many of its own
abbrev pub heard_asking : AskedPull → Duration → NodeState → NodeState
heard_asking pull now n = claimed_if pull (record n {
  peers = alive pull.from pull.waits n.peers;
  followers = hearing pull.from (count pull.front n.me) (count n.mail.known.front n.me) (not n.mail.opening.is_open) now n.followers;
  asks = counted_by pull.from (count pull.front pull.from) n.asks;
})

-- a pull that has been held says nothing new
abbrev pub asked_by : AskedPull → Duration → NodeState → NodeState
asked_by pull now n = if is_some pull.since then n else heard_asking pull now n

-- whether the last pull from its node had failed, if it is heard for the first time
abbrev pub was_silent : AskedPull → NodeState → Bool
was_silent pull n = if is_some pull.since then false else is_silent pull.from n.peers

-- whether its node is owed facts of its own
abbrev pub owes : AskedPull → NodeState → Bool
owes pull n = is_owed pull.from pull.front n.mail.known.front n.mail.backlog

-- a pull that waits is served if there is something new for it: `lacks` says whether it lacks facts of
-- others
abbrev pub verdict : AskedPull → (lacks : Bool) → Duration → NodeState → PullDecision
verdict pull lacks now n = judged pull.from (count pull.front n.me) lacks pull.since now n.followers

abbrev pub after_verdict : AskedPull → (lacks : Bool) → Duration → NodeState → NodeState
after_verdict pull lacks now n = with_followers (judging pull.from (count pull.front n.me) lacks pull.since now n.followers) n

pub record IsWeighed (pull : AskedPull) (now : Duration) (old new : NodeState) (result : PullDecision) : Type 0 where
  pub lacks : Bool
  pub is : IsTrue lacks ↔ (IsBelow old.mail.known.front pull.front → ⊥)
  pub decided : result ≡ verdict pull lacks now old
  pub paced : new ≡ after_verdict pull lacks now old

-- What happens to a pull: it is held while its node is owed facts of its own, and otherwise served
-- unless it waits and there is nothing new for it.
abbrev pub IsJudged : AskedPull → Duration → (old new : NodeState) → PullDecision → Type 0
IsJudged pull now old new result =
    MatchBool (owes pull old)
    ((result ≡ Later) × (new ≡ old))
    (MatchBool pull.waits
    (IsWeighed pull now old new result)
    ((result ≡ Serve) × (new ≡ old)))

-- whether a node with this front has more facts of another node
abbrev pub is_ahead : (other : ℕ) → List ℕ → NodeState → Bool
is_ahead other front n = not (other == n.me) && nat_lt (count n.mail.known.front other) (count front other)

-- whether a telling has more facts of this node than this node knows of
abbrev pub is_newer_than : Told → NodeState → Bool
is_newer_than told n = nat_lt (count n.mail.known.front n.me) (count told.frame.front n.me)

-- whether it casts doubt on this node: copies are wanted, the node has stored something and accepts
-- commands, so it knew of every fact that it ever gave
abbrev pub casts_doubt : Told → NodeState → Bool
casts_doubt told n = (wants_any n.followers && n.has_entered) && (is_newer_than told n && n.mail.opening.is_open)

abbrev pub heard_of : Told → NodeState → NodeState
heard_of told n = with_mail (with_opening (heard_by told.from told.frame.front n.mail.known.front n.mail.opening) n.mail) n

-- nothing of its own is stored from here on
abbrev pub in_doubt : NodeState → NodeState
in_doubt n = with_followers (doubted n.followers) (with_mail (with_opening (own_awaited LAST_NUMBER n.mail.opening) n.mail) n)

abbrev pub after_told : Told → NodeState → NodeState
after_told told n = if casts_doubt told n then in_doubt (heard_of told n) else heard_of told n

-- what a telling means that doesn't count; none if it does
abbrev pub refused_as : (asked : List ℕ) → (seen : ℕ) → Told → NodeState → Option Receipt
refused_as asked seen told n =
    if not (length told.frame.front == length asked) then Some Unanswered
    else if is_lost told.frame.front n then Some Lost
    else if is_of_before told.from seen (count told.frame.front told.from) n.asks then Some Outdated
    else None

abbrev pub is_put : Result (Option Told) Told → Bool
is_put (Ok left) = true
is_put (Err back) = false

abbrev pub left_by : Result (Option Told) Told → Option Told
left_by (Ok left) = left
left_by (Err back) = Some back

abbrev pub meaning : (is_newer is_older is_new : Bool) → (ended : ℕ) → Receipt
meaning is_newer is_older is_new ended =
    if is_newer then Newer else if is_older then Older else if is_new then Waits ended else Nothing

-- a telling is put to be taken if anything in it is new; what isn't kept then is handed back
pub record IsPutBy (told : Told) (old new : NodeState) (is_new : Bool) (left : Option Told) : Type 0 where
  pub put : Result (Option Told) Told
  pub is : IsPutIn told old.mail new.mail put
  pub rest : new ≡ with_mail new.mail old
  pub news : is_new ≡ is_put put
  pub left_is : left ≡ left_by put

-- a telling counts: it is heard, and is put to be taken
pub record IsHeard (asked : List ℕ) (told : Told) (old new : NodeState) (receipt : Receipt) (left : Option Told) : Type 0 where
  pub is_new : Bool
  pub put : IsPutBy told (after_told told old) new is_new left
  pub means : receipt ≡ meaning (is_newer_than told old) (nat_lt (count told.frame.front told.from) (count asked told.from)) is_new (ended_of told.from old.mail.backlog)

abbrev pub IsReceived : (asked : List ℕ) → (seen : ℕ) → Told → (old new : NodeState) → Receipt → (left : Option Told) → Type 0
IsReceived asked seen told old new receipt left =
    MatchOption (refused_as asked seen told old)
    (IsHeard asked told old new receipt left)
    (λ (refused : Receipt). (receipt ≡ refused) × (left ≡ Some told) × (new ≡ old))

-- a frame was taken that has this many facts of this node, which its journal lacked: others may lack
-- the last of them
abbrev pub as_news : NodeState → NodeState
as_news n = record n { has_news = true }

abbrev pub taken_back : (own : ℕ) → NodeState → NodeState
taken_back own n = if wants_any n.followers then as_news (as_stored (with_count own n)) else with_count own n

abbrev pub with_end_of : (is_taken : Bool) → List ℕ → (known : ℕ) → NodeState → NodeState
with_end_of is_taken front known n =
    if is_taken && nat_lt known (count front n.me)
    then taken_back (count front n.me) (with_mail (mail_after is_taken front n.mail) n)
    else with_mail (mail_after is_taken front n.mail) n
