-- How other nodes follow a node: what they have of its facts, what waits for that, and whether the
-- node still enters facts.
use Rattle.std.specs.Prelude.{◌≡◌, ◌⊎◌, ◌≤◌, ◌&&◌, ◌||◌, ℕ, Bool, List, Option, None, Some, false, if◌then◌else◌, is_some, nat_lt, not, true}
use Rattle.std.specs.declared.time.Duration.{Duration}
use Rattle.state_ids.specs.declared.TheConstants.{LAST_NUMBER}
use Rattle.node_replication.specs.Paces.{Pace, asked_at, at_rest, given_at, verdict_of}
use Rattle.node_replication.specs.Spreads.{Spread, counted, fact_ticket, has_news, heard, looked, standing_of, stood, target}
use Rattle.node_replication.specs.Steps.{Node, Step, WasCopied, after_all, at_start}
use Rattle.node_replication.specs.Waits.{Wait, after_of, counted as went, fate_of, nobody, stood_of, with_calls, with_question}
use Rattle.node_replication.specs.declared.followers_state.Released.{Released}
use Rattle.node_replication.specs.declared.standing.CallbackFate.{CallbackFate}
use Rattle.node_replication.specs.declared.standing.CallbackFate.TheVariants.{Asked, Called, OnHold, Outdated}
use Rattle.node_replication.specs.declared.standing.PullDecision.{PullDecision}
use Rattle.node_replication.specs.declared.standing.PullDecision.TheVariants.{Serve}
use Rattle.node_replication.specs.declared.waiters.CallsHeld.{CallsHeld}

-- Which node it is, the size of its group, how many copies it wants and how long it waits for them;
-- whether it is strict; how far its facts have spread; when held pulls are served; what waits; the
-- list of duties that waits, if it isn't too old; and whether another node has facts of this node
-- that it never gave
pub record Followed (L : Type 0) : Type 0 where
  pub node : Node
  pub is_strict : Bool
  pub spread : Spread
  pub pace : Pace
  pub wait : Wait
  pub list : Option L
  pub is_doubted : Bool

-- before any other node asked
abbrev pub at_first : {L : Type 0} → Node → (is_strict : Bool) → Followed L
at_first node is_strict = record { node = node; is_strict = is_strict; spread = at_start node; pace = at_rest; wait = nobody; list = None; is_doubted = false }

-- there is a list exactly if participants wait whose list isn't too old
abbrev pub IsListed : {L : Type 0} → Option CallsHeld → Option L → Type 0
IsListed None list = list ≡ None
IsListed (Some calls) list = is_some list ≡ not calls.is_old

-- the node's facts have spread by some steps, and by nothing else
pub record IsReached (node : Node) (s : Spread) : Type 0 where
  pub steps : List Step
  pub is : s ≡ after_all steps (at_start node)

-- what each call keeps
abbrev pub IsSound : {L : Type 0} → Followed L → Type 0
IsSound b = IsReached b.node b.spread × IsListed b.wait.calls b.list

abbrev pub with_pace : {L : Type 0} → Pace → Followed L → Followed L
with_pace p b = record b { pace = p }

abbrev pub with_wait : {L : Type 0} → Wait → Followed L → Followed L
with_wait w b = record b { wait = w }

abbrev pub with_spread : {L : Type 0} → Spread → Followed L → Followed L
with_spread s b = record b { spread = s }

-- whether any copies are wanted
abbrev pub wants_any : {L : Type 0} → Followed L → Bool
wants_any b = nat_lt 0 b.node.wanted

-- the ticket that the answer of a call waits for; 0 if there is nothing to wait for
abbrev pub promised : {L : Type 0} → (is_stored : Bool) → Followed L → ℕ
promised is_stored b = if wants_any b then fact_ticket is_stored b.spread else 0

-- whether a pull counts as an acknowledgement: not if its asker claims all facts that there can be;
-- and, before the node has heard from the others, not if its asker has more of the node's facts than
-- the node itself
abbrev pub counts : (theirs ours : ℕ) → (is_behind : Bool) → Bool
counts theirs ours is_behind = nat_lt theirs LAST_NUMBER && not (is_behind && nat_lt ours theirs)

abbrev pub hearing : {L : Type 0} → (other theirs ours : ℕ) → (is_behind : Bool) → (now : Duration) → Followed L → Followed L
hearing other theirs ours is_behind now b =
    if counts theirs ours is_behind then with_spread (heard other theirs now (counted ours b.spread)) b else b

-- at some moment a frame with this ticket or a greater one had been given, and as many other nodes
-- as are wanted had reported all facts of this node that it counts
pub record HadCopies {L : Type 0} (ticket : ℕ) (b : Followed L) : Type 0 where
  pub steps : List Step
  pub is : b.spread ≡ after_all steps (at_start b.node)
  pub below : ticket ≤ b.spread.covered
  pub was : WasCopied b.spread.covered steps (at_start b.node)

-- an answer that waits for a ticket may go on as copied: no copies are wanted, it waits for nothing,
-- or other nodes had what it shows
abbrev pub MayGo : {L : Type 0} → (ticket : ℕ) → Followed L → Type 0
MayGo ticket b = (b.node.wanted ≡ 0) ⊎ ((ticket ≡ 0) ⊎ HadCopies ticket b)

-- whether nothing is entered: another node has facts that this one never gave, or others fell behind
-- and the node is strict
abbrev pub refuses : {L : Type 0} → Followed L → Bool
refuses b = b.is_doubted || (wants_any b && (b.is_strict && b.spread.is_short))

abbrev pub doubted : {L : Type 0} → Followed L → Followed L
doubted b = record b { is_doubted = b.is_doubted || wants_any b }

-- the standing of an answer is asked
abbrev pub standing_at : {L : Type 0} → (ticket : ℕ) → (since now : Duration) → Followed L → Followed L
standing_at ticket since now b = record b {
  spread = stood ticket since now b.is_strict b.spread;
  wait = went (standing_of ticket since now b.is_strict b.spread) b.wait;
}

-- a list of duties comes: it waits for a ticket, or its participants may be called at once
abbrev pub kept_with : {L : Type 0} → (ticket : ℕ) → (list : L) → (now : Duration) → Followed L → Followed L
kept_with ticket list now b = record b { wait = with_calls ticket now b.wait; list = Some list }

abbrev pub kept : {L : Type 0} → (list : L) → (now : Duration) → Followed L → Followed L
kept list now b =
    if nat_lt 0 (target (looked b.spread)) then kept_with (target (looked b.spread)) list now (with_spread (looked b.spread) b)
    else with_spread (looked b.spread) b

abbrev pub to_call : {L : Type 0} → (list : L) → Followed L → Option L
to_call list b = if nat_lt 0 (target (looked b.spread)) then None else Some list

-- a new list is asked for: if one waits, that is put off
abbrev pub put_off_to : {L : Type 0} → Followed L → Followed L
put_off_to b = record b { wait = with_question b.wait }

-- what happens to the list that waits
abbrev pub fate_at : {L : Type 0} → (now : Duration) → Followed L → CallbackFate
fate_at now b = fate_of b.wait.calls now b.is_strict b.spread b.wait.asks_again

abbrev pub list_left : {L : Type 0} → CallbackFate → Option L → Option L
list_left OnHold list = list
list_left Outdated list = None
list_left (Called asks_again) list = None
list_left Asked list = list

abbrev pub after_look : {L : Type 0} → (now : Duration) → Followed L → Followed L
after_look now b = record b {
  spread = stood_of b.wait.calls now b.is_strict b.spread;
  wait = after_of b.wait.calls now b.is_strict b.spread b.wait;
  list = list_left (fate_at now b) b.list;
}

-- what is handed out: nothing; the list that waited, which is there; or the question for a new one
abbrev pub IsOut : {L : Type 0} → CallbackFate → (kept : Option L) → Option (Released L) → Type 0
IsOut OnHold kept out = out ≡ None
IsOut Outdated kept out = out ≡ None
IsOut (Called asks_again) kept out = (out ≡ Some (record { list = kept; asks_again = asks_again })) × (is_some kept ≡ true)
IsOut Asked kept out = out ≡ Some (record { list = None; asks_again = true })

pub record IsGoing {L : Type 0} (now : Duration) (old new : Followed L) (out : Option (Released L)) : Type 0 where
  pub left : new ≡ after_look now old
  pub out_is : IsOut (fate_at now old) old.list out

-- what is done with a pull, and what is remembered of it
abbrev pub since_or : Option Duration → Duration → Duration
since_or (Some since) now = since
since_or None now = now

abbrev pub judged : {L : Type 0} → (other theirs : ℕ) → (lacks_others : Bool) → (since : Option Duration) → (now : Duration) → Followed L → PullDecision
judged other theirs lacks_others since now b =
    verdict_of b.node.nodes other (since_or since now) (has_news theirs b.spread) lacks_others now (asked_at other now b.pace)

abbrev pub served : PullDecision → (other : ℕ) → (now : Duration) → Pace → Pace
served Serve other now p = given_at other now p
served _ other now p = p

abbrev pub judging : {L : Type 0} → (other theirs : ℕ) → (lacks_others : Bool) → (since : Option Duration) → (now : Duration) → Followed L → Followed L
judging other theirs lacks_others since now b =
    record b { pace = served (judged other theirs lacks_others since now b) other now (asked_at other now b.pace) }
