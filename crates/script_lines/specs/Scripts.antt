-- The script: what its lines print, one after another.
use Rattle.std.specs.Prelude.{◌≡◌, ℕ, ◌<◌, ◌≤◌, ◌⊎◌, List, [], ◌∷◌, ◌++◌, length, codes, zero, suc, slice_get, Option, None, Some, Result, Ok, Err}
use Rattle.std.specs.Fmt.{decimal}
use Rattle.state_ids.specs.Fronts.{front_text}
use Rattle.state_ids.specs.Ids.{Id, id_text, text_of}
use Rattle.state_ids.specs.Names.{lra_name, member_name}
use Rattle.state_ids.specs.declared.status.LraStatus.{LraStatus}
use Rattle.state_ids.specs.declared.outcome.Act.{Act}
use Rattle.state_ids.specs.declared.status.MemberStatus.{MemberStatus}
use Rattle.state_facts.specs.RefusalTexts.{refusal_text}
use Rattle.state_facts.specs.declared.refusal.Refusal.{Refusal}
use Rattle.state_facts.specs.declared.refusal.Refusal.TheVariants.{BadText, NoMemory}
use Rattle.state_forest.specs.Dues.{AreAll}
use Rattle.state_facts.specs.declared.command.Command.{Command}
use Rattle.state_facts.specs.declared.command.CommandReply.{CommandReply}
use Rattle.state_facts.specs.declared.command.CommandReply.TheVariants.{Began, Joined, Left, Decided, Reported, Known, Forgotten, Told, Purged, Refused as NotEntered}
use Rattle.script_world.specs.declared.event.Event.{Event}
use Rattle.wire_frames.specs.declared.version.Version.TheVariants.{One, Two}
use Rattle.script_world.specs.declared.event.Event.TheVariants.{Act as ActEvent, Deliver as DeliverEvent, Restart as RestartEvent, Send as SendEvent, Tick as TickEvent}
use Rattle.script_world.specs.declared.event.EventReply.{EventReply}
use Rattle.script_world.specs.declared.event.EventReply.TheVariants.{Answered, Sent, Took, Restarted, Expired, Quiet, Refused}
use Rattle.script_world.specs.Headline.{Converges, member_at, shown_at}
use Rattle.script_world.specs.Machines.{IsWorldOf, Machine}
use Rattle.script_world.specs.Worlds.{Leads, State, Steps, after_command, front_of, reply_at, set_of, start}
use Rattle.wire_callbacks.specs.declared.answer.Answer.{Answer}
use Rattle.wire_callbacks.specs.declared.answer.Heard.{Heard}
use Rattle.wire_callbacks.specs.declared.answer.Kind.{Kind}
use Rattle.wire_callbacks.specs.declared.duty.Duty.{Duty}
use Rattle.wire_callbacks.specs.Answers.{heard_of}
use Rattle.wire_callbacks.specs.CallDuties.{IsDuty, comes_first}
use Rattle.wire_callbacks.specs.CallWords.{heard_name}
use Rattle.wire_callbacks.specs.HeardCommands.{command_heard}
use Rattle.script_lines.specs.declared.asking.Ask.{Ask}
use Rattle.script_lines.specs.declared.asking.Ask.TheVariants.{Enter, Tick, Send, SendOld, Deliver, Restart, Show, Member, Duties, Hear, Front, Same, Text, Read}
use Rattle.script_lines.specs.Asks.{Spells}
use Rattle.script_lines.specs.CallLines.{act_asked, duties_text}
use Rattle.script_lines.specs.NodeHoldings.{AreComing}

-- the most bytes of a line that is executed
abbrev pub max_line_bytes : ℕ
max_line_bytes = 4096

abbrev pub printed : List ℕ → List ℕ
printed text = text ++ 10 ∷ []

abbrev pub refused : Refusal → List ℕ
refused r = printed (codes "refused " ++ refusal_text r)

-- the text about an LRA that was begun, with its member number only if it has one
abbrev pub began_text : Id → ℕ → List ℕ
began_text id zero = codes "began " ++ id_text id
began_text id (suc m) = codes "began " ++ id_text id ++ codes " member " ++ decimal (suc m)

-- the line that the reply to a command prints
abbrev pub reply_line : CommandReply → List ℕ
reply_line (Began id member) = printed (began_text id member)
reply_line (Joined id member) = printed (codes "joined " ++ decimal member)
reply_line Left = printed (codes "left")
reply_line (Decided id status) = printed (lra_name status)
reply_line Reported = printed (codes "reported")
reply_line Known = printed (codes "known")
reply_line Forgotten = printed (codes "forgot")
reply_line Told = printed (codes "told")
reply_line Purged = printed (codes "purged")
reply_line (NotEntered r) = refused r

-- the line that the reply to an event prints
abbrev pub event_line : EventReply → List ℕ
event_line (Answered reply) = reply_line reply
event_line (Sent frame) = printed (codes "frame " ++ decimal frame)
event_line Took = printed (codes "took")
event_line Restarted = printed (codes "restarted")
event_line (Expired id) = printed (codes "expired " ++ id_text id)
event_line Quiet = printed (codes "quiet")
event_line (Refused r) = refused r

-- nothing was recorded
abbrev pub IsRefusal : CommandReply → Type 0
IsRefusal reply = (r : Refusal) × (reply ≡ NotEntered r)

-- nothing happened
abbrev pub IsNothing : EventReply → Type 0
IsNothing (Answered reply) = IsRefusal reply
IsNothing (Sent frame) = ⊥
IsNothing Took = ⊥
IsNothing Restarted = ⊥
IsNothing (Expired id) = ⊥
IsNothing Quiet = ⊥
IsNothing (Refused r) = Unit {0}

abbrev pub status_line : Result LraStatus Refusal → List ℕ
status_line (Ok status) = printed (lra_name status)
status_line (Err r) = refused r

abbrev pub member_line : Result MemberStatus Refusal → List ℕ
member_line (Ok status) = printed (member_name status)
member_line (Err r) = refused r

-- what a node learned, and then the reply to it; a refusal is printed alone
abbrev pub heard_reply_line : Heard → EventReply → List ℕ
heard_reply_line heard (Answered Reported) = printed (heard_name heard ++ codes " reported")
heard_reply_line heard (Answered Known) = printed (heard_name heard ++ codes " known")
heard_reply_line heard (Answered Forgotten) = printed (heard_name heard ++ codes " forgot")
heard_reply_line heard (Answered Told) = printed (heard_name heard ++ codes " told")
heard_reply_line heard reply = event_line reply

-- the line for an answer from which a node learned this, and for which it makes this command or
-- none
abbrev pub heard_line : State → ℕ → Heard → Option Command → List ℕ
heard_line s node heard None = printed (heard_name heard)
heard_line s node heard (Some c) = heard_reply_line heard (Answered (reply_at s node c))

abbrev pub after_heard : State → ℕ → Option Command → State
after_heard s node None = s
after_heard s node (Some c) = after_command s node c

-- the line for an answer that is interpreted for this act, or that is refused because there is no
-- act
abbrev pub answer_line : State → ℕ → Id → ℕ → Kind → Answer → Result Act Refusal → List ℕ
answer_line s node id m kind answer (Err r) = refused r
answer_line s node id m kind answer (Ok act) =
    heard_line s node (heard_of act kind answer) (command_heard id m act (heard_of act kind answer))

abbrev pub after_answer : State → ℕ → Id → ℕ → Kind → Answer → Result Act Refusal → State
after_answer s node id m kind answer (Err r) = s
after_answer s node id m kind answer (Ok act) = after_heard s node (command_heard id m act (heard_of act kind answer))

-- `same` if this holds, and `differ` if it doesn't
abbrev pub TellsSame : Type 0 → List ℕ → Type 0
TellsSame equal out = (equal × (out ≡ printed (codes "same"))) ⊎ ((equal → ⊥) × (out ≡ printed (codes "differ")))

-- in state s the event happens and leaves state t, and its reply is printed
abbrev pub PrintsReply : State → Event → List ℕ → State → Type 0
PrintsReply s event out t = (reply : EventReply) × Steps s event reply t × (out ≡ event_line reply)

-- In state s a line that asks for this prints this text, and the state after it is t. For duties,
-- all of them are printed, in their order. Two nodes hold the same if their fronts are equal.
-- Questions change nothing
abbrev pub Does : State → Ask → List ℕ → State → Type 0
Does s (Enter node command) out t = PrintsReply s (ActEvent node command) out t
Does s (Tick node now) out t = PrintsReply s (TickEvent node now) out t
Does s (Send node base) out t = PrintsReply s (SendEvent node base Two) out t
Does s (SendOld node base) out t = PrintsReply s (SendEvent node base One) out t
Does s (Deliver frame node kept) out t = (count : ℕ) × AreComing s frame kept count × PrintsReply s (DeliverEvent frame node count) out t
Does s (Restart node) out t = PrintsReply s (RestartEvent node) out t
Does s (Show node id) out t = (out ≡ status_line (shown_at s node id)) × (t ≡ s)
Does s (Member node id member) out t = (out ≡ member_line (member_at s node id member)) × (t ≡ s)
Does s (Duties node) out t =
    (duties : List Duty) × AreAll (IsDuty node (set_of s node)) (comes_first (set_of s node)) duties × (out ≡ printed (duties_text duties)) × (t ≡ s)
Does s (Hear node id member kind answer) out t =
    let act = act_asked (set_of s node) (front_of s node) kind id member in
    (out ≡ answer_line s node id member kind answer act) × (t ≡ after_answer s node id member kind answer act)
Does s (Front node) out t = (out ≡ printed (codes "front " ++ front_text (front_of s node))) × (t ≡ s)
Does s (Same node other) out t = TellsSame (front_of s node ≡ front_of s other) out × (t ≡ s)
Does s (Text id) out t = (out ≡ printed (text_of id)) × (t ≡ s)
Does s (Read id) out t = (out ≡ printed (id_text id)) × (t ≡ s)

-- an event happened in state s, its reply is printed, and the world stands for the state after it
abbrev pub HasHappened : State → Event → List ℕ → Machine → Type 0
HasHappened s event out world = (t : State) × PrintsReply s event out t × IsWorldOf t world

-- what a line asks for was done in state s: this text is printed, and the world stands for the
-- state after it
abbrev pub WasDone : State → Ask → List ℕ → Machine → Type 0
WasDone s ask out world = (t : State) × Does s ask out t × IsWorldOf t world

-- a line that is too long, or spells no command
abbrev pub IsBad : ℕ → List ℕ → Type 0
IsBad nodes line = (max_line_bytes < length line) ⊎ ((ask : Ask) → Spells nodes line ask → ⊥)

-- a line that asks for something, which is done
abbrev pub IsDone : ℕ → State → List ℕ → List ℕ → State → Type 0
IsDone nodes s line out t =
    (ask : Ask) × (length line ≤ max_line_bytes) × Spells nodes line ask × Does s ask out t

-- In state s a line prints this and leaves state t, provided memory doesn't run out. An empty line
-- prints nothing.
abbrev pub AnswersInRoom : ℕ → State → List ℕ → List ℕ → State → Type 0
AnswersInRoom nodes s [] out t = (out ≡ []) × (t ≡ s)
AnswersInRoom nodes s (b ∷ bs) out t = (IsBad nodes (b ∷ bs) × (out ≡ refused BadText) × (t ≡ s)) ⊎ IsDone nodes s (b ∷ bs) out t

-- the same, but any line except an empty one may run out of memory, and then nothing happened
abbrev pub Answers : ℕ → State → List ℕ → List ℕ → State → Type 0
Answers nodes s [] out t = (out ≡ []) × (t ≡ s)
Answers nodes s (b ∷ bs) out t = ((out ≡ refused NoMemory) × (t ≡ s)) ⊎ AnswersInRoom nodes s (b ∷ bs) out t

-- what a line prints in state s, and a world that stands for the state after it
abbrev pub WasAnswered : ℕ → State → List ℕ → List ℕ → Machine → Type 0
WasAnswered nodes s line out world = (t : State) × Answers nodes s line out t × IsWorldOf t world

-- From state s on, these lines print this, one after another, and lead through these states, one
-- after each line, if `answers` says what a line prints
abbrev pub TextOfLines : (State → List ℕ → List ℕ → State → Type 0) → State → List (List ℕ) → List ℕ → List State → Type 0
TextOfLines answers s [] out [] = out ≡ []
TextOfLines answers s (line ∷ lines) out (t ∷ states) =
    (first rest : List ℕ) × (out ≡ first ++ rest) × answers s line first t × TextOfLines answers t lines rest states
TextOfLines answers s [] out (t ∷ states) = ⊥
TextOfLines answers s (line ∷ lines) out [] = ⊥

abbrev pub ScriptText : ℕ → State → List (List ℕ) → List ℕ → List State → Type 0
ScriptText nodes s lines out states = TextOfLines (Answers nodes) s lines out states

-- the same, if no line runs out of memory. The text is unique, because an event has one reply and
-- leaves one state
abbrev pub TextInRoom : ℕ → State → List (List ℕ) → List ℕ → List State → Type 0
TextInRoom nodes s lines out states = TextOfLines (AnswersInRoom nodes) s lines out states

-- a run of the world leads from each of these states to each later one, and the headline holds from
-- the earlier to the later
abbrev pub AreOneRun : List State → Type 0
AreOneRun states =
    (i j : ℕ) (s t : State) → i ≤ j → slice_get states i ≡ Some s → slice_get states j ≡ Some t → Leads s t × Converges s t

-- What the lines of a script print, over a world that has no facts yet. The states that they lead
-- through, starting with the first one, are those of one run of the world
pub record Plays (nodes : ℕ) (lines : List (List ℕ)) (out : List ℕ) : Type 0 where
  pub states : List State
  pub text : ScriptText nodes (start nodes) lines out states
  pub one_run : AreOneRun (start nodes ∷ states)

-- a line, what it prints, which was written so, and a world that stands for the state after it
abbrev pub Prints : ℕ → State → List ℕ → Machine → (List ℕ → Type 0) → Type 0
Prints nodes s line world was_written = (out : List ℕ) × WasAnswered nodes s line out world × was_written out
