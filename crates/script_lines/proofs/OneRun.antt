-- The states that the lines of a script lead through are those of one run of the world.
use Rattle.std.proofs.Common.{◌≡◌, ◌≤◌, ◌&&◌, inl, inr, ℕ, zero, suc, List, [], ◌∷◌, Bool, true, Option, None, Some, refl, sym, ap, subst, ◌∙◌, arith, nat_le, slice_get}
use Rattle.std.specs.Prelude.{Result, Ok, Err}
use Rattle.std.proofs.lemmas.Bool.Decides.{nat_tests}
use Rattle.std.proofs.lemmas.List.{length-replicate}
use Rattle.state_ids.specs.Ids.{Id}
use Rattle.state_facts.specs.declared.refusal.Refusal.{Refusal}
use Rattle.state_facts.specs.declared.command.Command.{Command}
use Rattle.state_ids.specs.declared.outcome.Act.{Act}
use Rattle.wire_callbacks.specs.declared.answer.Answer.{Answer}
use Rattle.wire_callbacks.specs.declared.answer.Kind.{Kind}
use Rattle.wire_callbacks.specs.Answers.{heard_of}
use Rattle.script_world.specs.declared.event.Event.{Event}
use Rattle.wire_frames.specs.declared.version.Version.TheVariants.{One, Two}
use Rattle.script_world.specs.declared.event.Event.TheVariants.{Act as ActEvent, Deliver as DeliverEvent, Restart as RestartEvent, Send as SendEvent, Tick as TickEvent}
use Rattle.script_world.specs.declared.event.EventReply.{EventReply}
use Rattle.script_world.specs.declared.event.EventReply.TheVariants.{Answered}
use Rattle.script_world.specs.Worlds.{Acts, IfNode, IsWorld, Leads, State, Steps, after_command, front_of, is_node, nodes_of, reply_at, set_of, start}
use Rattle.script_world.proofs.Converging.{led_converges, leads_none, leads_on, one_step}
use Rattle.script_world.proofs.Moving.{run_keeps, start_is}
use Rattle.wire_callbacks.specs.HeardCommands.{command_heard}
use Rattle.script_lines.specs.declared.asking.Ask.{Ask}
use Rattle.script_lines.specs.declared.asking.Ask.TheVariants.{Enter, Tick, Send, SendOld, Deliver, Restart, Show, Member, Duties, Hear, Front, Same, Text, Read}
use Rattle.script_lines.specs.Asks.{IsInRange, IsNodeOf}
use Rattle.script_lines.specs.CallLines.{act_asked}
use Rattle.script_lines.specs.Scripts.{Answers, AreOneRun, Does, Plays, PrintsReply, ScriptText, after_answer, after_heard}

-- A line leads from its state to the one after it

stays_lead : (s t : State) → IsWorld s → t ≡ s → Leads s t
stays_lead s t w e = subst (λ (u : State). Leads s u) (sym e) (leads_none s w)

step_leads : (s t : State) (event : Event) (reply : EventReply) → IsWorld s → Steps s event reply t → Leads s t
step_leads s t event reply w step = leads_on s s t (event ∷ []) (reply ∷ []) (leads_none s w) (one_step s t event reply step)

prints_lead : (s t : State) (event : Event) (out : List ℕ) → IsWorld s → PrintsReply s event out t → Leads s t
prints_lead s t event out w (reply, steps, is) = step_leads s t event reply w steps

node_in : (s : State) (node : ℕ) → IsNodeOf (nodes_of s) node → is_node s node ≡ true
node_in s node is = ap (λ (b : Bool). b && nat_le node (nodes_of s)) (le 1 node is.0) ∙ le node (nodes_of s) is.1
  where
    le : (a b : ℕ) → a ≤ b → nat_le a b ≡ true
    le a b h = grind (arith, nat_tests)

-- what was learned is recorded by an event, or there is no event
heard_leads : (s : State) (node : ℕ) (c : Option Command) → IsWorld s → IsNodeOf (nodes_of s) node → Leads s (after_heard s node c)
heard_leads s node None w is = leads_none s w
heard_leads s node (Some c) w is =
    step_leads s (after_command s node c) (ActEvent node c) (Answered (reply_at s node c)) w
    (subst (λ (b : Bool). IfNode b s (Acts s node c (Answered (reply_at s node c)) (after_command s node c)) (Answered (reply_at s node c)) (after_command s node c)) (sym (node_in s node is)) (refl, refl))

answer_leads : (s : State) (node : ℕ) (id : Id) (m : ℕ) (kind : Kind) (answer : Answer) (act : Result Act Refusal) → IsWorld s → IsNodeOf (nodes_of s) node → Leads s (after_answer s node id m kind answer act)
answer_leads s node id m kind answer (Err r) w is = leads_none s w
answer_leads s node id m kind answer (Ok act) w is = heard_leads s node (command_heard id m act (heard_of act kind answer)) w is

does_lead : (s t : State) (ask : Ask) (out : List ℕ) → IsWorld s → IsInRange (nodes_of s) ask → Does s ask out t → Leads s t
does_lead s t (Enter node command) out w range h = prints_lead s t (ActEvent node command) out w h
does_lead s t (Tick node now) out w range h = prints_lead s t (TickEvent node now) out w h
does_lead s t (Send node base) out w range h = prints_lead s t (SendEvent node base Two) out w h
does_lead s t (SendOld node base) out w range h = prints_lead s t (SendEvent node base One) out w h
does_lead s t (Deliver frame node kept) out w range (count, coming, prints) = prints_lead s t (DeliverEvent frame node count) out w prints
does_lead s t (Restart node) out w range h = prints_lead s t (RestartEvent node) out w h
does_lead s t (Show node id) out w range h = stays_lead s t w h.1
does_lead s t (Member node id m) out w range h = stays_lead s t w h.1
does_lead s t (Duties node) out w range (duties, all, is, same) = stays_lead s t w same
does_lead s t (Hear node id m kind answer) out w range h =
    subst (λ (u : State). Leads s u) (sym h.1) (answer_leads s node id m kind answer (act_asked (set_of s node) (front_of s node) kind id m) w range.0)
does_lead s t (Front node) out w range h = stays_lead s t w h.1
does_lead s t (Same node other) out w range h = stays_lead s t w h.1
does_lead s t (Text id) out w range h = stays_lead s t w h.1
does_lead s t (Read id) out w range h = stays_lead s t w h.1

pub answers_lead : (n : ℕ) (s : State) (line out : List ℕ) (t : State) → IsWorld s → nodes_of s ≡ n → Answers n s line out t → Leads s t
answers_lead n s [] out t w nodes h = stays_lead s t w h.1
answers_lead n s (b ∷ bs) out t w nodes (inl h) = stays_lead s t w h.1
answers_lead n s (b ∷ bs) out t w nodes (inr (inl h)) = stays_lead s t w h.2
answers_lead n s (b ∷ bs) out t w nodes (inr (inr (ask, short, spells, does))) =
    does_lead s t ask out w (subst (λ (k : ℕ). IsInRange k ask) (sym nodes) spells.3) does

-- So the number of nodes stays the same

leads_keep : (s t : State) → Leads s t → nodes_of t ≡ nodes_of s
leads_keep s t led = (run_keeps s t led.events led.replies led.world led.runs).grown.nodes

leads_world : (s t : State) → Leads s t → IsWorld t
leads_world s t led = (run_keeps s t led.events led.replies led.world led.runs).world

pub answers_keep : (n : ℕ) (s : State) (line out : List ℕ) (t : State) → IsWorld s → nodes_of s ≡ n → Answers n s line out t → nodes_of t ≡ n
answers_keep n s line out t w nodes h = leads_keep s t (answers_lead n s line out t w nodes h) ∙ nodes

-- All lines

leads_far : (s t u : State) → Leads s t → Leads t u → Leads s u
leads_far s t u led far = leads_on s t u far.events far.replies led far.runs

from_first : (n : ℕ) (s : State) (lines : List (List ℕ)) (out : List ℕ) (states : List State) (j : ℕ) (u : State) → IsWorld s → nodes_of s ≡ n → ScriptText n s lines out states → slice_get (s ∷ states) j ≡ Some u → Leads s u
from_first n s lines out states zero u w nodes text at = let same : s ≡ u = cc in stays_lead s u w (sym same)
from_first n s [] out [] (suc j) u w nodes text at = absurd cc
from_first n s [] out (t ∷ states) (suc j) u w nodes text at = absurd text
from_first n s (line ∷ lines) out [] (suc j) u w nodes text at = absurd text
from_first n s (line ∷ lines) out (t ∷ states) (suc j) u w nodes (first, rest, is, answers, more) at =
    let led = answers_lead n s line first t w nodes answers in
    leads_far s t u led (from_first n t lines rest states j u (leads_world s t led) (leads_keep s t led ∙ nodes) more at)

led_between : (n : ℕ) (s : State) (lines : List (List ℕ)) (out : List ℕ) (states : List State) (i j : ℕ) (t u : State) → IsWorld s → nodes_of s ≡ n → ScriptText n s lines out states → i ≤ j
    → slice_get (s ∷ states) i ≡ Some t → slice_get (s ∷ states) j ≡ Some u → Leads t u
led_between n s lines out states zero j t u w nodes text order at further =
    let same : s ≡ t = cc in subst (λ (x : State). Leads x u) same (from_first n s lines out states j u w nodes text further)
led_between n s lines out states (suc i) zero t u w nodes text order at further = absurd (omega (arith, order))
led_between n s [] out [] (suc i) (suc j) t u w nodes text order at further = absurd cc
led_between n s [] out (x ∷ states) (suc i) (suc j) t u w nodes text order at further = absurd text
led_between n s (line ∷ lines) out [] (suc i) (suc j) t u w nodes text order at further = absurd text
led_between n s (line ∷ lines) out (x ∷ states) (suc i) (suc j) t u w nodes (first, rest, is, answers, more) order at further =
    let led = answers_lead n s line first x w nodes answers in
    led_between n x lines rest states i j t u (leads_world s x led) (leads_keep s x led ∙ nodes) more (omega (arith, order)) at further

pub one_run : (n : ℕ) (s : State) (lines : List (List ℕ)) (out : List ℕ) (states : List State) → IsWorld s → nodes_of s ≡ n → ScriptText n s lines out states → AreOneRun (s ∷ states)
one_run n s lines out states w nodes text i j t u order at further =
    let led = led_between n s lines out states i j t u w nodes text order at further in (led, led_converges t u led)

-- Any text

-- some states have this text
abbrev pub HasText : ℕ → State → List (List ℕ) → List ℕ → Type 0
HasText n s lines out = (states : List State) × ScriptText n s lines out states

pub plays : (n : ℕ) (lines : List (List ℕ)) (out : List ℕ) → 1 ≤ n → HasText n (start n) lines out → Plays n lines out
plays n lines out some text =
    record { states = text.0; text = text.1; one_run = one_run n (start n) lines out text.0 (start_is n some) (length-replicate n []) text.1 }
