-- A line prints only one thing, and a script has only one text, unless memory runs out.
use Rattle.std.proofs.Common.{◌≡◌, ℕ, ◌<◌, ◌≤◌, ◌⊎◌, inl, inr, List, [], ◌∷◌, ◌++◌, Option, None, Some, length, refl, ap, sym, subst, ◌∙◌, arith}
use Rattle.std.specs.Prelude.{IfSome}
use Rattle.wire_callbacks.specs.declared.duty.Duty.{Duty}
use Rattle.wire_callbacks.proofs.Single.{one_list_of_duties}
use Rattle.script_world.specs.declared.event.Event.{Event}
use Rattle.wire_frames.specs.declared.version.Version.TheVariants.{One, Two}
use Rattle.script_world.specs.declared.event.Event.TheVariants.{Act as ActEvent, Deliver as DeliverEvent, Restart as RestartEvent, Send as SendEvent, Tick as TickEvent}
use Rattle.script_world.specs.declared.event.EventReply.{EventReply}
use Rattle.script_world.specs.Worlds.{Comes, SentFrame, IfNode, IsEncoded, State, frame_at, is_node, set_of}
use Rattle.script_world.proofs.Determined.{one_encoding, step_once}
use Rattle.script_lines.specs.declared.asking.Ask.{Ask}
use Rattle.script_lines.specs.declared.asking.Ask.TheVariants.{Enter, Tick, Send, SendOld, Deliver, Restart, Show, Member, Duties, Hear, Front, Same, Text, Read}
use Rattle.script_lines.specs.Asks.{Spells}
use Rattle.script_lines.specs.CallLines.{duties_text}
use Rattle.script_lines.specs.Scripts.{Answers, AnswersInRoom, Does, IsDone, PrintsReply, ScriptText, TellsSame, TextInRoom, event_line, printed}
use Rattle.script_lines.specs.NodeHoldings.{AreComing}
use Rattle.script_lines.proofs.OneAskALine.{one_ask}

-- what is asked for is done in only one way
abbrev AreOne : (a x : List ℕ) (t u : State) → Type 0
AreOne a x t u = (a ≡ x) × (t ≡ u)

event_once : (s : State) (event : Event) (a x : List ℕ) (t u : State) → PrintsReply s event a t → PrintsReply s event x u → AreOne a x t u
event_once s event a x t u (reply, steps, is) (other, goes, also) =
    let one = step_once s t u event reply other steps goes in
    (is ∙ ap (λ (r : EventReply). event_line r) one.reply_is ∙ sym also, one.state_is)

-- for a frame that was sent, only one number of bytes arrives; a frame that wasn't sent is refused
-- whatever arrives
coming_once : (s : State) (frame node : ℕ) (kept : Option ℕ) (n m : ℕ) (a x : List ℕ) (t u : State) → AreComing s frame kept n → AreComing s frame kept m
    → PrintsReply s (DeliverEvent frame node n) a t → PrintsReply s (DeliverEvent frame node m) x u → AreOne a x t u
coming_once s frame node (Some kept) n m a x t u e f h k =
    event_once s (DeliverEvent frame node m) a x t u (subst (λ (i : ℕ). PrintsReply s (DeliverEvent frame node i) a t) (e ∙ sym f) h) k
coming_once s frame node None n m a x t u e f h k = by (frame_at s frame) refl e f
  where
    whole : Option SentFrame → ℕ → Type 0
    whole found count = IfSome found (λ sent. (bytes : List ℕ) × IsEncoded s.history sent bytes × (count ≡ length bytes))

    as_well : frame_at s frame ≡ None → PrintsReply s (DeliverEvent frame node n) a t
        → PrintsReply s (DeliverEvent frame node m) a t
    as_well none (reply, steps, is) = (
      reply,
      subst (λ (f : Option SentFrame). IfNode (is_node s node) s (Comes s node f m reply t) reply t) (sym none)
          (subst (λ (f : Option SentFrame). IfNode (is_node s node) s (Comes s node f n reply t) reply t) none steps),
      is,
    )

    by : (found : Option SentFrame) → frame_at s frame ≡ found → whole found n → whole found m → AreOne a x t u
    by None none e f = event_once s (DeliverEvent frame node m) a x t u (as_well none h) k
    by (Some sent) found (bytes, spelled, count) (others, also, counts) =
        let same : n ≡ m = count ∙ ap (λ (l : List ℕ). length l) (one_encoding s.history sent bytes others spelled also) ∙ sym counts in
        event_once s (DeliverEvent frame node m) a x t u (subst (λ (i : ℕ). PrintsReply s (DeliverEvent frame node i) a t) same h) k

same_once : (P : Type 0) (a x : List ℕ) → TellsSame P a → TellsSame P x → a ≡ x
same_once P a x (inl (told, is)) (inl (also, same)) = is ∙ sym same
same_once P a x (inl (told, is)) (inr (never, same)) = absurd (never told)
same_once P a x (inr (never, is)) (inl (told, same)) = absurd (never told)
same_once P a x (inr (never, is)) (inr (also, same)) = is ∙ sym same

does_once : (s : State) (ask : Ask) (a x : List ℕ) (t u : State) → Does s ask a t → Does s ask x u → AreOne a x t u
does_once s (Enter node command) a x t u h k = event_once s (ActEvent node command) a x t u h k
does_once s (Tick node now) a x t u h k = event_once s (TickEvent node now) a x t u h k
does_once s (Send node base) a x t u h k = event_once s (SendEvent node base Two) a x t u h k
does_once s (SendOld node base) a x t u h k = event_once s (SendEvent node base One) a x t u h k
does_once s (Deliver frame node kept) a x t u (n, coming, prints) (m, comes, printing) = coming_once s frame node kept n m a x t u coming comes prints printing
does_once s (Restart node) a x t u h k = event_once s (RestartEvent node) a x t u h k
does_once s (Show node id) a x t u h k = (h.0 ∙ sym k.0, h.1 ∙ sym k.1)
does_once s (Member node id m) a x t u h k = (h.0 ∙ sym k.0, h.1 ∙ sym k.1)
does_once s (Duties node) a x t u (ds, all, is, same) (es, each, also, stays) =
    (is ∙ ap (λ (l : List Duty). printed (duties_text l)) (one_list_of_duties node (set_of s node) ds es all each) ∙ sym also, same ∙ sym stays)
does_once s (Hear node id m kind answer) a x t u h k = (h.0 ∙ sym k.0, h.1 ∙ sym k.1)
does_once s (Front node) a x t u h k = (h.0 ∙ sym k.0, h.1 ∙ sym k.1)
does_once s (Same node other) a x t u h k = (same_once _ a x h.0 k.0, h.1 ∙ sym k.1)
does_once s (Text id) a x t u h k = (h.0 ∙ sym k.0, h.1 ∙ sym k.1)
does_once s (Read id) a x t u h k = (h.0 ∙ sym k.0, h.1 ∙ sym k.1)

asked_once : (s : State) (ask other : Ask) (a x : List ℕ) (t u : State) → ask ≡ other → Does s ask a t → Does s other x u → AreOne a x t u
asked_once s ask other a x t u e h k = does_once s ask a x t u h (subst (λ (q : Ask). Does s q x u) (sym e) k)

-- a line that is done is not bad
never_bad : (nodes : ℕ) (s : State) (line out : List ℕ) (t : State) → IsDone nodes s line out t → (4096 < length line) ⊎ ((ask : Ask) → Spells nodes line ask → ⊥) → ⊥
never_bad nodes s line out t (ask, short, spells, does) (inl long) = absurd (omega (arith, short, long))
never_bad nodes s line out t (ask, short, spells, does) (inr none) = none ask spells

line_once : (nodes : ℕ) (s : State) (line a x : List ℕ) (t u : State) → nodes ≤ 8 → AnswersInRoom nodes s line a t → AnswersInRoom nodes s line x u → AreOne a x t u
line_once nodes s [] a x t u few h k = (h.0 ∙ sym k.0, h.1 ∙ sym k.1)
line_once nodes s (b ∷ bs) a x t u few (inl (bad, is, stays)) (inl (also, same, rests)) = (is ∙ sym same, stays ∙ sym rests)
line_once nodes s (b ∷ bs) a x t u few (inl (bad, is, stays)) (inr done) = absurd (never_bad nodes s (b ∷ bs) x u done bad)
line_once nodes s (b ∷ bs) a x t u few (inr done) (inl (bad, is, stays)) = absurd (never_bad nodes s (b ∷ bs) a t done bad)
line_once nodes s (b ∷ bs) a x t u few (inr (ask, short, spells, does)) (inr (other, brief, spell, shown)) =
    asked_once s ask other a x t u (one_ask nodes (b ∷ bs) ask other few spells spell) does shown

pub text_once : (nodes : ℕ) (s : State) (lines : List (List ℕ)) (a x : List ℕ) (states passed : List State) → nodes ≤ 8
    → TextInRoom nodes s lines a states → TextInRoom nodes s lines x passed → (a ≡ x) × (states ≡ passed)
text_once nodes s [] a x [] [] few h k = (h ∙ sym k, refl)
text_once nodes s [] a x (t ∷ states) passed few h k = absurd h
text_once nodes s [] a x [] (u ∷ passed) few h k = absurd k
text_once nodes s (line ∷ lines) a x [] passed few h k = absurd h
text_once nodes s (line ∷ lines) a x (t ∷ states) [] few h k = absurd k
text_once nodes s (line ∷ lines) a x (t ∷ states) (u ∷ passed) few (first, rest, is, answers, more) (other, others, also, answer, further) =
    let one = line_once nodes s line first other t u few answers answer in
    let same = text_once nodes t lines rest others states passed few more (subst (λ (v : State). TextInRoom nodes v lines others passed) (sym one.1) further) in (
      is ∙ ap (λ (l : List ℕ). l ++ rest) one.0 ∙ ap (λ (l : List ℕ). other ++ l) same.0 ∙ sym also,
      ap (λ (v : State). v ∷ states) one.1 ∙ ap (λ (l : List State). u ∷ l) same.1,
    )

in_room : (nodes : ℕ) (s : State) (line a : List ℕ) (t : State) → AnswersInRoom nodes s line a t → Answers nodes s line a t
in_room nodes s [] a t h = h
in_room nodes s (b ∷ bs) a t h = inr h

-- it is a text of the script
pub text_is_one : (nodes : ℕ) (s : State) (lines : List (List ℕ)) (a : List ℕ) (states : List State) → TextInRoom nodes s lines a states → ScriptText nodes s lines a states
text_is_one nodes s [] a [] h = h
text_is_one nodes s [] a (t ∷ states) h = absurd h
text_is_one nodes s (line ∷ lines) a [] h = absurd h
text_is_one nodes s (line ∷ lines) a (t ∷ states) (first, rest, is, answers, more) = (first, rest, is, in_room nodes s line first t answers, text_is_one nodes t lines rest states more)
