-- A node's trail, with what happens elsewhere, is a run of the world.
use Rattle.std.proofs.Common.{◌≡◌, ◌≤◌, ◌⊎◌, inl, inr, ℕ, length, List, [], ◌∷◌, refl, sym, ap, subst, ◌∙◌, Option, Some, None}
use Rattle.theory_history.specs.Histories.{History, IsClosed, IsLawful, facts}
use Rattle.theory_history.specs.Views.{StandsFor, View}
use Rattle.wire_frames.specs.Frames.{Frame}
use Rattle.script_world.specs.declared.event.Event.{Event}
use Rattle.script_world.specs.declared.event.EventReply.{EventReply}
use Rattle.script_world.specs.Headline.{Converges}
use Rattle.script_world.specs.Worlds.{IsWorld, Runs, State, Steps, front_of, nodes_of}
use Rattle.state_journal.specs.Ruled.{AreTyped, KeepsRules}
use Rattle.script_world.proofs.Agreeing.{nodes_agree}
use Rattle.script_world.proofs.Determined.{step_once}
use Rattle.script_world.proofs.Moving.{run_keeps, step_keeps}
use Rattle.script_world.proofs.Parting.{no_split}
use Rattle.script_world.proofs.StatusesRise.{statuses_rise}
use Rattle.state_book.specs.declared.calls.Call.{Call}
use Rattle.state_book.specs.declared.calls.Entry.{Entry}
use Rattle.state_book.specs.declared.calls.Reply.{Reply as BookReply}
use Rattle.state_book.specs.declared.calls.Reply.TheVariants.{Command as Entered, Took, Gave, Shown, ShownMember, Listed, Held, Surveyed, Due, Quiet, Expired, Refused}
use Rattle.state_book.specs.Next.{IsFoundBehind, IsNext}
use Rattle.state_book.specs.Trails.{LeadsTo, entry}
use Rattle.theory_progress.specs.Diagram.{node_of}
use Rattle.theory_trail.specs.NodeTrails.{AreReplies, Arrival, Elsewhere, Follows, Happen, Here, IsPlayed, IsReplied, IsRun, IsServed, IsTold, Item, Leaves, Says, WasSent, event_of, events_of, trail_of, with_event}
use Rattle.theory_trail.proofs.AtOtherNodes.{node_still, served_still}
use Rattle.theory_trail.proofs.Entries.{Means, Nothing, Something, entry_means}
use Rattle.theory_trail.proofs.KeptFrames.{run_told}
use Rattle.theory_trail.proofs.OwnCommands.{Holds}

-- A run is determined

record AreSame (replies others : List EventReply) (t u : State) : Type 0 where
  replies_are : others ≡ replies
  state_is : u ≡ t

run_once : (s t u : State) (events : List Event) (replies others : List EventReply) → Runs s events replies t → Runs s events others u → AreSame replies others t u
run_once s t u [] [] [] h k = record { replies_are = refl; state_is = k ∙ sym h }
run_once s t u [] [] (other ∷ others) h k = absurd k
run_once s t u [] (reply ∷ replies) others h k = absurd h
run_once s t u (event ∷ events) [] others h k = absurd h
run_once s t u (event ∷ events) (reply ∷ replies) [] h k = absurd k
run_once s t u (event ∷ events) (reply ∷ replies) (other ∷ others) h k =
    let one = step_once s h.0 k.0 event reply other h.1 k.1 in
    let rest = run_once h.0 t u events replies others h.2 (subst (λ (m : State). Runs m events others u) (sym one.state_is) k.2) in
    record { replies_are = ap (λ (r : EventReply). r ∷ others) (sym one.reply_is) ∙ ap (λ (rs : List EventReply). reply ∷ rs) rest.replies_are; state_is = rest.state_is }

-- what a reply says in a state, it says in each later state
says_still : (s t : State) (reply : BookReply) (is : EventReply) → ((number : ℕ) (delta : Frame) → IsTold s number delta → IsTold t number delta) → Says s reply is → Says t reply is
says_still s t (Entered r) is still says = says
says_still s t Took is still says = says
says_still s t (Gave delta) is still (number, e, told) = (number, e, still number delta told)
says_still s t (Shown l status) is still says = absurd says
says_still s t (ShownMember l m status) is still says = absurd says
says_still s t (Listed page) is still says = absurd says
says_still s t (Held holding) is still says = absurd says
says_still s t (Surveyed survey) is still says = absurd says
says_still s t (Due duties) is still says = absurd says
says_still s t (Expired l) is still says = says
says_still s t Quiet is still says = absurd says
says_still s t (Refused refusal) is still says = absurd says

-- Step by step

-- the run so far, without the claim that what follows from there is a run
record IsRunSoFar (me : ℕ) (s : State) (items : List Item) (t : State) (b : View) : Type 0 where
  replies : List EventReply
  runs : Runs s (events_of me items) replies t
  same : AreReplies me t items replies
  served : IsServed me t b

-- the meaning of an entry, if the world went on
pub record IsMeant (me : ℕ) (s : State) (o : Option Event) (reply : BookReply) (mid : State) (b : View) : Type 0 where
  pub served : IsServed me mid b
  pub nodes : nodes_of mid ≡ nodes_of s
  pub others : (other : ℕ) (view : View) → (me ≡ other → ⊥) → IsServed other s view → IsServed other mid view
  pub goes_on : (events : List Event) (left : List EventReply) (t : State) → Runs mid events left t
      → (replies : List EventReply) × Runs s (with_event o events) replies t × Leaves o t reply replies left

nothing_meant : (me : ℕ) (s : State) (a b : View) (reply : BookReply) (mid : State) → IsServed me s a → Holds me s b → mid ≡ s → IsMeant me s None reply mid b
nothing_meant me s a b reply mid served holds same =
    subst (λ (u : State). IsMeant me s None reply u b) (sym same)
    (record { served = record { world = served.world; node = served.node; holds = holds }; nodes = refl; others = λ other view apart was. was; goes_on = λ events left t runs. (left, runs, refl) })

something_meant : (me : ℕ) (s : State) (a b : View) (reply : BookReply) (event : Event) (is : EventReply) (u mid : State) → IsServed me s a → node_of event ≡ me → Steps s event is u → Says u reply is
    → Holds me u b → Follows s (Some event) mid → IsMeant me s (Some event) reply mid b
something_meant me s a b reply event is u mid served own steps says holds (other, follows) =
    let kept = step_keeps s u event is served.world steps in
    let once = step_once s u mid event is other steps follows in
    subst (λ (m : State). IsMeant me s (Some event) reply m b) once.state_is
    (record {
      served = record { world = kept.world; node = node_still s u me served.node kept; holds = holds };
      nodes = kept.grown.nodes;
      others = λ node view apart was. served_still s u node view event is was (λ e. apart (sym own ∙ e)) steps;
      goes_on = λ events left t runs.
          (is ∷ left, (u, steps, runs), (is, refl, says_still u t reply is (λ number delta told. run_told u t events left number delta kept.world runs told) says));
    })

pub entry_meant : (me : ℕ) (s : State) (frame : Arrival) (a b : View) (entry : Entry) (mid : State) → IsServed me s a → IsNext me a entry.call entry.moment entry.reply b
    → WasSent s frame entry.call entry.reply → Follows s (event_of me frame entry) mid → IsMeant me s (event_of me frame entry) entry.reply mid b
entry_meant me s frame a b entry mid served next sent follows = by (entry_means me s frame entry.moment a b entry.call entry.reply served next sent)
  where
    by : Means me s frame entry.moment entry.call entry.reply b → IsMeant me s (event_of me frame entry) entry.reply mid b
    by (Nothing e holds) =
        subst (λ (o : Option Event). IsMeant me s o entry.reply mid b) (sym e)
        (nothing_meant me s a b entry.reply mid served holds (subst (λ (o : Option Event). Follows s o mid) e follows))
    by (Something event is u e own steps says holds) =
        subst (λ (o : Option Event). IsMeant me s o entry.reply mid b) (sym e)
        (something_meant me s a b entry.reply event is u mid served own steps says holds (subst (λ (o : Option Event). Follows s o mid) e follows))

-- By recursion on the items

run_so_far : (me : ℕ) (s : State) (a : View) (items : List Item) (t : State) (b : View) → IsServed me s a → LeadsTo me a (trail_of items) b → Happen me s items t → IsRunSoFar me s items t b
run_so_far me s a [] t b served legal happen =
    record {
      replies = [];
      runs = happen;
      same = refl;
      served = subst (λ (u : State). IsServed me u b) (sym happen) (subst (IsServed me s) (sym legal) served);
    }
run_so_far me s a (Elsewhere event reply ∷ items) t b served legal (other, (mid, steps, happen)) =
    let rest = run_so_far me mid a items t b (served_still s mid me a event reply served other steps) legal happen in
    record {
      replies = reply ∷ rest.replies;
      runs = (mid, steps, rest.runs);
      same = (rest.replies, refl, rest.same);
      served = rest.served;
    }
run_so_far me s a (Here entry frame ∷ items) t b served (next, first, legal) (sent, (mid, follows, happen)) =
    let meant = entry_meant me s frame a next entry mid served first sent follows in
    let rest = run_so_far me mid next items t b meant.served legal happen in
    let whole = meant.goes_on (events_of me items) rest.replies t rest.runs in
    record {
      replies = whole.0;
      runs = whole.1;
      same = (rest.replies, whole.2, rest.same);
      served = rest.served;
    }

pub converges : (s t : State) (events : List Event) (replies : List EventReply) → IsWorld s → Runs s events replies t → Converges s t
converges s t events replies world runs =
    let kept = run_keeps s t events replies world runs in
    record {
      world = kept.world;
      agree = λ one other took. nodes_agree t one other kept.world took;
      whole = no_split s t world kept;
      rising = statuses_rise s t world kept;
    }

pub played_runs : (me : ℕ) (s t : State) (a b : View) (items : List Item) → IsPlayed me s a items t b → IsRun me s items t b
played_runs me s t a b items played =
    let run = run_so_far me s a items t b played.served played.legal played.happen in
    record {
      replies = run.replies;
      runs = run.runs;
      same = run.same;
      only = λ others u runs. let one = run_once s t u (events_of me items) run.replies others run.runs runs in (one.replies_are, one.state_is);
      served = run.served;
      converges = converges s t (events_of me items) run.replies played.served.world run.runs;
    }

-- An entry can happen

pub entry_happens : (me : ℕ) (s : State) (a b : View) (entry : Entry) (frame : Arrival) → IsServed me s a → IsNext me a entry.call entry.moment entry.reply b → WasSent s frame entry.call entry.reply
    → (t : State) × Follows s (event_of me frame entry) t
entry_happens me s a b entry frame served next sent = by (entry_means me s frame entry.moment a b entry.call entry.reply served next sent)
  where
    by : Means me s frame entry.moment entry.call entry.reply b → (t : State) × Follows s (event_of me frame entry) t
    by (Nothing e holds) = (s, subst (λ (o : Option Event). Follows s o s) (sym e) refl)
    by (Something event is u e own steps says holds) = (u, subst (λ (o : Option Event). Follows s o u) (sym e) (is, steps))

-- A call whose answer was lost

pub lost_answer : (me : ℕ) (s : State) (a b found : View) (entry : Entry) (frame : Arrival) → IsServed me s a → IsNext me a entry.call entry.moment entry.reply b → WasSent s frame entry.call entry.reply
    → (found ≡ a) ⊎ (found ≡ b) → (t : State) × ((t ≡ s) ⊎ Follows s (event_of me frame entry) t) × IsServed me t found
lost_answer me s a b found entry frame served next sent (inl same) = (s, inl refl, subst (IsServed me s) (sym same) served)
lost_answer me s a b found entry frame served next sent (inr same) =
    let went = entry_happens me s a b entry frame served next sent in
    let meant = entry_meant me s frame a b entry went.0 served next sent went.1 in
    (went.0, inr went.1, subst (IsServed me went.0) (sym same) meant.served)

pub found_answer : (me : ℕ) (s : State) (a found : View) (asked : Call) (now : ℕ) (frame : Arrival) → IsServed me s a → ((reply : BookReply) → IsNext me a asked now reply found → WasSent s frame asked reply)
    → IsFoundBehind me a asked now found → (t : State) × ((t ≡ s) ⊎ IsReplied me s a asked now frame found t) × IsServed me t found
found_answer me s a found asked now frame served sent (inl same) = (s, inl refl, subst (IsServed me s) (sym same) served)
found_answer me s a found asked now frame served sent (inr it) =
    let went = entry_happens me s a found (entry asked now it.0) frame served it.1 (sent it.0 it.1) in
    let meant = entry_meant me s frame a found (entry asked now it.0) went.0 served it.1 (sent it.0 it.1) went.1 in
    (went.0, inr (it.0, it.1, went.1), meant.served)

-- What a node holds

module _ (rules : (h : History) (v : List ℕ) (view : View) → IsLawful h → IsClosed h v → StandsFor (facts h v) view → length view.front ≤ 8 → AreTyped view → KeepsRules view) where
  pub held_rules : (me : ℕ) (s : State) (a : View) → IsServed me s a → length a.front ≤ 8 → AreTyped a → KeepsRules a
  held_rules me s a served few typed = rules s.history (front_of s me) a served.world.lawful (served.world.current me served.node.some served.node.there).closed served.holds.stands few typed

  pub next_rules : (me now : ℕ) (frame : Arrival) (s : State) (a b : View) (call : Call) (reply : BookReply) → IsServed me s a → IsNext me a call now reply b → WasSent s frame call reply
      → length b.front ≤ 8 → AreTyped b → KeepsRules b
  next_rules me now frame s a b call reply served next sent few typed =
      let went = entry_happens me s a b (entry call now reply) frame served next sent in
      let meant = entry_meant me s frame a b (entry call now reply) went.0 served next sent went.1 in
      held_rules me went.0 b meant.served few typed
