-- What an entry of a node's trail is in the world.
use Rattle.std.proofs.Common.{◌≡◌, inl, inr, ◌<◌, ◌+◌, ◌-◌, ◌*◌, ◌==◌, ◌++◌, ℕ, zero, suc, List, [], ◌∷◌, refl, sym, ap, subst, ◌∙◌, Bool, true, false, cond, arith, get_or-set_same, Option, Some, None, Result, Ok, Err, length}
use Rattle.std.specs.Prelude.{drop, nat_lt}
use Rattle.state_ids.specs.Fronts.{IsBelow, join_fronts, meet_fronts}
use Rattle.state_ids.specs.Ids.{Id}
use Rattle.state_ids.proofs.Pairs.{meet_below}
use Rattle.state_ids.specs.declared.outcome.Verdict.TheVariants.{Cancel}
use Rattle.state_ids.specs.declared.status.LraStatus.{LraStatus}
use Rattle.state_facts.specs.declared.refusal.Refusal.{Refusal}
use Rattle.state_facts.specs.declared.refusal.Refusal.TheVariants.{BadFrame}
use Rattle.state_facts.specs.Sets.{IsNumbered}
use Rattle.state_forest.specs.Overdue.{IsLeastOverdue}
use Rattle.state_forest.proofs.Bools.{all_from}
use Rattle.state_forest.proofs.Overdue.{overdue_said}
use Rattle.state_facts.specs.declared.command.Command.{Command}
use Rattle.state_facts.specs.declared.command.Command.TheVariants.{Decide, Purge}
use Rattle.state_facts.specs.declared.command.CommandReply.{CommandReply}
use Rattle.state_facts.specs.declared.command.CommandReply.TheVariants.{Began, Joined, Left, Decided, Reported, Known, Forgotten, Told, Purged, Refused as NotEntered}
use Rattle.theory_history.specs.Histories.{IsClosed, facts}
use Rattle.theory_history.specs.Next.{next_view, overdue_on, reply_on, shown_on}
use Rattle.theory_history.specs.Views.{StandsFor, View, records_at}
use Rattle.theory_history.proofs.Covered.{nested_settled}
use Rattle.wire_frames.specs.Frames.{Frame, IsFrame, frame_of}
use Rattle.wire_frames.specs.Rules.{IsDeltaAs, are_counts}
use Rattle.wire_frames.specs.Encoding.{encoding_as}
use Rattle.wire_frames.specs.declared.version.Version.{Version}
use Rattle.wire_frames.specs.declared.version.Version.TheVariants.{Two}
use Rattle.wire_frames.proofs.FramesOfHistories.{take_law}
use Rattle.wire_frames.proofs.OfSets.{frame_stands}
use Rattle.wire_pulls.specs.PullBodies.{asked, counts_in}
use Rattle.script_world.specs.declared.event.Event.{Event}
use Rattle.script_world.specs.declared.event.Event.TheVariants.{Act, Deliver, Send, Tick}
use Rattle.script_world.specs.declared.event.EventReply.{EventReply}
use Rattle.script_world.specs.declared.event.EventReply.TheVariants.{Answered, Sent, Expired as DidExpire, Took as DidTake}
use Rattle.script_world.specs.Worlds.{Acts, Comes, IsEncoded, IsViewOf, SentFrame, Sends, State, Steps, Ticks, after_command, expired as did_expire, frame_at, front_of, reply_at, set_of, with_front}
use Rattle.script_world.proofs.Moving.{frame_in}
use Rattle.state_book.specs.declared.calls.Call.{Call}
use Rattle.state_book.specs.declared.calls.Call.TheVariants.{Command as Enter, Take, Pull, Status, Member, Page, Record as Show, Survey, Duties, Expire, Sweep}
use Rattle.state_book.specs.declared.calls.Reply.{Reply as BookReply}
use Rattle.state_book.specs.declared.calls.Reply.TheVariants.{Command as Entered, Took, Gave}
use Rattle.state_book.specs.Next.{IsNext, IsTakeReply, Takes, expire_reply, expired, pull_reply, shows_so, status_reply, sweep_reply, view_expired, view_swept}
use Rattle.state_book.specs.Trees.{tree_shown_on}
use Rattle.theory_progress.specs.Diagram.{node_of}
use Rattle.theory_trail.specs.NodeTrails.{Arrival, IsServed, IsTold, IsToldAs, Says, WasSent, event_by, is_accepted}
use Rattle.theory_trail.proofs.KeptFrames.{last_numbered}
use Rattle.theory_trail.proofs.OwnCommands.{Holds, at_node, command_holds, current_of, nodes_in, reply_is, settled_of, there_in, unless_accepted}

-- an entry means either nothing, or an event with the entry's reply, after which the node holds
-- what its next view shows
pub data Means (me : ℕ) (s : State) (frame : Arrival) (now : ℕ) (call : Call) (reply : BookReply) (b : View) : Type 0 where
  Nothing : event_by me frame now call reply ≡ None → Holds me s b → Means me s frame now call reply b
  Something : (event : Event) (is : EventReply) (t : State) → event_by me frame now call reply ≡ Some event → node_of event ≡ me → Steps s event is t → Says t reply is → Holds me t b
      → Means me s frame now call reply b

as_it_was : (me : ℕ) (s : State) (a b : View) → IsServed me s a → b ≡ a → Holds me s b
as_it_was me s a b served same = subst (Holds me s) (sym same) served.holds

-- Commands

entered_means : (me : ℕ) (s : State) (frame : Arrival) (now : ℕ) (a b : View) (c : Command) (reply : BookReply) → IsServed me s a → reply ≡ Entered (reply_on a me c) → b ≡ next_view a me c → Means me s frame now (Enter c) reply b
entered_means me s frame now a b c reply served is next =
    subst (λ (r : BookReply). Means me s frame now (Enter c) r b) (sym (is ∙ ap (λ r. Entered r) (reply_is me s a c served))) (by (is_accepted (reply_at s me c)) refl)
  where
    holds : Holds me (after_command s me c) b
    holds = subst (Holds me (after_command s me c)) (sym next) (command_holds me s a c served)

    by : (t : Bool) → is_accepted (reply_at s me c) ≡ t → Means me s frame now (Enter c) (Entered (reply_at s me c)) b
    by true e =
        Something (Act me c) (Answered (reply_at s me c)) (after_command s me c) (ap (λ (t : Bool). cond t (Some (Act me c)) None) e) refl
        (at_node s (after_command s me c) me (Acts s me c (Answered (reply_at s me c)) (after_command s me c)) (Answered (reply_at s me c)) served.node (refl, refl)) refl holds
    by false e =
        Nothing (ap (λ (t : Bool). cond t (Some (Act me c)) None) e) (subst (λ (u : State). Holds me u b) (unless_accepted s me c e) holds)

-- Sweeps

-- the purge of a sweep is the same as that of a command
as_swept : (me : ℕ) (s : State) (frame : Arrival) (now : ℕ) (b : View) (l : Id) (seen : LraStatus) (r : CommandReply) → Means me s frame now (Enter (Purge l)) (Entered r) b → Means me s frame now (Sweep l seen) (Entered r) b
as_swept me s frame now b l seen r (Nothing none holds) = Nothing none holds
as_swept me s frame now b l seen r (Something event is t some node steps says holds) = Something event is t some node steps says holds

told_means : (me : ℕ) (s : State) (frame : Arrival) (now : ℕ) (a b : View) (l : Id) (seen : LraStatus) (shown : Result LraStatus Refusal) → IsServed me s a → b ≡ a
    → Means me s frame now (Sweep l seen) (status_reply l shown) b
told_means me s frame now a b l seen (Ok status) served same = Nothing refl (as_it_was me s a b served same)
told_means me s frame now a b l seen (Err refusal) served same = Nothing refl (as_it_was me s a b served same)

sweep_means : (me : ℕ) (s : State) (frame : Arrival) (now : ℕ) (a b : View) (l : Id) (seen : LraStatus) (shows : Bool) → IsServed me s a → b ≡ view_swept a me l shows
    → Means me s frame now (Sweep l seen) (sweep_reply a me l shows) b
sweep_means me s frame now a b l seen true served next =
    as_swept me s frame now b l seen (reply_on a me (Purge l)) (entered_means me s frame now a b (Purge l) (Entered (reply_on a me (Purge l))) served refl next)
sweep_means me s frame now a b l seen false served next = told_means me s frame now a b l seen (shown_on a l) served next

-- Deadlines

overdue_of : (me : ℕ) (s : State) (now : ℕ) (a : View) → IsServed me s a → IsLeastOverdue (set_of s me) me now (overdue_on a me now)
overdue_of me s now a served =
    let settled = settled_of me s a served in
    let own = served.holds.stands.records me served.node.some (there_in me s a served) in
    overdue_said (length a.front) me (set_of s me) (records_at a.records me) now own.order settled.whole (nested_settled (set_of s me) settled)
    (all_from IsNumbered (set_of s me) settled.numbered) own.stands

expired_means : (me : ℕ) (s : State) (frame : Arrival) (now : ℕ) (a b : View) (l : Id) → IsServed me s a → IsLeastOverdue (set_of s me) me now (Some l) → b ≡ next_view a me (Decide l Cancel)
    → (r : CommandReply) → reply_at s me (Decide l Cancel) ≡ r → Means me s frame now Expire (expired l r) b
expired_means me s frame now a b l served least next = by
  where
    c : Command
    c = Decide l Cancel

    t : State
    t = after_command s me c

    holds : Holds me t b
    holds = subst (Holds me t) (sym next) (command_holds me s a c served)

    ticks : (r : CommandReply) → reply_at s me c ≡ r → DidExpire l ≡ did_expire l r → Steps s (Tick me now) (DidExpire l) t
    ticks r e is = at_node s t me (Ticks s me now (DidExpire l) t) (DidExpire l) served.node (Some l, least, (is ∙ ap (did_expire l) (sym e), refl))

    by : (r : CommandReply) → reply_at s me c ≡ r → Means me s frame now Expire (expired l r) b
    by (NotEntered q) e = Nothing refl (subst (λ (u : State). Holds me u b) (unless_accepted s me c (ap is_accepted e)) holds)
    by Known e = Something (Tick me now) (DidExpire l) t refl refl (ticks Known e refl) refl holds
    by (Began id m) e = Something (Tick me now) (DidExpire l) t refl refl (ticks (Began id m) e refl) refl holds
    by (Joined id m) e = Something (Tick me now) (DidExpire l) t refl refl (ticks (Joined id m) e refl) refl holds
    by Left e = Something (Tick me now) (DidExpire l) t refl refl (ticks Left e refl) refl holds
    by (Decided id status) e = Something (Tick me now) (DidExpire l) t refl refl (ticks (Decided id status) e refl) refl holds
    by Reported e = Something (Tick me now) (DidExpire l) t refl refl (ticks Reported e refl) refl holds
    by Forgotten e = Something (Tick me now) (DidExpire l) t refl refl (ticks Forgotten e refl) refl holds
    by Told e = Something (Tick me now) (DidExpire l) t refl refl (ticks Told e refl) refl holds
    by Purged e = Something (Tick me now) (DidExpire l) t refl refl (ticks Purged e refl) refl holds

expiry_means : (me : ℕ) (s : State) (frame : Arrival) (now : ℕ) (a b : View) (late : Option Id) → IsServed me s a → IsLeastOverdue (set_of s me) me now late → b ≡ view_expired a me late
    → Means me s frame now Expire (expire_reply a me late) b
expiry_means me s frame now a b None served least next = Nothing refl (as_it_was me s a b served next)
expiry_means me s frame now a b (Some l) served least next =
    subst (λ (r : CommandReply). Means me s frame now Expire (expired l r) b) (sym (reply_is me s a (Decide l Cancel) served))
    (expired_means me s frame now a b l served least next (reply_at s me (Decide l Cancel)) refl)

-- Frames that are taken

-- what a frame tells is what its bytes encode
pub encoded_as : (v : Version) (s : State) (number : ℕ) (delta : Frame) (told : IsToldAs v s number delta) → IsDeltaAs v delta → IsEncoded s.history told.sent (encoding_as v delta)
encoded_as v s number delta told rules =
    record {
      view = told.view;
      sender = told.sender;
      rules = subst (λ (w : Version). IsDeltaAs w (frame_of told.view told.sent.base)) (sym told.version) (subst (IsDeltaAs v) told.told rules);
      encodes = ap (encoding_as v) told.told ∙ ap (λ (w : Version). encoding_as w (frame_of told.view told.sent.base)) (sym told.version);
    }

took_means : (me : ℕ) (s : State) (frame : Arrival) (now : ℕ) (a b : View) (delta : Frame) → IsServed me s a → Takes a delta b → IsToldAs frame.version s frame.number delta → IsDeltaAs frame.version delta
    → Means me s frame now (Take delta) Took b
took_means me s frame now a b delta served takes told spelt =
    Something (Deliver frame.number me (length bytes)) DidTake t refl refl (at_node s t me (Comes s me (frame_at s frame.number) (length bytes) DidTake t) DidTake served.node comes) refl holds
  where
    v : List ℕ
    v = front_of s me

    bytes : List ℕ
    bytes = encoding_as frame.version delta

    sent : SentFrame
    sent = told.sent

    both : List ℕ
    both = join_fronts v sent.front

    t : State
    t = with_front s me both

    base : delta.base ≡ sent.base
    base = ap (λ (f : Frame). f.base) told.told

    front : delta.front ≡ sent.front
    front = ap (λ (f : Frame). f.front) told.told ∙ told.sender.counts

    below : IsBelow sent.base v
    below = subst (λ (u : List ℕ). IsBelow sent.base u) served.holds.counts (subst (λ (u : List ℕ). IsBelow u a.front) base takes.reached)

    encoded : IsEncoded s.history sent bytes
    encoded = encoded_as frame.version s frame.number delta told spelt

    comes : Comes s me (frame_at s frame.number) (length bytes) DidTake t
    comes = subst (λ (o : Option SentFrame). Comes s me o (length bytes) DidTake t) (sym told.numbered) (bytes, encoded, inr (inr (inr (refl, below, refl, refl))))

    from : IsClosed s.history sent.front
    from = (served.world.sent sent (frame_in s frame.number sent told.numbered)).closed

    tells : IsFrame (facts s.history sent.front) sent.base delta
    tells = subst (IsFrame (facts s.history sent.front) sent.base) (sym told.told) (frame_stands (facts s.history sent.front) told.view sent.base told.sender.stands)

    stands : StandsFor (facts s.history both) b
    stands =
        take_law s.history v sent.front sent.base a b delta served.world.lawful (current_of me s a served).closed from served.holds.stands tells
        (subst (λ (u : List ℕ). IsBelow u a.front) base takes.reached) takes.taken

    place : me - 1 < length s.fronts
    place = omega (arith, served.node.some, served.node.there, served.world.nodes)

    is_front : front_of t me ≡ both
    is_front = get_or-set_same s.fronts (me - 1) both [] place

    holds : Holds me t b
    holds =
        subst (λ (u : List ℕ). IsViewOf s.history u b) (sym is_front)
        (record { stands = stands; counts = takes.taken.front ∙ ap (λ (u : List ℕ). join_fronts u delta.front) served.holds.counts ∙ ap (join_fronts v) front })

take_means : (me : ℕ) (s : State) (frame : Arrival) (now : ℕ) (a b : View) (delta : Frame) (reply : BookReply) → IsServed me s a → IsTakeReply a delta reply b → WasSent s frame (Take delta) reply
    → Means me s frame now (Take delta) reply b
take_means me s frame now a b delta reply served (inl (is, takes)) sent =
    let was = subst (WasSent s frame (Take delta)) is sent in
    subst (λ (r : BookReply). Means me s frame now (Take delta) r b) (sym is) (took_means me s frame now a b delta served takes was.0 was.1)
take_means me s frame now a b delta reply served (inr (refusal, is, refuses, same)) sent =
    subst (λ (r : BookReply). Means me s frame now (Take delta) r b) (sym is) (Nothing refl (as_it_was me s a b served same))

-- Frames that are given

length-counts : (n : ℕ) (bytes : List ℕ) → length (counts_in n bytes) ≡ n
length-counts zero bytes = refl
length-counts (suc n) bytes = ap suc (length-counts n (drop 8 bytes))

passed : (a b c d : Bool) (p q r s : Refusal) (x y : List ℕ) → cond a (cond b (Err p) (cond c (cond d (Err q) (Ok x)) (Err r))) (Err s) ≡ Ok y → x ≡ y
passed true false true false p q r s x y e = cc
passed true false true true p q r s x y e = absurd cc
passed true false false d p q r s x y e = absurd cc
passed true true c d p q r s x y e = absurd cc
passed false b c d p q r s x y e = absurd cc

-- the front that a body asks with counts as many nodes
pub asked_nodes : (nodes : ℕ) (body front : List ℕ) → asked nodes body ≡ Ok front → length front ≡ nodes
asked_nodes nodes [] front e = absurd cc
asked_nodes nodes (count ∷ bytes) front e =
    let is = passed (count == nodes) (nat_lt (length bytes) (8 * nodes)) (are_counts (counts_in nodes bytes)) (nat_lt (8 * nodes) (length bytes)) (BadFrame 1) (BadFrame (1 + 8 * nodes)) (BadFrame 1) (BadFrame 0) (counts_in nodes bytes) front e in
    sym (ap length is) ∙ length-counts nodes bytes

pub meet_nodes : (v w : List ℕ) → length v ≡ length w → length (meet_fronts v w) ≡ length w
meet_nodes [] w e = refl
meet_nodes (a ∷ v) [] e = absurd cc
meet_nodes (a ∷ v) (b ∷ w) e = ap suc (meet_nodes v w (omega (arith, e)))

gave_means : (me : ℕ) (s : State) (frame : Arrival) (now : ℕ) (a b : View) (body asker : List ℕ) → IsServed me s a → length asker ≡ length a.front → b ≡ a
    → Means me s frame now (Pull body) (Gave (frame_of a (meet_fronts asker a.front))) b
gave_means me s frame now a b body asker served nodes same =
    Something (Send me base Two) (Sent number) t refl refl (at_node s t me (Sends s me base Two (Sent number) t) (Sent number) served.node sends) (number, refl, told) (as_it_was me s a b served same)
  where
    base : List ℕ
    base = meet_fronts asker a.front

    number : ℕ
    number = length s.sent + 1

    added : SentFrame
    added = record { version = Two; base = base; front = front_of s me }

    t : State
    t = record s { sent = s.sent ++ added ∷ [] }

    sends : Sends s me base Two (Sent number) t
    sends =
        inr (inr (inr (
          meet_nodes asker a.front nodes ∙ nodes_in me s a served,
          subst (IsBelow base) served.holds.counts (meet_below asker a.front nodes).1,
          (λ later. absurd (let wrong : false ≡ true = later.2 in cc)),
          refl,
          refl,
        )))

    told : IsTold t number (frame_of a base)
    told = record { sent = added; numbered = last_numbered s.sent added number refl; version = refl; view = a; sender = served.holds; told = refl }

pull_means : (me : ℕ) (s : State) (frame : Arrival) (now : ℕ) (a b : View) (body : List ℕ) (o : Result (List ℕ) Refusal) → IsServed me s a → asked (length a.front) body ≡ o → b ≡ a
    → Means me s frame now (Pull body) (pull_reply a o) b
pull_means me s frame now a b body (Ok asker) served asks same = gave_means me s frame now a b body asker served (asked_nodes (length a.front) body asker asks) same
pull_means me s frame now a b body (Err refusal) served asks same = Nothing refl (as_it_was me s a b served same)

-- Every entry

pub entry_means : (me : ℕ) (s : State) (frame : Arrival) (now : ℕ) (a b : View) (call : Call) (reply : BookReply) → IsServed me s a → IsNext me a call now reply b → WasSent s frame call reply
    → Means me s frame now call reply b
entry_means me s frame now a b (Enter c) reply served (is, next) sent = entered_means me s frame now a b c reply served is next
entry_means me s frame now a b (Take delta) reply served takes sent = take_means me s frame now a b delta reply served takes sent
entry_means me s frame now a b (Pull body) reply served (is, same) sent =
    subst (λ (r : BookReply). Means me s frame now (Pull body) r b) (sym is) (pull_means me s frame now a b body (asked (length a.front) body) served refl same)
entry_means me s frame now a b (Status l) reply served (is, same) sent = Nothing refl (as_it_was me s a b served same)
entry_means me s frame now a b (Member l m) reply served (is, same) sent = Nothing refl (as_it_was me s a b served same)
entry_means me s frame now a b (Page after) reply served (is, same) sent = Nothing refl (as_it_was me s a b served same)
entry_means me s frame now a b (Show l) reply served (is, same) sent = Nothing refl (as_it_was me s a b served same)
entry_means me s frame now a b (Survey after) reply served (is, same) sent = Nothing refl (as_it_was me s a b served same)
entry_means me s frame now a b Duties reply served (is, same) sent = Nothing refl (as_it_was me s a b served same)
entry_means me s frame now a b Expire reply served (is, next) sent =
    subst (λ (r : BookReply). Means me s frame now Expire r b) (sym is) (expiry_means me s frame now a b (overdue_on a me now) served (overdue_of me s now a served) next)
entry_means me s frame now a b (Sweep l seen) reply served (is, next) sent =
    subst (λ (r : BookReply). Means me s frame now (Sweep l seen) r b) (sym is) (sweep_means me s frame now a b l seen (shows_so seen (tree_shown_on a l)) served next)
