-- A trail counts what it took, and gives what it counted; so one round makes all servers alike.
use Rattle.std.proofs.Common.{◌≡◌, inl, inr, ℕ, List, [], ◌∷◌, sym, ap, subst, ◌∙◌, arith, Bool, true, false, Option, Some, None, Result, Ok, Err, ◌⊎◌, ◌≤◌, ◌+◌, length}
use Rattle.std.specs.List.{list_any}
use Rattle.std.specs.Option.{option_map_or}
use Rattle.state_ids.specs.Fronts.{IsBelow, count, meet_fronts}
use Rattle.state_ids.specs.Ids.{Id}
use Rattle.state_facts.specs.declared.refusal.Refusal.{Refusal}
use Rattle.state_facts.specs.Lists.{In}
use Rattle.state_forest.specs.declared.record.Record.{Record}
use Rattle.state_ids.specs.declared.outcome.Verdict.TheVariants.{Cancel}
use Rattle.state_facts.specs.declared.command.Command.{Command}
use Rattle.state_facts.specs.declared.command.Command.TheVariants.{Begin, Decide, Forgot, Join, Leave, Purge, Report, Told}
use Rattle.theory_history.specs.Changes.{fresh_record, one_change, two_changes}
use Rattle.theory_history.specs.Growth.{record_after}
use Rattle.theory_history.specs.Histories.{entries_of}
use Rattle.theory_history.specs.Next.{change_nested, change_on, change_record, changed, judge_on, next_fact_on, next_view, no_change, overdue_on, view_by}
use Rattle.theory_history.specs.Readings.{by_view}
use Rattle.theory_history.specs.Replies.{Accepted, AlreadyKnown, Denied, Judgement}
use Rattle.theory_history.specs.Views.{View, record_at}
use Rattle.theory_history.proofs.JoinedFronts.{below_left, below_right}
use Rattle.theory_history.proofs.OneMoreEntry.{below_raised}
use Rattle.wire_frames.specs.Frames.{Frame, frame_of}
use Rattle.wire_pulls.specs.PullBodies.{asked}
use Rattle.script_world.specs.Headline.{IsNode}
use Rattle.script_world.specs.Worlds.{State, front_of}
use Rattle.script_world.proofs.Moving.{IsKeptBy, run_keeps}
use Rattle.state_book.specs.declared.calls.Call.{Call}
use Rattle.state_book.specs.declared.calls.Call.TheVariants.{Command as Enter, Duties, Expire, Member, Page, Pull, Record as Show, Status, Survey, Sweep, Take}
use Rattle.state_book.specs.declared.calls.Entry.{Entry}
use Rattle.state_book.specs.declared.calls.Reply.{Reply}
use Rattle.state_book.specs.declared.calls.Reply.TheVariants.{Gave, Took}
use Rattle.state_book.specs.Next.{IsNext, IsTakeReply, pull_reply, shows_so, view_expired, view_swept}
use Rattle.state_book.specs.Trails.{LeadsTo, entry}
use Rattle.state_book.specs.Trees.{tree_shown_on}
use Rattle.theory_progress.specs.Rounds.{all_counted, may_enter}
use Rattle.theory_progress.proofs.AllCounted.{AllHear, brings, counts_all, took_all}
use Rattle.theory_progress.proofs.FramesEnterNothing.{run_same}
use Rattle.theory_trail.specs.NodeTrails.{IsServed}
use Rattle.theory_trail.specs.ServerRounds.{HasCall, IsServerRound}
use Rattle.theory_trail.specs.Servers.{AreOneRun, AreTrails, Turn, events_in, trail_at}
use Rattle.theory_trail.proofs.ManyServers.{answers_converge, one_run}

-- A call never lowers the front

itself : (v : List ℕ) → IsBelow v v
itself v = λ n. omega arith

further : (u v w : List ℕ) → IsBelow u v → IsBelow v w → IsBelow u w
further u v w one two = λ n. omega (arith, one n, two n)

stays : (a b : View) → b ≡ a → IsBelow a.front b.front
stays a b same = subst (λ (view : View). IsBelow a.front view.front) (sym same) (itself a.front)

record_above : (a : View) (me : ℕ) (c : Command) (l : Id) → IsBelow a.front (change_record a me c l).front
record_above a me c l = by (record_after (next_fact_on a me c)) (record_at a l)
  where
    by : (next : Record → Record) (o : Option Record) → IsBelow a.front (option_map_or (λ (r : Record). one_change a me (next r)) o (no_change a)).front
    by next None = itself a.front
    by next (Some r) = below_raised a.front me

nested_above : (a : View) (me : ℕ) (c : Command) (p : Id) (deadline : ℕ) → IsBelow a.front (change_nested a me c p deadline).front
nested_above a me c p deadline = by (record_after (next_fact_on a me c)) (fresh_record a.front me (Some (record { number = p.num; slot = (by_view a).numbers p + 1 })) deadline) (record_at a p)
  where
    by : (next : Record → Record) (child : Record) (o : Option Record) → IsBelow a.front (option_map_or (λ (r : Record). two_changes a me (next r) child) o (no_change a)).front
    by next child None = itself a.front
    by next child (Some r) = below_raised a.front me

change_above : (a : View) (me : ℕ) (c : Command) → IsBelow a.front (change_on a me c).front
change_above a me (Begin None deadline) = below_raised a.front me
change_above a me (Begin (Some p) deadline) = nested_above a me (Begin (Some p) deadline) p deadline
change_above a me (Join l links) = record_above a me (Join l links) l
change_above a me (Leave l m) = record_above a me (Leave l m) l
change_above a me (Decide l verdict) = record_above a me (Decide l verdict) l
change_above a me (Report l m act outcome) = record_above a me (Report l m act outcome) l
change_above a me (Forgot l m) = record_above a me (Forgot l m) l
change_above a me (Told l m) = record_above a me (Told l m) l
change_above a me (Purge root) = below_raised a.front me

entered_above : (a : View) (me : ℕ) (c : Command) → IsBelow a.front (next_view a me c).front
entered_above a me c = by (judge_on a me c)
  where
    by : (j : Judgement) → IsBelow a.front (view_by j a (changed a me c)).front
    by (Denied r) = itself a.front
    by AlreadyKnown = itself a.front
    by Accepted = change_above a me c

expired_above : (a : View) (me : ℕ) (late : Option Id) → IsBelow a.front (view_expired a me late).front
expired_above a me None = itself a.front
expired_above a me (Some l) = entered_above a me (Decide l Cancel)

swept_above : (a : View) (me : ℕ) (l : Id) (shows : Bool) → IsBelow a.front (view_swept a me l shows).front
swept_above a me l true = entered_above a me (Purge l)
swept_above a me l false = itself a.front

took_above : (a : View) (frame : Frame) (reply : Reply) (b : View) → IsTakeReply a frame reply b → IsBelow a.front b.front
took_above a frame reply b (inl (is, takes)) = subst (IsBelow a.front) (sym takes.taken.front) (below_left a.front frame.front)
took_above a frame reply b (inr (refusal, is, refuses, same)) = stays a b same

next_above : (me : ℕ) (a : View) (call : Call) (now : ℕ) (reply : Reply) (b : View) → IsNext me a call now reply b → IsBelow a.front b.front
next_above me a (Enter c) now reply b next = subst (λ (view : View). IsBelow a.front view.front) (sym next.1) (entered_above a me c)
next_above me a (Take frame) now reply b next = took_above a frame reply b next
next_above me a (Pull body) now reply b next = stays a b next.1
next_above me a (Status l) now reply b next = stays a b next.1
next_above me a (Member l m) now reply b next = stays a b next.1
next_above me a (Page after) now reply b next = stays a b next.1
next_above me a (Show l) now reply b next = stays a b next.1
next_above me a (Survey after) now reply b next = stays a b next.1
next_above me a Duties now reply b next = stays a b next.1
next_above me a Expire now reply b next = subst (λ (view : View). IsBelow a.front view.front) (sym next.1) (expired_above a me (overdue_on a me now))
next_above me a (Sweep l seen) now reply b next = subst (λ (view : View). IsBelow a.front view.front) (sym next.1) (swept_above a me l (shows_so seen (tree_shown_on a l)))

leads_above : (me : ℕ) (a : View) (trail : List Entry) (b : View) → LeadsTo me a trail b → IsBelow a.front b.front
leads_above me a [] b legal = stays a b legal
leads_above me a (e ∷ es) b (mid, next, legal) = further a.front mid.front b.front (next_above me a e.call e.moment e.reply mid next) (leads_above me mid es b legal)

-- Frames

-- a frame that is given counts what the node counts
given_front : (me now : ℕ) (a b : View) (body : List ℕ) (frame : Frame) → IsNext me a (Pull body) now (Gave frame) b → frame.front ≡ a.front
given_front me now a b body frame next = by (asked (length a.front) body) next.0
  where
    by : (o : Result (List ℕ) Refusal) → Gave frame ≡ pull_reply a o → frame.front ≡ a.front
    by (Ok front) e = let same : frame ≡ frame_of a (meet_fronts front a.front) = cc in ap (λ (f : Frame). f.front) same
    by (Err refusal) e = absurd cc

-- a node that takes a frame counts what the frame counts
taken_front : (a b : View) (frame : Frame) → IsTakeReply a frame Took b → IsBelow frame.front b.front
taken_front a b frame (inl (is, takes)) = subst (IsBelow frame.front) (sym takes.taken.front) (below_right a.front frame.front)
taken_front a b frame (inr (refusal, is, refuses, same)) = absurd cc

gave_above : (me : ℕ) (a : View) (trail : List Entry) (b : View) (body : List ℕ) (frame : Frame) (now : ℕ) → LeadsTo me a trail b → In (entry (Pull body) now (Gave frame)) trail → IsBelow a.front frame.front
gave_above me a [] b body frame now legal there = absurd there
gave_above me a (e ∷ es) b body frame now (mid, next, legal) (inl same) =
    let gives : IsNext me a (Pull body) now (Gave frame) mid = subst (λ (x : Entry). IsNext me a x.call x.moment x.reply mid) (sym same) next in
    subst (IsBelow a.front) (sym (given_front me now a mid body frame gives)) (itself a.front)
gave_above me a (e ∷ es) b body frame now (mid, next, legal) (inr later) =
    further a.front mid.front frame.front (next_above me a e.call e.moment e.reply mid next) (gave_above me mid es b body frame now legal later)

took_below : (me : ℕ) (a : View) (trail : List Entry) (b : View) (frame : Frame) (now : ℕ) → LeadsTo me a trail b → In (entry (Take frame) now Took) trail → IsBelow frame.front b.front
took_below me a [] b frame now legal there = absurd there
took_below me a (e ∷ es) b frame now (mid, next, legal) (inl same) =
    let takes : IsNext me a (Take frame) now Took mid = subst (λ (x : Entry). IsNext me a x.call x.moment x.reply mid) (sym same) next in
    further frame.front mid.front b.front (taken_front a mid frame takes) (leads_above me mid es b legal)
took_below me a (e ∷ es) b frame now (mid, next, legal) (inr later) = took_below me mid es b frame now legal later

-- A round

-- a frame that is taken is counted at the end
heard_below : (to : ℕ) (a : View) (turns : List Turn) (end : View) (frame : Frame) → LeadsTo to a (trail_at to turns) end → HasCall (trail_at to turns) (Take frame) Took ⊎ IsBelow frame.front end.front → IsBelow frame.front end.front
heard_below to a turns end frame legal (inl took) = took_below to a (trail_at to turns) end frame took.0 legal took.1
heard_below to a turns end frame legal (inr counts) = counts

module _ (s t : State) (views ends : ℕ → View) (turns : List Turn) (trails : AreTrails s views turns t ends) (round : IsServerRound s turns ends) where
  run : AreOneRun s turns t ends
  run = one_run s t views ends turns trails

  kept : IsKeptBy s t
  kept = run_keeps s t (events_in turns) run.replies trails.world run.runs

  served : (node : ℕ) → IsNode s node → IsServed node t (ends node)
  served node is = run.served node (record { some = is.some; there = omega (arith, is.there, kept.grown.nodes) })

  all_hear : AllHear s t
  all_hear from to one other apart =
      let tells = round from to one other apart in
      let gave = gave_above from (views from) (trail_at from turns) (ends from) tells.asked tells.frame tells.gave.0 (trails.legal from one) tells.gave.1 in
      let took = heard_below to (views to) turns (ends to) tells.frame (trails.legal to other) tells.heard in
      subst (λ (v : List ℕ). IsBelow v (front_of t to)) (trails.served from one).holds.counts
      (subst (IsBelow (views from).front) (served to other).holds.counts (further (views from).front tells.frame.front (ends to).front gave took))

  -- at the end each node counts what every node had entered before
  pub servers_bring : (node from : ℕ) → IsNode s node → IsNode s from → length (entries_of s.history from) ≤ count (ends node).front from
  servers_bring node from is giver =
      subst (λ (v : List ℕ). length (entries_of s.history from) ≤ count v from) (sym (served node is).holds.counts) (brings s t trails.world kept all_hear node from is giver)

  module _ (still : t.history ≡ s.history) where
    pub servers_count : (node : ℕ) → IsNode s node → (ends node).front ≡ all_counted t.history
    servers_count node is = (served node is).holds.counts ∙ counts_all s t node trails.world kept still all_hear is

    pub servers_alike : (one other : ℕ) → IsNode s one → IsNode s other → ends one ≡ ends other
    servers_alike one other is too =
        (answers_converge s t views ends turns trails).equal one other (took_all s t one other trails.world kept still all_hear is too)

-- if there is no command and no tick, nothing is entered
pub servers_quiet : (s t : State) (views ends : ℕ → View) (turns : List Turn) → AreTrails s views turns t ends → list_any may_enter (events_in turns) ≡ false → t.history ≡ s.history
servers_quiet s t views ends turns trails quiet =
    let run = one_run s t views ends turns trails in
    run_same s t (events_in turns) run.replies run.runs quiet
