-- A home purges no tree in which a participant is still to compensate.
use Rattle.std.proofs.Common.{◌≡◌, ◌≤◌, ◌<◌, ◌-◌, ◌&&◌, ℕ, List, [], ◌∷◌, refl, sym, ap, subst, ◌∙◌, inl, inr, Bool, true, false, arith, Option, Some, None, get_or-set_other, is_some, length}
use mathlib.Core.Bool.{not}
use Rattle.std.specs.List.{list_any}
use Rattle.std.specs.Option.{option_map_or}
use Rattle.state_ids.specs.Fronts.{count}
use Rattle.state_ids.specs.Ids.{Id}
use Rattle.state_ids.specs.declared.outcome.Act.{Act}
use Rattle.state_ids.specs.declared.outcome.Act.TheVariants.{Complete as CompleteAct, Compensate as CompensateAct}
use Rattle.state_ids.specs.declared.outcome.Verdict.{Verdict}
use Rattle.state_ids.specs.declared.outcome.Verdict.TheVariants.{Close, Cancel}
use Rattle.state_facts.specs.declared.fact.Body.TheVariants.{Purge}
use Rattle.state_facts.specs.declared.fact.Fact.{Fact}
use Rattle.state_facts.specs.declared.command.Command.{Command}
use Rattle.state_facts.specs.declared.command.Command.TheVariants.{Purge as PurgeAsked}
use Rattle.state_facts.specs.Duties.{has_to_compensate, holds_back, is_compensation_due, is_pending, is_uncompensated, saga_path, topmost_cancelled}
use Rattle.state_facts.specs.Links.{Links}
use Rattle.state_facts.specs.Lists.{In, IsInside}
use Rattle.state_facts.specs.Sets.{chain, has_left, heard, is_ended, is_held, is_open, is_participant, is_under, joined_status, links_of, some_shows, status_by, want}
use Rattle.state_facts.proofs.Heard.{heard_inside}
use Rattle.state_forest.proofs.Bools.{and_left, and_right, not_false}
use Rattle.state_forest.proofs.NumberedMembers.{join_found}
use Rattle.state_forest.proofs.UnderAnLra.{join_shows}
use Rattle.theory_history.specs.Histories.{Entry, History, Made, entries_of, facts, made}
use Rattle.theory_history.specs.Replies.{Accepted, IsLawfulBody, body_for, judge}
use Rattle.theory_history.proofs.AcceptedCommands.{IsGiven, lawful_gives}
use Rattle.theory_history.proofs.Basics.{at_most, both_true, false_from, held_begun, same_or_not}
use Rattle.theory_history.proofs.ClosedSets.{facts_inside, in_facts}
use Rattle.theory_history.proofs.Decisions.{counted_entry, wanted_begun}
use Rattle.theory_history.proofs.OneMoreEntry.{accepted_lawful}
use Rattle.theory_history.proofs.Ranks.{force}
use Rattle.theory_history.proofs.RanksRise.{IsGrown, kept_chain, wants_more}
use Rattle.theory_history.proofs.SameChains.{chain_home}
use Rattle.wire_callbacks.specs.declared.answer.Kind.{Kind}
use Rattle.wire_callbacks.specs.declared.answer.Kind.TheVariants.{After, Compensate, Complete, Forget, Status}
use Rattle.wire_callbacks.specs.declared.duty.Duty.{Duty}
use Rattle.wire_callbacks.specs.CallDuties.{IsDuty, is_owed}
use Rattle.script_world.specs.declared.event.Event.{Event}
use Rattle.script_world.specs.declared.event.EventReply.{EventReply}
use Rattle.script_world.specs.Headline.{IsNode}
use Rattle.script_world.specs.Worlds.{IsWorld, Runs, State, front_of, set_of, with_command}
use Rattle.script_world.proofs.Moving.{Entered, IsKeptBy, IsMove, Joined, Posted, Still, run_keeps, step_keeps, step_moves}
use Rattle.theory_progress.specs.Calls.{asks_to_act}
use Rattle.theory_trail.specs.LastingCalls.{HasToCompensate, IsToCompensate}
use Rattle.theory_trail.proofs.AtOtherNodes.{node_still}
use Rattle.theory_trail.proofs.EndedCalls.{IsPurgedBy, purge_since}
use Rattle.theory_trail.proofs.KeptCalls.{still_open}
use Rattle.theory_progress.proofs.LaterSets.{clash, in_under, member_kept, pending_before, settled_later}
use Rattle.theory_trail.proofs.LostCommands.{command_more, new_fact}
use Rattle.theory_trail.proofs.StillDue.{cancels}

-- A participant that has to compensate, unless it has ended that

pub record IsCancelled (S : List Fact) (l : Id) (m : ℕ) : Type 0 where
  pub wants : want S l ≡ Some Cancel
  pub known : is_participant S l m ≡ true
  pub links : Links
  pub joined : links_of S l m ≡ Some links
  pub given : is_some links.compensate ≡ true

cancelled_still : (h : History) (v w : List ℕ) → IsGrown h v w → (l : Id) (m : ℕ) → IsCancelled (facts h v) l m → IsCancelled (facts h w) l m
cancelled_still h v w g l m was =
    let of = member_kept h v w g l m Cancel was.wants was.known in
    let more = subst (λ (o : Option Verdict). force o ≤ force (want (facts h w) l)) was.wants (wants_more h v w g l (wanted_begun h g.lawful v g.before l Cancel was.wants)) in
    let same : of.links ≡ was.links = (let both : Some of.links ≡ Some was.links = sym of.before ∙ was.joined in cc) in
    record { wants = no_more (want (facts h w) l) more; known = of.known; links = of.links; joined = of.after; given = ap (λ (x : Links). is_some x.compensate) same ∙ was.given }
  where
    no_more : (o : Option Verdict) → force (Some Cancel) ≤ force o → o ≡ Some Cancel
    no_more None le = absurd (omega (arith, le))
    no_more (Some Close) le = absurd (omega (arith, le))
    no_more (Some Cancel) le = refl

-- if an LRA above has ended, the participant has ended its compensation
pub ended_above : (S : List Fact) (root l : Id) (m : ℕ) → is_under S root l ≡ true → is_ended S root ≡ true → IsCancelled S l m → is_pending (heard S l m CompensateAct) ≡ false
ended_above S root l m under ended was = false_from (is_pending (heard S l m CompensateAct)) (λ pending.
    let join = join_found S l m was.links was.joined in
    let stayed = not_false (has_left S l m) (and_right (is_some (links_of S l m)) _ was.known) in
    let has : has_to_compensate was.links (heard S l m CompensateAct) ≡ true = both_true (is_some was.links.compensate) _ was.given pending in
    let passes : is_open (joined_status S l m was.links) ≡ true =
    ap (λ (x : Option Verdict). is_open (status_by x was.links (heard S l m CompleteAct) (heard S l m CompensateAct))) was.wants ∙ still_open was.links (heard S l m CompleteAct) (heard S l m CompensateAct) has in
    clash (some_shows is_open S root) (join_shows is_open S root l m was.links join.0 join.1 join.2 (record { under = under; stayed = stayed; passes = passes }))
    (not_false (some_shows is_open S root) (and_right (is_some (want S root)) _ ended)))

-- a compensation that is no longer pending is not pending later
ended_later : (S T : List Fact) (l : Id) (m : ℕ) → IsInside S T → is_pending (heard S l m CompensateAct) ≡ false → is_pending (heard T l m CompensateAct) ≡ false
ended_later S T l m inside ends = false_from (is_pending (heard T l m CompensateAct)) (λ pending.
    clash (is_pending (heard S l m CompensateAct)) (pending_before (heard S l m CompensateAct) (heard T l m CompensateAct) (heard_inside S T inside l m CompensateAct) pending) ends)

-- the node holds the LRA, and accepts the purge of its root
pub record IsPurging (s : State) (node : ℕ) (l : Id) : Type 0 where
  pub root : Id
  pub under : is_under (set_of s node) root l ≡ true
  pub held : is_held (set_of s node) l ≡ true
  pub given : IsGiven (set_of s node) (front_of s node) node (PurgeAsked root)

-- One step

module _ (s t : State) (world : IsWorld s) (kept : IsKeptBy s t) (node : ℕ) (is : IsNode s node) where
  pub grown : IsGrown t.history (front_of s node) (front_of t node)
  grown =
      record {
        lawful = kept.world.lawful;
        before = kept.grown.closed (front_of s node) (world.current node is.some is.there).closed;
        after = (kept.world.current node is.some (omega (arith, is.there, kept.grown.nodes))).closed;
        below = kept.risen node is;
      }

  pub same_set : facts t.history (front_of s node) ≡ set_of s node
  same_set = kept.grown.same (front_of s node) (world.current node is.some is.there).closed

  pub set_inside : IsInside (set_of s node) (set_of t node)
  set_inside = subst (λ (S : List Fact). IsInside S (set_of t node)) same_set (facts_inside t.history (front_of s node) (front_of t node) grown.below)

  pub cancelled_on : (l : Id) (m : ℕ) → IsCancelled (set_of s node) l m → IsCancelled (set_of t node) l m
  cancelled_on l m was = cancelled_still t.history (front_of s node) (front_of t node) grown l m (subst (λ (S : List Fact). IsCancelled S l m) (sym same_set) was)

  -- a purge is entered by the root's home, so it is what the node entered in this step
  purge_entered : (l : Id) → l.home ≡ node → IsPurgedBy (facts t.history (front_of s node)) (set_of t node) l → length (entries_of s.history node) < length (entries_of t.history node)
  purge_entered l home purged = elim (at_most e.0.fact.num (count (front_of s node) e.0.fact.origin)) [
    | inl counted ↦ absurd (purged.new (subst (λ (f : Fact). In f (facts t.history (front_of s node))) (sym e.2) (in_facts t.history (front_of s node) e.0 e.1 counted)))
    | inr more ↦ omega (
      arith,
      more,
      e.3,
      ap (count (front_of s node)) origin,
      ap (count (front_of t node)) origin,
      (world.current node is.some is.there).own,
      (kept.world.current node is.some (omega (arith, is.there, kept.grown.nodes))).own,
    )
  ]
    where
      e : (e : Made) × In e (made t.history) × (purged.fact ≡ e.fact) × (e.fact.num ≤ count (front_of t node) e.fact.origin)
      e = counted_entry t.history (front_of t node) purged.fact purged.there

      body : e.0.fact.body ≡ Purge purged.root
      body = ap (λ (f : Fact). f.body) (sym e.2) ∙ purged.body

      lawful : IsLawfulBody (facts t.history e.0.front) e.0.front e.0.fact.origin (Purge purged.root)
      lawful = subst (IsLawfulBody (facts t.history e.0.front) e.0.front e.0.fact.origin) body (kept.world.lawful.each e.0 e.1).lawful

      origin : e.0.fact.origin ≡ node
      origin =
          sym (lawful_gives (facts t.history e.0.front) e.0.front e.0.fact.origin (PurgeAsked purged.root) lawful.accepted).1
          ∙ chain_home (set_of t node) (settled_later t.history (front_of s node) (front_of t node) grown).whole.nested l purged.root purged.chained ∙ home

  -- the purge that the node entered was accepted
  purge_given : (c : Command) (l : Id) → judge (set_of s node) (front_of s node) node c ≡ Accepted → t ≡ with_command s node c → (purged : IsPurgedBy (facts t.history (front_of s node)) (set_of t node) l)
      → IsGiven (set_of s node) (front_of s node) node (PurgeAsked purged.root)
  purge_given c l taken after purged =
      let there : In purged.fact (set_of (with_command s node c) node) = subst (λ (u : State). In purged.fact (set_of u node)) after purged.there in
      let new : In purged.fact (set_of s node) → ⊥ = subst (λ (S : List Fact). In purged.fact S → ⊥) same_set purged.new in
      let one = new_fact _ (set_of s node) (set_of (with_command s node c) node) (command_more s node c world is) purged.fact there new in
      let body : body_for (set_of s node) c ≡ Purge purged.root = ap (λ (f : Fact). f.body) (sym one) ∙ purged.body in
      let lawful : IsLawfulBody (set_of s node) (front_of s node) node (Purge purged.root) =
      subst (IsLawfulBody (set_of s node) (front_of s node) node) body (accepted_lawful (set_of s node) (front_of s node) node c taken) in
      lawful_gives (set_of s node) (front_of s node) node (PurgeAsked purged.root) lawful.accepted

  -- so an LRA that is gone after this step was in a tree whose purge the node accepted
  pub step_purges : (l : Id) → l.home ≡ node → IsMove s t → is_held (set_of s node) l ≡ true → is_held (set_of t node) l ≡ false → IsPurging s node l
  step_purges l home move held gone = by move
    where
      held_there : is_held (facts t.history (front_of s node)) l ≡ true
      held_there = ap (λ (S : List Fact). is_held S l) same_set ∙ held

      purged : IsPurgedBy (facts t.history (front_of s node)) (set_of t node) l
      purged = purge_since t.history (front_of s node) (front_of t node) grown l held_there gone

      more : length (entries_of s.history node) < length (entries_of t.history node)
      more = purge_entered l home purged

      under : is_under (set_of s node) purged.root l ≡ true
      under =
          in_under (set_of s node) purged.root l
          (subst (λ (S : List Fact). In purged.root (chain S l)) same_set
          (subst (λ (c : List Id). In purged.root c) (sym (kept_chain t.history (front_of s node) (front_of t node) grown l (held_begun (facts t.history (front_of s node)) l held_there))) purged.chained))

      entered : (c : Command) → judge (set_of s node) (front_of s node) node c ≡ Accepted → t ≡ with_command s node c → IsPurging s node l
      entered c taken after = record { root = purged.root; under = under; held = held; given = purge_given c l taken after purged }

      by : IsMove s t → IsPurging s node l
      by (Still e) = let same : length (entries_of t.history node) ≡ length (entries_of s.history node) = ap (λ (u : State). length (entries_of u.history node)) e in absurd (omega (arith, same, more))
      by (Joined other frame at sent e) =
          let same : length (entries_of t.history node) ≡ length (entries_of s.history node) = ap (λ (u : State). length (entries_of u.history node)) e in absurd (omega (arith, same, more))
      by (Posted version other base at nodes below e) =
          let same : length (entries_of t.history node) ≡ length (entries_of s.history node) = ap (λ (u : State). length (entries_of u.history node)) e in absurd (omega (arith, same, more))
      by (Entered other c at taken e) = elim (same_or_not other node) [
        | inl same ↦ entered c (subst (λ (n : ℕ). judge (set_of s n) (front_of s n) n c ≡ Accepted) same taken) (subst (λ (n : ℕ). t ≡ with_command s n c) same e)
        | inr apart ↦
            let still : entries_of (with_command s other c).history node ≡ entries_of s.history node =
            get_or-set_other s.history (other - 1) (node - 1) _ [] (λ k. apart (omega (arith, k, at.some, is.some))) in
            let same : length (entries_of t.history node) ≡ length (entries_of s.history node) = ap (λ (u : State). length (entries_of u.history node)) e ∙ ap (λ (es : List Entry). length es) still in
            absurd (omega (arith, same, more))
      ]

  pub step_gone : (l : Id) (m : ℕ) → l.home ≡ node → IsMove s t → IsCancelled (set_of s node) l m → is_held (set_of s node) l ≡ true → is_held (set_of t node) l ≡ false → is_pending (heard (set_of t node) l m CompensateAct) ≡ false
  step_gone l m home move was held gone =
      let purging = step_purges l home move held gone in
      ended_later (set_of s node) (set_of t node) l m set_inside (ended_above (set_of s node) purging.root l m purging.under purging.given.3 was)

-- Any run

pub run_gone : (s t : State) (events : List Event) (replies : List EventReply) (node : ℕ) (l : Id) (m : ℕ) → IsWorld s → Runs s events replies t → IsNode s node → l.home ≡ node → IsCancelled (set_of s node) l m
    → is_held (set_of s node) l ≡ true → is_held (set_of t node) l ≡ false → is_pending (heard (set_of t node) l m CompensateAct) ≡ false
run_gone s t [] [] node l m world runs is home was held gone = clash (is_held (set_of s node) l) held (subst (λ (u : State). is_held (set_of u node) l ≡ false) runs gone)
run_gone s t [] (reply ∷ replies) node l m world runs is home was held gone = absurd runs
run_gone s t (event ∷ events) [] node l m world runs is home was held gone = absurd runs
run_gone s t (event ∷ events) (reply ∷ replies) node l m world (mid, steps, rest) is home was held gone =
    let kept = step_keeps s mid event reply world steps in
    let there = node_still s mid node is kept in
    let on = cancelled_on s mid world kept node is l m was in
    by (is_held (set_of mid node) l) refl (λ still. run_gone mid t events replies node l m kept.world rest there home on still gone)
    (λ lost. ended_later (set_of mid node) (set_of t node) l m (set_inside mid t kept.world (run_keeps mid t events replies kept.world rest) node there)
    (step_gone s mid world kept node is l m home (step_moves s mid event reply steps) was held lost))
  where
    by : (b : Bool) → is_held (set_of mid node) l ≡ b → (is_held (set_of mid node) l ≡ true → is_pending (heard (set_of t node) l m CompensateAct) ≡ false)
        → (is_held (set_of mid node) l ≡ false → is_pending (heard (set_of t node) l m CompensateAct) ≡ false) → is_pending (heard (set_of t node) l m CompensateAct) ≡ false
    by true e held_on lost = held_on e
    by false e held_on lost = lost e

-- A call that is due

-- the call asks a participant that has to compensate
pub due_cancelled : (home : ℕ) (S : List Fact) (call : Duty) → IsDuty home S call → IsToCompensate call → IsCancelled S call.id call.member
due_cancelled home S call due is = top (topmost_cancelled S call.id) refl (by call.kind is.asks (sym (ap (λ (a : Act). is_owed S call.kind a call.id call.member) is.act) ∙ due.owed))
  where
    by : (kind : Kind) → asks_to_act kind ≡ true → is_owed S kind CompensateAct call.id call.member ≡ true → is_compensation_due S call.id call.member ≡ true
    by Complete asks e = absurd cc
    by Compensate asks e = and_left (is_compensation_due S call.id call.member) _ e
    by Status asks e = and_left (is_compensation_due S call.id call.member) _ e
    by Forget asks e = absurd cc
    by After asks e = absurd cc

    joined : want S call.id ≡ Some Cancel → is_participant S call.id call.member ≡ true → (k : Option Links) → links_of S call.id call.member ≡ k
        → option_map_or (λ links. has_to_compensate links (heard S call.id call.member CompensateAct)) k false ≡ true → IsCancelled S call.id call.member
    joined wants known None at e = absurd cc
    joined wants known (Some links) at e = record { wants = wants; known = known; links = links; joined = at; given = and_left (is_some links.compensate) _ e }

    top : (o : Option Id) → topmost_cancelled S call.id ≡ o → is_compensation_due S call.id call.member ≡ true → IsCancelled S call.id call.member
    top None at e = absurd (let never : false ≡ true = sym (ap (λ (o : Option Id). option_map_or (λ a. is_participant S call.id call.member && (is_uncompensated S call.id call.member && not (list_any (λ f. holds_back S a (saga_path S call.id call.member) f.body) S))) o false) at) ∙ e in cc)
    top (Some a) at e =
        let test : (is_participant S call.id call.member && (is_uncompensated S call.id call.member && not (list_any (λ f. holds_back S a (saga_path S call.id call.member) f.body) S))) ≡ true =
        sym (ap (λ (o : Option Id). option_map_or (λ x. is_participant S call.id call.member && (is_uncompensated S call.id call.member && not (list_any (λ f. holds_back S x (saga_path S call.id call.member) f.body) S))) o false) at) ∙ e in
        joined (cancels S call.id a at) (and_left (is_participant S call.id call.member) _ test) (links_of S call.id call.member) refl
        (and_left (is_uncompensated S call.id call.member) _ (and_right (is_participant S call.id call.member) _ test))

-- A participant that has to compensate

pub has_cancelled : (S : List Fact) (l : Id) (m : ℕ) → HasToCompensate S l m → IsCancelled S l m
has_cancelled S l m has = by (links_of S l m) refl has.pending
  where
    by : (k : Option Links) → links_of S l m ≡ k → option_map_or (λ links. has_to_compensate links (heard S l m CompensateAct)) k false ≡ true → IsCancelled S l m
    by None at e = absurd cc
    by (Some links) at e = record { wants = has.wants; known = has.known; links = links; joined = at; given = and_left (is_some links.compensate) _ e }

pub cancelled_has : (S : List Fact) (l : Id) (m : ℕ) → IsCancelled S l m → is_held S l ≡ true → is_pending (heard S l m CompensateAct) ≡ true → HasToCompensate S l m
cancelled_has S l m was held pending =
    record {
      held = held;
      wants = was.wants;
      known = was.known;
      pending = ap (λ (k : Option Links). option_map_or (λ (x : Links). has_to_compensate x (heard S l m CompensateAct)) k false) was.joined ∙ both_true (is_some was.links.compensate) _ was.given pending;
    }
