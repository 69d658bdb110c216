-- the edges of the diagram that one event crosses
use Rattle.std.proofs.Common.{◌≡◌, ◌⊎◌, inl, inr, ◌≤◌, ◌+◌, ◌-◌, ℕ, List, [], ◌∷◌, refl, sym, ap, subst, ◌∙◌, Bool, true, false, arith, Option, Some, None, Result, Ok, get_or-set_other}
use Rattle.std.specs.List.{list_any}
use Rattle.state_ids.specs.Fronts.{count}
use Rattle.state_ids.specs.Ids.{Id, same_id}
use Rattle.state_ids.specs.States.{rank, same_member_status, shown}
use Rattle.state_ids.specs.declared.status.LraStatus.{LraStatus}
use Rattle.state_ids.specs.declared.status.LraStatus.TheVariants.{Active, Cancelled, Closed}
use Rattle.state_ids.specs.declared.status.MemberStatus.{MemberStatus}
use Rattle.state_ids.specs.declared.status.MemberStatus.TheVariants.{FailedToComplete, FailedToCompensate}
use Rattle.state_ids.specs.declared.outcome.Act.{Act as TheAct}
use Rattle.state_ids.specs.declared.outcome.Outcome.{Outcome}
use Rattle.state_ids.specs.declared.outcome.Verdict.{Verdict}
use Rattle.state_ids.specs.declared.outcome.Verdict.TheVariants.{Cancel, Close}
use Rattle.state_facts.specs.declared.command.Command.{Command}
use Rattle.state_facts.specs.declared.command.Command.TheVariants.{Begin, Decide, Forgot, Join, Leave, Purge, Report, Told}
use Rattle.state_facts.specs.declared.fact.Body.TheVariants.{Leave as LeaveMade}
use Rattle.state_facts.specs.declared.fact.Fact.{Fact}
use Rattle.state_facts.specs.declared.refusal.Refusal.{Refusal}
use Rattle.state_facts.specs.Lists.{In}
use Rattle.state_facts.specs.Sets.{is_begun, is_ended, is_leave, is_under, shows, shows_now, some_shows, want}
use Rattle.state_forest.proofs.Bools.{and_left}
use Rattle.state_forest.proofs.NumberedMembers.{same_is}
use Rattle.theory_history.specs.Growth.{IsMore, IsSettled}
use Rattle.theory_history.specs.Histories.{Entry, facts, with_entry}
use Rattle.theory_history.specs.NodeViews.{entry_for}
use Rattle.theory_history.specs.Changes.{raised}
use Rattle.theory_history.specs.Replies.{Accepted, AlreadyKnown, Denied, Judgement, body_for, judge, shown_of}
use Rattle.theory_history.proofs.AcceptedCommands.{IsActiveHere, lawful_gives}
use Rattle.theory_history.proofs.Basics.{false_from, held_begun, same_or_not}
use Rattle.theory_history.proofs.Decisions.{decided_by, undecided}
use Rattle.theory_history.proofs.LeftAsItWas.{chain_kept}
use Rattle.theory_history.proofs.OneMoreEntry.{unmoved}
use Rattle.theory_history.proofs.RanksRise.{kept_want}
use Rattle.theory_history.proofs.SameChains.{chain_goes}
use Rattle.wire_frames.specs.declared.version.Version.{Version}
use Rattle.script_world.specs.declared.event.Event.{Event}
use Rattle.script_world.specs.declared.event.Event.TheVariants.{Act, Deliver, Restart, Send, Tick}
use Rattle.script_world.specs.declared.event.EventReply.{EventReply}
use Rattle.script_world.specs.declared.event.EventReply.TheVariants.{Answered}
use Rattle.script_world.specs.Headline.{IsNode, shown_at}
use Rattle.script_world.specs.Worlds.{Expires, IfNode, IsWorld, Runs, Sends, State, Steps, after_command, front_of, if_taken, is_node, reply_at, set_of, with_command}
use Rattle.script_world.proofs.Moving.{IsKeptBy, node_is, run_keeps, step_keeps}
use Rattle.theory_progress.specs.Diagram.{ByCommand, ByDecision, ByEvent, IsCrossed, decided_to, is_edge, is_heard_edge, node_of}
use Rattle.theory_progress.proofs.AskedInTheWorld.{as_before, grown_at, settled_at}
use Rattle.theory_progress.proofs.AtOtherNodes.{step_leaves}
use Rattle.theory_progress.proofs.DiagramInTheWorld.{IsShown, path_any, rises, shown_by}
use Rattle.theory_progress.proofs.EachEdge.{happens, lra}
use Rattle.theory_progress.proofs.EndsInTheWorld.{earlier_set}
use Rattle.theory_progress.proofs.Entering.{HasEntered, entering}
use Rattle.theory_progress.proofs.OneMoreFact.{IsIdle, same_shown, same_want, want_decided}
use Rattle.theory_progress.proofs.UnderWay.{under_in}

-- Statuses, by what is wanted

-- if the same is wanted, one edge is crossed at most
by_want : (w : Option Verdict) (e i u e2 i2 u2 : Bool) → rank (shown w e i u) ≤ rank (shown w e2 i2 u2) → (shown w e i u ≡ shown w e2 i2 u2) ⊎ (is_heard_edge (shown w e i u) (shown w e2 i2 u2) ≡ true)
by_want None e i u e2 i2 u2 le = inl refl
by_want (Some Close) false i u false i2 u2 le = inl refl
by_want (Some Close) false i u true false u2 le = inr refl
by_want (Some Close) false i u true true u2 le = inr refl
by_want (Some Close) true false u false i2 u2 le = absurd (omega (arith, le))
by_want (Some Close) true true u false i2 u2 le = absurd (omega (arith, le))
by_want (Some Close) true false u true false u2 le = inl refl
by_want (Some Close) true false u true true u2 le = inr refl
by_want (Some Close) true true u true false u2 le = absurd (omega (arith, le))
by_want (Some Close) true true u true true u2 le = inl refl
by_want (Some Cancel) false i u false i2 u2 le = inl refl
by_want (Some Cancel) false i u true i2 false le = inr refl
by_want (Some Cancel) false i u true i2 true le = inr refl
by_want (Some Cancel) true i false false i2 u2 le = absurd (omega (arith, le))
by_want (Some Cancel) true i true false i2 u2 le = absurd (omega (arith, le))
by_want (Some Cancel) true i false true i2 false le = inl refl
by_want (Some Cancel) true i false true i2 true le = inr refl
by_want (Some Cancel) true i true true i2 false le = absurd (omega (arith, le))
by_want (Some Cancel) true i true true i2 true le = inl refl

-- where a decision leads
towards : (x : Verdict) (e i u : Bool) → (decided_to x ≡ shown (Some x) e i u) ⊎ (is_heard_edge (decided_to x) (shown (Some x) e i u) ≡ true)
towards Close false i u = inl refl
towards Close true false u = inr refl
towards Close true true u = inr refl
towards Cancel false i u = inl refl
towards Cancel true i false = inr refl
towards Cancel true i true = inr refl

-- a decision crosses an edge of its own, if the same was not wanted
turned : (w : Option Verdict) (x : Verdict) (e i u e2 i2 u2 : Bool) → rank (shown w e i u) ≤ rank (shown (Some x) e2 i2 u2) → (w ≡ Some x) ⊎ (is_edge (shown w e i u) (decided_to x) ≡ true)
turned None Close e i u e2 i2 u2 le = inr refl
turned None Cancel e i u e2 i2 u2 le = inr refl
turned (Some Close) Close e i u e2 i2 u2 le = inl refl
turned (Some Cancel) Cancel e i u e2 i2 u2 le = inl refl
turned (Some Close) Cancel false i u e2 i2 u2 le = inr refl
turned (Some Close) Cancel true false u e2 i2 u2 le = inr refl
turned (Some Close) Cancel true true u e2 i2 u2 le = inr refl
turned (Some Cancel) Close e i u e2 i2 u2 le = absurd (omega (arith, le, low e2 i2 u2, high e i u))
  where
    low : (e i u : Bool) → rank (shown (Some Close) e i u) ≤ 3
    low false i u = omega arith
    low true false u = omega arith
    low true true u = omega arith

    high : (e i u : Bool) → 4 ≤ rank (shown (Some Cancel) e i u)
    high false i u = omega arith
    high true i false = omega arith
    high true i true = omega arith

-- One more fact

abbrev incomplete : List Fact → Id → Bool
incomplete S l = some_shows (same_member_status FailedToComplete) S l

abbrev uncompensated : List Fact → Id → Bool
uncompensated S l = some_shows (same_member_status FailedToCompensate) S l

wants_alike : (w x : Option Verdict) → x ≡ w → (e i u e2 i2 u2 : Bool) → rank (shown w e i u) ≤ rank (shown x e2 i2 u2) → (shown w e i u ≡ shown x e2 i2 u2) ⊎ (is_heard_edge (shown w e i u) (shown x e2 i2 u2) ≡ true)
wants_alike w x same e i u e2 i2 u2 =
    subst (λ (y : Option Verdict). rank (shown w e i u) ≤ rank (shown y e2 i2 u2) → (shown w e i u ≡ shown y e2 i2 u2) ⊎ (is_heard_edge (shown w e i u) (shown y e2 i2 u2) ≡ true)) (sym same)
    (by_want w e i u e2 i2 u2)

nothing_wanted : (w x : Option Verdict) → w ≡ None → x ≡ w → (e i u e2 i2 u2 : Bool) → shown w e i u ≡ shown x e2 i2 u2
nothing_wanted w x none same e i u e2 i2 u2 =
    ap (λ (y : Option Verdict). shown y e i u) none ∙ sym (ap (λ (y : Option Verdict). shown y e2 i2 u2) (same ∙ none))

decided_edges : (w z : Option Verdict) (x : Verdict) → z ≡ Some x → (e i u e2 i2 u2 : Bool) → rank (shown w e i u) ≤ rank (shown z e2 i2 u2) → (w ≡ Some x) ⊎ ByDecision x (shown w e i u) (shown z e2 i2 u2)
decided_edges w z x is e i u e2 i2 u2 =
    subst (λ (y : Option Verdict). rank (shown w e i u) ≤ rank (shown y e2 i2 u2) → (w ≡ Some x) ⊎ ByDecision x (shown w e i u) (shown y e2 i2 u2)) (sym is)
    (λ le. elim (turned w x e i u e2 i2 u2 le) [
      | inl same ↦ inl same
      | inr edge ↦ inr (inr (edge, towards x e2 i2 u2))
    ])

-- an LRA under which participants wait is in no chain of one that wants nothing
apart : (S : List Fact) (l d : Id) (x : Verdict) → IsSettled S → want S l ≡ Some x → want S d ≡ None → is_under S l d ≡ false
apart S l d x settled wanted none = false_from (is_under S l d) (λ under.
    let by = decided_by S l x wanted in
    undecided S d none x by.0 (chain_goes S settled.whole.nested d l by.0 (under_in S l d under) by.1) by.2)

module _ (node num : ℕ) (S T : List Fact) (c : Command) (more : IsMore (record { origin = node; num = num; body = body_for S c }) S T) (settled : IsSettled S) (l : Id) (begun : is_begun S l ≡ true) where
  abbrev f : Fact
  f = record { origin = node; num = num; body = body_for S c }

  -- if the LRA wants nothing, it still shows Active, and otherwise the fact is idle
  stays : want T l ≡ want S l → ((x : Verdict) → want S l ≡ Some x → IsIdle f S T l) → shows_now S l ≡ shows_now T l
  stays same idle = by (want S l) refl
    where
      by : (w : Option Verdict) → want S l ≡ w → shows_now S l ≡ shows_now T l
      by None at = nothing_wanted (want S l) (want T l) at same (is_ended S l) (incomplete S l) (uncompensated S l) (is_ended T l) (incomplete T l) (uncompensated T l)
      by (Some x) at = sym (same_shown f S T more settled l begun (idle x at))

-- a command that neither reports nor decides
module _ (node num : ℕ) (v : List ℕ) (S T : List Fact) (settled : IsSettled S) (l : Id) (begun : is_begun S l ≡ true) where
  pub quiet_command : (c : Command) → IsMore (record { origin = node; num = num; body = body_for S c }) S T → judge S v node c ≡ Accepted → ((d : Id) (m : ℕ) (act : TheAct) (o : Outcome) → c ≡ Report d m act o → ⊥) → ((d : Id) (x : Verdict) → c ≡ Decide d x → ⊥)
      → shows_now S l ≡ shows_now T l
  quiet_command (Report d m act o) more taken none never = absurd (none d m act o refl)
  quiet_command (Decide d x) more taken none never = absurd (never d x refl)
  quiet_command (Begin parent deadline) more taken none never =
      stays node num S T (Begin parent deadline) more settled l begun (same_want _ S T more settled l begun (λ x a. refl))
      (λ x at. record { wants = λ d known under. same_want _ S T more settled d known (λ y a. refl); hears = λ d m act. refl; joins = λ test. refl; leaves = λ d m under. refl })
  quiet_command (Forgot d m) more taken none never =
      stays node num S T (Forgot d m) more settled l begun (same_want _ S T more settled l begun (λ x a. refl))
      (λ x at. record { wants = λ d known under. same_want _ S T more settled d known (λ y a. refl); hears = λ d m act. refl; joins = λ test. refl; leaves = λ d m under. refl })
  quiet_command (Told d m) more taken none never =
      stays node num S T (Told d m) more settled l begun (same_want _ S T more settled l begun (λ x a. refl))
      (λ x at. record { wants = λ d known under. same_want _ S T more settled d known (λ y a. refl); hears = λ d m act. refl; joins = λ test. refl; leaves = λ d m under. refl })
  quiet_command (Purge d) more taken none never =
      stays node num S T (Purge d) more settled l begun (same_want _ S T more settled l begun (λ x a. refl))
      (λ x at. record { wants = λ d known under. same_want _ S T more settled d known (λ y a. refl); hears = λ d m act. refl; joins = λ test. refl; leaves = λ d m under. refl })
  quiet_command (Join d links) more taken none never =
      stays node num S T (Join d links) more settled l begun (same_want _ S T more settled l begun (λ x a. refl))
      (λ x at. record { wants = λ e known under. same_want _ S T more settled e known (λ y a. refl); hears = λ e m act. refl; joins = joins x at; leaves = λ e m under. refl })
    where
      active : IsActiveHere S v node d
      active = (lawful_gives S v node (Join d links) taken).0

      joins : (x : Verdict) → want S l ≡ Some x → (test : MemberStatus → Bool) → shows test T l (body_for S (Join d links)) ≡ false
      joins x at test =
          let under : is_under T l d ≡ false = ap (list_any (same_id l)) (chain_kept _ S T more settled.whole d (held_begun S d active.held)) ∙ apart S l d x settled at active.active in
          rw under refl
  quiet_command (Leave d m) more taken none never =
      stays node num S T (Leave d m) more settled l begun (same_want _ S T more settled l begun (λ x a. refl))
      (λ x at. record { wants = λ e known under. same_want _ S T more settled e known (λ y a. refl); hears = λ e m act. refl; joins = λ test. refl; leaves = leaves x at })
    where
      active : IsActiveHere S v node d
      active = (lawful_gives S v node (Leave d m) taken).0

      leaves : (x : Verdict) → want S l ≡ Some x → (e : Id) (n : ℕ) → is_under S l e ≡ true → is_leave e n (LeaveMade d m) ≡ false
      leaves x at e n under = false_from (is_leave e n (LeaveMade d m)) (λ is.
          let same : d ≡ e = same_is d e (and_left (same_id d e) _ is) in
          let wrong : true ≡ false = sym under ∙ ap (is_under S l) (sym same) ∙ apart S l d x settled at active.active in
          cc)

-- Steps of the world

-- nothing that happens crosses an edge unless the node shows something else
still_command : (c : Command) (a b : LraStatus) → a ≡ b → ByCommand c a b
still_command (Report d m act o) a b e = inl e
still_command (Decide d x) a b e = inl e
still_command (Begin parent deadline) a b e = e
still_command (Join d links) a b e = e
still_command (Leave d m) a b e = e
still_command (Forgot d m) a b e = e
still_command (Told d m) a b e = e
still_command (Purge d) a b e = e

-- the node's set has one more fact, and the LRA shows no less
record HasGained (s t : State) (node num : ℕ) (c : Command) (l : Id) : Type 0 where
  more : IsMore (record { origin = node; num = num; body = body_for (set_of s node) c }) (set_of s node) (set_of t node)
  settled : IsSettled (set_of s node)
  begun : is_begun (set_of s node) l ≡ true
  up : rank (shows_now (set_of s node) l) ≤ rank (shows_now (set_of t node) l)
  kept : IsKeptBy s t

module _ (s t : State) (node : ℕ) (l : Id) (world : IsWorld s) (is : IsNode s node) (num : ℕ) where
  abbrev S : List Fact
  S = set_of s node

  abbrev T : List Fact
  T = set_of t node

  abbrev Edges : Command → Type 0
  Edges c = ByCommand c (shows_now S l) (shows_now T l)

  report_edges : (d : Id) (m : ℕ) (act : TheAct) (o : Outcome) → HasGained s t node num (Report d m act o) l → Edges (Report d m act o)
  report_edges d m act o g =
      wants_alike (want S l) (want T l) (same_want _ S T g.more g.settled l g.begun (λ x a. refl))
      (is_ended S l) (incomplete S l) (uncompensated S l) (is_ended T l) (incomplete T l) (uncompensated T l) g.up

  decision_edges : (d : Id) (x : Verdict) → HasGained s t node num (Decide d x) l → Edges (Decide d x)
  decision_edges d x g = elim (want_decided _ S T g.more g.settled l d x g.begun refl) [
    | inl same ↦ inl (unturned same)
    | inr now ↦ elim (decided_edges (want S l) (want T l) x now (is_ended S l) (incomplete S l) (uncompensated S l) (is_ended T l) (incomplete T l) (uncompensated T l) g.up) [
      | inl was ↦ inl (unturned (now ∙ sym was))
      | inr edges ↦ edges
    ]
  ]
    where
      idle : want T l ≡ want S l → (y : Verdict) → want S l ≡ Some y → IsIdle (record { origin = node; num = num; body = body_for (set_of s node) (Decide d x) }) S T l
      idle same y at =
          record {
            wants = λ e known under.
                sym (kept_want t.history (front_of s node) (front_of t node) (grown_at s t node world g.kept is) l y
                (as_before (λ (X : List Fact). want X l ≡ Some y) s t node world g.kept is at) (same ∙ at) e
                (as_before (λ (X : List Fact). is_begun X e ≡ true) s t node world g.kept is known)
                (subst (λ (c : List Id). In l c) (sym (chain_kept _ S T g.more g.settled.whole e known)) (under_in S l e under)))
                ∙ ap (λ (X : List Fact). want X e) (earlier_set s t node world g.kept is);
            hears = λ e m act. refl;
            joins = λ test. refl;
            leaves = λ e m under. refl;
          }

      unturned : want T l ≡ want S l → shows_now S l ≡ shows_now T l
      unturned same = stays node num S T (Decide d x) g.more g.settled l g.begun same (idle same)

  own_edges : (c : Command) → judge S (front_of s node) node c ≡ Accepted → HasGained s t node num c l → Edges c
  own_edges (Report d m act o) taken g = report_edges d m act o g
  own_edges (Decide d x) taken g = decision_edges d x g
  own_edges (Begin parent deadline) taken g = quiet_command node num (front_of s node) S T g.settled l g.begun (Begin parent deadline) g.more taken (λ d m act o e. cc) (λ d x e. cc)
  own_edges (Join d links) taken g = quiet_command node num (front_of s node) S T g.settled l g.begun (Join d links) g.more taken (λ d m act o e. cc) (λ d x e. cc)
  own_edges (Leave d m) taken g = quiet_command node num (front_of s node) S T g.settled l g.begun (Leave d m) g.more taken (λ d m act o e. cc) (λ d x e. cc)
  own_edges (Forgot d m) taken g = quiet_command node num (front_of s node) S T g.settled l g.begun (Forgot d m) g.more taken (λ d m act o e. cc) (λ d x e. cc)
  own_edges (Told d m) taken g = quiet_command node num (front_of s node) S T g.settled l g.begun (Told d m) g.more taken (λ d m act o e. cc) (λ d x e. cc)
  own_edges (Purge d) taken g = quiet_command node num (front_of s node) S T g.settled l g.begun (Purge d) g.more taken (λ d m act o e. cc) (λ d x e. cc)

module _ (s t : State) (node : ℕ) (l : Id) (a b : LraStatus) (world : IsWorld s) (is : IsNode s node) (before : shown_at s node l ≡ Ok a) (after : shown_at t node l ≡ Ok b) where
  -- what leaves the node's set and front leaves what it shows
  left : set_of t node ≡ set_of s node → front_of t node ≡ front_of s node → a ≡ b
  left same front =
      ok_same a b
      (sym before
      ∙ sym (ap (λ (X : List Fact). shown_of X (front_of t node) l) same ∙ ap (λ (v : List ℕ). shown_of (set_of s node) v l) front)
      ∙ after)
    where
      ok_same : (x y : LraStatus) → ◌≡◌ {A = Result LraStatus Refusal} (Ok x) (Ok y) → x ≡ y
      ok_same x y e = cc

  unchanged : t ≡ s → a ≡ b
  unchanged e = left (ap (λ (u : State). set_of u node) e) (ap (λ (u : State). front_of u node) e)

  elsewhere : (n : ℕ) (c : Command) → IsNode s n → (node ≡ n → ⊥) → t ≡ with_command s n c → a ≡ b
  elsewhere n c at other e =
      let entry : Entry = entry_for s.history (front_of s n) c in
      let apart : node - 1 ≡ n - 1 → ⊥ = (λ q. other (omega (arith, q, at.some, is.some))) in
      let front : front_of (with_command s n c) node ≡ front_of s node = get_or-set_other s.fronts (n - 1) (node - 1) (raised (front_of s n) n) [] apart in
      let set : set_of (with_command s n c) node ≡ set_of s node =
      ap (facts (with_entry s.history n entry)) front
      ∙ unmoved s.history (front_of s node) n entry at.some at.there (world.current node is.some is.there).closed in
      left (ap (λ (u : State). set_of u node) e ∙ set) (ap (λ (u : State). front_of u node) e ∙ front)

  here : (c : Command) → judge (set_of s node) (front_of s node) node c ≡ Accepted → t ≡ with_command s node c → ByCommand c a b
  here c taken e =
      subst (λ (x : LraStatus). ByCommand c x b) was.now
      (subst (λ (y : LraStatus). ByCommand c (shows_now (set_of s node) l) y) shows.now
      (own_edges s t node l world is (count (front_of s node) node + 1) c taken (record {
        more = subst (λ (u : State). IsMore (record { origin = node; num = count (front_of s node) node + 1; body = body_for (set_of s node) c }) (set_of s node) (set_of u node)) at made.more;
        settled = settled_at s node world is;
        begun = held_begun (set_of s node) l was.held;
        up = omega (arith, ap rank was.now, ap rank shows.now, rises s t (Act node c ∷ []) (Answered (reply_at s node c) ∷ []) node l a b world runs is before after);
        kept = run_keeps s t (Act node c ∷ []) (Answered (reply_at s node c) ∷ []) world runs;
      })))
    where
      made : HasEntered s node c
      made = entering s node c world is taken

      at : made.state ≡ t
      at = made.is ∙ sym e

      runs : Runs s (Act node c ∷ []) (Answered (reply_at s node c) ∷ []) t
      runs = (t, subst (λ (u : State). Steps s (Act node c) (Answered (reply_at s node c)) u) at made.steps, refl)

      was : IsShown (set_of s node) l a
      was = (shown_by (set_of s node) (front_of s node) l a before).1

      shows : IsShown (set_of t node) l b
      shows = (shown_by (set_of t node) (front_of t node) l b after).1

  command : (n : ℕ) (c : Command) → IsNode s n → t ≡ after_command s n c → ByCommand c a b
  command n c at e = by (judge (set_of s n) (front_of s n) n c) refl e
    where
      by : (j : Judgement) → judge (set_of s n) (front_of s n) n c ≡ j → t ≡ if_taken j s (with_command s n c) → ByCommand c a b
      by (Denied r) taken k = still_command c a b (unchanged k)
      by AlreadyKnown taken k = still_command c a b (unchanged k)
      by Accepted taken k = elim (same_or_not node n) [
        | inl same ↦
            here c (subst (λ (x : ℕ). judge (set_of s x) (front_of s x) x c ≡ Accepted) (sym same) taken)
            (subst (λ (x : ℕ). t ≡ with_command s x c) (sym same) k)
        | inr other ↦ still_command c a b (elsewhere n c at other k)
      ]

  at_node : (n : ℕ) (P happens : Type 0) (reply : EventReply) → (a ≡ b → P) → (IsNode s n → happens → P) → IfNode (is_node s n) s happens reply t → P
  at_node n P happens reply none some step = by (is_node s n) refl step
    where
      by : (x : Bool) → is_node s n ≡ x → IfNode x s happens reply t → P
      by true e step = some (node_is s n e) step
      by false e step = none (unchanged step.1)

  sends : (n : ℕ) (base : List ℕ) (version : Version) (reply : EventReply) → Sends s n base version reply t → a ≡ b
  sends n base version reply (inl h) = unchanged h.1.1
  sends n base version reply (inr (inl h)) = unchanged h.2.1
  sends n base version reply (inr (inr (inl h))) = unchanged h.3.1
  sends n base version reply (inr (inr (inr h))) = left (ap (λ (u : State). set_of u node) h.4) (ap (λ (u : State). front_of u node) h.4)

  expires : (n : ℕ) (found : Option Id) (reply : EventReply) → IsNode s n → Expires s n found reply t → ByDecision Cancel a b
  expires n None reply at h = inl (unchanged h.1)
  expires n (Some d) reply at h = command n (Decide d Cancel) at h.1

  pub few_edges : (event : Event) (reply : EventReply) → Steps s event reply t → ByEvent event a b
  few_edges (Act n c) reply step = at_node n (ByCommand c a b) _ reply (still_command c a b) (λ at acts. command n c at acts.1) step
  few_edges (Tick n now) reply step = at_node n (ByDecision Cancel a b) _ reply (λ e. inl e) (λ at ticks. expires n ticks.0 reply at ticks.2) step
  few_edges (Send n base version) reply step = at_node n (a ≡ b) _ reply (λ e. e) (λ at h. sends n base version reply h) step
  few_edges (Restart n) reply step = at_node n (a ≡ b) _ reply (λ e. e) (λ at h. unchanged h.1) step
  few_edges (Deliver number n kept) reply step =
      path_any s t (Deliver number n kept ∷ []) (reply ∷ []) node l a b world (t, step, refl) is before after

-- What happens at another node

pub shown_elsewhere : (s t : State) (event : Event) (reply : EventReply) (node : ℕ) (l : Id) → IsWorld s → Steps s event reply t → IsNode s node → (node_of event ≡ node → ⊥) → shown_at t node l ≡ shown_at s node l
shown_elsewhere s t event reply node l world step is other =
    let kept = step_keeps s t event reply world step in
    let front = step_leaves s t node event reply is.some other step in
    ap (λ (v : List ℕ). shown_of (facts t.history v) v l) front
    ∙ ap (λ (S : List Fact). shown_of S (front_of s node) l) (earlier_set s t node world kept is)

-- A decision crosses two edges if no participant is open

pub two_edges : IsCrossed Active Closed × IsCrossed Active Cancelled × IsCrossed Closed Cancelled
two_edges = (
  happens (Begin None 0 ∷ []) (Decide (lra 1) Close) (lra 1) Active Closed refl refl,
  happens (Begin None 0 ∷ []) (Decide (lra 1) Cancel) (lra 1) Active Cancelled refl refl,
  happens (Begin None 0 ∷ Begin (Some (lra 1)) 0 ∷ Decide (lra 2) Close ∷ []) (Decide (lra 1) Cancel) (lra 2) Closed Cancelled refl refl,
)
