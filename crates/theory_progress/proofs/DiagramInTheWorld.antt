-- what nodes show of an LRA, compared with the diagram
use Rattle.std.proofs.Common.{◌≡◌, inl, inr, ◌≤◌, ℕ, List, [], ◌∷◌, refl, sym, ap, ◌∙◌, Bool, true, false, cond, arith, Option, None, Some, Result, Ok, Err, is_none}
use Rattle.std.specs.Option.{option_map_or}
use Rattle.state_ids.specs.Fronts.{is_covered}
use Rattle.state_ids.specs.Ids.{Id}
use Rattle.state_ids.specs.States.{rank, rank_of, shown}
use Rattle.state_ids.specs.declared.status.LraStatus.{LraStatus}
use Rattle.state_ids.specs.declared.outcome.Verdict.{Verdict}
use Rattle.state_ids.specs.declared.outcome.Verdict.TheVariants.{Cancel, Close}
use Rattle.state_facts.specs.declared.fact.Fact.{Fact}
use Rattle.state_facts.specs.declared.refusal.Refusal.{Refusal}
use Rattle.state_facts.specs.Refusals.{first, unknown}
use Rattle.state_facts.specs.Sets.{is_held, is_root, shows_now, want}
use Rattle.theory_history.specs.Histories.{History, IsClosed, IsLawful, facts}
use Rattle.theory_history.specs.Replies.{by_facts, gone_by, shown_of}
use Rattle.theory_history.specs.Rising.{IsCancelledAbove, rank_in}
use Rattle.theory_history.proofs.Basics.{false_from, held_begun, open_first, passed}
use Rattle.theory_history.proofs.Decisions.{parent_both}
use Rattle.theory_history.proofs.RanksRise.{rank_more}
use Rattle.theory_history.proofs.SplitVerdicts.{parted, root_whole}
use Rattle.script_world.specs.declared.event.Event.{Event}
use Rattle.script_world.specs.declared.event.EventReply.{EventReply}
use Rattle.script_world.specs.Headline.{IsAncestorCancelled, IsNode, shown_at}
use Rattle.script_world.specs.Worlds.{IsWorld, Runs, State, front_of, set_of}
use Rattle.script_world.proofs.Moving.{IsKeptBy, run_keeps}
use Rattle.theory_progress.specs.Diagram.{IsPath, are_parted, is_edge, is_own_edge, is_to_cancel, is_to_close}
use Rattle.theory_progress.proofs.AskedInTheWorld.{as_before, closed_at, grown_at}
use Rattle.theory_progress.proofs.DiagramPaths.{any_path, own_path, parted_so}
use Rattle.theory_progress.proofs.Hearing.{still_node}

-- What is shown of an LRA

-- the set shows this status of the LRA
pub record IsShown (S : List Fact) (l : Id) (a : LraStatus) : Type 0 where
  pub held : is_held S l ≡ true
  pub now : shows_now S l ≡ a

pub shown_by : (S : List Fact) (v : List ℕ) (l : Id) (a : LraStatus) → shown_of S v l ≡ Ok a → (is_covered v l ≡ true) × IsShown S l a
shown_by S v l a e = by (first (unknown v l ∷ gone_by (by_facts S) l ∷ [])) refl e
  where
    same : (x y : LraStatus) → ◌≡◌ {A = Result LraStatus Refusal} (Ok x) (Ok y) → x ≡ y
    same x y e = cc

    by : (o : Option Refusal) → first (unknown v l ∷ gone_by (by_facts S) l ∷ []) ≡ o → option_map_or (λ (r : Refusal). Err r) o (Ok (shows_now S l)) ≡ Ok a → (is_covered v l ≡ true) × IsShown S l a
    by None f g =
        let one = open_first (unknown v l) _ f in
        let two = open_first (gone_by (by_facts S) l) _ one.1 in
        (passed (is_covered v l) _ one.0, record { held = passed (is_held S l) _ two.0; now = same (shows_now S l) a g })
    by (Some r) f g = absurd cc

rank_is : (S : List Fact) (l : Id) (a : LraStatus) → IsShown S l a → rank_in S l ≡ rank a
rank_is S l a is = ap (λ (b : Bool). rank_of (cond b (Some (shows_now S l)) None)) is.held ∙ ap rank is.now

-- the branch of a status tells what the LRA wants
closes : (o : Option Verdict) (e i u : Bool) → is_to_close (shown o e i u) ≡ true → o ≡ Some Close
closes None e i u s = absurd cc
closes (Some Close) e i u s = refl
closes (Some Cancel) false i u s = absurd cc
closes (Some Cancel) true i false s = absurd cc
closes (Some Cancel) true i true s = absurd cc

cancels : (o : Option Verdict) (e i u : Bool) → is_to_cancel (shown o e i u) ≡ true → o ≡ Some Cancel
cancels None e i u s = absurd cc
cancels (Some Cancel) e i u s = refl
cancels (Some Close) false i u s = absurd cc
cancels (Some Close) true false u s = absurd cc
cancels (Some Close) true true u s = absurd cc

shown_close : (S : List Fact) (l : Id) (a : LraStatus) → IsShown S l a → is_to_close a ≡ true → want S l ≡ Some Close
shown_close S l a is e = closes (want S l) _ _ _ (ap is_to_close is.now ∙ e)

shown_cancel : (S : List Fact) (l : Id) (a : LraStatus) → IsShown S l a → is_to_cancel a ≡ true → want S l ≡ Some Cancel
shown_cancel S l a is e = cancels (want S l) _ _ _ (ap is_to_cancel is.now ∙ e)

-- Two closed sets of one history

module _ (h : History) (lawful : IsLawful h) (v w : List ℕ) (cv : IsClosed h v) (cw : IsClosed h w) (l : Id) (a b : LraStatus) (was : IsShown (facts h v) l a) (is : IsShown (facts h w) l b) where
  above : (is_to_close a ≡ true) × (is_to_cancel b ≡ true) → IsCancelledAbove h w l
  above so = parted h lawful v w cv cw l (shown_close (facts h v) l a was so.0) (shown_cancel (facts h w) l b is so.1)

  back : (is_to_cancel a ≡ true) × (is_to_close b ≡ true) → IsCancelledAbove h v l
  back so = parted h lawful w v cw cv l (shown_close (facts h w) l b is so.1) (shown_cancel (facts h v) l a was so.0)

  -- a root is never on both branches
  whole : is_root (facts h v) l ≡ true → are_parted a b ≡ false
  whole root = false_from (are_parted a b) (λ e. elim (parted_so a b e) [
    | inl so ↦ root_whole h lawful v w cv cw l root (shown_close (facts h v) l a was so.0) (shown_cancel (facts h w) l b is so.1)
    | inr so ↦ root_whole h lawful w v cw cv l still (shown_close (facts h w) l b is so.1) (shown_cancel (facts h v) l a was so.0)
  ])
    where
      still : is_root (facts h w) l ≡ true
      still = ap is_none (sym (parent_both h lawful v w cv cw l (held_begun (facts h v) l was.held) (held_begun (facts h w) l is.held))) ∙ root

-- Nodes of the world

module _ (s t : State) (events : List Event) (replies : List EventReply) (one other : ℕ) (l : Id) (a b : LraStatus) (world : IsWorld s) (runs : Runs s events replies t) (is : IsNode s one) (at : IsNode t other) (before : shown_at s one l ≡ Ok a) (after : shown_at t other l ≡ Ok b) where
  kept : IsKeptBy s t
  kept = run_keeps s t events replies world runs

  early : IsClosed t.history (front_of s one)
  early = kept.grown.closed (front_of s one) (closed_at s one world is)

  late : IsClosed t.history (front_of t other)
  late = closed_at t other kept.world at

  was : IsShown (facts t.history (front_of s one)) l a
  was = as_before (λ (S : List Fact). IsShown S l a) s t one world kept is (shown_by (set_of s one) (front_of s one) l a before).1

  shows : IsShown (set_of t other) l b
  shows = (shown_by (set_of t other) (front_of t other) l b after).1

  pub branch_of_root : is_root (set_of s one) l ≡ true → are_parted a b ≡ false
  branch_of_root root =
      whole t.history kept.world.lawful (front_of s one) (front_of t other) early late l a b was shows
      (as_before (λ (S : List Fact). is_root S l ≡ true) s t one world kept is root)

  pub branch_by : (IsAncestorCancelled t l → ⊥) → are_parted a b ≡ false
  branch_by none = false_from (are_parted a b) (λ e. none (elim (parted_so a b e) [
    | inl so ↦ record { front = front_of t other; closed = late; cancelled = above t.history kept.world.lawful (front_of s one) (front_of t other) early late l a b was shows so }
    | inr so ↦ record { front = front_of s one; closed = early; cancelled = back t.history kept.world.lawful (front_of s one) (front_of t other) early late l a b was shows so }
  ]))

pub branch_root : (s t : State) (events : List Event) (replies : List EventReply) (one other : ℕ) (l : Id) (a b : LraStatus) → IsWorld s → Runs s events replies t → IsNode s one → IsNode t other → shown_at s one l ≡ Ok a → shown_at t other l ≡ Ok b → is_root (set_of s one) l ≡ true → are_parted a b ≡ false
branch_root = branch_of_root

pub branch_alone : (s t : State) (events : List Event) (replies : List EventReply) (one other : ℕ) (l : Id) (a b : LraStatus) → IsWorld s → Runs s events replies t → IsNode s one → IsNode t other → shown_at s one l ≡ Ok a → shown_at t other l ≡ Ok b → (IsAncestorCancelled t l → ⊥) → are_parted a b ≡ false
branch_alone = branch_by

-- the rank of what one node shows only rises
pub rises : (s t : State) (events : List Event) (replies : List EventReply) (node : ℕ) (l : Id) (a b : LraStatus) → IsWorld s → Runs s events replies t → IsNode s node → shown_at s node l ≡ Ok a → shown_at t node l ≡ Ok b → rank a ≤ rank b
rises s t events replies node l a b world runs is before after =
    let kept = run_keeps s t events replies world runs in
    let first = shown_by (set_of s node) (front_of s node) l a before in
    let was = as_before (λ (S : List Fact). IsShown S l a) s t node world kept is first.1 in
    let shows = (shown_by (set_of t node) (front_of t node) l b after).1 in
    omega (
      arith,
      rank_more t.history (front_of s node) (front_of t node) (grown_at s t node world kept is) l first.0,
      rank_is (facts t.history (front_of s node)) l a was,
      rank_is (set_of t node) l b shows,
    )

pub path_any : (s t : State) (events : List Event) (replies : List EventReply) (node : ℕ) (l : Id) (a b : LraStatus) → IsWorld s → Runs s events replies t → IsNode s node → shown_at s node l ≡ Ok a → shown_at t node l ≡ Ok b → IsPath is_edge a b
path_any s t events replies node l a b world runs is before after = any_path a b (rises s t events replies node l a b world runs is before after)

later : (s t : State) (events : List Event) (replies : List EventReply) (node : ℕ) → IsWorld s → Runs s events replies t → IsNode s node → IsNode t node
later s t events replies node world runs is = still_node s t node (run_keeps s t events replies world runs) is

pub path_alone : (s t : State) (events : List Event) (replies : List EventReply) (node : ℕ) (l : Id) (a b : LraStatus) → IsWorld s → Runs s events replies t → IsNode s node → shown_at s node l ≡ Ok a → shown_at t node l ≡ Ok b → (IsAncestorCancelled t l → ⊥) → IsPath is_own_edge a b
path_alone s t events replies node l a b world runs is before after none =
    own_path a b (rises s t events replies node l a b world runs is before after)
    (branch_alone s t events replies node node l a b world runs is (later s t events replies node world runs is) before after none)

pub path_root : (s t : State) (events : List Event) (replies : List EventReply) (node : ℕ) (l : Id) (a b : LraStatus) → IsWorld s → Runs s events replies t → IsNode s node → shown_at s node l ≡ Ok a → shown_at t node l ≡ Ok b → is_root (set_of s node) l ≡ true → IsPath is_own_edge a b
path_root s t events replies node l a b world runs is before after root =
    own_path a b (rises s t events replies node l a b world runs is before after)
    (branch_root s t events replies node node l a b world runs is (later s t events replies node world runs is) before after root)
