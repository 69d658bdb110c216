-- No verdict is split between two nodes, at any two moments of a run.
use Rattle.std.proofs.Common.{◌≡◌, ◌⊎◌, inl, inr, ℕ, List, [], ◌∷◌, refl, ap, ◌∙◌, Bool, true, false, Option, None, Some, Ok, Err}
use Rattle.std.specs.Option.{option_map_or}
use Rattle.state_ids.specs.Ids.{Id}
use Rattle.state_ids.specs.States.{shown}
use Rattle.state_ids.specs.declared.status.LraStatus.{LraStatus}
use Rattle.state_ids.specs.declared.status.LraStatus.TheVariants.{Cancelled, Cancelling, Closed, Closing, FailedToCancel, FailedToClose}
use Rattle.state_ids.specs.declared.outcome.Verdict.{Verdict}
use Rattle.state_ids.specs.declared.outcome.Verdict.TheVariants.{Cancel, Close}
use Rattle.state_facts.specs.declared.fact.Fact.{Fact}
use Rattle.state_facts.specs.declared.refusal.Refusal.{Refusal}
use Rattle.state_facts.specs.Refusals.{first, unknown}
use Rattle.state_facts.specs.Sets.{is_root, shows_now, want}
use Rattle.theory_history.specs.Histories.{History, IsClosed, facts}
use Rattle.theory_history.specs.Replies.{shown_of, by_facts, gone_by}
use Rattle.theory_history.proofs.SplitVerdicts.{parted, root_whole}
use Rattle.script_world.specs.Headline.{IsAncestorCancelled, IsNode, NoSplit, ShowsCancel, ShowsClose}
use Rattle.script_world.specs.Worlds.{IsWorld, State, front_of, set_of}
use Rattle.script_world.proofs.GrowingHistories.{IsGrown}
use Rattle.script_world.proofs.Moving.{IsKeptBy}

-- what is shown is what the set shows now
shown_now : (o : Option Refusal) (x y : LraStatus) → option_map_or (λ (r : Refusal). Err r) o (Ok x) ≡ Ok y → x ≡ y
shown_now None x y e = cc
shown_now (Some r) x y e = absurd cc

-- an LRA that closes wants Close, and one that is cancelled wants Cancel
abbrev closes : LraStatus → Bool
closes Closing = true
closes Closed = true
closes FailedToClose = true
closes _ = false

abbrev cancels : LraStatus → Bool
cancels Cancelling = true
cancels Cancelled = true
cancels FailedToCancel = true
cancels _ = false

by_want : (o : Option Verdict) (e i u : Bool) → closes (shown o e i u) ≡ true → o ≡ Some Close
by_want None e i u s = absurd cc
by_want (Some Close) e i u s = refl
by_want (Some Cancel) false i u s = absurd cc
by_want (Some Cancel) true i false s = absurd cc
by_want (Some Cancel) true i true s = absurd cc

by_cancel : (o : Option Verdict) (e i u : Bool) → cancels (shown o e i u) ≡ true → o ≡ Some Cancel
by_cancel None e i u s = absurd cc
by_cancel (Some Cancel) e i u s = refl
by_cancel (Some Close) false i u s = absurd cc
by_cancel (Some Close) true false u s = absurd cc
by_cancel (Some Close) true true u s = absurd cc

now_of : (S : List Fact) (v : List ℕ) (l : Id) (x : LraStatus) → shown_of S v l ≡ Ok x → shows_now S l ≡ x
now_of S v l x e = shown_now (first (unknown v l ∷ gone_by (by_facts S) l ∷ [])) (shows_now S l) x e

-- the LRA shows one of three statuses, each of which passes the test
passes : (test : LraStatus → Bool) (S : List Fact) (v : List ℕ) (l : Id) (x y z : LraStatus) → test x ≡ true → test y ≡ true → test z ≡ true
    → ((shown_of S v l ≡ Ok x) ⊎ (shown_of S v l ≡ Ok y) ⊎ (shown_of S v l ≡ Ok z)) → test (shows_now S l) ≡ true
passes test S v l x y z one other last (inl s) = ap test (now_of S v l x s) ∙ one
passes test S v l x y z one other last (inr (inl s)) = ap test (now_of S v l y s) ∙ other
passes test S v l x y z one other last (inr (inr s)) = ap test (now_of S v l z s) ∙ last

closed_wants : (s : State) (node : ℕ) (l : Id) → ShowsClose s node l → want (set_of s node) l ≡ Some Close
closed_wants s node l shows =
    by_want (want (set_of s node) l) _ _ _ (passes closes (set_of s node) (front_of s node) l Closing Closed FailedToClose refl refl refl shows)

cancelled_wants : (s : State) (node : ℕ) (l : Id) → ShowsCancel s node l → want (set_of s node) l ≡ Some Cancel
cancelled_wants s node l shows =
    by_cancel (want (set_of s node) l) _ _ _ (passes cancels (set_of s node) (front_of s node) l Cancelling Cancelled FailedToCancel refl refl refl shows)

-- what an LRA wants in a closed set it still wants in a longer history
wants_still : (h k : History) (v : List ℕ) (l : Id) (verdict : Verdict) → IsGrown h k → IsClosed h v → want (facts h v) l ≡ Some verdict → want (facts k v) l ≡ Some verdict
wants_still h k v l verdict grown closed wants = ap (λ (S : List Fact). want S l) (grown.same v closed) ∙ wants

-- an LRA wants Close by one closed front and Cancel by another
cancelled_by : (s : State) (v w : List ℕ) (l : Id) → IsWorld s → IsClosed s.history v → IsClosed s.history w → want (facts s.history v) l ≡ Some Close → want (facts s.history w) l ≡ Some Cancel → IsAncestorCancelled s l
cancelled_by s v w l world one other close cancel =
    record { front = w; closed = other; cancelled = parted s.history world.lawful v w one other l close cancel }

pub no_split : (s t : State) → IsWorld s → IsKeptBy s t → NoSplit s t
no_split s t before after =
    record {
      cancelled_late = λ one other l is at closed cancelled.
          cancelled_by t (front_of s one) (front_of t other) l after.world (early one is) (late other at)
          (wants_still s.history t.history (front_of s one) l Close after.grown (was one is) (closed_wants s one l closed))
          (cancelled_wants t other l cancelled);
      closed_late = λ one other l is at cancelled closed.
          cancelled_by t (front_of t other) (front_of s one) l after.world (late other at) (early one is)
          (closed_wants t other l closed)
          (wants_still s.history t.history (front_of s one) l Cancel after.grown (was one is) (cancelled_wants s one l cancelled));
      root_cancelled_late = λ one other l is at root closed cancelled.
          root_whole t.history after.world.lawful (front_of s one) (front_of t other) (early one is) (late other at) l
          (ap (λ (S : List Fact). is_root S l) (after.grown.same (front_of s one) (was one is)) ∙ root)
          (wants_still s.history t.history (front_of s one) l Close after.grown (was one is) (closed_wants s one l closed))
          (cancelled_wants t other l cancelled);
      root_closed_late = λ one other l is at root cancelled closed.
          root_whole t.history after.world.lawful (front_of t other) (front_of s one) (late other at) (early one is) l root
          (closed_wants t other l closed)
          (wants_still s.history t.history (front_of s one) l Cancel after.grown (was one is) (cancelled_wants s one l cancelled));
    }
  where
    was : (node : ℕ) → IsNode s node → IsClosed s.history (front_of s node)
    was node is = (before.current node is.some is.there).closed

    early : (node : ℕ) → IsNode s node → IsClosed t.history (front_of s node)
    early node is = after.grown.closed (front_of s node) (was node is)

    late : (node : ℕ) → IsNode t node → IsClosed t.history (front_of t node)
    late node is = (after.world.current node is.some is.there).closed
