-- the sagas of a decided tree run side by side
use Rattle.std.proofs.Common.{◌≡◌, ◌≤◌, ℕ, suc, List, [], ◌∷◌, sym, ap, subst, ◌∙◌, true, arith, length, Some, is_some}
use Rattle.state_ids.specs.Ids.{Id}
use Rattle.state_ids.specs.declared.outcome.Verdict.{Verdict}
use Rattle.state_ids.specs.declared.outcome.Verdict.TheVariants.{Cancel}
use Rattle.state_facts.specs.declared.fact.Body.TheVariants.{Join}
use Rattle.state_facts.specs.declared.fact.Fact.{Fact}
use Rattle.state_facts.specs.Duties.{topmost_cancelled}
use Rattle.state_facts.specs.Links.{Links}
use Rattle.state_facts.specs.Lists.{In}
use Rattle.state_facts.specs.Sets.{chain, is_begun, is_ended, is_open, is_root, is_under, some_shows, want}
use Rattle.state_facts.proofs.Membership.{any_gives}
use Rattle.state_forest.proofs.NumberedMembers.{same_self}
use Rattle.state_forest.proofs.Paths.{under_home}
use Rattle.state_forest.proofs.SagaOrder.{IsTop, top_is}
use Rattle.theory_history.specs.Growth.{IsSettled}
use Rattle.theory_history.specs.Histories.{History, facts}
use Rattle.theory_history.proofs.Basics.{both_true}
use Rattle.theory_history.proofs.ClosedSets.{closed_settled}
use Rattle.theory_history.proofs.Decisions.{active_begun, asks_active}
use Rattle.theory_history.proofs.RanksRise.{IsGrown, kept_chain, kept_want, true_not}
use Rattle.theory_history.proofs.SameChains.{along_chain}
use Rattle.wire_callbacks.specs.declared.duty.Duty.{Duty}
use Rattle.wire_callbacks.specs.CallDuties.{IsDuty}
use Rattle.script_world.specs.Headline.{IsNode}
use Rattle.script_world.specs.Worlds.{IsWorld, State, front_of, set_of}
use Rattle.script_world.proofs.Moving.{IsKeptBy}
use Rattle.theory_progress.specs.Calls.{IsActUnder, is_open_at, joins_under}
use Rattle.theory_progress.specs.CallRounds.{GoInRounds, compensations_left}
use Rattle.theory_progress.specs.Ends.{last_state}
use Rattle.theory_progress.proofs.ActsAsked.{cancels}
use Rattle.theory_progress.proofs.AnswersInTheWorld.{IsDecidedAt}
use Rattle.theory_progress.proofs.AskedInTheWorld.{as_before, grown_at, settled_at}
use Rattle.theory_progress.proofs.AskedOneWay.{cancel_is}
use Rattle.theory_progress.proofs.CallRoundsEnd.{alone_at, begun_still, decided, decided_last, kept_round, kept_rounds, rounds_left, saga_ends, under_still}
use Rattle.theory_progress.proofs.CallRoundsFall.{had_joined, none_told, top_of, top_under}
use Rattle.theory_progress.proofs.EndsInTheWorld.{earlier_set}
use Rattle.theory_progress.proofs.Hearing.{still_node}
use Rattle.theory_progress.proofs.OpenUnder.{IsTold, some_open, told_join}
use Rattle.theory_progress.proofs.SagasAlone.{alone_before, alone_top}
use Rattle.theory_progress.proofs.UnderWay.{in_under, saga_some, under_goes, under_in}

-- a call under an LRA is also a call under every LRA above that
call_above : (S : List Fact) (l a : Id) (call : Duty) → IsSettled S → is_under S l a ≡ true → IsActUnder S a call → IsActUnder S l call
call_above S l a call settled under due =
    record {
      duty = subst (λ (home : ℕ). IsDuty home S call) (under_home S settled.whole.nested l (suc a.num) a (omega arith) under) due.duty;
      under = under_goes S settled.whole.nested l a call.id under due.under;
      asks = due.asks;
    }

-- so rounds of calls under an LRA are rounds for each LRA under it
rounds_below : (s : State) (ts : List State) (node : ℕ) (l a : Id) → IsWorld s → IsNode s node → is_begun (set_of s node) a ≡ true → is_under (set_of s node) l a ≡ true → GoInRounds node l s ts → GoInRounds node a s ts
rounds_below s [] node l a world is begun under on = tt
rounds_below s (t ∷ ts) node l a world is begun under on =
    let kept = kept_round s t node l world on.0 in (
      record {
        events = on.0.events;
        replies = on.0.replies;
        runs = on.0.runs;
        hears = λ call due. on.0.hears call (call_above (set_of s node) l a call (settled_at s node world is) under due);
      },
      rounds_below t ts node l a kept.world (still_node s t node kept is) (begun_still s t node a world kept is begun) (under_still s t node l a world kept is begun under) on.1,
    )

-- the topmost cancelled LRA of an open participant was the topmost before, if the LRA it is under
-- wants the same
record WasTop (S : List Fact) (l a : Id) : Type 0 where
  begun : is_begun S a ≡ true
  under : is_under S l a ≡ true
  wants : want S a ≡ Some Cancel
  top : topmost_cancelled S a ≡ Some a

was_top : (h : History) (v w : List ℕ) (g : IsGrown h v w) (l : Id) (x : Verdict) → want (facts h v) l ≡ Some x → want (facts h w) l ≡ Some x → (f : Fact) (d : Id) (m : ℕ) (links : Links) → In f (facts h w) → f.body ≡ Join d m links → is_under (facts h w) l d ≡ true → (a : Id) → In a (chain (facts h w) d) → is_under (facts h w) l a ≡ true
    → topmost_cancelled (facts h w) a ≡ Some a → WasTop (facts h v) l a
was_top h v w g l x wanted later f d m links there body under a above beneath top =
    record {
      begun = begun;
      under = in_under (facts h v) l a (subst (λ (c : List Id). In l c) (sym (kept_chain h v w g a begun)) (under_in (facts h w) l a beneath));
      wants = wants;
      top = alone_top (facts h v) a wants (alone_before h v w g a Cancel wants (saga_some (facts h w) a a top));
    }
  where
    first : is_begun (facts h v) d ≡ true
    first = active_begun h g.lawful v g.before f d (had_joined h v w g l x wanted later f d m links there body under) (ap (asks_active d) body ∙ same_self d)

    begun : is_begun (facts h v) a ≡ true
    begun =
        along_chain (λ (e : Id). is_begun (facts h v) e ≡ true) (facts h v) (closed_settled h g.lawful v g.before).whole.parents d.num d first a
        (subst (λ (c : List Id). In a c) (sym (kept_chain h v w g d first)) above)

    wants : want (facts h v) a ≡ Some Cancel
    wants = kept_want h v w g l x wanted later a begun (under_in (facts h w) l a beneath) ∙ cancels (facts h w) a a top

-- no participant is open at the end: its saga has ended
none_open : (s : State) (ts : List State) (node : ℕ) (root : Id) (verdict : Verdict) → IsDecidedAt s node root verdict → GoInRounds node root s ts → 1 ≤ length ts → ((top : Id) → is_under (set_of s node) root top ≡ true → topmost_cancelled (set_of s node) top ≡ Some top → compensations_left (set_of s node) top ≤ length ts)
    → (f : Fact) (d : Id) (m : ℕ) (links : Links) → In f (set_of (last_state s ts) node) → f.body ≡ Join d m links → IsTold (is_open_at (set_of (last_state s ts) node)) (set_of (last_state s ts) node) root d m links → want (set_of (last_state s ts) node) d ≡ Some Cancel → ⊥
none_open s ts node root verdict at on some short f d m links there body told cancel =
    none_told (set_of (last_state s ts) node) top.0 ended f d m links there body (record { under = is.under; stayed = told.stayed; passes = told.passes })
  where
    kept : IsKeptBy s (last_state s ts)
    kept = kept_rounds s ts node root at.world on

    last : IsDecidedAt (last_state s ts) node root verdict
    last = decided_last s ts node root verdict at on

    settled : IsSettled (set_of (last_state s ts) node)
    settled = settled_at (last_state s ts) node last.world last.there

    top : (a : Id) × (topmost_cancelled (set_of (last_state s ts) node) d ≡ Some a)
    top = top_of (set_of (last_state s ts) node) d cancel

    is : IsTop (set_of (last_state s ts) node) d top.0
    is = top_is (set_of (last_state s ts) node) settled.whole.nested (suc d.num) d top.0 (omega arith) top.1

    beneath : is_under (set_of (last_state s ts) node) root top.0 ≡ true
    beneath = top_under (set_of (last_state s ts) node) settled.whole.nested root d top.0 (alone_at (last_state s ts) node root verdict last) told.under top.1

    was : WasTop (set_of s node) root top.0
    was =
        subst (λ (S : List Fact). WasTop S root top.0) (earlier_set s (last_state s ts) node at.world kept at.there)
        (was_top (last_state s ts).history (front_of s node) (front_of (last_state s ts) node) (grown_at s (last_state s ts) node at.world kept at.there) root verdict
        (as_before (λ (S : List Fact). want S root ≡ Some verdict) s (last_state s ts) node at.world kept at.there at.wants) last.wants
        f d m links there body told.under top.0 (under_in (set_of (last_state s ts) node) top.0 d is.under) beneath is.own)

    ended : is_ended (set_of (last_state s ts) node) top.0 ≡ true
    ended =
        saga_ends s ts node top.0 Cancel at.world at.there was.wants (cancels (set_of (last_state s ts) node) top.0 top.0 is.own) (saga_some (set_of (last_state s ts) node) top.0 top.0 is.own)
        (rounds_below s ts node root top.0 at.world at.there was.begun was.under on) some (short top.0 was.under was.top)

pub longest_ends : (s : State) (ts : List State) (node : ℕ) (root : Id) (verdict : Verdict) → IsWorld s → IsNode s node → is_root (set_of s node) root ≡ true → want (set_of s node) root ≡ Some verdict → GoInRounds node root s ts → 1 ≤ length ts → ((top : Id) → is_under (set_of s node) root top ≡ true → topmost_cancelled (set_of s node) top ≡ Some top → compensations_left (set_of s node) top ≤ length ts)
    → is_ended (set_of (last_state s ts) node) root ≡ true
longest_ends s [] node root verdict world is top wants on some short = absurd (omega (arith, some))
longest_ends s (t ∷ ts) node root verdict world is top wants on some short =
    both_true (is_some (want (set_of (last_state t ts) node) root)) _ (ap is_some last.wants) (true_not (some_shows is_open (set_of (last_state t ts) node) root) (λ opened.
    let found = any_gives (λ (f : Fact). joins_under (is_open_at (set_of (last_state t ts) node)) (set_of (last_state t ts) node) root f.body) (set_of (last_state t ts) node) (some_open (set_of (last_state t ts) node) root ∙ opened) in
    let who = told_join (is_open_at (set_of (last_state t ts) node)) (set_of (last_state t ts) node) root found.0.body found.2 in
    let cancels = rounds_left s t ts node root verdict world is wants last.wants on found.0 who.0 who.1 who.2 found.1 who.3 who.4 in
    none_open s (t ∷ ts) node root verdict at on some short found.0 who.0 who.1 who.2 found.1 who.3 who.4 (cancel_is (want (set_of (last_state t ts) node) who.0) cancels)))
  where
    at : IsDecidedAt s node root verdict
    at = decided s node root verdict world is top wants

    last : IsDecidedAt (last_state t ts) node root verdict
    last = decided_last s (t ∷ ts) node root verdict at on
