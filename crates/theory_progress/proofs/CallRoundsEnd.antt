-- rounds of calls at a node of the world
use Rattle.std.proofs.Common.{◌≡◌, ◌≤◌, ◌-◌, ◌++◌, ℕ, List, [], ◌∷◌, refl, ap, subst, true, arith, length, None, Some, Option, is_some}
use Rattle.state_ids.specs.Ids.{Id}
use Rattle.state_ids.specs.declared.outcome.Verdict.{Verdict}
use Rattle.state_ids.specs.declared.outcome.Verdict.TheVariants.{Cancel, Close}
use Rattle.state_facts.specs.declared.fact.Fact.{Fact}
use Rattle.state_facts.specs.Lists.{In}
use Rattle.state_facts.specs.Sets.{is_begun, is_ended, is_root, is_under, want}
use Rattle.state_forest.proofs.Bools.{and_left}
use Rattle.theory_history.specs.Histories.{facts}
use Rattle.theory_history.proofs.Decisions.{wanted_begun}
use Rattle.theory_history.proofs.Ranks.{force}
use Rattle.theory_history.proofs.RanksRise.{begun_later, kept_chain, wants_more}
use Rattle.script_world.specs.declared.event.Event.{Event}
use Rattle.script_world.specs.declared.event.EventReply.{EventReply}
use Rattle.script_world.specs.Headline.{IsNode}
use Rattle.script_world.specs.Worlds.{IsWorld, Runs, State, front_of, set_of}
use Rattle.script_world.proofs.Converging.{run_on}
use Rattle.script_world.proofs.Moving.{IsKeptBy, run_keeps}
use Rattle.theory_progress.specs.Calls.{is_open_at, joins_under, open_under, saga_of}
use Rattle.theory_progress.specs.CallRounds.{GoInRounds, HearsAllEnds, IsCallRound, compensations_left, is_to_compensate}
use Rattle.theory_progress.specs.Ends.{last_state}
use Rattle.theory_progress.proofs.AnswersInTheWorld.{IsDecidedAt, decided_later}
use Rattle.theory_progress.proofs.AskedInTheWorld.{as_before, closed_at, grown_at, settled_at}
use Rattle.theory_progress.proofs.CallRoundsFall.{AllCompensate, all_compensate, round_falls}
use Rattle.theory_progress.proofs.EndsInTheWorld.{earlier_set}
use Rattle.theory_progress.proofs.Hearing.{still_node}
use Rattle.theory_progress.proofs.OpenUnder.{ended_none, facts_fewer, join_told, told_join}
use Rattle.theory_progress.proofs.SagasAlone.{alone_before}
use Rattle.theory_progress.proofs.UnderWay.{closing_alone, in_under, root_alone, under_in}

-- at most as many participants are to compensate as are open
pub few_at : (s : State) (node : ℕ) (l : Id) → compensations_left (set_of s node) l ≤ open_under (set_of s node) l
few_at s node l =
    facts_fewer s.history (front_of s node) (front_of s node) (λ (f : Fact). joins_under (is_open_at (set_of s node)) (set_of s node) l f.body) (λ (f : Fact). joins_under (is_to_compensate (set_of s node)) (set_of s node) l f.body)
    (λ f there e.
    let who = told_join (is_to_compensate (set_of s node)) (set_of s node) l f.body e in (
      there,
      join_told (is_open_at (set_of s node)) (set_of s node) l who.0 who.1 who.2 f.body who.3 (record {
        under = who.4.under;
        stayed = who.4.stayed;
        passes = and_left (is_open_at (set_of s node) who.0 who.1 who.2) _ who.4.passes;
      }),
    ))

-- if none is open, the LRA has ended
ended_at : (s : State) (node : ℕ) (l : Id) (verdict : Verdict) → want (set_of s node) l ≡ Some verdict → open_under (set_of s node) l ≤ 0 → is_ended (set_of s node) l ≡ true
ended_at s node l verdict wanted none = (ended_none (set_of s node) l (ap is_some wanted)).1 (omega (arith, none))

-- From state to state

begun_by : (s : State) (node : ℕ) (l : Id) (verdict : Verdict) → IsWorld s → IsNode s node → want (set_of s node) l ≡ Some verdict → is_begun (set_of s node) l ≡ true
begun_by s node l verdict world is wants = wanted_begun s.history world.lawful (front_of s node) (closed_at s node world is) l verdict wants

pub begun_still : (s t : State) (node : ℕ) (l : Id) → IsWorld s → IsKeptBy s t → IsNode s node → is_begun (set_of s node) l ≡ true → is_begun (set_of t node) l ≡ true
begun_still s t node l world kept is begun =
    begun_later t.history (front_of s node) (front_of t node) (grown_at s t node world kept is) l (as_before (λ (S : List Fact). is_begun S l ≡ true) s t node world kept is begun)

-- no less is wanted later
wants_later : (s t : State) (node : ℕ) (l : Id) → IsWorld s → IsKeptBy s t → IsNode s node → is_begun (set_of s node) l ≡ true → force (want (set_of s node) l) ≤ force (want (set_of t node) l)
wants_later s t node l world kept is begun =
    subst (λ (S : List Fact). force (want S l) ≤ force (want (set_of t node) l)) (earlier_set s t node world kept is)
    (wants_more t.history (front_of s node) (front_of t node) (grown_at s t node world kept is) l (as_before (λ (S : List Fact). is_begun S l ≡ true) s t node world kept is begun))

pub under_still : (s t : State) (node : ℕ) (l d : Id) → IsWorld s → IsKeptBy s t → IsNode s node → is_begun (set_of s node) d ≡ true → is_under (set_of s node) l d ≡ true → is_under (set_of t node) l d ≡ true
under_still s t node l d world kept is begun under =
    let same = kept_chain t.history (front_of s node) (front_of t node) (grown_at s t node world kept is) d (as_before (λ (S : List Fact). is_begun S d ≡ true) s t node world kept is begun) in
    in_under (set_of t node) l d (subst (λ (c : List Id). In l c) same (under_in (facts t.history (front_of s node)) l d (as_before (λ (S : List Fact). is_under S l d ≡ true) s t node world kept is under)))

-- an LRA that waits only for those under itself did so before
alone_still : (s t : State) (node : ℕ) (l : Id) (verdict : Verdict) → IsWorld s → IsKeptBy s t → IsNode s node → want (set_of s node) l ≡ Some verdict → saga_of (set_of t node) l ≡ l → saga_of (set_of s node) l ≡ l
alone_still s t node l verdict world kept is wants alone =
    subst (λ (S : List Fact). saga_of S l ≡ l) (earlier_set s t node world kept is)
    (alone_before t.history (front_of s node) (front_of t node) (grown_at s t node world kept is) l verdict (as_before (λ (S : List Fact). want S l ≡ Some verdict) s t node world kept is wants) alone)

-- an LRA that wants the same at both ends wants it in between
squeezed : (x : Verdict) (o : Option Verdict) → force (Some x) ≤ force o → force o ≤ force (Some x) → o ≡ Some x
squeezed Close None low high = absurd (omega (arith, low))
squeezed Close (Some Close) low high = refl
squeezed Close (Some Cancel) low high = absurd (omega (arith, high))
squeezed Cancel None low high = absurd (omega (arith, low))
squeezed Cancel (Some Close) low high = absurd (omega (arith, low))
squeezed Cancel (Some Cancel) low high = refl

-- One round

pub kept_round : (s t : State) (node : ℕ) (l : Id) → IsWorld s → IsCallRound node l s t → IsKeptBy s t
kept_round s t node l world round = run_keeps s t round.events round.replies world round.runs

falls_at : (s t : State) (node : ℕ) (l : Id) (verdict : Verdict) → IsWorld s → IsNode s node → want (set_of s node) l ≡ Some verdict → want (set_of t node) l ≡ Some verdict → saga_of (set_of t node) l ≡ l → IsCallRound node l s t → open_under (set_of t node) l ≤ compensations_left (set_of s node) l - 1
falls_at s t node l verdict world is wants later alone round =
    let kept = kept_round s t node l world round in
    subst (λ (S : List Fact). open_under (set_of t node) l ≤ compensations_left S l - 1) (earlier_set s t node world kept is)
    (round_falls t.history (front_of s node) (front_of t node) (grown_at s t node world kept is) l verdict
    (as_before (λ (S : List Fact). want S l ≡ Some verdict) s t node world kept is wants) later
    (as_before (λ (S : List Fact). HearsAllEnds S (set_of t node) l) s t node world kept is round.hears)
    (as_before (λ (S : List Fact). saga_of S l ≡ l) s t node world kept is (alone_still s t node l verdict world kept is wants alone)))

left_at : (s t : State) (node : ℕ) (l : Id) (verdict : Verdict) → IsWorld s → IsNode s node → want (set_of s node) l ≡ Some verdict → want (set_of t node) l ≡ Some verdict → IsCallRound node l s t → AllCompensate (set_of t node) l
left_at s t node l verdict world is wants later round =
    let kept = kept_round s t node l world round in
    all_compensate t.history (front_of s node) (front_of t node) (grown_at s t node world kept is) l verdict
    (as_before (λ (S : List Fact). want S l ≡ Some verdict) s t node world kept is wants) later
    (as_before (λ (S : List Fact). HearsAllEnds S (set_of t node) l) s t node world kept is round.hears)

-- Some rounds

-- some rounds are one run
as_run : (s : State) (ts : List State) (node : ℕ) (l : Id) → GoInRounds node l s ts → (events : List Event) × (replies : List EventReply) × Runs s events replies (last_state s ts)
as_run s [] node l on = ([], [], refl)
as_run s (t ∷ ts) node l on =
    let rest = as_run t ts node l on.1 in
    (on.0.events ++ rest.0, on.0.replies ++ rest.1, run_on s t (last_state t ts) on.0.events rest.0 on.0.replies rest.1 on.0.runs rest.2)

pub kept_rounds : (s : State) (ts : List State) (node : ℕ) (l : Id) → IsWorld s → GoInRounds node l s ts → IsKeptBy s (last_state s ts)
kept_rounds s ts node l world on = let run = as_run s ts node l on in run_keeps s (last_state s ts) run.0 run.1 world run.2

wants_between : (s t : State) (ts : List State) (node : ℕ) (l : Id) (verdict : Verdict) → IsWorld s → IsNode s node → GoInRounds node l s (t ∷ ts) → want (set_of s node) l ≡ Some verdict → want (set_of (last_state t ts) node) l ≡ Some verdict → want (set_of t node) l ≡ Some verdict
wants_between s t ts node l verdict world is on wants last =
    let kept = kept_round s t node l world on.0 in
    let there = still_node s t node kept is in
    let begun = begun_by s node l verdict world is wants in
    squeezed verdict (want (set_of t node) l)
    (subst (λ (o : Option Verdict). force o ≤ force (want (set_of t node) l)) wants (wants_later s t node l world kept is begun))
    (subst (λ (o : Option Verdict). force (want (set_of t node) l) ≤ force o) last
    (wants_later t (last_state t ts) node l kept.world (kept_rounds t ts node l kept.world on.1) there (begun_still s t node l world kept is begun)))

rounds_fall : (s t : State) (ts : List State) (node : ℕ) (l : Id) (verdict : Verdict) → IsWorld s → IsNode s node → want (set_of s node) l ≡ Some verdict → want (set_of (last_state t ts) node) l ≡ Some verdict → saga_of (set_of (last_state t ts) node) l ≡ l → GoInRounds node l s (t ∷ ts)
    → open_under (set_of (last_state t ts) node) l ≤ compensations_left (set_of s node) l - length (t ∷ ts)
rounds_fall s t [] node l verdict world is wants last alone on = omega (arith, falls_at s t node l verdict world is wants last alone on.0)
rounds_fall s t (u ∷ ts) node l verdict world is wants last alone on =
    let kept = kept_round s t node l world on.0 in
    let there = still_node s t node kept is in
    let later = wants_between s t (u ∷ ts) node l verdict world is on wants last in
    let own = alone_still t (last_state u ts) node l verdict kept.world (kept_rounds t (u ∷ ts) node l kept.world on.1) there later alone in
    omega (arith, falls_at s t node l verdict world is wants later own on.0, rounds_fall t u ts node l verdict kept.world there later last alone on.1, few_at t node l)

pub rounds_left : (s t : State) (ts : List State) (node : ℕ) (l : Id) (verdict : Verdict) → IsWorld s → IsNode s node → want (set_of s node) l ≡ Some verdict → want (set_of (last_state t ts) node) l ≡ Some verdict → GoInRounds node l s (t ∷ ts) → AllCompensate (set_of (last_state t ts) node) l
rounds_left s t [] node l verdict world is wants last on = left_at s t node l verdict world is wants last on.0
rounds_left s t (u ∷ ts) node l verdict world is wants last on =
    let kept = kept_round s t node l world on.0 in
    rounds_left t u ts node l verdict kept.world (still_node s t node kept is) (wants_between s t (u ∷ ts) node l verdict world is on wants last) last on.1

-- so an LRA that waits only for those under itself ends
pub saga_ends : (s : State) (ts : List State) (node : ℕ) (l : Id) (verdict : Verdict) → IsWorld s → IsNode s node → want (set_of s node) l ≡ Some verdict → want (set_of (last_state s ts) node) l ≡ Some verdict → saga_of (set_of (last_state s ts) node) l ≡ l → GoInRounds node l s ts → 1 ≤ length ts → compensations_left (set_of s node) l ≤ length ts
    → is_ended (set_of (last_state s ts) node) l ≡ true
saga_ends s [] node l verdict world is wants last alone on some most = absurd (omega (arith, some))
saga_ends s (t ∷ ts) node l verdict world is wants last alone on some most =
    ended_at (last_state t ts) node l verdict last (omega (arith, rounds_fall s t ts node l verdict world is wants last alone on, most))

pub closing_ends : (s : State) (ts : List State) (node : ℕ) (l : Id) → IsWorld s → IsNode s node → want (set_of s node) l ≡ Some Close → want (set_of (last_state s ts) node) l ≡ Some Close → GoInRounds node l s ts → 1 ≤ length ts → compensations_left (set_of s node) l ≤ length ts → is_ended (set_of (last_state s ts) node) l ≡ true
closing_ends s ts node l world is wants last on some most = saga_ends s ts node l Close world is wants last (closing_alone (set_of (last_state s ts) node) l last) on some most

-- A root

pub decided_last : (s : State) (ts : List State) (node : ℕ) (root : Id) (verdict : Verdict) → IsDecidedAt s node root verdict → GoInRounds node root s ts → IsDecidedAt (last_state s ts) node root verdict
decided_last s ts node root verdict at on = decided_later s (last_state s ts) node root verdict at (kept_rounds s ts node root at.world on)

pub alone_at : (s : State) (node : ℕ) (root : Id) (verdict : Verdict) → IsDecidedAt s node root verdict → saga_of (set_of s node) root ≡ root
alone_at s node root verdict at = root_alone (set_of s node) root (settled_at s node at.world at.there) at.top

pub decided : (s : State) (node : ℕ) (root : Id) (verdict : Verdict) → IsWorld s → IsNode s node → is_root (set_of s node) root ≡ true → want (set_of s node) root ≡ Some verdict → IsDecidedAt s node root verdict
decided s node root verdict world is top wants = record { world = world; there = is; top = top; wants = wants }

pub root_ends : (s : State) (ts : List State) (node : ℕ) (root : Id) (verdict : Verdict) → IsWorld s → IsNode s node → is_root (set_of s node) root ≡ true → want (set_of s node) root ≡ Some verdict → GoInRounds node root s ts → 1 ≤ length ts → compensations_left (set_of s node) root ≤ length ts → is_ended (set_of (last_state s ts) node) root ≡ true
root_ends s ts node root verdict world is top wants on some most =
    let last = decided_last s ts node root verdict (decided s node root verdict world is top wants) on in
    saga_ends s ts node root verdict world is wants last.wants (alone_at (last_state s ts) node root verdict last) on some most

pub root_falls : (s t : State) (node : ℕ) (root : Id) (verdict : Verdict) → IsWorld s → IsNode s node → is_root (set_of s node) root ≡ true → want (set_of s node) root ≡ Some verdict → IsCallRound node root s t → open_under (set_of t node) root ≤ compensations_left (set_of s node) root - 1
root_falls s t node root verdict world is top wants round =
    let later = decided_later s t node root verdict (decided s node root verdict world is top wants) (kept_round s t node root world round) in
    falls_at s t node root verdict world is wants later.wants (alone_at t node root verdict later) round
