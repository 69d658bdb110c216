-- A node that is in doubt stores nothing more of its own.
use Rattle.std.proofs.Common.{◌≡◌, ◌≤◌, ◌<◌, ◌-◌, ◌∙◌, ℕ, Bool, true, false, List, arith, if◌then◌else◌, length, refl, subst, sym}
use Rattle.std.specs.Prelude.{◌&&◌, ◌||◌, ◌==◌, IsTrue, MatchBool, max, nat_le, not}
use Rattle.std.specs.declared.time.Duration.{Duration}
use Rattle.std.proofs.lemmas.Bool.{eqb-true, le-leb, lt-leb}
use Rattle.std.proofs.lemmas.List.{get_or-set_same}
use Rattle.state_ids.specs.Fronts.{count}
use Rattle.state_ids.specs.declared.TheConstants.{LAST_NUMBER}
use Rattle.state_ids.proofs.Pairs.{join_above}
use Rattle.theory_history.proofs.JoinedFronts.{length_join}
use Rattle.node_inbox.specs.Tellings.{Told}
use Rattle.node_replication.specs.Followers.{wants_any}
use Rattle.node_agenda.specs.Starts.{IsOpened, IsOpenedAt, are_met, count_at, heard_by, heard_now, own_awaited}
use Rattle.node_agenda.specs.Tasks.{may_enter}
use Rattle.node_agenda.specs.declared.start_state.StartState.{StartState}
use Rattle.node_core.specs.Calls.{is_admitted}
use Rattle.node_core.specs.Doubts.{IsBarred}
use Rattle.node_core.specs.Nodes.{answers_nothing, takes_commands}
use Rattle.node_core.specs.Pulls.{after_told, casts_doubt, heard_of, in_doubt, is_newer_than}
use Rattle.node_core.specs.declared.calls.AskedCall.{AskedCall}
use Rattle.node_core.specs.declared.calls.Caller.TheVariants.{Worker}
use Rattle.node_core.specs.declared.node_state.NodeState.{NodeState}

-- what is told never makes fewer facts awaited
heard_more : (other : ℕ) (told known : List ℕ) (o : StartState) (here : Bool)
    → count o.awaited o.me ≤ count (if here then heard_now other told known o else o).awaited o.me
heard_more other told known o true = (join_above o.awaited told).0 o.me
heard_more other told known o false = omega arith

heard_closed : (other : ℕ) (told known : List ℕ) (o : StartState) (here : Bool) → o.is_open ≡ false
    → (if here then heard_now other told known o else o).is_open ≡ false
heard_closed other told known o true closed = rw closed refl
heard_closed other told known o false closed = closed

heard_me : (other : ℕ) (told known : List ℕ) (o : StartState) (here : Bool) → (if here then heard_now other told known o else o).me ≡ o.me
heard_me other told known o true = refl
heard_me other told known o false = refl

pub heard : (other : ℕ) (told known : List ℕ) (o : StartState) → IsBarred o → IsBarred (heard_by other told known o)
heard other told known o barred = (
  heard_closed other told known o (length told == length o.awaited) barred.0,
  subst (λ (me : ℕ). LAST_NUMBER ≤ count (heard_by other told known o).awaited me) (sym (heard_me other told known o (length told == length o.awaited)))
      (omega (arith, barred.1, heard_more other told known o (length told == length o.awaited))),
)

-- a telling that casts doubt bars them
set_same : (v : List ℕ) (node value : ℕ) → 1 ≤ node → node ≤ length v → count (count_at node value v) node ≡ value
set_same v node value some few =
    rw (le-leb node (length v) few) (get_or-set_same v (node - 1) value 0 (omega (arith, some, few)))

heard_length : (other : ℕ) (told known : List ℕ) (o : StartState) (here : Bool) → (length told == length o.awaited) ≡ here
    → length (if here then heard_now other told known o else o).awaited ≡ length o.awaited
heard_length other told known o true is = length_join o.awaited told (sym (eqb-true (length told) (length o.awaited) is))
heard_length other told known o false is = refl

own_barred : (o : StartState) → 1 ≤ o.me → o.me ≤ length o.awaited → IsBarred (own_awaited LAST_NUMBER o)
own_barred o some few = (refl, omega (arith, set_same o.awaited o.me (max (count o.awaited o.me) LAST_NUMBER) some few))

doubts : (wants entered newer takes : Bool) → ((wants && entered) && (newer && takes)) ≡ true → wants ≡ true
doubts true entered newer takes e = refl
doubts false entered newer takes e = absurd cc

or_true : (a b : Bool) → b ≡ true → (a || b) ≡ true
or_true true b e = refl
or_true false b e = e

barred_by : (told : Told) (n : NodeState) → wants_any n.followers ≡ true → 1 ≤ n.mail.opening.me → n.mail.opening.me ≤ length n.mail.opening.awaited
    → ((in_doubt (heard_of told n)).followers.is_doubted ≡ true) × IsBarred (in_doubt (heard_of told n)).mail.opening
barred_by told n wants some few =
    let o = n.mail.opening in
    let here = length told.frame.front == length o.awaited in
    let h = heard_by told.from told.frame.front n.mail.known.front o in
    let me : h.me ≡ o.me = heard_me told.from told.frame.front n.mail.known.front o here in
    let long : length h.awaited ≡ length o.awaited = heard_length told.from told.frame.front n.mail.known.front o here refl in (
      or_true n.followers.is_doubted (wants_any n.followers) wants,
      own_barred h (omega (arith, me, some)) (omega (arith, me, long, few)),
    )

pub told : (told : Told) (n : NodeState) → casts_doubt told n ≡ true → 1 ≤ n.mail.opening.me → n.mail.opening.me ≤ length n.mail.opening.awaited
    → ((after_told told n).followers.is_doubted ≡ true) × IsBarred (after_told told n).mail.opening
told t n casts some few =
    subst (λ (doubt : Bool). ((if doubt then in_doubt (heard_of t n) else heard_of t n).followers.is_doubted ≡ true)
    × IsBarred (if doubt then in_doubt (heard_of t n) else heard_of t n).mail.opening) (sym casts)
    (barred_by t n (doubts (wants_any n.followers) n.has_entered (is_newer_than t n) n.mail.opening.is_open casts) some few)

-- no worker's call is admitted that may store something
no_doubted : (a b doubted rest : Bool) → doubted ≡ true → (a && (b && not (doubted || rest))) ≡ false
no_doubted true true true rest e = refl
no_doubted true false true rest e = refl
no_doubted false b true rest e = refl
no_doubted a b false rest e = absurd cc

not_admitted : (a enters takes : Bool) → enters ≡ true → takes ≡ false → (a && (not enters || takes)) ≡ false
not_admitted true true takes e f = f
not_admitted false true takes e f = refl
not_admitted a false takes e f = absurd cc

pub refused : (now : Duration) (asked : AskedCall) (n : NodeState) → n.followers.is_doubted ≡ true → asked.enters ≡ true → is_admitted Worker asked now n ≡ false
refused now asked n doubted enters =
    not_admitted (asked.pulls || not (answers_nothing n)) asked.enters (takes_commands now n) enters
    (no_doubted (not n.is_ending) (may_enter now n.mail) n.followers.is_doubted (wants_any n.followers && (n.followers.is_strict && n.followers.spread.is_short)) doubted)

-- it doesn't open at a look
not_own : (has rest : Bool) → has ≡ false → IsTrue (has && rest) → ⊥
not_own true rest e is = absurd cc
not_own false rest e is = absurd cc

few_own : (awaited own : ℕ) → LAST_NUMBER ≤ awaited → own < LAST_NUMBER → nat_le awaited own ≡ false
few_own awaited own many few = lt-leb awaited own (omega (arith, many, few))

not_open : (opens : Bool) → (opens ≡ true → ⊥) → opens ≡ false
not_open true shut = absurd (shut refl)
not_open false shut = refl

looked_at : (now : Duration) (front : List ℕ) (old new : StartState) → IsBarred old → count front old.me < LAST_NUMBER → IsOpenedAt now front old new
    → new.is_open ≡ false
looked_at now front old new barred few is = not_open new.is_open (λ opens.
    not_own (nat_le (count old.awaited old.me) (count front old.me)) (are_met (count front old.me) old.claimed && are_met (count front old.me) old.doubtful)
    (few_own (count old.awaited old.me) (count front old.me) barred.1 few) (is.opens.0 opens).0)

pub looked : (now : Duration) (front : List ℕ) (old new : StartState) (opens : Bool) → IsBarred old → count front old.me < LAST_NUMBER → IsOpened now front old new opens
    → (opens ≡ false) × IsBarred new
looked now front old new opens barred few is =
    let at : IsOpenedAt now front old new × (opens ≡ new.is_open) =
    subst (λ (flag : Bool). MatchBool flag ((new ≡ old) × (opens ≡ false)) (IsOpenedAt now front old new × (opens ≡ new.is_open))) barred.0 is in
    let shut : new.is_open ≡ false = looked_at now front old new barred few at.0 in
    (at.1 ∙ shut, (shut, subst (λ (o : StartState). LAST_NUMBER ≤ count o.awaited o.me) (sym at.0.rest) barred.1))
