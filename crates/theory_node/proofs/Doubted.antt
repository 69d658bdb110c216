-- One in doubt stays in doubt.
use Rattle.std.proofs.Common.{◌≡◌, ◌⊎◌, inl, inr, ◌<◌, ◌≤◌, ◌∙◌, ℕ, Bool, true, false, List, Option, None, Some, ap, if◌then◌else◌, length, refl, subst, sym}
use Rattle.std.specs.Prelude.{◌&&◌, ◌==◌, MatchBool, MatchOption, nat_lt, not}
use Rattle.std.specs.declared.time.Duration.{Duration}
use Rattle.std.proofs.lemmas.Bool.{and_from, and_left, or_left}
use Rattle.state_ids.specs.Fronts.{count}
use Rattle.state_ids.specs.declared.TheConstants.{LAST_NUMBER}
use Rattle.node_inbox.specs.Tellings.{Told}
use Rattle.node_replication.specs.Followers.{refuses, wants_any}
use Rattle.node_agenda.specs.Asks.{is_of_before}
use Rattle.node_agenda.specs.Backlogs.{ended_of}
use Rattle.node_agenda.specs.Mail.{Mail}
use Rattle.node_agenda.specs.Tasks.{IsNextTask, StoresNothing, is_spared, may_enter}
use Rattle.node_agenda.specs.declared.start_state.StartState.{StartState}
use Rattle.node_agenda.specs.declared.task.Task.{Task}
use Rattle.node_agenda.specs.declared.task.Task.TheVariants.{Ask}
use Rattle.node_core.specs.Calls.{Admitted, Admits, begun_at, begun_by, is_admitted, step_of}
use Rattle.node_core.specs.Doubts.{IsBarred}
use Rattle.node_core.specs.Nodes.{is_lost, node_at_first, unready}
use Rattle.node_core.specs.Pulls.{IsHeard, IsReceived, after_told, casts_doubt, is_newer_than, meaning, refused_as}
use Rattle.node_core.specs.Turns.{IsNext, IsNextOf}
use Rattle.node_core.specs.declared.calls.AskedCall.{AskedCall}
use Rattle.node_core.specs.declared.calls.Caller.TheVariants.{Worker}
use Rattle.node_core.specs.declared.node_state.NodeState.{NodeState}
use Rattle.node_core.specs.declared.node_state.Unready.{Unready}
use Rattle.node_core.specs.declared.node_state.Unready.TheVariants.{Copies, Ending}
use Rattle.node_core.specs.declared.pulling.Receipt.{Receipt}
use Rattle.node_core.specs.declared.pulling.Receipt.TheVariants.{Lost, Newer, Outdated, Unanswered}
use Rattle.theory_node.specs.Steps.{AreSteps, IsInDoubt, IsReached, WasDoubted}
use Rattle.theory_node.proofs.Passing.{MailSame}
use Rattle.theory_node.proofs.Placed.{HasPlace, placed}
use Rattle.theory_node.proofs.PullsPass.{HeardStays, put_same}
use Rattle.theory_node.proofs.StepsPass.{AllPass, IsCaused, caused, steps_pass}
use Rattle.theory_node.proofs.TurnsPass.{LookStays}

-- a telling that casts doubt bars the node; and who is in doubt is refused
abbrev pub ToldBars : Type 0
ToldBars =
    (told : Told) → (n : NodeState) → casts_doubt told n ≡ true → 1 ≤ n.mail.opening.me → n.mail.opening.me ≤ length n.mail.opening.awaited
    → ((after_told told n).followers.is_doubted ≡ true) × IsBarred (after_told told n).mail.opening

abbrev pub IsRefused : Type 0
IsRefused = (now : Duration) → (asked : AskedCall) → (n : NodeState) → n.followers.is_doubted ≡ true → asked.enters ≡ true → is_admitted Worker asked now n ≡ false

-- ---- what casts doubt
not_refused : (other lost before : Bool) → Some Newer ≡ (if other then Some Unanswered else if lost then Some Lost else if before then Some Outdated else None) → ⊥
not_refused true lost before is = absurd cc
not_refused false true before is = absurd cc
not_refused false false true is = absurd cc
not_refused false false false is = absurd cc

newer_means : (is_newer is_older is_new : Bool) (ended : ℕ) → Newer ≡ meaning is_newer is_older is_new ended → is_newer ≡ true
newer_means true is_older is_new ended is = refl
newer_means false true is_new ended is = absurd cc
newer_means false false true ended is = absurd cc
newer_means false false false ended is = absurd cc

casts_from : (told : Told) (n : NodeState) → wants_any n.followers ≡ true → n.has_entered ≡ true → is_newer_than told n ≡ true → n.mail.opening.is_open ≡ true → casts_doubt told n ≡ true
casts_from told n wants entered newer opens =
    and_from (wants_any n.followers && n.has_entered) (is_newer_than told n && n.mail.opening.is_open) (and_from (wants_any n.followers) n.has_entered wants entered)
    (and_from (is_newer_than told n) n.mail.opening.is_open newer opens)

heard_casts : ToldBars → (asked : List ℕ) (told : Told) (old new : NodeState) (left : Option Told) → HasPlace old → wants_any old.followers ≡ true → old.has_entered ≡ true
    → old.mail.opening.is_open ≡ true → IsHeard asked told old new Newer left → IsInDoubt new
heard_casts bars asked told old new left place wants entered opens is =
    let newer : is_newer_than told old ≡ true =
    newer_means (is_newer_than told old) (nat_lt (count told.frame.front told.from) (count asked told.from)) is.is_new (ended_of told.from old.mail.backlog) is.means in
    let after = bars told old (casts_from told old wants entered newer opens) place.0 place.1 in
    let mail : MailSame (after_told told old).mail new.mail = put_same told (after_told told old).mail new.mail is.put.put is.put.is in
    let doubted : new.followers.is_doubted ≡ (after_told told old).followers.is_doubted = ap (λ (n : NodeState). n.followers.is_doubted) is.put.rest in
    (doubted ∙ after.0, subst (λ (o : StartState). IsBarred o) (sym mail.0) after.1)

casts_by : ToldBars → (refusal : Option Receipt) (asked : List ℕ) (seen : ℕ) (told : Told) (old new : NodeState) (left : Option Told) → refusal ≡ refused_as asked seen told old
    → HasPlace old → wants_any old.followers ≡ true → old.has_entered ≡ true → old.mail.opening.is_open ≡ true
    → MatchOption refusal (IsHeard asked told old new Newer left) (λ (refused : Receipt). (Newer ≡ refused) × (left ≡ Some told) × (new ≡ old)) → IsInDoubt new
casts_by bars None asked seen told old new left refused place wants entered opens is = heard_casts bars asked told old new left place wants entered opens is
casts_by bars (Some refusal) asked seen told old new left refused place wants entered opens is =
    absurd (not_refused (not (length told.frame.front == length asked)) (is_lost told.frame.front old) (is_of_before told.from seen (count told.frame.front told.from) old.asks)
    (ap (λ (r : Receipt). Some r) is.0 ∙ refused))

pub cast : HeardStays → LookStays → ToldBars → (asked : List ℕ) (seen : ℕ) (told : Told) (old new : NodeState) (left : Option Told) → IsReached old → wants_any old.followers ≡ true
    → old.has_entered ≡ true → old.mail.opening.is_open ≡ true → IsReceived asked seen told old new Newer left → IsInDoubt new
cast heard looks bars asked seen told old new left reached wants entered opens is =
    casts_by bars (refused_as asked seen told old) asked seen told old new left refl (placed heard looks old reached) wants entered opens is

-- ---- what stays so
pub stays : HeardStays → LookStays → (old new : NodeState) → IsInDoubt old → AreSteps old new → count new.mail.known.front new.mail.opening.me < LAST_NUMBER → IsInDoubt new
stays heard looks old new doubt steps few =
    let passes : AllPass old new = steps_pass heard looks old new steps in
    (passes.doubted doubt.0, passes.keeps.barred doubt.1 few)

not_admitted : (admits : Bool) (A : Type 0) (old new : NodeState) (result : Option Admitted) → admits ≡ false → MatchBool admits A ((result ≡ None) × (new ≡ old))
    → (result ≡ None) × (new ≡ old)
not_admitted true A old new result no_one is = absurd cc
not_admitted false A old new result no_one is = is

pub refused : HeardStays → LookStays → IsRefused → (asked : AskedCall) (place : ℕ) (now : Duration) (old new later : NodeState) (result : Option Admitted) → IsInDoubt old → AreSteps old new
    → asked.enters ≡ true → Admits Worker asked place now new later result → (result ≡ None) × (later ≡ new)
refused heard looks shuts_out asked place now old new later result doubt steps enters is =
    not_admitted (is_admitted Worker asked now new)
    ((result ≡ Some (record { caller = Worker; place = place; step = step_of Worker asked new })) × (later ≡ begun_at place now (begun_by (step_of Worker asked new) new))) new later result
    (shuts_out now asked new ((steps_pass heard looks old new steps).doubted doubt.0) enters) is

-- ---- what the writer thread does
abbrev pub NothingStored : Type 0
NothingStored = (now : Duration) → (old new : Mail) → (todo : Task) → may_enter now old ≡ false → IsNextTask now old new todo → StoresNothing todo

next_stores : (next todo : Task) (old new : NodeState) → StoresNothing next → IsNextOf next old new todo → StoresNothing todo
next_stores Ask todo old new stores is = absurd stores
next_stores next todo old new stores is = subst (λ (t : Task). StoresNothing t) (sym is.0) stores

pub rests : HeardStays → LookStays → NothingStored → (now : Duration) (old new later : NodeState) (todo : Task) → IsInDoubt old → AreSteps old new
    → count new.mail.known.front new.mail.opening.me < LAST_NUMBER → IsNext now new later todo → StoresNothing todo
rests heard looks nothing now old new later todo doubt steps few is =
    let barred : IsInDoubt new = stays heard looks old new doubt steps few in
    next_stores is.next todo new later
    (nothing now new.mail later.mail is.next (and_left new.mail.opening.is_open (not (is_spared now new.mail)) barred.1.0) is.is) is.does

-- ---- what operators see
says_copies : (is_ending refuses : Bool) (others : Option Unready) → is_ending ≡ false → refuses ≡ true
    → (if is_ending then Some Ending else if refuses then Some Copies else others) ≡ Some Copies
says_copies true refuses others goes_on is = absurd cc
says_copies false true others goes_on is = refl
says_copies false false others goes_on is = absurd cc

pub says : HeardStays → LookStays → (now : Duration) (old new : NodeState) → IsInDoubt old → AreSteps old new → new.is_ending ≡ false → unready now new ≡ Some Copies
says heard looks now old new doubt steps goes_on =
    says_copies new.is_ending (refuses new.followers) _ goes_on
    (or_left new.followers.is_doubted (wants_any new.followers && (new.followers.is_strict && new.followers.spread.is_short))
    ((steps_pass heard looks old new steps).doubted doubt.0))

-- ---- why a node is in doubt
pub has_cause : HeardStays → LookStays → (n : NodeState) → IsReached n → n.followers.is_doubted ≡ true → WasDoubted n
has_cause heard looks n is doubted = by (caused heard looks first n is.steps doubted)
  where
    first : NodeState
    first = node_at_first is.me is.nodes is.settings is.sweeping

    by : (first.followers.is_doubted ≡ true) ⊎ IsCaused first n → WasDoubted n
    by (inl at_first) = absurd cc
    by (inr it) = record {
      before = it.before;
      after = it.after;
      reached = record { me = is.me; nodes = is.nodes; some = is.some; few = is.few; settings = is.settings; sweeping = is.sweeping; steps = it.since };
      cast = it.cast;
      later = it.later;
    }
