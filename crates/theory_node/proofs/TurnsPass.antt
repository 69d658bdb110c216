-- What the writer thread does between two calls passes.
use Rattle.std.proofs.Common.{◌≡◌, ◌<◌, ◌∙◌, ℕ, Bool, true, false, List, Option, None, Some, ap, length, refl}
use Rattle.std.specs.Prelude.{MatchBool, MatchOption, if◌then◌else◌, nat_lt}
use Rattle.std.specs.declared.time.Duration.{Duration}
use Rattle.state_ids.specs.Fronts.{count}
use Rattle.state_ids.specs.declared.TheConstants.{LAST_NUMBER}
use Rattle.wire_callbacks.specs.declared.duty.Duty.{Duty}
use Rattle.node_replication.specs.Followers.{Followed, kept, kept_with, put_off_to, to_call, with_spread}
use Rattle.node_replication.specs.Spreads.{looked, target}
use Rattle.node_replication.specs.declared.followers_state.Released.{Released}
use Rattle.node_agenda.specs.Hearing.{IsLetGo, IsListed, IsPut}
use Rattle.node_agenda.specs.Mail.{Mail, asked, is_anyone, looked as looked_at, put_off, stirred, with_asking, with_backlog, with_calls, with_hurry, with_known, with_last, with_letters, with_opening, with_since, with_sweeps, with_wanted}
use Rattle.node_agenda.specs.Since.{at_rest}
use Rattle.node_agenda.specs.Starts.{IsOpened, IsOpenedAt}
use Rattle.node_agenda.specs.Tasks.{Does, DoesIf, IsNextKind, has}
use Rattle.node_agenda.specs.declared.start_state.StartState.{StartState}
use Rattle.node_agenda.specs.declared.task.OperatorWant.TheVariants.{Nothing}
use Rattle.node_agenda.specs.declared.task.Task.{Task}
use Rattle.node_agenda.specs.declared.task.Task.TheVariants.{Ask, Rest}
use Rattle.node_agenda.specs.declared.turn.Turn.{Turn}
use Rattle.node_agenda.specs.declared.turn.Turn.TheVariants.{OfChores, OfCount, OfDeadlines, OfDuties, OfErrand, OfLetters, OfTelling}
use Rattle.node_core.specs.Doubts.{IsBarred}
use Rattle.node_core.specs.Nodes.{with_followers, with_mail}
use Rattle.node_core.specs.Turns.{IsHandedOn, IsLetGoIf, IsListPut, IsListedIf, IsNext, IsNextOf, IsReadied, IsReleased, asking_if, asks_others, opened_if, stirred_if, without_news}
use Rattle.node_core.specs.declared.node_state.NodeState.{NodeState}
use Rattle.node_core.specs.declared.turns.Readied.{Readied}
use Rattle.node_core.specs.declared.turns.Wakeups.{Wakeups}
use Rattle.theory_node.proofs.Passing.{MailSame, Passes, and_then, mail_moved, mail_passes, moved, opening_passes, same, untouched}

-- ---- a list of duties
with_put_off : (is_whole : Bool) (m : Mail) → MailSame m (if is_whole then m else with_asking (put_off m.asking) m)
with_put_off true m = (refl, refl)
with_put_off false m = (refl, refl)

lists : (is_whole : Bool) (duties : List Duty) (now : Duration) (old new : Mail) → MatchBool is_whole (IsPut duties now old new) (IsLetGo now old new) → MailSame old new
lists true duties now old new is =
    mail_moved old (with_since at_rest (with_calls new.calls (if is.is_whole then old else with_asking (put_off old.asking) old))) new is.rest (with_put_off is.is_whole old)
lists false duties now old new is = mail_moved old (with_since at_rest (with_calls new.calls (with_asking (stirred old.asking) old))) new is.rest (refl, refl)

keeps : (waits : Bool) (f g h : Followed (List Duty)) → f.is_doubted ≡ h.is_doubted → g.is_doubted ≡ h.is_doubted → (if waits then f else g).is_doubted ≡ h.is_doubted
keeps true f g h is or = is
keeps false f g h is or = or

keeps_doubt : (duties : List Duty) (now : Duration) (f : Followed (List Duty)) → (kept duties now f).is_doubted ≡ f.is_doubted
keeps_doubt duties now f =
    keeps (nat_lt 0 (target (looked f.spread))) (kept_with (target (looked f.spread)) duties now (with_spread (looked f.spread) f)) (with_spread (looked f.spread) f) f refl refl

puts : (called : Option (List Duty)) (duties : List Duty) (now : Duration) (old new : NodeState) (A B : Type 0)
    → MatchOption called (A × (new ≡ record old { followers = kept duties now old.followers; has_news = true }))
    (λ (list : List Duty). B × IsListed list now old.mail new.mail × (new ≡ with_mail new.mail (with_followers (kept duties now old.followers) old))) → Passes old new
puts None duties now old new A B is =
    let next : NodeState = record old { followers = kept duties now old.followers; has_news = true } in
    moved old next new is.1 (untouched old next (record { opening = refl; known = refl; doubted = keeps_doubt duties now old.followers }))
puts (Some list) duties now old new A B is =
    let next : NodeState = with_mail new.mail (with_followers (kept duties now old.followers) old) in
    moved old next new is.2 (mail_passes old next (lists old.mail.since.is_whole list now old.mail new.mail is.1) (keeps_doubt duties now old.followers))

pub putting_a_list : (duties : List Duty) (now : Duration) (old new : NodeState) (is_put : Bool) → IsListPut duties now old new is_put → Passes old new
putting_a_list duties now old new is_put is = puts (to_call duties old.followers) duties now old new (is_put ≡ false) (is_put ≡ true) is

-- ---- what is readied
list_goes : (list : Option (List Duty)) (now : Duration) (old new : Mail) → IsListedIf list now old new → MailSame old new
list_goes None now old new is = mail_moved old old new is (refl, refl)
list_goes (Some duties) now old new is = lists old.since.is_whole duties now old new is

stirs : (asks : Bool) (m : Mail) → MailSame m (stirred_if asks m)
stirs true m = (refl, refl)
stirs false m = (refl, refl)

goes : (out : Option (Released (List Duty))) (now : Duration) (old new : Mail) (is_put asks_again : Bool) → IsLetGoIf out now old new is_put asks_again → MailSame old new
goes None now old new is_put asks_again is = mail_moved old old new is.0 (refl, refl)
goes (Some released) now old new is_put asks_again is =
    let listed : MailSame old is.listed = list_goes released.list now old is.listed is.put in
    let stirred : MailSame is.listed new = mail_moved is.listed (stirred_if released.asks_again is.listed) new is.rest (stirs released.asks_again is.listed) in
    (stirred.0 ∙ listed.0, stirred.1 ∙ listed.1)

releases : (now : Duration) (old new : NodeState) (is_put asks_again : Bool) → IsReleased now old new is_put asks_again → Passes old new
releases now old new is_put asks_again is =
    let next : NodeState = with_mail new.mail (with_followers new.followers old) in
    moved old next new is.rest
    (mail_passes old next (goes is.out now old.mail new.mail is_put asks_again is.goes) (ap (λ (f : Followed (List Duty)). f.is_doubted) is.going.left))

-- who is barred doesn't open at a look, until it has all facts that there can be
abbrev pub LookStays : Type 0
LookStays =
    (now : Duration) → (front : List ℕ) → (old new : StartState) → (opens : Bool) → IsBarred old → count front old.me < LAST_NUMBER → IsOpened now front old new opens
    → (opens ≡ false) × IsBarred new

opens_same : (is_open : Bool) (A B : Type 0) (now : Duration) (front : List ℕ) (old new : StartState) → MatchBool is_open ((new ≡ old) × A) (IsOpenedAt now front old new × B)
    → (new.me ≡ old.me) × (new.awaited ≡ old.awaited)
opens_same true A B now front old new is = (ap (λ (o : StartState). o.me) is.0, ap (λ (o : StartState). o.awaited) is.0)
opens_same false A B now front old new is = (ap (λ (o : StartState). o.me) is.0.rest, ap (λ (o : StartState). o.awaited) is.0.rest)

opens_if : (has_opened : Bool) (n m : NodeState) → Passes n m → Passes n (opened_if has_opened m)
opens_if true n m passes = and_then n m (opened_if true m) passes (untouched m (opened_if true m) (record { opening = refl; known = refl; doubted = refl }))
opens_if false n m passes = passes

pub readying : LookStays → (now : Duration) (old new : NodeState) (readied : Readied) → IsReadied now old new readied → Passes old new
readying looks now old new readied is =
    let released : NodeState = is.released in
    let o : StartState = new.mail.opening in
    let next : NodeState = with_mail (with_calls new.mail.calls (with_opening o released.mail)) released in
    let kept : (o.me ≡ released.mail.opening.me) × (o.awaited ≡ released.mail.opening.awaited) =
    opens_same released.mail.opening.is_open (readied.has_opened ≡ false) (readied.has_opened ≡ o.is_open) now released.mail.known.front released.mail.opening o is.opening in
    let opens : Passes released next =
    opening_passes released next refl refl kept.0 (ap (λ (v : List ℕ). length v) kept.1)
    (λ barred few. (looks now released.mail.known.front released.mail.opening o readied.has_opened barred few is.opening).1) in
    and_then old released new (releases now old released readied.is_put readied.asks_again is.release)
    (moved released (opened_if readied.has_opened next) new is.rest (opens_if readied.has_opened released next opens))

-- ---- the next task
does : (now : Duration) (kind : Turn) (old new : Mail) (todo : Task) → Does now kind old new todo → MailSame old new
does now OfDeadlines old new todo is =
    mail_moved old (with_last OfDeadlines (with_asking (looked_at now (is_anyone old) new.asking.ticks_at old.asking) old)) new is.rest (refl, refl)
does now OfCount old new todo is =
    mail_moved old
    (with_last OfCount (with_known (record { front = old.known.front; is_counted = old.known.is_counted; is_to_count = false; counts_at = new.known.counts_at }) old)) new is.rest
    (refl, refl)
does now OfLetters old new todo is = mail_moved old (with_last OfLetters (with_letters new.letters old)) new is.rest (refl, refl)
does now OfTelling old new todo is = mail_moved old (with_last OfTelling (with_backlog new.backlog old)) new is.rest (refl, refl)
does now OfChores old new todo is = mail_moved old (with_last OfChores (with_sweeps new.sweeps old)) new is.rest (refl, refl)
does now OfErrand old new todo is = mail_moved old (with_last OfErrand (with_wanted Nothing old)) new is.1 (refl, refl)
does now OfDuties old new todo is = mail_moved old (with_last OfDuties (with_asking (asked now old.asking) old)) new is.1 (refl, refl)

does_if : (now : Duration) (kind : Option Turn) (old new : Mail) (todo : Task) → DoesIf now kind old new todo → MailSame old new
does_if now None old new todo is = mail_moved old old new is.1 (refl, refl)
does_if now (Some kind) old new todo is = does now kind old new todo is

nexts : (is_hurried : Bool) (A : Type 0) (now : Duration) (old new : Mail) (todo : Task)
    → MatchBool is_hurried (A × (new ≡ with_hurry false old)) ((kind : Option Turn) × IsNextKind old.last (has now old) kind × DoesIf now kind old new todo) → MailSame old new
nexts true A now old new todo is = mail_moved old (with_hurry false old) new is.1 (refl, refl)
nexts false A now old new todo is = does_if now is.0 old new todo is.2

next_passes : (next todo : Task) (old new : NodeState) → MailSame old.mail new.mail → IsNextOf next old new todo → Passes old new
next_passes Ask todo old new mail is =
    let left : NodeState = with_mail new.mail (with_followers (put_off_to old.followers) old) in
    moved old left new is.1 (mail_passes old left mail refl)
next_passes next todo old new mail is = moved old (with_mail new.mail old) new is.1 (mail_passes old (with_mail new.mail old) mail refl)

pub taking_a_task : (now : Duration) (old new : NodeState) (todo : Task) → IsNext now old new todo → Passes old new
taking_a_task now old new todo is = next_passes is.next todo old new (nexts old.mail.is_hurried (is.next ≡ Rest) now old.mail new.mail is.next is.is) is.does

-- ---- what is handed on
asks_if : (asks : Bool) (n : NodeState) → Passes n (asking_if asks n)
asks_if true n = mail_passes n (asking_if true n) (refl, refl) refl
asks_if false n = same n

pub handing_on : (now : Duration) (old new : NodeState) (wakeups : Wakeups) → IsHandedOn now old new wakeups → Passes old new
handing_on now old new wakeups is =
    let asks = asks_others is.do_all_listen old in
    let quiet : NodeState = without_news old in
    moved old (asking_if asks quiet) new is.asked
    (and_then old quiet (asking_if asks quiet) (untouched old quiet (record { opening = refl; known = refl; doubted = refl })) (asks_if asks quiet))
