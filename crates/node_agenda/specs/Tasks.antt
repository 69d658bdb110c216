-- What the writer thread does next: the kinds of tasks take turns, so that none waits for ever for
-- others.
use Rattle.std.specs.Prelude.{⊤, ◌≡◌, ◌≤◌, ◌-◌, ◌+◌, ◌∷◌, ◌&&◌, ℕ, Bool, true, false, Option, None, Some, MatchBool, if◌then◌else◌, length, nat_lt, not}
use Rattle.std.specs.Duration.{as_nanos}
use Rattle.std.specs.declared.time.Duration.{Duration}
use Rattle.node_inbox.specs.Tellings.{Told}
use Rattle.node_inbox.specs.Letters.{Said}
use Rattle.node_agenda.specs.Backlogs.{IsTakenNext, is_any_due}
use Rattle.node_agenda.specs.Mail.{Mail, asked, is_anyone, is_wanted, looked, with_asking, with_hurry, with_known, with_backlog, with_last, with_letters, with_sweeps, with_wanted}
use Rattle.node_agenda.specs.Moments.{IsAfter, is_by}
use Rattle.node_agenda.specs.Sweeps.{IsNextChore, is_chore}
use Rattle.node_agenda.specs.declared.sweep.Chore.{Chore}
use Rattle.node_agenda.specs.declared.task.Task.{Task}
use Rattle.node_agenda.specs.declared.task.Task.TheVariants.{Ask, Count, Enter, Errand, Rest, Sweep, Take, Tick}
use Rattle.node_agenda.specs.declared.task.OperatorWant.TheVariants.{Nothing, Question}
use Rattle.node_agenda.specs.declared.turn.Turn.{Turn}
use Rattle.node_agenda.specs.declared.turn.Turn.TheVariants.{OfChores, OfCount, OfDeadlines, OfDuties, OfErrand, OfLetters, OfTelling}

-- the kind whose turn comes after another's
abbrev pub after : Turn → Turn
after OfDeadlines = OfCount
after OfCount = OfLetters
after OfLetters = OfTelling
after OfTelling = OfDuties
after OfDuties = OfChores
after OfChores = OfErrand
after OfErrand = OfDeadlines

abbrev pub place_of : Turn → ℕ
place_of OfDeadlines = 0
place_of OfCount = 1
place_of OfLetters = 2
place_of OfTelling = 3
place_of OfDuties = 4
place_of OfChores = 5
place_of OfErrand = 6

-- how many turns it is from one kind to another: 1 to 7
abbrev pub turns_to : Turn → Turn → ℕ
turns_to last kind = if nat_lt (place_of last) (place_of kind) then place_of kind - place_of last else place_of kind + 7 - place_of last

-- whether nothing is stored at this moment, because the journal failed
abbrev pub is_spared : Duration → Mail → Bool
is_spared now m = nat_lt (as_nanos now) (as_nanos m.held_until)

-- whether facts of the node's own may be stored at this moment: the others were heard from, and the
-- journal hasn't just failed
abbrev pub may_enter : Duration → Mail → Bool
may_enter now m = m.opening.is_open && not (is_spared now m)

-- Whether there is a task of this kind at this moment. Before commands are accepted, tellings are
-- taken, the node's facts are counted, and operators' questions are answered, but nothing else.
-- While nothing is stored because the journal failed, only operators' questions are answered.
abbrev pub has : Duration → Mail → Turn → Bool
has now m OfDeadlines = may_enter now m && is_by now m.asking.ticks_at
has now m OfCount = not (is_spared now m) && (m.known.is_to_count && is_by now m.known.counts_at)
has now m OfLetters = may_enter now m && nat_lt 0 (length m.letters)
has now m OfTelling = not (is_spared now m) && is_any_due now m.backlog
has now m OfDuties = may_enter now m && m.asking.is_stirred
has now m OfChores = may_enter now m && is_chore now m.sweeps
has now m OfErrand = is_wanted (may_enter now m) m.wanted

-- the kind whose turn comes first after another's, of the kinds that have a task; none if no kind
-- has
pub record IsFirstAfter (last : Turn) (is_there : Turn → Bool) (kind : Turn) : Type 0 where
  pub there : is_there kind ≡ true
  pub first : (other : Turn) → is_there other ≡ true → turns_to last kind ≤ turns_to last other

abbrev pub IsNextKind : Turn → (Turn → Bool) → Option Turn → Type 0
IsNextKind last is_there None = (kind : Turn) → is_there kind ≡ false
IsNextKind last is_there (Some kind) = IsFirstAfter last is_there kind

-- deadlines are checked, and next after half a second
pub record LooksAtDeadlines (now : Duration) (old new : Mail) (task : Task) : Type 0 where
  pub is : task ≡ Tick
  pub next : IsAfter 500 now new.asking.ticks_at
  pub rest : new ≡ with_last OfDeadlines (with_asking (looked now (is_anyone old) new.asking.ticks_at old.asking) old)

-- the number of the node's facts is asked for, and not again within 50 milliseconds
pub record AsksForCount (now : Duration) (old new : Mail) (task : Task) : Type 0 where
  pub is : task ≡ Count
  pub next : IsAfter 50 now new.known.counts_at
  pub rest : new ≡ with_last OfCount (with_known (record { front = old.known.front; is_counted = old.known.is_counted; is_to_count = false; counts_at = new.known.counts_at }) old)

-- the oldest letter is stored
pub record EntersFirst (old new : Mail) (task : Task) : Type 0 where
  pub letter : Said
  pub is : task ≡ Enter letter
  pub first : old.letters ≡ letter ∷ new.letters
  pub rest : new ≡ with_last OfLetters (with_letters new.letters old)

-- a telling that waits is taken, node by node in turn
pub record TakesTold (now : Duration) (old new : Mail) (task : Task) : Type 0 where
  pub told : Told
  pub is : task ≡ Take told
  pub next : IsTakenNext now old.backlog new.backlog (Some told)
  pub rest : new ≡ with_last OfTelling (with_backlog new.backlog old)

-- the home is swept: the next chore is done
pub record DoesChore (now : Duration) (old new : Mail) (task : Task) : Type 0 where
  pub chore : Chore
  pub is : task ≡ Sweep chore
  pub next : IsNextChore now old.sweeps new.sweeps (Some chore)
  pub rest : new ≡ with_last OfChores (with_sweeps new.sweeps old)

-- what a task of a kind is, and what is left
abbrev pub Does : Duration → Turn → Mail → Mail → Task → Type 0
Does now OfDeadlines old new task = LooksAtDeadlines now old new task
Does now OfCount old new task = AsksForCount now old new task
Does now OfLetters old new task = EntersFirst old new task
Does now OfTelling old new task = TakesTold now old new task
Does now OfChores old new task = DoesChore now old new task
Does now OfErrand old new task = (task ≡ Errand old.wanted) × (new ≡ with_last OfErrand (with_wanted Nothing old))
Does now OfDuties old new task = (task ≡ Ask) × (new ≡ with_last OfDuties (with_asking (asked now old.asking) old))

abbrev pub DoesIf : Duration → Option Turn → Mail → Mail → Task → Type 0
DoesIf now None old new task = (task ≡ Rest) × (new ≡ old)
DoesIf now (Some kind) old new task = Does now kind old new task

-- What the writer thread does: it checks whether the run is over, if it was told to or there is
-- nothing to do; otherwise it does what has its turn
abbrev pub IsNextTask : Duration → Mail → Mail → Task → Type 0
IsNextTask now old new task =
    MatchBool old.is_hurried
    ((task ≡ Rest) × (new ≡ with_hurry false old))
    ((kind : Option Turn) × IsNextKind old.last (has now old) kind × DoesIf now kind old new task)

-- a task that stores no fact of the node's own: of operators' calls, only a question is served
abbrev pub StoresNothing : Task → Type 0
StoresNothing (Enter letter) = ⊥
StoresNothing (Take frame) = ⊤
StoresNothing Ask = ⊥
StoresNothing Tick = ⊥
StoresNothing Count = ⊤
StoresNothing (Sweep chore) = ⊥
StoresNothing (Errand wanted) = wanted ≡ Question
StoresNothing Rest = ⊤
