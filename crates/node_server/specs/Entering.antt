-- What the writer thread asks of its clerk.
use Rattle.std.specs.Prelude.{◌≡◌, ◌⊎◌, ◌∷◌, [], ⊤, ℕ, Bool, true, false, IfSome, List, Option, Some, None, Result, Ok, Err, not}
use Rattle.state_facts.specs.declared.refusal.Refusal.{Refusal}
use Rattle.state_facts.specs.declared.refusal.Refusal.TheVariants.{NoMemory}
use Rattle.state_facts.specs.declared.command.Command.{Command as TheCommand}
use Rattle.wire_callbacks.specs.HeardCommands.{command_heard}
use Rattle.wire_callbacks.specs.declared.duty.Duty.{Duty}
use Rattle.state_book.specs.declared.calls.Call.{Call}
use Rattle.state_book.specs.declared.calls.Call.TheVariants as call
use Rattle.state_book.specs.declared.calls.Reply.{Reply}
use Rattle.state_book.specs.declared.calls.Reply.TheVariants.{Due}
use Rattle.state_book.specs.declared.clerk.Clerk.{Ghosts as OfClerk}
use Rattle.wire_api.specs.Serving.{Makes}
use Rattle.node_inbox.specs.Letters.{Said}
use Rattle.node_agenda.specs.declared.task.Task.{Task}
use Rattle.node_agenda.specs.declared.task.Task.TheVariants as task
use Rattle.node_agenda.specs.declared.sweep.Chore.{Chore}
use Rattle.node_agenda.specs.declared.sweep.Chore.TheVariants as chore
use Rattle.node_agenda.specs.declared.task.OperatorWant.{OperatorWant}
use Rattle.node_agenda.specs.declared.task.OperatorWant.TheVariants.{Command, Nothing, Question}
use Rattle.node_effects.specs.Noting.{enters}

-- what is reported of a call: only why it was refused, if it was
abbrev pub told : Result Reply Refusal → Result ⊤ Refusal
told (Ok reply) = Ok tt
told (Err refusal) = Err refusal

-- the call is made, once, at some moment, and that is reported
abbrev pub IsMade : {C : Type 0} → OfClerk C → (old new : C) → Call → Result ⊤ Refusal → Type 0
IsMade clerk old new asked result =
    (now : ℕ) × (outcome : Result Reply Refusal) × Makes clerk old new now asked outcome × (result ≡ told outcome)

-- the same; or the call is made, and then there is no memory for its reply
abbrev pub IsMadeInMemory : {C : Type 0} → OfClerk C → (old new : C) → Call → Result ⊤ Refusal → Type 0
IsMadeInMemory clerk old new asked result =
    (now : ℕ) × (outcome : Result Reply Refusal) × Makes clerk old new now asked outcome
    × ((result ≡ told outcome) ⊎ (result ≡ Err NoMemory))

-- the call is made, once, and its result is handed on; or there is no memory for a copy
abbrev pub IsMadeAndCopied : {C : Type 0} → OfClerk C → (old new : C) → (now : ℕ) → Call → Result Reply Refusal → Type 0
IsMadeAndCopied clerk old new now asked result =
    (outcome : Result Reply Refusal) × Makes clerk old new now asked outcome × ((result ≡ outcome) ⊎ (result ≡ Err NoMemory))

-- the command is recorded, if there is one, and nothing else
abbrev pub EntersIf : {C : Type 0} → OfClerk C → (old new : C) → Option TheCommand → Result ⊤ Refusal → Type 0
EntersIf clerk old new None result = (new ≡ old) × (result ≡ Ok tt)
EntersIf clerk old new (Some command) result = IsMade clerk old new (call.Command command) result

-- for a letter, the command by what was learned in the call for its duty
abbrev pub EntersLetter : {C : Type 0} → OfClerk C → (old new : C) → Said → Result ⊤ Refusal → Type 0
EntersLetter clerk old new letter result =
    EntersIf clerk old new (command_heard letter.duty.id letter.duty.member letter.duty.act letter.heard) result

-- a pull is made that returns only counts, or memory for it ran out
abbrev pub Counts : {C : Type 0} → OfClerk C → (old new : C) → Result ⊤ Refusal → Type 0
Counts clerk old new result =
    ((body : List ℕ) × IsMade clerk old new (call.Pull body) result) ⊎ ((new ≡ old) × (result ≡ Err NoMemory))

-- one call for a chore: a page is listed, or a root purged if it still shows what it showed for as long as it was kept
abbrev pub DoesChore : {C : Type 0} → OfClerk C → (old new : C) → Chore → Result ⊤ Refusal → Type 0
DoesChore clerk old new (chore.List beyond) result = IsMade clerk old new (call.Survey beyond) result
DoesChore clerk old new (chore.Purge kept) result = IsMade clerk old new (call.Sweep kept.root kept.seen) result

-- whether a call may be made for operators who want a call of this kind: if they want a question,
-- none that may store something
abbrev pub fits : OperatorWant → Call → Bool
fits Nothing asked = false
fits Question asked = not (enters asked)
fits Command asked = true

-- the call that operators want, if there is one
abbrev pub MakesIf : {C : Type 0} → OfClerk C → (old new : C) → Option Call → Result ⊤ Refusal → Type 0
MakesIf clerk old new None result = (new ≡ old) × (result ≡ Ok tt)
MakesIf clerk old new (Some asked) result = IsMadeInMemory clerk old new asked result

-- At most one call for a task: an answer is recorded, what another node sent is taken, and so on.
abbrev pub DoesTask : {C : Type 0} → OfClerk C → (old new : C) → Task → Result ⊤ Refusal → Type 0
DoesTask clerk old new (task.Enter letter) result = EntersLetter clerk old new letter result
DoesTask clerk old new (task.Take telling) result = IsMade clerk old new (call.Take telling.frame) result
DoesTask clerk old new task.Ask result = IsMadeInMemory clerk old new call.Duties result
DoesTask clerk old new task.Tick result = IsMade clerk old new call.Expire result
DoesTask clerk old new task.Count result = Counts clerk old new result
DoesTask clerk old new (task.Sweep chore) result = DoesChore clerk old new chore result
DoesTask clerk old new (task.Errand wanted) result = (asked : Option Call) × IfSome asked (λ c. fits wanted c ≡ true) × MakesIf clerk old new asked result
DoesTask clerk old new task.Rest result = (new ≡ old) × (result ≡ Ok tt)

-- tasks are done one after another, the last first
abbrev pub DoesEach : {C : Type 0} → OfClerk C → (old : C) → List Task → (new : C) → Type 0
DoesEach clerk old [] new = new ≡ old
DoesEach clerk old (last ∷ before) new = (mid : _) × (result : Result ⊤ Refusal) × DoesEach clerk old before mid × DoesTask clerk mid new last result

-- the participants that are to be called, given a reply
abbrev pub duties_in : Reply → Option (List Duty)
duties_in (Due duties) = Some duties
duties_in _ = None
