-- A clerk's list of receipts, and how a call changes it.
use Rattle.std.specs.Prelude.{◌≡◌, ◌⊎◌, ◌-◌, ◌++◌, ◌∷◌, ℕ, List, [], Option, Some, None, Result, Ok, Err, length, slice_get}
use Rattle.state_facts.specs.declared.refusal.Refusal.{Refusal}
use Rattle.state_facts.specs.declared.refusal.Refusal.TheVariants.{NoMemory, JournalFailed, Stopped, RunFull, TrailLost}
use Rattle.state_book.specs.declared.calls.Call.{Call}
use Rattle.state_book.specs.declared.calls.Receipt.{Receipt}
use Rattle.state_book.specs.declared.calls.Reply.{Reply}
use Rattle.state_book.specs.declared.calls.Reply.TheVariants.{Quiet}
use Rattle.state_book.specs.Books.{BookState, IsEntered, IsNotEntered}
use Rattle.state_book.specs.Desks.{IsCalled, Opening, PassState}

-- a refusal of a clerk's own: E17 to E21
abbrev pub IsOfClerk : Refusal → Type 0
IsOfClerk NoMemory = Unit {0}
IsOfClerk JournalFailed = Unit {0}
IsOfClerk Stopped = Unit {0}
IsOfClerk RunFull = Unit {0}
IsOfClerk (TrailLost number) = Unit {0}
IsOfClerk _ = ⊥

-- the receipt of the call with its reply is put at the end of the list, or the call is refused with
-- E17 to E21, and the list is unchanged
abbrev pub IsOutcome : (old new : List Receipt) → Call → Result Reply Refusal → Type 0
IsOutcome old new asked (Ok reply) = (index : ℕ) × (new ≡ old ++ record { index = index; call = asked; reply = reply } ∷ [])
IsOutcome old new asked (Err refusal) = (new ≡ old) × IsOfClerk refusal

abbrev pub reply_in : Option Receipt → Reply
reply_in None = Quiet
reply_in (Some r) = r.reply

-- the reply of the last receipt
abbrev pub last_reply : List Receipt → Reply
last_reply receipts = reply_in (slice_get receipts (length receipts - 1))

-- a book, a pass that has seen this many entries, and the receipts
pub record ClerkState (S : Type 0) : Type 0 where
  pub book : BookState S
  pub seen : ℕ
  pub receipts : List Receipt

-- one more receipt, of an entry of the book
pub record IsEnteredBy {S : Type 0} (old new : ClerkState S) (asked : Call) (now : ℕ) : Type 0 where
  pub receipt : Receipt
  pub entered : IsEntered old.book old.seen new.book asked now receipt
  pub kept : new.receipts ≡ old.receipts ++ receipt ∷ []

-- the book refused the call, or memory ran out before the book was asked
pub record IsRefusedBy {S : Type 0} (old new : ClerkState S) (asked : Call) (refusal : Refusal) : Type 0 where
  pub cause : ((refusal ≡ NoMemory) × (new.book ≡ old.book)) ⊎ IsNotEntered old.book old.seen new.book asked refusal
  pub seen : new.seen ≡ old.seen
  pub receipts : new.receipts ≡ old.receipts

-- What a book's clerk ensures of one call: it is entered, with its reply, or refused
abbrev pub BookCalled : {S : Type 0} → (old new : ClerkState S) → Call → ℕ → Result Reply Refusal → Type 0
BookCalled old new asked now (Ok reply) = IsEnteredBy old new asked now
BookCalled old new asked now (Err refusal) = IsRefusedBy old new asked refusal

-- What a desk's clerk ensures of one call: its receipt stands in a legal trail with all receipts
-- before it, or the pass is as it was
abbrev pub DeskCalled : Opening → (old new : PassState) → Call → ℕ → Result Reply Refusal → Type 0
DeskCalled opening old new asked now (Ok reply) = IsCalled opening old new asked now
DeskCalled opening old new asked now (Err refusal) = new ≡ old
