-- A book as contracts see it, and what a call to it does.
use Rattle.std.specs.Prelude.{◌≡◌, ◌≤◌, ◌⊎◌, ◌&&◌, ◌||◌, ◌++◌, ◌∷◌, ℕ, Bool, true, false, Option, Some, None, List, [], ◌+◌, IfSome, IsTrue, if◌then◌else◌, length, nat_le, nat_lt}
use mathlib.Core.Bool.{not}
use Rattle.state_facts.specs.declared.refusal.Refusal.{Refusal}
use Rattle.state_facts.specs.declared.refusal.Refusal.TheVariants.{JournalFailed, NoMemory, RunFull, Stopped, TrailLost}
use Rattle.state_facts.specs.Refusals.{first, unless}
use Rattle.theory_history.specs.Views.{View}
use Rattle.state_book.specs.declared.calls.Call.{Call}
use Rattle.state_book.specs.declared.calls.Entry.{Entry}
use Rattle.state_book.specs.declared.calls.Receipt.{Receipt}
use Rattle.state_book.specs.declared.calls.Reply.{Reply}
use Rattle.sqlite_trees.specs.declared.store.Store.{Ghosts}
use Rattle.sqlite.specs.Held.{Held, state}
use Rattle.sqlite.specs.State.{HasCleanDisk, Survives}
use Rattle.sqlite.specs.Tree.{Trees}
use Rattle.state_journal.specs.Keeping.{IsCounted, IsOwn, JournalState, Keeps}
use Rattle.state_journal.specs.Ruled.{KeepsRules}
use Rattle.wire_frames.specs.declared.version.Version.{Version}
use Rattle.state_journal.specs.Stands.{Stands, StandsAs}
use Rattle.state_journal.specs.Tables.{IsJournal}
use Rattle.state_book.specs.Next.{IsNext, is_move}
use Rattle.state_book.specs.Trails.{LeadsTo, entry}

-- A node's number, its view, and its journal. Of the current run it has the view at its opening, or
-- none if there is no run, and the calls since then. It also says whether the journal failed
pub record BookState (S : Type 0) : Type 0 where
  pub me : ℕ
  pub records : View
  pub journal : JournalState S
  pub opening : Option View
  pub trail : List Entry
  pub stopped : Bool

-- how many calls of a trail move a frame
abbrev pub moves_in : List Entry → ℕ
moves_in [] = 0
moves_in (e ∷ es) = (if is_move e.call then 1 else 0) + moves_in es

-- the trail of the current run is legal from its opening, and its replay is the view
abbrev pub IsLegal : {S : Type 0} → BookState S → Type 0
IsLegal book = IfSome book.opening (λ opening. LeadsTo book.me opening book.trail book.records)

-- What every book satisfies: the trail is legal, and the journal's rows stand for the view
pub record IsBook {S : Type 0} (g : Ghosts S) (book : BookState S) : Type 0 where
  pub node : book.me ≤ length book.records.front
  pub legal : IsLegal book
  pub stored : Keeps g book.me book.journal book.records
  pub few : length book.trail ≤ 1024

-- a run has room for one more entry of this call: at most 1,024 entries, and at most 16 that move a
-- frame
abbrev pub has_room_for : List Entry → Call → Bool
has_room_for trail asked = nat_lt (length trail) 1024 && (not (is_move asked) || nat_lt (moves_in trail) 16)

-- the refusals of a call that come before all else, in their order, for a pass that has seen this
-- many entries
abbrev pub refusal_at_once : {S : Type 0} → BookState S → (seen : ℕ) → Call → Option Refusal
refusal_at_once book seen asked =
    first (unless (not book.stopped) Stopped ∷ unless (nat_le seen (length book.trail)) (TrailLost (length book.trail))
    ∷ unless (has_room_for book.trail asked) RunFull ∷ [])

-- One more entry, of this call and moment, with the node's next reply, and its next view. The
-- receipt says the same
pub record IsEntered {S : Type 0} (old : BookState S) (seen : ℕ) (new : BookState S) (asked : Call) (now : ℕ) (r : Receipt) : Type 0 where
  pub free : refusal_at_once old seen asked ≡ None
  pub index : r.index ≡ length old.trail
  pub call : r.call ≡ asked
  pub next : IsNext old.me old.records asked now r.reply new.records
  pub trail : new.trail ≡ old.trail ++ entry asked now r.reply ∷ []
  pub opening : new.opening ≡ old.opening
  pub node : new.me ≡ old.me
  pub running : new.stopped ≡ false

-- everything except the journal and the stop is as it was
pub record Stays {S : Type 0} (old new : BookState S) : Type 0 where
  pub node : new.me ≡ old.me
  pub records : new.records ≡ old.records
  pub opening : new.opening ≡ old.opening
  pub trail : new.trail ≡ old.trail

-- What is refused later: memory ran out, and the book goes on; or the database refused, and the
-- book stops
abbrev pub IsRefusedLate : {S : Type 0} → (old new : BookState S) → Refusal → Type 0
IsRefusedLate old new NoMemory = Stays old new × (new.stopped ≡ false)
IsRefusedLate old new JournalFailed = Stays old new × (new.stopped ≡ true) × IsCounted old.journal.refusals new.journal.refusals
IsRefusedLate old new _ = ⊥

-- the reason why a patch isn't stored: memory ran out, or the database refused, which is counted
abbrev pub IsStoreFault : {S : Type 0} → (old new : JournalState S) → Refusal → Type 0
IsStoreFault old new NoMemory = new.refusals ≡ old.refusals
IsStoreFault old new JournalFailed = IsCounted old.refusals new.refusals
IsStoreFault old new _ = ⊥

-- the reason why a call is not entered
abbrev pub IsNotEntered : {S : Type 0} → (old : BookState S) → (seen : ℕ) → (new : BookState S) → Call → Refusal → Type 0
IsNotEntered old seen new asked refusal =
    ((refusal_at_once old seen asked ≡ Some refusal) × (new ≡ old))
    ⊎ ((refusal_at_once old seen asked ≡ None) × IsRefusedLate old new refusal)

-- If the journal's rows stand for the view, a stop in a call may leave rows for the next view
abbrev pub MayCommit : {S : Type 0} → Ghosts S → (old : BookState S) → Call → (now : ℕ) → Trees → Type 0
MayCommit g old asked now db = IsJournal (state g old.journal.connection) → Stands old.me (state g old.journal.connection).now.trees old.records →
    (reply : Reply) × (next : View) × IsNext old.me old.records asked now reply next × Stands old.me db next

-- The records, and the next ones, keep the rules by which rows are read
pub record AreRuled {S : Type 0} (old : BookState S) (asked : Call) (now : ℕ) : Type 0 where
  pub before : KeepsRules old.records
  pub next : (reply : Reply) (b : View) → IsNext old.me old.records asked now reply b → KeepsRules b

-- A start after a call. The call left the connection in this state, a stop may leave these rows of
-- it, and they stand for what is found
pub record IsStartedBehind {S : Type 0} (g : Ghosts S) (old : BookState S) (asked : Call) (now : ℕ) (left : Held S) (db : Trees) (found : View) : Type 0 where
  pub own : IsOwn (state g old.journal.opened)
  pub was_open : IsTrue (state g old.journal.connection).is_open
  pub survives : Survives (state g old.journal.connection) (state g left) (MayCommit g old asked now)
  pub clean : HasCleanDisk (state g left)
  pub may : (state g left).may_leave db
  pub version : Version
  pub stands : StandsAs version old.me db found
  pub rules : KeepsRules found

-- a run began: there is no entry, and the opening is the view
pub record IsBegun {S : Type 0} (old new : BookState S) : Type 0 where
  pub node : new.me ≡ old.me
  pub records : new.records ≡ old.records
  pub journal : new.journal ≡ old.journal
  pub opening : new.opening ≡ Some old.records
  pub trail : new.trail ≡ []
  pub before : old.stopped ≡ false
  pub stopped : new.stopped ≡ false

-- the reason why no run began
abbrev pub IsNotBegun : {S : Type 0} → BookState S → Refusal → Type 0
IsNotBegun book Stopped = book.stopped ≡ true
IsNotBegun book NoMemory = book.stopped ≡ false
IsNotBegun book _ = ⊥

-- there is no run, and everything else is as it was
pub record IsEnded {S : Type 0} (old new : BookState S) : Type 0 where
  pub node : new.me ≡ old.me
  pub records : new.records ≡ old.records
  pub journal : new.journal ≡ old.journal
  pub opening : new.opening ≡ None
  pub trail : new.trail ≡ []
  pub stopped : new.stopped ≡ old.stopped

-- the book of a node, for this many nodes, with no run
pub record IsOpened {S : Type 0} (node nodes : ℕ) (book : BookState S) : Type 0 where
  pub me : book.me ≡ node
  pub count : length book.records.front ≡ nodes
  pub idle : book.opening ≡ None
  pub empty : book.trail ≡ []
  pub running : book.stopped ≡ false
