-- What a pass shows, and what a desk's answers guarantee.
use Rattle.std.specs.Prelude.{◌≡◌, ◌+◌, ◌<◌, ◌≤◌, ◌==◌, ◌&&◌, ◌++◌, ◌∷◌, ℕ, Bool, Option, Some, None, List, [], count_by, if◌then◌else◌, length}
use Rattle.state_facts.specs.declared.refusal.Refusal.{Refusal}
use Rattle.state_facts.specs.declared.refusal.Refusal.TheVariants.{Strange, TrailLost}
use Rattle.theory_history.specs.Views.{View}
use Rattle.state_book.specs.declared.calls.Call.{Call}
use Rattle.state_book.specs.declared.calls.Entry.{Entry}
use Rattle.state_book.specs.declared.calls.Receipt.{Receipt}
use Rattle.state_book.specs.Trails.{AllStand, LeadsTo, entry, stands, tells}

-- where a run begins: its node, the node's view at that time, and whether it is known that its
-- journal was opened on a store of its own
pub record Opening : Type 0 where
  pub node : ℕ
  pub view : View
  pub own : Bool

-- a pass of a desk: how many entries it has seen, the number of its calls in the run's ledger, and
-- its receipts
pub record PassState : Type 0 where
  pub seen : ℕ
  pub share : ℕ
  pub receipts : List Receipt

-- There is a legal trail from the run's opening, one longer than the receipt's index, that has each
-- of the receipts at its index, and ends with the call, its moment and its reply
pub record HasTrail (opening : Opening) (receipts : List Receipt) (asked : Call) (now : ℕ) (r : Receipt) : Type 0 where
  pub before : List Entry
  pub after : View
  pub legal : LeadsTo opening.node opening.view (before ++ entry asked now r.reply ∷ []) after
  pub index : r.index ≡ length before
  pub call : r.call ≡ asked
  pub stand : AllStand (before ++ entry asked now r.reply ∷ []) receipts

-- a receipt of the call comes at the end of the pass's list, and stands with all others of the list
-- in one legal trail, which it ends
pub record IsCalled (opening : Opening) (old new : PassState) (asked : Call) (now : ℕ) : Type 0 where
  pub receipt : Receipt
  pub trail : HasTrail opening new.receipts asked now receipt
  pub last : new.receipts ≡ old.receipts ++ receipt ∷ []
  pub before : old.seen ≤ receipt.index
  pub after : new.seen ≡ receipt.index + 1
  pub counted : new.share ≡ old.share + 1

-- each of these receipts is of an entry that the pass has seen
abbrev pub AreSeen : (seen : ℕ) → List Receipt → Type 0
AreSeen seen [] = Unit {0}
AreSeen seen (r ∷ rs) = (r.index < seen) × AreSeen seen rs

-- if the refusal is that the trail is lost, it is lost at a place that the pass has seen
abbrev pub IsLostBelow : (seen : ℕ) → Refusal → Type 0
IsLostBelow seen (TrailLost number) = number < seen
IsLostBelow seen _ = Unit {0}

-- a pass that has seen nothing and made no call
abbrev pub new_pass : PassState
new_pass = record { seen = 0; share = 0; receipts = [] }

abbrev pub AreNew : List PassState → Type 0
AreNew [] = Unit {0}
AreNew (p ∷ ps) = (p ≡ new_pass) × AreNew ps

-- the receipt is that of the entry at this index
abbrev pub names : (index : ℕ) → Entry → Receipt → Bool
names index e r = (r.index == index) && tells e r

-- the first entry, from this index on, that isn't named by exactly one receipt
abbrev pub first_strange : (index : ℕ) → List Entry → List Receipt → Option ℕ
first_strange index [] rs = None
first_strange index (e ∷ es) rs = if count_by (names index e) rs == 1 then first_strange (index + 1) es rs else Some index

-- each entry, from this index on, is named by exactly one receipt
abbrev pub AreNamedOnce : (index : ℕ) → List Entry → List Receipt → Type 0
AreNamedOnce index [] rs = Unit {0}
AreNamedOnce index (e ∷ es) rs = (count_by (names index e) rs ≡ 1) × AreNamedOnce (index + 1) es rs

-- the receipts are the trail: each entry is named by exactly one receipt, and each receipt names an
-- entry
pub record IsEachOnce (trail : List Entry) (rs : List Receipt) : Type 0 where
  pub entries : AreNamedOnce 0 trail rs
  pub receipts : AllStand trail rs

-- the index of the first receipt that names no entry
abbrev pub first_stray : List Entry → List Receipt → Option ℕ
first_stray trail [] = None
first_stray trail (r ∷ rs) = if stands trail r then first_stray trail rs else Some r.index

abbrev pub strange_at : Option ℕ → Option ℕ → Option Refusal
strange_at (Some index) stray = Some (Strange index)
strange_at None (Some index) = Some (Strange index)
strange_at None None = None

-- what a close finds: an entry that isn't named exactly once, otherwise a receipt that names none
abbrev pub strange_of : List Entry → List Receipt → Option Refusal
strange_of trail rs = strange_at (first_strange 0 trail rs) (first_stray trail rs)
