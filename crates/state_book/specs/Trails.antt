-- Trails: the calls of a run in order, each with its moment and its reply.
use Rattle.std.specs.Prelude.{◌≡◌, ◌&&◌, ℕ, Bool, true, false, Option, Some, None, List, [], ◌∷◌, slice_get}
use Rattle.theory_history.specs.Views.{View}
use Rattle.state_book.specs.declared.calls.Call.{Call}
use Rattle.state_book.specs.declared.calls.Entry.{Entry}
use Rattle.state_book.specs.declared.calls.Receipt.{Receipt}
use Rattle.state_book.specs.declared.calls.Reply.{Reply}
use Rattle.state_book.specs.Next.{IsNext}
use Rattle.state_book.specs.Sameness.{same_call, same_reply}

abbrev pub entry : Call → ℕ → Reply → Entry
entry call now reply = record { call = call; moment = now; reply = reply }

-- The trail is legal from the view a, and its replay is b: each reply is the node's next one, and
-- the view after it is the one before the next call
abbrev pub LeadsTo : (me : ℕ) → (a : View) → List Entry → (b : View) → Type 0
LeadsTo me a [] b = b ≡ a
LeadsTo me a (e ∷ es) b = (mid : View) × IsNext me a e.call e.moment e.reply mid × LeadsTo me mid es b

-- the receipt has the entry's call and reply
abbrev pub tells : Entry → Receipt → Bool
tells e r = same_call e.call r.call && same_reply e.reply r.reply

abbrev pub is_told : Option Entry → Receipt → Bool
is_told None r = false
is_told (Some e) r = tells e r

-- the trail's entry at the receipt's index has the receipt's call and reply
abbrev pub stands : List Entry → Receipt → Bool
stands trail r = is_told (slice_get trail r.index) r

-- each receipt stands in the trail
abbrev pub AllStand : List Entry → List Receipt → Type 0
AllStand trail [] = Unit {0}
AllStand trail (r ∷ rs) = (stands trail r ≡ true) × AllStand trail rs
