-- A book that is stopped in a call.
use Rattle.std.proofs.Common.{◌≤◌, ℕ, length}
use Rattle.theory_history.specs.Views.{View}
use Rattle.state_journal.specs.Ruled.{AreTyped, KeepsRules}
use Rattle.script_world.specs.Worlds.{State}
use Rattle.state_book.specs.Books.{AreRuled, BookState}
use Rattle.state_book.specs.declared.calls.Call.{Call}
use Rattle.state_book.specs.declared.calls.Reply.{Reply}
use Rattle.state_book.specs.Next.{IsFoundBehind, IsNext}
use Rattle.theory_trail.specs.Crashes.{CanBeLost, lost_call}
use Rattle.theory_trail.specs.NodeTrails.{Arrival, IsServed, WasSent}

pub stop_lost : {S : Type 0} (s : State) (old : BookState S) (asked : Call) (now : ℕ) (frame : Arrival) (found : View) → IsServed old.me s old.records → IsFoundBehind old.me old.records asked now found
    → ((reply : Reply) → IsNext old.me old.records asked now reply found → WasSent s frame asked reply) → CanBeLost s old.records (lost_call old.me asked now frame found)
stop_lost s old asked now frame found served behind sent = record { node = served.node; behind = behind; sent = sent }

module _ (held_rules : (me : ℕ) (s : State) (a : View) → IsServed me s a → length a.front ≤ 8 → AreTyped a → KeepsRules a)
    (next_rules : (me now : ℕ) (frame : Arrival) (s : State) (a b : View) (call : Call) (reply : Reply) → IsServed me s a → IsNext me a call now reply b → WasSent s frame call reply → length b.front ≤ 8
    → AreTyped b → KeepsRules b) where
  pub typed_ruled : {S : Type 0} (s : State) (old : BookState S) (asked : Call) (now : ℕ) (frame : Arrival) → IsServed old.me s old.records → length old.records.front ≤ 8 → AreTyped old.records
      → ((reply : Reply) (b : View) → IsNext old.me old.records asked now reply b → WasSent s frame asked reply × (length b.front ≤ 8) × AreTyped b) → AreRuled old asked now
  typed_ruled s old asked now frame served few typed later =
      record {
        before = held_rules old.me s old.records served few typed;
        next = λ reply b next. let has = later reply b next in next_rules old.me now frame s old.records b asked reply served next has.0 has.1 has.2;
      }
