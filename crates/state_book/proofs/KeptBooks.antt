-- What a book keeps, both with one more entry and if a call isn't stored.
use Rattle.std.proofs.Common.{◌≡◌, ◌⊎◌, inl, inr, ◌≤◌, ◌<◌, ℕ, Bool, Option, Some, true, false, List, [], ◌∷◌, ◌++◌, None, refl, sym, ap, subst, ◌∙◌, ◌&&◌, not, length, arith, length-append}
use Rattle.std.proofs.lemmas.Bool.Decides.{nat_tests}
use Rattle.std.specs.Prelude.{IfSome, nat_le, nat_lt}
use Rattle.state_facts.specs.declared.refusal.Refusal.TheVariants.{RunFull, Stopped, TrailLost}
use Rattle.state_facts.specs.Refusals.{first, unless}
use Rattle.theory_history.specs.Changes.{Change, with_patch}
use Rattle.theory_history.specs.Views.{View}
use Rattle.state_book.specs.declared.calls.Call.{Call}
use Rattle.state_book.specs.declared.calls.Entry.{Entry}
use Rattle.state_book.specs.Books.{BookState, IsBook, refusal_at_once}
use Rattle.sqlite_trees.specs.declared.store.Store.{Ghosts}
use Rattle.state_journal.specs.Keeping.{JournalState, Keeps}
use Rattle.state_book.specs.Next.{IsNext}
use Rattle.state_book.specs.Trails.{LeadsTo}
use Rattle.state_book.proofs.Trails.{legal_on}

pub with_entry : {S : Type 0} (g : Ghosts S) (old : BookState S) (b : View) (k : JournalState S) (new : List Entry) (e : Entry) → IsBook g old → IsNext old.me old.records e.call e.moment e.reply b
    → length b.front ≡ length old.records.front → new ≡ old.trail ++ e ∷ [] → length old.trail < 1024 → Keeps g old.me k b
    → IsBook g (record { me = old.me; records = b; journal = k; opening = old.opening; trail = new; stopped = old.stopped })
with_entry g old b k new e is next nodes more room keeps =
    record {
      node = omega (arith, is.node, nodes);
      legal = subst (λ (trail : List Entry). IfSome old.opening (λ a. LeadsTo old.me a trail b)) (sym more) (legal_on old.me old.opening old.records b old.trail e is.legal next);
      stored = keeps;
      few = let long = ap (λ (trail : List Entry). length trail) more ∙ length-append old.trail (e ∷ []) in omega (arith, long, room);
    }

pub not_stored : {S : Type 0} (g : Ghosts S) (old : BookState S) (b : View) (k : JournalState S) (stopped : Bool) → IsBook g old → b ≡ old.records → Keeps g old.me k b
    → IsBook g (record { me = old.me; records = b; journal = k; opening = old.opening; trail = old.trail; stopped = stopped })
not_stored g old b k stopped is same keeps =
    record {
      node = subst (λ (v : View). old.me ≤ length v.front) (sym same) is.node;
      legal = subst (λ (v : View). IfSome old.opening (λ a. LeadsTo old.me a old.trail v)) (sym same) is.legal;
      stored = keeps;
      few = is.few;
    }

-- if nothing refuses a call at once, there is room for an entry
pub has_room : {S : Type 0} (book : BookState S) (seen : ℕ) (asked : Call) → refusal_at_once book seen asked ≡ None → length book.trail < 1024
has_room book seen asked free = by (not book.stopped) (nat_le seen (length book.trail)) (nat_lt (length book.trail) 1024) _ refl free
  where
    by : (a b c d : Bool) → nat_lt (length book.trail) 1024 ≡ c → first (unless a Stopped ∷ unless b (TrailLost (length book.trail)) ∷ unless (c && d) RunFull ∷ []) ≡ None → length book.trail < 1024
    by false b c d e free = absurd cc
    by true false c d e free = absurd cc
    by true true false d e free = absurd cc
    by true true true d e free = grind (arith, nat_tests, e)

-- a view that changes has a patch
pub changed_by : {A : Type 0} (patch : Option Change) (old new : View) → new ≡ with_patch patch old → IfSome patch (λ _. A) → (new ≡ old) ⊎ A
changed_by None old new is stored = inl is
changed_by (Some change) old new is stored = inr stored
