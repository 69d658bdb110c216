-- Steps of a transaction, one after another.
use Rattle.std.proofs.Common.{inl, List, [], ◌∷◌, ◌++◌, refl, subst, ◌∙◌, arith}
use Rattle.sqlite.specs.Tree.{Trees}
use Rattle.sqlite.specs.State.{State, Survives, KeepsCommit}
use Rattle.state_journal.specs.Tables.{GoesOn, IsWriting}
use Rattle.state_journal.specs.Turns.{InTurn}

pub stays : (s : State) → Survives s s (λ _. ⊥)
stays s = record { clean = omega arith; shield = λ h. h; counts = omega arith; limit = refl; closes = λ _ on. inl on; crash = λ _ db may. inl may }

pub kept_same : (s : State) → KeepsCommit s s
kept_same s = record { was_open = λ on. on; committed = λ _. refl }

pub kept_then : (a b c : State) → KeepsCommit a b → KeepsCommit b c → KeepsCommit a c
kept_then a b c p q = record { was_open = λ on. p.was_open (q.was_open on); committed = λ on. q.committed on ∙ p.committed (q.was_open on) }

-- no step was taken yet
pub begun : (Changes : Trees → Trees → Type 0) (s : State) → IsWriting s → Changes s.now.trees s.now.trees → GoesOn Changes s s
begun Changes s w none = record { shows = record { was_open = w.is_open; is_open = w.is_open; now_is = refl; committed_is = refl; mode = w.inside }; writing = w; change = none }

-- one more step
pub goes_then : (First Next Both : Trees → Trees → Type 0) (a b c : State) → (First a.now.trees b.now.trees → Next b.now.trees c.now.trees → Both a.now.trees c.now.trees)
    → GoesOn First a b → GoesOn Next b c → GoesOn Both a c
goes_then First Next Both a b c joins p q = record {
  shows = record { was_open = p.shows.was_open; is_open = q.shows.is_open; now_is = refl; committed_is = q.shows.committed_is ∙ p.shows.committed_is; mode = q.shows.mode };
  writing = q.writing;
  change = joins p.change q.change;
}

module _ {X : Type 0} (Does : X → Trees → Trees → Type 0) where
  pub turns_more : (xs : List X) (x : X) (a b c : Trees) → InTurn Does xs a b → Does x b c → InTurn Does (xs ++ x ∷ []) a c
  turns_more [] x a b c same does = let P : Trees → Type 0 = λ t. Does x t c in (c, subst P same does, refl)
  turns_more (y ∷ ys) x a b c h does = (h.0, h.1, turns_more ys x h.0 b c h.2 does)
