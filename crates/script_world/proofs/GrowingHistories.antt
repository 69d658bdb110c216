-- A history that grows leaves its closed sets as they are.
use Rattle.std.proofs.Common.{◌≡◌, ◌≤◌, ℕ, List, refl, sym, ◌∙◌, length}
use Rattle.theory_history.specs.Histories.{Entry, History, IsClosed, facts, with_entry}
use Rattle.theory_history.proofs.OneMoreEntry.{closed_still, length_with, unmoved}
use Rattle.script_world.specs.Worlds.{SentFrame, IsSent}

-- a front that was closed is still closed, and counts the same facts
pub record IsGrown (h k : History) : Type 0 where
  pub nodes : length k ≡ length h
  pub closed : (u : List ℕ) → IsClosed h u → IsClosed k u
  pub same : (u : List ℕ) → IsClosed h u → facts k u ≡ facts h u

pub grown_none : (h : History) → IsGrown h h
grown_none h = record { nodes = refl; closed = λ u c. c; same = λ u c. refl }

pub grown_with : (h : History) (node : ℕ) (e : Entry) → 1 ≤ node → node ≤ length h → IsGrown h (with_entry h node e)
grown_with h node e some there =
    record {
      nodes = length_with h node e;
      closed = λ u c. closed_still h u node e some there c;
      same = λ u c. unmoved h u node e some there c;
    }

pub grown_more : (h k m : History) → IsGrown h k → IsGrown k m → IsGrown h m
grown_more h k m one other =
    record {
      nodes = other.nodes ∙ one.nodes;
      closed = λ u c. other.closed u (one.closed u c);
      same = λ u c. other.same u (one.closed u c) ∙ one.same u c;
    }

-- a frame that was sent is still one that was sent
pub sent_still : (h k : History) → IsGrown h k → (frame : SentFrame) → IsSent h frame → IsSent k frame
sent_still h k grown frame sent =
    record {
      closed = grown.closed frame.front sent.closed;
      below = sent.below;
      nodes = sent.nodes ∙ sym grown.nodes;
    }
