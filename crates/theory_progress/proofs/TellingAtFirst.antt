-- what two nodes hold at the start fits into frames
use Rattle.std.proofs.Common.{◌≤◌, ℕ, zero, suc, [], ◌∷◌, refl, arith, All}
use Rattle.std.proofs.lemmas.List.Elements.{All-from_recursion}
use Rattle.theory_history.specs.Views.{empty_view}
use Rattle.theory_history.proofs.PatchedHistories.{empty_view_in}
use Rattle.wire_frames.specs.Frames.{frame_of}
use Rattle.wire_frames.specs.Typed.{IsTyped, IsTypedRecord}
use Rattle.script_world.specs.Headline.{IsNode}
use Rattle.script_world.specs.Worlds.{IsViewOf, IsWorld, front_of, start}
use Rattle.script_world.proofs.Moving.{start_is}
use Rattle.theory_progress.specs.Rounds.{CanTell}

pub typed : IsTyped (frame_of (empty_view 2) (0 ∷ 0 ∷ []))
typed =
    record {
      some = omega arith;
      few = omega arith;
      records = All-from_recursion (All IsTypedRecord) ([] ∷ [] ∷ []) (none, (none, tt));
    }
  where
    none : All IsTypedRecord []
    none = All-from_recursion IsTypedRecord [] tt

-- each of the two has the view of no facts
pub none_held : (node : ℕ) → IsNode (start 2) node → IsViewOf (start 2).history (front_of (start 2) node) (empty_view 2)
none_held node is = by node is.some is.there
  where
    by : (node : ℕ) → 1 ≤ node → node ≤ 2 → IsViewOf (start 2).history (front_of (start 2) node) (empty_view 2)
    by zero some there = absurd (omega (arith, some))
    by (suc zero) some there = record { stands = (empty_view_in 2 1 (omega arith) (omega arith)).stands; counts = refl }
    by (suc (suc zero)) some there = record { stands = (empty_view_in 2 2 (omega arith) (omega arith)).stands; counts = refl }
    by (suc (suc (suc n))) some there = absurd (omega (arith, there))

pub start_tells : IsWorld (start 2) × CanTell (start 2)
start_tells = (start_is 2 (omega arith), λ node is. (empty_view 2, none_held node is, typed))
