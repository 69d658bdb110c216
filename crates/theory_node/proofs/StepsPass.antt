-- Each step passes, and so do any number of steps.
use Rattle.std.proofs.Common.{◌≡◌, ◌⊎◌, inl, inr, ◌∙◌, ◌∷◌, [], true, List, ap, refl, sym}
use Rattle.node_core.specs.declared.node_state.NodeState.{NodeState}
use Rattle.theory_node.specs.Steps.{Admitting, Answering, Apart, AreSteps, AreStepsOver, EndingATelling, GivingUp, HandingOn, HearingAPull, IsCast, IsStep, PuttingAList, Readying, Receiving, Settling, Starting, TakingATask}
use Rattle.theory_node.proofs.CallsPass.{admitting, answering, giving_up, settling, starting}
use Rattle.theory_node.proofs.Passing.{Keeps, Passes, StepPasses, keeps_then, moved, same, untouched, without_doubt}
use Rattle.theory_node.proofs.PullsPass.{HeardStays, ending_a_telling, hearing_a_pull, receiving}
use Rattle.theory_node.proofs.TurnsPass.{LookStays, handing_on, putting_a_list, readying, taking_a_task}
use Rattle.node_core.specs.Calls.{given_up, with_answer}
use Rattle.node_core.specs.Nodes.{as_looked, shown, started}
use Rattle.node_core.specs.Pulls.{with_end_of}

step_passes : HeardStays → LookStays → (old new : NodeState) → IsStep old new → StepPasses (IsCast old new) old new
step_passes heard looks old new (Starting front is) = without_doubt (IsCast old new) old new (moved old (started front old) new is (starting front old))
step_passes heard looks old new (Admitting caller asked place now result is) = without_doubt (IsCast old new) old new (admitting caller asked place now old new result is)
step_passes heard looks old new (Settling a came now ticket is) = without_doubt (IsCast old new) old new (settling a came now old new ticket is)
step_passes heard looks old new (GivingUp a has_failed is) = without_doubt (IsCast old new) old new (moved old (given_up a has_failed old) new is (giving_up a has_failed old))
step_passes heard looks old new (Answering is) = without_doubt (IsCast old new) old new (moved old (with_answer (shown old) (as_looked old)) new is (answering old))
step_passes heard looks old new (HearingAPull pull now decision is) = without_doubt (IsCast old new) old new (hearing_a_pull pull now old new decision is)
step_passes heard looks old new (Receiving asked seen told receipt left is) = receiving heard asked seen told old new receipt left is
step_passes heard looks old new (EndingATelling is_taken front known is) =
    without_doubt (IsCast old new) old new (moved old (with_end_of is_taken front known old) new is (ending_a_telling is_taken front known old))
step_passes heard looks old new (PuttingAList duties now is_put is) = without_doubt (IsCast old new) old new (putting_a_list duties now old new is_put is)
step_passes heard looks old new (Readying now readied is) = without_doubt (IsCast old new) old new (readying looks now old new readied is)
step_passes heard looks old new (TakingATask now task is) = without_doubt (IsCast old new) old new (taking_a_task now old new task is)
step_passes heard looks old new (HandingOn now wakeups is) = without_doubt (IsCast old new) old new (handing_on now old new wakeups is)
step_passes heard looks old new (Apart is) = without_doubt (IsCast old new) old new (untouched old new is)

-- what any number of steps keep
pub record AllPass (old new : NodeState) : Type 0 where
  pub keeps : Keeps old new
  pub doubted : old.followers.is_doubted ≡ true → new.followers.is_doubted ≡ true

all_pass : HeardStays → LookStays → (states : List NodeState) (old new : NodeState) → AreStepsOver states old new → AllPass old new
all_pass heard looks [] old new is =
    let passes : Passes old new = moved old old new is (same old) in
    record { keeps = passes.keeps; doubted = λ doubted. passes.doubted ∙ doubted }
all_pass heard looks (next ∷ states) old new is =
    let first : StepPasses (IsCast old next) old next = step_passes heard looks old next is.0 in
    let rest : AllPass next new = all_pass heard looks states next new is.1 in
    record { keeps = keeps_then old next new first.keeps rest.keeps; doubted = λ doubted. rest.doubted (first.doubted doubted) }

pub steps_pass : HeardStays → LookStays → (old new : NodeState) → AreSteps old new → AllPass old new
steps_pass heard looks old new steps = all_pass heard looks steps.states old new steps.are

-- ---- a doubt has a cause
-- one of the steps casts doubt
pub record IsCaused (old new : NodeState) : Type 0 where
  pub before : NodeState
  pub after : NodeState
  pub since : AreSteps old before
  pub cast : IsCast before after
  pub later : AreSteps after new

caused_by : HeardStays → LookStays → (states : List NodeState) (old new : NodeState) → AreStepsOver states old new → new.followers.is_doubted ≡ true
    → (old.followers.is_doubted ≡ true) ⊎ IsCaused old new
caused_by heard looks [] old new is doubted = inl (sym (ap (λ (n : NodeState). n.followers.is_doubted) is) ∙ doubted)
caused_by heard looks (next ∷ states) old new is doubted = by (caused_by heard looks states next new is.1 doubted)
  where
    at_once : (old.followers.is_doubted ≡ true) ⊎ IsCast old next → (old.followers.is_doubted ≡ true) ⊎ IsCaused old new
    at_once (inl before) = inl before
    at_once (inr cast) =
        inr (record { before = old; after = next; since = record { states = []; are = refl }; cast = cast; later = record { states = states; are = is.1 } })

    by : (next.followers.is_doubted ≡ true) ⊎ IsCaused next new → (old.followers.is_doubted ≡ true) ⊎ IsCaused old new
    by (inl here) = at_once ((step_passes heard looks old next is.0).cause here)
    by (inr it) = inr (record {
      before = it.before;
      after = it.after;
      since = record { states = next ∷ it.since.states; are = (is.0, it.since.are) };
      cast = it.cast;
      later = it.later;
    })

pub caused : HeardStays → LookStays → (old new : NodeState) → AreSteps old new → new.followers.is_doubted ≡ true → (old.followers.is_doubted ≡ true) ⊎ IsCaused old new
caused heard looks old new steps doubted = caused_by heard looks steps.states old new steps.are doubted
