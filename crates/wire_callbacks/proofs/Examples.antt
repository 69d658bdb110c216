-- the table of answers on examples
use Rattle.std.proofs.Common.{◌≡◌, ◌++◌, ◌∷◌, [], refl, codes}
use Rattle.state_ids.specs.declared.outcome.Act.TheVariants.{Complete as CompleteAct, Compensate as CompensateAct}
use Rattle.state_ids.specs.declared.outcome.Outcome.TheVariants.{Done, Failed}
use Rattle.wire_callbacks.specs.declared.answer.Answer.TheVariants.{Code, Broken}
use Rattle.wire_callbacks.specs.declared.answer.Heard.TheVariants.{Outcome, Forgot, Again}
use Rattle.wire_callbacks.specs.declared.answer.Kind.TheVariants.{Compensate, Status, Forget}
use Rattle.wire_callbacks.specs.Answers.{heard_of}

-- a space, the name in quotes, CR and LF
named : heard_of CompleteAct Status (Code 200 (32 ∷ 34 ∷ (codes "Completed" ++ (34 ∷ 13 ∷ 10 ∷ [])))) ≡ Outcome Done
named = refl

failed : heard_of CompensateAct Status (Code 200 (codes "FailedToCompensate")) ≡ Outcome Failed
failed = refl

of_the_other_act : heard_of CompensateAct Status (Code 200 (codes "Completed")) ≡ Again
of_the_other_act = refl

one_quote : heard_of CompleteAct Status (Code 200 (34 ∷ codes "Completed")) ≡ Again
one_quote = refl

gone : heard_of CompleteAct Forget (Code 404 []) ≡ Forgot
gone = refl

lost : heard_of CompleteAct Compensate Broken ≡ Again
lost = refl
