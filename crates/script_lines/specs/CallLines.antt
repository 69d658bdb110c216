-- Calls of participants: how a line spells a participant's answer, for which act the answer is
-- interpreted, and how duties are printed.
use Rattle.std.specs.Prelude.{◌≡◌, ◌<◌, ◌^◌, ◌⊎◌, ◌++◌, ℕ, List, [], ◌∷◌, Option, Some, None, Result, Ok, Err, codes}
use Rattle.std.specs.Fmt.{decimal}
use Rattle.state_ids.specs.Ids.{Id, id_text}
use Rattle.state_ids.specs.declared.outcome.Act.{Act}
use Rattle.state_ids.specs.declared.outcome.Act.TheVariants.{Complete as CompleteAct, Compensate as CompensateAct}
use Rattle.state_ids.specs.declared.status.LraStatus.TheVariants.{Active}
use Rattle.state_ids.specs.declared.status.MemberStatus.{MemberStatus}
use Rattle.state_facts.specs.declared.fact.Fact.{Fact}
use Rattle.state_facts.specs.declared.refusal.Refusal.{Refusal}
use Rattle.state_facts.specs.declared.refusal.Refusal.TheVariants.{NotDue}
use Rattle.state_facts.specs.Sets.{want}
use Rattle.theory_history.specs.Replies.{member_shown}
use Rattle.wire_callbacks.specs.declared.answer.Answer.{Answer}
use Rattle.wire_callbacks.specs.declared.answer.Answer.TheVariants.{Code, Broken}
use Rattle.wire_callbacks.specs.declared.answer.Kind.{Kind}
use Rattle.wire_callbacks.specs.declared.answer.Kind.TheVariants.{Complete, Compensate, Status, Forget, After}
use Rattle.wire_callbacks.specs.declared.duty.Duty.{Duty}
use Rattle.wire_callbacks.specs.CallDuties.{act_wanted}
use Rattle.wire_callbacks.specs.CallWords.{kind_name}
use Rattle.script_lines.specs.LineParts.{words_of}

-- How a line spells an answer

-- this text is what a line has behind the space before the words that are left; if no words are
-- left, there is no text. So the words determine the rest of a line
abbrev pub IsRestOf : List (List ℕ) → List ℕ → Type 0
IsRestOf words text = ((words ≡ []) × (text ≡ [])) ⊎ (words ≡ words_of text)

-- a code in decimal and the rest of the line as the body; or `broken`, whatever follows it
abbrev pub GivesAnswer : List (List ℕ) → Answer → Type 0
GivesAnswer words (Code n body) = (rest : List (List ℕ)) × (words ≡ decimal n ∷ rest) × IsRestOf rest body
GivesAnswer words Broken = (rest : List (List ℕ)) × (words ≡ codes "broken" ∷ rest)

-- a code is at most 65,535
abbrev pub IsAnswerInRange : Answer → Type 0
IsAnswerInRange (Code n body) = n < 2 ^ 16
IsAnswerInRange Broken = Unit {0}

-- The act for which an answer is interpreted

-- an LRA that wants nothing, and so is Active, demands no act
abbrev pub act_demanded : Option Act → Result Act Refusal
act_demanded None = Err (NotDue Active)
act_demanded (Some act) = Ok act

-- the act, if there is a participant to show
abbrev pub act_where : Result MemberStatus Refusal → Result Act Refusal → Result Act Refusal
act_where (Err r) act = Err r
act_where (Ok status) act = act

-- Given the facts S, which the front counts: for a status, the act is the one that the LRA's want
-- demands. An answer to a forget or to a notice of the end means the same for either act
abbrev pub act_asked : List Fact → List ℕ → Kind → Id → ℕ → Result Act Refusal
act_asked S front Complete id m = Ok CompleteAct
act_asked S front Compensate id m = Ok CompensateAct
act_asked S front Status id m = act_where (member_shown S front id m) (act_demanded (act_wanted (want S id)))
act_asked S front Forget id m = Ok CompleteAct
act_asked S front After id m = Ok CompleteAct

-- Duties

abbrev pub duty_text : Duty → List ℕ
duty_text d = kind_name d.kind ++ (codes " " ++ (id_text d.id ++ (codes " " ++ decimal d.member)))

-- the duties after the first
abbrev pub further_text : List Duty → List ℕ
further_text [] = []
further_text (d ∷ ds) = codes ", " ++ (duty_text d ++ further_text ds)

abbrev pub duties_text : List Duty → List ℕ
duties_text [] = codes "none"
duties_text (d ∷ ds) = duty_text d ++ further_text ds
