-- What an LRA that is to end waits for: which calls, and how many participants.
use mathlib.Core.Bool.{not}
use Rattle.std.specs.Prelude.{◌≡◌, ◌⊎◌, ◌+◌, ◌&&◌, ℕ, Bool, true, false, Some, List, filter, is_some, length}
use Rattle.std.specs.Option.{option_map_or}
use Rattle.state_ids.specs.Ids.{Id}
use Rattle.state_ids.specs.declared.status.LraStatus.TheVariants.{Cancelling, Closing}
use Rattle.state_ids.specs.declared.outcome.Act.{Act}
use Rattle.state_facts.specs.declared.fact.Body.{Body}
use Rattle.state_facts.specs.declared.fact.Body.TheVariants.{Join}
use Rattle.state_facts.specs.declared.fact.Fact.{Fact}
use Rattle.state_facts.specs.Duties.{has_forgot, has_told, is_pending, is_untold_by, topmost_cancelled}
use Rattle.state_facts.specs.Links.{Links}
use Rattle.state_facts.specs.Sets.{has_left, heard, is_open, is_under, joined_status, status}
use Rattle.wire_callbacks.specs.declared.answer.Kind.{Kind}
use Rattle.wire_callbacks.specs.declared.answer.Kind.TheVariants.{After, Forget}
use Rattle.wire_callbacks.specs.declared.duty.Duty.{Duty}
use Rattle.wire_callbacks.specs.CallDuties.{IsDuty}

-- the LRA is to close or to be cancelled, and has not ended
abbrev pub IsUnderWay : List Fact → Id → Type 0
IsUnderWay S l = (status S l ≡ Some Closing) ⊎ (status S l ≡ Some Cancelling)

-- l waits for participants under this LRA: the topmost cancelled one of its chain, under which
-- everything is one saga, or l itself if no LRA of its chain is cancelled
abbrev pub saga_of : List Fact → Id → Id
saga_of S l = option_map_or (λ a. a) (topmost_cancelled S l) l

-- a call of this kind asks a participant to complete or to compensate, or how far it is with that
abbrev pub asks_to_act : Kind → Bool
asks_to_act Forget = false
asks_to_act After = false
asks_to_act _ = true

-- the home of l is to make this call now, to a participant of l or of an LRA nested in it
pub record IsCallUnder (S : List Fact) (l : Id) (call : Duty) : Type 0 where
  pub duty : IsDuty l.home S call
  pub under : is_under S l call.id ≡ true

-- the call is such a call, and asks to complete or to compensate
pub record IsActUnder (S : List Fact) (l : Id) (call : Duty) : Type 0 where
  pub duty : IsDuty l.home S call
  pub under : is_under S l call.id ≡ true
  pub asks : asks_to_act call.kind ≡ true

-- the fact joins a participant under l that has not left and passes the test
abbrev pub joins_under : (Id → ℕ → Links → Bool) → List Fact → Id → Body → Bool
joins_under test S l (Join d m links) = is_under S l d && (not (has_left S d m) && test d m links)
joins_under test S l _ = false

-- how many participants under l pass the test
abbrev pub count_under : (Id → ℕ → Links → Bool) → List Fact → Id → ℕ
count_under test S l = length (filter (λ f. joins_under test S l f.body) S)

-- the participant is open, that is, not final
abbrev pub is_open_at : List Fact → Id → ℕ → Links → Bool
is_open_at S d m links = is_open (joined_status S d m links)

-- how many participants under l are open
abbrev pub open_under : List Fact → Id → ℕ
open_under S l = count_under (is_open_at S) S l

-- the participant gave a link to forget, and was not told to forget
abbrev pub is_unreleased : List Fact → Id → ℕ → Links → Bool
is_unreleased S d m links = is_some links.forget && not (has_forgot S d m)

-- The greatest number of answers that are left to wait for under l: one from each open participant,
-- one from each that may have to be told to forget, and one from each that is to hear of the end
abbrev pub answers_left : List Fact → Id → ℕ
answers_left S l = open_under S l + (count_under (is_unreleased S) S l + count_under (is_untold_by S) S l)

-- the set has the answer to a call: the act is done or failed, or the participant was told
abbrev pub is_answered : Kind → List Fact → Id → ℕ → Act → Bool
is_answered Forget T d m act = has_forgot T d m
is_answered After T d m act = has_told T d m
is_answered _ T d m act = not (is_pending (heard T d m act))

-- a call under l was due by S, and T has the answer to it
pub record HearsAnAnswer (S T : List Fact) (l : Id) : Type 0 where
  pub call : Duty
  pub due : IsCallUnder S l call
  pub answered : is_answered call.kind T call.id call.member call.act ≡ true

-- a call to act under l was due by S, and T has heard the end of that act: Done or Failed
pub record HearsAnEnd (S T : List Fact) (l : Id) : Type 0 where
  pub call : Duty
  pub due : IsActUnder S l call
  pub ends : is_pending (heard T call.id call.member call.act) ≡ false
