-- All that is held of an LRA, and summaries of what is held of many.
use Rattle.std.specs.Prelude.{◌++◌, ◌∷◌, ℕ, zero, suc, Bool, Option, Some, None, List, [], Result, Ok, Err, length, map}
use Rattle.std.specs.Option.{option_map}
use Rattle.state_ids.specs.Ids.{Id}
use Rattle.state_ids.specs.declared.status.LraStatus.{LraStatus}
use Rattle.state_ids.specs.declared.status.MemberStatus.{MemberStatus}
use Rattle.state_facts.specs.declared.refusal.Refusal.{Refusal}
use Rattle.state_forest.specs.declared.record.Place.{Place}
use Rattle.state_forest.specs.declared.record.Record.{Record}
use Rattle.state_facts.specs.declared.command.CommandReply.{CommandReply}
use Rattle.state_replica.specs.declared.page.Row.{Row}
use Rattle.state_replica.specs.Pages.{PageRows}
use Rattle.state_book.specs.declared.holdings.Holding.{Holding}
use Rattle.state_book.specs.declared.holdings.Summary.{Summary}

-- One LRA

-- the status of a participant, `None` if there is no such participant
abbrev pub shown_in : Result MemberStatus Refusal → Option MemberStatus
shown_in (Ok status) = Some status
shown_in (Err refusal) = None

-- the status of each of the members 1 to n, by what is shown for a number
abbrev pub statuses_of : (ℕ → Result MemberStatus Refusal) → (n : ℕ) → List (Option MemberStatus)
statuses_of shown zero = []
statuses_of shown (suc n) = statuses_of shown n ++ shown_in (shown (suc n)) ∷ []

-- all that is held of an LRA: its status, its record, the statuses of its members, and the reply
-- that its purge would get
abbrev pub holding_of : Id → LraStatus → Record → (ℕ → Result MemberStatus Refusal) → CommandReply → Holding
holding_of l status r shown purge =
    record { id = l; status = status; «record» = r; members = statuses_of shown (length r.members); purge = purge }

-- Many

-- rows, and whether more follow
pub record SurveyRows : Type 0 where
  pub rows : List Summary
  pub more : Bool

-- a row with what the tree of its LRA shows, and what the record says
abbrev pub summary_of : Row → LraStatus → Option Record → Summary
summary_of row tree None = record { id = row.id; status = row.status; tree = tree; parent = None; members = 0; deadline = 0 }
summary_of row tree (Some r) =
    record { id = row.id; status = row.status; tree = tree; parent = option_map (λ (p : Place). p.number) r.parent; members = length r.members; deadline = r.deadline }

-- each row with what its tree shows, and what its record says
abbrev pub summaries_of : (tree_of : Id → LraStatus) → (record_of : Id → Option Record) → List Row → List Summary
summaries_of tree_of record_of rows = map (λ row. summary_of row (tree_of row.id) (record_of row.id)) rows

abbrev pub survey_of : (tree_of : Id → LraStatus) → (record_of : Id → Option Record) → PageRows → SurveyRows
survey_of tree_of record_of page = record { rows = summaries_of tree_of record_of page.rows; more = page.more }
