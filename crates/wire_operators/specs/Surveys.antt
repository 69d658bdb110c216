-- A list of LRAs, as JSON.
use Rattle.std.specs.Prelude.{◌-◌, ℕ, Bool, true, false, List, [], ◌∷◌, ◌++◌, codes, length, Option, None, if◌then◌else◌, option_and_then, option_map, slice_get}
use Rattle.std.specs.Fmt.{decimal}
use Rattle.state_ids.specs.Ids.{Id, text_of}
use Rattle.state_ids.specs.Names.{lra_name}
use Rattle.state_book.specs.declared.holdings.Summary.{Summary}
use Rattle.state_book.specs.Holdings.{SurveyRows}
use Rattle.wire_operators.specs.declared.filter.Filter.{Filter}
use Rattle.wire_operators.specs.Filters.{shows}
use Rattle.wire_operators.specs.Json.{id_or_null, named, number_or_null, opened, opening, word}
use Rattle.wire_operators.specs.Records.{nested_at}

abbrev pub parent_of : Summary → Option Id
parent_of s = option_and_then (λ n. nested_at s.id n) s.parent

-- {"lra":"ID","status":"S","parent":"ID","members":N,"deadline":MS}
unfoldable pub summary_text : Summary → List ℕ
summary_text s =
    opened (codes "lra") (word (text_of s.id)) ++ (named (codes "status") (word (lra_name s.status))
    ++ (named (codes "parent") (id_or_null (parent_of s)) ++ (named (codes "members") (decimal s.members)
    ++ (named (codes "deadline") (number_or_null s.deadline) ++ codes "}"))))

abbrev pub comma_if : Bool → List ℕ
comma_if behind_ = if behind_ then codes "," else []

-- the rows that a filter shows, separated by commas
abbrev pub shown_text : Filter → (behind_ : Bool) → List Summary → List ℕ
shown_text f behind_ [] = []
shown_text f behind_ (s ∷ rows) =
    if shows f s then comma_if behind_ ++ (summary_text s ++ shown_text f true rows) else shown_text f behind_ rows

-- the LRA of the last row, if more follow
abbrev pub next_if : Bool → List Summary → Option Id
next_if true rows = option_map (λ (s : Summary). s.id) (slice_get rows (length rows - 1))
next_if false rows = None

abbrev pub next_of : SurveyRows → Option Id
next_of survey = next_if survey.more survey.rows

-- {"lras":[ROWS],"next":"ID"}
unfoldable pub survey_body : Filter → SurveyRows → List ℕ
survey_body f survey =
    opening (codes "lras") ++ (codes "[" ++ (shown_text f false survey.rows ++ (codes "]" ++ (named (codes "next") (id_or_null (next_of survey)) ++ codes "}"))))
