-- The bodies of answers: JSON, written without white space.
use Rattle.std.specs.Prelude.{◌-◌, ℕ, List, [], ◌∷◌, ◌++◌, codes, length, slice_get, Option, Some, None, option_map, Bool, true, false}
use Rattle.std.specs.Fmt.{decimal}
use Rattle.state_ids.specs.Ids.{Id, text_of}
use Rattle.state_ids.specs.declared.status.LraStatus.{LraStatus}
use Rattle.state_ids.specs.declared.status.MemberStatus.{MemberStatus}
use Rattle.state_ids.specs.Names.{lra_name, member_name}
use Rattle.state_replica.specs.declared.page.Row.{Row}
use Rattle.state_replica.specs.Pages.{PageRows}

-- {"lra":"ID"
unfoldable pub of_lra : Id → List ℕ
of_lra id = codes "{\"lra\":\"" ++ (text_of id ++ codes "\"")

-- ,"status":"S"}
unfoldable pub of_status : List ℕ → List ℕ
of_status name = codes ",\"status\":\"" ++ (name ++ codes "\"}")

-- {"lra":"ID","status":"S"}
unfoldable pub status_body : Id → LraStatus → List ℕ
status_body id status = of_lra id ++ of_status (lra_name status)

-- {"lra":"ID","member":M,"status":"S"}
unfoldable pub member_body : Id → ℕ → MemberStatus → List ℕ
member_body id m status = of_lra id ++ (codes ",\"member\":" ++ (decimal m ++ of_status (member_name status)))

-- the path at which the coordinator describes a participant: /lra/ID/member/M
unfoldable pub recovery_path : Id → ℕ → List ℕ
recovery_path id m = codes "/lra/" ++ (text_of id ++ (codes "/member/" ++ decimal m))

-- {"member":M,"recovery":"/lra/ID/member/M"}
unfoldable pub join_body : Id → ℕ → List ℕ
join_body id m = codes "{\"member\":" ++ (decimal m ++ (codes ",\"recovery\":\"" ++ (recovery_path id m ++ codes "\"}")))

-- an LRA as a URN
unfoldable pub urn : Id → List ℕ
urn id = codes "urn:uuid:" ++ text_of id

-- rows, each behind a comma
abbrev pub more_rows : List Row → List ℕ
more_rows [] = []
more_rows (row ∷ rows) = codes "," ++ (status_body row.id row.status ++ more_rows rows)

-- rows, separated by commas
abbrev pub rows_text : List Row → List ℕ
rows_text [] = []
rows_text (row ∷ rows) = status_body row.id row.status ++ more_rows rows

-- the LRA of the last row, if more follow
abbrev pub next_if : Bool → List Row → Option Id
next_if true rows = option_map (λ row. row.id) (slice_get rows (length rows - 1))
next_if false rows = None

abbrev pub next_of : PageRows → Option Id
next_of page = next_if page.more page.rows

-- a string, or null
abbrev pub next_text : Option Id → List ℕ
next_text (Some id) = codes "\"" ++ (text_of id ++ codes "\"")
next_text None = codes "null"

-- {"lras":[ROWS],"next":N}
unfoldable pub page_body : PageRows → List ℕ
page_body page = codes "{\"lras\":[" ++ (rows_text page.rows ++ (codes "],\"next\":" ++ (next_text (next_of page) ++ codes "}")))

-- {"refused":"TEXT"}
unfoldable pub refusal_body : List ℕ → List ℕ
refusal_body text = codes "{\"refused\":\"" ++ (text ++ codes "\"}")

-- {"refused":"E1 BadText","why":"TEXT"}
unfoldable pub why_body : List ℕ → List ℕ
why_body why = codes "{\"refused\":\"E1 BadText\",\"why\":\"" ++ (why ++ codes "\"}")
