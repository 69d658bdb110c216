-- Where paths lead, and what stands in them.
use Rattle.std.specs.Prelude.{◌==◌, ℕ, Bool, List, [], ◌∷◌, ◌++◌, codes, length, nat_lt, if◌then◌else◌, Option, Some, None}
use Rattle.std.specs.List.{before_first, after_first, position_or_len}
use Rattle.matchit.specs.Rows.{RowsOf, param_token}
use Rattle.matchit.specs.Router.{RouteOf}
use Rattle.matchit.specs.Seek.{first}
use Rattle.wire_api.specs.declared.table.Endpoint.{Endpoint}
use Rattle.wire_api.specs.declared.table.Endpoint.TheVariants.{Lras, Lra, Join, Close, Cancel, Member, Leave, Report, Pull}

-- Routes

-- a route: the tokens that its text gives, the text, where the names of its parameters stand in the
-- text, and its value
abbrev pub row : List ℕ → List ℕ → List (ℕ × ℕ) → Endpoint → List ℕ × RouteOf Endpoint
row pattern text names value = (pattern, record { pattern = pattern; text = text; names = names; value = value })

-- the tokens of a path with an id, and with a member number
abbrev pub of_lra : List ℕ → List ℕ
of_lra rest = codes "/lra/" ++ param_token ∷ rest

abbrev pub of_member : List ℕ → List ℕ
of_member rest = of_lra (codes "/member/" ++ param_token ∷ rest)

-- where the name of the id stands, and that of the member number
abbrev pub id_name : List (ℕ × ℕ)
id_name = (6, 8) ∷ []

abbrev pub both_names : List (ℕ × ℕ)
both_names = (6, 8) ∷ (18, 19) ∷ []

-- the table's paths as routes of `matchit`, in the order in which a router tries them
abbrev pub paths : RowsOf (RouteOf Endpoint)
paths =
    row (of_lra (codes "/cancel")) (codes "/lra/{id}/cancel") id_name Cancel
    ∷ row (of_lra (codes "/close")) (codes "/lra/{id}/close") id_name Close
    ∷ row (of_lra (codes "/join")) (codes "/lra/{id}/join") id_name Join
    ∷ row (of_member (codes "/leave")) (codes "/lra/{id}/member/{m}/leave") both_names Leave
    ∷ row (of_member (codes "/report")) (codes "/lra/{id}/member/{m}/report") both_names Report
    ∷ row (of_member []) (codes "/lra/{id}/member/{m}") both_names Member
    ∷ row (of_lra []) (codes "/lra/{id}") id_name Lra
    ∷ row (codes "/lra") (codes "/lra") [] Lras
    ∷ row (codes "/peer/pull") (codes "/peer/pull") [] Pull
    ∷ []

abbrev pub value_of : Option (RouteOf Endpoint) → Option Endpoint
value_of (Some route) = Some route.value
value_of None = None

-- where a path leads, by `matchit` with the table's paths as its routes
unfoldable pub endpoint_of : List ℕ → Option Endpoint
endpoint_of path = value_of (first paths path)

-- Parts

abbrev pub is_slash : ℕ → Bool
is_slash b = b == 47

abbrev pub is_question_mark : ℕ → Bool
is_question_mark b = b == 63

-- up to the first slash, and beyond it
abbrev pub part_of : List ℕ → List ℕ
part_of path = before_first is_slash path

abbrev pub rest_of : List ℕ → List ℕ
rest_of path = after_first is_slash path

-- where the table has `{id}`: behind the second slash
abbrev pub id_part : List ℕ → List ℕ
id_part path = part_of (rest_of (rest_of path))

-- where it has `{m}`: behind the fourth
abbrev pub member_part : List ℕ → List ℕ
member_part path = part_of (rest_of (rest_of (rest_of (rest_of path))))

-- the path of a target is what stands before the first question mark
abbrev pub path_of : List ℕ → List ℕ
path_of target = before_first is_question_mark target

-- its query is what stands behind that, if there is one
abbrev pub query_of : List ℕ → Option (List ℕ)
query_of target =
    if nat_lt (position_or_len is_question_mark target) (length target) then Some (after_first is_question_mark target) else None
