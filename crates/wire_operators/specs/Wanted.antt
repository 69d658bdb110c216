-- What a request at an operator's port wants.
use Rattle.std.specs.Prelude.{◌&&◌, ℕ, Bool, true, false, List, [], codes, not, Option, Some, None, if◌then◌else◌}
use Rattle.std.specs.Str.{bytes_eq}
use Rattle.state_ids.specs.Ids.{Id}
use Rattle.wire_http.specs.declared.message.Request.{Request}
use Rattle.wire_api.specs.Names.{id_of, member_of}
use Rattle.wire_api.specs.Paths.{id_part, member_part, part_of, path_of, endpoint_of, query_of, rest_of}
use Rattle.wire_api.specs.Table.{method_of}
use Rattle.wire_api.specs.declared.table.Endpoint.{Endpoint}
use Rattle.wire_api.specs.declared.table.Endpoint.TheVariants as endpoint
use Rattle.wire_api.specs.declared.table.TableMethod.{TableMethod}
use Rattle.wire_api.specs.declared.table.TableMethod.TheVariants as method
use Rattle.wire_operators.specs.declared.filter.Filter.{Filter}
use Rattle.wire_operators.specs.declared.wanted.Topic.TheVariants.{Page, Health, Ready, Metrics, Calls}
use Rattle.wire_operators.specs.declared.wanted.Wanted.{Wanted}
use Rattle.wire_operators.specs.declared.wanted.Wanted.TheVariants.{Tell, List as AskList, Record, Forgot, Told, Broken, Other}
use Rattle.wire_operators.specs.Filters.{filter_in}

-- By GET

abbrev pub list_by : Option Filter → Wanted
list_by (Some f) = AskList f
list_by None = Broken

-- a list, by its query
abbrev pub list_of : Option (List ℕ) → (roots : Bool) → Wanted
list_of query roots = list_by (filter_in query roots)

abbrev pub record_by : Option Id → Wanted
record_by (Some id) = Record id
record_by None = Broken

abbrev pub record_of : List ℕ → Wanted
record_of path = record_by (id_of (id_part path))

-- the record of an LRA, if the path is the interface's path of an LRA
abbrev pub by_endpoint : Option Endpoint → List ℕ → Wanted
by_endpoint (Some endpoint.Lra) path = record_of path
by_endpoint _ path = Other

abbrev pub wanted_of_lra : List ℕ → Wanted
wanted_of_lra path = by_endpoint (endpoint_of path) path

abbrev pub wanted_by_get : (path : List ℕ) → (query : Option (List ℕ)) → Wanted
wanted_by_get path query =
    if bytes_eq path (codes "/") then Tell Page
    else if bytes_eq path (codes "/health") then Tell Health
    else if bytes_eq path (codes "/ready") then Tell Ready
    else if bytes_eq path (codes "/metrics") then Tell Metrics
    else if bytes_eq path (codes "/calls") then Tell Calls
    else if bytes_eq path (codes "/lras") then list_of query false
    else if bytes_eq path (codes "/roots") then list_of query true
    else wanted_of_lra path

-- By PUT

abbrev pub forgot_by : Option Id → Option ℕ → Wanted
forgot_by (Some id) (Some m) = Forgot id m
forgot_by (Some id) None = Broken
forgot_by None m = Broken

abbrev pub forgot_of : List ℕ → Wanted
forgot_of path = forgot_by (id_of (id_part path)) (member_of (member_part path))

abbrev pub told_by : Option Id → Option ℕ → Wanted
told_by (Some id) (Some m) = Told id m
told_by (Some id) None = Broken
told_by None m = Broken

abbrev pub told_of : List ℕ → Wanted
told_of path = told_by (id_of (id_part path)) (member_of (member_part path))

-- /lra/{id}/member/.. leads to a member
abbrev pub is_of_member : List ℕ → Bool
is_of_member path =
    bytes_eq (part_of path) [] && bytes_eq (part_of (rest_of path)) (codes "lra")
    && bytes_eq (part_of (rest_of (rest_of (rest_of path)))) (codes "member")

-- what stands behind the number of the member
abbrev pub last_word : List ℕ → List ℕ
last_word path = rest_of (rest_of (rest_of (rest_of (rest_of path))))

abbrev pub wanted_by_put : List ℕ → Wanted
wanted_by_put path =
    if not (is_of_member path) then Other
    else if bytes_eq (last_word path) (codes "forgot") then forgot_of path
    else if bytes_eq (last_word path) (codes "told") then told_of path
    else Other

-- The whole

abbrev pub by_method : TableMethod → (path : List ℕ) → (query : Option (List ℕ)) → Wanted
by_method method.Get path query = wanted_by_get path query
by_method method.Put path query = wanted_by_put path
by_method _ path query = Other

-- one of the operator's own paths by its own method, otherwise what the interface offers
abbrev pub wanted : Request → Wanted
wanted request = by_method (method_of request.method) (path_of request.target) (query_of request.target)
