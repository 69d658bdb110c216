-- The call that a request asks for.
use Rattle.std.specs.Prelude.{◌≡◌, ◌⊎◌, ℕ, List, [], ◌∷◌, codes, drop, take, Option, Some, None, option_and_then, option_map, if◌then◌else◌, Result, Ok, Err}
use Rattle.std.specs.Str.{bytes_eq}
use Rattle.state_ids.specs.Ids.{Id}
use Rattle.state_ids.specs.declared.outcome.Act.{Act}
use Rattle.state_ids.specs.declared.outcome.Outcome.{Outcome}
use Rattle.state_facts.specs.declared.refusal.Refusal.TheVariants.{BadText, NoMemory}
use Rattle.state_facts.specs.declared.command.Command.TheVariants as command
use Rattle.wire_http.specs.declared.message.Request.{Request}
use Rattle.state_book.specs.declared.calls.Call.{Call}
use Rattle.state_book.specs.declared.calls.Call.TheVariants as call
use Rattle.wire_api.specs.declared.routing.Unrouted.{Unrouted}
use Rattle.wire_api.specs.declared.routing.Unrouted.TheVariants.{NoPath, NoMethod, Refused}
use Rattle.wire_api.specs.declared.table.Endpoint.{Endpoint}
use Rattle.wire_api.specs.declared.table.Action.{Action}
use Rattle.wire_api.specs.declared.table.Action.TheVariants as action
use Rattle.wire_api.specs.Bodies.{act_by, deadline_by, links_by, object_in, outcome_by, parent_by, some_id}
use Rattle.wire_api.specs.Names.{id_of, member_of}
use Rattle.wire_api.specs.Paths.{id_part, member_part, path_of, endpoint_of, query_of}
use Rattle.wire_api.specs.Table.{action_at, method_of}

abbrev pub id_in : List ℕ → Option Id
id_in path = id_of (id_part path)

-- The query of a list

-- `after=` and an id
abbrev pub after_by : List ℕ → Option (Option Id)
after_by query = if bytes_eq (take 6 query) (codes "after=") then some_id (id_of (drop 6 query)) else None

abbrev pub after_in : Option (List ℕ) → Option (Option Id)
after_in (Some query) = after_by query
after_in None = Some None

abbrev pub page_in : Option (List ℕ) → Option Call
page_in query = option_map call.Page (after_in query)

-- Calls with a body

abbrev pub begin_with : Option (Option Id) → Option ℕ → Option Call
begin_with (Some parent) (Some deadline) = Some (call.Command (command.Begin parent deadline))
begin_with (Some parent) None = None
begin_with None deadline = None

-- an empty body is `{}`
abbrev pub begin_in : ℕ → List ℕ → Option Call
begin_in now [] = begin_with (Some None) (Some 0)
begin_in now (b ∷ body) = option_and_then (λ o. begin_with (parent_by o) (deadline_by now o)) (object_in (b ∷ body))

abbrev pub join_in : Id → List ℕ → Option Call
join_in id body = option_and_then (λ o. option_map (λ links. call.Command (command.Join id links)) (links_by o)) (object_in body)

abbrev pub report_with : Id → ℕ → Option Act → Option Outcome → Option Call
report_with id m (Some act) (Some outcome) = Some (call.Command (command.Report id m act outcome))
report_with id m (Some act) None = None
report_with id m None outcome = None

abbrev pub report_in : Id → ℕ → List ℕ → Option Call
report_in id m body = option_and_then (λ o. report_with id m (act_by o) (outcome_by o)) (object_in body)

-- By actions

-- what is asked for of an LRA
abbrev pub call_of_lra : Action → Id → (body : List ℕ) → Option Call
call_of_lra action.Status id body = Some (call.Status id)
call_of_lra action.Purge id body = Some (call.Command (command.Purge id))
call_of_lra (action.Decide verdict) id body = Some (call.Command (command.Decide id verdict))
call_of_lra action.Join id body = join_in id body
call_of_lra action.List id body = None
call_of_lra action.Begin id body = None
call_of_lra action.Pull id body = None
call_of_lra action.Member id body = None
call_of_lra action.Leave id body = None
call_of_lra action.Report id body = None

-- what is asked for of a participant
abbrev pub call_of_member : Action → Id → ℕ → (body : List ℕ) → Option Call
call_of_member action.Member id m body = Some (call.Member id m)
call_of_member action.Leave id m body = Some (call.Command (command.Leave id m))
call_of_member action.Report id m body = report_in id m body
call_of_member action.Status id m body = None
call_of_member action.Purge id m body = None
call_of_member (action.Decide verdict) id m body = None
call_of_member action.Join id m body = None
call_of_member action.List id m body = None
call_of_member action.Begin id m body = None
call_of_member action.Pull id m body = None

abbrev pub call_at_lra : Action → (path body : List ℕ) → Option Call
call_at_lra a path body = option_and_then (λ id. call_of_lra a id body) (id_in path)

abbrev pub with_member : Action → Option Id → Option ℕ → (body : List ℕ) → Option Call
with_member a (Some id) (Some m) body = call_of_member a id m body
with_member a (Some id) None body = None
with_member a None m body = None

abbrev pub call_at_member : Action → (path body : List ℕ) → Option Call
call_at_member a path body = with_member a (id_in path) (member_of (member_part path)) body

-- the call of an action of the table, unless something breaks its grammar
abbrev pub call_of : ℕ → Action → Request → Option Call
call_of now action.List request = page_in (query_of request.target)
call_of now action.Begin request = begin_in now request.body
call_of now action.Pull request = Some (call.Pull request.body)
call_of now action.Member request = call_at_member action.Member (path_of request.target) request.body
call_of now action.Leave request = call_at_member action.Leave (path_of request.target) request.body
call_of now action.Report request = call_at_member action.Report (path_of request.target) request.body
call_of now action.Status request = call_at_lra action.Status (path_of request.target) request.body
call_of now action.Purge request = call_at_lra action.Purge (path_of request.target) request.body
call_of now action.Join request = call_at_lra action.Join (path_of request.target) request.body
call_of now (action.Decide verdict) request = call_at_lra (action.Decide verdict) (path_of request.target) request.body

-- The whole

abbrev pub or_bad_text : Option Call → Result Call Unrouted
or_bad_text (Some call) = Ok call
or_bad_text None = Err (Refused BadText)

abbrev pub by_action : ℕ → Request → Endpoint → Option Action → Result Call Unrouted
by_action now request endpoint (Some a) = or_bad_text (call_of now a request)
by_action now request endpoint None = Err (NoMethod endpoint)

abbrev pub by_endpoint : ℕ → Request → Option Endpoint → Result Call Unrouted
by_endpoint now request (Some endpoint) = by_action now request endpoint (action_at endpoint (method_of request.method))
by_endpoint now request None = Err NoPath

-- the call that a request asks for at a moment: determined by its path, then its method, then its
-- id, number, query and body; or the first of these that is wrong
abbrev pub routed : ℕ → Request → Result Call Unrouted
routed now request = by_endpoint now request (endpoint_of (path_of request.target))

-- the result is that, or memory ran out
abbrev pub Routes : Result Call Unrouted → Result Call Unrouted → Type 0
Routes right result = (result ≡ right) ⊎ (result ≡ Err (Refused NoMemory))
