-- What is wrong with the body of a request, and the text that says so. A body is wrong if it has a
-- member that its call doesn't know, or if the call is refused because of it (E1).
use Rattle.std.specs.Prelude.{◌&&◌, ◌||◌, ◌==◌, ◌++◌, ℕ, Bool, false, List, codes, is_some, length, nat_le, not, Option, Some, None, option_and_then, option_map, if◌then◌else◌}
use Rattle.std.specs.Char.{is_ascii_alphanumeric}
use Rattle.std.specs.List.{list_all}
use Rattle.std.specs.Option.{option_flatten, option_or}
use Rattle.std.specs.Str.{bytes_eq}
use Rattle.serde_json.specs.Data.{Data, Members, no_members, member}
use Rattle.serde_json.specs.Find.{as_object, get}
use Rattle.state_facts.specs.Links.{kept_if_given}
use Rattle.wire_http.specs.declared.message.Request.{Request}
use Rattle.wire_api.specs.declared.body_faults.Form.{Form}
use Rattle.wire_api.specs.declared.body_faults.Form.TheVariants.{Begin, Join, Report}
use Rattle.wire_api.specs.declared.body_faults.JoinLink.{JoinLink}
use Rattle.wire_api.specs.declared.body_faults.JoinLink.TheVariants.{Complete, Compensate, Status, Forget, After}
use Rattle.wire_api.specs.declared.body_faults.BodyFault.{BodyFault}
use Rattle.wire_api.specs.declared.body_faults.BodyFault.TheVariants.{NoObject, NoText, NoLinks, NoCompensate, NoLink, NoParent, NoLimit, LongLimit, NoAct, NoOutcome}
use Rattle.wire_api.specs.declared.table.Action.{Action}
use Rattle.wire_api.specs.declared.table.Action.TheVariants as action
use Rattle.wire_api.specs.declared.table.Endpoint.{Endpoint}
use Rattle.wire_api.specs.Bodies.{act_by, deadline_of, limit_in, object_in, outcome_by, parent_by, text_at}
use Rattle.wire_api.specs.Names.{member_of}
use Rattle.wire_api.specs.Paths.{endpoint_of, member_part, path_of}
use Rattle.wire_api.specs.Routes.{id_in}
use Rattle.wire_api.specs.Table.{action_at, method_of}

-- Members that aren't known

-- which members a body of this form may have
abbrev pub knows : Form → (name : List ℕ) → Bool
knows Begin name = bytes_eq name (codes "parent") || bytes_eq name (codes "limit")
knows Join name =
    bytes_eq name (codes "complete") || (bytes_eq name (codes "compensate") || (bytes_eq name (codes "status")
    || (bytes_eq name (codes "forget") || bytes_eq name (codes "after"))))
knows Report name = bytes_eq name (codes "act") || bytes_eq name (codes "outcome")

-- the name of the first member that isn't known
abbrev pub unknown_in : Form → Members → Option (List ℕ)
unknown_in form no_members = None
unknown_in form (member name d rest) = if knows form name then unknown_in form rest else Some name

abbrev pub unknown_of : Form → Data → Option (List ℕ)
unknown_of form body = option_and_then (unknown_in form) (as_object body)

-- a letter, a digit, a hyphen or an underscore
abbrev pub is_shown_byte : ℕ → Bool
is_shown_byte b = is_ascii_alphanumeric b || (b == 45 || b == 95)

-- 1 to 32 of these bytes
abbrev pub is_shown : (name : List ℕ) → Bool
is_shown name = nat_le 1 (length name) && (nat_le (length name) 32 && list_all is_shown_byte name)

-- names an unknown member, if its name can be shown
abbrev pub unknown_text : (name : List ℕ) → List ℕ
unknown_text name = if is_shown name then name ++ codes " is not known here" else codes "a member is not known here"

-- Members that are wrong

-- of a begin
abbrev pub limit_fault : ℕ → (limit : Option ℕ) → Option BodyFault
limit_fault now (Some limit) = if is_some (deadline_of now limit) then None else Some LongLimit
limit_fault now None = Some NoLimit

abbrev pub begin_fault : ℕ → Data → Option BodyFault
begin_fault now body = if is_some (parent_by body) then limit_fault now (limit_in (get (codes "limit") body)) else Some NoParent

-- of a join
abbrev pub link_name : JoinLink → List ℕ
link_name Complete = codes "complete"
link_name Compensate = codes "compensate"
link_name Status = codes "status"
link_name Forget = codes "forget"
link_name After = codes "after"

-- the first of the five for which this doesn't hold
abbrev pub first_not : (JoinLink → Bool) → Option JoinLink
first_not is =
    if not (is Complete) then Some Complete
    else if not (is Compensate) then Some Compensate
    else if not (is Status) then Some Status
    else if not (is Forget) then Some Forget
    else if not (is After) then Some After
    else None

-- the link is a text, or absent
abbrev pub is_text : Data → JoinLink → Bool
is_text body link = is_some (text_at (link_name link) body)

-- the text that is given
abbrev pub text_of : Data → JoinLink → Option (List ℕ)
text_of body link = option_flatten (text_at (link_name link) body)

-- it is a link, or absent
abbrev pub is_link : Data → JoinLink → Bool
is_link body link = is_some (kept_if_given (text_of body link))

abbrev pub is_given : Data → JoinLink → Bool
is_given body link = is_some (text_of body link)

-- a join gives `compensate`, or only `after`
abbrev pub missing_fault : Data → Option BodyFault
missing_fault body =
    if is_given body Compensate then None
    else if not (is_given body After) then Some NoLinks
    else if is_given body Complete || (is_given body Status || is_given body Forget) then Some NoCompensate
    else None

abbrev pub join_fault : Data → Option BodyFault
join_fault body =
    option_or (option_map NoText (first_not (is_text body))) (option_or (missing_fault body) (option_map NoLink (first_not (is_link body))))

-- of a report
abbrev pub report_fault : Data → Option BodyFault
report_fault body =
    if not (is_some (act_by body)) then Some NoAct
    else if not (is_some (outcome_by body)) then Some NoOutcome
    else None

abbrev pub fault_in : Form → ℕ → Data → Option BodyFault
fault_in Begin now body = begin_fault now body
fault_in Join now body = join_fault body
fault_in Report now body = report_fault body

-- the text for each fault
abbrev pub fault_text : BodyFault → List ℕ
fault_text NoObject = codes "the body is no JSON object"
fault_text (NoText link) = link_name link ++ codes " is no text"
fault_text NoLinks = codes "neither compensate nor after is given"
fault_text NoCompensate = codes "compensate is not given"
fault_text (NoLink link) = link_name link ++ codes " is no http URL of at most 127 bytes"
fault_text NoParent = codes "parent is no id"
fault_text NoLimit = codes "limit is no number of milliseconds"
fault_text LongLimit = codes "limit is too long"
fault_text NoAct = codes "act is neither complete nor compensate"
fault_text NoOutcome = codes "outcome is none of busy, done and failed"

-- Bodies

-- an unknown member is reported before anything that is wrong with the others
abbrev pub why_with : (unknown : Option (List ℕ)) → Option BodyFault → Option (List ℕ)
why_with (Some name) fault = Some (unknown_text name)
why_with None fault = option_map fault_text fault

abbrev pub why_in_object : Form → ℕ → Option Data → Option (List ℕ)
why_in_object form now (Some body) = why_with (unknown_of form body) (fault_in form now body)
why_in_object form now None = Some (fault_text NoObject)

-- the empty body of a begin is `{}`
abbrev pub is_absent : Form → (body : List ℕ) → Bool
is_absent Begin body = length body == 0
is_absent Join body = false
is_absent Report body = false

-- what is wrong with a body of this form, if anything is
unfoldable pub why_in_body : Form → ℕ → (body : List ℕ) → Option (List ℕ)
why_in_body form now body = if is_absent form body then None else why_in_object form now (object_in body)

-- Requests

abbrev pub with_ids : {I M : Type 0} → Form → Option I → Option M → Option Form
with_ids form (Some id) (Some m) = Some form
with_ids form (Some id) None = None
with_ids form None m = None

-- the form of the body that an action reads, if it reads one: wrong ids are refused before a body
-- is read
abbrev pub form_at : Action → (path : List ℕ) → Option Form
form_at action.Begin path = Some Begin
form_at action.Join path = option_map (λ id. Join) (id_in path)
form_at action.Report path = with_ids Report (id_in path) (member_of (member_part path))
form_at action.List path = None
form_at action.Pull path = None
form_at action.Member path = None
form_at action.Leave path = None
form_at action.Status path = None
form_at action.Purge path = None
form_at (action.Decide verdict) path = None

abbrev pub form_by : Request → Endpoint → Option Form
form_by request endpoint = option_and_then (λ a. form_at a (path_of request.target)) (action_at endpoint (method_of request.method))

abbrev pub form_of : Request → Option Form
form_of request = option_and_then (form_by request) (endpoint_of (path_of request.target))

-- what is wrong with the body of a request, if it has a body and anything is
unfoldable pub why_in : ℕ → Request → Option (List ℕ)
why_in now request = option_and_then (λ form. why_in_body form now request.body) (form_of request)

-- Of a body

-- it has a member that its call doesn't know
abbrev pub has_unknown : Form → (body : List ℕ) → Bool
has_unknown form body = is_some (option_and_then (unknown_of form) (object_in body))

-- Of what is said

-- a byte that stands for itself in a JSON string: printable ASCII, no quote and no backslash
abbrev pub is_plain_byte : ℕ → Bool
is_plain_byte b = (nat_le 32 b && nat_le b 126) && (not (b == 34) && not (b == 92))
