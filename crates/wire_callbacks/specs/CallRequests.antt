-- The request by which a participant is called (HTTP fields of MicroProfile LRA 2.0; the paths are this project's).
use Rattle.std.specs.Prelude.{◌≡◌, ◌++◌, ℕ, List, [], ◌∷◌, Option, Some, None, Ok, codes, length, map, true, ◌≤◌}
use Rattle.std.specs.Fmt.{decimal}
use Rattle.std.specs.Option.{option_map_or}
use Rattle.httparse.specs.Grammar.{RequestHead}
use Rattle.httparse.specs.Spans.{name_and_value}
use Rattle.url.specs.Host.{host_text}
use Rattle.url.specs.Parser.{parse_url}
use Rattle.url.specs.Parts.{IsValid, Parts, host_or_empty}
use Rattle.state_ids.specs.Ids.{Id, text_of}
use Rattle.state_ids.specs.Names.{lra_name}
use Rattle.state_ids.specs.declared.status.LraStatus.{LraStatus}
use Rattle.state_facts.specs.LinkTexts.{is_link}
use Rattle.wire_http.specs.declared.message.CallRequest.{CallRequest}
use Rattle.wire_http.specs.declared.message.Field.{Field}
use Rattle.wire_http.specs.HeadFields.{field_bytes}
use Rattle.wire_http.specs.MessageTexts.{request_text}
use Rattle.wire_http.specs.Requests.{IsRequest}
use Rattle.wire_http.specs.WholeMessages.{host_field}
use Rattle.wire_callbacks.specs.declared.answer.Kind.{Kind}
use Rattle.wire_callbacks.specs.declared.answer.Kind.TheVariants.{Complete, Compensate, Status, Forget, After}
use Rattle.wire_callbacks.specs.declared.duty.Duty.{Duty}
use Rattle.wire_callbacks.specs.declared.request.RequestField.{RequestField}
use Rattle.wire_callbacks.specs.declared.request.RequestField.TheVariants.{Action, Ended, Parent, Recovery, ContentType, ContentLength, Connection}

abbrev pub method_of : Kind → List ℕ
method_of Complete = codes "PUT"
method_of Compensate = codes "PUT"
method_of Status = codes "GET"
method_of Forget = codes "DELETE"
method_of After = codes "PUT"

-- the host, and the port if the link's text has one
abbrev pub host_of : Parts → List ℕ
host_of url = host_text (host_or_empty url) ++ option_map_or (λ port. codes ":" ++ decimal port) url.port []

-- the path, and the query if there is one
abbrev pub target_of : Parts → List ℕ
target_of url = url.path ++ option_map_or (λ query. codes "?" ++ query) url.query []

-- Fields

abbrev pub field_name : RequestField → List ℕ
field_name Action = codes "Long-Running-Action"
field_name Ended = codes "Long-Running-Action-Ended"
field_name Parent = codes "Long-Running-Action-Parent"
field_name Recovery = codes "Long-Running-Action-Recovery"
field_name ContentType = codes "Content-Type"
field_name ContentLength = codes "Content-Length"
field_name Connection = codes "Connection"

abbrev pub field : RequestField → List ℕ → Field
field name value = record { name = field_name name; value = value }

-- an LRA as a URN
abbrev pub urn : Id → List ℕ
urn l = codes "urn:uuid:" ++ text_of l

-- the path at which the coordinator describes a participant
abbrev pub recovery_path : Id → ℕ → List ℕ
recovery_path l m = codes "/lra/" ++ (text_of l ++ (codes "/member/" ++ decimal m))

-- the fields of a call for a nested LRA
abbrev pub parent_fields : Option Id → List Field
parent_fields None = []
parent_fields (Some p) = field Parent (urn p) ∷ []

-- the name of the field that holds the LRA: one for an LRA that acts, another for one that has
-- ended
abbrev pub action_name : Kind → RequestField
action_name Complete = Action
action_name Compensate = Action
action_name Status = Action
action_name Forget = Action
action_name After = Ended

-- the name of what the LRA shows, if the call says it
abbrev pub body_of : Option LraStatus → List ℕ
body_of None = []
body_of (Some s) = lra_name s

-- the length of the body, which only PUT has; a body has a type too
abbrev pub length_fields : Kind → Option LraStatus → List Field
length_fields Complete shows = field ContentLength (codes "0") ∷ []
length_fields Compensate shows = field ContentLength (codes "0") ∷ []
length_fields Status shows = []
length_fields Forget shows = []
length_fields After shows = field ContentType (codes "text/plain") ∷ field ContentLength (decimal (length (body_of shows))) ∷ []

abbrev pub told_body : Kind → Option LraStatus → List ℕ
told_body Complete shows = []
told_body Compensate shows = []
told_body Status shows = []
told_body Forget shows = []
told_body After shows = body_of shows

abbrev pub fields_of : Duty → List Field
fields_of d =
    field (action_name d.kind) (urn d.id)
    ∷ (parent_fields d.parent
    ++ (field Recovery (recovery_path d.id d.member)
    ∷ (length_fields d.kind d.shows
    ++ (field Connection (codes "close") ∷ []))))

-- the request, given the parts of the link
abbrev pub request_by : Duty → Parts → CallRequest
request_by d url =
    record {
      method = method_of d.kind;
      target = target_of url;
      host = host_of url;
      fields = fields_of d;
      body = told_body d.kind d.shows;
    }

-- the parts are those of a link's text
pub record IsUrlOf (text : List ℕ) (url : Parts) : Type 0 where
  pub read : parse_url None text ≡ Ok url
  pub link : is_link url ≡ true
  pub valid : IsValid url

-- it is the request for this duty
pub record IsRequestOf (d : Duty) (request : CallRequest) : Type 0 where
  pub url : Parts
  pub read : parse_url None d.link ≡ Ok url
  pub is : request ≡ request_by d url

-- whatever follows the request's text, it is one whole request with exactly these parts, if its
-- body is within the limit: no link begins a new line
abbrev pub IsOneRequest : CallRequest → Type 0
IsOneRequest r =
    (limit : ℕ) (rest : List ℕ) → length r.body ≤ limit → (h : RequestHead) × IsRequest limit (request_text r ++ rest) h r.body rest
    × (h.method ≡ r.method) × (h.target ≡ r.target) × (map name_and_value h.fields ≡ map field_bytes (host_field r.host ∷ r.fields))
