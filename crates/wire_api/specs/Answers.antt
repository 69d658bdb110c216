-- The answers to replies, refusals and faults.
use Rattle.std.specs.Prelude.{ℕ, List, [], ◌∷◌, ◌++◌, codes, length}
use Rattle.std.specs.Fmt.{decimal}
use Rattle.state_ids.specs.Ids.{Id}
use Rattle.state_ids.specs.declared.status.LraStatus.{LraStatus}
use Rattle.state_ids.specs.declared.status.LraStatus.TheVariants.{Active}
use Rattle.state_facts.specs.declared.refusal.Refusal.{Refusal}
use Rattle.state_facts.specs.declared.refusal.Refusal.TheVariants.{BadText, UnknownLra, NotHeld, NotHome, UnknownMember, NotActive, NotDue, NotEnded, NotRoot, StillToForget, StillToTell, MembersFull, DepthFull, LrasFull, NumbersSpent, Gap, NeedsVersion2, BadFrame, NoMemory, JournalFailed, Stopped, RunFull, TrailLost, Strange}
use Rattle.state_facts.specs.RefusalTexts.{refusal_text}
use Rattle.state_facts.specs.declared.command.CommandReply.{CommandReply}
use Rattle.state_facts.specs.declared.command.CommandReply.TheVariants as command
use Rattle.wire_frames.specs.Encoding.{encoding}
use Rattle.wire_http.specs.declared.fault.Fault.{Fault}
use Rattle.wire_http.specs.declared.fault.Fault.TheVariants as fault
use Rattle.wire_http.specs.declared.message.Field.{Field}
use Rattle.wire_http.specs.ByteResponses.{Response}
use Rattle.wire_http.specs.Faults.{fault_name}
use Rattle.state_book.specs.declared.calls.Reply.{Reply}
use Rattle.state_book.specs.declared.calls.Reply.TheVariants as reply
use Rattle.wire_api.specs.declared.answers.AnswerField.{AnswerField}
use Rattle.wire_api.specs.declared.answers.AnswerField.TheVariants.{Allow, Action, Recovery, ContentType, ContentLength, Connection}
use Rattle.wire_api.specs.declared.routing.Unrouted.{Unrouted}
use Rattle.wire_api.specs.declared.routing.Unrouted.TheVariants as unrouted
use Rattle.wire_api.specs.Table.{methods_of}
use Rattle.wire_api.specs.Texts.{join_body, member_body, page_body, recovery_path, refusal_body, status_body, urn, why_body}

-- Fields

abbrev pub field_name : AnswerField → List ℕ
field_name Allow = codes "Allow"
field_name Action = codes "Long-Running-Action"
field_name Recovery = codes "Long-Running-Action-Recovery"
field_name ContentType = codes "Content-Type"
field_name ContentLength = codes "Content-Length"
field_name Connection = codes "Connection"

abbrev pub field : AnswerField → List ℕ → Field
field name value = record { name = field_name name; value = value }

-- each answer ends its connection
abbrev pub closing : Field
closing = field Connection (codes "close")

-- Answers with a body and without

abbrev pub bare : ℕ → Response
bare code = record { status = code; fields = closing ∷ []; body = [] }

-- the type of the body
abbrev pub of_type : List ℕ → Field
of_type kind = field ContentType kind

-- its length
abbrev pub of_length : List ℕ → Field
of_length body = field ContentLength (decimal (length body))

-- first the given fields, then those of the body
abbrev pub with_body : ℕ → List Field → (kind body : List ℕ) → Response
with_body code fields kind body =
    record { status = code; fields = ((fields ++ of_type kind ∷ []) ++ of_length body ∷ []) ++ closing ∷ []; body = body }

abbrev pub json : ℕ → List Field → (body : List ℕ) → Response
json code fields body = with_body code fields (codes "application/json") body

abbrev pub ok_json : (body : List ℕ) → Response
ok_json body = json 200 [] body

-- Refusals

abbrev pub error_answer : ℕ → List Field → (text : List ℕ) → Response
error_answer code fields text = json code fields (refusal_body text)

abbrev pub code_of : Refusal → ℕ
code_of BadText = 400
code_of UnknownLra = 404
code_of NotHeld = 410
code_of (NotHome home) = 421
code_of UnknownMember = 404
code_of (NotActive status) = 412
code_of (NotDue status) = 409
code_of (NotEnded status) = 409
code_of NotRoot = 409
code_of (StillToForget id member) = 409
code_of (StillToTell id member) = 409
code_of MembersFull = 503
code_of DepthFull = 503
code_of LrasFull = 503
code_of NumbersSpent = 503
code_of (Gap front) = 503
code_of NeedsVersion2 = 503
code_of (BadFrame place) = 400
code_of NoMemory = 503
code_of JournalFailed = 503
code_of Stopped = 503
code_of RunFull = 503
code_of (TrailLost number) = 503
code_of (Strange place) = 503

abbrev pub refusal_answer : Refusal → Response
refusal_answer refusal = error_answer (code_of refusal) [] (refusal_text refusal)

-- the answer to a body that is refused, which says why
abbrev pub why_answer : (why : List ℕ) → Response
why_answer why = json 400 [] (why_body why)

-- the status for input that is not a whole request; no request has a fault that isn't named here
abbrev pub fault_code : Fault → ℕ
fault_code fault.BadHead = 400
fault_code fault.BodyTooLong = 413
fault_code fault.HeadTooLong = 431
fault_code fault.NotOffered = 501
fault_code fault.LengthNeeded = 411
fault_code fault.Cut = 400
fault_code fault.ReadFault = 400
fault_code fault.WriteFault = 400
fault_code fault.NoMemory = 503

abbrev pub fault_answer : Fault → Response
fault_answer f = error_answer (fault_code f) [] (fault_name f)

abbrev pub unrouted_answer : Unrouted → Response
unrouted_answer unrouted.NoPath = error_answer 404 [] (codes "NoPath")
unrouted_answer (unrouted.NoMethod place) = error_answer 405 (field Allow (methods_of place) ∷ []) (codes "NoMethod")
unrouted_answer (unrouted.Refused refusal) = refusal_answer refusal

-- Replies

abbrev pub begun_answer : Id → Response
begun_answer id = json 201 (field Action (urn id) ∷ []) (status_body id Active)

abbrev pub joined_answer : Id → ℕ → Response
joined_answer id m = json 200 (field Recovery (recovery_path id m) ∷ []) (join_body id m)

abbrev pub status_answer : Id → LraStatus → Response
status_answer id status = ok_json (status_body id status)

abbrev pub command_answer : CommandReply → Response
command_answer (command.Began id m) = begun_answer id
command_answer (command.Joined id m) = joined_answer id m
command_answer command.Left = bare 204
command_answer (command.Decided id status) = status_answer id status
command_answer command.Reported = bare 204
command_answer command.Known = bare 204
command_answer command.Forgotten = bare 204
command_answer command.Told = bare 204
command_answer command.Purged = bare 204
command_answer (command.Refused refusal) = refusal_answer refusal

-- a reply that no path leads to has 204
abbrev pub answer_of : Reply → Response
answer_of (reply.Command r) = command_answer r
answer_of reply.Took = bare 204
answer_of (reply.Gave delta) = with_body 200 [] (codes "application/octet-stream") (encoding delta)
answer_of (reply.Shown id status) = status_answer id status
answer_of (reply.ShownMember id m status) = ok_json (member_body id m status)
answer_of (reply.Listed page) = ok_json (page_body page)
answer_of (reply.Held holding) = bare 204
answer_of (reply.Surveyed survey) = bare 204
answer_of (reply.Due duties) = bare 204
answer_of (reply.Expired id) = bare 204
answer_of reply.Quiet = bare 204
answer_of (reply.Refused refusal) = refusal_answer refusal
