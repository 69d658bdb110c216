-- The text of an answer is one whole response again.
use Rattle.std.proofs.Common.{◌≡◌, ◌<◌, ◌≤◌, ◌+◌, ◌^◌, ℕ, true, false, IsTrue, List, [], ◌∷◌, ◌++◌, codes, length, map, refl, arith, nat_lt}
use Rattle.std.specs.Fmt.{decimal}
use Rattle.std.specs.List.{list_all}
use Rattle.std.proofs.lemmas.Fmt.{length-decimal-le}
use Rattle.std.proofs.lemmas.List.{length-append}
use Rattle.std.proofs.lemmas.List.Elements.{All-append, All-from_recursion}
use Rattle.std.proofs.lemmas.List.Sums.{AllPass-from_list_all}
use Rattle.httparse.specs.Grammar.{AllPass, is_token_byte, is_value_byte, trim_ows}
use Rattle.state_ids.specs.Ids.{Id, text_of}
use Rattle.wire_http.specs.declared.fault.Fault.{Fault}
use Rattle.wire_http.specs.ByteResponses.{Response}
use Rattle.wire_http.specs.HeadFields.{field_bytes, is_bare, response_length}
use Rattle.wire_http.specs.MessageTexts.{field_lines, line_end, phrase, response_head, status_line}
use Rattle.wire_http.specs.WholeMessages.{IsPlain, IsSound}
use Rattle.wire_http.specs.declared.fault.Fault.TheVariants as fault
use Rattle.wire_http.specs.Faults.{fault_name}
use Rattle.wire_http.proofs.PlainValues.{Short, decimal_visible, is_visible, length_is, lines_short, literal_visible, plain_visible, sized}
use Rattle.wire_http.proofs.WholeMessages.{whole_response}
use Rattle.state_ids.proofs.VisibleTexts.{text_length, text_visible}
use Rattle.state_ids.specs.declared.status.LraStatus.TheVariants.{Active}
use Rattle.state_facts.specs.declared.refusal.Refusal.{Refusal}
use Rattle.state_facts.specs.declared.refusal.Refusal.TheVariants.{BadText, UnknownLra, NotHeld, NotHome, UnknownMember, NotActive, NotDue, NotEnded, NotRoot, StillToForget, StillToTell, MembersFull, DepthFull, LrasFull, NumbersSpent, Gap, NeedsVersion2, BadFrame, NoMemory, JournalFailed, Stopped, RunFull, TrailLost, Strange}
use Rattle.state_facts.specs.RefusalTexts.{refusal_text}
use Rattle.state_facts.specs.declared.command.CommandReply.{CommandReply}
use Rattle.state_facts.specs.declared.command.CommandReply.TheVariants as command
use Rattle.wire_frames.specs.Encoding.{encoding}
use Rattle.state_book.specs.declared.calls.Reply.{Reply}
use Rattle.state_book.specs.declared.calls.Reply.TheVariants as reply
use Rattle.wire_api.specs.declared.routing.Unrouted.{Unrouted}
use Rattle.wire_api.specs.declared.routing.Unrouted.TheVariants as unrouted
use Rattle.wire_api.specs.declared.table.Endpoint.{Endpoint}
use Rattle.wire_api.specs.declared.table.Endpoint.TheVariants as endpoint
use Rattle.wire_api.specs.Table.{methods_of}
use Rattle.wire_api.specs.Wholes.{IsNumbered, IsNumberedCommand, IsWhole}
use Rattle.wire_api.specs.declared.answers.AnswerField.{AnswerField}
use Rattle.wire_api.specs.declared.answers.AnswerField.TheVariants.{Allow, Action, Recovery, ContentType, ContentLength, Connection}
use Rattle.wire_api.specs.Answers.{answer_of, bare, closing, code_of, command_answer, fault_answer, fault_code, field, field_name, json, of_length, of_type, refusal_answer, unrouted_answer, with_body}
use Rattle.wire_api.specs.Texts.{join_body, member_body, page_body, recovery_path, refusal_body, status_body, urn}

-- Fields of answers

-- a field of an answer with such a value
field_plain : (name : AnswerField) (value : List ℕ) → AllPass is_visible value → IsPlain (field name value)
unfolding is_token_byte
field_plain Allow value h = plain_visible (field_name Allow) value (omega arith) refl h
field_plain Action value h = plain_visible (field_name Action) value (omega arith) refl h
field_plain Recovery value h = plain_visible (field_name Recovery) value (omega arith) refl h
field_plain ContentType value h = plain_visible (field_name ContentType) value (omega arith) refl h
field_plain ContentLength value h = plain_visible (field_name ContentLength) value (omega arith) refl h
field_plain Connection value h = plain_visible (field_name Connection) value (omega arith) refl h

-- Heads of few bytes

head_short : (r : Response) → length (status_line r.status) ≤ 100 → Short r.fields → length r.fields ≤ 4 → length (response_head r) ≤ 16384
head_short r status short few =
    let one = length-append (status_line r.status) (field_lines r.fields ++ line_end) in
    let two = length-append (field_lines r.fields) line_end in
    let lines = lines_short r.fields short in
    omega (arith, one, two, lines, status, few)

-- Codes of answers with a body

pub record IsCode (code : ℕ) : Type 0 where
  pub final : 200 ≤ code
  pub status : code < 1000
  pub low : nat_lt code 100 ≡ false
  pub bodied : is_bare code ≡ false
  pub short : length (status_line code) ≤ 100

-- a field that may come before those of the body
abbrev pub IsFirst : AnswerField → Type 0
IsFirst Allow = Unit {0}
IsFirst Action = Unit {0}
IsFirst Recovery = Unit {0}
IsFirst ContentType = ⊥
IsFirst ContentLength = ⊥
IsFirst Connection = ⊥

close_plain : IsPlain closing
close_plain = field_plain Connection (codes "close") (literal_visible (codes "close") refl)

size_plain : (n : ℕ) → n < 2 ^ 64 → IsPlain (field ContentLength (decimal n))
size_plain n fits = field_plain ContentLength (decimal n) (decimal_visible n fits)

size_short : (n : ℕ) → n < 2 ^ 64 → length (decimal n) ≤ 20
size_short n fits = length-decimal-le 20 n (omega arith) (omega arith) fits

pub sound_with : (limit code : ℕ) (kind body : List ℕ) → IsCode code → AllPass is_visible kind → length kind ≤ 100 → length body < 2 ^ 64 → length body ≤ limit
    → IsSound limit (with_body code [] kind body)
sound_with limit code kind body right clear few fits low =
    let size = size_short (length body) fits in
    record {
      final = right.final;
      status = right.status;
      fields = All-from_recursion IsPlain (of_type kind ∷ of_length body ∷ closing ∷ []) (field_plain ContentType kind clear, (size_plain (length body) fits, (close_plain, tt)));
      stated = rw (right.low, right.bodied) (length_is limit (length body) fits low);
      short = head_short (with_body code [] kind body) right.short (omega (arith, few), (omega (arith, size), (omega arith, tt))) (omega arith);
      few = omega arith;
    }

pub sound_behind : (limit code : ℕ) (name : AnswerField) (value kind body : List ℕ) → IsFirst name → IsPlain (field name value) → length value ≤ 200
    → IsCode code → AllPass is_visible kind → length kind ≤ 100 → length body < 2 ^ 64 → length body ≤ limit
    → IsSound limit (with_body code (field name value ∷ []) kind body)
sound_behind limit code name value kind body first plain little right clear few fits low =
    let size = size_short (length body) fits in
    record {
      final = right.final;
      status = right.status;
      fields = All-from_recursion IsPlain (field name value ∷ of_type kind ∷ of_length body ∷ closing ∷ [])
          (plain, (field_plain ContentType kind clear, (size_plain (length body) fits, (close_plain, tt))));
      stated = stated_behind name first;
      short = head_short (with_body code (field name value ∷ []) kind body) right.short (name_short name, (omega (arith, few), (omega (arith, size), (omega arith, tt)))) (omega arith);
      few = omega arith;
    }
  where
    stated_behind : (name : AnswerField) → IsFirst name
        → response_length limit code (map field_bytes (field name value ∷ of_type kind ∷ of_length body ∷ closing ∷ [])) ≡ sized (length body)
    stated_behind Allow f = rw (right.low, right.bodied) (length_is limit (length body) fits low)
    stated_behind Action f = rw (right.low, right.bodied) (length_is limit (length body) fits low)
    stated_behind Recovery f = rw (right.low, right.bodied) (length_is limit (length body) fits low)
    stated_behind ContentType f = absurd f
    stated_behind ContentLength f = absurd f
    stated_behind Connection f = absurd f

    name_short : (name : AnswerField) → length (field_name name) + length value ≤ 300
    name_short Allow = omega (arith, little)
    name_short Action = omega (arith, little)
    name_short Recovery = omega (arith, little)
    name_short ContentType = omega (arith, little)
    name_short ContentLength = omega (arith, little)
    name_short Connection = omega (arith, little)

pub sound_bare : (limit : ℕ) → IsSound limit (bare 204)
unfolding phrase
sound_bare limit = record {
  final = omega arith;
  status = omega arith;
  fields = All-from_recursion IsPlain (closing ∷ []) (close_plain, tt);
  stated = refl;
  short = omega arith;
  few = omega arith;
}

code_200 : IsCode 200
unfolding phrase
code_200 = record { final = omega arith; status = omega arith; low = refl; bodied = refl; short = omega arith }

code_201 : IsCode 201
unfolding phrase
code_201 = record { final = omega arith; status = omega arith; low = refl; bodied = refl; short = omega arith }

code_400 : IsCode 400
unfolding phrase
code_400 = record { final = omega arith; status = omega arith; low = refl; bodied = refl; short = omega arith }

code_404 : IsCode 404
unfolding phrase
code_404 = record { final = omega arith; status = omega arith; low = refl; bodied = refl; short = omega arith }

code_405 : IsCode 405
unfolding phrase
code_405 = record { final = omega arith; status = omega arith; low = refl; bodied = refl; short = omega arith }

code_409 : IsCode 409
unfolding phrase
code_409 = record { final = omega arith; status = omega arith; low = refl; bodied = refl; short = omega arith }

code_410 : IsCode 410
unfolding phrase
code_410 = record { final = omega arith; status = omega arith; low = refl; bodied = refl; short = omega arith }

code_411 : IsCode 411
unfolding phrase
code_411 = record { final = omega arith; status = omega arith; low = refl; bodied = refl; short = omega arith }

code_412 : IsCode 412
unfolding phrase
code_412 = record { final = omega arith; status = omega arith; low = refl; bodied = refl; short = omega arith }

code_413 : IsCode 413
unfolding phrase
code_413 = record { final = omega arith; status = omega arith; low = refl; bodied = refl; short = omega arith }

code_421 : IsCode 421
unfolding phrase
code_421 = record { final = omega arith; status = omega arith; low = refl; bodied = refl; short = omega arith }

code_431 : IsCode 431
unfolding phrase
code_431 = record { final = omega arith; status = omega arith; low = refl; bodied = refl; short = omega arith }

code_501 : IsCode 501
unfolding phrase
code_501 = record { final = omega arith; status = omega arith; low = refl; bodied = refl; short = omega arith }

code_503 : IsCode 503
unfolding phrase
code_503 = record { final = omega arith; status = omega arith; low = refl; bodied = refl; short = omega arith }

refusal_code : (refusal : Refusal) → IsCode (code_of refusal)
refusal_code BadText = code_400
refusal_code UnknownLra = code_404
refusal_code NotHeld = code_410
refusal_code (NotHome home) = code_421
refusal_code UnknownMember = code_404
refusal_code (NotActive status) = code_412
refusal_code (NotDue status) = code_409
refusal_code (NotEnded status) = code_409
refusal_code NotRoot = code_409
refusal_code (StillToForget id member) = code_409
refusal_code (StillToTell id member) = code_409
refusal_code MembersFull = code_503
refusal_code DepthFull = code_503
refusal_code LrasFull = code_503
refusal_code NumbersSpent = code_503
refusal_code (Gap front) = code_503
refusal_code NeedsVersion2 = code_503
refusal_code (BadFrame place) = code_400
refusal_code NoMemory = code_503
refusal_code JournalFailed = code_503
refusal_code Stopped = code_503
refusal_code RunFull = code_503
refusal_code (TrailLost number) = code_503
refusal_code (Strange place) = code_503

fault_right : (f : Fault) → IsCode (fault_code f)
fault_right fault.BadHead = code_400
fault_right fault.BodyTooLong = code_413
fault_right fault.HeadTooLong = code_431
fault_right fault.NotOffered = code_501
fault_right fault.LengthNeeded = code_411
fault_right fault.Cut = code_400
fault_right fault.ReadFault = code_400
fault_right fault.WriteFault = code_400
fault_right fault.NoMemory = code_503

-- Values of fields

urn_visible : (id : Id) → AllPass is_visible (urn id)
unfolding urn
urn_visible id = All-append (λ x. IsTrue (is_visible x)) (codes "urn:uuid:") (text_of id) (literal_visible (codes "urn:uuid:") refl) (text_visible id)

urn_short : (id : Id) → length (urn id) ≤ 200
unfolding urn
urn_short id =
    let long = text_length id in
    omega (arith, long)

path_visible : (id : Id) (m : ℕ) → m < 2 ^ 64 → AllPass is_visible (recovery_path id m)
unfolding recovery_path
path_visible id m fits =
    All-append (λ x. IsTrue (is_visible x)) (codes "/lra/") _ (literal_visible (codes "/lra/") refl)
    (All-append (λ x. IsTrue (is_visible x)) (text_of id) _ (text_visible id)
    (All-append (λ x. IsTrue (is_visible x)) (codes "/member/") _ (literal_visible (codes "/member/") refl) (decimal_visible m fits)))

path_short : (id : Id) (m : ℕ) → m < 2 ^ 64 → length (recovery_path id m) ≤ 200
unfolding recovery_path
path_short id m fits =
    let long = text_length id in
    let size = size_short m fits in
    let whole = length-append (text_of id) (codes "/member/" ++ decimal m) in
    omega (arith, long, size, whole)

-- Answers

sound_json : (limit code : ℕ) (body : List ℕ) → IsCode code → limit < 2 ^ 64 → length body ≤ limit → IsSound limit (json code [] body)
sound_json limit code body right fits low =
    sound_with limit code (codes "application/json") body right (literal_visible (codes "application/json") refl) (omega arith) (omega (arith, low, fits)) low

sound_first : (limit code : ℕ) (name : AnswerField) (value body : List ℕ) → IsFirst name → IsPlain (field name value) → length value ≤ 200 → IsCode code
    → limit < 2 ^ 64 → length body ≤ limit → IsSound limit (json code (field name value ∷ []) body)
sound_first limit code name value body first plain few right fits low =
    sound_behind limit code name value (codes "application/json") body first plain few right (literal_visible (codes "application/json") refl) (omega arith)
    (omega (arith, low, fits)) low

sound_refusal : (limit : ℕ) (refusal : Refusal) → limit < 2 ^ 64 → length (refusal_answer refusal).body ≤ limit → IsSound limit (refusal_answer refusal)
sound_refusal limit refusal fits low = sound_json limit (code_of refusal) (refusal_body (refusal_text refusal)) (refusal_code refusal) fits low

sound_command : (limit : ℕ) (r : CommandReply) → limit < 2 ^ 64 → IsNumberedCommand r → length (command_answer r).body ≤ limit → IsSound limit (command_answer r)
sound_command limit (command.Began id m) fits small low =
    sound_first limit 201 Action (urn id) (status_body id Active) tt (field_plain Action (urn id) (urn_visible id)) (urn_short id) code_201 fits low
sound_command limit (command.Joined id m) fits small low =
    sound_first limit 200 Recovery (recovery_path id m) (join_body id m) tt (field_plain Recovery (recovery_path id m) (path_visible id m small)) (path_short id m small) code_200 fits low
sound_command limit (command.Decided id status) fits small low = sound_json limit 200 (status_body id status) code_200 fits low
sound_command limit command.Left fits small low = sound_bare limit
sound_command limit command.Reported fits small low = sound_bare limit
sound_command limit command.Known fits small low = sound_bare limit
sound_command limit command.Forgotten fits small low = sound_bare limit
sound_command limit command.Told fits small low = sound_bare limit
sound_command limit command.Purged fits small low = sound_bare limit
sound_command limit (command.Refused refusal) fits small low = sound_refusal limit refusal fits low

sound_reply : (limit : ℕ) (r : Reply) → limit < 2 ^ 64 → IsNumbered r → length (answer_of r).body ≤ limit → IsSound limit (answer_of r)
sound_reply limit (reply.Command r) fits small low = sound_command limit r fits small low
sound_reply limit reply.Took fits small low = sound_bare limit
sound_reply limit (reply.Gave delta) fits small low =
    sound_with limit 200 (codes "application/octet-stream") (encoding delta) code_200 (literal_visible (codes "application/octet-stream") refl) (omega arith)
    (omega (arith, low, fits)) low
sound_reply limit (reply.Shown id status) fits small low = sound_json limit 200 (status_body id status) code_200 fits low
sound_reply limit (reply.ShownMember id m status) fits small low = sound_json limit 200 (member_body id m status) code_200 fits low
sound_reply limit (reply.Listed page) fits small low = sound_json limit 200 (page_body page) code_200 fits low
sound_reply limit (reply.Held holding) fits small low = sound_bare limit
sound_reply limit (reply.Surveyed survey) fits small low = sound_bare limit
sound_reply limit (reply.Due duties) fits small low = sound_bare limit
sound_reply limit (reply.Expired id) fits small low = sound_bare limit
sound_reply limit reply.Quiet fits small low = sound_bare limit
sound_reply limit (reply.Refused refusal) fits small low = sound_refusal limit refusal fits low

pub reply_whole : (limit : ℕ) (r : Reply) (rest : List ℕ) → limit < 2 ^ 64 → IsNumbered r → length (answer_of r).body ≤ limit → IsWhole limit (answer_of r) rest
reply_whole limit r rest fits small low = whole_response limit (answer_of r) rest (sound_reply limit r fits small low)

pub fault_whole : (limit : ℕ) (f : Fault) (rest : List ℕ) → limit < 2 ^ 64 → length (fault_answer f).body ≤ limit → IsWhole limit (fault_answer f) rest
fault_whole limit f rest fits low =
    whole_response limit (fault_answer f) rest (sound_json limit (fault_code f) (refusal_body (fault_name f)) (fault_right f) fits low)

-- the methods of a path as a field
listed_plain : (value : List ℕ) → list_all is_value_byte value ≡ true → trim_ows value ≡ value → IsPlain (field Allow value)
unfolding is_token_byte
listed_plain value passes trimmed = record {
  name = (omega arith, AllPass-from_list_all is_token_byte (codes "Allow") refl);
  value = AllPass-from_list_all is_value_byte value passes;
  trimmed = trimmed;
}

allowed_plain : (p : Endpoint) → IsPlain (field Allow (methods_of p))
unfolding trim_ows
allowed_plain endpoint.Lras = listed_plain (methods_of endpoint.Lras) refl refl
allowed_plain endpoint.Lra = listed_plain (methods_of endpoint.Lra) refl refl
allowed_plain endpoint.Join = listed_plain (methods_of endpoint.Join) refl refl
allowed_plain endpoint.Close = listed_plain (methods_of endpoint.Close) refl refl
allowed_plain endpoint.Cancel = listed_plain (methods_of endpoint.Cancel) refl refl
allowed_plain endpoint.Member = listed_plain (methods_of endpoint.Member) refl refl
allowed_plain endpoint.Leave = listed_plain (methods_of endpoint.Leave) refl refl
allowed_plain endpoint.Report = listed_plain (methods_of endpoint.Report) refl refl
allowed_plain endpoint.Pull = listed_plain (methods_of endpoint.Pull) refl refl

allowed_short : (p : Endpoint) → length (methods_of p) ≤ 200
allowed_short endpoint.Lras = omega arith
allowed_short endpoint.Lra = omega arith
allowed_short endpoint.Join = omega arith
allowed_short endpoint.Close = omega arith
allowed_short endpoint.Cancel = omega arith
allowed_short endpoint.Member = omega arith
allowed_short endpoint.Leave = omega arith
allowed_short endpoint.Report = omega arith
allowed_short endpoint.Pull = omega arith

sound_unrouted : (limit : ℕ) (u : Unrouted) → limit < 2 ^ 64 → length (unrouted_answer u).body ≤ limit → IsSound limit (unrouted_answer u)
sound_unrouted limit unrouted.NoPath fits low = sound_json limit 404 (refusal_body (codes "NoPath")) code_404 fits low
sound_unrouted limit (unrouted.NoMethod p) fits low =
    sound_first limit 405 Allow (methods_of p) (refusal_body (codes "NoMethod")) tt (allowed_plain p) (allowed_short p) code_405 fits low
sound_unrouted limit (unrouted.Refused refusal) fits low = sound_refusal limit refusal fits low

pub unrouted_whole : (limit : ℕ) (u : Unrouted) (rest : List ℕ) → limit < 2 ^ 64 → length (unrouted_answer u).body ≤ limit → IsWhole limit (unrouted_answer u) rest
unrouted_whole limit u rest fits low = whole_response limit (unrouted_answer u) rest (sound_unrouted limit u fits low)
