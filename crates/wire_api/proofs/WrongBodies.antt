-- A body is wrong if it has an unknown member, or if the call is refused for it.
use Rattle.std.specs.Prelude.{⊤, is_err, is_none, is_some, not, option_and_then, option_map}
use Rattle.std.specs.Option.{option_flatten, option_or}
use Rattle.std.proofs.Common.{◌≡◌, ◌==◌, ◌||◌, ◌∙◌, ℕ, Bool, true, false, List, [], ◌∷◌, codes, Option, Some, None, Result, Ok, Err, ap, arith, length, refl, subst, sym, if◌then◌else◌}
use Rattle.std.specs.Str.{is_utf8}
use Rattle.std.proofs.lemmas.Bool.Decides.{nat_tests}
use Rattle.serde_json.proofs.OnLiterals.{serde_json_on_literals}
use Rattle.serde_json.specs.Data.{Data}
use Rattle.serde_json.specs.Read.{read}
use Rattle.serde_json.specs.Find.{get}
use Rattle.state_ids.specs.Ids.{Id}
use Rattle.state_ids.specs.declared.outcome.Act.{Act}
use Rattle.state_ids.specs.declared.outcome.Outcome.{Outcome}
use Rattle.state_facts.specs.Links.{all_five, are_together, kept_if_given, kept_links}
use Rattle.wire_http.specs.declared.message.Request.{Request}
use Rattle.state_book.specs.declared.calls.Call.{Call}
use Rattle.wire_api.specs.Bodies.{act_by, deadline_by, deadline_of, if_object, limit_in, links_by, links_of, object_in, outcome_by, parent_by, text_at}
use Rattle.wire_api.specs.BodyFaults.{begin_fault, fault_in, fault_text, form_at, form_by, form_of, has_unknown, join_fault, limit_fault, report_fault, unknown_of, unknown_text, why_in, why_in_body, why_in_object, why_with, with_ids}
use Rattle.wire_api.specs.Names.{member_of}
use Rattle.wire_api.specs.Paths.{endpoint_of, member_part, path_of}
use Rattle.wire_api.specs.Routes.{begin_in, begin_with, by_action, by_endpoint, id_in, join_in, or_bad_text, report_in, report_with, routed, with_member}
use Rattle.wire_api.specs.Table.{action_at, method_of}
use Rattle.wire_api.specs.declared.body_faults.BodyFault.{BodyFault}
use Rattle.wire_api.specs.declared.body_faults.BodyFault.TheVariants.{NoText, NoLinks, NoCompensate, NoLink, NoParent, LongLimit, NoAct, NoOutcome}
use Rattle.wire_api.specs.declared.body_faults.Form.{Form}
use Rattle.wire_api.specs.declared.body_faults.Form.TheVariants.{Begin, Join, Report}
use Rattle.wire_api.specs.declared.body_faults.JoinLink.TheVariants.{Complete, Compensate, Status, Forget, After}
use Rattle.wire_api.specs.declared.routing.Unrouted.{Unrouted}
use Rattle.wire_api.specs.declared.table.Action.{Action}
use Rattle.wire_api.specs.declared.table.Action.TheVariants as action
use Rattle.wire_api.specs.declared.table.Endpoint.{Endpoint}

-- The members of a begin

late_or_not : (parent : Option Id) (deadline : Option ℕ) → is_some {T = BodyFault} (if is_some deadline then None else Some LongLimit) ≡ is_none (begin_with (Some parent) deadline)
late_or_not parent None = refl
late_or_not parent (Some deadline) = refl

begin_by : (now : ℕ) (parent : Option (Option Id)) (limit : Option ℕ) → is_some (if is_some parent then limit_fault now limit else Some NoParent) ≡ is_none (begin_with parent (option_and_then (deadline_of now) limit))
begin_by now None limit = refl
begin_by now (Some parent) None = refl
begin_by now (Some parent) (Some limit) = late_or_not parent (deadline_of now limit)

begin_refused : (now : ℕ) (o : Data) → is_some (begin_fault now o) ≡ is_none (begin_with (parent_by o) (deadline_by now o))
begin_refused now o = begin_by now (parent_by o) (limit_in (get (codes "limit") o))

-- The members of a join

abbrev Text : Type 0
Text = Option (List ℕ)

all_links : (c k s f a : Option Text) → is_some (option_map NoLink (if not (is_some c) then Some Complete else if not (is_some k) then Some Compensate else if not (is_some s) then Some Status else if not (is_some f) then Some Forget else if not (is_some a) then Some After else None)) ≡ is_none (all_five c k s f a)
all_links None k s f a = refl
all_links (Some c) None s f a = refl
all_links (Some c) (Some k) None f a = refl
all_links (Some c) (Some k) (Some s) None a = refl
all_links (Some c) (Some k) (Some s) (Some f) None = refl
all_links (Some c) (Some k) (Some s) (Some f) (Some a) = refl

-- the texts that are given
abbrev links_fault : (c k s f a : Text) → Option BodyFault
links_fault c k s f a =
    option_or
    (if is_some k then None
    else if not (is_some a) then Some NoLinks
    else if is_some c || (is_some s || is_some f) then Some NoCompensate
    else None)
    (option_map NoLink
    (if not (is_some (kept_if_given c)) then Some Complete
    else if not (is_some (kept_if_given k)) then Some Compensate
    else if not (is_some (kept_if_given s)) then Some Status
    else if not (is_some (kept_if_given f)) then Some Forget
    else if not (is_some (kept_if_given a)) then Some After
    else None))

links_refused : (c k s f a : Text) → is_some (links_fault c k s f a) ≡ is_none (kept_links c k s f a)
links_refused c (Some k) s f a = all_links (kept_if_given c) (kept_if_given (Some k)) (kept_if_given s) (kept_if_given f) (kept_if_given a)
links_refused c None s f None = refl
links_refused (Some c) None s f (Some a) = refl
links_refused None None (Some s) f (Some a) = refl
links_refused None None None (Some f) (Some a) = refl
links_refused None None None None (Some a) = all_links (Some None) (Some None) (Some None) (Some None) (kept_if_given (Some a))

-- the texts, if each of them is one
abbrev texts_fault : (c k s f a : Option Text) → Option BodyFault
texts_fault c k s f a =
    option_or
    (option_map NoText
    (if not (is_some c) then Some Complete
    else if not (is_some k) then Some Compensate
    else if not (is_some s) then Some Status
    else if not (is_some f) then Some Forget
    else if not (is_some a) then Some After
    else None))
    (links_fault (option_flatten c) (option_flatten k) (option_flatten s) (option_flatten f) (option_flatten a))

texts_refused : (c k s f a : Option Text) → is_some (texts_fault c k s f a) ≡ is_none (links_of c k s f a)
texts_refused None k s f a = refl
texts_refused (Some c) None s f a = refl
texts_refused (Some c) (Some k) None f a = refl
texts_refused (Some c) (Some k) (Some s) None a = refl
texts_refused (Some c) (Some k) (Some s) (Some f) None = refl
texts_refused (Some c) (Some k) (Some s) (Some f) (Some a) = links_refused c k s f a

join_refused : (o : Data) → is_some (join_fault o) ≡ is_none (links_by o)
join_refused o =
    texts_refused (text_at (codes "complete") o) (text_at (codes "compensate") o) (text_at (codes "status") o) (text_at (codes "forget") o) (text_at (codes "after") o)

-- The members of a report

report_by : (id : Id) (m : ℕ) (act : Option Act) (outcome : Option Outcome) → is_some (if not (is_some act) then Some NoAct else if not (is_some outcome) then Some NoOutcome else None) ≡ is_none (report_with id m act outcome)
report_by id m None outcome = refl
report_by id m (Some act) None = refl
report_by id m (Some act) (Some outcome) = refl

report_refused : (id : Id) (m : ℕ) (o : Data) → is_some (report_fault o) ≡ is_none (report_with id m (act_by o) (outcome_by o))
report_refused id m o = report_by id m (act_by o) (outcome_by o)

-- Bodies

is_some-option_map : {A B : Type 0} (f : A → B) (o : Option A) → is_some (option_map f o) ≡ is_some o
is_some-option_map f None = refl
is_some-option_map f (Some x) = refl

is_err-or_bad_text : (call : Option Call) → is_err (or_bad_text call) ≡ is_none call
is_err-or_bad_text None = refl
is_err-or_bad_text (Some call) = refl

-- the call is refused if and only if a member is wrong
abbrev AreAlike : Option BodyFault → Option Call → Type 0
AreAlike fault call = is_some fault ≡ is_none call

with_unknown : (unknown : Text) (fault : Option BodyFault) (call : Option Call) → AreAlike fault call → is_some (why_with unknown fault) ≡ (is_some unknown || is_err (or_bad_text call))
with_unknown (Some name) fault call alike = refl
with_unknown None fault call alike = is_some-option_map fault_text fault ∙ (alike ∙ sym (is_err-or_bad_text call))

in_object : (form : Form) (now : ℕ) (object : Option Data) (call : Data → Option Call) → ((o : Data) → AreAlike (fault_in form now o) (call o))
    → is_some (why_in_object form now object) ≡ (is_some (option_and_then (unknown_of form) object) || is_err (or_bad_text (option_and_then call object)))
in_object form now None call alike = refl
in_object form now (Some o) call alike = with_unknown (unknown_of form o) (fault_in form now o) (call o) (alike o)

no_json : (is : Bool) → (if is then option_and_then if_object (read []) else None) ≡ None
unfolding serde_json_on_literals
no_json true = refl
no_json false = refl

no_body : object_in [] ≡ None
unfolding object_in
no_body = no_json (is_utf8 [])

some_body : (b : ℕ) (body : List ℕ) → (length (b ∷ body) == 0) ≡ false
some_body b body = grind (arith, nat_tests)

-- whether a body is wrong, and what its request asks for
abbrev IsJudged : ℕ → (body : List ℕ) → Form → Result Call Unrouted → Type 0
IsJudged now body form asked = is_some (why_in_body form now body) ≡ (has_unknown form body || is_err asked)

begin_judged : (now : ℕ) (body : List ℕ) → IsJudged now body Begin (or_bad_text (begin_in now body))
unfolding why_in_body
begin_judged now [] = rw no_body refl
begin_judged now (b ∷ body) = rw (some_body b body) (in_object Begin now (object_in (b ∷ body)) (λ o. begin_with (parent_by o) (deadline_by now o)) (begin_refused now))

is_none-option_map : {A B : Type 0} (f : A → B) (o : Option A) → is_none (option_map f o) ≡ is_none o
is_none-option_map f None = refl
is_none-option_map f (Some x) = refl

join_judged : (now : ℕ) (id : Id) (body : List ℕ) → IsJudged now body Join (or_bad_text (join_in id body))
unfolding why_in_body
join_judged now id body = in_object Join now (object_in body) _ (λ o. join_refused o ∙ sym (is_none-option_map _ (links_by o)))

report_judged : (now : ℕ) (id : Id) (m : ℕ) (body : List ℕ) → IsJudged now body Report (or_bad_text (report_in id m body))
unfolding why_in_body
report_judged now id m body = in_object Report now (object_in body) _ (report_refused id m)

-- Requests

-- if there is a form
abbrev IsJudgedIf : ℕ → (body : List ℕ) → Option Form → Result Call Unrouted → Type 0
IsJudgedIf now body (Some form) asked = IsJudged now body form asked
IsJudgedIf now body None asked = ⊤

join_at : (now : ℕ) (body : List ℕ) (id : Option Id) → IsJudgedIf now body (option_map (λ i. Join) id) (or_bad_text (option_and_then (λ i. join_in i body) id))
join_at now body None = tt
join_at now body (Some id) = join_judged now id body

report_at : (now : ℕ) (body : List ℕ) (id : Option Id) (m : Option ℕ) → IsJudgedIf now body (with_ids Report id m) (or_bad_text (with_member action.Report id m body))
report_at now body None m = tt
report_at now body (Some id) None = tt
report_at now body (Some id) (Some m) = report_judged now id m body

action_judged : (now : ℕ) (request : Request) (endpoint : Endpoint) (asked : Option Action) → IsJudgedIf now request.body (option_and_then (λ a. form_at a (path_of request.target)) asked) (by_action now request endpoint asked)
action_judged now request endpoint None = tt
action_judged now request endpoint (Some action.Begin) = begin_judged now request.body
action_judged now request endpoint (Some action.Join) = join_at now request.body (id_in (path_of request.target))
action_judged now request endpoint (Some action.Report) = report_at now request.body (id_in (path_of request.target)) (member_of (member_part (path_of request.target)))
action_judged now request endpoint (Some action.List) = tt
action_judged now request endpoint (Some action.Pull) = tt
action_judged now request endpoint (Some action.Member) = tt
action_judged now request endpoint (Some action.Leave) = tt
action_judged now request endpoint (Some action.Status) = tt
action_judged now request endpoint (Some action.Purge) = tt
action_judged now request endpoint (Some (action.Decide verdict)) = tt

endpoint_judged : (now : ℕ) (request : Request) (endpoint : Option Endpoint) → IsJudgedIf now request.body (option_and_then (form_by request) endpoint) (by_endpoint now request endpoint)
endpoint_judged now request None = tt
endpoint_judged now request (Some endpoint) = action_judged now request endpoint (action_at endpoint (method_of request.method))

why_of_form : (now : ℕ) (request : Request) (form : Form) → form_of request ≡ Some form → why_in now request ≡ why_in_body form now request.body
unfolding why_in
why_of_form now request form is = rw is refl

pub wrong_exactly : (now : ℕ) (request : Request) (form : Form) → form_of request ≡ Some form → is_some (why_in now request) ≡ (has_unknown form request.body || is_err (routed now request))
wrong_exactly now request form is =
    ap is_some (why_of_form now request form is)
    ∙ subst (λ (f : Option Form). IsJudgedIf now request.body f (routed now request)) is (endpoint_judged now request (endpoint_of (path_of request.target)))

pub nothing_wrong : (now : ℕ) (request : Request) → form_of request ≡ None → why_in now request ≡ None
unfolding why_in
nothing_wrong now request is = rw is refl

named : (form : Form) (now : ℕ) (body : List ℕ) (o : Data) (name : List ℕ) → object_in body ≡ Some o → unknown_of form o ≡ Some name → why_in_body form now body ≡ Some (unknown_text name)
unfolding why_in_body
named Begin now [] o name is unknown = let both : Some o ≡ None = sym is ∙ no_body in cc
named Begin now (b ∷ body) o name is unknown = rw (some_body b body, is, unknown) refl
named Join now body o name is unknown = rw (is, unknown) refl
named Report now body o name is unknown = rw (is, unknown) refl

pub unknown_named : (now : ℕ) (request : Request) (form : Form) (o : Data) (name : List ℕ) → form_of request ≡ Some form → object_in request.body ≡ Some o → unknown_of form o ≡ Some name → why_in now request ≡ Some (unknown_text name)
unknown_named now request form o name asks is unknown = why_of_form now request form asks ∙ named form now request.body o name is unknown
