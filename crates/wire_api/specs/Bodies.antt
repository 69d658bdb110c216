-- What the bodies of requests say. They are JSON objects. Members with other names are ignored, and
-- a member that is `null` counts as absent.
use Rattle.std.specs.Prelude.{◌==◌, ◌+◌, ◌^◌, ◌≡◌, ℕ, List, codes, Option, Some, None, option_and_then, if◌then◌else◌, nat_lt, ⊤}
use Rattle.std.specs.Str.{bytes_eq, is_utf8}
use Rattle.serde_json.specs.Data.{Data, null, boolean, number, string, array, object}
use Rattle.serde_json.specs.Find.{as_u64, get}
use Rattle.serde_json.specs.Read.{read}
use Rattle.state_ids.specs.Ids.{Id}
use Rattle.state_ids.specs.declared.outcome.Act.{Act}
use Rattle.state_ids.specs.declared.outcome.Act.TheVariants.{Complete, Compensate}
use Rattle.state_ids.specs.declared.outcome.Outcome.{Outcome}
use Rattle.state_ids.specs.declared.outcome.Outcome.TheVariants.{Busy, Done, Failed}
use Rattle.state_facts.specs.declared.refusal.Refusal.{Refusal}
use Rattle.state_facts.specs.declared.refusal.Refusal.TheVariants.{BadText, NoMemory}
use Rattle.state_facts.specs.Links.{Links, kept_links}
use Rattle.wire_api.specs.Names.{id_of}

-- why what was to be read is missing: it breaks its grammar, or memory ran out
abbrev pub IsUnread : {A : Type 0} → Option A → Refusal → Type 0
IsUnread found BadText = found ≡ None
IsUnread found NoMemory = ⊤
IsUnread found _ = ⊥

abbrev pub if_object : Data → Option Data
if_object null = None
if_object (boolean b) = None
if_object (number n) = None
if_object (string s) = None
if_object (array ds) = None
if_object (object ms) = Some (object ms)

-- the JSON object that a body is, if it is one
unfoldable pub object_in : List ℕ → Option Data
object_in body = if is_utf8 body then option_and_then if_object (read body) else None

-- Members

-- a number of 64 bits: 0 if none is given
abbrev pub limit_in : Option Data → Option ℕ
limit_in None = Some 0
limit_in (Some null) = Some 0
limit_in (Some (boolean b)) = None
limit_in (Some (number n)) = as_u64 n
limit_in (Some (string s)) = None
limit_in (Some (array ds)) = None
limit_in (Some (object ms)) = None

-- a text, if one is given; nothing if something else is given
abbrev pub text_in : Option Data → Option (Option (List ℕ))
text_in None = Some None
text_in (Some null) = Some None
text_in (Some (boolean b)) = None
text_in (Some (number n)) = None
text_in (Some (string s)) = Some (Some s)
text_in (Some (array ds)) = None
text_in (Some (object ms)) = None

abbrev pub text_at : List ℕ → Data → Option (Option (List ℕ))
text_at name body = text_in (get name body)

-- The body of a begin

-- the moment this long after now: 0 if the limit is 0, and nothing if it is no number of 64 bits
abbrev pub deadline_of : ℕ → ℕ → Option ℕ
deadline_of now limit = if limit == 0 then Some 0 else if nat_lt (now + limit) (2 ^ 64) then Some (now + limit) else None

abbrev pub deadline_by : ℕ → Data → Option ℕ
deadline_by now body = option_and_then (deadline_of now) (limit_in (get (codes "limit") body))

abbrev pub some_id : Option Id → Option (Option Id)
some_id (Some id) = Some (Some id)
some_id None = None

abbrev pub id_if_given : Option (Option (List ℕ)) → Option (Option Id)
id_if_given (Some (Some text)) = some_id (id_of text)
id_if_given (Some None) = Some None
id_if_given None = None

abbrev pub parent_by : Data → Option (Option Id)
parent_by body = id_if_given (text_at (codes "parent") body)

-- The body of a join

abbrev pub links_of : (complete compensate status forget after : Option (Option (List ℕ))) → Option Links
links_of (Some c) (Some k) (Some s) (Some f) (Some a) = kept_links c k s f a
links_of _ _ _ _ _ = None

abbrev pub links_by : Data → Option Links
links_by body =
    links_of (text_at (codes "complete") body) (text_at (codes "compensate") body) (text_at (codes "status") body) (text_at (codes "forget") body) (text_at (codes "after") body)

-- The body of a report

abbrev pub act_named : List ℕ → Option Act
act_named text =
    if bytes_eq text (codes "complete") then Some Complete
    else if bytes_eq text (codes "compensate") then Some Compensate
    else None

abbrev pub act_in : Option (Option (List ℕ)) → Option Act
act_in (Some (Some text)) = act_named text
act_in (Some None) = None
act_in None = None

abbrev pub act_by : Data → Option Act
act_by body = act_in (text_at (codes "act") body)

abbrev pub outcome_named : List ℕ → Option Outcome
outcome_named text =
    if bytes_eq text (codes "busy") then Some Busy
    else if bytes_eq text (codes "done") then Some Done
    else if bytes_eq text (codes "failed") then Some Failed
    else None

abbrev pub outcome_in : Option (Option (List ℕ)) → Option Outcome
outcome_in (Some (Some text)) = outcome_named text
outcome_in (Some None) = None
outcome_in None = None

abbrev pub outcome_by : Data → Option Outcome
outcome_by body = outcome_in (text_at (codes "outcome") body)
