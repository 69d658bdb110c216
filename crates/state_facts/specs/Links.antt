-- The links of a participant: which ones may stand together, and which texts are kept of them.
use Rattle.std.specs.Prelude.{◌&&◌, ◌||◌, ℕ, List, Bool, Option, Some, None, if◌then◌else◌, is_some, option_and_then}
use mathlib.Core.Bool.{not}
use Rattle.state_facts.specs.LinkTexts.{kept_text}

-- to complete, to compensate, for its status, to forget, and for the end of its LRA
pub record Links : Type 0 where
  pub complete : Option (List ℕ)
  pub compensate : Option (List ℕ)
  pub status : Option (List ℕ)
  pub forget : Option (List ℕ)
  pub after : Option (List ℕ)

-- A participant of the saga gives a link to compensate, and any others. A participant without one
-- is a listener: it has only the link for the end of its LRA
abbrev pub are_together : {X : Type 0} → (complete compensate status forget after : Option X) → Bool
are_together complete compensate status forget after =
    is_some compensate || (is_some after && not (is_some complete || (is_some status || is_some forget)))

-- the links are those of a participant of the saga or of a listener
abbrev pub are_links : Links → Bool
are_links links = are_together links.complete links.compensate links.status links.forget links.after

-- these links, if they may stand together
abbrev pub links_together : (complete compensate status forget after : Option (List ℕ)) → Option Links
links_together complete compensate status forget after =
    if are_together complete compensate status forget after
    then Some (record { complete = complete; compensate = compensate; status = status; forget = forget; after = after })
    else None

-- what is kept of an optional link
abbrev pub kept_if_given : Option (List ℕ) → Option (Option (List ℕ))
kept_if_given None = Some None
kept_if_given (Some text) = option_and_then (λ kept. Some (Some kept)) (kept_text text)

-- the links, if each of the five could be kept
abbrev pub all_five : (complete compensate status forget after : Option (Option (List ℕ))) → Option Links
all_five (Some c) (Some k) (Some s) (Some f) (Some a) = Some (record { complete = c; compensate = k; status = s; forget = f; after = a })
all_five _ _ _ _ _ = None

-- the links that are kept of these texts. There are none if a given text is no link, if links to
-- compensate and for the end are both missing, or if another is given without one to compensate
abbrev pub kept_links : (complete compensate status forget after : Option (List ℕ)) → Option Links
kept_links complete compensate status forget after =
    if are_together complete compensate status forget after
    then all_five (kept_if_given complete) (kept_if_given compensate) (kept_if_given status) (kept_if_given forget) (kept_if_given after)
    else None
