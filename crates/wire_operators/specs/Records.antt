-- Everything that is held of an LRA, as JSON.
use Rattle.std.specs.Prelude.{◌+◌, ℕ, zero, suc, List, [], ◌++◌, codes, Option, Some, None, if◌then◌else◌, nat_eq, option_map, option_and_then, slice_get}
use Rattle.std.specs.Fmt.{decimal}
use Rattle.state_ids.specs.Ids.{Id, is_fact_number, text_of}
use Rattle.state_ids.specs.Names.{lra_name, member_name, outcome_name, verdict_name}
use Rattle.state_ids.specs.declared.outcome.Outcome.{Outcome}
use Rattle.state_ids.specs.declared.outcome.Verdict.{Verdict}
use Rattle.state_ids.specs.declared.status.MemberStatus.{MemberStatus}
use Rattle.state_facts.specs.Links.{Links}
use Rattle.state_facts.specs.RefusalTexts.{refusal_text}
use Rattle.state_forest.specs.declared.record.Member.{Member}
use Rattle.state_forest.specs.declared.record.Member.TheVariants as member
use Rattle.state_forest.specs.declared.record.Participant.{Participant}
use Rattle.state_forest.specs.declared.record.Place.{Place}
use Rattle.state_forest.specs.declared.record.TheConstants.{MAX_MEMBERS}
use Rattle.state_facts.specs.declared.command.CommandReply.{CommandReply}
use Rattle.state_facts.specs.declared.command.CommandReply.TheVariants.{Refused}
use Rattle.state_book.specs.declared.holdings.Holding.{Holding}
use Rattle.wire_operators.specs.Json.{id_or_null, key, name_or_null, named, number_or_null, opened, quoted, truth, word}

-- the LRA with this number at the home of another
abbrev pub nested_at : Id → ℕ → Option Id
nested_at id n = if is_fact_number n then Some (record { home = id.home; num = n }) else None

abbrev pub parent_of : Id → Option Place → Option Id
parent_of id place = option_and_then (λ (p : Place). nested_at id p.number) place

abbrev pub verdict_name_of : Option Verdict → Option (List ℕ)
verdict_name_of verdict = option_map verdict_name verdict

abbrev pub outcome_name_of : Option Outcome → Option (List ℕ)
outcome_name_of outcome = option_map outcome_name outcome

abbrev pub status_name_of : Option MemberStatus → Option (List ℕ)
status_name_of status = option_map member_name status

-- Members

abbrev pub link_or_null : Option (List ℕ) → List ℕ
link_or_null (Some link) = quoted link
link_or_null None = codes "null"

-- {"compensate":L,"complete":L,"status":L,"forget":L,"after":L}
unfoldable pub links_text : Links → List ℕ
links_text l =
    opened (codes "compensate") (link_or_null l.compensate) ++ (named (codes "complete") (link_or_null l.complete)
    ++ (named (codes "status") (link_or_null l.status) ++ (named (codes "forget") (link_or_null l.forget)
    ++ (named (codes "after") (link_or_null l.after) ++ codes "}"))))

-- ,"completed":O,"compensated":O,"forgotten":B,"told":B}
unfoldable pub said_text : Participant → List ℕ
said_text p =
    named (codes "completed") (name_or_null (outcome_name_of p.completed))
    ++ (named (codes "compensated") (name_or_null (outcome_name_of p.compensated))
    ++ (named (codes "forgotten") (truth p.forgotten) ++ (named (codes "told") (truth p.told) ++ codes "}")))

-- ,"kind":"participant","status":S,"links":{..},..}
unfoldable pub participant_text : Participant → Option MemberStatus → List ℕ
participant_text p status =
    named (codes "kind") (word (codes "participant")) ++ (named (codes "status") (name_or_null (status_name_of status))
    ++ (named (codes "links") (links_text p.links) ++ said_text p))

-- ,"kind":"lra","lra":"ID"}
unfoldable pub nested_text : Option Id → List ℕ
nested_text id = named (codes "kind") (word (codes "lra")) ++ (named (codes "lra") (id_or_null id) ++ codes "}")

-- ,"kind":"left"}
unfoldable pub left_text : List ℕ
left_text = named (codes "kind") (word (codes "left")) ++ codes "}"

-- what stands behind the number of a member of an LRA
abbrev pub member_text : Id → Member → Option MemberStatus → List ℕ
member_text id (member.Participant p) status = participant_text p status
member_text id (member.Nested n) status = nested_text (nested_at id n)
member_text id member.Left status = left_text

abbrev pub comma_at : ℕ → List ℕ
comma_at n = if nat_eq n 0 then [] else codes ","

-- {"member":M.., behind a comma unless it is the first
unfoldable pub row_text : Id → (place : ℕ) → Member → Option MemberStatus → List ℕ
row_text id n m status = comma_at n ++ (opened (codes "member") (decimal (n + 1)) ++ member_text id m status)

abbrev pub row_by : Id → (place : ℕ) → Option Member → Option (Option MemberStatus) → List ℕ
row_by id n (Some m) (Some status) = row_text id n m status
row_by id n (Some m) None = []
row_by id n None status = []

-- the member at a place, if there is one
abbrev pub row_at : Holding → ℕ → List ℕ
row_at h n = row_by h.id n (slice_get h.record.members n) (slice_get h.members n)

-- the members at the first places
abbrev pub rows_to : Holding → ℕ → List ℕ
rows_to h zero = []
rows_to h (suc n) = rows_to h n ++ row_at h n

-- all places that have a member
unfoldable pub rows_text : Holding → List ℕ
rows_text h = rows_to h MAX_MEMBERS

-- The whole

-- how a purge would be answered: "due", or the refusal
abbrev pub purge_text : CommandReply → List ℕ
purge_text (Refused refusal) = word (refusal_text refusal)
purge_text _ = word (codes "due")

-- {"lra":"ID","status":"S","parent":"ID","deadline":MS,"decision":"V","purge":"T"
unfoldable pub head_text : Holding → List ℕ
head_text h =
    opened (codes "lra") (word (text_of h.id)) ++ (named (codes "status") (word (lra_name h.status))
    ++ (named (codes "parent") (id_or_null (parent_of h.id h.record.parent))
    ++ (named (codes "deadline") (number_or_null h.record.deadline)
    ++ (named (codes "decision") (name_or_null (verdict_name_of h.record.decision)) ++ named (codes "purge") (purge_text h.purge)))))

-- {..,"members":[..]}
unfoldable pub record_body : Holding → List ℕ
record_body h = head_text h ++ (key (codes "members") ++ (codes "[" ++ (rows_text h ++ codes "]}")))
