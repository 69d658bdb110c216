-- The merge of two records of one LRA, and how a home's records change when another node's are
-- taken.
use Rattle.std.specs.Prelude.{◌&&◌, ◌||◌, ◌==◌, ℕ, Bool, false, Option, Some, None, List, [], ◌∷◌, filter, if◌then◌else◌, is_some, nat_le, option_map, Vec}
use Rattle.std.specs.declared.alloc.Global.{Global}
use mathlib.Core.Bool.{not}
use Rattle.std.specs.List.{list_any}
use Rattle.state_ids.specs.Ids.{Id, is_fact_number}
use Rattle.state_ids.specs.Fronts.{count, join_fronts}
use Rattle.state_ids.specs.States.{greater}
use Rattle.std.specs.Option.{option_map}
use Rattle.state_forest.specs.declared.record.Participant.{Participant as ParticipantRecord}
use Rattle.state_forest.specs.declared.record.Member.{Member}
use Rattle.state_forest.specs.declared.record.Member.TheVariants.{Nested, Participant, Left}
use Rattle.state_forest.specs.declared.record.Record.{Record}
use Rattle.state_forest.specs.Forests.{is_of}
use Rattle.state_forest.specs.Places.{put_record}

-- Two records of one LRA

-- A participant without whatever it has no link for: the outcomes of completing and compensating,
-- and the marks that it was told to forget and told that its LRA has ended
abbrev pub linked : ParticipantRecord → ParticipantRecord
linked p =
    record {
      links = p.links;
      completed = if is_some p.links.complete then p.completed else None;
      compensated = if is_some p.links.compensate then p.compensated else None;
      forgotten = is_some p.links.forget && p.forgotten;
      told = is_some p.links.after && p.told;
    }

-- The greater outcomes of a participant are kept, and each mark that either has. Whatever the kept
-- one has no link for is dropped
abbrev pub merged_participant : (kept other : ParticipantRecord) → ParticipantRecord
merged_participant p q =
    linked (record {
      links = p.links;
      completed = greater p.completed q.completed;
      compensated = greater p.compensated q.compensated;
      forgotten = p.forgotten || q.forgotten;
      told = p.told || q.told;
    })

-- A member is what the kept one says. The other counts only if both are participants
abbrev pub merged_member : (kept : Member) (other : Option Member) → Member
merged_member (Participant p) (Some (Participant q)) = Participant (merged_participant p q)
merged_member (Participant p) _ = Participant (linked p)
merged_member (Nested num) _ = Nested num
merged_member Left _ = Left

-- the members that are kept, each merged with the other list's member at its place, if there is one
abbrev pub merged_members : (kept other : List Member) → List Member
merged_members [] others = []
merged_members (m ∷ kept) [] = merged_member m None ∷ merged_members kept []
merged_members (m ∷ kept) (n ∷ others) = merged_member m (Some n) ∷ merged_members kept others

-- the greatest number of the home's own facts about the LRA
abbrev pub home_stamp : Record → ℕ
home_stamp r = count r.stamps r.home

-- Only the home decides and numbers members, so that part is kept whole from the record with the
-- greater home stamp, or from the first if they are equal. The greater stamp of each node is kept.
-- What the begin says is the same in both
abbrev pub merged_record : Record → Record → Record
merged_record r t =
    if nat_le (home_stamp t) (home_stamp r)
    then record {
      home = r.home;
      num = r.num;
      parent = r.parent;
      deadline = r.deadline;
      decision = r.decision;
      stamps = join_fronts r.stamps t.stamps;
      members = merged_members r.members t.members;
    }
    else record {
      home = r.home;
      num = r.num;
      parent = r.parent;
      deadline = r.deadline;
      decision = t.decision;
      stamps = join_fronts r.stamps t.stamps;
      members = merged_members t.members r.members;
    }

-- What is kept of one LRA

-- What a receiver keeps of an LRA, by its own record and the other node's. Covered: the receiver's
-- front counts the LRA's begin, so if it has no record, it purged the LRA. Gone: the other node had
-- the LRA, and is known not to hold it any more
abbrev pub absorbed : (covered gone : Bool) → Option Record → Option Record → Option Record
absorbed covered gone None None = None
absorbed covered gone None (Some t) = if covered then None else Some t
absorbed covered gone (Some r) None = if gone then None else Some r
absorbed covered gone (Some r) (Some t) = Some (merged_record r t)

-- what is kept of an LRA if the other node has a record of it
abbrev pub brought : (covered : Bool) → Option Record → Option Record → Option Record
brought covered own None = None
brought covered own (Some t) = absorbed covered false own (Some t)

-- What another node tells of a home

-- the numbers of LRAs that are told, if they are told
abbrev pub held_numbers : Option (Vec ℕ Global) → Option (List ℕ)
held_numbers = option_map (λ nums. nums.items)

-- the node tells of all LRAs of the home that it holds, and this number isn't among them
abbrev pub is_unlisted : Option (List ℕ) → ℕ → Bool
is_unlisted None num = false
is_unlisted (Some nums) num = not (list_any (λ n. n == num) nums)

-- The other node has counted the begin of the LRA with this number, and no longer holds the LRA.
-- `told` is the number of the home's facts that it counts
abbrev pub is_gone : (told : ℕ) → Option (List ℕ) → ℕ → Bool
is_gone told held num = (is_fact_number num && nat_le num told) && is_unlisted held num

-- Changes of a home's records

-- without the records of these LRAs
abbrev pub without : List Id → List Record → List Record
without removed records = filter (λ r. not (list_any (λ l. is_of l r) removed)) records

-- the records with each of these in its place
abbrev pub put_all : List Record → List Record → List Record
put_all [] records = records
put_all (r ∷ changed) records = put_all changed (put_record r records)

-- first some records are removed, and then these are put in their places
abbrev pub changed_by : (removed : List Id) (changed records : List Record) → List Record
changed_by removed changed records = put_all changed (without removed records)
