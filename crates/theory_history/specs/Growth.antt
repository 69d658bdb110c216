-- One more fact of a node: how it changes a set, and the record of an LRA that it names.
use Rattle.std.specs.Prelude.{◌≡◌, ◌≤◌, ◌<◌, ◌+◌, ◌-◌, ◌&&◌, ◌==◌, ℕ, zero, suc, Bool, true, false, Option, Some, None, List, [], ◌∷◌, ◌++◌, replicate, slice_set}
use Rattle.state_ids.specs.Ids.{Id, same_id}
use Rattle.state_ids.specs.States.{greater}
use Rattle.state_ids.specs.declared.outcome.Act.{Act}
use Rattle.state_ids.specs.declared.outcome.Act.TheVariants.{Complete, Compensate}
use Rattle.state_ids.specs.declared.outcome.Outcome.{Outcome}
use Rattle.state_ids.specs.declared.outcome.Verdict.{Verdict}
use Rattle.state_facts.specs.declared.fact.Body.{Body}
use Rattle.state_facts.specs.declared.fact.Body.TheVariants.{Begin, Join, Leave, Decide, Report, Forgot, Told, Purge}
use Rattle.state_facts.specs.declared.fact.Fact.{Fact}
use Rattle.state_facts.specs.Links.{Links}
use Rattle.state_facts.specs.Sets.{IsNumbered, depth, is_begun, is_purge, numbers_given}
use Rattle.state_facts.specs.Lists.{In}
use Rattle.state_forest.specs.declared.forest.TheConstants.{MAX_DEPTH}
use Rattle.state_forest.specs.declared.record.TheConstants.{MAX_MEMBERS}
use Rattle.state_forest.specs.declared.record.Member.{Member}
use Rattle.state_forest.specs.declared.record.Member.TheVariants.{Nested, Participant, Left}
use Rattle.state_forest.specs.declared.record.Place.{Place}
use Rattle.state_forest.specs.declared.record.Record.{Record}
use Rattle.state_forest.specs.Records.{is_named}
use Rattle.state_forest.specs.Standing.{IsWhole, IsSeated}

-- T is S with the fact f, anywhere in the list, as the newest of its node
pub record IsMore (f : Fact) (S T : List Fact) : Type 0 where
  pub before : List Fact
  pub after : List Fact
  pub was : S ≡ before ++ after
  pub is : T ≡ before ++ f ∷ after
  pub some : 1 ≤ f.origin
  pub newest : (g : Fact) → In g S → g.origin ≡ f.origin → g.num < f.num

-- the body says something of the participant m of l
abbrev pub names_member : Id → ℕ → Body → Bool
names_member l m (Leave id member) = same_id id l && (member == m)
names_member l m (Report id member act outcome) = same_id id l && (member == m)
names_member l m (Forgot id member) = same_id id l && (member == m)
names_member l m (Told id member) = same_id id l && (member == m)
names_member l m _ = false

-- The invariants of the sets that nodes of a lawful history hold. Records are made of such sets
pub record IsSettled (S : List Fact) : Type 0 where
  pub whole : IsWhole S
  pub seated : IsSeated S
  pub shallow : (l : Id) → is_begun S l ≡ true → depth S l ≤ MAX_DEPTH
  pub few : (l : Id) → numbers_given S l ≤ MAX_MEMBERS
  pub numbered : (f : Fact) → In f S → IsNumbered f
  pub named : (f : Fact) (l : Id) → In f S → is_named l f.body ≡ true → is_begun S l ≡ true
  pub purged : (f : Fact) (l : Id) → In f S → is_purge l f.body ≡ true → is_begun S l ≡ true
  pub members : (f : Fact) (l : Id) (m : ℕ) → In f S → names_member l m f.body ≡ true → (1 ≤ m) × (m ≤ numbers_given S l)

-- The record of an LRA after a fact that names it

-- a participant that has just joined
abbrev pub joined : Links → Member
joined links = Participant (record { links = links; completed = None; compensated = None; forgotten = false; told = false })

-- the greater outcome is kept
abbrev pub reporting : Act → Outcome → Member → Member
reporting Complete outcome (Participant p) = Participant (record p { completed = greater p.completed (Some outcome) })
reporting Compensate outcome (Participant p) = Participant (record p { compensated = greater p.compensated (Some outcome) })
reporting act outcome (Nested num) = Nested num
reporting act outcome Left = Left

abbrev pub forgetting : Member → Member
forgetting (Participant p) = Participant (record p { forgotten = true })
forgetting (Nested num) = Nested num
forgetting Left = Left

abbrev pub hearing : Member → Member
hearing (Participant p) = Participant (record p { told = true })
hearing (Nested num) = Nested num
hearing Left = Left

abbrev pub leaving : Member → Member
leaving (Participant p) = Left
leaving (Nested num) = Nested num
leaving Left = Left

-- the members with the one at this place changed, counted from 0
abbrev pub member_changed : (Member → Member) → ℕ → List Member → List Member
member_changed g i [] = []
member_changed g zero (x ∷ xs) = g x ∷ xs
member_changed g (suc i) (x ∷ xs) = x ∷ member_changed g i xs

abbrev pub members_after : ℕ → Body → List Member → List Member
members_after num (Begin parent deadline) ms = ms ++ Nested num ∷ []
members_after num (Join id m links) ms = ms ++ joined links ∷ []
members_after num (Leave id m) ms = member_changed leaving (m - 1) ms
members_after num (Decide id verdict) ms = ms
members_after num (Report id m act outcome) ms = member_changed (reporting act outcome) (m - 1) ms
members_after num (Forgot id m) ms = member_changed forgetting (m - 1) ms
members_after num (Told id m) ms = member_changed hearing (m - 1) ms
members_after num (Purge root) ms = ms

abbrev pub decision_after : Body → Option Verdict → Option Verdict
decision_after (Decide id verdict) d = Some verdict
decision_after _ d = d

-- the stamps with the number of a node's newest fact
abbrev pub stamped : ℕ → ℕ → List ℕ → List ℕ
stamped node num stamps = slice_set stamps (node - 1) num

abbrev pub record_after : Fact → Record → Record
record_after f r =
    record {
      home = r.home;
      num = r.num;
      parent = r.parent;
      deadline = r.deadline;
      decision = decision_after f.body r.decision;
      stamps = stamped f.origin f.num r.stamps;
      members = members_after f.num f.body r.members;
    }

-- The record of an LRA that a fact begins

-- the place where it is nested, under the next member number of its parent
abbrev pub next_place : List Fact → Option Id → Option Place
next_place S None = None
next_place S (Some p) = Some (record { number = p.num; slot = numbers_given S p + 1 })

-- the record of an LRA that its home begins with the fact of this number
abbrev pub begun_record : (nodes home num : ℕ) → Option Place → ℕ → Record
begun_record nodes home num parent deadline =
    record {
      home = home;
      num = num;
      parent = parent;
      deadline = deadline;
      decision = None;
      stamps = stamped home num (replicate nodes 0);
      members = [];
    }

-- the new record in a set
abbrev pub new_record : ℕ → List Fact → Fact → Option Id → ℕ → Record
new_record nodes S f parent deadline = begun_record nodes f.origin f.num (next_place S parent) deadline
