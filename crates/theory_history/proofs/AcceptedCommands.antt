-- what a node knows of a command that it accepts
use Rattle.std.proofs.Common.{◌≡◌, ◌<◌, ◌==◌, ◌||◌, ℕ, List, refl, Bool, true, false, Option, Some, None, is_none, nat_lt}
use Rattle.std.specs.Option.{option_map_or}
use Rattle.state_ids.specs.Ids.{Id, last_number}
use Rattle.state_ids.specs.Fronts.{count, is_covered}
use Rattle.state_facts.specs.declared.fact.Fact.{Fact}
use Rattle.state_facts.specs.declared.refusal.Refusal.{Refusal}
use Rattle.state_facts.specs.declared.refusal.Refusal.TheVariants.{StillToForget, StillToTell}
use Rattle.state_facts.specs.Sets.{depth, held_at, is_demanded, is_ended, is_heard, is_held, is_participant, is_root, numbers_given, want}
use Rattle.state_facts.specs.Duties.{has_forgot, has_told, is_after_duty, is_forget_duty}
use Rattle.state_facts.specs.Refusals.{unknown, away, spent}
use Rattle.state_forest.specs.declared.duties.Due.{Due}
use Rattle.state_forest.specs.Dues.{least_forget, least_untold}
use Rattle.state_facts.specs.declared.command.Command.{Command}
use Rattle.state_facts.specs.declared.command.Command.TheVariants.{Begin as BeginAsked, Join as JoinAsked, Leave as LeaveAsked, Decide as DecideAsked, Report as ReportAsked, Forgot as ForgotAsked, Told as ToldAsked, Purge as PurgeAsked}
use Rattle.theory_history.specs.Replies.{by_facts, gone_by, stranger_by, inactive_by, unasked_by, full_by, deep_by, crowded_by, early_by, Accepted, is_known, judge, judged, nested_by, refusal_of, running_by, unforgotten_by, unowed_by, untold_by}
use Rattle.theory_history.proofs.Basics.{equal_from, less_by, open_first, passed}

-- the front covers l, and the set holds it
pub record IsHere (S : List Fact) (v : List ℕ) (l : Id) : Type 0 where
  pub covered : is_covered v l ≡ true
  pub held : is_held S l ≡ true

-- l is also of this node, and wants nothing
pub record IsActiveHere (S : List Fact) (v : List ℕ) (node : ℕ) (l : Id) : Type 0 where
  pub covered : is_covered v l ≡ true
  pub held : is_held S l ≡ true
  pub home : l.home ≡ node
  pub active : want S l ≡ None

-- what is known of each command that is accepted
abbrev pub IsGiven : List Fact → List ℕ → ℕ → Command → Type 0
IsGiven S v node (BeginAsked None deadline) = held_at S node < 256
IsGiven S v node (BeginAsked (Some p) deadline) = IsActiveHere S v node p × (numbers_given S p < 32) × (depth S p < 8) × (held_at S node < 256)
IsGiven S v node (JoinAsked l links) = IsActiveHere S v node l × (numbers_given S l < 32)
IsGiven S v node (LeaveAsked l m) = IsActiveHere S v node l × (is_participant S l m ≡ true)
IsGiven S v node (DecideAsked l verdict) = IsActiveHere S v node l
IsGiven S v node (ReportAsked l m act outcome) = IsHere S v l × (is_participant S l m ≡ true) × (is_demanded S l m act ≡ true) × (is_heard S l m act outcome ≡ false)
IsGiven S v node (ForgotAsked l m) = IsHere S v l × (is_participant S l m ≡ true) × (is_forget_duty S l m ≡ true) × (has_forgot S l m ≡ false)
IsGiven S v node (ToldAsked l m) = IsHere S v l × (is_participant S l m ≡ true) × (is_after_duty S l m ≡ true) × (has_told S l m ≡ false)
IsGiven S v node (PurgeAsked l) = IsHere S v l × (l.home ≡ node) × (is_root S l ≡ true) × (is_ended S l ≡ true) × (least_forget S l ≡ None) × (least_untold S l ≡ None)

-- a command that is accepted meets no refusal, is not known yet, and finds a number left
accepted_when : (o : Option Refusal) (known : Bool) (limit : Option Refusal) → judged o known limit ≡ Accepted → (o ≡ None) × (known ≡ false) × (limit ≡ None)
accepted_when (Some r) known limit e = absurd cc
accepted_when None true limit e = absurd cc
accepted_when None false (Some r) e = absurd cc
accepted_when None false None e = (refl, refl, refl)

pub none_is : {X : Type 0} (o : Option X) → is_none o ≡ true → o ≡ None
none_is None e = refl
none_is (Some x) e = absurd cc

covered_by : (v : List ℕ) (l : Id) → unknown v l ≡ None → is_covered v l ≡ true
covered_by v l e = passed (is_covered v l) _ e

held_by : (S : List Fact) (l : Id) → gone_by (by_facts S) l ≡ None → is_held S l ≡ true
held_by S l e = passed (is_held S l) _ e

home_by : (node : ℕ) (l : Id) → away node l ≡ None → l.home ≡ node
home_by node l e = equal_from l.home node (passed (l.home == node) _ e)

active_by : (S : List Fact) (l : Id) → inactive_by (by_facts S) l ≡ None → want S l ≡ None
active_by S l e = none_is (want S l) (passed (is_none (want S l)) _ e)

participant_by : (S : List Fact) (l : Id) (m : ℕ) → stranger_by (by_facts S) l m ≡ None → is_participant S l m ≡ true
participant_by S l m e = passed (is_participant S l m) _ e

room_by : (S : List Fact) (l : Id) → full_by (by_facts S) l ≡ None → numbers_given S l < 32
room_by S l e = less_by (numbers_given S l) 32 (passed (nat_lt (numbers_given S l) 32) _ e)

depth_by : (S : List Fact) (l : Id) → deep_by (by_facts S) l ≡ None → depth S l < 8
depth_by S l e = less_by (depth S l) 8 (passed (nat_lt (depth S l) 8) _ e)

few_by : (S : List Fact) (node : ℕ) → crowded_by (by_facts S) node ≡ None → held_at S node < 256
few_by S node e = less_by (held_at S node) 256 (passed (nat_lt (held_at S node) 256) _ e)

first_of : (a b : Bool) → (a || b) ≡ true → b ≡ false → a ≡ true
first_of true b e f = refl
first_of false true e f = absurd cc
first_of false false e f = absurd cc

owed_by : (S : List Fact) (l : Id) (m : ℕ) → unowed_by (by_facts S) l m ≡ None → has_forgot S l m ≡ false → is_forget_duty S l m ≡ true
owed_by S l m e known = first_of (is_forget_duty S l m) (has_forgot S l m) (passed (is_forget_duty S l m || has_forgot S l m) _ e) known

hears_by : (S : List Fact) (l : Id) (m : ℕ) → early_by (by_facts S) l m ≡ None → has_told S l m ≡ false → is_after_duty S l m ≡ true
hears_by S l m e known = first_of (is_after_duty S l m) (has_told S l m) (passed (is_after_duty S l m || has_told S l m) _ e) known

all_heard : (S : List Fact) (l : Id) → untold_by (by_facts S) l ≡ None → least_untold S l ≡ None
all_heard S l e = by (least_untold S l) e
  where
    by : (o : Option Due) → option_map_or (λ duty. Some (StillToTell duty.lra duty.member)) o None ≡ None → o ≡ None
    by None e = refl
    by (Some duty) e = absurd cc

told_by : (S : List Fact) (l : Id) → unforgotten_by (by_facts S) l ≡ None → least_forget S l ≡ None
told_by S l e = by (least_forget S l) e
  where
    by : (o : Option Due) → option_map_or (λ duty. Some (StillToForget duty.lra duty.member)) o None ≡ None → o ≡ None
    by None e = refl
    by (Some duty) e = absurd cc

active_here : (S : List Fact) (v : List ℕ) (node : ℕ) (l : Id) → unknown v l ≡ None → gone_by (by_facts S) l ≡ None → away node l ≡ None → inactive_by (by_facts S) l ≡ None → IsActiveHere S v node l
active_here S v node l a b c d =
    record { covered = covered_by v l a; held = held_by S l b; home = home_by node l c; active = active_by S l d }

is_here : (S : List Fact) (v : List ℕ) (l : Id) → unknown v l ≡ None → gone_by (by_facts S) l ≡ None → IsHere S v l
is_here S v l a b = record { covered = covered_by v l a; held = held_by S l b }

given : (S : List Fact) (v : List ℕ) (node : ℕ) (c : Command) → refusal_of S v node c ≡ None → is_known S c ≡ false → IsGiven S v node c
given S v node (BeginAsked None deadline) e new = few_by S node (open_first (crowded_by (by_facts S) node) _ e).0
given S v node (BeginAsked (Some p) deadline) e new =
    let a = open_first (unknown v p) _ e in
    let b = open_first (gone_by (by_facts S) p) _ a.1 in
    let c = open_first (away node p) _ b.1 in
    let d = open_first (inactive_by (by_facts S) p) _ c.1 in
    let f = open_first (full_by (by_facts S) p) _ d.1 in
    let g = open_first (deep_by (by_facts S) p) _ f.1 in
    (active_here S v node p a.0 b.0 c.0 d.0, room_by S p f.0, depth_by S p g.0, few_by S node (open_first (crowded_by (by_facts S) node) _ g.1).0)
given S v node (JoinAsked l links) e new =
    let a = open_first (unknown v l) _ e in
    let b = open_first (gone_by (by_facts S) l) _ a.1 in
    let c = open_first (away node l) _ b.1 in
    let d = open_first (inactive_by (by_facts S) l) _ c.1 in
    (active_here S v node l a.0 b.0 c.0 d.0, room_by S l (open_first (full_by (by_facts S) l) _ d.1).0)
given S v node (LeaveAsked l m) e new =
    let a = open_first (unknown v l) _ e in
    let b = open_first (gone_by (by_facts S) l) _ a.1 in
    let c = open_first (away node l) _ b.1 in
    let s = open_first (stranger_by (by_facts S) l m) _ c.1 in
    (active_here S v node l a.0 b.0 c.0 (open_first (inactive_by (by_facts S) l) _ s.1).0, participant_by S l m s.0)
given S v node (DecideAsked l verdict) e new =
    let a = open_first (unknown v l) _ e in
    let b = open_first (gone_by (by_facts S) l) _ a.1 in
    let c = open_first (away node l) _ b.1 in
    active_here S v node l a.0 b.0 c.0 (open_first (inactive_by (by_facts S) l) _ c.1).0
given S v node (ReportAsked l m act outcome) e new =
    let a = open_first (unknown v l) _ e in
    let b = open_first (gone_by (by_facts S) l) _ a.1 in
    let s = open_first (stranger_by (by_facts S) l m) _ b.1 in
    let u = open_first (unasked_by (by_facts S) l m act) _ s.1 in
    (is_here S v l a.0 b.0, participant_by S l m s.0, passed (is_demanded S l m act) _ u.0, new)
given S v node (ForgotAsked l m) e new =
    let a = open_first (unknown v l) _ e in
    let b = open_first (gone_by (by_facts S) l) _ a.1 in
    let s = open_first (stranger_by (by_facts S) l m) _ b.1 in
    (is_here S v l a.0 b.0, participant_by S l m s.0, owed_by S l m (open_first (unowed_by (by_facts S) l m) _ s.1).0 new, new)
given S v node (ToldAsked l m) e new =
    let a = open_first (unknown v l) _ e in
    let b = open_first (gone_by (by_facts S) l) _ a.1 in
    let s = open_first (stranger_by (by_facts S) l m) _ b.1 in
    (is_here S v l a.0 b.0, participant_by S l m s.0, hears_by S l m (open_first (early_by (by_facts S) l m) _ s.1).0 new, new)
given S v node (PurgeAsked l) e new =
    let a = open_first (unknown v l) _ e in
    let b = open_first (gone_by (by_facts S) l) _ a.1 in
    let c = open_first (away node l) _ b.1 in
    let n = open_first (nested_by (by_facts S) l) _ c.1 in
    let r = open_first (running_by (by_facts S) l) _ n.1 in
    let u = open_first (unforgotten_by (by_facts S) l) _ r.1 in
    (is_here S v l a.0 b.0, home_by node l c.0, passed (is_root S l) _ n.0, passed (is_ended S l) _ r.0, told_by S l u.0, all_heard S l (open_first (untold_by (by_facts S) l) _ u.1).0)

-- what a node knows of a command that it accepts
pub lawful_gives : (S : List Fact) (v : List ℕ) (node : ℕ) (c : Command) → judge S v node c ≡ Accepted → IsGiven S v node c
lawful_gives S v node c e = let t = accepted_when (refusal_of S v node c) (is_known S c) (spent v node) e in given S v node c t.0 t.1

-- and the node has a number left
pub number_left : (S : List Fact) (v : List ℕ) (node : ℕ) (c : Command) → judge S v node c ≡ Accepted → count v node < last_number
number_left S v node c e =
    let t = accepted_when (refusal_of S v node c) (is_known S c) (spent v node) e in
    less_by (count v node) last_number (passed (nat_lt (count v node) last_number) _ t.2)
