-- a prepared patch adds exactly its fact to what a view stands for
use mathlib.Core.Bool.{not}
use Rattle.std.proofs.Common.{◌≡◌, inl, inr, ◌≤◌, ◌+◌, ◌-◌, ◌&&◌, ◌||◌, ℕ, List, [], ◌∷◌, refl, sym, ap, subst, ◌∙◌, Bool, true, false, cond, arith, Some, None, length, replicate, map, filter, find, slice_set, get_or-set_other, get_or-set_same}
use Rattle.std.proofs.lemmas.List.{get_or_past, length-map, length-set}
use Rattle.std.specs.List.{list_any}
use Rattle.state_ids.specs.Ids.{Id}
use Rattle.state_ids.specs.Fronts.{count}
use Rattle.state_ids.specs.declared.outcome.Act.{Act}
use Rattle.state_ids.specs.declared.outcome.Outcome.{Outcome}
use Rattle.state_ids.specs.declared.outcome.Verdict.{Verdict}
use Rattle.state_facts.specs.declared.fact.Fact.{Fact}
use Rattle.state_facts.specs.Links.{Links}
use Rattle.state_facts.specs.Lists.{In}
use Rattle.state_facts.specs.Sets.{begins, is_held, is_under, numbers_given}
use Rattle.state_facts.proofs.Membership.{any_from, any_gives, same_bools}
use Rattle.state_forest.specs.declared.record.Record.{Record}
use Rattle.state_forest.specs.Forests.{id_of, is_of}
use Rattle.state_forest.specs.Places.{put_record}
use Rattle.state_forest.specs.Records.{givers, member_by, nodes_to, record_of}
use Rattle.state_forest.specs.Standing.{IsNested, IsWhole}
use Rattle.state_forest.proofs.Bools.{all_in}
use Rattle.state_forest.proofs.ParentsAndChains.{begins_at}
use Rattle.state_forest.proofs.GiversOfNumbers.{filter_both}
use Rattle.state_forest.proofs.NumberedMembers.{same_is, same_self}
use Rattle.theory_history.specs.Growth.{IsMore, IsSettled, new_record, record_after, stamped}
use Rattle.theory_history.specs.Changes.{AddsFact, IsRemoval, one_change, purge_change, put_at_home, put_each, raised, remove_each, remove_at_home, two_changes}
use Rattle.theory_history.specs.Replies.{Accepted, body_for, entered, judge, next_fact}
use Rattle.theory_history.specs.Views.{AreRecords, StandsFor, View, is_purge_fact, purge_number, record_at, records_at}
use Rattle.state_facts.specs.declared.command.Command.{Command}
use Rattle.state_facts.specs.declared.command.Command.TheVariants.{Begin as BeginAsked, Join as JoinAsked, Leave as LeaveAsked, Decide as DecideAsked, Report as ReportAsked, Forgot as ForgotAsked, Told as ToldAsked, Purge as PurgeAsked}
use Rattle.theory_history.proofs.AcceptedCommands.{lawful_gives}
use Rattle.theory_history.proofs.CountedByFronts.{counted_with, more_entered}
use Rattle.theory_history.proofs.SettledFacts.{body_gives, filter_agree, givers_length}
use Rattle.theory_history.proofs.LeftAsItWas.{held_stays}
use Rattle.theory_history.proofs.ListsWithOneMore.{filter_all}
use Rattle.theory_history.proofs.RecordsWithOneMore.{decide_stands, forgot_stands, told_stands, join_stands, leave_stands, nested_stands, other_home_stands, report_stands, root_stands, touched_home}
use Rattle.theory_history.proofs.RecordsAfterAPurge.{purge_elsewhere_stands, purge_stands, purges_gained, purges_kept, without_tree}
use Rattle.theory_history.proofs.StaysSettled.{settled_with}
use Rattle.theory_history.proofs.FactsOfMembers.{participant_given}
use Rattle.theory_history.proofs.Basics.{at_most, held_begun, same_or_not}

-- Lists of homes of which one changes

-- the records of one home become these, and the records of all others stay
pub record ChangesHome (before after : List (List Record)) (home : ℕ) (records : List Record) : Type 0 where
  pub size : length after ≡ length before
  pub here : records_at after home ≡ records
  pub elsewhere : (k : ℕ) → 1 ≤ k → (k ≡ home → ⊥) → records_at after k ≡ records_at before k

set_changes : (homes : List (List Record)) (home : ℕ) (records : List Record) → 1 ≤ home → home ≤ length homes → ChangesHome homes (slice_set homes (home - 1) records) home records
set_changes homes home records some there =
    record {
      size = length-set {A = List Record} homes (home - 1) records;
      here = get_or-set_same {A = List Record} homes (home - 1) records [] (omega (arith, some, there));
      elsewhere = λ k one other. get_or-set_other {A = List Record} homes (home - 1) (k - 1) records [] (λ s. other (omega (arith, s, some, one)));
    }

pub put_changes : (r : Record) (homes : List (List Record)) (home : ℕ) → r.home ≡ home → 1 ≤ home → home ≤ length homes → ChangesHome homes (put_at_home r homes) home (put_record r (records_at homes home))
put_changes r homes home at some there =
    subst (λ (h : ℕ). ChangesHome homes (put_at_home r homes) h (put_record r (records_at homes h))) at
    (set_changes homes r.home (put_record r (records_at homes r.home)) (omega (arith, at, some)) (omega (arith, at, there)))

-- two records of one home are put, one after the other
put_two_changes : (r q : Record) (homes : List (List Record)) (home : ℕ) → r.home ≡ home → q.home ≡ home → 1 ≤ home → home ≤ length homes
    → ChangesHome homes (put_at_home q (put_at_home r homes)) home (put_record q (put_record r (records_at homes home)))
put_two_changes r q homes home at_r at_q some there =
    let first = put_changes r homes home at_r some there in
    let second = put_changes q (put_at_home r homes) home at_q some (omega (arith, there, first.size)) in
    record {
      size = second.size ∙ first.size;
      here = second.here ∙ ap (put_record q) first.here;
      elsewhere = λ k one other. second.elsewhere k one other ∙ first.elsewhere k one other;
    }

-- What a view has of an LRA

-- an LRA that is held has a home from 1 on
pub held_home : (S : List Fact) (view : View) (l : Id) → StandsFor S view → is_held S l ≡ true → 1 ≤ l.home
held_home S view l stands held =
    let found = any_gives (begins l) S (held_begun S l held) in
    let at = begins_at l found.0 found.2 in
    let some = stands.front.some found.0 found.1 in
    omega (arith, some.0, at.0)

-- the record that a view has of an LRA is the set's; its home is one of the nodes, and it is held
pub record FoundRecord (S : List Fact) (view : View) (l : Id) (old : Record) : Type 0 where
  pub there : l.home ≤ length view.front
  pub held : is_held S l ≡ true
  pub is : old ≡ record_of (length view.front) S l

-- a record that is found is such a record
pub found_record : (S : List Fact) (view : View) (l : Id) (old : Record) → StandsFor S view → 1 ≤ l.home → record_at view l ≡ Some old → FoundRecord S view l old
found_record S view l old stands some at = elim (at_most l.home (length view.front)) [
  | inl there ↦ by there (is_held S l) refl (sym at ∙ (stands.records l.home some there).stands l refl)
  | inr past ↦ absurd (let none : record_at view l ≡ None = ap (find (is_of l)) (get_or_past view.records (l.home - 1) [] (omega (arith, past, stands.homes))) in let wrong : Some old ≡ None = sym at ∙ none in cc)
]
  where
    by : l.home ≤ length view.front → (b : Bool) → is_held S l ≡ b → Some old ≡ cond b (Some (record_of (length view.front) S l)) None → FoundRecord S view l old
    by there true held e = record { there = there; held = held; is = cc }
    by there false held e = absurd cc

-- A fact that changes the records of one home

-- the view of which one home changes stands for the set with one more fact, if the records of all
-- homes do
home_stands : (S T : List Fact) (view : View) (me : ℕ) (c : Command) (home : ℕ) (after : List (List Record)) (purges : List ℕ) (records : List Record) → StandsFor S view → 1 ≤ me → me ≤ length view.front → IsMore (next_fact S view.front me c) S T
    → purges ≡ map (purge_number T) (nodes_to (length view.front)) → ChangesHome view.records after home records → AreRecords (length view.front) T home records
    → ((k : ℕ) → (k ≡ home → ⊥) → AreRecords (length view.front) S k (records_at view.records k) → AreRecords (length view.front) T k (records_at view.records k))
    → StandsFor T (record { front = raised view.front me; purges = purges; records = after })
home_stands S T view me c home after purges records stands some there more last changes new others =
    record {
      front = counted_with (next_fact S view.front me c) S T view.front me c stands.front some there refl more;
      purges = last ∙ ap (λ n. map (purge_number T) (nodes_to n)) (sym size);
      homes = changes.size ∙ stands.homes ∙ sym size;
      records = λ k one bound. subst (λ (n : ℕ). AreRecords n T k (records_at after k)) (sym size) (at k one (omega (arith, bound, size)));
    }
  where
    size : length (raised view.front me) ≡ length view.front
    size = length-set {A = ℕ} view.front (me - 1) (count view.front me + 1)

    at : (k : ℕ) → 1 ≤ k → k ≤ length view.front → AreRecords (length view.front) T k (records_at after k)
    at k one bound = elim (same_or_not k home) [
      | inl s ↦
          subst (λ (h : ℕ). AreRecords (length view.front) T h (records_at after h)) (sym s)
          (subst (λ (rs : List Record). AreRecords (length view.front) T home rs) (sym changes.here) new)
      | inr n ↦ subst (λ (rs : List Record). AreRecords (length view.front) T k rs) (sym (changes.elsewhere k one n)) (others k n (stands.records k one bound))
    ]

-- a fact that is no purge changes the home that it touches
home_adds : (S : List Fact) (view : View) (me : ℕ) (c : Command) (put records : List Record) → IsSettled S → StandsFor S view → 1 ≤ me → me ≤ length view.front → judge S view.front me c ≡ Accepted → is_purge_fact (body_for S c) ≡ false
    → ChangesHome view.records (put_each put view.records) (touched_home me (body_for S c)) records
    → ((T : List Fact) → IsMore (next_fact S view.front me c) S T → AreRecords (length view.front) T (touched_home me (body_for S c)) records)
    → AddsFact S view me c (Some (record { records = put; removed = []; front = raised view.front me; purges = view.purges }))
home_adds S view me c put records settled stands some there taken plain changes new = (
  taken,
  refl,
  λ T more. home_stands S T view me c (touched_home me (body_for S c)) (put_each put view.records) view.purges records stands some there more
      (stands.purges ∙ sym (purges_kept (next_fact S view.front me c) S T more plain (length view.front))) changes (new T more)
      (λ k other. other_home_stands (next_fact S view.front me c) S T more settled plain (λ p e. sym (body_gives S view.front me c p (lawful_gives S view.front me c taken) e).0)
      (length view.front) k (records_at view.records k) (λ e. other (sym e))),
)

-- the same, if the fact changes the record of one LRA
one_adds : (S : List Fact) (view : View) (me : ℕ) (c : Command) (l : Id) (old next : Record) → IsSettled S → StandsFor S view → 1 ≤ me → me ≤ length view.front → judge S view.front me c ≡ Accepted → is_purge_fact (body_for S c) ≡ false
    → touched_home me (body_for S c) ≡ l.home → is_held S l ≡ true → record_at view l ≡ Some old → next ≡ record_after (next_fact S view.front me c) old
    → ((T : List Fact) → IsMore (next_fact S view.front me c) S T → (records : List Record) → AreRecords (length view.front) S l.home records
    → AreRecords (length view.front) T l.home (put_record (record_after (next_fact S view.front me c) (record_of (length view.front) S l)) records))
    → AddsFact S view me c (Some (one_change view me next))
one_adds S view me c l old next settled stands some there taken plain touched held at is new =
    let home = held_home S view l stands held in
    let found = found_record S view l old stands home at in
    let whole : next ≡ record_after (next_fact S view.front me c) (record_of (length view.front) S l) = is ∙ ap (record_after (next_fact S view.front me c)) found.is in
    let size = stands.homes in
    home_adds S view me c (next ∷ []) (put_record next (records_at view.records l.home)) settled stands some there taken plain
    (subst (λ (h : ℕ). ChangesHome view.records (put_at_home next view.records) h (put_record next (records_at view.records l.home))) (sym touched)
    (put_changes next view.records l.home (ap (λ (r : Record). r.home) whole) home (omega (arith, found.there, size))))
    (λ T more. subst (λ (h : ℕ). AreRecords (length view.front) T h (put_record next (records_at view.records l.home))) (sym touched)
    (subst (λ (r : Record). AreRecords (length view.front) T l.home (put_record r (records_at view.records l.home))) (sym whole)
    (new T more (records_at view.records l.home) (stands.records l.home home found.there))))

-- a join's fact is added by a change of the record of the LRA that is joined
pub join_adds : (S : List Fact) (view : View) (me : ℕ) (l : Id) (links : Links) (old next : Record) → IsSettled S → StandsFor S view → 1 ≤ me → me ≤ length view.front → judge S view.front me (JoinAsked l links) ≡ Accepted
    → record_at view l ≡ Some old → next ≡ record_after (next_fact S view.front me (JoinAsked l links)) old → AddsFact S view me (JoinAsked l links) (Some (one_change view me next))
join_adds S view me l links old next settled stands some there taken at is =
    let given = lawful_gives S view.front me (JoinAsked l links) taken in
    one_adds S view me (JoinAsked l links) l old next settled stands some there taken refl refl given.0.held at is (λ T more records are.
    join_stands (next_fact S view.front me (JoinAsked l links)) S T more settled (length view.front) l (numbers_given S l + 1) links records refl (sym given.0.home) refl given.0.held are)

-- a leave's fact is added by a change of the record of the LRA that is left
pub leave_adds : (S : List Fact) (view : View) (me : ℕ) (l : Id) (m : ℕ) (old next : Record) → IsSettled S → StandsFor S view → 1 ≤ me → me ≤ length view.front → judge S view.front me (LeaveAsked l m) ≡ Accepted
    → record_at view l ≡ Some old → next ≡ record_after (next_fact S view.front me (LeaveAsked l m)) old → AddsFact S view me (LeaveAsked l m) (Some (one_change view me next))
leave_adds S view me l m old next settled stands some there taken at is =
    let given = lawful_gives S view.front me (LeaveAsked l m) taken in
    let number = participant_given S l m settled.seated given.1 in
    one_adds S view me (LeaveAsked l m) l old next settled stands some there taken refl refl given.0.held at is (λ T more records are.
    leave_stands (next_fact S view.front me (LeaveAsked l m)) S T more settled (length view.front) l m records refl number.0 given.0.held are)

-- a decision's fact is added by a change of the record of the LRA that is closed or cancelled
pub decide_adds : (S : List Fact) (view : View) (me : ℕ) (l : Id) (verdict : Verdict) (old next : Record) → IsSettled S → StandsFor S view → 1 ≤ me → me ≤ length view.front → judge S view.front me (DecideAsked l verdict) ≡ Accepted
    → record_at view l ≡ Some old → next ≡ record_after (next_fact S view.front me (DecideAsked l verdict)) old → AddsFact S view me (DecideAsked l verdict) (Some (one_change view me next))
decide_adds S view me l verdict old next settled stands some there taken at is =
    let given = lawful_gives S view.front me (DecideAsked l verdict) taken in
    one_adds S view me (DecideAsked l verdict) l old next settled stands some there taken refl refl given.held at is (λ T more records are.
    decide_stands (next_fact S view.front me (DecideAsked l verdict)) S T more settled (length view.front) l verdict records refl given.held given.active are)

-- a report's fact is added by a change of the record of the LRA whose participant it is about
pub report_adds : (S : List Fact) (view : View) (me : ℕ) (l : Id) (m : ℕ) (act : Act) (outcome : Outcome) (old next : Record) → IsSettled S → StandsFor S view → 1 ≤ me → me ≤ length view.front → judge S view.front me (ReportAsked l m act outcome) ≡ Accepted
    → record_at view l ≡ Some old → next ≡ record_after (next_fact S view.front me (ReportAsked l m act outcome)) old → AddsFact S view me (ReportAsked l m act outcome) (Some (one_change view me next))
report_adds S view me l m act outcome old next settled stands some there taken at is =
    let given = lawful_gives S view.front me (ReportAsked l m act outcome) taken in
    let number = participant_given S l m settled.seated given.1 in
    one_adds S view me (ReportAsked l m act outcome) l old next settled stands some there taken refl refl given.0.held at is (λ T more records are.
    report_stands (next_fact S view.front me (ReportAsked l m act outcome)) S T more settled (length view.front) l m act outcome records refl number.0 given.0.held are)

-- a forgot's fact is added by a change of the record of the LRA whose participant was told to
-- forget
pub forgot_adds : (S : List Fact) (view : View) (me : ℕ) (l : Id) (m : ℕ) (old next : Record) → IsSettled S → StandsFor S view → 1 ≤ me → me ≤ length view.front → judge S view.front me (ForgotAsked l m) ≡ Accepted
    → record_at view l ≡ Some old → next ≡ record_after (next_fact S view.front me (ForgotAsked l m)) old → AddsFact S view me (ForgotAsked l m) (Some (one_change view me next))
forgot_adds S view me l m old next settled stands some there taken at is =
    let given = lawful_gives S view.front me (ForgotAsked l m) taken in
    let number = participant_given S l m settled.seated given.1 in
    one_adds S view me (ForgotAsked l m) l old next settled stands some there taken refl refl given.0.held at is (λ T more records are.
    forgot_stands (next_fact S view.front me (ForgotAsked l m)) S T more settled (length view.front) l m records refl number.0 given.0.held are)

-- a told's fact is added by a change of the record of the LRA whose participant heard of its end
pub told_adds : (S : List Fact) (view : View) (me : ℕ) (l : Id) (m : ℕ) (old next : Record) → IsSettled S → StandsFor S view → 1 ≤ me → me ≤ length view.front → judge S view.front me (ToldAsked l m) ≡ Accepted
    → record_at view l ≡ Some old → next ≡ record_after (next_fact S view.front me (ToldAsked l m)) old → AddsFact S view me (ToldAsked l m) (Some (one_change view me next))
told_adds S view me l m old next settled stands some there taken at is =
    let given = lawful_gives S view.front me (ToldAsked l m) taken in
    let number = participant_given S l m settled.seated given.1 in
    one_adds S view me (ToldAsked l m) l old next settled stands some there taken refl refl given.0.held at is (λ T more records are.
    told_stands (next_fact S view.front me (ToldAsked l m)) S T more settled (length view.front) l m records refl number.0 given.0.held are)

-- Begins

-- the fact that begins a root is added by putting in the root's record
pub root_adds : (S : List Fact) (view : View) (me deadline : ℕ) (next : Record) → IsSettled S → StandsFor S view → 1 ≤ me → me ≤ length view.front → judge S view.front me (BeginAsked None deadline) ≡ Accepted
    → next ≡ new_record (length view.front) S (next_fact S view.front me (BeginAsked None deadline)) None deadline → AddsFact S view me (BeginAsked None deadline) (Some (one_change view me next))
root_adds S view me deadline next settled stands some there taken is =
    let size = stands.homes in
    home_adds S view me (BeginAsked None deadline) (next ∷ []) (put_record next (records_at view.records me)) settled stands some there taken refl
    (put_changes next view.records me (ap (λ (r : Record). r.home) is) some (omega (arith, there, size)))
    (λ T more. subst (λ (r : Record). AreRecords (length view.front) T me (put_record r (records_at view.records me))) (sym is)
    (root_stands (next_fact S view.front me (BeginAsked None deadline)) S T more settled (length view.front) deadline (records_at view.records me) refl (stands.records me some there)))

-- the same, without mention of the set in what is said of the record
pub plain_root_adds : (S : List Fact) (view : View) (me deadline : ℕ) (next : Record) → IsSettled S → StandsFor S view → 1 ≤ me → me ≤ length view.front → judge S view.front me (BeginAsked None deadline) ≡ Accepted
    → next ≡ record {
      home = me;
      num = count view.front me + 1;
      parent = None;
      deadline = deadline;
      decision = None;
      stamps = stamped me (count view.front me + 1) (replicate (length view.front) 0);
      members = [];
    } → AddsFact S view me (BeginAsked None deadline) (Some (one_change view me next))
plain_root_adds S view me deadline next settled stands some there taken is = root_adds S view me deadline next settled stands some there taken is

-- an LRA that is found has as many members as it gave member numbers
pub given_members : (S : List Fact) (view : View) (l : Id) (old : Record) → IsSettled S → StandsFor S view → 1 ≤ l.home → record_at view l ≡ Some old → length old.members ≡ numbers_given S l
given_members S view l old settled stands some at =
    ap (λ (r : Record). length r.members) (found_record S view l old stands some at).is
    ∙ length-map (givers S l) (λ (f : Fact). member_by S l f.num f.body)
    ∙ givers_length S l

-- the fact that begins a nested LRA is added by a change of the parent's record, and then by
-- putting in the new one
pub nested_adds : (S : List Fact) (view : View) (me : ℕ) (p : Id) (deadline : ℕ) (old next child : Record) → IsSettled S → StandsFor S view → 1 ≤ me → me ≤ length view.front → judge S view.front me (BeginAsked (Some p) deadline) ≡ Accepted
    → record_at view p ≡ Some old → next ≡ record_after (next_fact S view.front me (BeginAsked (Some p) deadline)) old
    → child ≡ record {
      home = me;
      num = count view.front me + 1;
      parent = Some (record { number = p.num; slot = length old.members + 1 });
      deadline = deadline;
      decision = None;
      stamps = stamped me (count view.front me + 1) (replicate (length view.front) 0);
      members = [];
    } → AddsFact S view me (BeginAsked (Some p) deadline) (Some (two_changes view me next child))
nested_adds S view me p deadline old next child settled stands some there taken at is new =
    let given = lawful_gives S view.front me (BeginAsked (Some p) deadline) taken in
    let home = held_home S view p stands given.0.held in
    let found = found_record S view p old stands home at in
    let own : next ≡ record_after (next_fact S view.front me (BeginAsked (Some p) deadline)) (record_of (length view.front) S p) =
    is ∙ ap (record_after (next_fact S view.front me (BeginAsked (Some p) deadline))) found.is in
    let begun : child ≡ new_record (length view.front) S (next_fact S view.front me (BeginAsked (Some p) deadline)) (Some p) deadline =
    new ∙ ap (λ (n : ℕ). new_child (n + 1)) (given_members S view p old settled stands home at) in
    let size = stands.homes in
    home_adds S view me (BeginAsked (Some p) deadline) (next ∷ child ∷ []) (put_record child (put_record next (records_at view.records me))) settled stands some there taken refl
    (put_two_changes next child view.records me (ap (λ (r : Record). r.home) own ∙ given.0.home) (ap (λ (r : Record). r.home) begun) some (omega (arith, there, size)))
    (λ T more. subst (λ (r : Record). AreRecords (length view.front) T me (put_record r (put_record next (records_at view.records me)))) (sym begun)
    (subst (λ (r : Record). AreRecords (length view.front) T me (put_record (new_record (length view.front) S (next_fact S view.front me (BeginAsked (Some p) deadline)) (Some p) deadline) (put_record r (records_at view.records me)))) (sym own)
    (nested_stands (next_fact S view.front me (BeginAsked (Some p) deadline)) S T more settled (length view.front) p deadline (records_at view.records me) refl (sym given.0.home) given.0.held (stands.records me some there))))
  where
    new_child : ℕ → Record
    new_child slot =
        record {
          home = me;
          num = count view.front me + 1;
          parent = Some (record { number = p.num; slot = slot });
          deadline = deadline;
          decision = None;
          stamps = stamped me (count view.front me + 1) (replicate (length view.front) 0);
          members = [];
        }

-- After a decision

-- With the decision the set is whole and nested, the home's records with the new one stand for it, and the LRA is held: so what
-- it shows can be read off those records
pub after_decide : (S : List Fact) (view : View) (me : ℕ) (l : Id) (verdict : Verdict) (old next : Record) → IsSettled S → StandsFor S view → 1 ≤ me → me ≤ length view.front → judge S view.front me (DecideAsked l verdict) ≡ Accepted
    → record_at view l ≡ Some old → next ≡ record_after (next_fact S view.front me (DecideAsked l verdict)) old
    → IsWhole (entered S view.front me (DecideAsked l verdict))
    × IsNested (entered S view.front me (DecideAsked l verdict))
    × AreRecords (length view.front) (entered S view.front me (DecideAsked l verdict)) l.home (put_record next (records_at view.records l.home))
    × (is_held (entered S view.front me (DecideAsked l verdict)) l ≡ true)
after_decide S view me l verdict old next settled stands some there taken at is =
    let c : Command = DecideAsked l verdict in
    let f : Fact = next_fact S view.front me c in
    let T : List Fact = entered S view.front me c in
    let given = lawful_gives S view.front me (DecideAsked l verdict) taken in
    let more : IsMore f S T = more_entered S view.front me c stands.front some in
    let after : IsSettled T = settled_with f S T view.front me c settled stands.front some there taken refl more in
    let home = held_home S view l stands given.held in
    let found = found_record S view l old stands home at in
    let whole : next ≡ record_after f (record_of (length view.front) S l) = is ∙ ap (record_after f) found.is in (
      after.whole,
      record { once = after.seated.once; shallow = after.shallow },
      subst (λ (r : Record). AreRecords (length view.front) T l.home (put_record r (records_at view.records l.home))) (sym whole)
          (decide_stands f S T more settled (length view.front) l verdict (records_at view.records l.home) refl given.held given.active (stands.records l.home home found.there)),
      held_stays f S T more settled.whole refl l refl ∙ given.held,
    )

-- Purges

take_one : (l : Id) (homes : List (List Record)) (home : ℕ) → l.home ≡ home → 1 ≤ home → home ≤ length homes → ChangesHome homes (remove_at_home l homes) home (filter (λ r. not (is_of l r)) (records_at homes home))
take_one l homes home at some there =
    subst (λ (h : ℕ). ChangesHome homes (remove_at_home l homes) h (filter (λ r. not (is_of l r)) (records_at homes h))) at
    (set_changes homes l.home (filter (λ r. not (is_of l r)) (records_at homes l.home)) (omega (arith, at, some)) (omega (arith, at, there)))

take_changes : (ids : List Id) (homes : List (List Record)) (home : ℕ) → ((l : Id) → In l ids → l.home ≡ home) → 1 ≤ home → home ≤ length homes
    → ChangesHome homes (remove_each ids homes) home (filter (λ r. not (list_any (λ l. is_of l r) ids)) (records_at homes home))
take_changes [] homes home at some there =
    record { size = refl; here = sym (filter_all (λ (r : Record). true) (records_at homes home) (λ r m. refl)); elsewhere = λ k one other. refl }
take_changes (l ∷ ids) homes home at some there =
    let first = take_one l homes home (at l (inl refl)) some there in
    let rest = take_changes ids (remove_at_home l homes) home (λ x m. at x (inr m)) some (omega (arith, there, first.size)) in
    record {
      size = rest.size ∙ first.size;
      here =
          rest.here
          ∙ ap (filter (λ (r : Record). not (list_any (λ x. is_of x r) ids))) first.here
          ∙ sym (filter_both (λ (r : Record). not (is_of l r)) (λ (r : Record). not (list_any (λ x. is_of x r) ids)) (records_at homes home))
          ∙ filter_agree (λ (r : Record). not (is_of l r) && not (list_any (λ x. is_of x r) ids)) (λ (r : Record). not (is_of l r || list_any (λ x. is_of x r) ids)) (records_at homes home)
          (λ r m. neither (is_of l r) (list_any (λ x. is_of x r) ids));
      elsewhere = λ k one other. rest.elsewhere k one other ∙ first.elsewhere k one other;
    }
  where
    neither : (a b : Bool) → (not a && not b) ≡ not (a || b)
    neither true b = refl
    neither false b = refl

some_found : (t : Record → Bool) (records : List Record) (r : Record) → In r records → t r ≡ true → (q : Record) × (find t records ≡ Some q)
some_found t [] r m e = absurd m
some_found t (x ∷ records) r m e = by (t x) refl m (some_found t records r)
  where
    by : (b : Bool) → t x ≡ b → In r (x ∷ records) → (In r records → t r ≡ true → (q : Record) × (find t records ≡ Some q)) → (q : Record) × (cond b (Some x) (find t records) ≡ Some q)
    by true s m rest = (x, refl)
    by false s (inl same) rest = absurd (let wrong : t x ≡ true = ap t (sym same) ∙ e in cc)
    by false s (inr m) rest = rest m e

-- a removal leaves at the root's home the records that are not under the root
removal_leaves : (S : List Fact) (view : View) (root : Id) (removed : List Id) → AreRecords (length view.front) S root.home (records_at view.records root.home) → IsRemoval S view root removed
    → filter (λ r. not (list_any (λ l. is_of l r) removed)) (records_at view.records root.home) ≡ without_tree S root (records_at view.records root.home)
removal_leaves S view root removed are removal =
    filter_agree (λ (r : Record). not (list_any (λ l. is_of l r) removed)) (λ (r : Record). not (is_under S root (id_of r))) (records_at view.records root.home) (λ r m. ap not (same r m))
  where
    at_home : (r : Record) → In r (records_at view.records root.home) → r.home ≡ root.home
    at_home r m = all_in (λ (q : Record). q.home ≡ root.home) (records_at view.records root.home) are.order.homes r m

    found : (r : Record) → In r (records_at view.records root.home) → (q : Record) × (record_at view (id_of r) ≡ Some q)
    found r m =
        let there = some_found (is_of (id_of r)) (records_at view.records root.home) r m (same_self (id_of r)) in
        (there.0, ap (λ (h : ℕ). find (is_of (id_of r)) (records_at view.records h)) (at_home r m) ∙ there.1)

    same : (r : Record) → In r (records_at view.records root.home) → list_any (λ l. is_of l r) removed ≡ is_under S root (id_of r)
    same r m =
        let there = found r m in
        same_bools (list_any (λ l. is_of l r) removed) (is_under S root (id_of r))
        (λ e. let one = any_gives (λ l. is_of l r) removed e in
        removal.only (id_of r) there.0 (at_home r m) there.1 (subst (λ (l : Id). In l removed) (sym (same_is (id_of r) one.0 one.2)) one.1))
        (λ e. any_from (λ l. is_of l r) removed (id_of r) (removal.all (id_of r) there.0 (at_home r m) there.1 e) (same_self (id_of r)))

-- a purge's fact is added by taking out the records of the LRAs under the root
pub purge_adds : (S : List Fact) (view : View) (me : ℕ) (root : Id) (removed : List Id) → IsSettled S → StandsFor S view → 1 ≤ me → me ≤ length view.front → judge S view.front me (PurgeAsked root) ≡ Accepted
    → IsRemoval S view root removed → AddsFact S view me (PurgeAsked root) (Some (purge_change view me removed))
purge_adds S view me root removed settled stands some there taken removal =
    let given = lawful_gives S view.front me (PurgeAsked root) taken in
    let size = stands.homes in
    let home : 1 ≤ root.home = held_home S view root stands given.0.held in
    let within : root.home ≤ length view.front = omega (arith, given.1, there) in
    let are = stands.records root.home home within in (
      taken,
      refl,
      λ T more. home_stands S T view me (PurgeAsked root) root.home (remove_each removed view.records) (slice_set view.purges (me - 1) (count view.front me + 1)) (without_tree S root (records_at view.records root.home)) stands some there more
          (ap (λ (ps : List ℕ). slice_set ps (me - 1) (count view.front me + 1)) stands.purges ∙ sym (purges_gained (next_fact S view.front me (PurgeAsked root)) S T more refl (length view.front)))
          (subst (λ (rs : List Record). ChangesHome view.records (remove_each removed view.records) root.home rs) (removal_leaves S view root removed are removal)
          (take_changes removed view.records root.home removal.homes home (omega (arith, within, size))))
          (purge_stands (next_fact S view.front me (PurgeAsked root)) S T more settled (length view.front) root.home root (records_at view.records root.home) refl given.2 are)
          (λ k other. purge_elsewhere_stands (next_fact S view.front me (PurgeAsked root)) S T more settled (length view.front) k root (records_at view.records k) refl given.2 (λ e. other (sym e))),
    )
