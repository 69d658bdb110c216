-- what a view replies and what it becomes are what the definitions give for each set that the view
-- stands for
use Rattle.std.proofs.Common.{◌≡◌, inl, inr, ◌≤◌, ◌<◌, ◌+◌, ◌-◌, ℕ, List, [], refl, sym, ap, subst, ◌∙◌, Bool, true, false, arith, Option, Some, None, find, is_some, length, nat_lt}
use Rattle.std.proofs.lemmas.Bool.Decides.{nat_tests}
use Rattle.std.proofs.lemmas.List.{get_or_past}
use Rattle.std.specs.Option.{option_map_or}
use Rattle.state_ids.specs.Ids.{Id}
use Rattle.state_ids.specs.Fronts.{count}
use Rattle.state_ids.specs.declared.outcome.Verdict.{Verdict}
use Rattle.state_ids.specs.declared.status.LraStatus.{LraStatus}
use Rattle.state_facts.specs.declared.fact.Fact.{Fact}
use Rattle.state_facts.specs.Links.{Links}
use Rattle.state_facts.specs.declared.refusal.Refusal.{Refusal}
use Rattle.state_facts.specs.declared.refusal.Refusal.TheVariants.{MembersFull, NotHeld, NotHome, UnknownMember}
use Rattle.state_facts.specs.Refusals.{unless, unknown, away, spent}
use Rattle.state_facts.specs.Sets.{shows_now}
use Rattle.state_forest.specs.declared.record.Record.{Record}
use Rattle.state_forest.specs.Forests.{is_of}
use Rattle.state_forest.specs.Places.{put_record}
use Rattle.state_forest.specs.Said.{shown_at}
use Rattle.state_forest.specs.Shape.{found_at}
use Rattle.state_forest.proofs.MembersAndStamps.{find_in}
use Rattle.state_forest.proofs.RecordsSayTheSet.{shown_said}
use Rattle.state_facts.specs.declared.command.Command.{Command}
use Rattle.state_facts.specs.declared.command.Command.TheVariants.{Begin, Join, Leave, Decide, Report, Forgot, Told, Purge}
use Rattle.state_facts.specs.declared.command.CommandReply.TheVariants.{Began, Decided, Joined}
use Rattle.theory_history.specs.Growth.{IsSettled, record_after}
use Rattle.theory_history.specs.Next.{accepted_on, change_on, change_record, changed, judge_on, next_fact_on, next_view, no_change, reply_on, view_by}
use Rattle.theory_history.specs.Changes.{AddsFact, fresh_record, Change, one_change, patched, two_changes}
use Rattle.theory_history.specs.Readings.{by_view}
use Rattle.theory_history.specs.Replies.{full_by, refusal_by, inactive_by, Denied, Judgement, AlreadyKnown, Accepted, accepted, after, after_by, entered, judge, judged, reply_by, reply_of}
use Rattle.theory_history.specs.Views.{StandsFor, View, record_at, records_at}
use Rattle.theory_history.proofs.PatchesAddFacts.{after_decide, decide_adds, forgot_adds, told_adds, join_adds, leave_adds, nested_adds, plain_root_adds, purge_adds, put_changes, report_adds}
use Rattle.theory_history.proofs.SameReadings.{IsPlain, judge_view, view_alike}
use Rattle.theory_history.proofs.Basics.{at_most, equal_from, less_by, open_first, passed}
use Rattle.theory_history.proofs.CountedByFronts.{more_entered}
use Rattle.theory_history.proofs.Covered.{found_of}
use Rattle.theory_history.proofs.AcceptedCommands.{lawful_gives}
use Rattle.theory_history.proofs.RemovedByPurge.{removal_said}

-- What is known of an accepted command, by any reading

pub accepted_open : (o : Option Refusal) (known : Bool) (limit : Option Refusal) → judged o known limit ≡ Accepted → o ≡ None
accepted_open (Some r) known limit e = absurd cc
accepted_open None known limit e = refl

pub leave_passed : (view : View) (me : ℕ) (l : Id) (m : ℕ) → judge_on view me (Leave l m) ≡ Accepted → (is_some (record_at view l) ≡ true) × ((by_view view).participant l m ≡ true)
leave_passed view me l m taken =
    let t = by_view view in
    let none = accepted_open (refusal_by t view.front me (Leave l m)) false (spent view.front me) taken in
    let after_unknown = open_first (unknown view.front l) _ none in
    let after_gone = open_first (unless (t.held l) NotHeld) _ after_unknown.1 in
    let after_away = open_first (away me l) _ after_gone.1 in
    let after_stranger = open_first (unless (t.participant l m) UnknownMember) _ after_away.1 in
    (passed (t.held l) NotHeld after_gone.0, passed (t.participant l m) UnknownMember after_stranger.0)

pub decide_passed : (view : View) (me : ℕ) (l : Id) (verdict : Verdict) → judge_on view me (Decide l verdict) ≡ Accepted → (is_some (record_at view l) ≡ true) × (l.home ≡ me)
decide_passed view me l verdict taken =
    let t = by_view view in
    let none = accepted_open (refusal_by t view.front me (Decide l verdict)) false (spent view.front me) taken in
    let after_unknown = open_first (unknown view.front l) _ none in
    let after_gone = open_first (unless (t.held l) NotHeld) _ after_unknown.1 in
    let after_away = open_first (away me l) _ after_gone.1 in
    (passed (t.held l) NotHeld after_gone.0, equal_from l.home me (passed _ (NotHome l.home) after_away.0))

-- A decision

-- the record that is found of an LRA has its home and number
pub found_id : (view : View) (l : Id) (r : Record) → record_at view l ≡ Some r → (r.home ≡ l.home) × (r.num ≡ l.num)
found_id view l r found =
    let is = (find_in (is_of l) (records_at view.records l.home) r found).1 in
    (found_of l (records_at view.records l.home) r found, grind (arith, nat_tests, is))

-- and its home is one of the nodes
pub found_there : (view : View) (l : Id) (r : Record) → record_at view l ≡ Some r → 1 ≤ l.home → l.home ≤ length view.records
found_there view l r found some = elim (at_most l.home (length view.records)) [
  | inl there ↦ there
  | inr past ↦ absurd (let none : record_at view l ≡ None = ap (find (is_of l)) (get_or_past view.records (l.home - 1) [] (omega (arith, past))) in let wrong : Some r ≡ None = sym found ∙ none in cc)
]

-- the records of a home after one of them is changed
pub changed_records : (view : View) (me : ℕ) (next : Record) (home : ℕ) → next.home ≡ home → 1 ≤ home → home ≤ length view.records → records_at (patched (one_change view me next) view).records home ≡ put_record next (records_at view.records home)
changed_records view me next home same some there = (put_changes next view.records home same some there).here

-- the record of an LRA that has one
some_record : (o : Option Record) → is_some o ≡ true → (r : Record) × (o ≡ Some r)
some_record None e = absurd cc
some_record (Some r) e = (r, refl)

-- The other commands

pub join_passed : (view : View) (me : ℕ) (l : Id) (links : Links) → judge_on view me (Join l links) ≡ Accepted → (is_some (record_at view l) ≡ true) × ((by_view view).numbers l < 32)
join_passed view me l links taken =
    let t = by_view view in
    let none = accepted_open (refusal_by t view.front me (Join l links)) false (spent view.front me) taken in
    let after_unknown = open_first (unknown view.front l) _ none in
    let after_gone = open_first (unless (t.held l) NotHeld) _ after_unknown.1 in
    let after_away = open_first (away me l) _ after_gone.1 in
    let after_inactive = open_first (inactive_by t l) _ after_away.1 in
    let after_full = open_first (full_by t l) _ after_inactive.1 in
    (passed (t.held l) NotHeld after_gone.0, less_by (t.numbers l) 32 (passed (nat_lt (t.numbers l) 32) MembersFull after_full.0))

pub nest_passed : (view : View) (me : ℕ) (p : Id) (deadline : ℕ) → judge_on view me (Begin (Some p) deadline) ≡ Accepted → (is_some (record_at view p) ≡ true) × (p.home ≡ me) × ((by_view view).numbers p < 32)
nest_passed view me p deadline taken =
    let t = by_view view in
    let none = accepted_open (refusal_by t view.front me (Begin (Some p) deadline)) false (spent view.front me) taken in
    let after_unknown = open_first (unknown view.front p) _ none in
    let after_gone = open_first (unless (t.held p) NotHeld) _ after_unknown.1 in
    let after_away = open_first (away me p) _ after_gone.1 in
    let after_inactive = open_first (inactive_by t p) _ after_away.1 in
    let after_full = open_first (full_by t p) _ after_inactive.1 in
    (passed (t.held p) NotHeld after_gone.0, equal_from p.home me (passed _ (NotHome p.home) after_away.0), less_by (t.numbers p) 32 (passed (nat_lt (t.numbers p) 32) MembersFull after_full.0))

-- the LRA has given as many numbers as its record has members
pub numbers_on : (view : View) (l : Id) (r : Record) → record_at view l ≡ Some r → (by_view view).numbers l ≡ length r.members
numbers_on view l r found = ap (λ (o : Option Record). length (option_map_or (λ (q : Record). q.members) o [])) found

-- What the definitions give

-- the reply is the set's, and with the change the view stands for the set with exactly this fact
abbrev IsAdded : List Fact → View → ℕ → Command → Type 0
IsAdded S view me c = (accepted_on view me c ≡ accepted S view.front me c) × AddsFact S view me c (Some (change_on view me c))

-- the same for a command that changes the record of one LRA
changed_adds : (S : List Fact) (view : View) (me : ℕ) (c : Command) (l : Id) (r : Record) → record_at view l ≡ Some r → AddsFact S view me c (Some (one_change view me (record_after (next_fact_on view me c) r))) → AddsFact S view me c (Some (change_record view me c l))
changed_adds S view me c l r found adds =
    subst (λ (k : Change). AddsFact S view me c (Some k)) (ap (λ (o : Option Record). option_map_or (λ (q : Record). one_change view me (record_after (next_fact_on view me c) q)) o (no_change view)) (sym found)) adds

-- if the set accepts a command, the view adds its fact
pub is_added : (S : List Fact) (view : View) (me : ℕ) (c : Command) → IsPlain (length view.front) me c → 1 ≤ me → me ≤ length view.front → IsSettled S → StandsFor S view → judge S view.front me c ≡ Accepted → IsAdded S view me c
is_added S view me (Begin None deadline) plain one there settled stands taken = (
  refl,
  plain_root_adds S view me deadline (fresh_record view.front me None deadline) settled stands one there taken refl,
)
is_added S view me (Begin (Some p) deadline) plain one there settled stands taken =
    let c : Command = Begin (Some p) deadline in
    let own = (nest_passed view me p deadline (judge_view S view me c plain settled stands ∙ taken)).0 in
    let found = some_record (record_at view p) own in
    let alike = view_alike S view settled stands in
    let many : (by_view view).numbers p ≡ length found.0.members = numbers_on view p found.0 found.1 in (
      ap (λ (n : ℕ). Began (record { home = me; num = count view.front me + 1 }) (n + 1)) (alike.numbers p (sym (alike.held p) ∙ own)),
      subst (λ (k : Change). AddsFact S view me c (Some k))
          (ap (λ (o : Option Record). option_map_or (λ (r : Record). two_changes view me (record_after (next_fact_on view me c) r) (fresh_record view.front me (Some (record { number = p.num; slot = (by_view view).numbers p + 1 })) deadline)) o (no_change view)) (sym found.1))
          (nested_adds S view me p deadline found.0 (record_after (next_fact_on view me c) found.0) _ settled stands one there taken found.1 refl
          (ap (λ (n : ℕ). fresh_record view.front me (Some (record { number = p.num; slot = n + 1 })) deadline) many)),
    )
is_added S view me (Join l links) plain one there settled stands taken =
    let c : Command = Join l links in
    let own = (join_passed view me l links (judge_view S view me c tt settled stands ∙ taken)).0 in
    let found = some_record (record_at view l) own in
    let alike = view_alike S view settled stands in (
      ap (λ (n : ℕ). Joined l (n + 1)) (alike.numbers l (sym (alike.held l) ∙ own)),
      changed_adds S view me c l found.0 found.1 (join_adds S view me l links found.0 (record_after (next_fact_on view me c) found.0) settled stands one there taken found.1 refl),
    )
is_added S view me (Leave l m) plain one there settled stands taken =
    let c : Command = Leave l m in
    let found = some_record (record_at view l) (leave_passed view me l m (judge_view S view me c tt settled stands ∙ taken)).0 in (
      refl,
      changed_adds S view me c l found.0 found.1 (leave_adds S view me l m found.0 (record_after (next_fact_on view me c) found.0) settled stands one there taken found.1 refl),
    )
is_added S view me (Decide l verdict) plain one there settled stands taken =
    let c : Command = Decide l verdict in
    let T = entered S view.front me c in
    let own = decide_passed view me l verdict (judge_view S view me c tt settled stands ∙ taken) in
    let found = some_record (record_at view l) own.0 in
    let next : Record = record_after (next_fact_on view me c) found.0 in
    let some : 1 ≤ l.home = omega (arith, one, own.1) in
    let after = after_decide S view me l verdict found.0 next settled stands one there taken found.1 refl in
    let is : one_change view me next ≡ change_on view me c = ap (λ (o : Option Record). option_map_or (λ (r : Record). one_change view me (record_after (next_fact_on view me c) r)) o (no_change view)) (sym found.1) in
    let records : records_at (changed view me c).records l.home ≡ put_record next (records_at view.records l.home) =
    ap (λ (k : Change). records_at (patched k view).records l.home) (sym is) ∙ changed_records view me next l.home (found_id view l found.0 found.1).0 some (found_there view l found.0 found.1 some) in
    let shows : (by_view (changed view me c)).shows l ≡ shows_now T l =
    ap (λ (rs : List Record). shown_at (found_at l.home rs) l.num) records
    ∙ shown_said (length view.front) T (put_record next (records_at view.records l.home)) l after.0 after.1 after.2.stands after.3 in (
      ap (λ (s : LraStatus). Decided l s) shows,
      changed_adds S view me c l found.0 found.1 (decide_adds S view me l verdict found.0 next settled stands one there taken found.1 refl),
    )
is_added S view me (Report l m act outcome) plain one there settled stands taken =
    let c : Command = Report l m act outcome in
    let held = (lawful_gives S view.front me c taken).0.held in
    let found = some_record (record_at view l) ((view_alike S view settled stands).held l ∙ held) in (
      refl,
      changed_adds S view me c l found.0 found.1 (report_adds S view me l m act outcome found.0 (record_after (next_fact_on view me c) found.0) settled stands one there taken found.1 refl),
    )
is_added S view me (Forgot l m) plain one there settled stands taken =
    let c : Command = Forgot l m in
    let held = (lawful_gives S view.front me c taken).0.held in
    let found = some_record (record_at view l) ((view_alike S view settled stands).held l ∙ held) in (
      refl,
      changed_adds S view me c l found.0 found.1 (forgot_adds S view me l m found.0 (record_after (next_fact_on view me c) found.0) settled stands one there taken found.1 refl),
    )
is_added S view me (Told l m) plain one there settled stands taken =
    let c : Command = Told l m in
    let held = (lawful_gives S view.front me c taken).0.held in
    let found = some_record (record_at view l) ((view_alike S view settled stands).held l ∙ held) in (
      refl,
      changed_adds S view me c l found.0 found.1 (told_adds S view me l m found.0 (record_after (next_fact_on view me c) found.0) settled stands one there taken found.1 refl),
    )
is_added S view me (Purge root) plain one there settled stands taken =
    let held = (lawful_gives S view.front me (Purge root) taken).0.held in
    (refl, purge_adds S view me root _ settled stands one there taken (removal_said S view root settled stands held))

-- and the view's reply and next view are the set's
pub view_is_next : (S : List Fact) (view : View) (me : ℕ) (c : Command) → IsPlain (length view.front) me c → 1 ≤ me → me ≤ length view.front → IsSettled S → StandsFor S view
    → (reply_on view me c ≡ reply_of S view.front me c) × StandsFor (after S view.front me c) (next_view view me c)
view_is_next S view me c plain one there settled stands = by (judge S view.front me c) refl (judge_view S view me c plain settled stands)
  where
    by : (j : Judgement) → judge S view.front me c ≡ j → judge_on view me c ≡ judge S view.front me c → (reply_on view me c ≡ reply_of S view.front me c) × StandsFor (after S view.front me c) (next_view view me c)
    by (Denied r) e same = (
      ap (λ (k : Judgement). reply_by k (accepted_on view me c)) (same ∙ e) ∙ sym (ap (λ (k : Judgement). reply_by k (accepted S view.front me c)) e),
      subst (λ (k : Judgement). StandsFor (after S view.front me c) (view_by k view (changed view me c))) (sym (same ∙ e))
          (subst (λ (k : Judgement). StandsFor (after_by k S (entered S view.front me c)) view) (sym e) stands),
    )
    by AlreadyKnown e same = (
      ap (λ (k : Judgement). reply_by k (accepted_on view me c)) (same ∙ e) ∙ sym (ap (λ (k : Judgement). reply_by k (accepted S view.front me c)) e),
      subst (λ (k : Judgement). StandsFor (after S view.front me c) (view_by k view (changed view me c))) (sym (same ∙ e))
          (subst (λ (k : Judgement). StandsFor (after_by k S (entered S view.front me c)) view) (sym e) stands),
    )
    by Accepted e same =
        let adds = is_added S view me c plain one there settled stands e in (
          ap (λ (k : Judgement). reply_by k (accepted_on view me c)) (same ∙ e) ∙ adds.0 ∙ sym (ap (λ (k : Judgement). reply_by k (accepted S view.front me c)) e),
          subst (λ (k : Judgement). StandsFor (after S view.front me c) (view_by k view (changed view me c))) (sym (same ∙ e))
              (subst (λ (k : Judgement). StandsFor (after_by k S (entered S view.front me c)) (changed view me c)) (sym e)
              (adds.1.2 (entered S view.front me c) (more_entered S view.front me c stands.front one))),
        )

pub is_plain : (nodes me : ℕ) (c : Command) → 1 ≤ me → me ≤ nodes → IsPlain nodes me c
is_plain nodes me (Begin parent deadline) one there = (one, there)
is_plain nodes me (Join l links) one there = tt
is_plain nodes me (Leave l m) one there = tt
is_plain nodes me (Decide l verdict) one there = tt
is_plain nodes me (Report l m act outcome) one there = tt
is_plain nodes me (Forgot l m) one there = tt
is_plain nodes me (Told l m) one there = tt
is_plain nodes me (Purge root) one there = tt

pub view_law : (S : List Fact) (view : View) (me : ℕ) (c : Command) → 1 ≤ me → me ≤ length view.front → IsSettled S → StandsFor S view
    → (reply_on view me c ≡ reply_of S view.front me c) × StandsFor (after S view.front me c) (next_view view me c)
view_law S view me c one there settled stands = view_is_next S view me c (is_plain (length view.front) me c one there) one there settled stands
