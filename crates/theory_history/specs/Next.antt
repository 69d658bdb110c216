-- A node's reply to a command and its view afterwards, by its view alone.
use Rattle.std.specs.Prelude.{◌+◌, ℕ, Some, None, [], ◌∷◌, Result, Ok, Err, Option}
use Rattle.std.specs.Option.{option_map_or}
use Rattle.state_ids.specs.Ids.{Id}
use Rattle.state_ids.specs.declared.status.LraStatus.{LraStatus}
use Rattle.state_ids.specs.declared.status.MemberStatus.{MemberStatus}
use Rattle.state_facts.specs.declared.fact.Fact.{Fact}
use Rattle.state_facts.specs.declared.refusal.Refusal.{Refusal}
use Rattle.state_facts.specs.declared.refusal.Refusal.TheVariants.{UnknownMember}
use Rattle.state_facts.specs.Refusals.{first, unknown}
use Rattle.state_forest.specs.declared.record.Record.{Record}
use Rattle.state_forest.specs.Said.{first_overdue, ids_below}
use Rattle.state_facts.specs.declared.command.Command.{Command}
use Rattle.state_facts.specs.declared.command.Command.TheVariants.{Begin, Join, Leave, Decide, Report, Forgot, Told, Purge}
use Rattle.state_facts.specs.declared.command.CommandReply.{CommandReply}
use Rattle.theory_history.specs.Growth.{record_after}
use Rattle.theory_history.specs.Changes.{fresh_record, Change, one_change, patched, purge_change, two_changes}
use Rattle.theory_history.specs.Readings.{at_home, by_view}
use Rattle.theory_history.specs.Replies.{accepted_by, fact_by, gone_by, judge_by, Denied, Judgement, AlreadyKnown, Accepted, reply_by}
use Rattle.theory_history.specs.Views.{View, record_at, records_at}

-- Commands

-- the fact that a node enters for a command
abbrev pub next_fact_on : View → ℕ → Command → Fact
next_fact_on view me c = fact_by (by_view view) view.front me c

-- nothing is changed
abbrev pub no_change : View → Change
no_change view = record { records = []; removed = []; front = view.front; purges = view.purges }

-- the record of l changes as the fact says
abbrev pub change_record : View → ℕ → Command → Id → Change
change_record view me c l = option_map_or (λ (r : Record). one_change view me (record_after (next_fact_on view me c) r)) (record_at view l) (no_change view)

-- an LRA is begun in p, with the next member number of p
abbrev pub change_nested : View → ℕ → Command → Id → ℕ → Change
change_nested view me c p deadline =
    option_map_or (λ (r : Record). two_changes view me (record_after (next_fact_on view me c) r)
    (fresh_record view.front me (Some (record { number = p.num; slot = (by_view view).numbers p + 1 })) deadline)) (record_at view p) (no_change view)

-- what a command's fact changes
abbrev pub change_on : View → ℕ → Command → Change
change_on view me (Begin None deadline) = one_change view me (fresh_record view.front me None deadline)
change_on view me (Begin (Some p) deadline) = change_nested view me (Begin (Some p) deadline) p deadline
change_on view me (Join l links) = change_record view me (Join l links) l
change_on view me (Leave l m) = change_record view me (Leave l m) l
change_on view me (Decide l verdict) = change_record view me (Decide l verdict) l
change_on view me (Report l m act outcome) = change_record view me (Report l m act outcome) l
change_on view me (Forgot l m) = change_record view me (Forgot l m) l
change_on view me (Told l m) = change_record view me (Told l m) l
change_on view me (Purge root) = purge_change view me (ids_below (at_home view root.home) root.num (records_at view.records root.home))

abbrev pub changed : View → ℕ → Command → View
changed view me c = patched (change_on view me c) view

-- a command is refused, already known, or accepted
abbrev pub judge_on : View → ℕ → Command → Judgement
judge_on view me c = judge_by (by_view view) view.front me c

-- the reply to a command that is accepted
abbrev pub accepted_on : View → ℕ → Command → CommandReply
accepted_on view me c = accepted_by (by_view view) (by_view (changed view me c)) view.front me c

abbrev pub reply_on : View → ℕ → Command → CommandReply
reply_on view me c = reply_by (judge_on view me c) (accepted_on view me c)

-- only an accepted command changes the view
abbrev pub view_by : Judgement → (before after : View) → View
view_by (Denied r) before after = before
view_by AlreadyKnown before after = before
view_by Accepted before after = after

abbrev pub next_view : View → ℕ → Command → View
next_view view me c = view_by (judge_on view me c) view (changed view me c)

-- Questions

-- what an LRA shows, or the refusal
abbrev pub shown_on : View → Id → Result LraStatus Refusal
shown_on view l = option_map_or (λ r. Err r) (first (unknown view.front l ∷ gone_by (by_view view) l ∷ [])) (Ok ((by_view view).shows l))

-- what a participant shows, or the refusal
abbrev pub member_shown_on : View → Id → ℕ → Result MemberStatus Refusal
member_shown_on view l m =
    option_map_or (λ r. Err r) (first (unknown view.front l ∷ gone_by (by_view view) l ∷ []))
    (option_map_or (λ s. Ok s) ((by_view view).member l m) (Err UnknownMember))

-- the LRA that expires: the overdue LRA of a home with the least number, if there is one
abbrev pub overdue_on : View → ℕ → ℕ → Option Id
overdue_on view me now = first_overdue me (at_home view me) now (records_at view.records me)
