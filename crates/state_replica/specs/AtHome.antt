-- A command at its home: the LRA that it names, and what the records of a home say.
use Rattle.std.specs.Prelude.{◌≡◌, ℕ, Option, Some, List, IfSome, if◌then◌else◌, is_some, length}
use Rattle.std.specs.Option.{option_map_or}
use Rattle.state_ids.specs.Ids.{Id}
use Rattle.state_ids.specs.Fronts.{is_covered}
use Rattle.state_facts.specs.declared.refusal.Refusal.{Refusal}
use Rattle.state_facts.specs.declared.refusal.Refusal.TheVariants.{NotHeld, UnknownLra}
use Rattle.state_forest.specs.declared.record.Record.{Record}
use Rattle.state_forest.specs.Said.{depth_at, is_demanded_at, is_ended_at, is_heard_at, is_owed_at, is_root_at, is_forgot_at, is_to_hear_at, is_told_at, least_owed_of, least_unheard_of, member_shown_at, members_at, participant_of, shown_at, want_at}
use Rattle.state_forest.specs.Shape.{found_at}
use Rattle.state_facts.specs.declared.command.Command.{Command}
use Rattle.state_facts.specs.declared.command.Command.TheVariants.{Begin, Join, Leave, Decide, Report, Forgot, Told, Purge}
use Rattle.theory_history.specs.Replies.{Reading}

-- the LRA that a command names: for a begin the parent, and none for a root
abbrev pub named_by : Command → Option Id
named_by (Begin parent deadline) = parent
named_by (Join l links) = Some l
named_by (Leave l m) = Some l
named_by (Decide l verdict) = Some l
named_by (Report l m act outcome) = Some l
named_by (Forgot l m) = Some l
named_by (Told l m) = Some l
named_by (Purge root) = Some root

-- the refusal of a command whose LRA's home is no node
abbrev pub lost_by : List ℕ → Command → Refusal
lost_by v c = option_map_or (λ l. if is_covered v l then NotHeld else UnknownLra) (named_by c) UnknownLra

-- the command names no LRA of another home
abbrev pub IsOfHome : ℕ → Command → Type 0
IsOfHome home c = IfSome (named_by c) (λ l. l.home ≡ home)

-- what the records of a home say of its LRAs
abbrev pub by_home : List Record → Reading
by_home records =
    record {
      held = λ l. is_some (found_at l.home records l.num);
      want = λ l. want_at (found_at l.home records) l.num;
      shows = λ l. shown_at (found_at l.home records) l.num;
      member = λ l m. member_shown_at (found_at l.home records) l.num m;
      depth = λ l. depth_at (found_at l.home records) l.num;
      numbers = λ l. length (members_at (found_at l.home records) l.num);
      held_at = λ home. length records;
      participant = λ l m. is_some (participant_of (found_at l.home records) l.num m);
      demanded = λ l m act. is_demanded_at (found_at l.home records) l.num m act;
      heard = λ l m act outcome. is_heard_at (found_at l.home records) l.num m act outcome;
      root = λ l. is_root_at (found_at l.home records) l.num;
      ended = λ l. is_ended_at (found_at l.home records) l.num;
      owed = λ l m. is_owed_at (found_at l.home records) l.num m;
      forgot = λ l m. is_forgot_at (found_at l.home records) l.num m;
      least_owed = λ l. least_owed_of (found_at l.home records) l.num records;
      to_hear = λ l m. is_to_hear_at (found_at l.home records) l.num m;
      told = λ l m. is_told_at (found_at l.home records) l.num m;
      least_untold = λ l. least_unheard_of (found_at l.home records) l.num records;
    }
