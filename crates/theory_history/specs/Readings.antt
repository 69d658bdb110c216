-- A reading by the records of a view: what a view says of LRAs.
use Rattle.std.specs.Prelude.{ℕ, Option, is_some, length}
use Rattle.state_forest.specs.declared.record.Record.{Record}
use Rattle.state_forest.specs.Said.{depth_at, is_demanded_at, is_ended_at, is_heard_at, is_owed_at, is_root_at, is_forgot_at, is_to_hear_at, is_told_at, least_owed_of, least_unheard_of, member_shown_at, members_at, participant_of, shown_at, want_at}
use Rattle.state_forest.specs.Shape.{found_at}
use Rattle.theory_history.specs.Replies.{Reading}
use Rattle.theory_history.specs.Views.{View, record_at, records_at}

-- the record of a home's LRA with this number
abbrev pub at_home : View → ℕ → ℕ → Option Record
at_home view home = found_at home (records_at view.records home)

abbrev pub by_view : View → Reading
by_view view =
    record {
      held = λ l. is_some (record_at view l);
      want = λ l. want_at (at_home view l.home) l.num;
      shows = λ l. shown_at (at_home view l.home) l.num;
      member = λ l m. member_shown_at (at_home view l.home) l.num m;
      depth = λ l. depth_at (at_home view l.home) l.num;
      numbers = λ l. length (members_at (at_home view l.home) l.num);
      held_at = λ home. length (records_at view.records home);
      participant = λ l m. is_some (participant_of (at_home view l.home) l.num m);
      demanded = λ l m act. is_demanded_at (at_home view l.home) l.num m act;
      heard = λ l m act outcome. is_heard_at (at_home view l.home) l.num m act outcome;
      root = λ l. is_root_at (at_home view l.home) l.num;
      ended = λ l. is_ended_at (at_home view l.home) l.num;
      owed = λ l m. is_owed_at (at_home view l.home) l.num m;
      forgot = λ l m. is_forgot_at (at_home view l.home) l.num m;
      least_owed = λ l. least_owed_of (at_home view l.home) l.num (records_at view.records l.home);
      to_hear = λ l m. is_to_hear_at (at_home view l.home) l.num m;
      told = λ l m. is_told_at (at_home view l.home) l.num m;
      least_untold = λ l. least_unheard_of (at_home view l.home) l.num (records_at view.records l.home);
    }
