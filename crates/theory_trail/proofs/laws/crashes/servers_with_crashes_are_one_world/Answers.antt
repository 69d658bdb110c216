use Rattle.theory_trail.proofs.Crashing.{crashes_converge, crashes_kept, crashes_run, lost_goes_on}
use Rattle.theory_trail.proofs.GoingOn.{crash_goes_on, none_happened, turn_goes_on}
use Rattle.theory_trail.proofs.laws.crashes.servers_with_crashes_are_one_world.Goals as goal

pub returns : goal.returns
returns c =
    record {
      trails = crashes_kept;
      run = crashes_run;
      answers = crashes_converge;
      goes_on = lost_goes_on;
      begins = none_happened;
      turn = turn_goes_on;
      crash = crash_goes_on;
    }
