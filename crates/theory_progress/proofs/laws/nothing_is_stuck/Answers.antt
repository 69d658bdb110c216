use Rattle.theory_progress.proofs.ListedActs.{listed_act}
use Rattle.theory_progress.proofs.UnderWay.{way_calls, way_home, way_listed, way_world}
use Rattle.theory_progress.proofs.laws.nothing_is_stuck.Goals as goal

pub returns : goal.returns
returns c = record { set = way_calls; world = way_world; listed = way_listed; home = way_home; due = λ view home call there asks. listed_act view home call asks there }
