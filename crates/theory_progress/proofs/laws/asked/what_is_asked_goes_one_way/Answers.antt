use Rattle.theory_progress.proofs.AskedInTheWorld.{way_compensated, way_ended, way_forgets, way_hears, way_home}
use Rattle.theory_progress.proofs.laws.asked.what_is_asked_goes_one_way.Goals as goal

pub returns : goal.returns
returns c = record { compensated = way_compensated; home = way_home; ended = way_ended; forgets = way_forgets; hears = way_hears }
