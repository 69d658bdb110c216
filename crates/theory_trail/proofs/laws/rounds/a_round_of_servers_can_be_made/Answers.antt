use Rattle.script_world.specs.Worlds.{start}
use Rattle.theory_history.specs.Views.{empty_view}
use Rattle.theory_progress.proofs.TellingAtFirst.{none_held, start_tells, typed}
use Rattle.theory_trail.specs.ServerRounds.{FitIntoFrames}
use Rattle.theory_trail.specs.Servers.{AreServed}
use Rattle.theory_trail.proofs.RoundsOfServers.{server_round_exists}
use Rattle.theory_trail.proofs.laws.rounds.a_round_of_servers_can_be_made.Goals as goal

met : AreServed (start 2) (λ node. empty_view 2) × FitIntoFrames (start 2) (λ node. empty_view 2)
met = (λ node is. record { world = start_tells.0; node = is; holds = none_held node is }, λ node is. typed)

pub returns : goal.returns
returns c = record { made = λ s views world served few fit. server_round_exists s views world served few fit; met = met }
