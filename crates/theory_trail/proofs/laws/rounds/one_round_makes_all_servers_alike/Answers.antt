use Rattle.theory_trail.proofs.ServerRounds.{servers_alike, servers_bring, servers_count, servers_quiet}
use Rattle.theory_trail.proofs.laws.rounds.one_round_makes_all_servers_alike.Goals as goal

pub returns : goal.returns
returns c =
    record {
      brings = λ s t views ends turns node from trails round is giver. servers_bring s t views ends turns trails round node from is giver;
      all = λ s t views ends turns node trails still round is. servers_count s t views ends turns trails round still node is;
      alike = λ s t views ends turns one other trails still round is too. servers_alike s t views ends turns trails round still one other is too;
      quiet = servers_quiet;
    }
