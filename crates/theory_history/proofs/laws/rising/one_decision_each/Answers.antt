use Rattle.theory_history.proofs.Decisions.{decided_home, decided_once}
use Rattle.theory_history.proofs.laws.rising.one_decision_each.Goals as goal

pub returns : goal.returns
returns c =
    record {
      once = λ h l one other d e lawful is too. decided_once h lawful l one other d e is too;
      home = λ h l verdict e lawful is. decided_home h lawful l verdict e is;
    }
