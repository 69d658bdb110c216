use Rattle.theory_history.proofs.OneMoreEntry.{closed_still, current_still, one_more, unmoved}
use Rattle.theory_history.proofs.laws.an_entry_is_one_more_fact.Goals as goal

pub returns : goal.returns
returns c =
    record {
      fact = λ h node v e current. one_more h v node e current.some current.there current.closed current.own;
      others = λ h node u v e current closed. unmoved h u node e current.some current.there closed;
      closed = λ h node u v e current closed. closed_still h u node e current.some current.there closed;
      current = λ h node other u v e own current apart. current_still h node other u e own.some own.there current apart;
    }
