use Rattle.theory_history.proofs.SplitVerdicts.{parted, root_shown, root_whole, shown_parted}
use Rattle.theory_history.proofs.laws.rising.no_split_verdict.Goals as goal

pub returns : goal.returns
returns c =
    record {
      shown = λ h v w l lawful one other closed cancelled. shown_parted h lawful v w one other l closed cancelled;
      wanted = λ h v w l lawful one other close cancel. parted h lawful v w one other l close cancel;
      root = λ h v w l lawful one other top close cancel. root_whole h lawful v w one other l top close cancel;
      shown_root = λ h v w l lawful one other top closed cancelled. root_shown h lawful v w one other l top closed cancelled;
    }
