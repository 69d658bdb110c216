use Rattle.std.proofs.Common.{subst, sym}
use Rattle.std.specs.Prelude.{IfNone, Option}
use Rattle.wire_frames.specs.declared.version.Version.{Version}
use Rattle.wire_frames.specs.Versions.{version_mark}
use Rattle.state_journal.specs.FrontRows.{IsSaid}
use Rattle.state_journal.proofs.front_rows.own_version.Goals as goal

pub returns-in_err-held-clause-none : goal.returns-in_err-held-clause-none
returns-in_err-held-clause-none c =
    subst (λ (o : Option Version). IfNone o ((version : Version) → ¬ IsSaid c.args.rows.now 0 c.args.me (version_mark version))) (sym c.from_residual.ensures)
    (λ version. c.in_err-held.ensures.none c.args.me (version_mark version))
