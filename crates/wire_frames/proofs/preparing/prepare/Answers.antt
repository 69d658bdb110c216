use Rattle.state_replica.specs.Replicas.{view_of}
use Rattle.wire_frames.proofs.FramesOfHistories.{patched_union}
use Rattle.wire_frames.proofs.preparing.prepare.Goals as goal

pub returns-clause-union : goal.returns-clause-union
returns-clause-union c h v w law cv cw own is nodes below =
    patched_union h v w (view_of c.args.replica.now) c.args.delta c.into_taken.result c.absorb.result law cv cw own is nodes below c.into_taken.ensures
    c.absorb.ensures.absorbed c.absorb.ensures.refused
