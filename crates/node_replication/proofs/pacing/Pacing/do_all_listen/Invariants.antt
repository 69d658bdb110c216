use Rattle.std.proofs.Common.{◌≢◌, ◌<◌, ◌+◌, ℕ, IsTrue}
use Rattle.node_replication.specs.Paces.{listens, moment_of}
use Rattle.node_replication.proofs.pacing.Pacing.do_all_listen.Given as goal

-- the nodes so far did
abbrev pub invariant-loop-place : goal.invariant-loop-place
invariant-loop-place l = (k : ℕ) → k < l.place → k + 1 ≢ l.me → IsTrue (listens (moment_of l.self.asked (k + 1)) l.now)
