use Rattle.std.proofs.Common.{List, sym, subst, ◌↔◌, ◌<◌, ◌≡◌}
use Rattle.state_stamps.specs.declared.stamp_entry.StampEntry.{StampEntry}
use Rattle.state_stamps.specs.Entries.{In, id_of}
use Rattle.state_stamps.specs.Indexes.{entries_at, stamp_at}
use Rattle.state_stamps.proofs.OneIndex.{beyond_is}
use Rattle.state_stamps.proofs.index.Index.beyond.Goals as goal

pub returns-clause-changed : goal.returns-clause-changed
returns-clause-changed c = λ known all within e.
    subst (λ (es : List StampEntry). In e es ↔ ((c.args.count < e.stamp) × (stamp_at (known (id_of e)) c.args.origin ≡ e.stamp))) (sym c.after.ensures.entries)
    (beyond_is c.args.origin c.args.count (entries_at c.args.self.now.origins c.args.origin) known (all.each c.args.origin c.after.ensures.some within) e)
