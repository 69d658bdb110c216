use Rattle.std.proofs.Common.{ap, ◌∙◌}
use Rattle.state_stamps.specs.Indexes.{HeldIndex}
use Rattle.state_stamps.proofs.Rooms.{copied}
use Rattle.state_stamps.proofs.index.IndexClone.clone.Goals as goal

pub returns : goal.returns
returns c = record { cases = copied c.self.inside.origins.items c.in_ok-clone.field-0.items c.in_ok-clone.ensures.cases.0 ∙ ap (λ (x : HeldIndex). x.origins) c.self.view_is }
