use Rattle.std.proofs.Common.{◌≡◌, ◌∙◌, List, ap, map}
use Rattle.state_forest.specs.declared.merging.Told.{Told}
use Rattle.theory_history.specs.Merging.{Telling}
use Rattle.wire_frames.specs.Sending.{part_of}
use Rattle.wire_frames.proofs.CopiedHomes.{copy_frame, copy_tells}
use Rattle.wire_frames.proofs.clones.DeltaClone.clone.Goals as goal

abbrev told : (c : goal.In_ok-copies_of) → Telling
told c = record { front = c.self.inside.front; purges = c.self.inside.purges; homes = c.self.inside.homes.items }

same : (c : goal.In_ok-copies_of) → map part_of c.in_ok-copies_of.field-0.items ≡ map part_of c.self.inside.homes.items
same c = c.in_ok-copies_of.ensures ∙ ap (λ (homes : List Told). map part_of homes) c.deref.ensures.value

pub invariant_of-result : goal.invariant_of-result
invariant_of-result c = (c.self.invariant.0, copy_tells (told c) c.in_ok-copies_of.field-0.items (same c) c.self.invariant.1)

pub returns : goal.returns
returns c = record { cases = copy_frame c.self.inside.base (told c) c.in_ok-copies_of.field-0.items (same c) ∙ c.self.view_is }
