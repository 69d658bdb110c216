use Rattle.theory_history.proofs.ViewsHaveShape.{closed_shape, merged_shape}
use Rattle.theory_history.proofs.laws.shape.views_of_a_history_have_the_shape.Goals as goal

pub returns : goal.returns
returns c = record { view = closed_shape; merge = merged_shape }
