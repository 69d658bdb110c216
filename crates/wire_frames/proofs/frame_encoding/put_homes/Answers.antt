use Rattle.std.proofs.Common.{◌++◌, ◌∙◌, ℕ, List, ap}
use Rattle.wire_frames.proofs.Put.{homes_put}
use Rattle.wire_frames.proofs.frame_encoding.put_homes.Goals as goal

pub returns-clause-text : goal.returns-clause-text
returns-clause-text g c =
    let before = g.O.Output.text c.args.out.now in
    c.put_each_home.ensures.text ∙ ap (λ (l : List ℕ). before ++ l) (homes_put c.args.version c.args.homes.now)
