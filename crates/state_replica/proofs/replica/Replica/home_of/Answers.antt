use Rattle.std.proofs.Common.{◌-◌, ◌∙◌, ℕ, sym, ap, slice_get}
use Rattle.state_replica.proofs.Homes.{home_records, lost_here, stands_here}
use Rattle.state_replica.proofs.replica.Replica.home_of.Goals as goal

pub returns-in-Some-clause-records : goal.returns-in-Some-clause-records
returns-in-Some-clause-records c =
    sym (home_records c.args.self.now c.args.id.home c.in-Some.home.now
    (ap (λ (home : ℕ). slice_get c.args.self.now.homes (home - 1)) (sym c.home.ensures.value) ∙ sym c.in-Some.ensures.place))

pub returns-in-None-clause-nowhere : goal.returns-in-None-clause-nowhere
returns-in-None-clause-nowhere c =
    lost_here c.args.self.now c.args.id (ap (λ (home : ℕ). slice_get c.args.self.now.homes (home - 1)) (sym c.home.ensures.value) ∙ sym c.in-None.ensures.place)

pub returns-in-Some-clause-stands : goal.returns-in-Some-clause-stands
returns-in-Some-clause-stands c S stands =
    (stands_here c.args.self.now S c.args.id.home c.in-Some.home.now c.home-2.ensures.state stands c.home.ensures.range.home.0
    (ap (λ (home : ℕ). slice_get c.args.self.now.homes (home - 1)) (sym c.home.ensures.value) ∙ sym c.in-Some.ensures.place)).stands
