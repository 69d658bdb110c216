use Rattle.std.proofs.Common.{◌-◌, ◌∙◌, ℕ, sym, ap, slice_get, length}
use Rattle.state_replica.proofs.Homes.{found_here, lost_here, home_within, record_of_home}
use Rattle.state_replica.proofs.replica.Replica.record.Goals as goal

pub returns-in-None-clause-found : goal.returns-in-None-clause-found
returns-in-None-clause-found c =
    let here = ap (λ (home : ℕ). slice_get c.args.self.now.homes (home - 1)) (sym c.home.ensures.value) in
    sym (lost_here c.args.self.now c.args.id (here ∙ sym c.in-None.ensures.place))

pub returns-in-Some-clause-found : goal.returns-in-Some-clause-found
returns-in-Some-clause-found c =
    let here = ap (λ (home : ℕ). slice_get c.args.self.now.homes (home - 1)) (sym c.home.ensures.value) in
    c.get.ensures.found ∙ sym (found_here c.args.self.now c.args.id c.in-Some.home.now (here ∙ sym c.in-Some.ensures.place))

pub returns-in-Some-clause-home : goal.returns-in-Some-clause-home
returns-in-Some-clause-home c =
    let here = ap (λ (home : ℕ). slice_get c.args.self.now.homes (home - 1)) (sym c.home.ensures.value) in
    record_of_home c.args.id c.in-Some.home.now.records (length c.args.self.now.front) c.get.result
    (home_within c.args.self.now c.args.id.home c.in-Some.home.now c.in-Some.ensures.state c.home.ensures.range.home.0 (here ∙ sym c.in-Some.ensures.place)) c.get.ensures.found
