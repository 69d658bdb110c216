use Rattle.std.proofs.Common.{◌≡◌, ◌<◌, ◌++◌, ◌∷◌, [], Ok, Err, OnErr, OnOk, Result, sym, ap, subst, ◌∙◌}
use Rattle.std.specs.List.{AllByRecursion}
use Rattle.state_forest.specs.declared.record.Record.{Record}
use Rattle.state_forest.specs.Forests.{AreOf, HomeRecords}
use Rattle.state_forest.proofs.Puts.{put_are_of, put_behind}
use Rattle.state_forest.proofs.forest.Forest.push_last.Goals as goal

pub invariant_of-self : goal.invariant_of-self
invariant_of-self c = by c.push.result c.push.ensures.ok c.push.ensures.err
  where
    behind : AllByRecursion (λ (q : Record). q.num < c.args.added.num) c.self.inside.records.items
    behind = subst (λ (h : HomeRecords). AllByRecursion (λ (q : Record). q.num < c.args.added.num) h.records) (sym c.self.view_is) c.requires.last

    put : AreOf c.self.inside.home (c.self.inside.records.items ++ c.args.added ∷ [])
    put =
        subst (AreOf c.self.inside.home) (put_behind c.args.added c.self.inside.records.items behind)
        (put_are_of c.self.inside.home c.args.added c.self.inside.records.items (c.requires.home ∙ sym (ap (λ (h : HomeRecords). h.home) c.self.view_is)) c.self.invariant)

    by : {A E : Type 0} (r : Result A E) → OnOk r (c.push.new.self.items ≡ c.self.inside.records.items ++ c.args.added ∷ []) → OnErr r (c.push.new.self.items ≡ c.self.inside.records.items) → AreOf c.self.inside.home c.push.new.self.items
    by (Ok done) ok err = subst (AreOf c.self.inside.home) (sym ok) put
    by (Err e) ok err = subst (AreOf c.self.inside.home) (sym err) c.self.invariant
