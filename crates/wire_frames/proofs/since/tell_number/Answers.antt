use Rattle.std.proofs.Common.{◌≡◌, ◌∙◌, ℕ, List, None, Some, ap, find, subst, sym}
use Rattle.state_ids.specs.Ids.{Id}
use Rattle.state_forest.specs.declared.record.Record.{Record}
use Rattle.state_forest.specs.Forests.{AreOf, is_of}
use Rattle.state_forest.specs.Places.{put_record}
use Rattle.state_forest.proofs.Puts.{put_are_of}
use Rattle.wire_frames.proofs.ToldLists.{on_both, on_ok}
use Rattle.wire_frames.proofs.ToldToo.{found_home, is_told}
use Rattle.wire_frames.proofs.since.tell_number.Goals as goal

abbrev id : goal.After-put_copy-arg-1 → Id
id c = record { home = c.args.home.now.home; num = c.args.num }

kept_is : (c : goal.After-put_copy-arg-1) → find (is_of (id c)) c.args.home.now.records ≡ Some c.in-Some-numbered.kept.now
kept_is c = sym c.in-Some-numbered.ensures

untold : (c : goal.After-put_copy-arg-1) → find (is_of (id c)) c.args.told.now.records ≡ None
untold c = subst (λ (home : ℕ). find (is_of (record { home = home; num = c.args.num })) c.args.told.now.records ≡ None) c.requires.home (sym c.in_default.ensures)

pub put_copy-requires : goal.put_copy-requires
put_copy-requires c = found_home (id c) c.args.home.now.records c.in-Some-numbered.kept.now (kept_is c) ∙ sym c.requires.home

pub returns-clause-order : goal.returns-clause-order
returns-clause-order c =
    let r = c.in-Some-numbered.kept.now in
    let told = c.args.told.now in
    on_both c.put_copy.result _ _ _
    (λ home records. subst (λ (rs : List Record). AreOf c.put_copy.new.told.home rs) (sym records)
    (subst (λ (n : ℕ). AreOf n (put_record r told.records)) (sym home) (put_are_of told.home r told.records (put_copy-requires c.before) c.requires.order)))
    c.put_copy.ensures.home c.put_copy.ensures.records

pub returns-clause-found : goal.returns-clause-found
returns-clause-found c =
    let r = c.in-Some-numbered.kept.now in
    let told = c.args.told.now.records in
    let at = c.before in
    on_ok c.put_copy.result _ _
    (λ records l. ap (find (is_of l)) records
    ∙ is_told (id at) c.args.home.now.records told r (subst (λ (n : ℕ). AreOf n told) c.requires.home c.requires.order) (kept_is at) (untold at) l)
    c.put_copy.ensures.records
