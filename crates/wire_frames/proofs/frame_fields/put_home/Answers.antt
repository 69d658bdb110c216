use Rattle.std.proofs.Common.{◌≡◌, ◌≤◌, ◌<◌, ◌-◌, ◌∙◌, ◌++◌, ◌∷◌, [], ℕ, List, length, sym, ap, arith, get_or, subst, Some}
use Rattle.std.specs.Prelude.{slice_get}
use Rattle.std.specs.List.{AllByRecursion}
use Rattle.std.proofs.lemmas.Option.{slice_get-get_or}
use Rattle.state_forest.specs.declared.merging.Told.{Told}
use Rattle.state_forest.specs.declared.record.Record.{Record}
use Rattle.wire_frames.proofs.ToldLists.{home_there, lists_set, on_ok, records_set, records_there, told_set}
use Rattle.wire_frames.proofs.frame_fields.put_home.Goals as goal

there_is : (ts : List Told) (t : Told) (p h : ℕ) → p - 1 ≡ h - 1 → 1 ≤ h → h ≤ length ts → t ≡ get_or ts (p - 1) t → slice_get ts (h - 1) ≡ Some t
there_is ts t p h e some within value =
    slice_get-get_or ts (h - 1) t (omega (arith, some, within)) ∙ ap (λ (x : Told). Some x) (sym (value ∙ ap (λ (n : ℕ). get_or ts n t) e))

pub put_last-requires-clause-home : goal.put_last-requires-clause-home
put_last-requires-clause-home c =
    let place = ap (λ (n : ℕ). n - 1) (c.from-place.ensures ∙ c.number.ensures.value) in
    let some : 1 ≤ c.args.kept.home = omega (arith, c.number.ensures.range, c.number.ensures.value) in
    let here = there_is c.args.homes.now.items c.index_mut.result.now c.from-place.result c.args.kept.home place some c.requires.there c.index_mut.ensures.value in
    omega (arith, some, home_there 1 c.args.homes.now.items (c.args.kept.home - 1) c.index_mut.result.now c.requires.told here)

pub put_last-requires-clause-last : goal.put_last-requires-clause-last
put_last-requires-clause-last c =
    let place = ap (λ (n : ℕ). n - 1) (c.from-place.ensures ∙ c.number.ensures.value) in
    let some : 1 ≤ c.args.kept.home = omega (arith, c.number.ensures.range, c.number.ensures.value) in
    let here = there_is c.args.homes.now.items c.index_mut.result.now c.from-place.result c.args.kept.home place some c.requires.there c.index_mut.ensures.value in
    subst (λ (rs : List Record). AllByRecursion (λ (q : Record). q.num < c.args.kept.num) rs) (records_there c.args.homes.now.items (c.args.kept.home - 1) c.index_mut.result.now here) c.requires.last

pub returns-clause-told : goal.returns-clause-told
returns-clause-told c =
    let place = ap (λ (n : ℕ). n - 1) (c.from-place.ensures ∙ c.number.ensures.value) in
    let some : 1 ≤ c.args.kept.home = omega (arith, c.number.ensures.range, c.number.ensures.value) in
    let here = there_is c.args.homes.now.items c.index_mut.result.now c.from-place.result c.args.kept.home place some c.requires.there c.index_mut.ensures.value in
    rw place (on_ok c.put_last.result _ _ (λ h. told_set 1 c.args.homes.now.items (c.args.kept.home - 1) c.index_mut.result.now c.put_last.new.told c.requires.told here h) c.put_last.ensures.home)

pub returns-clause-held : goal.returns-clause-held
returns-clause-held c =
    let place = ap (λ (n : ℕ). n - 1) (c.from-place.ensures ∙ c.number.ensures.value) in
    let some : 1 ≤ c.args.kept.home = omega (arith, c.number.ensures.range, c.number.ensures.value) in
    let here = there_is c.args.homes.now.items c.index_mut.result.now c.from-place.result c.args.kept.home place some c.requires.there c.index_mut.ensures.value in
    rw place (on_ok c.put_last.result _ _ (λ h. lists_set c.args.homes.now.items (c.args.kept.home - 1) c.index_mut.result.now c.put_last.new.told here h) c.put_last.ensures.held)

pub returns-clause-records : goal.returns-clause-records
returns-clause-records c =
    let place = ap (λ (n : ℕ). n - 1) (c.from-place.ensures ∙ c.number.ensures.value) in
    let some : 1 ≤ c.args.kept.home = omega (arith, c.number.ensures.range, c.number.ensures.value) in
    let here = there_is c.args.homes.now.items c.index_mut.result.now c.from-place.result c.args.kept.home place some c.requires.there c.index_mut.ensures.value in
    rw place (on_ok c.put_last.result _ _ (λ h. records_set c.args.homes.now.items (c.args.kept.home - 1) c.put_last.new.told _
    (h ∙ ap (λ (rs : List Record). rs ++ c.args.kept ∷ []) (sym (records_there c.args.homes.now.items (c.args.kept.home - 1) c.index_mut.result.now here)))) c.put_last.ensures.records)
