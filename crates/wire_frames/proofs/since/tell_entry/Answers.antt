use Rattle.std.proofs.Common.{◌≡◌, ◌-◌, ◌∙◌, ℕ, Some, ap, arith, find, refl, subst, sym}
use Rattle.std.specs.Prelude.{slice_get}
use Rattle.std.proofs.lemmas.List.{length-map}
use Rattle.std.proofs.lemmas.Option.{slice_get-get_or}
use Rattle.state_ids.specs.Ids.{Id, same_id}
use Rattle.state_forest.specs.Forests.{HomeRecords, is_of}
use Rattle.state_forest.specs.declared.merging.Told.{Told}
use Rattle.state_stamps.specs.Entries.{id_of}
use Rattle.wire_frames.specs.Telling.{homes_told, told_too}
use Rattle.wire_frames.proofs.ToldLists.{on_three}
use Rattle.wire_frames.proofs.ToldSince.{number_there, order_there, told_there}
use Rattle.wire_frames.proofs.ToldToo.{told_at}
use Rattle.wire_frames.proofs.since.tell_entry.Goals as goal

-- the home of the entry, both as it is told and as it is kept
told_home : (c : goal.After-index-homes-place) → slice_get c.args.told.now.items (c.from-place.result - 1) ≡ Some c.index_mut.result.now
told_home c = slice_get-get_or c.args.told.now.items (c.from-place.result - 1) c.index_mut.result.now (omega (arith, c.if-place-homes.false, c.requires.told.count, length-map c.args.told.now.items (λ (t : Told). t.records))) ∙ ap (λ (t : Told). Some t) (sym c.index_mut.ensures.value)

kept_home : (c : goal.After-index-homes-place) → slice_get c.args.homes.now (c.from-place.result - 1) ≡ Some c.index-homes-place.result
kept_home c = slice_get-get_or c.args.homes.now (c.from-place.result - 1) c.index-homes-place.result c.if-place-homes.false ∙ ap (λ (h : HomeRecords). Some h) (sym c.index-homes-place.is)

pub tell_number-requires-clause-home : goal.tell_number-requires-clause-home
tell_number-requires-clause-home c =
    let i = c.from-place.result - 1 in
    omega (
      arith,
      number_there 1 (homes_told c.args.told.now.items) i c.index_mut.result.now.records c.requires.told.numbered (told_there c.args.told.now.items i c.index_mut.result.now (told_home c)),
      number_there 1 c.args.homes.now i c.index-homes-place.result c.requires.homes.numbered (kept_home c),
    )

pub tell_number-requires-clause-order : goal.tell_number-requires-clause-order
tell_number-requires-clause-order c =
    let i = c.from-place.result - 1 in
    order_there (homes_told c.args.told.now.items) i c.index_mut.result.now.records c.requires.told.ordered (told_there c.args.told.now.items i c.index_mut.result.now (told_home c))

-- the home's number is that of the entry
own_home : (c : goal.After-index-homes-place) → c.index-homes-place.result.home ≡ c.args.entry.now.home
own_home c = omega (arith, number_there 1 c.args.homes.now (c.from-place.result - 1) c.index-homes-place.result c.requires.homes.numbered (kept_home c), c.from-place.ensures, c.number.ensures.value, c.number.ensures.range.0)

pub returns : goal.returns
returns c =
    let at = c.before.before in
    let e = c.args.entry.now in
    let h = c.index-homes-place.result in
    let t = c.index_mut.result.now in
    let after = c.tell_number.new.told in
    on_three c.tell_number.result _ _ _ _
    (λ home order found. told_at c.args.homes.now c.args.told.now.items (c.from-place.result - 1) h t (record { records = after; held = t.held }) (id_of e) c.requires.told (told_home at) (kept_home at)
    (ap (λ n. n - 1) (c.from-place.ensures ∙ c.number.ensures.value)) c.number.ensures.range.0 refl home order
    (subst (λ (n : ℕ). (l : Id) → find (is_of l) after.records ≡ told_too (same_id (record { home = n; num = e.num }) l) (find (is_of l) h.records) (find (is_of l) t.records.records)) (own_home at) found))
    c.tell_number.ensures.home c.tell_number.ensures.order c.tell_number.ensures.found
