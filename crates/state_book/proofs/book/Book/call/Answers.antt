use Rattle.std.proofs.Common.{◌≡◌, ◌⊎◌, ◌<◌, IsTrue, ◌∙◌, ◌++◌, ◌∷◌, [], None, ap, arith, length, rules, subst, sym}
use Rattle.std.specs.Option.{option_map}
use Rattle.theory_history.specs.Views.{View}
use Rattle.theory_history.specs.Changes.{with_patch}
use Rattle.state_replica.specs.Replicas.{view_of}
use Rattle.sqlite.specs.Held.{state}
use Rattle.sqlite.specs.State.{Survives}
use Rattle.state_journal.specs.Keeping.{Keeps}
use Rattle.state_journal.specs.Stands.{Stands}
use Rattle.state_journal.proofs.Stored.{leaves}
use Rattle.state_book.specs.declared.calls.Entry.{Entry}
use Rattle.state_book.specs.Books.{BookState, MayCommit, refusal_at_once}
use Rattle.state_book.specs.Next.{IsNext}
use Rattle.state_book.specs.Trails.{entry}
use Rattle.state_book.proofs.KeptBooks.{changed_by, has_room, not_stored, with_entry}
use Rattle.state_book.proofs.LostBelow.{at_once_lost}
use Rattle.state_book.proofs.Stops.{survives_more, survives_same}
use Rattle.state_book.proofs.book.Book.call.Goals as goal

pub invariant_of-self-in-Err-carry_out : goal.invariant_of-self-in-Err-carry_out
invariant_of-self-in-Err-carry_out g c =
    let old : BookState g.row.S.Denot = record { me = c.self.inside.me; records = view_of c.self.inside.replica; journal = c.self.inside.journal; opening = option_map (λ s. s.held) c.self.inside.opening; trail = c.self.inside.trail.items; stopped = c.self.inside.stopped } in
    let same = c.in-Err-carry_out.ensures.same ∙ c.in-Ok.ensures.view in
    let before = subst (λ (v : View). Keeps g.S.Store c.self.inside.me c.self.inside.journal v) (sym c.in-Ok.ensures.view) c.self.invariant.0.stored in
    let keeps = c.carry_out.ensures.keeps c.self.inside.me before in
    (not_stored g.S.Store old (view_of c.carry_out.new.replica) c.carry_out.new.journal c.eq-self-inside.result c.self.invariant.0 same keeps, c.self.invariant.1)

pub invariant_of-self-2 : goal.invariant_of-self-2
invariant_of-self-2 g c =
    let old : BookState g.row.S.Denot = record { me = c.self.inside.me; records = view_of c.self.inside.replica; journal = c.self.inside.journal; opening = option_map (λ s. s.held) c.self.inside.opening; trail = c.self.inside.trail.items; stopped = c.self.inside.stopped } in
    let free : refusal_at_once c.args.self.now c.args.pass.now c.args.call ≡ None = search rules in
    let reply = c.in-Ok.ready.copy.reply in
    let is : view_of c.carry_out.new.replica ≡ with_patch c.in-Ok.ready.patch (view_of c.self.inside.replica) = c.in_default-carry_out.ensures.view ∙ ap (with_patch c.in-Ok.ready.patch) c.in-Ok.ensures.view in
    let next = subst (λ (v : View). IsNext c.self.inside.me (view_of c.self.inside.replica) c.args.call c.args.now reply v) (sym is) c.in-Ok.ensures.next in
    let nodes = c.in_default-carry_out.ensures.nodes ∙ ap (λ (v : View). length v.front) c.in-Ok.ensures.view in
    let more = c.push_reserved.ensures.items ∙ ap (λ (e : Entry). c.self.inside.trail.items ++ e ∷ []) c.in-Ok.ensures.entry in
    let count : length c.self.inside.trail.items ≡ length c.args.self.now.trail = ap (λ (b : BookState g.row.S.Denot). length b.trail) c.self.view_is in
    let few = has_room c.args.self.now c.args.pass.now c.args.call free in
    let room : length c.self.inside.trail.items < 1024 = omega (arith, count, few) in
    let before = subst (λ (v : View). Keeps g.S.Store c.self.inside.me c.self.inside.journal v) (sym c.in-Ok.ensures.view) c.self.invariant.0.stored in
    let keeps = c.carry_out.ensures.keeps c.self.inside.me before in
    let kept = with_entry g.S.Store old (view_of c.carry_out.new.replica) c.carry_out.new.journal c.push_reserved.new.self.items (entry c.args.call c.args.now reply) c.self.invariant.0 next nodes more room keeps in
    (kept, λ run. let wide = c.self.invariant.1 run in omega (arith, wide, c.push_reserved.ensures.capacity))

pub returns-clause-legal : goal.returns-clause-legal
returns-clause-legal g c =
    let old : BookState g.row.S.Denot = record { me = c.self.inside.me; records = view_of c.self.inside.replica; journal = c.self.inside.journal; opening = option_map (λ s. s.held) c.self.inside.opening; trail = c.self.inside.trail.items; stopped = c.self.inside.stopped } in
    let free : refusal_at_once c.args.self.now c.args.pass.now c.args.call ≡ None = search rules in
    let reply = c.in-Ok.ready.copy.reply in
    let is : view_of c.carry_out.new.replica ≡ with_patch c.in-Ok.ready.patch (view_of c.self.inside.replica) = c.in_default-carry_out.ensures.view ∙ ap (with_patch c.in-Ok.ready.patch) c.in-Ok.ensures.view in
    let next = subst (λ (v : View). IsNext c.self.inside.me (view_of c.self.inside.replica) c.args.call c.args.now reply v) (sym is) c.in-Ok.ensures.next in
    let nodes = c.in_default-carry_out.ensures.nodes ∙ ap (λ (v : View). length v.front) c.in-Ok.ensures.view in
    let more = c.push_reserved.ensures.items ∙ ap (λ (e : Entry). c.self.inside.trail.items ++ e ∷ []) c.in-Ok.ensures.entry in
    let count : length c.self.inside.trail.items ≡ length c.args.self.now.trail = ap (λ (b : BookState g.row.S.Denot). length b.trail) c.self.view_is in
    let few = has_room c.args.self.now c.args.pass.now c.args.call free in
    let room : length c.self.inside.trail.items < 1024 = omega (arith, count, few) in
    let before = subst (λ (v : View). Keeps g.S.Store c.self.inside.me c.self.inside.journal v) (sym c.in-Ok.ensures.view) c.self.invariant.0.stored in
    let keeps = c.carry_out.ensures.keeps c.self.inside.me before in
    let kept = with_entry g.S.Store old (view_of c.carry_out.new.replica) c.carry_out.new.journal c.push_reserved.new.self.items (entry c.args.call c.args.now reply) c.self.invariant.0 next nodes more room keeps in
    kept.legal

pub returns-in-Some-clause-rows : goal.returns-in-Some-clause-rows
returns-in-Some-clause-rows g c = subst (λ (b : BookState g.row.S.Denot). Keeps g.S.Store b.me b.journal b.records) c.self.view_is c.self.invariant.0.stored

pub returns-in-Err-carry_out-clause-rows : goal.returns-in-Err-carry_out-clause-rows
returns-in-Err-carry_out-clause-rows g c =
    let before = subst (λ (v : View). Keeps g.S.Store c.self.inside.me c.self.inside.journal v) (sym c.in-Ok.ensures.view) c.self.invariant.0.stored in
    c.carry_out.ensures.keeps c.self.inside.me before

pub returns-clause-rows : goal.returns-clause-rows
returns-clause-rows g c =
    let before = subst (λ (v : View). Keeps g.S.Store c.self.inside.me c.self.inside.journal v) (sym c.in-Ok.ensures.view) c.self.invariant.0.stored in
    c.carry_out.ensures.keeps c.self.inside.me before

pub returns-in-Some-clause-crash : goal.returns-in-Some-clause-crash
returns-in-Some-clause-crash g c = survives_same (state g.S.Store c.args.self.now.journal.connection) _

pub returns-in-Err-clause-crash : goal.returns-in-Err-clause-crash
returns-in-Err-clause-crash g c =
    let now = state g.S.Store c.self.inside.journal.connection in
    subst (λ (b : BookState g.row.S.Denot). Survives (state g.S.Store b.journal.connection) now (MayCommit g.S.Store c.args.self.now c.args.call c.args.now)) c.self.view_is (survives_same now _)

pub returns-in-Err-carry_out-clause-crash : goal.returns-in-Err-carry_out-clause-crash
returns-in-Err-carry_out-clause-crash g c =
    let old : BookState g.row.S.Denot = record { me = c.self.inside.me; records = view_of c.self.inside.replica; journal = c.self.inside.journal; opening = option_map (λ s. s.held) c.self.inside.opening; trail = c.self.inside.trail.items; stopped = c.self.inside.stopped } in
    let same = c.in-Ok.ensures.view in
    let first = state g.S.Store c.self.inside.journal.connection in
    let last = state g.S.Store c.carry_out.new.journal.connection in
    let crash : Survives first last (MayCommit g.S.Store old c.args.call c.args.now) = survives_more first last _ _
    (λ db more was stood. (
      c.in-Ok.ready.copy.reply,
      with_patch c.in-Ok.ready.patch (view_of c.self.inside.replica),
      c.in-Ok.ensures.next,
      subst (λ (v : View). Stands c.self.inside.me db (with_patch c.in-Ok.ready.patch v)) same (more was c.self.inside.me (subst (λ (v : View). Stands c.self.inside.me first.now.trees v) (sym same) stood)),
    ))
    c.carry_out.ensures.crash
    in
    subst (λ (b : BookState g.row.S.Denot). Survives (state g.S.Store b.journal.connection) last (MayCommit g.S.Store b c.args.call c.args.now)) c.self.view_is crash

pub returns-clause-crash : goal.returns-clause-crash
returns-clause-crash g c =
    let old : BookState g.row.S.Denot = record { me = c.self.inside.me; records = view_of c.self.inside.replica; journal = c.self.inside.journal; opening = option_map (λ s. s.held) c.self.inside.opening; trail = c.self.inside.trail.items; stopped = c.self.inside.stopped } in
    let same = c.in-Ok.ensures.view in
    let first = state g.S.Store c.self.inside.journal.connection in
    let last = state g.S.Store c.carry_out.new.journal.connection in
    let crash : Survives first last (MayCommit g.S.Store old c.args.call c.args.now) = survives_more first last _ _
    (λ db more was stood. (
      c.in-Ok.ready.copy.reply,
      with_patch c.in-Ok.ready.patch (view_of c.self.inside.replica),
      c.in-Ok.ensures.next,
      subst (λ (v : View). Stands c.self.inside.me db (with_patch c.in-Ok.ready.patch v)) same (more was c.self.inside.me (subst (λ (v : View). Stands c.self.inside.me first.now.trees v) (sym same) stood)),
    ))
    c.carry_out.ensures.crash
    in
    subst (λ (b : BookState g.row.S.Denot). Survives (state g.S.Store b.journal.connection) last (MayCommit g.S.Store b c.args.call c.args.now)) c.self.view_is crash

pub returns-in-Some-clause-lost : goal.returns-in-Some-clause-lost
returns-in-Some-clause-lost g c = at_once_lost c.args.self.now c.args.pass.now c.args.call c.in-Some.refusal (search rules)

pub returns-in-Some-clause-durable : goal.returns-in-Some-clause-durable
returns-in-Some-clause-durable g c =
    let keeps = subst (λ (b : BookState g.row.S.Denot). Keeps g.S.Store b.me b.journal b.records) c.self.view_is c.self.invariant.0.stored in
    leaves g.S.Store g.met.S.Store.settled c.args.self.now.me c.args.self.now.journal c.args.self.now.records keeps

pub returns-in-Err-clause-durable : goal.returns-in-Err-clause-durable
returns-in-Err-clause-durable g c =
    let before = subst (λ (v : View). Keeps g.S.Store c.self.inside.me c.self.inside.journal v) (sym c.make_ready.ensures.view) c.self.invariant.0.stored in
    leaves g.S.Store g.met.S.Store.settled c.self.inside.me c.self.inside.journal (view_of c.make_ready.new.replica) before

pub returns-in-Err-carry_out-clause-durable : goal.returns-in-Err-carry_out-clause-durable
returns-in-Err-carry_out-clause-durable g c =
    let before = subst (λ (v : View). Keeps g.S.Store c.self.inside.me c.self.inside.journal v) (sym c.in-Ok.ensures.view) c.self.invariant.0.stored in
    leaves g.S.Store g.met.S.Store.settled c.self.inside.me c.carry_out.new.journal (view_of c.carry_out.new.replica) (c.carry_out.ensures.keeps c.self.inside.me before)

pub returns-clause-durable : goal.returns-clause-durable
returns-clause-durable g c =
    let before = subst (λ (v : View). Keeps g.S.Store c.self.inside.me c.self.inside.journal v) (sym c.in-Ok.ensures.view) c.self.invariant.0.stored in
    leaves g.S.Store g.met.S.Store.settled c.self.inside.me c.carry_out.new.journal (view_of c.carry_out.new.replica) (c.carry_out.ensures.keeps c.self.inside.me before)

pub returns-clause-open : goal.returns-clause-open
returns-clause-open g c clean =
    let is : view_of c.carry_out.new.replica ≡ with_patch c.in-Ok.ready.patch (view_of c.self.inside.replica) = c.in_default-carry_out.ensures.view ∙ ap (with_patch c.in-Ok.ready.patch) c.in-Ok.ensures.view in
    let on = changed_by c.in-Ok.ready.patch (view_of c.self.inside.replica) (view_of c.carry_out.new.replica) is (c.in_default-carry_out.ensures.open clean) in
    subst (λ (b : BookState g.row.S.Denot). (view_of c.carry_out.new.replica ≡ b.records) ⊎ (IsTrue (state g.S.Store b.journal.connection).is_open × IsTrue (state g.S.Store c.carry_out.new.journal.connection).is_open)) c.self.view_is on
