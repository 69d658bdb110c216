use Rattle.std.proofs.Common.{◌≡◌, ◌++◌, ◌∷◌, [], Result, Ok, Err, List, subst}
use Rattle.std.specs.Prelude.{IfOk, IsErr, IsOk, OnErr, OnOk}
use Rattle.std.specs.declared.alloc.AllocError.{AllocError}
use Rattle.script_world.specs.declared.event.Event.{Event}
use Rattle.script_world.specs.declared.event.EventReply.{EventReply}
use Rattle.script_world.specs.Machines.{Happens, IsWorldOf, Machine}
use Rattle.script_world.specs.Worlds.{State}
use Rattle.script_world.proofs.world.World.step_on.Goals as goal

-- the reply that was kept is that of what happened
ok_kept : {X : Type 0} (s : State) (event : Event) (m : Machine) (old new : List EventReply) (kept : Result X AllocError) (reply : Result EventReply AllocError)
    → IfOk reply (λ one. IsOk kept × (new ≡ old ++ one ∷ [])) → OnErr reply (IsErr kept × (new ≡ old)) → IfOk reply (λ one. Happens s event one m)
    → OnOk kept ((one : EventReply) × Happens s event one m × (new ≡ old ++ one ∷ []))
ok_kept s event m old new (Ok x) (Ok one) added lost happens = (one, happens, added.1)
ok_kept s event m old new (Ok x) (Err e) added (was, same) happens = absurd cc
ok_kept s event m old new (Err e) reply added lost happens = tt

-- and if nothing was kept, nothing happened
err_kept : {X : Type 0} (s : State) (m : Machine) (old new : List EventReply) (kept : Result X AllocError) (reply : Result EventReply AllocError)
    → IfOk reply (λ one. IsOk kept × (new ≡ old ++ one ∷ [])) → OnErr reply (IsErr kept × (new ≡ old)) → OnErr reply (IsWorldOf s m) → OnErr kept (IsWorldOf s m × (new ≡ old))
err_kept s m old new (Ok x) reply added lost still = tt
err_kept s m old new (Err e) (Ok one) (was, more) lost still = absurd cc
err_kept s m old new (Err e) (Err f) added lost still = (still, lost.1)

pub returns-clause-ok : goal.returns-clause-ok
returns-clause-ok c s w =
    let is : c.in_ok-event.event ≡ c.args.event.now = c.in_ok-event.ensures.cases in
    let room : c.reserve.new.self.items ≡ c.args.replies.now.items = c.reserve.ensures.items in
    subst (λ (e : Event). OnOk c.keep.result ((one : EventReply) × Happens s e one c.step.new.self × (c.keep.new.items.items ≡ c.args.replies.now.items ++ one ∷ []))) is
    (subst (λ (old : List EventReply). OnOk c.keep.result ((one : EventReply) × Happens s c.in_ok-event.event one c.step.new.self × (c.keep.new.items.items ≡ old ++ one ∷ []))) room
    (ok_kept s c.in_ok-event.event c.step.new.self c.reserve.new.self.items c.keep.new.items.items c.keep.result c.step.result c.keep.ensures.ok c.keep.ensures.err (c.step.ensures.step s w)))

pub returns-clause-err : goal.returns-clause-err
returns-clause-err c s w =
    let room : c.reserve.new.self.items ≡ c.args.replies.now.items = c.reserve.ensures.items in
    subst (λ (old : List EventReply). OnErr c.keep.result (IsWorldOf s c.step.new.self × (c.keep.new.items.items ≡ old))) room
    (err_kept s c.step.new.self c.reserve.new.self.items c.keep.new.items.items c.keep.result c.step.result c.keep.ensures.ok c.keep.ensures.err (c.step.ensures.err s w))
