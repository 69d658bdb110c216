use Rattle.std.proofs.Common.{ℕ, ◌≡◌, ◌+◌, ◌∙◌, ◌||◌, ap, arith, subst, sym}
use Rattle.state_replica.specs.Replicas.{stamps_of, view_of}
use Rattle.wire_frames.specs.Telling.{AreTold, is_newer, is_newer_to}
use Rattle.wire_frames.proofs.ToldSince.{newer_next}
use Rattle.wire_frames.proofs.ToldToo.{both_asked}
use Rattle.wire_frames.proofs.since.tell_all.Goals as goal

pub loop-place-preserved : goal.loop-place-preserved
loop-place-preserved c =
    let base = c.args.base.now in
    let known = stamps_of (view_of c.args.replica.now) in
    let node : c.in-Ok.origin ≡ c.loop-place.place + 1 = c.in-Ok.ensures.value in
    both_asked (λ l. is_newer_to c.loop-place.place base (known l)) (λ l. is_newer base (known l) c.in-Ok.origin) (λ l. is_newer_to (c.loop-place.place + 1) base (known l))
    c.args.replica.now.homes c.args.told.now.items c.loop-place.told.items c.tell_beyond.new.told.items
    (λ l. newer_next c.loop-place.place base (known l) ∙ ap (λ n. is_newer_to c.loop-place.place base (known l) || is_newer base (known l) n) (sym node))
    c.loop-place.invariant c.in_ok-tell_beyond.ensures

pub returns : goal.returns
returns c =
    let known = stamps_of (view_of c.args.replica.now) in
    let all : c.loop-place.place ≡ 8 = omega (arith, c.loop-place-test.false, c.loop-place.auto.place-end) in
    subst (λ (n : ℕ). AreTold (λ l. is_newer_to n c.args.base.now (known l)) c.args.replica.now.homes c.args.told.now.items c.loop-place.told.items) all c.loop-place.invariant
