use Rattle.std.proofs.Common.{arith, inl, inr, subst, sym}
use Rattle.sqlite.specs.Held.{state}
use Rattle.sqlite.proofs.StateLemmas.{survives_then}
use Rattle.state_journal.specs.Listings.{AreFrontRows, AreLraRows}
use Rattle.state_journal.specs.Reads.{BreaksAt}
use Rattle.state_replica.specs.Replicas.{view_of}
use Rattle.state_journal.proofs.Opened.{broken_there, left_then, place_is, read_back, ruled_there}
use Rattle.state_journal.proofs.open.read_or_make.Goals as goal

pub returns-in-Err-select-clause-crash : goal.returns-in-Err-select-clause-crash
returns-in-Err-select-clause-crash g c = survives_then _ _ _ _ _ _ (λ _ db stands. stands) (λ _ db none. absurd none) c.make.ensures.crash c.select.ensures.survives

pub returns-in-Err-clause-unchanged : goal.returns-in-Err-clause-unchanged
returns-in-Err-clause-unchanged g c clean settled own still = elim own [
  | inl new ↦ c.in-Err.ensures.refused clean new still
  | inr journal ↦ c.in-Err.ensures.refused_again clean journal still
]

pub returns-in-Err-select-clause-unchanged : goal.returns-in-Err-select-clause-unchanged
returns-in-Err-select-clause-unchanged g c clean settled own still =
    let left = c.in-Ok.ensures.left (omega (arith, c.select.ensures.survives.clean, clean)) settled (c.select.ensures.still clean still) c.if-made.false in
    (left_then (state g.S.Store c.args.connection.now) (state g.S.Store c.make.new.connection) (state g.S.Store c.select.new.connection) settled left (λ same. c.select.ensures.same clean same still)).0

pub returns-in-Ok-read_rows-clause-same : goal.returns-in-Ok-read_rows-clause-same
returns-in-Ok-read_rows-clause-same g c clean journal still =
    let left = c.in-Ok.ensures.left (omega (arith, c.select.ensures.survives.clean, clean)) journal.settled (c.select.ensures.still clean still) c.if-made.false in
    left_then (state g.S.Store c.args.connection.now) (state g.S.Store c.make.new.connection) (state g.S.Store c.select.new.connection) journal.settled left (λ same. c.select.ensures.same clean same still)

pub returns-in-Ok-read_rows-clause-reads : goal.returns-in-Ok-read_rows-clause-reads
returns-in-Ok-read_rows-clause-reads g c clean journal =
    let old = state g.S.Store c.args.connection.now in
    let mid = state g.S.Store c.make.new.connection in
    let left = c.in-Ok.ensures.left (omega (arith, c.select.ensures.survives.clean, clean)) journal.settled (c.in-Ok-select.ensures.was_open clean) c.if-made.false in (
      read_back old mid c.args.me c.deref.result.now c.deref-2.result.now journal left.0
          (λ has. subst (AreFrontRows mid.now.trees) (sym c.deref.ensures.value) (c.in-Ok-select.ensures.front clean has))
          (λ has. subst (AreLraRows mid.now.trees) (sym c.deref-2.ensures.value) (c.in-Ok-select.ensures.lra clean has)) c.in-Ok-read_rows.read.0 (view_of c.in-Ok-read_rows.read.1) c.in-Ok-read_rows.ensures.right,
      tt,
    )

pub returns-in-Ok-read_rows-clause-ruled : goal.returns-in-Ok-read_rows-clause-ruled
returns-in-Ok-read_rows-clause-ruled g c clean journal =
    let old = state g.S.Store c.args.connection.now in
    let mid = state g.S.Store c.make.new.connection in
    let left = c.in-Ok.ensures.left (omega (arith, c.select.ensures.survives.clean, clean)) journal.settled (c.in-Ok-select.ensures.was_open clean) c.if-made.false in
    ruled_there old mid c.args.me c.deref.result.now c.deref-2.result.now journal left.0
    (λ has. subst (AreFrontRows mid.now.trees) (sym c.deref.ensures.value) (c.in-Ok-select.ensures.front clean has))
    (λ has. subst (AreLraRows mid.now.trees) (sym c.deref-2.ensures.value) (c.in-Ok-select.ensures.lra clean has)) c.in-Ok-read_rows.read.0 (view_of c.in-Ok-read_rows.read.1) c.in-Ok-read_rows.ensures.right
    (omega (arith, c.in-Ok-read_rows.ensures.counted, c.requires.few)) c.in-Ok-read_rows.ensures.shape

pub returns-clause-unchanged : goal.returns-clause-unchanged
returns-clause-unchanged g c clean settled own still =
    let left = c.in-Ok.ensures.left (omega (arith, c.select.ensures.survives.clean, clean)) settled (c.select.ensures.still clean still) c.if-made.false in
    (left_then (state g.S.Store c.args.connection.now) (state g.S.Store c.make.new.connection) (state g.S.Store c.select.new.connection) settled left (λ same. c.select.ensures.same clean same still)).0

pub returns-clause-place : goal.returns-clause-place
returns-clause-place g c clean journal k is =
    let old = state g.S.Store c.args.connection.now in
    let mid = state g.S.Store c.make.new.connection in
    let left = c.in-Ok.ensures.left (omega (arith, c.select.ensures.survives.clean, clean)) journal.settled (c.in-Ok-select.ensures.was_open clean) c.if-made.false in
    broken_there old mid c.args.me c.deref.result.now c.deref-2.result.now journal left.0
    (λ has. subst (AreFrontRows mid.now.trees) (sym c.deref.ensures.value) (c.in-Ok-select.ensures.front clean has))
    (λ has. subst (AreLraRows mid.now.trees) (sym c.deref-2.ensures.value) (c.in-Ok-select.ensures.lra clean has)) c.args.nodes k
    (place_is c.in-Err-read_rows.refusal k (BreaksAt c.args.me c.args.nodes c.deref.result.now c.deref-2.result.now) c.in-Err-read_rows.ensures.refused is)
