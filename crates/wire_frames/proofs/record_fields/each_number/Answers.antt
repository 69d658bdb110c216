use Rattle.std.proofs.Common.{◌∙◌, ◌≡◌, ◌<◌, ◌+◌, ◌-◌, ◌++◌, ◌∷◌, [], ℕ, List, arith, sym, ap, subst, take, length, slice_set}
use Rattle.std.specs.Int.{w64}
use Rattle.std.proofs.lemmas.List.{length-set, take_more_set}
use Rattle.std.proofs.lemmas.Result.{err_from_is_err_and}
use Rattle.wire_frames.specs.FrameFields.{whole_at}
use Rattle.wire_frames.specs.Seen.{Seen}
use Rattle.wire_frames.proofs.Loop.{SoFar, goes_on, ends, is_done}
use Rattle.wire_frames.proofs.record_fields.each_number.Goals as goal

-- one more number is put behind those that were read
put_next : (count place from : ℕ) (old now : Seen) (numbers : List ℕ) (n : ℕ) → from ≡ place → place < length numbers
    → SoFar (λ (s : ℕ). whole_at w64) (λ (s x : ℕ). s) count 0 old (take place numbers ++ n ∷ []) (count - (place + 1)) 0 now
    → SoFar (λ (s : ℕ). whole_at w64) (λ (s x : ℕ). s) count 0 old (take (place + 1) (slice_set numbers from n)) (count - (place + 1)) 0 now
put_next count place from old now numbers n same within so_far =
    subst (λ (xs : List ℕ). SoFar (λ (s : ℕ). whole_at w64) (λ (s x : ℕ). s) count 0 old xs (count - (place + 1)) 0 now)
    (sym (ap (λ (i : ℕ). take (place + 1) (slice_set numbers i n)) same ∙ take_more_set numbers place n within)) so_far

pub returns-in_err-numbers : goal.returns-in_err-numbers
returns-in_err-numbers g c =
    let seen = g.I.Input.seen in
    let p = err_from_is_err_and c.from_residual.result c.from_residual.ensures.1 in
    rw (p.1, p.2) (record {
      took = tt;
      gives = ends (λ (s : ℕ). whole_at w64) (λ (s x : ℕ). s) c.args.count 0 (seen c.args.input.now) (take c.numbers.place c.numbers.numbers) c.numbers.place 0 (seen c.numbers.input) (seen c.number.new.input) c.in_err-numbers.field-0.0 c.numbers-test.true c.numbers.invariant.so_far c.in_err-numbers.ensures.gives;
    })

pub numbers-preserved : goal.numbers-preserved
numbers-preserved g c =
    let seen = g.I.Input.seen in
    record {
      all = length-set c.numbers.numbers c.from.result c.in_ok-numbers.field-0 ∙ c.numbers.invariant.all;
      took = omega (arith, c.numbers.invariant.took, c.in_ok-numbers.ensures.took);
      so_far = put_next c.args.count c.numbers.place c.from.result (seen c.args.input.now) (seen c.number.new.input) c.numbers.numbers c.in_ok-numbers.field-0 c.from.ensures
          (omega (arith, c.numbers-test.true, c.requires.few, c.numbers.invariant.all))
          (goes_on (λ (s : ℕ). whole_at w64) (λ (s x : ℕ). s) c.args.count 0 (seen c.args.input.now) (take c.numbers.place c.numbers.numbers) c.numbers.place 0 (seen c.numbers.input) (seen c.number.new.input) (λ x. x) c.in_ok-numbers.field-0 c.numbers-test.true c.numbers.invariant.so_far c.in_ok-numbers.ensures.gives);
    }

pub returns : goal.returns
returns g c =
    let seen = g.I.Input.seen in
    let last : c.numbers.place ≡ c.args.count = omega (arith, c.numbers-test.false, c.numbers.auto.place-end) in
    let is : c.from_counts.result ≡ take c.numbers.place c.numbers.numbers = c.from_counts.ensures ∙ ap (λ (i : ℕ). take i c.numbers.numbers) (c.from-2.ensures ∙ sym last) in
    record {
      took = omega (arith, c.numbers.invariant.took, last);
      gives = rw is (is_done (λ (s : ℕ). whole_at w64) (λ (s x : ℕ). s) c.args.count 0 (seen c.args.input.now) c.numbers.place 0 (seen c.numbers.input) (λ (x : List ℕ). x) (take c.numbers.place c.numbers.numbers) c.numbers-test.false c.numbers.invariant.so_far);
    }
