use Rattle.std.proofs.Common.{◌≡◌, ℕ, ◌-◌, ◌<◌, ◌^◌, List, take, drop, length, arith, ◌∙◌, length-drop}
use Rattle.std.proofs.lemmas.List.{take_all}
use Rattle.script_lines.proofs.DecimalNumbers.{id_parted, one_number}
use Rattle.script_lines.proofs.words.id_of.Goals as goal
use Rattle.script_lines.proofs.words.id_of.Goals.{then-word-lt2-via-then-word-lt2, then-word-lt2-via-else-word-lt2+then-word-ne46, in_default-via-in-Some+in_default, in_default-via-in_default}

-- what is read behind the point
rest_is : (text : List ℕ) → take (length text - 2) (drop 2 text) ≡ drop 2 text
rest_is text = take_all _ (drop 2 text) (omega (arith, length-drop 2 text))

pub returns-then-word-lt2 : goal.returns-then-word-lt2
returns-then-word-lt2 c = λ id valid e.
    let shape = id_parted c.args.word.now id valid e in
    elim c.then-word-lt2.branch [
      | then-word-lt2-via-then-word-lt2 w ↦ absurd (omega (arith, shape.long))
      | then-word-lt2-via-else-word-lt2+then-word-ne46 w ↦ w.if-word-ne46.true shape.point
    ]

pub returns-in_default : goal.returns-in_default
returns-in_default c = λ id valid e.
    let shape = id_parted c.args.word.now id valid e in
    let small : id.num < 2 ^ 64 = omega (arith, valid.num.1) in
    elim c.in_default.branch [
      | in_default-via-in-Some+in_default w ↦ w.in_default.ensures' id.num small (rest_is c.args.word.now ∙ shape.num)
      | in_default-via-in_default w ↦ (rw w.in_default.is-0 at c.node_of.ensures) id.home valid.home shape.home
    ]

pub returns-in-Err : goal.returns-in-Err
returns-in-Err c = λ id valid e.
    let shape = id_parted c.args.word.now id valid e in
    let num = rest_is c.args.word.now ∙ shape.num in
    let known : c.in-Some-Some.num < 2 ^ 64 = omega arith in
    let small : id.num < 2 ^ 64 = omega (arith, valid.num.1) in
    let same = one_number _ c.in-Some-Some.num id.num known small c.in-Some-Some.ensures' num in
    c.in-Err.ensures.exact (omega (arith, same, valid.num.0), omega (arith, same, valid.num.1))
