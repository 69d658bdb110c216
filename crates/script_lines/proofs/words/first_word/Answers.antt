use Rattle.std.proofs.Common.{◌≡◌, ◌+◌, ◌-◌, ◌∷◌, List, ℕ, suc, length, take, drop, ap, ◌∙◌, sym, arith, length-drop, add-one}
use Rattle.std.proofs.lemmas.List.{take_all}
use Rattle.script_lines.specs.LineParts.{words_of}
use Rattle.script_lines.proofs.Splits.{parts_at, parts_none}
use Rattle.script_lines.proofs.words.first_word.Goals as goal

-- what is read from a place on
rest_is : (text : List ℕ) (i : ℕ) → take (length text - (i + 1)) (drop (i + 1) text) ≡ drop (suc i) text
rest_is text i = take_all _ (drop (i + 1) text) (omega (arith, length-drop (i + 1) text)) ∙ ap (λ (n : ℕ). drop n text) (add-one i)

pub returns-then-text-place-eq32 : goal.returns-then-text-place-eq32
returns-then-text-place-eq32 c =
    let text = c.args.text.now in
    let i = c.loop-place.place in
    parts_at 32 text i c.loop-place-test.true c.loop-place.invariant c.if-text-place-eq32.true
    ∙ ap (λ (l : List ℕ). take i text ∷ words_of l) (sym (rest_is text i))

pub returns : goal.returns
returns c = parts_none 32 c.args.text.now (λ k h. c.loop-place.invariant k (omega arith))
