use Rattle.std.proofs.Common.{◌≡◌, ◌++◌, IsTrue, arith, codes, string_bytes, rules, sym, ◌∙◌}
use Rattle.wire_narayana.specs.Kinds.{letter_of, query_text}
use Rattle.wire_narayana.specs.Carrying.{spelled}
use Rattle.wire_narayana.specs.Seals.{seal}
use Rattle.wire_narayana.proofs.Targets.{length-seal, one_link}
use Rattle.wire_narayana.proofs.carried.open.Goals as goal

pub returns-in_default-clause-opens : goal.returns-in_default-clause-opens
returns-in_default-clause-opens c = λ kind link it.
    c.in_default.ensures (letter_of kind it.form) (seal c.args.key.now.bytes kind c.args.id link) it.rest (length-seal c.args.key.now.bytes kind c.args.id link) it.says

pub returns-then-not-is_same-clause-opens : goal.returns-then-not-is_same-clause-opens
returns-then-not-is_same-clause-opens c = λ kind link it.
    let written : string_bytes c.in_ok-link.link ≡ codes "http://" ++ (spelled c.args.shorts.now c.in-Some.rest.now ++ query_text c.in-Some-from_letter.kind c.in-Some-from_letter.form) = search rules in
    let one = one_link c.args.key.now.bytes c.args.shorts.now c.args.id c.args.target.now c.in-Some.letter c.in-Some.seal.now c.in-Some.rest.now c.in-Some-from_letter.kind c.in-Some-from_letter.form (string_bytes c.in_ok-link.link) c.in-Some.ensures.0 c.in-Some.ensures.1 c.in-Some-from_letter.ensures written kind link it in
    let wanted : c.as_bytes.result.now ≡ seal c.args.key.now.bytes c.in-Some-from_letter.kind c.args.id (string_bytes c.in_ok-link.link) = search rules in
    let held : IsTrue c.is_same.result = c.is_same.ensures.1 (one.2 ∙ sym wanted) in
    grind arith

pub returns-clause-opens : goal.returns-clause-opens
returns-clause-opens c = λ kind link it.
    let written : string_bytes c.in_ok-link.link ≡ codes "http://" ++ (spelled c.args.shorts.now c.in-Some.rest.now ++ query_text c.in-Some-from_letter.kind c.in-Some-from_letter.form) = search rules in
    let one = one_link c.args.key.now.bytes c.args.shorts.now c.args.id c.args.target.now c.in-Some.letter c.in-Some.seal.now c.in-Some.rest.now c.in-Some-from_letter.kind c.in-Some-from_letter.form (string_bytes c.in_ok-link.link) c.in-Some.ensures.0 c.in-Some.ensures.1 c.in-Some-from_letter.ensures written kind link it in
    (one.0, one.1)
