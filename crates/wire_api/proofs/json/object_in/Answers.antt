use Rattle.std.proofs.Common.{sym, true≢false}
use Rattle.wire_api.proofs.Bodies.{no_json, no_text, object_is, object_none}
use Rattle.wire_api.proofs.json.object_in.Goals as goal

pub returns-in_default : goal.returns-in_default
returns-in_default c = no_text c.args.body.now c.in_default.ensures.cases.0

pub returns-then-not-is_object : goal.returns-then-not-is_object
returns-then-not-is_object c =
    let text = c.in-Ok.ensures.cases in
    object_none c.args.body.now _ text.1 (rw text.0 at c.in-Ok-from_str.ensures.ok) (sym c.if-not-is_object.ensures)

pub returns-else-not-is_object : goal.returns-else-not-is_object
returns-else-not-is_object c =
    let text = c.in-Ok.ensures.cases in
    object_is c.args.body.now _ text.1 (rw text.0 at c.in-Ok-from_str.ensures.ok) (sym c.if-not-is_object.ensures)

pub returns-else-is_memory : goal.returns-else-is_memory
returns-else-is_memory c =
    let text = c.in-Ok.ensures.cases in
    no_json c.args.body.now text.1 (rw text.0 at (c.in-Err.ensures.err (λ m. true≢false (sym (c.if-is_memory.ensures.1 m)))))
