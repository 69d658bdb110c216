use Rattle.std.proofs.Common.{◌∷◌, [], take}
use Rattle.wire_narayana.proofs.GivenLinks.{end_of_end, ends_at, given_at, parted_at}
use Rattle.wire_narayana.proofs.given_link.first_in.Goals as goal

pub returns-in_default : goal.returns-in_default
returns-in_default c =
    let text = c.args.text.now in
    let url = c.in_ok-url.url.now in
    let tail = c.in_ok-url.tail.now in
    let is = given_at text c.trim_start.result.now c.in_ok-behind.field-0.now url tail c.trim_start.ensures.value.0 c.trim_start.ensures.value.1 c.in_ok-behind.ensures.whole (parted_at c.in_ok-behind.field-0.now url tail c.in_ok-url.ensures.cases) in
    ((take c.trim_start.ensures.value.0 text, tail, is), ends_at text (take c.trim_start.ensures.value.0 text) url tail c.in_ok-parameters.rest.now c.comma_in-place.result is c.in_ok-parameters.ensures.back)

pub returns : goal.returns
returns c =
    let text = c.args.text.now in
    let url = c.in_ok-url.url.now in
    let tail = c.in_ok-url.tail.now in
    let is = given_at text c.trim_start.result.now c.in_ok-behind.field-0.now url tail c.trim_start.ensures.value.0 c.trim_start.ensures.value.1 c.in_ok-behind.ensures.whole (parted_at c.in_ok-behind.field-0.now url tail c.in_ok-url.ensures.cases) in
    ((take c.trim_start.ensures.value.0 text, tail, is), end_of_end text c.in_ok-parameters.rest.now c.in-Some.after.now (ends_at text (take c.trim_start.ensures.value.0 text) url tail c.in_ok-parameters.rest.now c.comma_in-place.result is c.in_ok-parameters.ensures.back) (44 ∷ [], c.in-Some.ensures.whole))
