use Rattle.std.proofs.Common.{◌∷◌, ap, arith, inl, inr, sym, subst, ◌∙◌, map, string_bytes}
use Rattle.program_args.specs.Arguments.{SaysNodes}
use Rattle.program_args.specs.Readings.{chosen, texts_in}
use Rattle.program_args.proofs.ChoiceWords.{one_choices}
use Rattle.program_args.proofs.NodeWords.{begins, first_is, none_left, parts_of}
use Rattle.program_args.proofs.member_args.reading_of.Goals as goal

pub returns-in_default-nodes_of-clause-are : goal.returns-in_default-nodes_of-clause-are
returns-in_default-nodes_of-clause-are c =
    inl (
      map string_bytes c.in-Some.rest.now,
      ap (map string_bytes) c.in-Some.ensures.cases.0 ∙ ap (λ word. word ∷ map string_bytes c.in-Some.rest.now) (sym c.as_str.ensures.value),
      λ first last are.
          let e = c.in_default-nodes_of.ensures.one first last are.0 are.1 are.2 (subst (λ word. SaysNodes word first last) (c.as_str.ensures.value ∙ sym c.as_bytes.ensures.value) are.3) in cc,
    )

pub returns-in_default-nodes_of-clause-one : goal.returns-in_default-nodes_of-clause-one
returns-in_default-nodes_of-clause-one c = λ first last choices folder addresses none asks.
    let same = first_is string_bytes c.args.words.now c.in-Some.rest.now c.in-Some.nodes.now c.in-Some.ensures.cases.0 asks.nodes (folder ∷ asks.behind) asks.are in
    let fits = asks.in_order in
    let e = c.in_default-nodes_of.ensures.one first last fits.0 fits.1 (omega arith) (subst (λ word. SaysNodes word first last) (sym (c.as_bytes.ensures.value ∙ same)) asks.say_nodes) in cc

pub returns-in_default-split_first-clause-are : goal.returns-in_default-split_first-clause-are
returns-in_default-split_first-clause-are c = inl (string_bytes c.in-Some.nodes.now, ap (map string_bytes) (c.in-Some.ensures.cases.0 ∙ ap (λ rest. c.in-Some.nodes.now ∷ rest) (none_left c.in-Some.rest.now c.in_default-split_first.ensures.cases)))

pub returns-in-Err-clause-are : goal.returns-in-Err-clause-are
returns-in-Err-clause-are c =
    let nodes = c.in-Some-nodes_of.ensures.are in
    inr (
      string_bytes c.in-Some.nodes.now,
      c.in-Some-nodes_of.first,
      c.in-Some-nodes_of.last,
      string_bytes c.in-Some-split_first.folder.now,
      texts_in c.given_by-given.result,
      map string_bytes c.given_by-given.result.addresses.now,
      (
        ap (map string_bytes) (c.in-Some.ensures.cases.0 ∙ ap (λ rest. c.in-Some.nodes.now ∷ rest) c.in-Some-split_first.ensures.cases.0)
            ∙ ap (λ rest. string_bytes c.in-Some.nodes.now ∷ string_bytes c.in-Some-split_first.folder.now ∷ rest) c.given_by-given.ensures.are,
        (nodes.0, nodes.1, nodes.2, subst (λ word. SaysNodes word c.in-Some-nodes_of.first c.in-Some-nodes_of.last) c.as_bytes.ensures.value nodes.3),
      ),
      inl c.in-Err.ensures,
    )

pub returns-clause-one : goal.returns-clause-one
returns-clause-one c = λ first last choices folder addresses none asks.
    let said = begins string_bytes c.args.words.now c.in-Some.rest.now c.in-Some-split_first.rest.now c.in-Some.nodes.now c.in-Some-split_first.folder.now c.in-Some.ensures.cases.0 c.in-Some-split_first.ensures.cases.0 first last choices folder addresses asks in
    let fits = asks.in_order in
    let nodes = parts_of c.in-Some-nodes_of.first c.in-Some-nodes_of.last first last (c.in-Some-nodes_of.ensures.one first last fits.0 fits.1 (omega arith) (subst (λ w. SaysNodes w first last) (sym c.as_bytes.ensures.value) said.0)) in
    let given = c.given_by-given.ensures.one said.1.0 addresses none said.1.2 in
    (nodes.0, nodes.1, one_choices (texts_in c.given_by-given.result) said.1.0 (chosen c.in-Ok.choices) choices given.0 c.in-Ok.ensures said.1.1, given.1)
