use Rattle.std.proofs.Common.{ℕ, ◌++◌, ◌∙◌, List, ap, append_assoc, refl, rules, subst, sym}
use Rattle.std.specs.List.{AllByRecursion, flat_map}
use Rattle.std.proofs.lemmas.List.Elements.{All-from_recursion}
use Rattle.state_forest.specs.declared.record.Record.{Record}
use Rattle.wire_frames.specs.Encoding.{record_text_as}
use Rattle.wire_frames.specs.Typed.{IsTypedRecord}
use Rattle.wire_frames.proofs.frame_encoding.put_each_record.Goals as goal

pub loop-kept-init : goal.loop-kept-init
loop-kept-init g c =
    let put = g.O.Output.text in
    let is = c.into_iter-kept-iterator.ensures.into_iter_gives in
    record {
      same = refl;
      text = ap (λ (rs : List Record). put c.args.out.now ++ flat_map (record_text_as c.args.version) rs) is;
      typed = λ left. All-from_recursion IsTypedRecord c.args.records (subst (AllByRecursion IsTypedRecord) is left);
    }

pub loop-kept-preserved : goal.loop-kept-preserved
loop-kept-preserved g c =
    let put = g.O.Output.text in
    let steps = c.in-Some.ensures.steps in
    let rest = c.next.new.self in
    record {
      same = search rules;
      text =
          ap (λ (t : List ℕ). t ++ flat_map (record_text_as c.args.version) rest) c.put_record.ensures.text
          ∙ append_assoc (put c.loop-kept.out) (record_text_as c.args.version c.in-Some.kept.now) (flat_map (record_text_as c.args.version) rest)
          ∙ ap (λ (rs : List Record). put c.loop-kept.out ++ flat_map (record_text_as c.args.version) rs) (sym steps)
          ∙ c.loop-kept.invariant.text;
      typed = λ left. c.loop-kept.invariant.typed (subst (AllByRecursion IsTypedRecord) (sym steps) (c.put_record.ensures.typed, left));
    }
