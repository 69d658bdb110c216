use Rattle.std.proofs.Common.{◌≡◌, ◌∙◌, ◌++◌, ◌∷◌, ℕ, List, [], OnOk, ap, codes, length, subst}
use Rattle.std.specs.Fmt.{decimal}
use Rattle.wire_callbacks.specs.declared.request.RequestField.TheVariants.{ContentType, ContentLength}
use Rattle.wire_callbacks.specs.CallRequests.{body_of, field}
use Rattle.wire_callbacks.proofs.WholeCalls.{both_added}
use Rattle.wire_callbacks.proofs.request.add_body.Goals as goal

pub returns : goal.returns
returns c =
    both_added c.add_field-2.result c.args.fields.now.items c.add_field.new.fields.items c.add_field-2.new.fields.items
    (field ContentType (codes "text/plain")) (field ContentLength (decimal (length (body_of c.args.shows))))
    (c.in_ok-add_field.ensures ∙ ap (λ (value : List ℕ). c.args.fields.now.items ++ (field ContentType value ∷ [])) c.in_ok-plain.ensures)
    (subst (λ (value : List ℕ). OnOk c.add_field-2.result (c.add_field-2.new.fields.items ≡ c.add_field.new.fields.items ++ (field ContentLength value ∷ []))) c.in_ok-length.ensures c.add_field-2.ensures)
