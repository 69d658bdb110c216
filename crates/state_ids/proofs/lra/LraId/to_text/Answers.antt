use Rattle.std.proofs.Common.{◌∙◌, sym, ap, length}
use Rattle.uuid.proofs.TextLemmas.{by_index_length}
use Rattle.uuid.specs.Text.{hyphenated_text, lower}
use Rattle.state_ids.proofs.lra.LraId.to_text.Goals as goal

pub copy_from_slice-requires : goal.copy_from_slice-requires
copy_from_slice-requires c = sym (ap length c.as_bytes.ensures.value ∙ ap length c.encode_lower-text.ensures.text ∙ by_index_length 36 _)

pub returns-clause-text : goal.returns-clause-text
returns-clause-text c =
    c.copy_from_slice.ensures.after ∙ c.as_bytes.ensures.value ∙ c.encode_lower-text.ensures.text
    ∙ ap (hyphenated_text lower) (c.hyphenated.ensures ∙ c.from_bytes-uuid.ensures ∙ c.to_bytes.ensures.bytes)
