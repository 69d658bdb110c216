use Rattle.program_args.proofs.ChoiceWords.{behind_copies, behind_ended, behind_failed, behind_group, behind_listen, behind_names, behind_operate, behind_patience, behind_strict, not_anew, not_copies, not_ended, not_failed, not_group, not_listen, not_names, not_operate, not_patience, not_strict, one_texts}
use Rattle.program_args.proofs.member_texts.given_by.Goals as goal

pub returns-clause-one : goal.returns-clause-one
returns-clause-one c = λ texts addresses none e.
    let listen = c.text_of.ensures.one texts.listen (behind_listen texts addresses) (not_listen texts addresses none) e in
    let operate = c.text_of-2.ensures.one texts.operate (behind_operate texts addresses) (not_operate texts addresses none) listen.1 in
    let names = c.text_of-3.ensures.one texts.names (behind_names texts addresses) (not_names texts addresses none) operate.1 in
    let ended = c.text_of-4.ensures.one texts.ended (behind_ended texts addresses) (not_ended texts addresses none) names.1 in
    let failed = c.text_of-5.ensures.one texts.failed (behind_failed texts addresses) (not_failed texts addresses none) ended.1 in
    let group = c.text_of-6.ensures.one texts.group (behind_group texts addresses) (not_group texts addresses none) failed.1 in
    let copies = c.text_of-7.ensures.one texts.copies (behind_copies texts addresses) (not_copies texts addresses none) group.1 in
    let patience = c.text_of-8.ensures.one texts.patience (behind_patience texts addresses) (not_patience texts addresses none) copies.1 in
    let strict = c.flag_of-strict.ensures.one texts.strict (behind_strict texts addresses) (not_strict texts addresses none) patience.1 in
    let anew = c.flag_of-anew.ensures.one texts.anew addresses (not_anew addresses none) strict.1 in
    (one_texts texts listen.0 operate.0 names.0 ended.0 failed.0 group.0 copies.0 patience.0 strict.0 anew.0, anew.1)
