-- What is done to one part by itself is apart.
use Rattle.std.proofs.Common.{◌≡◌, ◌++◌, ◌∷◌, ◌∙◌, [], inl, inr, Bool, true, false, Option, None, ap, refl}
use Rattle.std.specs.Prelude.{MatchBool, Result, Err, Ok}
use Rattle.std.specs.declared.time.Duration.{Duration}
use Rattle.node_inbox.specs.Letters.{Said}
use Rattle.node_inbox.specs.declared.letter.Unheard.{Unheard}
use Rattle.node_schedule.specs.Calling.{IsTakenFrom}
use Rattle.node_schedule.specs.declared.plight.Plight.{Plight}
use Rattle.node_replication.specs.Followers.{standing_at, with_pace, with_wait}
use Rattle.node_agenda.specs.Hearing.{HearsOf, IsPutLast, is_harmless, lost}
use Rattle.node_agenda.specs.Mail.{Mail, after_news, hastened, to_count, with_asking, with_backlog, with_calls, with_end, with_hold, with_hurry, with_known, with_letters, with_since, with_sweeps, with_wanted}
use Rattle.node_agenda.specs.Since.{asked_now}
use Rattle.node_core.specs.Nodes.{with_followers}
use Rattle.node_core.specs.declared.node_state.NodeState.{NodeState}
use Rattle.theory_node.specs.Parts.{BeginsList, Counts, Ends, Hastens, HearsOfCall, Hurries, IsMailCall, IsPartCall, IsSwept, KeepsTelling, Logs, NotesLetter, OfMail, OfPeers, OfTally, Stops, PutsLetter, PutsTelling, Runs, Shuts, Spares, Stands, Stirs, TakesDue, Wants}
use Rattle.theory_node.specs.Steps.{IsApart}
use Rattle.theory_node.proofs.Passing.{MailSame, mail_moved}
use Rattle.theory_node.proofs.PullsPass.{put_same}

letter_last : (said : Said) (old new : Mail) → IsPutLast said old new → MailSame old new
letter_last said old new (inl is) = mail_moved old (with_letters (old.letters ++ said ∷ []) old) new is (refl, refl)
letter_last said old new (inr is) = mail_moved old (lost said old) new is (refl, refl)

due_taken : (has_ended : Bool) (A B : Type 0) (old new : Mail) → MatchBool has_ended (A × (new ≡ old)) (B × (new ≡ with_calls new.calls old)) → MailSame old new
due_taken true A B old new is = mail_moved old old new is.1 (refl, refl)
due_taken false A B old new is = mail_moved old (with_calls new.calls old) new is.1 (refl, refl)

heard_of : (time now : Duration) (came : Result Said Unheard) (old new : Mail) (plight : Option Plight) → HearsOf time now came old new plight → MailSame old new
heard_of time now (Ok said) old new plight is = letter_last said (with_calls is.calls old) new is.put
heard_of time now (Err unheard) old new plight is = mail_moved old (with_calls new.calls old) new is.rest (refl, refl)

mail_same : (old new : Mail) → IsMailCall old new → MailSame old new
mail_same old new (Stirs makes_none_due is) = mail_moved old (after_news makes_none_due old) new is (refl, refl)
mail_same old new (BeginsList now is) = mail_moved old (with_since asked_now (with_calls new.calls old)) new is.rest (refl, refl)
mail_same old new (Spares until is) = mail_moved old (with_hold until old) new is (refl, refl)
mail_same old new (Hurries is) = mail_moved old (with_hurry true old) new is (refl, refl)
mail_same old new (Hastens is) = mail_moved old (with_asking (hastened old.asking) old) new is (refl, refl)
mail_same old new (Wants wanted is) = mail_moved old (with_wanted wanted old) new is (refl, refl)
mail_same old new (Ends is) = mail_moved old (with_end old) new is (refl, refl)
mail_same old new (Counts is) = mail_moved old (with_known (to_count old.known) old) new is (refl, refl)
mail_same old new (PutsTelling told result is) = put_same told old new result is
mail_same old new (KeepsTelling now told is) = mail_moved old (with_backlog new.backlog old) new is.rest (refl, refl)
mail_same old new (IsSwept sweeps is) = mail_moved old (with_sweeps sweeps old) new is (refl, refl)
mail_same old new (PutsLetter said is) = letter_last said old new is
mail_same old new (NotesLetter said now is) =
    mail_moved old (after_news (is_harmless said.duty.kind said.duty.act) (with_calls new.calls (with_since new.since old))) new is.rest (refl, refl)
mail_same old new (TakesDue due is) = due_taken old.has_ended (due ≡ None) (IsTakenFrom old.calls new.calls due) old new is
mail_same old new (HearsOfCall time now came plight is) = heard_of time now came old new plight is

apart_as : (old next new : NodeState) → new ≡ next → IsApart old next → IsApart old new
apart_as old next new is apart = record {
  opening = ap (λ (n : NodeState). n.mail.opening) is ∙ apart.opening;
  known = ap (λ (n : NodeState). n.mail.known.front) is ∙ apart.known;
  doubted = ap (λ (n : NodeState). n.followers.is_doubted) is ∙ apart.doubted;
}

pub apart : (old new : NodeState) → IsPartCall old new → IsApart old new
apart old new (OfMail call is) =
    let same : MailSame old.mail new.mail = mail_same old.mail new.mail call in
    record { opening = same.0; known = same.1; doubted = ap (λ (n : NodeState). n.followers.is_doubted) is }
apart old new (Stands ticket since now is) =
    apart_as old (with_followers (standing_at ticket since now old.followers) old) new is (record { opening = refl; known = refl; doubted = refl })
apart old new (Runs pace is) = apart_as old (with_followers (with_pace pace old.followers) old) new is (record { opening = refl; known = refl; doubted = refl })
apart old new (Logs wait is) = apart_as old (with_followers (with_wait wait old.followers) old) new is (record { opening = refl; known = refl; doubted = refl })
apart old new (OfPeers peers is) = apart_as old (record old { peers = peers }) new is (record { opening = refl; known = refl; doubted = refl })
apart old new (OfTally tally is) = apart_as old (record old { tally = tally }) new is (record { opening = refl; known = refl; doubted = refl })
apart old new (Shuts is_shut is) = apart_as old (record old { is_shut = is_shut }) new is (record { opening = refl; known = refl; doubted = refl })
apart old new (Stops is) = apart_as old (record old { is_ending = true }) new is (record { opening = refl; known = refl; doubted = refl })
