use Rattle.std.proofs.Common.{◌≡◌, ◌∙◌, Ok, Result, ap, sym}
use Rattle.state_ids.specs.declared.status.LraStatus.{LraStatus}
use Rattle.state_facts.specs.declared.refusal.Refusal.{Refusal}
use Rattle.state_facts.specs.declared.command.Command.TheVariants.{Decide}
use Rattle.theory_history.specs.Changes.{one_change}
use Rattle.theory_history.specs.Views.{View}
use Rattle.state_replica.specs.Prepared.{IsReadyNext}
use Rattle.state_replica.specs.Replicas.{view_of}
use Rattle.state_replica.proofs.PreparedReplies.{decide_next, decided_shows}
use Rattle.state_replica.proofs.replica.Replica.accept_decision.Goals as goal

pub unreachable-requires : goal.unreachable-requires
unreachable-requires c =
    let shown = decided_shows (view_of c.args.self.now) c.args.me c.args.id c.args.verdict c.in_ok-next.next c.shown_with-shown.result.0 c.in_ok-next.ensures.some (c.requires.accepted, c.in_ok-next.ensures.found) c.shown_with-shown.ensures.says in
    let wrong = sym c.in_default.is ∙ shown in
    absurd cc

pub returns-clause-next : goal.returns-clause-next
returns-clause-next c =
    let view = view_of c.args.self.now in
    let ready : IsReadyNext view c.args.me (Decide c.args.id c.args.verdict) c.args.id (Ok c.in_ok-next.next) = (c.requires.accepted, c.in_ok-next.ensures.found) in
    let shown = decided_shows view c.args.me c.args.id c.args.verdict c.in_ok-next.next c.shown_with-shown.result.0 c.in_ok-next.ensures.some ready c.shown_with-shown.ensures.says in
    decide_next view c.args.me c.args.id c.args.verdict c.in_ok-next.next c.in-Ok.status c.in_ok-patch.patch ready (ok_same (sym c.in-Ok.is ∙ shown))
    (c.in_ok-patch.ensures.patch ∙ ap (λ (v : View). one_change v c.args.me c.shown_with-shown.result.1) c.shown_with-shown.ensures.same ∙ ap (one_change view c.args.me) c.shown_with-shown.ensures.back)
  where
    ok_same : {a b : LraStatus} → ◌≡◌ {A = Result LraStatus Refusal} (Ok a) (Ok b) → a ≡ b
    ok_same e = cc
