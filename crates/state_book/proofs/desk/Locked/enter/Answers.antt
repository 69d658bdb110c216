use Rattle.std.proofs.Common.{subst}
use Rattle.state_journal.proofs.Stored.{leaves}
use Rattle.state_journal.specs.Keeping.{Keeps}
use Rattle.state_book.specs.Books.{BookState}
use Rattle.state_book.proofs.Stands.{has_trail}
use Rattle.state_book.proofs.desk.Locked.enter.Goals as goal

pub returns-clause-trail : goal.returns-clause-trail
returns-clause-trail g c =
    has_trail g.J.Run.opening c.self.inside.book c.call-2.new.self c.args.pass.now c.args.receipts.now c.args.call c.args.now c.in-Ok.receipt c.self.invariant.0 c.self.invariant.1
    c.in_default.ensures.ok c.in-Ok.ensures.entered c.in-Ok.ensures.legal

pub returns-in-Err-clause-lost : goal.returns-in-Err-clause-lost
returns-in-Err-clause-lost g c are = c.in-Err.ensures.lost are

pub returns-in-Err-clause-durable : goal.returns-in-Err-clause-durable
returns-in-Err-clause-durable g c =
    let keeps = subst (λ (b : BookState g.row.S.Denot). Keeps g.S.Store b.me b.journal b.records) c.self.view_is c.look.ensures.rows in
    leaves g.S.Store g.met.S.Store.settled c.args.self.now.me c.args.self.now.journal c.args.self.now.records keeps

pub returns-in-Err-call-clause-lost : goal.returns-in-Err-call-clause-lost
returns-in-Err-call-clause-lost g c are = c.in-Err-call.ensures.lost
