use Rattle.wire_pulls.proofs.Pulled.{answer_error, answer_found, answer_message, found_head, head_error}
use Rattle.wire_pulls.proofs.answer.read_answer.Goals as goal

pub returns-in-Ok-clause-message : goal.returns-in-Ok-clause-message
returns-in-Ok-clause-message g c =
    answer_message g.R.Source.stream g.R.Source.calls c.args.reader.now c.read_response_head.new.source c.delta_of.new.reader c.in-Ok.head.status c.in-Ok.head.size c.in-Ok.head.interrupted c.delta_of.result c.in-Ok.ensures.head c.in-Ok.ensures.bound c.in-Ok.ensures.streams c.in-Ok.ensures.counted c.delta_of.ensures.other c.delta_of.ensures.body

pub returns-in-Ok-clause-error : goal.returns-in-Ok-clause-error
returns-in-Ok-clause-error g c =
    answer_error g.R.Source.stream g.R.Source.calls c.args.reader.now c.read_response_head.new.source c.delta_of.new.reader c.in-Ok.head.status c.in-Ok.head.size c.in-Ok.head.interrupted c.delta_of.result c.in-Ok.ensures.head c.in-Ok.ensures.bound c.in-Ok.ensures.streams c.in-Ok.ensures.counted c.delta_of.ensures.other c.delta_of.ensures.body

pub returns-in-Ok-clause-found : goal.returns-in-Ok-clause-found
returns-in-Ok-clause-found g c =
    answer_found g.R.Source.stream g.R.Source.calls c.args.reader.now c.read_response_head.new.source c.delta_of.new.reader c.in-Ok.head.status c.in-Ok.head.size c.in-Ok.head.interrupted c.delta_of.result c.in-Ok.ensures.head c.in-Ok.ensures.bound c.in-Ok.ensures.streams c.in-Ok.ensures.counted c.delta_of.ensures.other c.delta_of.ensures.body

pub returns-in-Err-clause-error : goal.returns-in-Err-clause-error
returns-in-Err-clause-error g c = head_error _ _ _ _ c.in-Err.fault c.in-Err.ensures.fault c.in-Err.ensures.streams

pub returns-in-Err-clause-found : goal.returns-in-Err-clause-found
returns-in-Err-clause-found g c = found_head _ _ c.in-Err.fault c.in-Err.ensures.fault
