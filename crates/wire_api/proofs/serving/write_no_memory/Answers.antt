use Rattle.wire_api.proofs.Sent.{no_memory_written}
use Rattle.wire_api.proofs.serving.write_no_memory.Goals as goal

pub returns : goal.returns
returns g c =
    let wrote = c.write_response-written in
    no_memory_written g.W.Sink c.args.writer.now wrote.new.sink c.in-Ok.response wrote.result c.in-Ok.ensures
    wrote.ensures.ok wrote.ensures.part wrote.ensures.streams
