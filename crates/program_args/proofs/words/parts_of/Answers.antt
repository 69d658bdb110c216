use Rattle.program_args.proofs.Addresses.{no_address, parted}
use Rattle.program_args.proofs.words.parts_of.Goals as goal

pub returns-in_default : goal.returns-in_default
returns-in_default c = λ (host, port) says. no_address c.args.word.now c.in_default.ensures host port says

pub returns-in_default-host_of : goal.returns-in_default-host_of
returns-in_default-host_of c = λ (host, port) says. c.in_default-host_of.ensures host says.0 (parted c.args.word.now c.in-Some.before.now c.in-Some.behind.now c.in-Some.ensures.0 c.in-Some.ensures.1 host port says).0

pub returns-in_default-port_of : goal.returns-in_default-port_of
returns-in_default-port_of c = λ (host, port) says. c.in_default-port_of.ensures port says.1 says.2 (parted c.args.word.now c.in-Some.before.now c.in-Some.behind.now c.in-Some.ensures.0 c.in-Some.ensures.1 host port says).1
