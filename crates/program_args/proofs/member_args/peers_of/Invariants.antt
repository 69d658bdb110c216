use Rattle.std.proofs.Common.{map, take, string_bytes}
use Rattle.std.specs.List.{AllZip}
use Rattle.program_args.specs.Arguments.{SaysPeer, reached}
use Rattle.program_args.proofs.member_args.peers_of.Given as goal

abbrev pub invariant-loop-word : goal.invariant-loop-word
invariant-loop-word l = AllZip SaysPeer (map string_bytes (take l.word-index l.words)) (map reached l.peers.items)
