use Rattle.std.proofs.Common.{ap, subst, arith}
use Rattle.std.specs.Prelude.{option_copied}
use Rattle.program_args.specs.Arguments.{IsListen}
use Rattle.program_args.proofs.ChoiceWords.{no_port}
use Rattle.program_args.proofs.choices.address_of.Goals as goal

pub returns-then-port-eq0 : goal.returns-then-port-eq0
returns-then-port-eq0 c = (
  ap option_copied c.in-Some.is,
  λ address is.
      no_port c.in-Some.text.now c.in-Ok.address address c.in-Ok.ensures.value (λ low. omega (arith, low, c.port.ensures, c.if-port-eq0.true))
      (subst (λ t. IsListen (option_copied t) address) c.in-Some.is is),
)
