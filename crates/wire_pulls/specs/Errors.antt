-- The texts of the errors of a pull.
use Rattle.std.specs.Prelude.{◌++◌, ℕ, List, codes}
use Rattle.std.specs.Fmt.{decimal}
use Rattle.wire_http.specs.Faults.{fault_name}
use Rattle.wire_pulls.specs.declared.error.PullError.{PullError}
use Rattle.wire_pulls.specs.declared.error.PullError.TheVariants.{Fault, BadFrame, Misdirected}

abbrev pub error_text : PullError → List ℕ
error_text (Fault fault) = fault_name fault
error_text (BadFrame place) = codes "E16 BadFrame " ++ decimal place
error_text Misdirected = codes "Misdirected"
