-- Where a participant is called.
use Rattle.std.specs.Prelude.{◌==◌, Bool, ℕ, List}
use Rattle.std.specs.List.{after_first, before_first}
use Rattle.wire_callbacks.specs.declared.duty.Duty.{Duty}

abbrev pub is_slash : ℕ → Bool
is_slash c = c == 47

-- what stands behind the second slash of a link, up to the next slash
abbrev pub host_in : List ℕ → List ℕ
host_in link = before_first is_slash (after_first is_slash (after_first is_slash link))

-- the host at which a duty's participant is called, with its port
abbrev pub host_of : Duty → List ℕ
host_of duty = host_in duty.link
