-- A node that is in doubt: another has facts of it that it never gave.
use Rattle.std.specs.Prelude.{◌≡◌, ◌≤◌, false}
use Rattle.state_ids.specs.Fronts.{count}
use Rattle.state_ids.specs.declared.TheConstants.{LAST_NUMBER}
use Rattle.node_agenda.specs.declared.start_state.StartState.{StartState}

-- commands are barred: they aren't accepted, and a start waits for all facts that there can be
abbrev pub IsBarred : StartState → Type 0
IsBarred o = (o.is_open ≡ false) × (LAST_NUMBER ≤ count o.awaited o.me)
