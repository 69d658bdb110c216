-- The calls of a file, given the last one and those before it.
use Rattle.std.specs.Prelude.{List, [], ◌∷◌, Option, None, Some}
use Rattle.std.specs.declared.snapshot.Snapshot.{Snapshot}
use Rattle.sqlite_disk.specs.Events.{Event, settled, measured, read, read_under, written, cut, flushed}
use Rattle.sim_env.specs.declared.file_calls.FileCall.{FileCall}
use Rattle.sim_env.specs.declared.file_calls.FileCall.TheVariants.{Settle, Measure, Fetch, Test, Store, Resize, Flush}

abbrev pub event_of : FileCall → Event
event_of (Settle key) = settled key
event_of (Measure ok len) = measured ok len
event_of (Fetch at room ok bytes) = read at room ok bytes
event_of (Test key want at room ok bytes) = read_under key want at room ok bytes
event_of (Store at bytes ok count) = written at bytes ok count
event_of (Resize len ok count) = cut len ok count
event_of (Flush ok count) = flushed ok count

-- The newest first.
abbrev pub one_call_more : Option (Snapshot (List Event)) → FileCall → List Event
one_call_more None last = []
one_call_more (Some before) last = event_of last ∷ before.value
