-- A list of bytes, defined by its last byte and what was before it.
use Rattle.std.specs.Prelude.{ℕ, List, [], ◌∷◌, ◌++◌, Option, None, Some}
use Rattle.std.specs.declared.snapshot.Snapshot.{Snapshot}

abbrev pub one_byte_more : Option (Snapshot (List ℕ)) → ℕ → List ℕ
one_byte_more None last = []
one_byte_more (Some before) last = before.value ++ last ∷ []
