-- Responses whose body is a list of bytes: every response that was read is one.
use Rattle.std.specs.Prelude.{ℕ, List}
use Rattle.wire_http.specs.declared.message.Response.{Response as WithBody}

abbrev pub Response : Type 0
Response = WithBody (List ℕ)
