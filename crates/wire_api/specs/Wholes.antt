-- Answers that a client reads as whole responses.
use Rattle.std.specs.Prelude.{◌≡◌, ◌<◌, ◌^◌, ◌++◌, ⊤, ℕ, List, map}
use Rattle.httparse.specs.Grammar.{ResponseHead, status_code}
use Rattle.httparse.specs.Spans.{name_and_value}
use Rattle.state_facts.specs.declared.command.CommandReply.{CommandReply}
use Rattle.state_facts.specs.declared.command.CommandReply.TheVariants as command
use Rattle.wire_http.specs.ByteResponses.{Response}
use Rattle.wire_http.specs.HeadFields.{field_bytes}
use Rattle.wire_http.specs.MessageTexts.{response_text}
use Rattle.wire_http.specs.Responses.{IsResponse, head_room}
use Rattle.state_book.specs.declared.calls.Reply.{Reply}
use Rattle.state_book.specs.declared.calls.Reply.TheVariants as reply

-- the member number that was given, if any, is a number of 64 bits
abbrev pub IsNumberedCommand : CommandReply → Type 0
IsNumberedCommand (command.Joined id m) = m < 2 ^ 64
IsNumberedCommand _ = ⊤

abbrev pub IsNumbered : Reply → Type 0
IsNumbered (reply.Command r) = IsNumberedCommand r
IsNumbered _ = ⊤

-- The text of a response begins with one whole response, for a reader with this limit on bodies: it
-- has the same status, fields and body, and what follows the text is left
abbrev pub IsWhole : (limit : ℕ) → Response → (rest : List ℕ) → Type 0
IsWhole limit r rest =
    (h : ResponseHead) × IsResponse head_room limit (response_text r ++ rest) h r.body rest
    × (status_code h ≡ r.status) × (map name_and_value h.fields ≡ map field_bytes r.fields)
