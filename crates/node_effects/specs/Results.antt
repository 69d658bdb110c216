-- What the state of a node needs to know of a call at the desk, and of its reply.
use Rattle.std.specs.Prelude.{ℕ, Bool, false, if◌then◌else◌, true}
use Rattle.state_book.specs.declared.calls.Call.{Call}
use Rattle.state_book.specs.declared.calls.Call.TheVariants.{Pull}
use Rattle.state_book.specs.declared.calls.Reply.{Reply}
use Rattle.state_book.specs.declared.calls.Reply.TheVariants.{Gave}
use Rattle.node_agenda.specs.declared.effects.Effects.{Effects}
use Rattle.node_core.specs.declared.calls.AskedCall.{AskedCall}
use Rattle.node_core.specs.declared.calls.CallResult.{CallResult}
use Rattle.node_core.specs.declared.calls.ReplyKind.{ReplyKind}
use Rattle.node_core.specs.declared.calls.ReplyKind.TheVariants.{Other, Stored, Gave as GaveFront}
use Rattle.node_effects.specs.Noting.{enters, is_own, is_stored}

abbrev pub is_pull : Call → Bool
is_pull (Pull body) = true
is_pull _ = false

abbrev pub asked_call : Call → AskedCall
asked_call call = record { enters = enters call; pulls = is_pull call }

-- what a reply means for the nodes that pull: a frame was given, a fact of the node was stored, or
-- nothing
abbrev pub kind_of : Reply → ReplyKind
kind_of (Gave delta) = GaveFront delta.front
kind_of reply = if is_own reply then Stored else Other

abbrev pub result_of : Effects → (weight : ℕ) → (is_move : Bool) → Reply → CallResult
result_of effects weight is_move reply = record {
  kind = kind_of reply;
  effects = effects;
  weight = weight;
  is_move = is_move;
  is_stored = is_stored reply;
}
