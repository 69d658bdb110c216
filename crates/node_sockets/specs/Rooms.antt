-- The room that answers take which wait to be sent.
use Rattle.std.specs.Prelude.{◌+◌, ◌-◌, ◌^◌, ℕ, Bool, if◌then◌else◌, min, nat_lt, not}
use Rattle.node_sockets.specs.declared.room.AnswerRoom.{AnswerRoom}
use Rattle.node_sockets.specs.declared.room.Share.{Share}

-- the most bytes of a short answer: a body of 65,536, and a head of 16,384
abbrev pub short_most : ℕ
short_most = 81_920

-- the most bytes of all short answers that wait, and of all long ones
abbrev pub room_most : ℕ
room_most = 67_108_864

abbrev pub is_long : (size : ℕ) → Bool
is_long size = nat_lt short_most size

-- the share of an answer of this size, of which this many bytes wait
abbrev pub share_of : (size kept : ℕ) → Share
share_of size kept = record { bytes = kept; is_long = is_long size }

-- more bytes, as far as 64 bits go
abbrev pub more : ℕ → ℕ → ℕ
more bytes room = min (room + bytes) (2 ^ 64 - 1)

-- the bytes of one more answer count only beside those of its kind
abbrev pub with_share : Share → AnswerRoom → AnswerRoom
with_share share room = record {
  short = if share.is_long then room.short else more share.bytes room.short;
  long = if share.is_long then more share.bytes room.long else room.long;
}

-- the bytes of an answer that is gone no longer count
abbrev pub without_share : Share → AnswerRoom → AnswerRoom
without_share share room = record {
  short = if share.is_long then room.short else room.short - share.bytes;
  long = if share.is_long then room.long - share.bytes else room.long;
}

-- whether one more may wait beside those of its kind, whatever waits of the other kind
abbrev pub has_room : Share → AnswerRoom → Bool
has_room share room = not (nat_lt room_most (more share.bytes (if share.is_long then room.long else room.short)))
