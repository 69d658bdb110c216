-- the table of a frame's fields in order, each with its width and its rule
use Rattle.std.specs.Prelude.{◌+◌, ◌-◌, ◌==◌, ℕ, zero, suc, List, [], ◌∷◌, Bool, Option, Some, None, Result, Ok, Err, false, true, is_none, is_some, length, nat_lt, slice_index, if◌then◌else◌, min}
use Rattle.std.specs.Int.{w8, w16, w32, w64}
use Rattle.state_ids.specs.declared.outcome.Verdict.{Verdict}
use Rattle.state_ids.specs.declared.outcome.Verdict.TheVariants.{Close, Cancel}
use Rattle.state_ids.specs.declared.outcome.Outcome.{Outcome}
use Rattle.state_ids.specs.declared.outcome.Outcome.TheVariants.{Busy, Done, Failed}
use Rattle.wire_frames.specs.declared.input.Stop.{Stop}
use Rattle.state_forest.specs.declared.record.Place.{Place}
use Rattle.state_forest.specs.declared.record.Participant.{Participant as ParticipantRecord}
use Rattle.state_forest.specs.declared.record.Member.{Member}
use Rattle.state_forest.specs.declared.record.Member.TheVariants.{Nested, Participant, Left}
use Rattle.state_forest.specs.declared.record.Record.{Record}
use Rattle.state_facts.specs.Links.{Links}
use Rattle.wire_frames.specs.Frames.{Frame}
use Rattle.wire_frames.specs.declared.version.Version.{Version}
use Rattle.wire_frames.specs.declared.version.Version.TheVariants.{One, Two}
use Rattle.wire_frames.specs.declared.marks.Marks.{Marks}
use Rattle.wire_frames.specs.declared.order.Last.{Last}
use Rattle.wire_frames.specs.FrameFields.{Rest, Read, Halt, Broken, ◌>>=◌, value_of, told_of, whole_at, number_at, cells_at, vector_at, each_at}
use Rattle.wire_frames.specs.Encoding.{magic}
use Rattle.wire_frames.specs.Versions.{is_version, version_of}
use Rattle.wire_frames.specs.Rules.{is_mark, is_above, is_slot, is_decision, is_outcome_for, is_mark_for, is_kept_or_none, is_length_for, needs_compensate, is_nested, next_nested, is_member_count, is_node_count, are_counts, at_most, is_front, is_live_mark, is_live_count, is_live_number, Context, is_home, is_number, are_stamps, start, after, is_record_count, is_frame_length, by_home}

unfoldable pub place_at : ℕ → Rest → Read Place
place_at num r = do
  above ← number_at w64 (is_above num) r
  slot ← number_at w8 is_slot above.1
  Ok (record { number = above.0; slot = slot.0 }, slot.1)

unfoldable pub parent_by : ℕ → ℕ → Rest → Read (Option Place)
parent_by num zero r = Ok (None, r)
parent_by num (suc _) r = do
  p ← place_at num r
  Ok (Some p.0, p.1)

unfoldable pub parent_at : ℕ → Rest → Read (Option Place)
parent_at num r = do
  mark ← number_at w8 is_mark r
  parent_by num mark.0 mark.1

abbrev pub decision_of : ℕ → Option Verdict
decision_of zero = None
decision_of (suc zero) = Some Close
decision_of (suc (suc n)) = Some Cancel

unfoldable pub decision_at : Rest → Read (Option Verdict)
decision_at r = do
  mark ← number_at w8 is_decision r
  Ok (decision_of mark.0, mark.1)

abbrev pub outcome_of : ℕ → Option Outcome
outcome_of zero = None
outcome_of (suc zero) = Some Busy
outcome_of (suc (suc zero)) = Some Done
outcome_of (suc (suc (suc n))) = Some Failed

-- a text is one field: its fault is at its first byte, and its length alone tells whether it is too
-- long or too short
unfoldable pub text_at : (ℕ → Bool) → (List ℕ → Bool) → Rest → Read (List ℕ)
text_at fits rule r = do
  len ← number_at w8 fits r
  text ← cells_at r.place len.0 len.1
  if rule text.0 then Ok text else Err (Broken r.place text.1.place)

abbrev pub link_of : List ℕ → Option (List ℕ)
link_of [] = None
link_of (c ∷ text) = Some (c ∷ text)

-- a link, which may be needed, or not allowed
unfoldable pub link_at : (needed allowed : Bool) → Rest → Read (Option (List ℕ))
link_at needed allowed r = do
  text ← text_at (is_length_for needed allowed) is_kept_or_none r
  Ok (link_of text.0, text.1)

-- the link for the end, which isn't there in version 1
unfoldable pub after_at : Version → (needed : Bool) → Rest → Read (Option (List ℕ))
after_at One needed r = Ok (None, r)
after_at Two needed r = link_at needed true r

unfoldable pub told_at : Version → Option (List ℕ) → Rest → Read ℕ
told_at One link r = Ok (0, r)
told_at Two link r = number_at w8 (is_mark_for link) r

-- after the other links the one for the end, which is needed if there is none to compensate
unfoldable pub last_link_at : Version → (complete compensate status forget : Option (List ℕ)) → Rest → Read Links
last_link_at v complete compensate status forget r = do
  link ← after_at v (is_none compensate) r
  Ok (record { complete = complete; compensate = compensate; status = status; forget = forget; after = link.0 }, link.1)

-- A link to compensate is needed in version 1, and if there is one to complete. Those for the
-- status and to forget are allowed only beside it
unfoldable pub links_at : Version → Rest → Read Links
links_at v r = do
  complete ← link_at false true r
  compensate ← link_at (needs_compensate v complete.0) true complete.1
  status ← link_at false (is_some compensate.0) compensate.1
  forget ← link_at false (is_some compensate.0) status.1
  last_link_at v complete.0 compensate.0 status.0 forget.0 forget.1

-- without a link there is no mark
unfoldable pub marks_at : Version → Links → Rest → Read Marks
marks_at v links r = do
  completed ← number_at w8 (is_outcome_for links.complete) r
  compensated ← number_at w8 (is_outcome_for links.compensate) completed.1
  forgotten ← number_at w8 (is_mark_for links.forget) compensated.1
  told ← told_at v links.after forgotten.1
  Ok (
    record {
      completed = outcome_of completed.0;
      compensated = outcome_of compensated.0;
      forgotten = forgotten.0 == 1;
      told = told.0 == 1;
    },
    told.1,
  )

unfoldable pub participant_at : Version → Rest → Read ParticipantRecord
participant_at v r = do
  links ← links_at v r
  marks ← marks_at v links.0 links.1
  Ok (
    record {
      links = links.0;
      completed = marks.0.completed;
      compensated = marks.0.compensated;
      forgotten = marks.0.forgotten;
      told = marks.0.told;
    },
    marks.1,
  )

abbrev pub is_member_mark : ℕ → Bool
is_member_mark n = nat_lt n 3

unfoldable pub member_by : Version → ℕ → ℕ → ℕ → Rest → Read Member
member_by v stamp last zero r = do
  n ← number_at w64 (is_nested last stamp) r
  Ok (Nested n.0, n.1)
member_by v stamp last (suc zero) r = do
  p ← participant_at v r
  Ok (Participant p.0, p.1)
member_by v stamp last (suc (suc n)) r = Ok (Left, r)

unfoldable pub member_at : Version → ℕ → ℕ → Rest → Read Member
member_at v stamp last r = do
  mark ← number_at w8 is_member_mark r
  member_by v stamp last mark.0 mark.1

unfoldable pub members_at : Version → ℕ → ℕ → Rest → Read (List Member)
members_at v stamp num r = do
  count ← number_at w8 is_member_count r
  each_at (member_at v stamp) next_nested count.0 num count.1

unfoldable pub read_record_at : Context → Last → Rest → Read Record
read_record_at k last r = do
  home ← number_at w8 (is_home (length k.front) last.home) r
  num ← number_at w64 (is_number k last home.0) home.1
  parent ← parent_at num.0 num.1
  deadline ← whole_at w64 parent.1
  decision ← decision_at deadline.1
  stamps ← vector_at (length k.front) (are_stamps k home.0 num.0) decision.1
  members ← members_at k.version (slice_index stamps.0 (home.0 - 1)) num.0 stamps.1
  Ok (
    record {
      home = home.0;
      num = num.0;
      parent = parent.0;
      deadline = deadline.0;
      decision = decision.0;
      stamps = stamps.0;
      members = members.0;
    },
    members.1,
  )

unfoldable pub read_records_at : Context → Rest → Read (List Record)
read_records_at k r = do
  count ← number_at w16 (is_record_count (length k.front)) r
  each_at (read_record_at k) after count.0 start count.1

unfoldable pub live_list_at : ℕ → Rest → Read (List ℕ)
live_list_at top r = do
  count ← number_at w16 is_live_count r
  each_at (λ last. number_at w64 (is_live_number top last)) (λ last n. n) count.0 0 count.1

unfoldable pub live_by : ℕ → ℕ → Rest → Read (Option (List ℕ))
live_by top zero r = Ok (None, r)
live_by top (suc _) r = do
  ns ← live_list_at top r
  Ok (Some ns.0, ns.1)

unfoldable pub read_live_at : ℕ → ℕ → ℕ → Rest → Read (Option (List ℕ))
read_live_at base purge top r = do
  mark ← number_at w8 (is_live_mark base purge) r
  live_by top mark.0 mark.1

unfoldable pub body_at : Version → Rest → Read Frame
body_at v r = do
  nodes ← number_at w8 is_node_count r
  base ← vector_at nodes.0 are_counts nodes.1
  front ← vector_at nodes.0 (is_front base.0) base.1
  purges ← vector_at nodes.0 (at_most front.0) front.1
  lives ← each_at (λ i. read_live_at (slice_index base.0 i) (slice_index purges.0 i) (slice_index front.0 i)) (λ i o. i + 1) nodes.0 0 purges.1
  records ← read_records_at (record { version = v; base = base.0; front = front.0; lives = lives.0 }) lives.1
  Ok (record { base = base.0; front = front.0; purges = purges.0; live = lives.0; records = by_home nodes.0 records.0 }, records.1)

-- the stated length limits what comes
abbrev pub within : ℕ → Rest → Rest
within len r = record { place = r.place; limit = min r.limit (r.place + len); ahead = r.ahead }

-- a body of this many bytes
unfoldable pub ended_at : Version → ℕ → Rest → Read Frame
ended_at v len r = do
  d ← body_at v (within len r)
  if d.1.place == r.place + len then Ok (d.0, record { place = d.1.place; limit = r.limit; ahead = d.1.ahead }) else Err (Broken d.1.place d.1.place)

-- a frame at the start with its version, which ends where its length says
unfoldable pub framed_at : Rest → Read (Version × Frame)
framed_at r = do
  letters ← number_at w32 (λ n. n == magic) r
  version ← number_at w8 is_version letters.1
  len ← number_at w32 is_frame_length version.1
  d ← ended_at (version_of version.0) len.0 len.1
  Ok ((version_of version.0, d.0), d.1)

-- such a frame, and then the end
unfoldable pub versioned_at : Rest → Read (Version × Frame)
versioned_at r = do
  d ← framed_at r
  if d.1.place == r.limit then Ok d else Err (Broken d.1.place d.1.place)

-- the frame, of any version
unfoldable pub frame_at : Rest → Read Frame
frame_at r = do
  d ← versioned_at r
  Ok (d.0.1, d.1)

-- a frame of this many bytes, at the start of these, or why and where reading it halts
abbrev pub looking : ℕ → List ℕ → Result Frame Halt
looking size bytes = value_of (frame_at (record { place = 0; limit = size; ahead = bytes }))

abbrev pub read_of : ℕ → List ℕ → Result Frame Stop
read_of size bytes = told_of (looking size bytes)

-- the frame that all of the bytes encode
abbrev pub frame_in : List ℕ → Result Frame Stop
frame_in bytes = read_of (length bytes) bytes
