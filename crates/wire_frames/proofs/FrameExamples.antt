-- the worked frames, computed
use Rattle.std.proofs.Common.{◌≡◌, ℕ, List, [], ◌∷◌, ◌++◌, take, drop, Some, None, Ok, Err, refl}
use Rattle.std.specs.Prelude.{slice_set}
use Rattle.state_ids.specs.declared.outcome.Verdict.TheVariants.{Close}
use Rattle.wire_frames.specs.declared.version.Version.TheVariants.{One}
use Rattle.wire_frames.specs.declared.input.Stop.TheVariants.{Fault}
use Rattle.wire_frames.specs.Frames.{Frame}
use Rattle.wire_frames.specs.FrameFields.{Short, Broken, each_at, many_at, vector_at}
use Rattle.wire_frames.specs.Encoding.{place, parent, counted, participant, member, members, record_text_as, live_list, live, records, body, encoding, encoding_as}
use Rattle.wire_frames.specs.Reading.{place_at, parent_by, parent_at, decision_at, text_at, link_at, after_at, told_at, participant_at, member_by, member_at, members_at, read_record_at, read_records_at, live_list_at, live_by, read_live_at, body_at, ended_at, framed_at, versioned_at, frame_at, frame_in}

abbrev first : Frame
first = record {
  base = 0 ∷ [];
  front = 2 ∷ [];
  purges = 0 ∷ [];
  live = None ∷ [];
  records = (record { home = 1; num = 1; parent = None; deadline = 0; decision = Some Close; stamps = 2 ∷ []; members = [] } ∷ []) ∷ [];
}

abbrev bytes : List ℕ
bytes =
    0x4c ∷ 0x52 ∷ 0x41 ∷ 0x44 ∷ 1 ∷ 0 ∷ 0 ∷ 0 ∷ 0x38 ∷ 1 ∷
    0 ∷ 0 ∷ 0 ∷ 0 ∷ 0 ∷ 0 ∷ 0 ∷ 0 ∷ 0 ∷ 0 ∷ 0 ∷ 0 ∷ 0 ∷ 0 ∷ 0 ∷ 2 ∷ 0 ∷ 0 ∷ 0 ∷ 0 ∷ 0 ∷ 0 ∷ 0 ∷ 0 ∷
    0 ∷ 0 ∷ 1 ∷ 1 ∷ 0 ∷ 0 ∷ 0 ∷ 0 ∷ 0 ∷ 0 ∷ 0 ∷ 1 ∷ 0 ∷ 0 ∷ 0 ∷ 0 ∷ 0 ∷ 0 ∷ 0 ∷ 0 ∷ 0 ∷ 1 ∷
    0 ∷ 0 ∷ 0 ∷ 0 ∷ 0 ∷ 0 ∷ 0 ∷ 2 ∷ 0 ∷ []

encoded : encoding_as One first ≡ bytes
unfolding place parent counted participant member members record_text_as live_list live records body
encoded = refl

read_again : frame_in bytes ≡ Ok first
unfolding each_at many_at vector_at place_at parent_by parent_at decision_at text_at link_at participant_at member_by member_at members_at read_record_at read_records_at live_list_at live_by read_live_at body_at ended_at framed_at versioned_at frame_at
read_again = refl

-- the place of the first fault
abbrev fails : List ℕ → ℕ → Type 0
fails bs place = frame_in bs ≡ Err (Fault place)

cut : fails (take 0 bytes) 0 × fails (take 3 bytes) 0 × fails (take 4 bytes) 4 × fails (take 8 bytes) 5 × fails (take 9 bytes) 9 × fails (take 17 bytes) 10 × fails (take 18 bytes) 18
    × fails (take 33 bytes) 26 × fails (take 34 bytes) 34 × fails (take 36 bytes) 35 × fails (take 37 bytes) 37 × fails (take 45 bytes) 38 × fails (take 46 bytes) 46 × fails (take 54 bytes) 47
    × fails (take 55 bytes) 55 × fails (take 63 bytes) 56 × fails (take 64 bytes) 64 × fails (bytes ++ 0 ∷ []) 65
unfolding each_at many_at vector_at place_at parent_by parent_at decision_at text_at link_at participant_at member_by member_at members_at read_record_at read_records_at live_list_at live_by read_live_at body_at ended_at framed_at versioned_at frame_at
cut = (refl, refl, refl, refl, refl, refl, refl, refl, refl, refl, refl, refl, refl, refl, refl, refl, refl, refl)

-- frames with one field changed
changed : fails (slice_set bytes 36 3) 65 × fails (slice_set bytes 8 0x37) 64 × fails (slice_set bytes 8 0x39) 65 × fails (slice_set bytes 9 0) 9 × fails (slice_set bytes 34 1) 34
    × fails (slice_set bytes 55 3) 55 × fails (slice_set bytes 63 0) 56
    × fails (slice_set bytes 3 0x45) 0 × fails (slice_set bytes 4 3) 4 × fails (slice_set bytes 4 0) 4 × fails (slice_set (slice_set (slice_set (slice_set bytes 5 3) 6 255) 7 255) 8 0xf8) 5 × fails (slice_set bytes 17 3) 18 × fails (slice_set bytes 33 3) 26 × fails (slice_set bytes 33 1) 34
    × fails (slice_set bytes 35 1) 35 × fails (slice_set bytes 37 2) 37 × fails (slice_set bytes 45 3) 38 × fails (slice_set bytes 25 0) 38 × fails (slice_set bytes 46 2) 46 × fails (slice_set bytes 25 1) 56 × fails (slice_set bytes 64 33) 64
unfolding each_at many_at vector_at place_at parent_by parent_at decision_at text_at link_at participant_at member_by member_at members_at read_record_at read_records_at live_list_at live_by read_live_at body_at ended_at framed_at versioned_at frame_at
changed = (refl, refl, refl, refl, refl, refl, refl, refl, refl, refl, refl, refl, refl, refl, refl, refl, refl, refl, refl, refl, refl)

-- the record stands twice, with count 2 and length 84: the fault is at its second number
twice : fails (slice_set (slice_set bytes 36 2) 8 84 ++ drop 37 bytes) 66
unfolding each_at many_at vector_at place_at parent_by parent_at decision_at text_at link_at participant_at member_by member_at members_at read_record_at read_records_at live_list_at live_by read_live_at body_at ended_at framed_at versioned_at frame_at
twice = refl

-- the frame of the same replica since base 2
abbrev second : Frame
second = record { base = 2 ∷ []; front = 2 ∷ []; purges = 0 ∷ []; live = None ∷ []; records = [] ∷ [] }

second_encoded : encoding_as One second ≡ 0x4c ∷ 0x52 ∷ 0x41 ∷ 0x44 ∷ 1 ∷ 0 ∷ 0 ∷ 0 ∷ 0x1c ∷ 1 ∷ 0 ∷ 0 ∷ 0 ∷ 0 ∷ 0 ∷ 0 ∷ 0 ∷ 2 ∷ 0 ∷ 0 ∷ 0 ∷ 0 ∷ 0 ∷ 0 ∷ 0 ∷ 2 ∷ 0 ∷ 0 ∷ 0 ∷ 0 ∷ 0 ∷ 0 ∷ 0 ∷ 0 ∷ 0 ∷ 0 ∷ 0 ∷ []
unfolding place parent counted participant member members record_text_as live_list live records body
second_encoded = refl

-- over a stream: if it is cut before byte 65, the answer is Cut; if byte 55 is set to 3, the fault
-- comes first
stream : (frame_at (record { place = 0; limit = 65; ahead = take 60 bytes }) ≡ Err Short) × (frame_at (record { place = 0; limit = 65; ahead = take 60 (slice_set bytes 55 3) }) ≡ Err (Broken 55 56))
unfolding each_at many_at vector_at place_at parent_by parent_at decision_at text_at link_at participant_at member_by member_at members_at read_record_at read_records_at live_list_at live_by read_live_at body_at ended_at framed_at versioned_at frame_at
stream = (refl, refl)

-- the encoding of version 2 differs in byte 4 alone, as the frame has no participant
encoded_two : encoding first ≡ slice_set bytes 4 2
unfolding place parent counted participant member members record_text_as live_list live records body
encoded_two = refl

read_two : frame_in (slice_set bytes 4 2) ≡ Ok first
unfolding each_at many_at vector_at place_at parent_by parent_at decision_at text_at link_at after_at told_at participant_at member_by member_at members_at read_record_at read_records_at live_list_at live_by read_live_at body_at ended_at framed_at versioned_at frame_at
read_two = refl
