-- how many bytes the encoding of each part has
use Rattle.std.proofs.Common.{◌≡◌, ◌∙◌, ◌+◌, ◌*◌, ℕ, List, [], ◌∷◌, ◌++◌, Option, Some, None, arith, ap, length, refl, sym}
use Rattle.std.proofs.lemmas.List.{length-append}
use Rattle.std.proofs.lemmas.List.Sums.{sum_by-cons}
use Rattle.std.proofs.lemmas.Grind.{flat_map-append}
use Rattle.std.specs.List.{flat_map, sum_by}
use Rattle.state_forest.specs.declared.record.Member.{Member}
use Rattle.state_forest.specs.declared.record.Member.TheVariants.{Nested, Participant, Left}
use Rattle.state_forest.specs.declared.record.Participant.{Participant as ParticipantRecord}
use Rattle.state_forest.specs.declared.record.Place.{Place}
use Rattle.state_forest.specs.declared.record.Record.{Record}
use Rattle.wire_frames.specs.declared.version.Version.{Version}
use Rattle.wire_frames.specs.declared.version.Version.TheVariants.{One, Two}
use Rattle.wire_frames.specs.Frames.{Frame}
use Rattle.wire_frames.specs.FrameSizes.{after_size, frame_size, link_size, links_size, live_size, marks_size, member_size, place_size, record_size}
use Rattle.state_facts.specs.Links.{Links}
use Rattle.wire_frames.specs.declared.marks.Marks.{Marks}
use Rattle.wire_frames.specs.Encoding.{links_text, marks_of, marks_text, after_link, body, byte, counted, decision_mark, flat, link_text, live, live_list, member, members, number, parent, participant, place, record_text_as, records, two_bytes, vector}
use Rattle.wire_frames.proofs.RecordCodes.{length-vector}

both : (a b : List ℕ) (m n : ℕ) → length a ≡ m → length b ≡ n → length (a ++ b) ≡ m + n
both a b m n e f = omega (arith, length-append a b, e, f)

byte_first : (n : ℕ) (rest : List ℕ) (m : ℕ) → length rest ≡ m → length (byte n ++ rest) ≡ 1 + m
byte_first n rest m e = omega (arith, e)

count_first : (n : ℕ) (rest : List ℕ) (m : ℕ) → length rest ≡ m → length (two_bytes n ++ rest) ≡ 2 + m
count_first n rest m e = omega (arith, e)

number_first : (n : ℕ) (rest : List ℕ) (m : ℕ) → length rest ≡ m → length (number n ++ rest) ≡ 8 + m
number_first n rest m e = omega (arith, e)

each : {X : Type 0} (f : X → List ℕ) (size : X → ℕ) → ((x : X) → length (f x) ≡ size x) → (xs : List X) → length (flat_map f xs) ≡ sum_by size xs
each f size e [] = refl
each f size e (x ∷ xs) = both (f x) (flat_map f xs) (size x) (sum_by size xs) (e x) (each f size e xs) ∙ sym (sum_by-cons size x xs)

text_length : (text : List ℕ) → length (counted text) ≡ 1 + length text
unfolding counted
text_length text = omega arith

link_length : (o : Option (List ℕ)) → length (counted (link_text o)) ≡ link_size o
link_length None = text_length []
link_length (Some text) = text_length text

after_length : (v : Version) (o : Option (List ℕ)) → length (after_link v o) ≡ after_size v o
after_length One o = refl
after_length Two o = link_length o

links_length : (v : Version) (l : Links) → length (links_text v l) ≡ links_size v l
unfolding links_text
links_length v l =
    let complete = link_length l.complete in
    let compensate = link_length l.compensate in
    let status = link_length l.status in
    let forget = link_length l.forget in
    both _ _ _ _ complete (both _ _ _ _ compensate (both _ _ _ _ status (both _ _ _ _ forget (after_length v l.after)))) ∙ omega arith

marks_length : (v : Version) (m : Marks) → length (marks_text v m) ≡ marks_size v
unfolding marks_text
marks_length One m = refl
marks_length Two m = refl

participant_length : (v : Version) (p : ParticipantRecord) → length (participant v p) ≡ links_size v p.links + marks_size v
unfolding participant
participant_length v p = both _ _ _ _ (links_length v p.links) (marks_length v (marks_of p))

member_length : (v : Version) (m : Member) → length (member v m) ≡ member_size v m
unfolding member
member_length v (Nested num) = refl
member_length v (Participant p) = byte_first 1 (participant v p) (links_size v p.links + marks_size v) (participant_length v p) ∙ omega arith
member_length v Left = refl

members_length : (v : Version) (ms : List Member) → length (members v ms) ≡ 1 + sum_by (member_size v) ms
unfolding members
members_length v ms = byte_first (length ms) (flat_map (member v) ms) (sum_by (member_size v) ms) (each (member v) (member_size v) (member_length v) ms)

parent_length : (o : Option Place) → length (parent o) ≡ place_size o
unfolding parent place
parent_length None = refl
parent_length (Some p) = refl

record_length : (v : Version) (r : Record) → length (record_text_as v r) ≡ record_size v r
unfolding record_text_as
record_length v r =
    let marked : List ℕ = vector r.stamps ++ members v r.members in
    let decided : List ℕ = byte (decision_mark r.decision) ++ marked in
    let timed : List ℕ = number r.deadline ++ decided in
    let nested : List ℕ = parent r.parent ++ timed in
    let last = both (vector r.stamps) (members v r.members) _ _ (length-vector r.stamps) (members_length v r.members) in
    let after = number_first r.deadline decided _ (byte_first (decision_mark r.decision) marked _ last) in
    let whole = byte_first r.home (number r.num ++ nested) _ (number_first r.num nested _ (both (parent r.parent) timed _ _ (parent_length r.parent) after)) in
    whole ∙ omega arith

live_length : (o : Option (List ℕ)) → length (live o) ≡ live_size o
unfolding live live_list
live_length None = refl
live_length (Some ns) = byte_first 1 (two_bytes (length ns) ++ vector ns) _ (count_first (length ns) (vector ns) (8 * length ns) (length-vector ns)) ∙ omega arith

homes_length : (v : Version) (homes : List (List Record)) → length (flat_map (record_text_as v) (flat homes)) ≡ sum_by (λ rs. sum_by (record_size v) rs) homes
homes_length v [] = refl
homes_length v (rs ∷ homes) =
    ap (λ (l : List ℕ). length l) (flat_map-append (record_text_as v) rs (flat homes))
    ∙ both _ _ _ _ (each (record_text_as v) (record_size v) (record_length v) rs) (homes_length v homes)
    ∙ sym (sum_by-cons (λ qs. sum_by (record_size v) qs) rs homes)

records_length : (v : Version) (homes : List (List Record)) → length (records v (flat homes)) ≡ 2 + sum_by (λ rs. sum_by (record_size v) rs) homes
unfolding records
records_length v homes = count_first (length (flat homes)) _ _ (homes_length v homes)

pub length_body : (v : Version) (d : Frame) → length (body v d) ≡ frame_size v d
unfolding body
length_body v d =
    let lives = each live live_size live_length d.live in
    let last = both (flat_map live d.live) (records v (flat d.records)) _ _ lives (records_length v d.records) in
    let vectors = both (vector d.base) _ _ _ (length-vector d.base) (both (vector d.front) _ _ _ (length-vector d.front) (both (vector d.purges) _ _ _ (length-vector d.purges) last)) in
    byte_first (length d.base) _ _ vectors ∙ omega arith
