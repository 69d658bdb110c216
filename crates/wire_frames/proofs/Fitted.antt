-- what fits in a frame has an encoding
use Rattle.std.proofs.Common.{◌≡◌, ◌∙◌, ◌-◌, ◌≤◌, ◌<◌, ◌^◌, ◌&&◌, ◌==◌, ℕ, suc, List, [], ◌∷◌, Option, Some, None, Bool, true, false, cond, refl, ap, sym, arith, is_some, nat_le, nat_lt}
use Rattle.std.specs.Prelude.{length, slice_index}
use Rattle.std.specs.List.{AllByRecursion, list_any}
use Rattle.std.specs.Str.{chars, is_utf8}
use Rattle.url.specs.Input.{split_once, strip_tabs_and_new_lines, trim_c0_control_and_space}
use Rattle.url.specs.Parser.{parse_url, split_scheme}
use Rattle.url.specs.Scheme.{scheme_len}
use Rattle.state_ids.specs.Fronts.{count}
use Rattle.std.proofs.lemmas.Bool.Decides.{nat_tests}
use Rattle.state_ids.specs.declared.outcome.Outcome.{Outcome}
use Rattle.state_ids.specs.declared.outcome.Outcome.TheVariants.{Busy, Done, Failed}
use Rattle.state_facts.specs.LinkTexts.{is_kept}
use Rattle.state_forest.specs.declared.record.Participant.{Participant as ParticipantRecord}
use Rattle.state_forest.specs.declared.record.Member.{Member}
use Rattle.state_forest.specs.declared.record.Member.TheVariants.{Nested, Participant, Left}
use Rattle.state_forest.specs.declared.record.Place.{Place}
use Rattle.state_forest.specs.declared.record.Record.{Record}
use Rattle.state_forest.specs.RecordMerges.{home_stamp, linked}
use Rattle.wire_frames.specs.declared.version.Version.{Version}
use Rattle.wire_frames.specs.declared.version.Version.TheVariants.{Two}
use Rattle.wire_frames.specs.Versions.{knows}
use Rattle.wire_frames.specs.declared.order.Last.{Last}
use Rattle.wire_frames.specs.Order.{Follows}
use Rattle.wire_frames.proofs.HomeLists.{home_parts}
use Rattle.wire_frames.specs.FrameFields.{Along}
use Rattle.wire_frames.specs.Frames.{IsRising, live_at}
use Rattle.wire_frames.specs.Grammar.{KeepsRulesIn, IsLinked, IsPlaced, nested_numbers}
use Rattle.wire_frames.specs.Encoding.{flag_mark, outcome_mark}
use Rattle.wire_frames.specs.Typed.{AreLinks, HasLinks}
use Rattle.wire_frames.specs.Rules.{Context, IsLink, IsMember, IsParent, IsParticipant, IsRecord, at_most, is_among, is_given_length, is_mark_for, is_next, is_nested, is_outcome_for, next_nested}

-- a text that is kept of a link is that of a link

empty_is_none : is_kept [] ≡ false
unfolding is_kept is_utf8 chars parse_url split_scheme scheme_len split_once strip_tabs_and_new_lines trim_c0_control_and_space
empty_is_none = refl

given_length : (n : ℕ) → 1 ≤ n → n ≤ 127 → is_given_length n ≡ true
given_length n some few = grind (arith, nat_tests)

pub kept_is_link : (text : List ℕ) → length text ≤ 127 → is_kept text ≡ true → IsLink (Some text)
kept_is_link [] few kept = absurd (let clash = sym empty_is_none ∙ kept in cc)
kept_is_link (c ∷ text) few kept = (given_length (length (c ∷ text)) (omega arith) few, kept)

outcome_fits : (link : Option (List ℕ)) (heard : Option Outcome) → cond (is_some link) heard None ≡ heard → is_outcome_for link (outcome_mark heard) ≡ true
outcome_fits (Some text) None e = refl
outcome_fits (Some text) (Some Busy) e = refl
outcome_fits (Some text) (Some Done) e = refl
outcome_fits (Some text) (Some Failed) e = refl
outcome_fits None None e = refl
outcome_fits None (Some heard) e = absurd cc

mark_fits : (link : Option (List ℕ)) (told : Bool) → (is_some link && told) ≡ told → is_mark_for link (flag_mark told) ≡ true
mark_fits (Some text) true e = refl
mark_fits (Some text) false e = refl
mark_fits None true e = absurd cc
mark_fits None false e = refl

participant_fits : (v : Version) (p : ParticipantRecord) → linked p ≡ p → AreLinks p.links → knows v p.links.after ≡ true → IsParticipant v p
participant_fits v p e f w = record {
  complete = f.complete;
  compensate = f.compensate;
  status = f.status;
  forget = f.forget;
  after = f.after;
  together = f.together;
  known = w;
  completed = outcome_fits p.links.complete p.completed (ap (λ (q : ParticipantRecord). q.completed) e);
  compensated = outcome_fits p.links.compensate p.compensated (ap (λ (q : ParticipantRecord). q.compensated) e);
  forgotten = mark_fits p.links.forget p.forgotten (ap (λ (q : ParticipantRecord). q.forgotten) e);
  told = mark_fits p.links.after p.told (ap (λ (q : ParticipantRecord). q.told) e);
}

-- the version knows what the member has
abbrev pub Knows : Version → Member → Type 0
Knows v (Nested num) = Unit {0}
Knows v (Participant p) = knows v p.links.after ≡ true
Knows v Left = Unit {0}

nested_fits : (stamp last n : ℕ) → last < n → n ≤ stamp → is_nested last stamp n ≡ true
nested_fits stamp last n lt le = grind (arith, nat_tests)

above : (stamp last n : ℕ) (ns : List ℕ) → AllByRecursion (λ k. n < k) ns → AllByRecursion (λ k. (last < k) × (k ≤ stamp)) ns → AllByRecursion (λ k. (n < k) × (k ≤ stamp)) ns
above stamp last n [] f g = tt
above stamp last n (k ∷ ns) f g = ((f.0, g.0.1), above stamp last n ns f.1 g.1)

pub members_fit : (v : Version) (stamp last : ℕ) (ms : List Member) → stamp < 2 ^ 64 → IsRising (nested_numbers ms) → AllByRecursion (λ n. (last < n) × (n ≤ stamp)) (nested_numbers ms)
    → AllByRecursion IsLinked ms → AllByRecursion HasLinks ms → AllByRecursion (Knows v) ms → Along (IsMember v stamp) next_nested last ms
members_fit v stamp last [] lt up within own kept known = tt
members_fit v stamp last (Nested n ∷ ms) lt up within own kept known = (
  (omega (arith, lt, within.0.1), nested_fits stamp last n within.0.0 within.0.1),
  members_fit v stamp n ms lt up.1 (above stamp last n (nested_numbers ms) up.0 within.1) own.1 kept.1 known.1,
)
members_fit v stamp last (Participant p ∷ ms) lt up within own kept known = (participant_fits v p own.0 kept.0 known.0, members_fit v stamp last ms lt up within own.1 kept.1 known.1)
members_fit v stamp last (Left ∷ ms) lt up within own kept known = (tt, members_fit v stamp last ms lt up within own.1 kept.1 known.1)

-- ---- records

pub both_true : (a b : Bool) → a ≡ true → b ≡ true → (a && b) ≡ true
both_true true b e f = f
both_true false b e f = absurd cc

pub le_true : (a b : ℕ) → a ≤ b → nat_le a b ≡ true
le_true a b le = grind (arith, nat_tests)

pub at_most_by : (ns limits : List ℕ) → length ns ≡ length limits → ((i : ℕ) → slice_index ns i ≤ slice_index limits i) → at_most limits ns ≡ true
at_most_by [] limits e f = refl
at_most_by (n ∷ ns) [] e f = absurd cc
at_most_by (n ∷ ns) (l ∷ limits) e f = both_true (nat_le n l) (at_most limits ns) (le_true n l (f 0)) (at_most_by ns limits (omega (arith, e)) (λ i. f (suc i)))

small_by : (ns : List ℕ) → ((i : ℕ) → slice_index ns i < 2 ^ 64) → AllByRecursion (λ n. n < 2 ^ 64) ns
small_by [] f = tt
small_by (n ∷ ns) f = (f 0, small_by ns (λ i. f (suc i)))

among : (live : Option (List ℕ)) (num : ℕ) → ((nums : List ℕ) → live ≡ Some nums → list_any (λ n. n == num) nums ≡ true) → is_among live num ≡ true
among None num f = refl
among (Some nums) num f = f nums refl

parent_fits : (num : ℕ) (parent : Option Place) → num < 2 ^ 64 → ((place : Place) → parent ≡ Some place → IsPlaced num place) → IsParent num parent
parent_fits num None lt f = tt
parent_fits num (Some p) lt f =
    let h = f p refl in
    record {
      number = both_true (nat_le 1 p.number) (nat_lt p.number num) (le_true 1 p.number h.some) (less p.number num h.earlier);
      wide = omega (arith, h.earlier, lt);
      slot = both_true (nat_le 1 p.slot) (nat_le p.slot 32) (le_true 1 p.slot h.low) (le_true p.slot 32 h.high);
    }
  where
    less : (a b : ℕ) → a < b → nat_lt a b ≡ true
    less a b lt = grind (arith, nat_tests)

before : (i : ℕ) → suc i - 1 ≡ i
before i = omega arith

pub at_place : (v : List ℕ) (i : ℕ) → count v (suc i) ≡ slice_index v i
at_place v i = ap (λ (n : ℕ). slice_index v n) (before i)

pub record_fits : (k : Context) (last : Last) (r : Record) → length k.front ≤ 8 → ((node : ℕ) → count k.front node < 2 ^ 48) → KeepsRulesIn k.base k.front (live_at k.lives r.home) r
    → Follows (length k.front) last r → r.deadline < 2 ^ 64 → AllByRecursion HasLinks r.members → AllByRecursion (Knows k.version) r.members → IsRecord k last r
record_fits k last r nodes small f follows deadline kept known =
    let home = home_parts (length k.front) last.home r.home follows.0 in
    let wide : r.num < 2 ^ 64 = omega (arith, f.reach, small r.home) in
    let stamp : home_stamp r < 2 ^ 64 = omega (arith, f.within r.home, small r.home) in
    record {
      home = follows.0;
      small = omega (arith, home.1, nodes);
      num = both_true (nat_le 1 r.num) _ (le_true 1 r.num f.some) (both_true (nat_le r.num (count k.front r.home)) _ (le_true _ _ f.reach) (both_true (is_next last r.home r.num) _ follows.1 (among (live_at k.lives r.home) r.num f.told)));
      wide = wide;
      parent = parent_fits r.num r.parent wide f.placed;
      deadline = deadline;
      nodes = f.nodes;
      stamps = both_true (at_most k.front r.stamps) _ (at_most_by r.stamps k.front f.nodes (λ i. omega (arith, f.within (suc i), at_place r.stamps i, at_place k.front i))) (both_true (nat_le r.num (home_stamp r)) _ (le_true _ _ f.own) f.new);
      wide_stamps = small_by r.stamps (λ i. omega (arith, f.within (suc i), small (suc i), at_place r.stamps i, at_place k.front i));
      count = le_true (length r.members) 32 f.few;
      members = members_fit k.version (home_stamp r) r.num r.members stamp f.rising f.nested f.linked kept known;
    }

-- version 2 knows every member
pub knows_all : (ms : List Member) → AllByRecursion (Knows Two) ms
knows_all [] = tt
knows_all (Nested num ∷ ms) = (tt, knows_all ms)
knows_all (Participant p ∷ ms) = (refl, knows_all ms)
knows_all (Left ∷ ms) = (tt, knows_all ms)
