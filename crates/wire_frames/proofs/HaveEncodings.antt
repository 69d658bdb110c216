-- a frame that keeps the rules, and has the types of a delta, has an encoding
use Rattle.std.proofs.Common.{Bool, false, inl, inr, zero, ◌≡◌, ◌≤◌, ◌<◌, ◌+◌, ◌-◌, ◌*◌, ◌^◌, ℕ, suc, List, [], ◌∷◌, true, Option, Some, None, refl, sym, ap, subst, ◌∙◌, arith, get_or, length, is_some}
use Rattle.std.specs.Prelude.{IfSome, nat_le, nat_lt, slice_index}
use Rattle.std.specs.List.{All, AllByRecursion, list_any}
use Rattle.state_facts.specs.Lists.{In}
use Rattle.state_facts.proofs.Membership.{any_from}
use Rattle.std.proofs.lemmas.Bool.Decides.{nat_tests}
use Rattle.std.proofs.lemmas.List.Elements.{recursion_from_All}
use Rattle.state_ids.specs.Fronts.{IsBelow}
use Rattle.state_ids.specs.Ids.{last_number}
use Rattle.state_forest.specs.declared.record.Member.{Member}
use Rattle.state_forest.specs.declared.record.Member.TheVariants.{Nested, Participant, Left}
use Rattle.state_forest.specs.declared.record.Record.{Record}
use Rattle.state_forest.proofs.Bools.{all_from, all_in}
use Rattle.theory_history.specs.Views.{records_at}
use Rattle.wire_frames.specs.declared.version.Version.{Version}
use Rattle.wire_frames.specs.declared.version.Version.TheVariants.{One, Two}
use Rattle.wire_frames.specs.Versions.{knows, listens, needs_two}
use Rattle.wire_frames.specs.FrameFields.{Along}
use Rattle.wire_frames.specs.Frames.{Frame, IsRising, live_at}
use Rattle.wire_frames.specs.Grammar.{AreLive as AreLiveNumbers, KeepsRulesIn, IsOfGrammar}
use Rattle.wire_frames.specs.Rules.{IsDelta, IsDeltaAs, IsLink, IsLive, are_counts, at_most, by_home, context, is_given_length, is_live_number, is_node_count, start}
use Rattle.wire_frames.specs.FrameSizes.{HasShortLinks, IsShort}
use Rattle.wire_frames.specs.Encoding.{body, flat}
use Rattle.wire_frames.specs.Typed.{HasLinks, IsTyped, IsTypedRecord}
use Rattle.wire_frames.proofs.Fitted.{Knows, at_most_by, at_place, both_true, knows_all, le_true}
use Rattle.wire_frames.proofs.Lengths.{length_body}
use Rattle.wire_frames.proofs.FrameOrder.{AreFit, AreHomes, MeetsSettled, are_homes, flat_few, homes_along, parted}
use Rattle.wire_frames.proofs.FrameSizes.{frame_most}

-- ---- live lists

less : (a b : ℕ) → a < b → nat_lt a b ≡ true
less a b lt = grind (arith, nat_tests)

above : (n last top : ℕ) (ns : List ℕ) → AllByRecursion (λ m. n < m) ns → AllByRecursion (λ m. (last < m) × (m ≤ top)) ns → AllByRecursion (λ m. (n < m) × (m ≤ top)) ns
above n last top [] f g = tt
above n last top (m ∷ ns) f g = ((f.0, g.0.1), above n last top ns f.1 g.1)

numbers_along : (top last : ℕ) (ns : List ℕ) → top < 2 ^ 64 → IsRising ns → AllByRecursion (λ n. (last < n) × (n ≤ top)) ns
    → Along (λ (last n : ℕ). (n < 2 ^ 64) × (is_live_number top last n ≡ true)) (λ (last n : ℕ). n) last ns
numbers_along top last [] wide rising within = tt
numbers_along top last (n ∷ ns) wide rising within = (
  (omega (arith, wide, within.0.1), both_true (nat_lt last n) (nat_le n top) (less last n within.0.0) (le_true n top within.0.1)),
  numbers_along top n ns wide rising.1 (above n last top ns rising.0 within.1),
)

some_above : (top : ℕ) (ns : List ℕ) → AllByRecursion (λ n. (1 ≤ n) × (n ≤ top)) ns → AllByRecursion (λ n. (0 < n) × (n ≤ top)) ns
some_above top [] f = tt
some_above top (n ∷ ns) f = ((omega (arith, f.0.0), f.0.1), some_above top ns f.1)

live_is : (base purge top : ℕ) (o : Option (List ℕ)) → top < 2 ^ 64 → is_some o ≡ nat_lt base purge → ((ns : List ℕ) → o ≡ Some ns → AreLiveNumbers top ns) → IsLive base purge top o
live_is base purge top None wide e f = rw (← e) refl
live_is base purge top (Some ns) wide e f =
    let are = f ns refl in
    (rw (← e) refl, (le_true (length ns) 256 are.few, numbers_along top 0 ns wide are.rising (some_above top ns are.within)))

lives_along : (b p t : ℕ → ℕ) (i : ℕ) (live : List (Option (List ℕ))) → ((k : ℕ) → i ≤ k → k < i + length live → IsLive (b k) (p k) (t k) (get_or live (k - i) None))
    → Along (λ i o. IsLive (b i) (p i) (t i) o) (λ i o. i + 1) i live
lives_along b p t i [] f = tt
lives_along b p t i (o ∷ live) f = (
  (let place : i - i ≡ 0 = omega arith in
      subst (IsLive (b i) (p i) (t i)) (ap (λ (j : ℕ). get_or (o ∷ live) j None) place) (f i (omega arith) (omega arith))),
  lives_along b p t (i + 1) live (λ k low high.
      let place : k - i ≡ suc (k - (i + 1)) = omega (arith, low) in
      subst (IsLive (b k) (p k) (t k)) (ap (λ (j : ℕ). get_or (o ∷ live) j None) place) (f k (omega (arith, low)) (omega (arith, high)))),
)

-- ---- vectors

counts_by : (ns : List ℕ) → ((i : ℕ) → slice_index ns i ≤ last_number) → are_counts ns ≡ true
counts_by [] f = refl
counts_by (n ∷ ns) f = both_true (nat_le n last_number) (are_counts ns) (le_true n last_number (f 0)) (counts_by ns (λ i. f (suc i)))

under : (v w : List ℕ) → IsBelow v w → (i : ℕ) → slice_index v i ≤ slice_index w i
under v w below i = omega (arith, below (suc i), at_place v i, at_place w i)

-- ---- lengths

given_short : (n : ℕ) → is_given_length n ≡ true → n ≤ 127
given_short n e = grind (arith, nat_tests)

link_short : (o : Option (List ℕ)) → IsLink o → IfSome o (λ text. length text ≤ 127)
link_short None f = tt
link_short (Some text) f = given_short (length text) f.0

member_short : (m : Member) → HasLinks m → HasShortLinks m
member_short (Nested num) f = tt
member_short (Participant p) f = record {
  complete = link_short p.links.complete f.complete;
  compensate = link_short p.links.compensate f.compensate;
  status = link_short p.links.status f.status;
  forget = link_short p.links.forget f.forget;
  after = link_short p.links.after f.after;
}
member_short Left f = tt

is_short : (d : Frame) → All (All IsTypedRecord) d.records → IsShort d
is_short d typed rs r m in_rs in_r in_m =
    let home = all_in (All IsTypedRecord) d.records (recursion_from_All (All IsTypedRecord) d.records typed) rs in_rs in
    let kept = all_in IsTypedRecord rs (recursion_from_All IsTypedRecord rs home) r in_r in
    member_short m (all_in HasLinks r.members (recursion_from_All HasLinks r.members kept.links) m in_m)

-- ---- frames

node_count : (n : ℕ) → 1 ≤ n → n ≤ 8 → is_node_count n ≡ true
node_count n some few = grind (arith, nat_tests)

-- the version knows what the records have
abbrev pub KnowsAll : Version → Frame → Type 0
KnowsAll v d = (home : ℕ) (r : Record) → In r (records_at d.records home) → AllByRecursion (Knows v) r.members

home_fits : (v : Version) (d : Frame) → IsOfGrammar d → IsTyped d → KnowsAll v d → (home : ℕ) → 1 ≤ home → home ≤ length d.front → AreFit (context v d) home (records_at d.records home)
home_fits v d is typed known home low high =
    let rs = records_at d.records home in
    let own = is.order home low high in
    let there : home - 1 < length d.records = omega (arith, low, high, is.homes) in
    record {
      own = own;
      few = is.few home low high;
      each = all_from (MeetsSettled (context v d)) rs (λ r m.
          let mine : r.home ≡ home = all_in (λ (q : Record). q.home ≡ home) rs own.homes r m in
          record {
            fits = subst (λ (h : ℕ). KeepsRulesIn d.base d.front (live_at d.live h) r) (sym mine) (is.records home r low high m);
            typed = all_in IsTypedRecord rs (recursion_from_All IsTypedRecord rs (typed.records (home - 1) [] there)) r m;
            known = known home r m;
          });
    }

homes_fit : (v : Version) (d : Frame) → IsOfGrammar d → IsTyped d → KnowsAll v d → AreHomes (context v d) 0 d.records
homes_fit v d is typed known = are_homes (context v d) 0 d.records (λ home low high.
    let place : home - 1 - 0 ≡ home - 1 = omega arith in
    subst (AreFit (context v d) home) (ap (λ (i : ℕ). get_or d.records i []) (sym place)) (home_fits v d is typed known home (omega (arith, low)) (omega (arith, high, is.homes))))

lives_fit : (d : Frame) → IsOfGrammar d → Along (λ i o. IsLive (slice_index d.base i) (slice_index d.purges i) (slice_index d.front i) o) (λ i o. i + 1) 0 d.live
lives_fit d is = lives_along (slice_index d.base) (slice_index d.purges) (slice_index d.front) 0 d.live (λ k low high.
    let some : 1 ≤ suc k = omega arith in
    let there : suc k ≤ length d.front = omega (arith, high, is.lives) in
    let place : suc k - 1 ≡ k = omega arith in
    let here : k - 0 ≡ k = omega arith in
    let mine : live_at d.live (suc k) ≡ get_or d.live k None = ap (λ (i : ℕ). get_or d.live i None) place in
    let tag : is_some (get_or d.live k None) ≡ nat_lt (slice_index d.base k) (slice_index d.purges k) = rw place at (is.listed (suc k) some there) in
    let wide : slice_index d.front k < 2 ^ 64 = omega (arith, is.small (suc k), at_place d.front k) in
    rw here (live_is (slice_index d.base k) (slice_index d.purges k) (slice_index d.front k) (get_or d.live k None) wide tag (λ ns e. rw place at (is.live (suc k) ns some there (mine ∙ e)))))

pub is_delta_of : (v : Version) (d : Frame) → IsTyped d → IsOfGrammar d → KnowsAll v d → IsDeltaAs v d
is_delta_of v d typed is known =
    let homes = homes_fit v d is typed known in
    let limit : (i : ℕ) → slice_index d.front i ≤ last_number = λ i. omega (arith, is.small (suc i), at_place d.front i) in
    let low : (i : ℕ) → slice_index d.base i ≤ slice_index d.front i = under d.base d.front is.base in
    record {
      is_body = record {
        nodes = node_count (length d.base) (omega (arith, typed.some, is.bases)) (omega (arith, typed.few, is.bases));
        base = counts_by d.base (λ i. omega (arith, low i, limit i));
        same_nodes = sym is.bases;
        front = both_true (are_counts d.front) (at_most d.front d.base) (counts_by d.front limit) (at_most_by d.base d.front is.bases low);
        purge_nodes = is.nodes ∙ sym is.bases;
        purges = at_most_by d.purges d.front is.nodes (under d.purges d.front is.purges);
        live_nodes = is.lives ∙ sym is.bases;
        lives = lives_fit d is;
        count = le_true (length (flat d.records)) (256 * length d.base) (omega (arith, flat_few (context v d) 0 d.records homes, is.homes, is.bases));
        records = homes_along (context v d) 0 start d.records typed.few is.small (omega arith) (omega (arith, is.homes)) homes;
        homes = parted (context v d) d.records homes ∙ ap (λ (n : ℕ). by_home n (flat d.records)) (is.homes ∙ sym is.bases);
      };
      short = le_true (length (body v d)) 67108855 (omega (arith, length_body v d, frame_most v d is typed.few (is_short d typed.records)));
    }

-- so each such frame has an encoding of version 2
pub is_delta : (d : Frame) → IsTyped d → IsOfGrammar d → IsDelta d
is_delta d typed is = is_delta_of Two d typed is (λ home r m. knows_all r.members)

-- and one of version 1, if no record has a link for the end

none_first : {X : Type 0} (p : X → Bool) (xs : List X) (x : X) → list_any p xs ≡ false → In x xs → p x ≡ false
none_first p xs x none m = by (p x) refl
  where
    by : (b : Bool) → p x ≡ b → p x ≡ false
    by false e = e
    by true e = absurd (let wrong : true ≡ false = sym (any_from p xs x m e) ∙ none in cc)

known_members : (ms : List Member) → ((m : Member) → In m ms → listens m ≡ false) → AllByRecursion (Knows One) ms
known_members [] none = tt
known_members (Nested num ∷ ms) none = (tt, known_members ms (λ m k. none m (inr k)))
known_members (Participant p ∷ ms) none = (by p.links.after (none (Participant p) (inl refl)), known_members ms (λ m k. none m (inr k)))
  where
    by : (o : Option (List ℕ)) → is_some o ≡ false → knows One o ≡ true
    by None e = refl
    by (Some text) e = absurd cc
known_members (Left ∷ ms) none = (tt, known_members ms (λ m k. none m (inr k)))

pub is_first_delta : (d : Frame) → IsTyped d → IsOfGrammar d → needs_two d ≡ false → IsDeltaAs One d
is_first_delta d typed is none = is_delta_of One d typed is known
  where
    in_records : (homes : List (List Record)) (i : ℕ) (r : Record) → In r (get_or homes i []) → In (get_or homes i []) homes
    in_records [] i r m = absurd m
    in_records (rs ∷ homes) zero r m = inl refl
    in_records (rs ∷ homes) (suc i) r m = inr (in_records homes i r m)

    known : KnowsAll One d
    known home r m =
        let rs = records_at d.records home in
        let one = none_first (λ qs. list_any (λ (q : Record). list_any listens q.members) qs) d.records rs none (in_records d.records (home - 1) r m) in
        let two = none_first (λ (q : Record). list_any listens q.members) rs r one m in
        known_members r.members (λ x k. none_first listens r.members x two k)
