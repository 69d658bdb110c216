-- a frame that keeps the rules is not too long
use Rattle.std.proofs.Common.{◌≡◌, ◌≤◌, ◌+◌, ◌-◌, ◌*◌, ℕ, List, [], refl, sym, ap, subst, ◌∙◌, arith, Option, Some, None, get_or, length}
use Rattle.std.proofs.lemmas.List.Elements.{All-from_recursion}
use Rattle.std.proofs.lemmas.List.Sums.{sum_by-le}
use Rattle.std.proofs.lemmas.Option.{get_or_from_slice_get, slice_get_within}
use Rattle.std.specs.Prelude.{IfSome}
use Rattle.std.specs.List.{sum_by}
use Rattle.state_facts.specs.Lists.{In}
use Rattle.state_forest.specs.declared.record.Member.{Member}
use Rattle.state_forest.specs.declared.record.Member.TheVariants.{Nested, Participant, Left}
use Rattle.state_forest.specs.declared.record.Place.{Place}
use Rattle.state_forest.specs.declared.record.Record.{Record}
use Rattle.state_forest.proofs.Bools.{all_from}
use Rattle.state_forest.proofs.GiversOfNumbers.{in_get}
use Rattle.wire_frames.specs.declared.version.Version.{Version}
use Rattle.wire_frames.specs.declared.version.Version.TheVariants.{One, Two}
use Rattle.wire_frames.specs.Frames.{Frame, live_at}
use Rattle.wire_frames.specs.Grammar.{KeepsRulesIn, IsOfGrammar}
use Rattle.wire_frames.specs.FrameSizes.{HasShortLinks, IsShort, after_size, frame_size, link_size, live_size, marks_size, member_size, place_size, record_size}

-- a sum of numbers, none of which is greater than `most`, is at most their count times `most`
sum_most : {X : Type 0} (f : X → ℕ) (most : ℕ) (xs : List X) → ((x : X) → In x xs → f x ≤ most) → sum_by f xs ≤ length xs * most
sum_most f most xs each = sum_by-le f most xs (All-from_recursion (λ x. f x ≤ most) xs (all_from (λ x. f x ≤ most) xs each))

-- an element of a list of what each home has stands at some home
at_its_home : {X : Type 0} (xs : List X) (d x : X) → In x xs → (home : ℕ) × (1 ≤ home) × (home ≤ length xs) × (get_or xs (home - 1) d ≡ x)
at_its_home xs d x m =
    let i = in_get xs x m in
    let place : i.0 + 1 - 1 ≡ i.0 = omega arith in
    let low : 1 ≤ i.0 + 1 = omega arith in
    let high : i.0 + 1 ≤ length xs = omega (arith, slice_get_within xs i.0 x i.1) in
    (i.0 + 1, low, high, ap (λ (k : ℕ). get_or xs k d) place ∙ get_or_from_slice_get xs i.0 x d i.1)

-- Sizes of parts

link_most : (o : Option (List ℕ)) → IfSome o (λ text. length text ≤ 127) → link_size o ≤ 128
link_most None e = omega arith
link_most (Some text) e = omega (arith, e)

after_most : (v : Version) (o : Option (List ℕ)) → IfSome o (λ text. length text ≤ 127) → after_size v o ≤ 128
after_most One o e = omega arith
after_most Two o e = link_most o e

marks_most : (v : Version) → marks_size v ≤ 4
marks_most One = omega arith
marks_most Two = omega arith

member_most : (v : Version) (m : Member) → HasShortLinks m → member_size v m ≤ 645
member_most v (Nested num) short = omega arith
member_most v (Participant p) short =
    omega (arith, marks_most v, link_most p.links.complete short.complete, link_most p.links.compensate short.compensate, link_most p.links.status short.status, link_most p.links.forget short.forget, after_most v p.links.after short.after)
member_most v Left short = omega arith

place_most : (o : Option Place) → place_size o ≤ 10
place_most None = omega arith
place_most (Some place) = omega arith

record_most : (v : Version) (base front : List ℕ) (live : Option (List ℕ)) (r : Record) → KeepsRulesIn base front live r → length front ≤ 8 → ((m : Member) → In m r.members → HasShortLinks m) → record_size v r ≤ 20733
record_most v base front live r fits few short =
    let members = sum_most (member_size v) 645 r.members (λ m k. member_most v m (short m k)) in
    omega (arith, place_most r.parent, fits.nodes, few, members, fits.few)

live_most : (o : Option (List ℕ)) → ((nums : List ℕ) → o ≡ Some nums → length nums ≤ 256) → live_size o ≤ 2051
live_most None each = omega arith
live_most (Some nums) each = omega (arith, each nums refl)

-- the whole frame
pub frame_most : (v : Version) (frame : Frame) → IsOfGrammar frame → length frame.front ≤ 8 → IsShort frame → frame_size v frame ≤ 67108855
frame_most v frame is few short =
    let lives = sum_most live_size 2051 frame.live (λ o m.
    let home = at_its_home frame.live None o m in
    live_most o (λ nums e. (is.live home.0 nums home.1 (omega (arith, home.2, is.lives)) (home.3 ∙ e)).few)) in
    let records = sum_most (λ rs. sum_by (record_size v) rs) 5307648 frame.records (λ rs m.
    let home = at_its_home frame.records [] rs m in
    let low = home.1 in
    let high : home.0 ≤ length frame.front = omega (arith, home.2, is.homes) in
    let size = ap (λ (xs : List Record). length xs) home.3 in
    let each = sum_most (record_size v) 20733 rs (λ r k.
    record_most v frame.base frame.front (live_at frame.live home.0) r (is.records home.0 r low high (subst (λ (xs : List Record). In r xs) (sym home.3) k)) few (λ n j. short rs r n m k j)) in
    omega (arith, each, size, is.few home.0 low high)) in
    omega (arith, few, is.bases, is.nodes, lives, records, is.lives, is.homes)
