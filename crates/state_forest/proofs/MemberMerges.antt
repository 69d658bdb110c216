-- the members of two records merged, one after the other
use Rattle.std.proofs.Common.{◌≡◌, ◌+◌, ◌-◌, ◌<◌, ◌==◌, ◌&&◌, ◌||◌, ℕ, zero, suc, List, [], ◌∷◌, refl, sym, ap, ◌∙◌, Bool, true, false, cond, arith, Option, Some, None, get_or, length, nat_le, set, slice_get, is_some}
use Rattle.std.proofs.lemmas.Bool.Decides.{nat_tests}
use Rattle.state_ids.specs.declared.outcome.Outcome.{Outcome}
use Rattle.state_ids.specs.declared.outcome.Outcome.TheVariants.{Busy, Done, Failed}
use Rattle.state_ids.specs.States.{greater}
use Rattle.state_forest.specs.declared.record.Member.{Member}
use Rattle.state_forest.specs.declared.record.Member.TheVariants.{Left}
use Rattle.state_forest.specs.declared.record.Participant.{Participant as ParticipantRecord}
use Rattle.state_ids.specs.Fronts.{join_fronts}
use Rattle.state_forest.specs.declared.record.Record.{Record}
use Rattle.state_forest.specs.RecordMerges.{home_stamp, linked, merged_member, merged_members, merged_participant, merged_record}
use Rattle.state_forest.specs.MembersByNumber.{numbered}

-- the first i members are merged
abbrev pub merged_to : ℕ → List Member → List Member → List Member
merged_to zero xs ys = xs
merged_to (suc i) [] ys = []
merged_to (suc i) (x ∷ xs) [] = merged_member x None ∷ merged_to i xs []
merged_to (suc i) (x ∷ xs) (y ∷ ys) = merged_member x (Some y) ∷ merged_to i xs ys

pub length_merged : (i : ℕ) (xs ys : List Member) → length (merged_to i xs ys) ≡ length xs
length_merged zero xs ys = refl
length_merged (suc i) [] ys = refl
length_merged (suc i) (x ∷ xs) [] = ap suc (length_merged i xs [])
length_merged (suc i) (x ∷ xs) (y ∷ ys) = ap suc (length_merged i xs ys)

-- the next member is taken out, merged, and put back
pub merged_more : (i : ℕ) (xs ys : List Member) (a : Member) → slice_get (merged_to i xs ys) i ≡ Some a
    → set (set (merged_to i xs ys) i Left) i (merged_member a (slice_get ys i)) ≡ merged_to (suc i) xs ys
merged_more zero [] ys a there = absurd cc
merged_more (suc i) [] ys a there = absurd cc
merged_more zero (x ∷ xs) [] a there = let same : a ≡ x = cc in ap (λ m. merged_member m None ∷ xs) same
merged_more zero (x ∷ xs) (y ∷ ys) a there = let same : a ≡ x = cc in ap (λ m. merged_member m (Some y) ∷ xs) same
merged_more (suc i) (x ∷ xs) [] a there = ap (λ r. merged_member x None ∷ r) (merged_more i xs [] a there)
merged_more (suc i) (x ∷ xs) (y ∷ ys) a there = ap (λ r. merged_member x (Some y) ∷ r) (merged_more i xs ys a there)

pub merged_all : (xs ys : List Member) → merged_to (length xs) xs ys ≡ merged_members xs ys
merged_all [] ys = refl
merged_all (x ∷ xs) [] = ap (λ r. merged_member x None ∷ r) (merged_all xs [])
merged_all (x ∷ xs) (y ∷ ys) = ap (λ r. merged_member x (Some y) ∷ r) (merged_all xs ys)

-- a participant stays as it is if all outcomes heard of it stay
pub participant_stays : (p q : ParticipantRecord) → cond (is_some p.links.complete) (greater p.completed q.completed) None ≡ p.completed → cond (is_some p.links.compensate) (greater p.compensated q.compensated) None ≡ p.compensated
    → (is_some p.links.forget && (p.forgotten || q.forgotten)) ≡ p.forgotten → (is_some p.links.after && (p.told || q.told)) ≡ p.told → merged_participant p q ≡ p
participant_stays p q completed compensated forgotten told = rw (completed, compensated, forgotten, told) refl

-- the first members still stay if the next one stays as it is
pub stays_more : (i : ℕ) (xs ys : List Member) (a : Member) → merged_to i xs ys ≡ xs → i < length xs → a ≡ get_or xs i a → merged_member a (slice_get ys i) ≡ a → merged_to (suc i) xs ys ≡ xs
stays_more i [] ys a so less is stays = absurd (omega (arith, less))
stays_more zero (x ∷ xs) [] a so less is stays = ap (λ m. m ∷ xs) (ap (λ m. merged_member m None) (sym is) ∙ stays ∙ is)
stays_more zero (x ∷ xs) (y ∷ ys) a so less is stays = ap (λ m. m ∷ xs) (ap (λ m. merged_member m (Some y)) (sym is) ∙ stays ∙ is)
stays_more (suc i) (x ∷ xs) [] a so less is stays =
    let first : merged_member x None ≡ x = cc in
    let rest : merged_to i xs [] ≡ xs = cc in
    ap (λ m. m ∷ merged_to (suc i) xs []) first ∙ ap (λ ms. x ∷ ms) (stays_more i xs [] a rest (omega (arith, less)) is stays)
stays_more (suc i) (x ∷ xs) (y ∷ ys) a so less is stays =
    let first : merged_member x (Some y) ≡ x = cc in
    let rest : merged_to i xs ys ≡ xs = cc in
    ap (λ m. m ∷ merged_to (suc i) xs ys) first ∙ ap (λ ms. x ∷ ms) (stays_more i xs ys a rest (omega (arith, less)) is stays)

-- the member with number i + 1 stands at place i
pub numbered_next : (ys : List Member) (i : ℕ) → numbered ys (i + 1) ≡ slice_get ys i
numbered_next ys i =
    let some : (i + 1 == 0) ≡ false = grind (arith, nat_tests) in
    let back : i + 1 - 1 ≡ i = omega arith in
    ap (λ b. cond b None (slice_get ys (i + 1 - 1))) some ∙ ap (slice_get ys) back

-- a record stays as it is if the other's stamps are no greater and its members stay
pub record_stays : (r t : Record) → nat_le (home_stamp t) (home_stamp r) ≡ true → join_fronts r.stamps t.stamps ≡ r.stamps → merged_members r.members t.members ≡ r.members → merged_record r t ≡ r
record_stays r t first stamps members = rw (first, stamps, members) refl

-- Members for which the order of merging doesn't matter

greater_swaps : (a b : Option Outcome) → greater a b ≡ greater b a
greater_swaps None None = refl
greater_swaps None (Some Busy) = refl
greater_swaps None (Some Done) = refl
greater_swaps None (Some Failed) = refl
greater_swaps (Some Busy) None = refl
greater_swaps (Some Busy) (Some Busy) = refl
greater_swaps (Some Busy) (Some Done) = refl
greater_swaps (Some Busy) (Some Failed) = refl
greater_swaps (Some Done) None = refl
greater_swaps (Some Done) (Some Busy) = refl
greater_swaps (Some Done) (Some Done) = refl
greater_swaps (Some Done) (Some Failed) = refl
greater_swaps (Some Failed) None = refl
greater_swaps (Some Failed) (Some Busy) = refl
greater_swaps (Some Failed) (Some Done) = refl
greater_swaps (Some Failed) (Some Failed) = refl

either_swaps : (a b : Bool) → (a || b) ≡ (b || a)
either_swaps true true = refl
either_swaps true false = refl
either_swaps false true = refl
either_swaps false false = refl

pub participants_swap : (p q : ParticipantRecord) → p.links ≡ q.links → merged_participant p q ≡ merged_participant q p
participants_swap p q same =
    ap (λ a. linked (record { links = a; completed = greater p.completed q.completed; compensated = greater p.compensated q.compensated; forgotten = p.forgotten || q.forgotten; told = p.told || q.told })) same
    ∙ ap (λ a. linked (record { links = q.links; completed = a; compensated = greater p.compensated q.compensated; forgotten = p.forgotten || q.forgotten; told = p.told || q.told })) (greater_swaps p.completed q.completed)
    ∙ ap (λ a. linked (record { links = q.links; completed = greater q.completed p.completed; compensated = a; forgotten = p.forgotten || q.forgotten; told = p.told || q.told })) (greater_swaps p.compensated q.compensated)
    ∙ ap (λ a. linked (record { links = q.links; completed = greater q.completed p.completed; compensated = greater q.compensated p.compensated; forgotten = a; told = p.told || q.told })) (either_swaps p.forgotten q.forgotten)
    ∙ ap (λ a. linked (record { links = q.links; completed = greater q.completed p.completed; compensated = greater q.compensated p.compensated; forgotten = q.forgotten || p.forgotten; told = a })) (either_swaps p.told q.told)

abbrev pub Swap : Member → Member → Type 0
Swap m n = merged_member m (Some n) ≡ merged_member n (Some m)

-- for the first i members the order of merging doesn't matter
abbrev pub SwapTo : ℕ → List Member → List Member → Type 0
SwapTo zero xs ys = Unit {0}
SwapTo (suc i) [] ys = Unit {0}
SwapTo (suc i) (x ∷ xs) [] = Unit {0}
SwapTo (suc i) (x ∷ xs) (y ∷ ys) = Swap x y × SwapTo i xs ys

pub swap_more : (i : ℕ) (xs ys : List Member) (x y : Member) → SwapTo i xs ys → i < length xs → i < length ys → x ≡ get_or xs i x → y ≡ get_or ys i y → Swap x y → SwapTo (suc i) xs ys
swap_more i [] ys x y so less long is are swap = tt
swap_more i (a ∷ xs) [] x y so less long is are swap = tt
swap_more zero (a ∷ xs) (b ∷ ys) x y so less long is are swap = (ap (λ m. merged_member m (Some b)) (sym is) ∙ ap (λ n. merged_member x (Some n)) (sym are) ∙ swap ∙ ap (λ n. merged_member n (Some x)) are ∙ ap (λ m. merged_member b (Some m)) is, tt)
swap_more (suc i) (a ∷ xs) (b ∷ ys) x y so less long is are swap = (so.0, swap_more i xs ys x y so.1 (omega (arith, less)) (omega (arith, long)) is are swap)

pub swap_all : (xs ys : List Member) → length xs ≡ length ys → SwapTo (length xs) xs ys → merged_members xs ys ≡ merged_members ys xs
swap_all [] [] same so = refl
swap_all [] (y ∷ ys) same so = absurd (omega (arith, same))
swap_all (x ∷ xs) [] same so = absurd (omega (arith, same))
swap_all (x ∷ xs) (y ∷ ys) same so = ap (λ m. m ∷ merged_members xs ys) so.0 ∙ ap (λ ms. merged_member y (Some x) ∷ ms) (swap_all xs ys (omega (arith, same)) so.1)
