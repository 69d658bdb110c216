-- the members of an LRA by their numbers
use Rattle.std.proofs.Common.{◌≡◌, ◌&&◌, ◌==◌, ◌+◌, ◌-◌, ℕ, zero, suc, List, [], ◌∷◌, Bool, true, false, refl, sym, ap, ◌∙◌, arith, cond, inl, inr, map, Option, Some, None, slice_get}
use mathlib.Core.Bool.{not}
use Rattle.std.specs.Option.{option_map_or}
use Rattle.std.proofs.lemmas.Bool.Decides.{nat_tests}
use Rattle.state_ids.specs.Ids.{Id, same_id}
use Rattle.state_ids.specs.declared.status.MemberStatus.{MemberStatus}
use Rattle.state_ids.specs.declared.outcome.Verdict.{Verdict}
use Rattle.state_facts.specs.Links.{Links}
use Rattle.state_facts.specs.declared.fact.Body.{Body}
use Rattle.state_facts.specs.declared.fact.Body.TheVariants.{Begin, Join, Leave, Decide, Report, Forgot, Told, Purge}
use Rattle.state_facts.specs.declared.fact.Fact.{Fact}
use Rattle.state_facts.specs.Sets.{gives_number, member_number, joined_links, links_of, has_left, is_held, member_status, want}
use Rattle.state_forest.specs.declared.record.Participant.{Participant as ParticipantRecord}
use Rattle.state_forest.specs.declared.record.Member.{Member}
use Rattle.state_forest.specs.declared.record.Member.TheVariants.{Nested, Participant, Left}
use Rattle.state_facts.specs.Lists.{In}
use Rattle.state_forest.specs.MembersByNumber.{numbered}
use Rattle.state_forest.specs.Records.{givers, member_by, members_of}
use Rattle.state_forest.specs.Standing.{IsSeated}
use Rattle.state_forest.specs.Statuses.{status_at, status_in}
use Rattle.state_forest.proofs.GiversOfNumbers.{get_in, in_get, giver_in, in_givers, givers_ascend, number_is, place_is}

id_is : (g h m n : ℕ) → g ≡ h → m ≡ n → ◌≡◌ {A = Id} (record { home = g; num = m }) (record { home = h; num = n })
id_is g h m n home num = ap (λ (k : ℕ). record { home = k; num = m }) home ∙ ap (λ (k : ℕ). record { home = h; num = k }) num

pub same_is : (a b : Id) → same_id a b ≡ true → a ≡ b
same_is a b e = id_is a.home b.home a.num b.num (grind (arith, e)) (grind (arith, e))

pub same_self : (a : Id) → same_id a a ≡ true
same_self a = grind (arith, nat_tests)

joined_at : (l : Id) (m : ℕ) (body : Body) (links : Links) → joined_links l m body ≡ Some links → body ≡ Join l m links
joined_at l m (Join id member given) links e = by (same_id id l && (member == m)) refl e
  where
    by : (b : Bool) → (same_id id l && (member == m)) ≡ b → cond b (Some given) None ≡ Some links → Join id member given ≡ Join l m links
    by true t e =
        let id_is : id ≡ l = same_is id l (grind (arith, t)) in
        let member_is : member ≡ m = grind (arith, nat_tests, t) in
        let given_is : given ≡ links = cc in
        cc
    by false t e = absurd cc
joined_at l m (Begin parent deadline) links e = absurd cc
joined_at l m (Leave id member) links e = absurd cc
joined_at l m (Decide id verdict) links e = absurd cc
joined_at l m (Report id member act outcome) links e = absurd cc
joined_at l m (Forgot id member) links e = absurd cc
joined_at l m (Told id member) links e = absurd cc
joined_at l m (Purge root) links e = absurd cc

-- the links of a participant are those of a join in the set
pub join_found : (S : List Fact) (l : Id) (m : ℕ) (links : Links) → links_of S l m ≡ Some links → (f : Fact) × In f S × (f.body ≡ Join l m links)
join_found [] l m links e = absurd cc
join_found (f ∷ S) l m links e = by (join_found S l m links) (joined_links l m f.body) refl e
  where
    by : (links_of S l m ≡ Some links → (g : Fact) × In g S × (g.body ≡ Join l m links)) → (o : Option Links) → joined_links l m f.body ≡ o → option_map_or (λ x. Some x) o (links_of S l m) ≡ Some links → (g : Fact) × In g (f ∷ S) × (g.body ≡ Join l m links)
    by rest None t e = let found = rest e in (found.0, inr found.1, found.2)
    by rest (Some given) t e = (f, inl refl, joined_at l m f.body links (t ∙ e))

-- and a participant that a fact joins has links
pub join_links : (S : List Fact) (l : Id) (m : ℕ) (links : Links) (f : Fact) → In f S → f.body ≡ Join l m links → links_of S l m ≡ None → ⊥
join_links [] l m links f i e none = i
join_links (g ∷ S) l m links f i e none = by (join_links S l m links f) (joined_links l m g.body) refl i none
  where
    own : joined_links l m (Join l m links) ≡ Some links
    own = let test : (same_id l l && (m == m)) ≡ true = grind (arith, nat_tests) in rw test refl

    by : (In f S → f.body ≡ Join l m links → links_of S l m ≡ None → ⊥) → (o : Option Links) → joined_links l m g.body ≡ o → In f (g ∷ S) → option_map_or (λ x. Some x) o (links_of S l m) ≡ None → ⊥
    by rest (Some given) t i none = cc
    by rest None t (inr i) none = rest i e none
    by rest None t (inl same) none =
        let here : joined_links l m g.body ≡ Some links = ap (λ (x : Fact). joined_links l m x.body) (sym same) ∙ ap (joined_links l m) e ∙ own in
        cc

pub get_map : {X Y : Type 0} (g : X → Y) (xs : List X) (i : ℕ) (x : X) → slice_get xs i ≡ Some x → slice_get (map g xs) i ≡ Some (g x)
get_map g [] i x e = absurd cc
get_map g (y ∷ xs) zero x e = let same : y ≡ x = cc in ap (λ z. Some (g z)) same
get_map g (y ∷ xs) (suc i) x e = get_map g xs i x e

pub map_get : {X Y : Type 0} (g : X → Y) (xs : List X) (i : ℕ) (y : Y) → slice_get (map g xs) i ≡ Some y → (x : X) × (slice_get xs i ≡ Some x) × (y ≡ g x)
map_get g [] i y e = absurd cc
map_get g (x ∷ xs) zero y e = (x, refl, cc)
map_get g (x ∷ xs) (suc i) y e = map_get g xs i y e

pub numbered_at : {X : Type 0} (xs : List X) (i m : ℕ) (x : X) → m ≡ i + 1 → slice_get xs i ≡ Some x → numbered xs m ≡ Some x
numbered_at xs i m x at e =
    let some : (m == 0) ≡ false = grind (arith, nat_tests, at) in
    let place : m - 1 ≡ i = omega (arith, at) in
    rw (some, place) e

pub numbered_from : {X : Type 0} (xs : List X) (m : ℕ) (x : X) → numbered xs m ≡ Some x → (i : ℕ) × (m ≡ i + 1) × (slice_get xs i ≡ Some x)
numbered_from xs m x e = by (m == 0) refl e
  where
    by : (b : Bool) → (m == 0) ≡ b → cond b None (slice_get xs (m - 1)) ≡ Some x → (i : ℕ) × (m ≡ i + 1) × (slice_get xs i ≡ Some x)
    by true t e = absurd cc
    by false t e = (m - 1, grind (arith, nat_tests, t), e)

participant_join : (S : List Fact) (l : Id) (n : ℕ) (body : Body) (p : ParticipantRecord) → gives_number l body ≡ true → Participant p ≡ member_by S l n body → (m : ℕ) × (links : Links) × (body ≡ Join l m links)
participant_join S l n (Join id m links) p gives e = (m, links, ap (λ x. Join x m links) (same_is id l gives))
participant_join S l n (Begin parent deadline) p gives e = absurd cc
participant_join S l n (Leave id m) p gives e = absurd cc
participant_join S l n (Decide id verdict) p gives e = absurd cc
participant_join S l n (Report id m act outcome) p gives e = absurd cc
participant_join S l n (Forgot id m) p gives e = absurd cc
participant_join S l n (Told id m) p gives e = absurd cc
participant_join S l n (Purge root) p gives e = absurd cc

-- a giver stands at the place of its number
pub seat_of : (S : List Fact) (l : Id) (f : Fact) → IsSeated S → In f S → gives_number l f.body ≡ true → (i : ℕ) × (slice_get (givers S l) i ≡ Some f) × (member_number S l f.num ≡ i + 1)
seat_of S l f seated i gives =
    let at = in_get (givers S l) f (in_givers S l f i gives) in
    let place = place_is (givers S l) at.0 f (givers_ascend S l seated) at.1 in
    (at.0, at.1, number_is S l f.num ∙ ap (λ k. k + 1) place)

unless_left : (want : Option Verdict) (p : ParticipantRecord) (left : Bool) → status_at want (Some (cond left Left (Participant p))) ≡ cond (not left) (Some (status_in want p)) None
unless_left want p true = refl
unless_left want p false = refl

shown_by_join : (S : List Fact) (l : Id) (m n : ℕ) (links : Links) → is_held S l ≡ true → links_of S l m ≡ Some links → status_at (want S l) (Some (member_by S l n (Join l m links))) ≡ member_status S l m
shown_by_join S l m n links held joined = rw (held, joined) (unless_left (want S l) _ (has_left S l m))

none_status : (S : List Fact) (l : Id) (m : ℕ) → links_of S l m ≡ None → member_status S l m ≡ None
none_status S l m joined = rw joined (by (is_held S l && not (has_left S l m)))
  where
    by : (b : Bool) → ◌≡◌ {A = Option MemberStatus} (cond b None None) None
    by true = refl
    by false = refl

-- a member that is a participant joined
pub none_joined : (S : List Fact) (l : Id) (m : ℕ) (p : ParticipantRecord) → IsSeated S → links_of S l m ≡ None → numbered (members_of S l) m ≡ Some (Participant p) → ⊥
none_joined S l m p seated joined found =
    let place = numbered_from (members_of S l) m (Participant p) found in
    let giver = map_get (λ (g : Fact). member_by S l g.num g.body) (givers S l) place.0 (Participant p) place.2 in
    let f = giver.0 in
    let inside = giver_in S l f (get_in (givers S l) place.0 f giver.1) in
    let join = participant_join S l f.num f.body p inside.1 giver.2 in
    let number : join.0 ≡ member_number S l f.num = seated.numbers f l join.0 join.1 inside.0 join.2 in
    let at = place_is (givers S l) place.0 f (givers_ascend S l seated) giver.1 in
    let same : join.0 ≡ m = number ∙ number_is S l f.num ∙ ap (λ k. k + 1) at ∙ sym place.1 in
    join_links S l m join.1 f inside.0 (join.2 ∙ ap (λ (k : ℕ). Join l k join.1) same) joined

-- the status of a participant is that of the member with its number
pub member_law : (S : List Fact) (l : Id) (m : ℕ) → IsSeated S → is_held S l ≡ true → status_at (want S l) (numbered (members_of S l) m) ≡ member_status S l m
member_law S l m seated held = by (links_of S l m) refl
  where
    by : (o : Option Links) → links_of S l m ≡ o → status_at (want S l) (numbered (members_of S l) m) ≡ member_status S l m
    by (Some links) joined =
        let f = join_found S l m links joined in
        let gives : gives_number l f.0.body ≡ true = ap (gives_number l) f.2 ∙ same_self l in
        let seat = seat_of S l f.0 seated f.1 gives in
        let number : m ≡ member_number S l f.0.num = seated.numbers f.0 l m links f.1 f.2 in
        let member = get_map (λ (g : Fact). member_by S l g.num g.body) (givers S l) seat.0 f.0 seat.1 in
        let found = numbered_at (members_of S l) seat.0 m _ (number ∙ seat.2) member in
        let body : member_by S l f.0.num f.0.body ≡ member_by S l f.0.num (Join l m links) = ap (member_by S l f.0.num) f.2 in
        ap (status_at (want S l)) (found ∙ ap (λ x. Some x) body) ∙ shown_by_join S l m f.0.num links held joined
    by None joined = without (numbered (members_of S l) m) refl ∙ sym (none_status S l m joined)
      where
        without : (o : Option Member) → numbered (members_of S l) m ≡ o → status_at (want S l) o ≡ None
        without None e = refl
        without (Some (Nested num)) e = refl
        without (Some Left) e = refl
        without (Some (Participant p)) e = absurd (none_joined S l m p seated joined e)
