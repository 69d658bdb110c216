-- what the records of a lawful history's LRAs keep
use Rattle.std.proofs.Common.{◌≡◌, inl, inr, ◌≤◌, ◌<◌, ◌||◌, ◌&&◌, ℕ, List, [], ◌∷◌, refl, sym, ap, subst, ◌∙◌, Bool, true, false, cond, arith, Option, Some, None, map, length, is_some}
use Rattle.std.proofs.lemmas.List.{length-map}
use Rattle.std.specs.Prelude.{IfSome}
use Rattle.std.specs.List.{AllByRecursion}
use Rattle.state_ids.specs.Ids.{Id}
use Rattle.state_ids.specs.declared.outcome.Act.{Act}
use Rattle.state_ids.specs.declared.outcome.Act.TheVariants.{Complete, Compensate}
use Rattle.state_ids.specs.declared.outcome.Outcome.{Outcome}
use Rattle.state_facts.specs.declared.fact.Body.{Body}
use Rattle.state_facts.specs.declared.fact.Body.TheVariants.{Begin, Join, Leave, Decide, Report, Forgot, Told, Purge}
use Rattle.state_facts.specs.declared.fact.Fact.{Fact}
use Rattle.state_facts.specs.Links.{Links}
use Rattle.state_facts.specs.Duties.{has_forgot, has_told, is_forgot, is_told_of}
use Rattle.state_facts.specs.Lists.{In}
use Rattle.state_facts.specs.Sets.{NamesEarlier, begins, gives_number, has_left, heard, is_begun, member_number, parent_named, parent_of, reported}
use Rattle.state_facts.proofs.Membership.{any_gives}
use Rattle.state_forest.specs.declared.record.Participant.{Participant as ParticipantRecord}
use Rattle.state_forest.specs.declared.record.Member.{Member}
use Rattle.state_forest.specs.declared.record.Member.TheVariants.{Nested, Participant, Left}
use Rattle.state_forest.specs.declared.record.Place.{Place}
use Rattle.state_forest.specs.Participants.{joined_as}
use Rattle.state_forest.specs.RecordMerges.{linked}
use Rattle.state_forest.specs.Records.{givers, is_about, is_named, member_by, members_of, place_in, stamp}
use Rattle.state_forest.proofs.Begins.{begin_gives, parent_begin}
use Rattle.state_forest.proofs.Bools.{all_in}
use Rattle.state_forest.proofs.ParentsAndChains.{begins_at}
use Rattle.state_forest.proofs.GiversOfNumbers.{Ascend, giver_in, givers_ascend}
use Rattle.state_forest.proofs.NumberedMembers.{same_is}
use Rattle.state_forest.proofs.RecordsOfASet.{place_parent}
use Rattle.theory_history.specs.Growth.{IsSettled}
use Rattle.theory_history.specs.Views.{IsCounted}
use Rattle.theory_history.proofs.Basics.{about_named, false_from, giver_names}
use Rattle.theory_history.proofs.SettledFacts.{givers_length, number_within}
use Rattle.theory_history.proofs.Covered.{begun_covered}
use Rattle.theory_history.proofs.ListsWithOneMore.{none_found}
use Rattle.theory_history.proofs.TwoClosedSets.{IsProper, link_for, stamp_reaches}
use Rattle.wire_frames.specs.Frames.{IsRising}
use Rattle.wire_frames.specs.Grammar.{IsLinked, IsPlaced, nested_numbers}

-- Nested LRAs

-- a property of each nested number
nested_all : (P : ℕ → Type 0) (k : Fact → Member) (gs : List Fact) → ((f : Fact) → In f gs → (n : ℕ) → k f ≡ Nested n → P n) → AllByRecursion P (nested_numbers (map k gs))
nested_all P k [] each = tt
nested_all P k (f ∷ gs) each = by (k f) refl (nested_all P k gs (λ g m. each g (inr m)))
  where
    by : (x : Member) → k f ≡ x → AllByRecursion P (nested_numbers (map k gs)) → AllByRecursion P (nested_numbers (x ∷ map k gs))
    by (Nested n) e rest = (each f (inl refl) n e, rest)
    by (Participant p) e rest = rest
    by Left e rest = rest

-- the nested numbers are in order, if each member is numbered by its fact
nested_rising : (k : Fact → Member) (gs : List Fact) → Ascend gs → ((f : Fact) → In f gs → (n : ℕ) → k f ≡ Nested n → n ≡ f.num) → IsRising (nested_numbers (map k gs))
nested_rising k [] up each = tt
nested_rising k (f ∷ gs) up each = by (k f) refl (nested_rising k gs up.1 (λ g m. each g (inr m)))
  where
    by : (x : Member) → k f ≡ x → IsRising (nested_numbers (map k gs)) → IsRising (nested_numbers (x ∷ map k gs))
    by (Nested n) e rest = (
      nested_all (λ m. n < m) k gs (λ g m j s.
          omega (arith, each f (inl refl) n e, each g (inr m) j s, all_in (λ (h : Fact). f.num < h.num) gs up.0 g m)),
      rest,
    )
    by (Participant p) e rest = rest
    by Left e rest = rest

-- a nested LRA's number is that of the fact that begins it, which names its parent
record IsBegin (l : Id) (f : Fact) (n : ℕ) : Type 0 where
  number : n ≡ f.num
  parent : parent_named f.body ≡ Some l

named_is : (l : Id) (parent : Option Id) (d n num : ℕ) → gives_number l (Begin parent d) ≡ true → Some l ≡ parent
named_is l None d n num e = absurd cc
named_is l (Some p) d n num e = ap (λ (x : Id). Some x) (sym (same_is p l e))

left_or : (b : Bool) (p : ParticipantRecord) (n : ℕ) → cond b Left (Participant p) ≡ Nested n → ⊥
left_or true p n e = absurd cc
left_or false p n e = absurd cc

begin_of : (S : List Fact) (l : Id) (f : Fact) (n : ℕ) → gives_number l f.body ≡ true → member_by S l f.num f.body ≡ Nested n → IsBegin l f n
begin_of S l f n gives e = by f.body refl
  where
    by : (body : Body) → f.body ≡ body → IsBegin l f n
    by (Begin parent d) s =
        let same : Nested f.num ≡ Nested n = sym (ap (member_by S l f.num) s) ∙ e in
        record {
          number = cc;
          parent = ap parent_named s ∙ sym (named_is l parent d n f.num (sym (ap (gives_number l) s) ∙ gives));
        }
    by (Join id m links) s = absurd (left_or (has_left S l m) _ n (sym (ap (member_by S l f.num) s) ∙ e))
    by (Leave id m) s = absurd (let none : false ≡ true = sym (ap (gives_number l) s) ∙ gives in cc)
    by (Decide id v) s = absurd (let none : false ≡ true = sym (ap (gives_number l) s) ∙ gives in cc)
    by (Report id m act o) s = absurd (let none : false ≡ true = sym (ap (gives_number l) s) ∙ gives in cc)
    by (Forgot id m) s = absurd (let none : false ≡ true = sym (ap (gives_number l) s) ∙ gives in cc)
    by (Told id m) s = absurd (let none : false ≡ true = sym (ap (gives_number l) s) ∙ gives in cc)
    by (Purge root) s = absurd (let none : false ≡ true = sym (ap (gives_number l) s) ∙ gives in cc)

later : (l : Id) (f : Fact) → NamesEarlier f → parent_named f.body ≡ Some l → l.num < f.num
later l f earlier e = let there = subst (λ (o : Option Id). IfSome o (λ p. (p.home ≡ f.origin) × (p.num < f.num))) e earlier in there.1

module _ (S : List Fact) (settled : IsSettled S) (l : Id) where
  -- the nested LRAs come after the LRA, and its home's stamp counts their begins
  pub nested_within : AllByRecursion (λ n. (l.num < n) × (n ≤ stamp S l l.home)) (nested_numbers (members_of S l))
  nested_within =
      nested_all (λ n. (l.num < n) × (n ≤ stamp S l l.home)) (λ f. member_by S l f.num f.body) (givers S l) (λ f m n e.
      let there = giver_in S l f m in
      let begin = begin_of S l f n there.1 e in
      let home = settled.seated.givers f l there.0 there.1 in
      let reach = stamp_reaches S l f l.home there.0 home (about_named l f (giver_names l f.body there.1)) in
      let after = later l f (all_in NamesEarlier S settled.whole.nested f there.0) begin.parent in
      (omega (arith, begin.number, after), omega (arith, begin.number, reach)))

  pub nested_in_order : IsRising (nested_numbers (members_of S l))
  nested_in_order =
      nested_rising (λ f. member_by S l f.num f.body) (givers S l) (givers_ascend S l settled.seated) (λ f m n e.
      (begin_of S l f n (giver_in S l f m).1 e).number)

  pub few_members : length (members_of S l) ≤ 32
  few_members =
      let size = length-map (givers S l) (λ (f : Fact). member_by S l f.num f.body) ∙ givers_length S l in
      omega (arith, size, settled.few l)

-- Participants

-- nothing is heard if nothing is reported
heard_none : (S : List Fact) (l : Id) (m : ℕ) (a : Act) → ((f : Fact) → In f S → reported l m a f.body ≡ None) → heard S l m a ≡ None
heard_none [] l m a none = refl
heard_none (f ∷ S) l m a none =
    let here = none f (inl refl) in
    let rest = heard_none S l m a (λ g k. none g (inr k)) in
    rw (here, rest) refl

masked : (b : Bool) (o : Option Outcome) → (b ≡ false → o ≡ None) → cond b o None ≡ o
masked true o h = refl
masked false o h = sym (h refl)

masked_and : (b c : Bool) → (b ≡ false → c ≡ false) → (b && c) ≡ c
masked_and true c h = refl
masked_and false c h = sym (h refl)

linked_or_left : (b : Bool) (p : ParticipantRecord) → linked p ≡ p → IsLinked (cond b Left (Participant p))
linked_or_left true p e = tt
linked_or_left false p e = e

all_mapped : (P : Member → Type 0) (k : Fact → Member) (gs : List Fact) → ((f : Fact) → In f gs → P (k f)) → AllByRecursion P (map k gs)
all_mapped P k [] each = tt
all_mapped P k (f ∷ gs) each = (each f (inl refl), all_mapped P k gs (λ g m. each g (inr m)))

module _ (S : List Fact) (proper : IsProper S) (l : Id) where
  -- for an act that a participant has no link for, nothing was heard or marked
  unheard : (f : Fact) (m : ℕ) (links : Links) (act : Act) → In f S → f.body ≡ Join l m links → is_some (link_for act links) ≡ false → heard S l m act ≡ None
  unheard f m links act k joins off = heard_none S l m act (λ g n. by g n (reported l m act g.body) refl)
    where
      by : (g : Fact) → In g S → (o : Option Outcome) → reported l m act g.body ≡ o → o ≡ None
      by g n None e = refl
      by g n (Some o) e = let on = proper.reports g f l m links act o n e k joins in absurd cc

  unmarked : (f : Fact) (m : ℕ) (links : Links) → In f S → f.body ≡ Join l m links → is_some links.forget ≡ false → has_forgot S l m ≡ false
  unmarked f m links k joins off = none_found (λ g. is_forgot l m g.body) S (λ g n. false_from (is_forgot l m g.body) (λ e. let on = proper.forgets g f l m links n e k joins in absurd cc))

  untold : (f : Fact) (m : ℕ) (links : Links) → In f S → f.body ≡ Join l m links → is_some links.after ≡ false → has_told S l m ≡ false
  untold f m links k joins off = none_found (λ g. is_told_of l m g.body) S (λ g n. false_from (is_told_of l m g.body) (λ e. let on = proper.tells g f l m links n e k joins in absurd cc))

  member_linked : (f : Fact) → In f S → gives_number l f.body ≡ true → IsLinked (member_by S l f.num f.body)
  member_linked f k gives = by f.body refl
    where
      joined : (m : ℕ) (links : Links) → f.body ≡ Join l m links → IsLinked (member_by S l f.num (Join l m links))
      joined m links joins =
          let complete = masked (is_some links.complete) (heard S l m Complete) (unheard f m links Complete k joins) in
          let compensate = masked (is_some links.compensate) (heard S l m Compensate) (unheard f m links Compensate k joins) in
          let forget = masked_and (is_some links.forget) (has_forgot S l m) (unmarked f m links k joins) in
          let told = masked_and (is_some links.after) (has_told S l m) (untold f m links k joins) in
          linked_or_left (has_left S l m) (joined_as S l m links) (rw (complete, compensate, forget, told) refl)

      by : (body : Body) → f.body ≡ body → IsLinked (member_by S l f.num f.body)
      by (Begin parent d) s = subst (λ (b : Body). IsLinked (member_by S l f.num b)) (sym s) tt
      by (Join id m links) s =
          let same : id ≡ l = same_is id l (sym (ap (gives_number l) s) ∙ gives) in
          let joins : f.body ≡ Join l m links = s ∙ ap (λ (x : Id). Join x m links) same in
          subst (λ (b : Body). IsLinked (member_by S l f.num b)) (sym joins) (joined m links joins)
      by (Leave id m) s = subst (λ (b : Body). IsLinked (member_by S l f.num b)) (sym s) tt
      by (Decide id v) s = subst (λ (b : Body). IsLinked (member_by S l f.num b)) (sym s) tt
      by (Report id m act o) s = subst (λ (b : Body). IsLinked (member_by S l f.num b)) (sym s) tt
      by (Forgot id m) s = subst (λ (b : Body). IsLinked (member_by S l f.num b)) (sym s) tt
      by (Told id m) s = subst (λ (b : Body). IsLinked (member_by S l f.num b)) (sym s) tt
      by (Purge root) s = subst (λ (b : Body). IsLinked (member_by S l f.num b)) (sym s) tt

  pub members_linked : AllByRecursion IsLinked (members_of S l)
  members_linked = all_mapped IsLinked (λ f. member_by S l f.num f.body) (givers S l) (λ f m. let there = giver_in S l f m in member_linked f there.0 there.1)

-- Places

module _ (S : List Fact) (front : List ℕ) (settled : IsSettled S) (counted : IsCounted S front) (l : Id) (begun : is_begun S l ≡ true) where
  slot_is : (p : Id) (place : Place) → Some (record { number = p.num; slot = member_number S p l.num }) ≡ Some place → place.slot ≡ member_number S p l.num
  slot_is p place e = let same : record { number = p.num; slot = member_number S p l.num } ≡ place = cc in ap (λ (x : Place). x.slot) (sym same)

  -- an LRA's parent was begun before it, and gave it one of 32 numbers
  pub placed_well : (place : Place) → place_in S l.num (parent_of S l) ≡ Some place → IsPlaced l.num place
  placed_well place e =
      let p : Id = record { home = l.home; num = place.number } in
      let up = place_parent S l place settled.whole e in
      let begin = parent_begin S l p up in
      let at = begins_at l begin.0 begin.2 in
      let before = later p begin.0 (all_in NamesEarlier S settled.whole.nested begin.0 begin.1) begin.3 in
      let covered = begun_covered S front p counted (settled.whole.parents l p begun up) in
      let slot = slot_is p place (sym (ap (place_in S l.num) up) ∙ e) in
      let most = number_within S p begin.0 begin.1 (begin_gives p begin.0.body begin.3) in
      let same = ap (member_number S p) at.1 in
      let given = settled.few p in
      record {
        some = covered.0;
        earlier = omega (arith, before, at.1);
        low = omega (arith, slot);
        high = omega (arith, slot, most, same, given);
      }

-- The LRA's own begin

-- the stamp of its home counts the LRA's own begin
pub own_begin : (S : List Fact) (l : Id) → is_begun S l ≡ true → l.num ≤ stamp S l l.home
own_begin S l begun =
    let f = any_gives (begins l) S begun in
    let at = begins_at l f.0 f.2 in
    let about : is_about l f.0 ≡ true = ap (λ b. b || is_named l f.0.body) f.2 in
    omega (arith, at.1, stamp_reaches S l f.0 l.home f.1 at.0 about)
