-- What a closed set says of participants, a later one says too.
use Rattle.std.proofs.Common.{◌≡◌, inl, inr, ◌≤◌, ◌&&◌, ◌++◌, ◌+◌, ℕ, List, [], ◌∷◌, refl, sym, ap, subst, ◌∙◌, Bool, true, false, cond, arith, Option, Some, None, is_some, length, map, nat_lt}
use mathlib.Core.Bool.{not}
use Rattle.std.proofs.lemmas.Bool.Decides.{nat_tests}
use Rattle.std.specs.Option.{option_map_or}
use Rattle.state_ids.specs.Fronts.{count}
use Rattle.state_ids.specs.Ids.{Id, same_id}
use Rattle.state_ids.specs.States.{level}
use Rattle.state_ids.specs.declared.outcome.Act.{Act}
use Rattle.state_ids.specs.declared.outcome.Outcome.{Outcome}
use Rattle.state_ids.specs.declared.outcome.Verdict.{Verdict}
use Rattle.state_facts.specs.declared.fact.Body.{Body}
use Rattle.state_facts.specs.declared.fact.Body.TheVariants.{Begin, Decide, Forgot, Join, Leave, Purge, Report, Told}
use Rattle.state_facts.specs.declared.fact.Fact.{Fact}
use Rattle.state_facts.specs.Duties.{is_pending, saga_path, slot_of, slots_below, topmost_cancelled}
use Rattle.state_facts.specs.Links.{Links}
use Rattle.state_facts.specs.Lists.{In, IsInside}
use Rattle.state_facts.specs.Sets.{begins, chain, gives_number, has_left, heard, is_begun, is_leave, is_participant, is_under, links_of, member_number, parent_of, want}
use Rattle.state_facts.proofs.Heard.{heard_inside}
use Rattle.state_facts.proofs.Membership.{any_from, any_gives, any_inside, in_filter, same_bools}
use Rattle.state_forest.specs.Standing.{IsSeated}
use Rattle.state_forest.proofs.Bools.{and_left, and_right, not_false}
use Rattle.state_forest.proofs.GiversOfNumbers.{filter_both}
use Rattle.state_forest.proofs.NumberedMembers.{join_found, join_links, same_is, same_self}
use Rattle.state_forest.proofs.ParentsAndChains.{begins_at, parent_home}
use Rattle.theory_history.specs.Growth.{IsSettled}
use Rattle.theory_history.specs.Histories.{History, facts, is_counted, made}
use Rattle.theory_history.proofs.Basics.{both_true, false_from, less_by, own_in_chain}
use Rattle.theory_history.proofs.ClosedSets.{closed_settled, counted_le, fact_of, facts_inside, le_counted}
use Rattle.theory_history.proofs.Decisions.{asks_active, counted_entry, entered_before, parent_both}
use Rattle.theory_history.proofs.RanksRise.{IsGrown, begun_later, kept_chain}
use Rattle.theory_history.proofs.SameChains.{along_chain}
use Rattle.theory_history.proofs.SetsToMerge.{joins_once}
use Rattle.theory_history.proofs.SettledFacts.{filter_agree}

pub clash : {A : Type 0} (b : Bool) → b ≡ true → b ≡ false → A
clash b e f = absurd (let wrong : true ≡ false = sym e ∙ f in cc)

-- What holds in one set

pub under_in : (S : List Fact) (l d : Id) → is_under S l d ≡ true → In l (chain S d)
under_in S l d e = let found = any_gives (same_id l) (chain S d) e in subst (λ (x : Id). In x (chain S d)) (sym (same_is l found.0 found.2)) found.1

pub in_under : (S : List Fact) (l d : Id) → In l (chain S d) → is_under S l d ≡ true
in_under S l d m = any_from (same_id l) (chain S d) l m (same_self l)

-- the links of a participant are those of its join
pub links_joined : (S : List Fact) (f : Fact) (d : Id) (m : ℕ) (links : Links) → IsSeated S → In f S → f.body ≡ Join d m links → links_of S d m ≡ Some links
links_joined S f d m links seated i body = by (links_of S d m) refl
  where
    by : (o : Option Links) → links_of S d m ≡ o → links_of S d m ≡ Some links
    by None none = absurd (join_links S d m links f i body none)
    by (Some k) some = let g = join_found S d m k some in some ∙ ap (λ (x : Links). Some x) (joins_once S g.0 f d m k links seated g.1 g.2 i body)

leave_asks : (d : Id) (m : ℕ) (body : Body) → is_leave d m body ≡ true → asks_active d body ≡ true
leave_asks d m (Begin parent deadline) e = absurd cc
leave_asks d m (Join l n links) e = absurd cc
leave_asks d m (Leave l n) e = and_left (same_id l d) _ e
leave_asks d m (Decide l verdict) e = absurd cc
leave_asks d m (Report l n act outcome) e = absurd cc
leave_asks d m (Forgot l n) e = absurd cc
leave_asks d m (Told l n) e = absurd cc
leave_asks d m (Purge l) e = absurd cc

-- an outcome that ends an act still does so if a greater one is heard
pub pending_before : (a b : Option Outcome) → level a ≤ level b → is_pending b ≡ true → is_pending a ≡ true
pending_before a b le e = lesser (level a) (level b) le e
  where
    lesser : (m n : ℕ) → m ≤ n → nat_lt n 2 ≡ true → nat_lt m 2 ≡ true
    lesser m n le e = grind (arith, nat_tests)

-- the fact gives a member number of p, and comes before number n
abbrev gives_before : Id → ℕ → Fact → Bool
gives_before p n f = gives_number p f.body && nat_lt f.num n

-- the way down an equal chain is the same
slots_same : (S T : List Fact) (a : Id) (xs : List Id) → ((x : Id) → In x xs → slot_of S x ≡ slot_of T x) → slots_below S a xs ≡ slots_below T a xs
slots_same S T a [] same = refl
slots_same S T a (x ∷ xs) same = by (same_id x a) (slots_same S T a xs (λ y i. same y (inr i))) (same x (inl refl))
  where
    by : (b : Bool) → slots_below S a xs ≡ slots_below T a xs → slot_of S x ≡ slot_of T x → cond b [] (slots_below S a xs ++ slot_of S x) ≡ cond b [] (slots_below T a xs ++ slot_of T x)
    by true rest slot = refl
    by false rest slot = ap (λ (p : List ℕ). p ++ slot_of S x) rest ∙ ap (λ (p : List ℕ). slots_below T a xs ++ p) slot

-- What holds in two sets

module _ (h : History) (v w : List ℕ) (g : IsGrown h v w) where
  pub inside : IsInside (facts h v) (facts h w)
  inside = facts_inside h v w g.below

  pub settled : IsSettled (facts h v)
  settled = closed_settled h g.lawful v g.before

  pub settled_later : IsSettled (facts h w)
  settled_later = closed_settled h g.lawful w g.after

  pub links_kept : (d : Id) (m : ℕ) (links : Links) → links_of (facts h v) d m ≡ Some links → links_of (facts h w) d m ≡ Some links
  links_kept d m links at =
      let f = join_found (facts h v) d m links at in
      links_joined (facts h w) f.0 d m links settled_later.seated (inside f.0 f.1) f.2

  -- no participant leaves an LRA that wants something
  stayed_kept : (d : Id) (m : ℕ) (x : Verdict) → want (facts h v) d ≡ Some x → has_left (facts h v) d m ≡ false → has_left (facts h w) d m ≡ false
  stayed_kept d m x wanted stayed = false_from (has_left (facts h w) d m) (λ left.
      let leave = any_gives (λ (f : Fact). is_leave d m f.body) (facts h w) left in
      let had = entered_before h g.lawful v w g.before g.after d x wanted leave.0 leave.1 d (leave_asks d m leave.0.body leave.2) (own_in_chain (facts h w) d.num d) in
      clash (has_left (facts h v) d m) (any_from (λ (f : Fact). is_leave d m f.body) (facts h v) leave.0 had leave.2) stayed)

  pub stayed_before : (d : Id) (m : ℕ) → has_left (facts h w) d m ≡ false → has_left (facts h v) d m ≡ false
  stayed_before d m stayed =
      false_from (has_left (facts h v) d m) (λ left. clash (has_left (facts h w) d m) (any_inside (λ (f : Fact). is_leave d m f.body) (facts h v) (facts h w) inside left) stayed)

  -- a participant with its links
  pub record IsMember (d : Id) (m : ℕ) : Type 0 where
    pub links : Links
    pub before : links_of (facts h v) d m ≡ Some links
    pub after : links_of (facts h w) d m ≡ Some links
    pub known : is_participant (facts h w) d m ≡ true

  pub member_kept : (d : Id) (m : ℕ) (x : Verdict) → want (facts h v) d ≡ Some x → is_participant (facts h v) d m ≡ true → IsMember d m
  member_kept d m x wanted known = by (links_of (facts h v) d m) refl (and_left (is_some (links_of (facts h v) d m)) _ known)
    where
      stayed : has_left (facts h w) d m ≡ false
      stayed = stayed_kept d m x wanted (not_false (has_left (facts h v) d m) (and_right (is_some (links_of (facts h v) d m)) _ known))

      by : (o : Option Links) → links_of (facts h v) d m ≡ o → is_some o ≡ true → IsMember d m
      by None at some = absurd cc
      by (Some links) at some =
          let later = links_kept d m links at in
          record { links = links; before = at; after = later; known = both_true (is_some (links_of (facts h w) d m)) _ (ap is_some later) (ap not stayed) }

  pub pending_earlier : (d : Id) (m : ℕ) (act : Act) → is_pending (heard (facts h w) d m act) ≡ true → is_pending (heard (facts h v) d m act) ≡ true
  pending_earlier d m act e = pending_before (heard (facts h v) d m act) (heard (facts h w) d m act) (heard_inside (facts h v) (facts h w) inside d m act) e

  -- Paths

  -- the home of an LRA gave all numbers before it
  number_same : (p x : Id) → is_begun (facts h v) x ≡ true → p.home ≡ x.home → member_number (facts h v) p x.num ≡ member_number (facts h w) p x.num
  number_same p x begun home = ap (λ (fs : List Fact). length fs + 1) (sym (filter_both (is_counted v) (gives_before p x.num) (map fact_of (made h))) ∙ filter_agree _ _ (map fact_of (made h)) agree ∙ filter_both (is_counted w) (gives_before p x.num) (map fact_of (made h)))
    where
      reach : x.num ≤ count v x.home
      reach =
          let begin = any_gives (begins x) (facts h v) begun in
          let at = begins_at x begin.0 begin.2 in
          let entry = counted_entry h v begin.0 begin.1 in
          omega (arith, entry.3, ap (λ (f : Fact). f.num) entry.2, ap (λ (f : Fact). count v f.origin) entry.2, at.1, ap (count v) at.0)

      agree : (f : Fact) → In f (map fact_of (made h)) → (is_counted v f && gives_before p x.num f) ≡ (is_counted w f && gives_before p x.num f)
      agree f i = same_bools (is_counted v f && gives_before p x.num f) (is_counted w f && gives_before p x.num f) forth back
        where
          forth : (is_counted v f && gives_before p x.num f) ≡ true → (is_counted w f && gives_before p x.num f) ≡ true
          forth e = both_true (is_counted w f) _ (le_counted w f (omega (arith, counted_le v f (and_left (is_counted v f) _ e), g.below f.origin))) (and_right (is_counted v f) _ e)

          back : (is_counted w f && gives_before p x.num f) ≡ true → (is_counted v f && gives_before p x.num f) ≡ true
          back e =
              let counted = and_left (is_counted w f) _ e in
              let given = and_right (is_counted w f) _ e in
              let origin = settled_later.seated.givers f p (in_filter (is_counted w) (map fact_of (made h)) f i counted) (and_left (gives_number p f.body) _ given) in
              both_true (is_counted v f) _ (le_counted v f (omega (arith, less_by f.num x.num (and_right (gives_number p f.body) _ given), reach, ap (count v) (origin ∙ home)))) given

  slot_same : (x : Id) → is_begun (facts h v) x ≡ true → slot_of (facts h v) x ≡ slot_of (facts h w) x
  slot_same x begun = by (parent_of (facts h v) x) refl (parent_both h g.lawful v w g.before g.after x begun (begun_later h v w g x begun))
    where
      by : (o : Option Id) → parent_of (facts h v) x ≡ o → parent_of (facts h v) x ≡ parent_of (facts h w) x → slot_of (facts h v) x ≡ slot_of (facts h w) x
      by None at same =
          ap (λ (o : Option Id). option_map_or (λ p. member_number (facts h v) p x.num ∷ []) o []) at
          ∙ ap (λ (o : Option Id). option_map_or (λ p. member_number (facts h w) p x.num ∷ []) o []) (sym at ∙ same)
      by (Some p) at same =
          ap (λ (o : Option Id). option_map_or (λ p. member_number (facts h v) p x.num ∷ []) o []) at
          ∙ ap (λ (n : ℕ). n ∷ []) (number_same p x begun (parent_home (facts h v) x p settled.whole.nested at))
          ∙ ap (λ (o : Option Id). option_map_or (λ p. member_number (facts h w) p x.num ∷ []) o []) (sym at ∙ same)

  pub path_same : (d : Id) (m : ℕ) → is_begun (facts h v) d ≡ true → topmost_cancelled (facts h v) d ≡ topmost_cancelled (facts h w) d → saga_path (facts h v) d m ≡ saga_path (facts h w) d m
  path_same d m begun tops = ap (λ (p : List ℕ). p ++ m ∷ []) (by (topmost_cancelled (facts h v) d) refl)
    where
      same : chain (facts h v) d ≡ chain (facts h w) d
      same = kept_chain h v w g d begun

      slots : (a : Id) → slots_below (facts h v) a (chain (facts h v) d) ≡ slots_below (facts h w) a (chain (facts h w) d)
      slots a =
          slots_same (facts h v) (facts h w) a (chain (facts h v) d)
          (λ x i. slot_same x (along_chain (λ (y : Id). is_begun (facts h v) y ≡ true) (facts h v) settled.whole.parents d.num d begun x i))
          ∙ ap (slots_below (facts h w) a) same

      by : (o : Option Id) → topmost_cancelled (facts h v) d ≡ o
          → option_map_or (λ a. slots_below (facts h v) a (chain (facts h v) d)) (topmost_cancelled (facts h v) d) []
          ≡ option_map_or (λ a. slots_below (facts h w) a (chain (facts h w) d)) (topmost_cancelled (facts h w) d) []
      by None at =
          ap (λ (o : Option Id). option_map_or (λ a. slots_below (facts h v) a (chain (facts h v) d)) o []) at
          ∙ ap (λ (o : Option Id). option_map_or (λ a. slots_below (facts h w) a (chain (facts h w) d)) o []) (sym at ∙ tops)
      by (Some a) at =
          ap (λ (o : Option Id). option_map_or (λ a. slots_below (facts h v) a (chain (facts h v) d)) o []) at
          ∙ slots a
          ∙ ap (λ (o : Option Id). option_map_or (λ a. slots_below (facts h w) a (chain (facts h w) d)) o []) (sym at ∙ tops)
