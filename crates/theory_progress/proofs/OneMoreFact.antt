-- what one more fact does to what an LRA shows
use Rattle.std.proofs.Common.{◌≡◌, ◌⊎◌, inl, inr, ◌&&◌, ℕ, List, refl, sym, ap, ◌∙◌, Bool, true, false, cond, Option, Some, None}
use mathlib.Core.Bool.{not}
use Rattle.std.specs.List.{list_any}
use Rattle.state_ids.specs.Ids.{Id, same_id}
use Rattle.state_ids.specs.States.{same_member_status}
use Rattle.state_ids.specs.declared.status.MemberStatus.{MemberStatus}
use Rattle.state_ids.specs.declared.status.MemberStatus.TheVariants.{FailedToComplete, FailedToCompensate}
use Rattle.state_ids.specs.declared.outcome.Act.{Act}
use Rattle.state_ids.specs.declared.outcome.Act.TheVariants.{Complete, Compensate}
use Rattle.state_ids.specs.declared.outcome.Verdict.{Verdict}
use Rattle.state_ids.specs.declared.outcome.Verdict.TheVariants.{Close, Cancel}
use Rattle.state_facts.specs.declared.fact.Body.{Body}
use Rattle.state_facts.specs.declared.fact.Body.TheVariants.{Begin, Join, Leave, Decide, Report, Forgot, Told, Purge}
use Rattle.state_facts.specs.declared.fact.Fact.{Fact}
use Rattle.state_facts.specs.Lists.{In}
use Rattle.state_facts.specs.Sets.{chain, has_left, is_begun, is_decided, is_decision, is_leave, is_open, is_under, joined_status, reported, shows, shows_now, some_shows, want}
use Rattle.state_facts.proofs.Membership.{any_agree, any_from, any_gives}
use Rattle.state_forest.specs.Records.{is_named}
use Rattle.state_forest.proofs.NumberedMembers.{same_self}
use Rattle.state_forest.proofs.UnderAnLra.{under_self}
use Rattle.theory_history.specs.Growth.{IsMore, IsSettled}
use Rattle.theory_history.proofs.LeftAsItWas.{any_kept, chain_kept, heard_kept, in_more_old}

-- What is wanted, by the tests of a chain

abbrev wanted_by : Bool → Bool → Option Verdict
wanted_by c k = cond c (Some Cancel) (cond k (Some Close) None)

closed_by : (c k later : Bool) → (k ≡ true → later ≡ true) → (wanted_by c later ≡ wanted_by c k) ⊎ (wanted_by c later ≡ Some Close)
closed_by true k later up = inl refl
closed_by false k true up = inr refl
closed_by false false false up = inl refl
closed_by false true false up = absurd (let wrong : false ≡ true = up refl in cc)

cancelled_by : (c later k : Bool) → (c ≡ true → later ≡ true) → (wanted_by later k ≡ wanted_by c k) ⊎ (wanted_by later k ≡ Some Cancel)
cancelled_by c true k up = inr refl
cancelled_by false false k up = inl refl
cancelled_by true false k up = absurd (let wrong : false ≡ true = up refl in cc)

never : (b : Bool) → (b && false) ≡ false
never true = refl
never false = refl

module _ (f : Fact) (S T : List Fact) (more : IsMore f S T) (settled : IsSettled S) where
  want_is : (l : Id) → is_begun S l ≡ true → want T l ≡ wanted_by (list_any (is_decided T Cancel) (chain S l)) (list_any (is_decided T Close) (chain S l))
  want_is l begun =
      ap (λ (c : List Id). wanted_by (list_any (is_decided T Cancel) c) (list_any (is_decided T Close) c)) (chain_kept f S T more settled.whole l begun)

  -- a fact that makes no such decision leaves those of a chain as they were
  same_any : (x : Verdict) (l : Id) → ((a : Id) → is_decision a x f.body ≡ false) → list_any (is_decided T x) (chain S l) ≡ list_any (is_decided S x) (chain S l)
  same_any x l none = any_agree (is_decided T x) (is_decided S x) (chain S l) (λ a i. any_kept f S T more (λ (g : Fact). is_decision a x g.body) (none a))

  more_any : (x : Verdict) (l : Id) → list_any (is_decided S x) (chain S l) ≡ true → list_any (is_decided T x) (chain S l) ≡ true
  more_any x l e =
      let found = any_gives (is_decided S x) (chain S l) e in
      let fact = any_gives (λ (g : Fact). is_decision found.0 x g.body) S found.2 in
      any_from (is_decided T x) (chain S l) found.0 found.1 (any_from (λ (g : Fact). is_decision found.0 x g.body) T fact.0 (in_more_old f S T more fact.0 fact.1) fact.2)

  pub same_want : (l : Id) → is_begun S l ≡ true → ((x : Verdict) (a : Id) → is_decision a x f.body ≡ false) → want T l ≡ want S l
  same_want l begun none =
      want_is l begun
      ∙ ap (λ (b : Bool). wanted_by b (list_any (is_decided T Close) (chain S l))) (same_any Cancel l (none Cancel))
      ∙ ap (wanted_by (list_any (is_decided S Cancel) (chain S l))) (same_any Close l (none Close))

  -- after a decision, the LRA wants the same, or what was decided
  pub want_decided : (l d : Id) (x : Verdict) → is_begun S l ≡ true → f.body ≡ Decide d x → (want T l ≡ want S l) ⊎ (want T l ≡ Some x)
  want_decided l d Close begun is =
      let other = same_any Cancel l (λ a. ap (is_decision a Cancel) is ∙ never (same_id d a)) in
      let now = want_is l begun ∙ ap (λ (b : Bool). wanted_by b (list_any (is_decided T Close) (chain S l))) other in
      elim (closed_by (list_any (is_decided S Cancel) (chain S l)) (list_any (is_decided S Close) (chain S l)) (list_any (is_decided T Close) (chain S l)) (more_any Close l)) [
        | inl same ↦ inl (now ∙ same)
        | inr closes ↦ inr (now ∙ closes)
      ]
  want_decided l d Cancel begun is =
      let other = same_any Close l (λ a. ap (is_decision a Close) is ∙ never (same_id d a)) in
      let now = want_is l begun ∙ ap (wanted_by (list_any (is_decided T Cancel) (chain S l))) other in
      elim (cancelled_by (list_any (is_decided S Cancel) (chain S l)) (list_any (is_decided T Cancel) (chain S l)) (list_any (is_decided S Close) (chain S l)) (more_any Cancel l)) [
        | inl same ↦ inl (now ∙ same)
        | inr cancels ↦ inr (now ∙ cancels)
      ]

-- the fact says nothing of participants under l, and leaves what their LRAs want
pub record IsIdle (f : Fact) (S T : List Fact) (l : Id) : Type 0 where
  pub wants : (d : Id) → is_begun S d ≡ true → is_under S l d ≡ true → want T d ≡ want S d
  pub hears : (d : Id) (m : ℕ) (act : Act) → reported d m act f.body ≡ None
  pub joins : (test : MemberStatus → Bool) → shows test T l f.body ≡ false
  pub leaves : (d : Id) (m : ℕ) → is_under S l d ≡ true → is_leave d m f.body ≡ false

module _ (f : Fact) (S T : List Fact) (more : IsMore f S T) (settled : IsSettled S) (l : Id) (begun : is_begun S l ≡ true) (idle : IsIdle f S T l) where
  same_body : (test : MemberStatus → Bool) (g : Fact) → In g S → (body : Body) → g.body ≡ body → shows test T l body ≡ shows test S l body
  same_body test g i (Join d m links) e = by (is_under S l d) refl
    where
      known : is_begun S d ≡ true
      known = settled.named g d i (ap (is_named d) e ∙ same_self d)

      under : is_under T l d ≡ is_under S l d
      under = ap (list_any (same_id l)) (chain_kept f S T more settled.whole d known)

      by : (b : Bool) → is_under S l d ≡ b → shows test T l (Join d m links) ≡ shows test S l (Join d m links)
      by false at =
          ap (λ (b : Bool). b && (not (has_left T d m) && test (joined_status T d m links))) (under ∙ at)
          ∙ sym (ap (λ (b : Bool). b && (not (has_left S d m) && test (joined_status S d m links))) at)
      by true at =
          let left : has_left T d m ≡ has_left S d m = any_kept f S T more (λ (y : Fact). is_leave d m y.body) (idle.leaves d m at) in
          let wants = idle.wants d known at in
          let completed = heard_kept f S T more d m Complete (idle.hears d m Complete) in
          let compensated = heard_kept f S T more d m Compensate (idle.hears d m Compensate) in
          rw (under, left, wants, completed, compensated) refl
  same_body test g i (Begin parent deadline) e = refl
  same_body test g i (Leave d m) e = refl
  same_body test g i (Decide d verdict) e = refl
  same_body test g i (Report d m act outcome) e = refl
  same_body test g i (Forgot d m) e = refl
  same_body test g i (Told d m) e = refl
  same_body test g i (Purge root) e = refl

  same_some : (test : MemberStatus → Bool) → some_shows test T l ≡ some_shows test S l
  same_some test =
      any_kept f S T more (λ (g : Fact). shows test T l g.body) (idle.joins test)
      ∙ any_agree (λ (g : Fact). shows test T l g.body) (λ (g : Fact). shows test S l g.body) S (λ g i. same_body test g i g.body refl)

  pub same_shown : shows_now T l ≡ shows_now S l
  same_shown =
      let wants = idle.wants l begun (under_self S settled.whole.nested l) in
      let opened = same_some is_open in
      let incomplete = same_some (same_member_status FailedToComplete) in
      let uncompensated = same_some (same_member_status FailedToCompensate) in
      rw (wants, opened, incomplete, uncompensated) refl
