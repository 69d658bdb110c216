-- the record that one more fact names, if the fact is a leave, a report, a forgot or a told of one
-- of its members
use Rattle.std.proofs.Common.{◌≡◌, inl, inr, ◌≤◌, ◌<◌, ◌+◌, ◌-◌, ◌==◌, ◌&&◌, ℕ, zero, suc, List, [], ◌∷◌, refl, sym, ap, subst, ◌∙◌, Bool, true, false, cond, arith, Option, Some, None, filter, map, length, slice_get, nat_lt, is_some}
use Rattle.std.proofs.lemmas.Bool.Decides.{nat_tests}
use Rattle.state_ids.specs.Ids.{Id}
use Rattle.state_ids.specs.States.{greater}
use Rattle.state_ids.specs.declared.outcome.Act.{Act}
use Rattle.state_ids.specs.declared.outcome.Act.TheVariants.{Complete, Compensate}
use Rattle.state_ids.specs.declared.outcome.Outcome.{Outcome}
use Rattle.state_facts.specs.declared.fact.Body.{Body}
use Rattle.state_facts.specs.declared.fact.Body.TheVariants.{Begin, Join, Leave, Decide, Report, Forgot, Told, Purge}
use Rattle.state_facts.specs.declared.fact.Fact.{Fact}
use Rattle.state_facts.specs.Links.{Links}
use Rattle.state_facts.specs.Duties.{has_forgot, has_told, is_forgot, is_told_of}
use Rattle.state_facts.specs.Lists.{In}
use Rattle.state_facts.specs.Sets.{is_begun, heard, reported, is_leave, has_left, gives_number, member_number, numbers_given, is_participant, links_of}
use Rattle.state_facts.proofs.Heard.{heard_union}
use Rattle.state_forest.specs.declared.record.Member.{Member}
use Rattle.state_forest.specs.declared.record.Member.TheVariants.{Nested, Participant, Left}
use Rattle.state_forest.specs.Records.{givers, member_by, members_of, record_of}
use Rattle.state_forest.specs.Standing.{IsSeated}
use Rattle.state_forest.proofs.GiversOfNumbers.{get_in, giver_in, givers_ascend, number_is, place_is}
use Rattle.state_forest.proofs.Bools.{and_left}
use Rattle.state_forest.proofs.NumberedMembers.{same_is, same_self, join_found}
use Rattle.theory_history.specs.Growth.{IsMore, IsSettled, reporting, leaving, forgetting, member_changed, record_after, hearing}
use Rattle.theory_history.proofs.LeftAsItWas.{any_kept, any_gained, givers_kept, heard_kept, decision_kept, in_more, in_more_new, in_more_old}
use Rattle.theory_history.proofs.FactsOfRecords.{record_gained}
use Rattle.theory_history.proofs.Basics.{greater_none}

-- The numbers with which the participants of an LRA joined

-- the fact is a join with this member number
abbrev pub HasNumber : ℕ → Body → Type 0
HasNumber k (Join id m links) = m ≡ k
HasNumber k (Begin parent deadline) = Unit {0}
HasNumber k (Leave id m) = Unit {0}
HasNumber k (Decide id verdict) = Unit {0}
HasNumber k (Report id m act outcome) = Unit {0}
HasNumber k (Forgot id m) = Unit {0}
HasNumber k (Told id m) = Unit {0}
HasNumber k (Purge root) = Unit {0}

-- the joins are numbered by their places, starting at k
abbrev pub AreNumberedFrom : ℕ → List Fact → Type 0
AreNumberedFrom k fs = (i : ℕ) (f : Fact) → slice_get fs i ≡ Some f → HasNumber (k + i) f.body

number_of : (S : List Fact) (l : Id) (f : Fact) (k : ℕ) → IsSeated S → In f S → gives_number l f.body ≡ true → member_number S l f.num ≡ k → HasNumber k f.body
number_of S l f k seated i gives at = by f.body refl gives
  where
    by : (body : Body) → f.body ≡ body → gives_number l body ≡ true → HasNumber k body
    by (Join id m links) is gives = seated.numbers f l m links i (is ∙ ap (λ (x : Id). Join x m links) (same_is id l gives)) ∙ at
    by (Begin parent deadline) is gives = tt
    by (Leave id m) is gives = tt
    by (Decide id verdict) is gives = tt
    by (Report id m act outcome) is gives = tt
    by (Forgot id m) is gives = tt
    by (Told id m) is gives = tt
    by (Purge root) is gives = tt

-- the givers of an LRA are numbered from 1
pub givers_numbered : (S : List Fact) (l : Id) → IsSeated S → AreNumberedFrom 1 (givers S l)
givers_numbered S l seated i f e =
    let inside = giver_in S l f (get_in (givers S l) i f e) in
    let place = place_is (givers S l) i f (givers_ascend S l seated) e in
    number_of S l f (1 + i) seated inside.0 inside.1 (omega (arith, number_is S l f.num, place))

-- Records of which one member changes

-- what stands for the member m changes by g, and no other member changes
record IsChanged (S T : List Fact) (l : Id) (m : ℕ) (g : Member → Member) : Type 0 where
  pub nested : (n : ℕ) → g (Nested n) ≡ Nested n
  pub this : (num : ℕ) (q : Id) (links : Links) → member_by T l num (Join q m links) ≡ g (member_by S l num (Join q m links))
  pub others : (k num : ℕ) (q : Id) (links : Links) → (k ≡ m → ⊥) → member_by T l num (Join q k links) ≡ member_by S l num (Join q k links)

this_member : (S T : List Fact) (l : Id) (m : ℕ) (g : Member → Member) → IsChanged S T l m g → (num : ℕ) (body : Body) → HasNumber m body → member_by T l num body ≡ g (member_by S l num body)
this_member S T l m g changed num (Join q k links) h = subst (λ n. member_by T l num (Join q n links) ≡ g (member_by S l num (Join q n links))) (sym h) (changed.this num q links)
this_member S T l m g changed num (Begin p d) h = sym (changed.nested num)
this_member S T l m g changed num (Leave q n) h = sym (changed.nested num)
this_member S T l m g changed num (Decide q w) h = sym (changed.nested num)
this_member S T l m g changed num (Report q n act o) h = sym (changed.nested num)
this_member S T l m g changed num (Forgot q n) h = sym (changed.nested num)
this_member S T l m g changed num (Told q n) h = sym (changed.nested num)
this_member S T l m g changed num (Purge q) h = sym (changed.nested num)

other_member : (S T : List Fact) (l : Id) (m : ℕ) (g : Member → Member) → IsChanged S T l m g → (k num : ℕ) (body : Body) → (k ≡ m → ⊥) → HasNumber k body → member_by T l num body ≡ member_by S l num body
other_member S T l m g changed k num (Join q j links) n h = changed.others j num q links (λ e. n (sym h ∙ e))
other_member S T l m g changed k num (Begin p d) n h = refl
other_member S T l m g changed k num (Leave q j) n h = refl
other_member S T l m g changed k num (Decide q w) n h = refl
other_member S T l m g changed k num (Report q j act o) n h = refl
other_member S T l m g changed k num (Forgot q j) n h = refl
other_member S T l m g changed k num (Told q j) n h = refl
other_member S T l m g changed k num (Purge q) n h = refl

first_number : (k : ℕ) (f : Fact) (fs : List Fact) → AreNumberedFrom k (f ∷ fs) → HasNumber k f.body
first_number k f fs h = let same : k + 0 ≡ k = omega arith in subst (λ n. HasNumber n f.body) same (h 0 f refl)

later_numbers : (k : ℕ) (f : Fact) (fs : List Fact) → AreNumberedFrom k (f ∷ fs) → AreNumberedFrom (k + 1) fs
later_numbers k f fs h i x e = let same : k + suc i ≡ k + 1 + i = omega arith in subst (λ n. HasNumber n x.body) same (h (suc i) x e)

rest_same : (S T : List Fact) (l : Id) (m : ℕ) (g : Member → Member) → IsChanged S T l m g → (k : ℕ) (fs : List Fact) → m < k → AreNumberedFrom k fs → map (λ (x : Fact). member_by T l x.num x.body) fs ≡ map (λ (x : Fact). member_by S l x.num x.body) fs
rest_same S T l m g changed k [] less h = refl
rest_same S T l m g changed k (x ∷ xs) less h =
    let here = other_member S T l m g changed k x.num x.body (λ e. omega (arith, e, less)) (first_number k x xs h) in
    let rest = rest_same S T l m g changed (k + 1) xs (omega (arith, less)) (later_numbers k x xs h) in
    cc

walk : (S T : List Fact) (l : Id) (m : ℕ) (g : Member → Member) → IsChanged S T l m g → (i k : ℕ) (fs : List Fact) → m ≡ k + i → AreNumberedFrom k fs → map (λ (x : Fact). member_by T l x.num x.body) fs ≡ member_changed g i (map (λ (x : Fact). member_by S l x.num x.body) fs)
walk S T l m g changed i k [] e h = refl
walk S T l m g changed zero k (x ∷ xs) e h =
    let same : k ≡ m = omega (arith, e) in
    let here = this_member S T l m g changed x.num x.body (subst (λ n. HasNumber n x.body) same (first_number k x xs h)) in
    let rest = rest_same S T l m g changed (k + 1) xs (omega (arith, e)) (later_numbers k x xs h) in
    cc
walk S T l m g changed (suc i) k (x ∷ xs) e h =
    let here = other_member S T l m g changed k x.num x.body (λ s. omega (arith, e, s)) (first_number k x xs h) in
    let rest = walk S T l m g changed i (k + 1) xs (omega (arith, e)) (later_numbers k x xs h) in
    cc

members_changed : (f : Fact) (S T : List Fact) → IsMore f S T → IsSeated S → (l : Id) (m : ℕ) (g : Member → Member) → gives_number l f.body ≡ false → 1 ≤ m → IsChanged S T l m g → members_of T l ≡ member_changed g (m - 1) (members_of S l)
members_changed f S T more seated l m g none some changed =
    ap (map (λ (x : Fact). member_by T l x.num x.body)) (givers_kept f S T more l none)
    ∙ walk S T l m g changed (m - 1) 1 (givers S l) (omega (arith, some)) (givers_numbered S l seated)

-- Outcomes

-- with one more fact, the greater of the two outcomes is heard
pub heard_gained : (f : Fact) (S T : List Fact) → IsMore f S T → (l : Id) (m : ℕ) (a : Act) → heard T l m a ≡ greater (heard S l m a) (reported l m a f.body)
heard_gained f S T more l m a =
    heard_union S (f ∷ []) T (record { left = λ g k. in_more_old f S T more g k; right = λ g k. new g k; only = λ g k. elim (in_more f S T more g k) [ inl s ↦ inr (inl s) | inr o ↦ inl o ] }) l m a
    ∙ ap (greater (heard S l m a)) (greater_none (reported l m a f.body))
  where
    new : (g : Fact) → In g (f ∷ []) → In g T
    new g (inl s) = subst (λ (x : Fact). In x T) (sym s) (in_more_new f S T more)
    new g (inr k) = absurd k

number_apart : (k m : ℕ) → (k ≡ m → ⊥) → (m == k) ≡ false
number_apart k m n = grind (arith, nat_tests)

number_self : (m : ℕ) → (m == m) ≡ true
number_self m = grind (arith, nat_tests)

-- A report

report_one : (S T : List Fact) (l q : Id) (num m : ℕ) (links : Links) (act : Act) (outcome : Outcome) → ((a : Act) → heard T l m a ≡ greater (heard S l m a) (reported l m a (Report l m act outcome))) → has_left T l m ≡ has_left S l m → has_forgot T l m ≡ has_forgot S l m → has_told T l m ≡ has_told S l m
    → member_by T l num (Join q m links) ≡ reporting act outcome (member_by S l num (Join q m links))
report_one S T l q num m links Complete outcome h left forgot told =
    let own = same_self l in
    let number = number_self m in
    let completed : heard T l m Complete ≡ greater (heard S l m Complete) (Some outcome) = h Complete ∙ rw (own, number) refl in
    let compensated : heard T l m Compensate ≡ heard S l m Compensate = h Compensate ∙ rw (own, number) (greater_none (heard S l m Compensate)) in
    rw (left, completed, compensated, forgot, told) (by (has_left S l m))
  where
    by : (b : Bool) → cond b Left (Participant (record { links = links; completed = greater (heard S l m Complete) (Some outcome); compensated = heard S l m Compensate; forgotten = has_forgot S l m; told = has_told S l m })) ≡ reporting Complete outcome (cond b Left (Participant (record { links = links; completed = heard S l m Complete; compensated = heard S l m Compensate; forgotten = has_forgot S l m; told = has_told S l m })))
    by true = refl
    by false = refl
report_one S T l q num m links Compensate outcome h left forgot told =
    let own = same_self l in
    let number = number_self m in
    let completed : heard T l m Complete ≡ heard S l m Complete = h Complete ∙ rw (own, number) (greater_none (heard S l m Complete)) in
    let compensated : heard T l m Compensate ≡ greater (heard S l m Compensate) (Some outcome) = h Compensate ∙ rw (own, number) refl in
    rw (left, completed, compensated, forgot, told) (by (has_left S l m))
  where
    by : (b : Bool) → cond b Left (Participant (record { links = links; completed = heard S l m Complete; compensated = greater (heard S l m Compensate) (Some outcome); forgotten = has_forgot S l m; told = has_told S l m })) ≡ reporting Compensate outcome (cond b Left (Participant (record { links = links; completed = heard S l m Complete; compensated = heard S l m Compensate; forgotten = has_forgot S l m; told = has_told S l m })))
    by true = refl
    by false = refl

report_changes : (f : Fact) (S T : List Fact) → IsMore f S T → (l : Id) (m : ℕ) (act : Act) (outcome : Outcome) → f.body ≡ Report l m act outcome → IsChanged S T l m (reporting act outcome)
report_changes f S T more l m act outcome body =
    record {
      nested = λ n. still act n;
      this = λ num q links. report_one S T l q num m links act outcome (λ a. heard_gained f S T more l m a ∙ rw body refl) (left m) (forgot m) (told m);
      others = λ k num q links n. let lk = left k in let fk = forgot k in let tk = told k in let c = apart k n Complete in let d = apart k n Compensate in rw (lk, fk, tk, c, d) refl;
    }
  where
    still : (a : Act) (n : ℕ) → reporting a outcome (Nested n) ≡ Nested n
    still Complete n = refl
    still Compensate n = refl

    left : (k : ℕ) → has_left T l k ≡ has_left S l k
    left k = any_kept f S T more (λ x. is_leave l k x.body) (rw body refl)

    forgot : (k : ℕ) → has_forgot T l k ≡ has_forgot S l k
    forgot k = any_kept f S T more (λ x. is_forgot l k x.body) (rw body refl)

    told : (k : ℕ) → has_told T l k ≡ has_told S l k
    told k = any_kept f S T more (λ x. is_told_of l k x.body) (rw body refl)

    apart : (k : ℕ) → (k ≡ m → ⊥) → (a : Act) → heard T l k a ≡ heard S l k a
    apart k n a = heard_kept f S T more l k a (let e = number_apart k m n in let own = same_self l in rw (body, own, e) refl)

-- a report, by any node, about a member whose number was given
pub report_record : (f : Fact) (S T : List Fact) → IsMore f S T → IsSettled S → (nodes : ℕ) (l : Id) (m : ℕ) (act : Act) (outcome : Outcome) → f.body ≡ Report l m act outcome → 1 ≤ m → is_begun S l ≡ true → record_of nodes T l ≡ record_after f (record_of nodes S l)
report_record f S T more settled nodes l m act outcome body some b =
    record_gained f S T more settled (λ p g. absurd (let wrong : gives_number p (Report l m act outcome) ≡ true = rw body at g in cc)) nodes l b (rw body (same_self l))
    (decision_kept f S T more l (λ v. rw body refl) ∙ rw body refl)
    (members_changed f S T more settled.seated l m (reporting act outcome) (rw body refl) some (report_changes f S T more l m act outcome body) ∙ rw body refl)

-- A leave

leave_one : (S T : List Fact) (l q : Id) (num m : ℕ) (links : Links) → has_left T l m ≡ true → member_by T l num (Join q m links) ≡ leaving (member_by S l num (Join q m links))
leave_one S T l q num m links left = rw left (by (has_left S l m))
  where
    by : (b : Bool) → Left ≡ leaving (cond b Left (Participant (record { links = links; completed = heard S l m Complete; compensated = heard S l m Compensate; forgotten = has_forgot S l m; told = has_told S l m })))
    by true = refl
    by false = refl

leave_changes : (f : Fact) (S T : List Fact) → IsMore f S T → (l : Id) (m : ℕ) → f.body ≡ Leave l m → IsChanged S T l m leaving
leave_changes f S T more l m body =
    record {
      nested = λ n. refl;
      this = λ num q links. leave_one S T l q num m links (any_gained f S T more (λ x. is_leave l m x.body) ∙ (let own = same_self l in let number = number_self m in rw (body, own, number) refl));
      others = λ k num q links n. let lk = left k n in let fk = forgot k in let tk = told k in let c = same k Complete in let d = same k Compensate in rw (lk, fk, tk, c, d) refl;
    }
  where
    left : (k : ℕ) → (k ≡ m → ⊥) → has_left T l k ≡ has_left S l k
    left k n = any_kept f S T more (λ x. is_leave l k x.body) (let e = number_apart k m n in let own = same_self l in rw (body, own, e) refl)

    forgot : (k : ℕ) → has_forgot T l k ≡ has_forgot S l k
    forgot k = any_kept f S T more (λ x. is_forgot l k x.body) (rw body refl)

    told : (k : ℕ) → has_told T l k ≡ has_told S l k
    told k = any_kept f S T more (λ x. is_told_of l k x.body) (rw body refl)

    same : (k : ℕ) → (a : Act) → heard T l k a ≡ heard S l k a
    same k a = heard_kept f S T more l k a (rw body refl)

-- a leave of a member whose number was given
pub leave_record : (f : Fact) (S T : List Fact) → IsMore f S T → IsSettled S → (nodes : ℕ) (l : Id) (m : ℕ) → f.body ≡ Leave l m → 1 ≤ m → is_begun S l ≡ true → record_of nodes T l ≡ record_after f (record_of nodes S l)
leave_record f S T more settled nodes l m body some b =
    record_gained f S T more settled (λ p g. absurd (let wrong : gives_number p (Leave l m) ≡ true = rw body at g in cc)) nodes l b (rw body (same_self l))
    (decision_kept f S T more l (λ v. rw body refl) ∙ rw body refl)
    (members_changed f S T more settled.seated l m leaving (rw body refl) some (leave_changes f S T more l m body) ∙ rw body refl)

-- A forgot

forgot_one : (S T : List Fact) (l q : Id) (num m : ℕ) (links : Links) → has_forgot T l m ≡ true → has_told T l m ≡ has_told S l m → has_left T l m ≡ has_left S l m → ((a : Act) → heard T l m a ≡ heard S l m a) → member_by T l num (Join q m links) ≡ forgetting (member_by S l num (Join q m links))
forgot_one S T l q num m links forgot told left h = let c = h Complete in let d = h Compensate in rw (left, c, d, forgot, told) (by (has_left S l m))
  where
    by : (b : Bool) → cond b Left (Participant (record { links = links; completed = heard S l m Complete; compensated = heard S l m Compensate; forgotten = true; told = has_told S l m })) ≡ forgetting (cond b Left (Participant (record { links = links; completed = heard S l m Complete; compensated = heard S l m Compensate; forgotten = has_forgot S l m; told = has_told S l m })))
    by true = refl
    by false = refl

forgot_changes : (f : Fact) (S T : List Fact) → IsMore f S T → (l : Id) (m : ℕ) → f.body ≡ Forgot l m → IsChanged S T l m forgetting
forgot_changes f S T more l m body =
    record {
      nested = λ n. refl;
      this = λ num q links. forgot_one S T l q num m links (any_gained f S T more (λ x. is_forgot l m x.body) ∙ (let own = same_self l in let number = number_self m in rw (body, own, number) refl)) (told m) (left m) (same m);
      others = λ k num q links n. let lk = left k in let fk = forgot k n in let tk = told k in let c = same k Complete in let d = same k Compensate in rw (lk, fk, tk, c, d) refl;
    }
  where
    left : (k : ℕ) → has_left T l k ≡ has_left S l k
    left k = any_kept f S T more (λ x. is_leave l k x.body) (rw body refl)

    forgot : (k : ℕ) → (k ≡ m → ⊥) → has_forgot T l k ≡ has_forgot S l k
    forgot k n = any_kept f S T more (λ x. is_forgot l k x.body) (let e = number_apart k m n in let own = same_self l in rw (body, own, e) refl)

    told : (k : ℕ) → has_told T l k ≡ has_told S l k
    told k = any_kept f S T more (λ x. is_told_of l k x.body) (rw body refl)

    same : (k : ℕ) → (a : Act) → heard T l k a ≡ heard S l k a
    same k a = heard_kept f S T more l k a (rw body refl)

-- a forgot of a member whose number was given
pub forgot_record : (f : Fact) (S T : List Fact) → IsMore f S T → IsSettled S → (nodes : ℕ) (l : Id) (m : ℕ) → f.body ≡ Forgot l m → 1 ≤ m → is_begun S l ≡ true → record_of nodes T l ≡ record_after f (record_of nodes S l)
forgot_record f S T more settled nodes l m body some b =
    record_gained f S T more settled (λ p g. absurd (let wrong : gives_number p (Forgot l m) ≡ true = rw body at g in cc)) nodes l b (rw body (same_self l))
    (decision_kept f S T more l (λ v. rw body refl) ∙ rw body refl)
    (members_changed f S T more settled.seated l m forgetting (rw body refl) some (forgot_changes f S T more l m body) ∙ rw body refl)

-- A told

told_one : (S T : List Fact) (l q : Id) (num m : ℕ) (links : Links) → has_told T l m ≡ true → has_forgot T l m ≡ has_forgot S l m → has_left T l m ≡ has_left S l m → ((a : Act) → heard T l m a ≡ heard S l m a) → member_by T l num (Join q m links) ≡ hearing (member_by S l num (Join q m links))
told_one S T l q num m links told forgot left h = let c = h Complete in let d = h Compensate in rw (left, c, d, told, forgot) (by (has_left S l m))
  where
    by : (b : Bool) → cond b Left (Participant (record { links = links; completed = heard S l m Complete; compensated = heard S l m Compensate; forgotten = has_forgot S l m; told = true })) ≡ hearing (cond b Left (Participant (record { links = links; completed = heard S l m Complete; compensated = heard S l m Compensate; forgotten = has_forgot S l m; told = has_told S l m })))
    by true = refl
    by false = refl

told_changes : (f : Fact) (S T : List Fact) → IsMore f S T → (l : Id) (m : ℕ) → f.body ≡ Told l m → IsChanged S T l m hearing
told_changes f S T more l m body =
    record {
      nested = λ n. refl;
      this = λ num q links. told_one S T l q num m links (any_gained f S T more (λ x. is_told_of l m x.body) ∙ (let own = same_self l in let number = number_self m in rw (body, own, number) refl)) (forgot m) (left m) (same m);
      others = λ k num q links n. let lk = left k in let fk = told k n in let tk = forgot k in let c = same k Complete in let d = same k Compensate in rw (lk, fk, tk, c, d) refl;
    }
  where
    left : (k : ℕ) → has_left T l k ≡ has_left S l k
    left k = any_kept f S T more (λ x. is_leave l k x.body) (rw body refl)

    told : (k : ℕ) → (k ≡ m → ⊥) → has_told T l k ≡ has_told S l k
    told k n = any_kept f S T more (λ x. is_told_of l k x.body) (let e = number_apart k m n in let own = same_self l in rw (body, own, e) refl)

    forgot : (k : ℕ) → has_forgot T l k ≡ has_forgot S l k
    forgot k = any_kept f S T more (λ x. is_forgot l k x.body) (rw body refl)

    same : (k : ℕ) → (a : Act) → heard T l k a ≡ heard S l k a
    same k a = heard_kept f S T more l k a (rw body refl)

-- a told of a member whose number was given (as `forgot_record`, except for the mark; one lemma for
-- both was not tried)
pub told_record : (f : Fact) (S T : List Fact) → IsMore f S T → IsSettled S → (nodes : ℕ) (l : Id) (m : ℕ) → f.body ≡ Told l m → 1 ≤ m → is_begun S l ≡ true → record_of nodes T l ≡ record_after f (record_of nodes S l)
told_record f S T more settled nodes l m body some b =
    record_gained f S T more settled (λ p g. absurd (let wrong : gives_number p (Told l m) ≡ true = rw body at g in cc)) nodes l b (rw body (same_self l))
    (decision_kept f S T more l (λ v. rw body refl) ∙ rw body refl)
    (members_changed f S T more settled.seated l m hearing (rw body refl) some (told_changes f S T more l m body) ∙ rw body refl)

-- Participants

filter_at_most : (p q : Fact → Bool) (fs : List Fact) → length (filter (λ x. p x && q x) fs) ≤ length (filter p fs)
filter_at_most p q [] = omega arith
filter_at_most p q (x ∷ fs) = by (p x) (q x) (filter_at_most p q fs)
  where
    by : (b c : Bool) → length (filter (λ y. p y && q y) fs) ≤ length (filter p fs) → length (cond (b && c) (x ∷ filter (λ y. p y && q y) fs) (filter (λ y. p y && q y) fs)) ≤ length (cond b (x ∷ filter p fs) (filter p fs))
    by true true less = omega (arith, less)
    by true false less = omega (arith, less)
    by false c less = less

filter_fewer : (p q : Fact → Bool) (fs : List Fact) (f : Fact) → In f fs → p f ≡ true → q f ≡ false → length (filter (λ x. p x && q x) fs) + 1 ≤ length (filter p fs)
filter_fewer p q [] f i e n = absurd i
filter_fewer p q (x ∷ fs) f i e n = by i (p x) refl (q x) refl (λ j. filter_fewer p q fs f j e n) (filter_at_most p q fs)
  where
    by : In f (x ∷ fs) → (b : Bool) → p x ≡ b → (c : Bool) → q x ≡ c → (In f fs → length (filter (λ y. p y && q y) fs) + 1 ≤ length (filter p fs)) → length (filter (λ y. p y && q y) fs) ≤ length (filter p fs)
        → length (cond (b && c) (x ∷ filter (λ y. p y && q y) fs) (filter (λ y. p y && q y) fs)) + 1 ≤ length (cond b (x ∷ filter p fs) (filter p fs))
    by (inl s) true g true h rest less = absurd (let wrong : q x ≡ false = ap q (sym s) ∙ n in cc)
    by (inl s) true g false h rest less = omega (arith, less)
    by (inl s) false g c h rest less = absurd (let wrong : p x ≡ true = ap p (sym s) ∙ e in cc)
    by (inr j) true g true h rest less = omega (arith, rest j)
    by (inr j) true g false h rest less = omega (arith, rest j)
    by (inr j) false g c h rest less = rest j

-- the number of a participant is one that was given
pub participant_given : (S : List Fact) (l : Id) (m : ℕ) → IsSeated S → is_participant S l m ≡ true → (1 ≤ m) × (m ≤ numbers_given S l)
participant_given S l m seated e = by (links_of S l m) refl (and_left (is_some (links_of S l m)) _ e)
  where
    by : (o : Option Links) → links_of S l m ≡ o → is_some o ≡ true → (1 ≤ m) × (m ≤ numbers_given S l)
    by None joined some = absurd cc
    by (Some links) joined some =
        let f = join_found S l m links joined in
        let number : m ≡ member_number S l f.0.num = seated.numbers f.0 l m links f.1 f.2 in
        let gives : gives_number l f.0.body ≡ true = ap (gives_number l) f.2 ∙ same_self l in
        let fewer = filter_fewer (λ (x : Fact). gives_number l x.body) (λ (x : Fact). nat_lt x.num f.0.num) S f.0 f.1 gives (not_less f.0.num) in
        (omega (arith, number), omega (arith, number, fewer))
      where
        not_less : (n : ℕ) → nat_lt n n ≡ false
        not_less n = grind (arith, nat_tests)
