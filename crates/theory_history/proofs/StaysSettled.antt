-- one more lawful fact keeps a set settled
use Rattle.std.proofs.Common.{◌≡◌, ◌⊎◌, inl, inr, ◌≤◌, ◌<◌, ◌+◌, ◌&&◌, ℕ, List, [], ◌∷◌, ◌++◌, refl, sym, ap, subst, ◌∙◌, Bool, true, false, cond, arith, filter, length, nat_lt}
use Rattle.std.proofs.lemmas.Bool.Decides.{nat_tests}
use Rattle.state_ids.specs.Ids.{Id}
use Rattle.state_facts.specs.declared.fact.Fact.{Fact}
use Rattle.state_facts.specs.Lists.{In, IsInside}
use Rattle.state_facts.specs.Sets.{NamesEarlier, begun_by, gives_number, is_begun, member_number, numbers_given}
use Rattle.state_facts.proofs.Membership.{any_from}
use Rattle.state_forest.specs.Records.{is_named}
use Rattle.state_forest.specs.Standing.{AreOnce, IsWhole}
use Rattle.state_forest.proofs.Begins.{begins_own}
use Rattle.state_forest.proofs.Bools.{all_from, all_in}
use Rattle.theory_history.specs.Growth.{IsMore, IsSettled}
use Rattle.theory_history.specs.Views.{IsCounted}
use Rattle.theory_history.specs.Replies.{Accepted, body_for, judge, next_fact}
use Rattle.state_facts.specs.declared.command.Command.{Command}
use Rattle.theory_history.proofs.AcceptedCommands.{lawful_gives}
use Rattle.theory_history.proofs.SettledFacts.{IsEntered, MeetsSettled, body_gives, begun_inside, chain_inside, earlier_new, filter_agree, meets_new, join_gives, named_new, number_within, settled_from, whole_from}

-- A list with one more element

in_was : {X : Type 0} (before after : List X) (f g : X) → In g (before ++ after) → In g (before ++ f ∷ after)
in_was [] after f g m = inr m
in_was (x ∷ before) after f g (inl s) = inl s
in_was (x ∷ before) after f g (inr m) = inr (in_was before after f g m)

in_new : {X : Type 0} (before after : List X) (f : X) → In f (before ++ f ∷ after)
in_new [] after f = inl refl
in_new (x ∷ before) after f = inr (in_new before after f)

in_either : {X : Type 0} (before after : List X) (f g : X) → In g (before ++ f ∷ after) → (g ≡ f) ⊎ In g (before ++ after)
in_either [] after f g (inl s) = inl s
in_either [] after f g (inr m) = inr m
in_either (x ∷ before) after f g (inl s) = inr (inl s)
in_either (x ∷ before) after f g (inr m) = elim (in_either before after f g m) [ inl s ↦ inl s | inr n ↦ inr (inr n) ]

length_with : {X : Type 0} (p : X → Bool) (before after : List X) (f : X) → length (filter p (before ++ f ∷ after)) ≡ length (filter p (before ++ after)) + cond (p f) 1 0
length_with p [] after f = by (p f)
  where
    by : (b : Bool) → length (cond b (f ∷ filter p after) (filter p after)) ≡ length (filter p after) + cond b 1 0
    by true = omega arith
    by false = omega arith
length_with p (x ∷ before) after f = by (p x) (length_with p before after f)
  where
    by : (b : Bool) → length (filter p (before ++ f ∷ after)) ≡ length (filter p (before ++ after)) + cond (p f) 1 0 → length (cond b (x ∷ filter p (before ++ f ∷ after)) (filter p (before ++ f ∷ after))) ≡ length (cond b (x ∷ filter p (before ++ after)) (filter p (before ++ after))) + cond (p f) 1 0
    by true e = omega (arith, e)
    by false e = e

once_with : (before after : List Fact) (f : Fact) → AreOnce (before ++ after) → ((g : Fact) → In g (before ++ after) → g.origin ≡ f.origin → g.num < f.num) → AreOnce (before ++ f ∷ after)
once_with [] after f once newest =
    (all_from (λ (g : Fact). f.origin ≡ g.origin → f.num ≡ g.num → ⊥) after (λ g m o n. omega (arith, n, newest g m (sym o))), once)
once_with (x ∷ before) after f once newest = (
  all_from (λ (g : Fact). x.origin ≡ g.origin → x.num ≡ g.num → ⊥) (before ++ f ∷ after) (λ g m. elim (in_either before after f g m) [
    | inl s ↦ (λ o n. omega (arith, n, ap (λ (y : Fact). y.num) s, newest x (inl refl) (o ∙ ap (λ (y : Fact). y.origin) s)))
    | inr k ↦ all_in (λ (g : Fact). x.origin ≡ g.origin → x.num ≡ g.num → ⊥) (before ++ after) once.0 g k
  ]),
  once_with before after f once.1 (λ g m. newest g (inr m)),
)

-- One more fact

-- the old facts stay
pub in_more : (f : Fact) (S T : List Fact) → IsMore f S T → IsInside S T
in_more f S T more = λ g m. subst (λ (U : List Fact). In g U) (sym more.is) (in_was more.before more.after f g (subst (λ (U : List Fact). In g U) more.was m))

-- the new fact is there
pub new_more : (f : Fact) (S T : List Fact) → IsMore f S T → In f T
new_more f S T more = subst (λ (U : List Fact). In f U) (sym more.is) (in_new more.before more.after f)

-- and the set has no other fact
pub either_more : (f g : Fact) (S T : List Fact) → IsMore f S T → In g T → (g ≡ f) ⊎ In g S
either_more f g S T more m =
    elim (in_either more.before more.after f g (subst (λ (U : List Fact). In g U) more.is m)) [
      | inl s ↦ inl s
      | inr k ↦ inr (subst (λ (U : List Fact). In g U) (sym more.was) k)
    ]

count_more : (f : Fact) (S T : List Fact) (p : Fact → Bool) → IsMore f S T → length (filter p T) ≡ length (filter p S) + cond (p f) 1 0
count_more f S T p more =
    ap (λ (U : List Fact). length (filter p U)) more.is
    ∙ (length_with p more.before more.after f ∙ ap (λ (U : List Fact). length (filter p U) + cond (p f) 1 0) (sym more.was))

once_more : (f : Fact) (S T : List Fact) → IsMore f S T → AreOnce S → AreOnce T
once_more f S T more once =
    subst AreOnce (sym more.is) (once_with more.before more.after f (subst AreOnce more.was once) (λ g m. more.newest g (subst (λ (U : List Fact). In g U) (sym more.was) m)))

given_more : (f : Fact) (S T : List Fact) (l : Id) → IsMore f S T → numbers_given S l ≤ numbers_given T l
given_more f S T l more = omega (arith, count_more f S T (λ g. gives_number l g.body) more)

-- the member number that an old fact gives stays the same
number_stays : (f g : Fact) (S T : List Fact) (l : Id) → IsMore f S T → IsSettled S → (gives_number l f.body ≡ true → f.origin ≡ l.home) → In g S → gives_number l g.body ≡ true → member_number T l g.num ≡ member_number S l g.num
number_stays f g S T l more settled home m e =
    let without : (gives_number l f.body && nat_lt f.num g.num) ≡ false = by (gives_number l f.body) refl in
    let counted = count_more f S T (λ x. gives_number l x.body && nat_lt x.num g.num) more in
    ap (λ n. n + 1) (counted ∙ rw without (none (length (filter (λ x. gives_number l x.body && nat_lt x.num g.num) S))))
  where
    none : (n : ℕ) → n + 0 ≡ n
    none n = omega arith

    lesser : (a b : ℕ) → b < a → nat_lt a b ≡ false
    lesser a b h = grind (arith, nat_tests)

    by : (b : Bool) → gives_number l f.body ≡ b → (b && nat_lt f.num g.num) ≡ false
    by false t = refl
    by true t = lesser f.num g.num (more.newest g m (settled.seated.givers g l m e ∙ sym (home t)))

-- the new fact gives the next member number
number_next : (f : Fact) (S T : List Fact) (l : Id) → IsMore f S T → IsSettled S → f.origin ≡ l.home → member_number T l f.num ≡ numbers_given S l + 1
number_next f S T l more settled home =
    let counted = count_more f S T (λ x. gives_number l x.body && nat_lt x.num f.num) more in
    let without : (gives_number l f.body && nat_lt f.num f.num) ≡ false = itself (gives_number l f.body) f.num in
    let same = filter_agree (λ (x : Fact). gives_number l x.body && nat_lt x.num f.num) (λ (x : Fact). gives_number l x.body) S (λ g m. by g m (gives_number l g.body) refl) in
    ap (λ n. n + 1) (counted ∙ rw without (none (length (filter (λ x. gives_number l x.body && nat_lt x.num f.num) S)) ∙ ap (λ (U : List Fact). length U) same))
  where
    none : (n : ℕ) → n + 0 ≡ n
    none n = omega arith

    itself : (b : Bool) (n : ℕ) → (b && nat_lt n n) ≡ false
    itself b n = grind (arith, nat_tests)

    less : (a b : ℕ) → a < b → nat_lt a b ≡ true
    less a b h = grind (arith, nat_tests)

    by : (g : Fact) → In g S → (b : Bool) → gives_number l g.body ≡ b → (b && nat_lt g.num f.num) ≡ b
    by g m false t = refl
    by g m true t = less g.num f.num (more.newest g m (settled.seated.givers g l m t ∙ sym home))

-- an old fact stays fit
fit_old : (f g : Fact) (S T : List Fact) → IsMore f S T → IsSettled S → ((l : Id) → gives_number l f.body ≡ true → f.origin ≡ l.home) → In g S → MeetsSettled T g
fit_old f g S T more settled home m =
    let inside = in_more f S T more in
    record {
      givers = λ l e. settled.seated.givers g l m e;
      numbers = λ l k links e. settled.seated.numbers g l k links m e ∙ sym (number_stays f g S T l more settled (home l) m (join_gives l k links g.body e));
      few = λ l e. omega (arith, number_stays f g S T l more settled (home l) m e, number_within S l g m e, settled.few l);
      shallow = λ e.
          let begun : is_begun S (begun_by g) ≡ true = any_from _ S g m (begins_own g e) in
          let same = chain_inside S T settled.whole settled.seated.once (once_more f S T more settled.seated.once) inside (begun_by g) begun in
          omega (arith, settled.shallow (begun_by g) begun, ap (λ (c : List Id). length c) same);
      numbered = settled.numbered g m;
      named = λ l e. begun_inside S T inside l (settled.named g l m e);
      purged = λ l e. begun_inside S T inside l (settled.purged g l m e);
      members = λ l k e.
          let old = settled.members g l k m e in
          (old.0, omega (arith, old.1, given_more f S T l more));
    }

-- a settled set stays settled with one more fact that its node may enter
pub settled_with : (f : Fact) (S T : List Fact) (v : List ℕ) (node : ℕ) (c : Command) → IsSettled S → IsCounted S v → 1 ≤ node → node ≤ length v → judge S v node c ≡ Accepted → f ≡ next_fact S v node c → IsMore f S T → IsSettled T
settled_with f S T v node c settled counted some there taken is more =
    next_settled S T v node c settled counted taken (subst (λ (g : Fact). IsMore g S T) is more)
  where
    next_settled : (S T : List Fact) (v : List ℕ) (node : ℕ) (c : Command) → IsSettled S → IsCounted S v → judge S v node c ≡ Accepted → IsMore (next_fact S v node c) S T → IsSettled T
    next_settled S T v node c settled counted taken more =
        let f = next_fact S v node c in
        let once : AreOnce T = once_more f S T more settled.seated.once in
        let inside : IsInside S T = in_more f S T more in
        let home : (l : Id) → gives_number l (body_for S c) ≡ true → node ≡ l.home = λ l e. sym (body_gives S v node c l (lawful_gives S v node c taken) e).0 in
        let whole : IsWhole T =
        whole_from T
        (λ g m. elim (either_more f g S T more m) [
          | inl s ↦ subst NamesEarlier (sym s) (earlier_new S v node c counted taken)
          | inr k ↦ all_in NamesEarlier S settled.whole.nested g k
        ])
        (λ g l m e. elim (either_more f g S T more m) [
          | inl s ↦ begun_inside S T inside l (named_new S v node c l taken (subst (λ (x : Fact). is_named l x.body ≡ true) s e))
          | inr k ↦ begun_inside S T inside l (settled.named g l k e)
        ]) in
        let new : IsEntered S T v node c =
        record {
          accepted = taken;
          part = inside;
          there = new_more f S T more;
          whole = settled.whole;
          once = settled.seated.once;
          next = λ l e. number_next f S T l more settled (home l e);
          joins = λ g l m links k e. settled.seated.numbers g l m links k e ∙ sym (number_stays f g S T l more settled (home l) k (join_gives l m links g.body e));
        } in
        settled_from T whole once (λ g m. elim (either_more f g S T more m) [
          | inl s ↦ subst (MeetsSettled T) (sym s) (meets_new S T v node c new whole once)
          | inr k ↦ fit_old f g S T more settled home k
        ])
