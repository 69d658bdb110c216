-- outcomes and stamps in a union of sets
use Rattle.std.proofs.Common.{◌≡◌, ◌≤◌, ℕ, zero, suc, List, [], ◌∷◌, refl, sym, ap, ◌∙◌, arith, Option, Some, None, max}
use Rattle.state_ids.specs.Ids.{Id}
use Rattle.state_ids.specs.States.{level, greater}
use Rattle.state_ids.specs.declared.outcome.Act.{Act}
use Rattle.state_ids.specs.declared.outcome.Outcome.{Outcome}
use Rattle.state_ids.specs.declared.outcome.Outcome.TheVariants.{Busy, Done, Failed}
use Rattle.state_facts.specs.declared.fact.Fact.{Fact}
use Rattle.state_facts.specs.Sets.{reported, heard}
use Rattle.state_facts.specs.Lists.{IsInside, IsUnion, most}
use Rattle.state_facts.proofs.Membership.{most_union, most_least, most_bounds}

level_greater : (a b : Option Outcome) → level (greater a b) ≡ max (level a) (level b)
level_greater None b = omega arith
level_greater (Some Busy) None = refl
level_greater (Some Busy) (Some Busy) = refl
level_greater (Some Busy) (Some Done) = refl
level_greater (Some Busy) (Some Failed) = refl
level_greater (Some Done) None = refl
level_greater (Some Done) (Some Busy) = refl
level_greater (Some Done) (Some Done) = refl
level_greater (Some Done) (Some Failed) = refl
level_greater (Some Failed) None = refl
level_greater (Some Failed) (Some Busy) = refl
level_greater (Some Failed) (Some Done) = refl
level_greater (Some Failed) (Some Failed) = refl

-- the outcome of a level
abbrev at_level : ℕ → Option Outcome
at_level zero = None
at_level (suc zero) = Some Busy
at_level (suc (suc zero)) = Some Done
at_level (suc (suc (suc n))) = Some Failed

at_level_back : (o : Option Outcome) → at_level (level o) ≡ o
at_level_back None = refl
at_level_back (Some Busy) = refl
at_level_back (Some Done) = refl
at_level_back (Some Failed) = refl

pub same_level : (a b : Option Outcome) → level a ≡ level b → a ≡ b
same_level a b e = sym (at_level_back a) ∙ ap at_level e ∙ at_level_back b

pub level_heard : (S : List Fact) (l : Id) (m : ℕ) (a : Act) → level (heard S l m a) ≡ most (λ f. level (reported l m a f.body)) S
level_heard [] l m a = refl
level_heard (f ∷ S) l m a = level_greater (reported l m a f.body) (heard S l m a) ∙ ap (max (level (reported l m a f.body))) (level_heard S l m a)

-- in a union the greater of the two outcomes is heard
pub heard_union : (S T U : List Fact) → IsUnion S T U → (l : Id) (m : ℕ) (a : Act) → heard U l m a ≡ greater (heard S l m a) (heard T l m a)
heard_union S T U u l m a =
    let g : Fact → ℕ = λ f. level (reported l m a f.body) in
    same_level _ _ (level_heard U l m a ∙ most_union g S T U u ∙ sym (level_greater (heard S l m a) (heard T l m a) ∙ (let s = level_heard S l m a in let t = level_heard T l m a in rw (s, t) refl)))

-- if there are more facts, no less is heard
pub heard_inside : (S T : List Fact) → IsInside S T → (l : Id) (m : ℕ) (a : Act) → level (heard S l m a) ≤ level (heard T l m a)
heard_inside S T i l m a =
    let g : Fact → ℕ = λ f. level (reported l m a f.body) in
    let below : most g S ≤ most g T = most_least g S (most g T) (λ f n. most_bounds g T f (i f n)) in
    let s = level_heard S l m a in let t = level_heard T l m a in
    omega (arith, s, t)
