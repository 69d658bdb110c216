-- The word that says the nodes.
use Rattle.std.proofs.Common.{Bool, ◌≡◌, ◌≤◌, ◌+◌, inl, inr, ℕ, List, [], ◌∷◌, ◌++◌, length, refl, Some, Option, map, get_or, drop, subst, sym, ap, ◌∙◌, arith}
use Rattle.std.specs.Fmt.{decimal}
use Rattle.std.specs.Prelude.{unwrap_or}
use Rattle.std.proofs.lemmas.Fmt.{decimal_digit}
use Rattle.program_args.specs.Arguments.{HaveCopies, HavePorts, AskNodes, Choices, SayChoices, SaysNodes}
use Rattle.program_args.specs.Readings.{IsOneOrTwo}
use Rattle.program_args.specs.Refusals.{Fit, HasChoices, OnWrong}
use Rattle.program_args.specs.declared.wrong_word.WrongWord.{WrongWord}
use Rattle.program_args.specs.declared.member_args.MemberError.{MemberError}
use Rattle.program_args.specs.declared.member_args.MemberError.TheVariants.{NoMemory, Wrong}

-- nodes are said by digits
pub by_digits : (word : List ℕ) (first last : ℕ) → first ≤ last → last ≤ 8 → SaysNodes word first last → IsOneOrTwo word (48 + first) (48 + last)
by_digits word first last order high (inl (is, same)) = inl (is ∙ decimal_digit first (omega arith), ap (λ n. 48 + n) same)
by_digits word first last order high (inr is) = inr (is ∙ ap (λ l. l ++ 45 ∷ decimal last) (decimal_digit first (omega arith)) ∙ ap (λ l. (48 + first) ∷ 45 ∷ l) (decimal_digit last (omega arith)))

-- digits say nodes
pub from_digits : (word : List ℕ) (one two first last : ℕ) → one ≡ 48 + first → two ≡ 48 + last → first ≤ last → last ≤ 8 → IsOneOrTwo word one two → SaysNodes word first last
from_digits word one two first last e f order high (inl (is, same)) = inl (is ∙ ap (λ n. n ∷ []) e ∙ sym (decimal_digit first (omega arith)), omega arith)
from_digits word one two first last e f order high (inr is) =
    inr (is ∙ ap (λ n. n ∷ 45 ∷ two ∷ []) e ∙ ap (λ n. (48 + first) ∷ 45 ∷ n ∷ []) f ∙ ap (λ l. (48 + first) ∷ 45 ∷ l) (sym (decimal_digit last (omega arith))) ∙ ap (λ l. l ++ 45 ∷ decimal last) (sym (decimal_digit first (omega arith))))

-- of two pairs that are one, the parts are
pub parts_of : (a b x y : ℕ) → ◌≡◌ {A = Option (ℕ × ℕ)} (Some (a, b)) (Some (x, y)) → (a ≡ x) × (b ≡ y)
parts_of a b x y e = let read : Option (ℕ × ℕ) → ℕ × ℕ = λ pair. unwrap_or pair (0, 0) in (ap (λ pair. (read pair).0) e, ap (λ pair. (read pair).1) e)

-- so the digits are those
pub same_digits : (word : List ℕ) (one two first last : ℕ) → ((a b : ℕ) → IsOneOrTwo word a b → ◌≡◌ {A = Option (ℕ × ℕ)} (Some (one, two)) (Some (a, b))) → first ≤ last → last ≤ 8 → SaysNodes word first last → (one ≡ 48 + first) × (two ≡ 48 + last)
same_digits word one two first last only order high says =
    parts_of one two (48 + first) (48 + last) (only (48 + first) (48 + last) (by_digits word first last order high says))

-- the first of some words
pub first_is : {X : Type 0} (f : X → List ℕ) (words rest : List X) (x : X) → words ≡ x ∷ rest → (word : List ℕ) (more : List (List ℕ)) → map f words ≡ word ∷ more → f x ≡ word
first_is f words rest x one word more are = ap (λ l. get_or l 0 []) (sym (ap (map f) one) ∙ are)

pub none_left : {X : Type 0} (xs : List X) → length xs ≡ 0 → xs ≡ []
none_left [] e = refl
none_left (x ∷ xs) e = absurd (omega arith)

-- what words begin with
pub begins : {X : Type 0} (f : X → List ℕ) (words rest behind : List X) (x y : X) → words ≡ x ∷ rest → rest ≡ y ∷ behind
    → (first last : ℕ) (choices : Choices) (folder : List ℕ) (addresses : List (List ℕ))
    → AskNodes (map f words) first last choices folder addresses
    → SaysNodes (f x) first last × SayChoices (map f behind) choices addresses
begins f words rest behind x y one two first last choices folder addresses asks =
    let e : f x ∷ f y ∷ map f behind ≡ asks.nodes ∷ folder ∷ asks.behind = sym (ap (map f) one ∙ ap (λ l. f x ∷ map f l) two) ∙ asks.are in (
      subst (λ word. SaysNodes word first last) (sym (ap (λ l. get_or l 0 []) e)) asks.say_nodes,
      subst (λ words. SayChoices words choices addresses) (sym (ap (drop 2) e)) asks.say_choices,
    )

-- the same copies of the same nodes
pub other_copies : (first last nodes a b n : ℕ) (copies patience k p : Option ℕ) (strict s : Bool)
    → a ≡ first → b ≡ last → n ≡ nodes → k ≡ copies → p ≡ patience → s ≡ strict → HaveCopies first last nodes copies patience strict → HaveCopies a b n k p s
other_copies first last nodes a b n copies patience k p strict s e f g h i j have =
    subst (λ (x : ℕ). HaveCopies x b n k p s) (sym e)
    (subst (λ (x : ℕ). HaveCopies first x n k p s) (sym f)
    (subst (λ (x : ℕ). HaveCopies first last x k p s) (sym g)
    (subst (λ (x : Option ℕ). HaveCopies first last nodes x p s) (sym h)
    (subst (λ (x : Option ℕ). HaveCopies first last nodes copies x s) (sym i)
    (subst (λ (x : Bool). HaveCopies first last nodes copies patience x) (sym j) have)))))

-- the same options fit the same nodes
pub same_fit : (first last a b : ℕ) (choices these : Choices) (addresses others : List (List ℕ)) → a ≡ first → b ≡ last → HasChoices choices these → others ≡ addresses → Fit first last choices addresses → Fit a b these others
same_fit first last a b choices these addresses others e f has same fit =
    let many : length others ≡ length addresses = ap length same in (
      ((omega arith, omega arith), λ below. has.0 ∙ fit.0.1 (omega arith)),
      subst (λ at. HavePorts a b at) (sym has.1) (subst (λ (n : ℕ). HavePorts n b choices.operate) (sym e) (subst (λ (n : ℕ). HavePorts first n choices.operate) (sym f) fit.1)),
      other_copies first last (length addresses) a b (length others) choices.copies choices.patience these.copies these.patience choices.strict these.strict e f many has.2 has.3 has.4 fit.2,
    )

-- what is said of a wrong word
pub on_wrong : (fault : MemberError) (said more : WrongWord → Type 0) → ((wrong : WrongWord) → said wrong → more wrong) → OnWrong fault said → OnWrong fault more
on_wrong (Wrong wrong) said more so is = so wrong is
on_wrong NoMemory said more so is = tt
