-- The words of what is chosen.
use Rattle.std.proofs.Common.{◌≡◌, ◌≢◌, ◌≤◌, ◌==◌, ◌++◌, ℕ, Bool, true, false, cond, List, [], ◌∷◌, get_or, drop, sym, refl, ap, ◌∙◌, arith, true≢false, subst}
use Rattle.std.specs.Prelude.{Option, Some, None, codes}
use Rattle.std.specs.Net.Grammar.{IsSocketText}
use Rattle.std.specs.Net.Socket.{socket_port}
use Rattle.std.specs.declared.net.socket_addr.SocketAddr.{SocketAddr}
use Rattle.std.proofs.NetLemmas.Theorems.{IsSocketText_unique}
use Rattle.std.proofs.lemmas.Bool.Decides.{nat_tests}
use Rattle.std.proofs.lemmas.Fmt.{decimal_injective}
use Rattle.program_args.specs.Arguments.{Choices, IsListen, IsTime, Mean, Texts, flagged, has, said}
use Rattle.program_args.specs.Refusals.{HasChoices}
use Rattle.program_args.specs.Readings.{IsNotFirst, IsNotSaid, IsUnnamed}

behind : (name a b : List ℕ) → name ++ a ≡ name ++ b → a ≡ b
behind [] a b e = e
behind (x ∷ xs) a b e = behind xs a b (ap (drop 1) e)

first_of_both : (v w : List ℕ) (vs ws : List (List ℕ)) → v ∷ vs ≡ w ∷ ws → v ≡ w
first_of_both v w vs ws e = ap (λ (l : List (List ℕ)). get_or l 0 []) e

-- what begins with a name says what stands behind it
pub one_said : (name text : List ℕ) (words rest others : List (List ℕ)) (told : Option (List ℕ)) → words ≡ (name ++ text) ∷ rest → IsNotSaid name others → words ≡ said name told ++ others → (◌≡◌ {A = Option (List ℕ)} (Some text) told) × (rest ≡ others)
one_said name text words rest others None is other e = absurd (other text rest (sym e ∙ is))
one_said name text words rest others (Some it) is other e =
    let same : (name ++ text) ∷ rest ≡ (name ++ it) ∷ others = sym is ∙ e in
    (ap (λ l. Some l) (behind name text it (first_of_both (name ++ text) (name ++ it) rest others same)), ap (drop 1) same)

-- a text means one address
pub one_address : (text : Option (List ℕ)) (a b : Option SocketAddr) → IsListen text a → IsListen text b → a ≡ b
one_address None None None x y = refl
one_address None None (Some b) x y = absurd y
one_address None (Some a) b x y = absurd x
one_address (Some text) None b x y = absurd x
one_address (Some text) (Some a) None x y = absurd y
one_address (Some text) (Some a) (Some b) x y = ap (λ l. Some l) (IsSocketText_unique text a b x.0 y.0)

-- a port has to be
pub no_port : (text : List ℕ) (a : SocketAddr) (address : Option SocketAddr) → IsSocketText text a → (1 ≤ socket_port a → ⊥) → IsListen (Some text) address → ⊥
no_port text a None x none is = is
no_port text a (Some b) x none is = none (subst (λ s. 1 ≤ socket_port s) (sym (IsSocketText_unique text a b x is.0)) is.1)

-- texts are one by one the same
pub one_texts : {listen operate names ended failed group copies patience : Option (List ℕ)} {strict anew : Bool} (t : Texts) → listen ≡ t.listen → operate ≡ t.operate → names ≡ t.names → ended ≡ t.ended → failed ≡ t.failed → group ≡ t.group
    → copies ≡ t.copies → patience ≡ t.patience → strict ≡ t.strict → anew ≡ t.anew
    → ◌≡◌ {A = Texts} (record { listen = listen; operate = operate; names = names; ended = ended; failed = failed; group = group; copies = copies; patience = patience; strict = strict; anew = anew }) t
one_texts t a b c d e f k p s g = λ i. record { listen = a i; operate = b i; names = c i; ended = d i; failed = e i; group = f i; copies = k i; patience = p i; strict = s i; anew = g i }

-- a text means one number
pub one_time : (text : Option (List ℕ)) (a b : Option ℕ) → IsTime text a → IsTime text b → a ≡ b
one_time None None None x y = refl
one_time None None (Some b) x y = absurd y
one_time None (Some a) b x y = absurd x
one_time (Some text) None b x y = absurd x
one_time (Some text) (Some a) None x y = absurd y
one_time (Some text) (Some a) (Some b) x y = ap (λ n. Some n) (decimal_injective a b x.0 y.0 (sym x.1 ∙ y.1))

-- texts mean one listen, operate, copies, patience and strict
pub one_choices : (t texts : Texts) (a b : Choices) → t ≡ texts → Mean t a → Mean texts b → HasChoices b a
one_choices t texts a b same of_t of_texts =
    let here = subst (λ (x : Texts). Mean x a) same of_t in (
      one_address texts.listen a.listen b.listen here.listen of_texts.listen,
      one_address texts.operate a.operate b.operate here.operate of_texts.operate,
      one_time texts.copies a.copies b.copies here.copies of_texts.copies,
      one_time texts.patience a.patience b.patience here.patience of_texts.patience,
      sym here.strict ∙ of_texts.strict,
    )

equal : (a b : ℕ) → a ≡ b → (a == b) ≡ true
equal a b e = grind (arith, nat_tests)

-- whether two names have another byte at one place
unfoldable differ : List ℕ → List ℕ → Bool
differ [] other = false
differ (x ∷ xs) [] = false
differ (x ∷ xs) (y ∷ ys) = cond (x == y) (differ xs ys) true

apart : (name other : List ℕ) → differ name other ≡ true → (text more : List ℕ) → name ++ text ≢ other ++ more
unfolding differ
apart [] other are text more e = true≢false (sym are)
apart (x ∷ xs) [] are text more e = true≢false (sym are)
apart (x ∷ xs) (y ∷ ys) are text more e =
    let same : x ≡ y = ap (λ (l : List ℕ). get_or l 0 0) e in
    let rest : differ xs ys ≡ true = sym (ap (λ b. cond b (differ xs ys) true) (equal x y same)) ∙ are in apart xs ys rest text more (ap (drop 1) e)

-- so a word of one doesn't begin with the other
past : (name other : List ℕ) (told : Option (List ℕ)) (rest : List (List ℕ)) → differ name other ≡ true → IsNotSaid name rest → IsNotSaid name (said other told ++ rest)
past name other None rest are none = none
past name other (Some it) rest are none = λ text others e. apart name other are text it (sym (first_of_both (other ++ it) (name ++ text) rest others e))

-- an address begins with no name
named : (name : List ℕ) → ((text : List ℕ) → has 61 (name ++ text) ≡ true) → (words : List (List ℕ)) → IsUnnamed words → IsNotSaid name words
named name has_it [] none = λ text others e. cc
named name has_it (word ∷ words) none = λ text others e. true≢false (sym (has_it text) ∙ ap (has 61) (sym (first_of_both word (name ++ text) words others e)) ∙ none.0)

past_anew : (name : List ℕ) → ((text : List ℕ) → has 61 (name ++ text) ≡ true) → differ name (codes "anew") ≡ true → (anew : Bool) (addresses : List (List ℕ)) → IsUnnamed addresses → IsNotSaid name (flagged (codes "anew") anew ++ addresses)
past_anew name has_it are false addresses none = named name has_it addresses none
past_anew name has_it are true addresses none = λ text others e. apart name (codes "anew") are text [] (sym (first_of_both (codes "anew") (name ++ text) addresses others e))

past_strict : (name : List ℕ) (is : Bool) (rest : List (List ℕ)) → differ name (codes "strict") ≡ true → IsNotSaid name rest → IsNotSaid name (flagged (codes "strict") is ++ rest)
past_strict name false rest are none = none
past_strict name true rest are none = λ text others e. apart name (codes "strict") are text [] (sym (first_of_both (codes "strict") (name ++ text) rest others e))

pub not_anew : (addresses : List (List ℕ)) → IsUnnamed addresses → IsNotFirst (codes "anew") addresses
not_anew [] none = λ others e. cc
not_anew (word ∷ words) none = λ others e. none.2 (first_of_both word (codes "anew") words others e)

-- the words behind each
abbrev pub behind_strict : Texts → List (List ℕ) → List (List ℕ)
behind_strict t addresses = flagged (codes "anew") t.anew ++ addresses

abbrev pub behind_patience : Texts → List (List ℕ) → List (List ℕ)
behind_patience t addresses = flagged (codes "strict") t.strict ++ behind_strict t addresses

abbrev pub behind_copies : Texts → List (List ℕ) → List (List ℕ)
behind_copies t addresses = said (codes "patience=") t.patience ++ behind_patience t addresses

abbrev pub behind_group : Texts → List (List ℕ) → List (List ℕ)
behind_group t addresses = said (codes "copies=") t.copies ++ behind_copies t addresses

abbrev pub behind_failed : Texts → List (List ℕ) → List (List ℕ)
behind_failed t addresses = said (codes "group=") t.group ++ behind_group t addresses

abbrev pub behind_ended : Texts → List (List ℕ) → List (List ℕ)
behind_ended t addresses = said (codes "keep-failed=") t.failed ++ behind_failed t addresses

abbrev pub behind_names : Texts → List (List ℕ) → List (List ℕ)
behind_names t addresses = said (codes "keep=") t.ended ++ behind_ended t addresses

abbrev pub behind_operate : Texts → List (List ℕ) → List (List ℕ)
behind_operate t addresses = said (codes "names=") t.names ++ behind_names t addresses

abbrev pub behind_listen : Texts → List (List ℕ) → List (List ℕ)
behind_listen t addresses = said (codes "operate=") t.operate ++ behind_operate t addresses

-- none of them has its name
pub not_strict : (t : Texts) (addresses : List (List ℕ)) → IsUnnamed addresses → IsNotFirst (codes "strict") (behind_strict t addresses)
unfolding differ
not_strict t addresses none = past t.anew
  where
    of_address : (words : List (List ℕ)) → IsUnnamed words → IsNotFirst (codes "strict") words
    of_address [] is = λ others e. cc
    of_address (word ∷ words) is = λ others e. is.1 (first_of_both word (codes "strict") words others e)

    past : (anew : Bool) → IsNotFirst (codes "strict") (flagged (codes "anew") anew ++ addresses)
    past false = of_address addresses none
    past true = λ others e. apart (codes "anew") (codes "strict") refl [] [] (first_of_both (codes "anew") (codes "strict") addresses others e)

-- a name of these, behind which none of the later words has it
abbrev Differs : List ℕ → Type 0
Differs name = (differ name (codes "strict") ≡ true) × (differ name (codes "anew") ≡ true)

flags : (name : List ℕ) → ((text : List ℕ) → has 61 (name ++ text) ≡ true) → Differs name → (t : Texts) (addresses : List (List ℕ)) → IsUnnamed addresses → IsNotSaid name (behind_patience t addresses)
flags name has_it are t addresses none = past_strict name t.strict (behind_strict t addresses) are.0 (past_anew name has_it are.1 t.anew addresses none)

pub not_patience : (t : Texts) (addresses : List (List ℕ)) → IsUnnamed addresses → IsNotSaid (codes "patience=") (behind_patience t addresses)
unfolding differ
not_patience t addresses none = flags (codes "patience=") (λ text. refl) (refl, refl) t addresses none

pub not_copies : (t : Texts) (addresses : List (List ℕ)) → IsUnnamed addresses → IsNotSaid (codes "copies=") (behind_copies t addresses)
unfolding differ
not_copies t addresses none =
    let name = codes "copies=" in past name (codes "patience=") t.patience (behind_patience t addresses) refl (flags name (λ text. refl) (refl, refl) t addresses none)

-- one that differs from these isn't said behind the group
past_copies : (name : List ℕ) → ((text : List ℕ) → has 61 (name ++ text) ≡ true) → Differs name → differ name (codes "patience=") ≡ true → differ name (codes "copies=") ≡ true → (t : Texts) (addresses : List (List ℕ)) → IsUnnamed addresses → IsNotSaid name (behind_group t addresses)
past_copies name has_it are patience copies t addresses none =
    past name (codes "copies=") t.copies (behind_copies t addresses) copies (past name (codes "patience=") t.patience (behind_patience t addresses) patience (flags name has_it are t addresses none))

pub not_group : (t : Texts) (addresses : List (List ℕ)) → IsUnnamed addresses → IsNotSaid (codes "group=") (behind_group t addresses)
unfolding differ
not_group t addresses none = past_copies (codes "group=") (λ text. refl) (refl, refl) refl refl t addresses none

pub not_failed : (t : Texts) (addresses : List (List ℕ)) → IsUnnamed addresses → IsNotSaid (codes "keep-failed=") (behind_failed t addresses)
unfolding differ
not_failed t addresses none =
    let name = codes "keep-failed=" in past name (codes "group=") t.group (behind_group t addresses) refl (past_copies name (λ text. refl) (refl, refl) refl refl t addresses none)

pub not_ended : (t : Texts) (addresses : List (List ℕ)) → IsUnnamed addresses → IsNotSaid (codes "keep=") (behind_ended t addresses)
unfolding differ
not_ended t addresses none =
    let name = codes "keep=" in
    let no_group = past name (codes "group=") t.group (behind_group t addresses) refl (past_copies name (λ text. refl) (refl, refl) refl refl t addresses none) in
    past name (codes "keep-failed=") t.failed (behind_failed t addresses) refl no_group

pub not_names : (t : Texts) (addresses : List (List ℕ)) → IsUnnamed addresses → IsNotSaid (codes "names=") (behind_names t addresses)
unfolding differ
not_names t addresses none =
    let name = codes "names=" in
    let no_group = past name (codes "group=") t.group (behind_group t addresses) refl (past_copies name (λ text. refl) (refl, refl) refl refl t addresses none) in
    let no_failed = past name (codes "keep-failed=") t.failed (behind_failed t addresses) refl no_group in
    past name (codes "keep=") t.ended (behind_ended t addresses) refl no_failed

pub not_operate : (t : Texts) (addresses : List (List ℕ)) → IsUnnamed addresses → IsNotSaid (codes "operate=") (behind_operate t addresses)
unfolding differ
not_operate t addresses none =
    let name = codes "operate=" in
    let no_group = past name (codes "group=") t.group (behind_group t addresses) refl (past_copies name (λ text. refl) (refl, refl) refl refl t addresses none) in
    let no_failed = past name (codes "keep-failed=") t.failed (behind_failed t addresses) refl no_group in
    let no_ended = past name (codes "keep=") t.ended (behind_ended t addresses) refl no_failed in
    past name (codes "names=") t.names (behind_names t addresses) refl no_ended

pub not_listen : (t : Texts) (addresses : List (List ℕ)) → IsUnnamed addresses → IsNotSaid (codes "listen=") (behind_listen t addresses)
unfolding differ
not_listen t addresses none =
    let name = codes "listen=" in
    let no_group = past name (codes "group=") t.group (behind_group t addresses) refl (past_copies name (λ text. refl) (refl, refl) refl refl t addresses none) in
    let no_failed = past name (codes "keep-failed=") t.failed (behind_failed t addresses) refl no_group in
    let no_ended = past name (codes "keep=") t.ended (behind_ended t addresses) refl no_failed in
    let no_names = past name (codes "names=") t.names (behind_names t addresses) refl no_ended in
    past name (codes "operate=") t.operate (behind_operate t addresses) refl no_names
