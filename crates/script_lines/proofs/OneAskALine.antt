-- A line spells at most one ask: its words determine the form, and the form's words determine each
-- value. No table of pairs is needed: the forms have names in a plain data type, two bytes
-- determine the form, and `subst` carries that over.
use Rattle.std.proofs.Common.{◌≡◌, ℕ, suc, ◌<◌, ◌≤◌, ◌^◌, ◌+◌, ◌*◌, ◌==◌, inl, inr, Bool, true, false, cond, List, [], ◌∷◌, ◌++◌, Option, Some, None, IfSome, if◌then◌else◌, codes, get_or, take, drop, refl, ap, sym, subst, ◌∙◌, arith}
use Rattle.std.specs.Prelude.{All, map}
use Rattle.std.specs.Fmt.{decimal}
use Rattle.std.proofs.lemmas.Fmt.{digits_decimal}
use Rattle.std.specs.Str.Parse.{AllDigits}
use Rattle.std.proofs.lemmas.Str.Parse.{tells_digits}
use Rattle.std.proofs.lemmas.Bool.Decides.{Decides-eqb}
use Rattle.state_ids.specs.Ids.{Id, IsId, IsTextOf, id_text, layout}
use Rattle.state_ids.proofs.Layouts.{home_back, num_back}
use Rattle.state_ids.specs.Names.{act_name, outcome_name}
use Rattle.state_ids.specs.declared.outcome.Act.{Act}
use Rattle.state_ids.specs.declared.outcome.Act.TheVariants.{Complete as CompleteAct, Compensate as CompensateAct}
use Rattle.state_ids.specs.declared.outcome.Outcome.{Outcome}
use Rattle.state_ids.specs.declared.outcome.Outcome.TheVariants.{Busy, Done, Failed}
use Rattle.state_ids.specs.declared.outcome.Verdict.TheVariants.{Close, Cancel}
use Rattle.state_facts.specs.Links.{Links}
use Rattle.state_facts.specs.declared.command.Command.TheVariants.{Begin, Join, Leave, Decide, Report, Forgot, Told, Purge}
use Rattle.wire_callbacks.specs.declared.answer.Answer.{Answer}
use Rattle.wire_callbacks.specs.declared.answer.Answer.TheVariants.{Code, Broken}
use Rattle.wire_callbacks.specs.declared.answer.Kind.{Kind}
use Rattle.wire_callbacks.specs.declared.answer.Kind.TheVariants.{Complete, Compensate, Status, Forget, After}
use Rattle.wire_callbacks.specs.CallWords.{kind_name}
use Rattle.script_lines.specs.declared.asking.Ask.{Ask}
use Rattle.script_lines.specs.declared.asking.Ask.TheVariants.{Enter, Tick, Send, SendOld, Deliver, Restart, Show, Member, Duties, Hear, Front, Same, Text, Read}
use Rattle.script_lines.specs.Asks.{IsInRange, HasArguments, IsMemberNumber, IsNodeOf, IsNumber, Spells, kept_words, parent_words, verb_of}
use Rattle.script_lines.specs.CallLines.{IsAnswerInRange, GivesAnswer, IsRestOf}
use Rattle.script_lines.specs.Joins.{GivesLinks}
use Rattle.script_lines.specs.LineParts.{onto_first, parts, words_of}
use Rattle.state_ids.proofs.DecimalNumbers.{own}
use Rattle.script_lines.proofs.DecimalNumbers.{id_parted, one_number}
use Rattle.script_lines.proofs.Splits.{parts_some}

-- Words are those of only one text

-- the text of parts, with a byte between every two
abbrev joined : ℕ → List (List ℕ) → List ℕ
joined at [] = []
joined at (p ∷ []) = p
joined at (p ∷ q ∷ ps) = p ++ at ∷ joined at (q ∷ ps)

joined_empty : (at : ℕ) (ps : List (List ℕ)) → (ps ≡ [] → ⊥) → joined at ([] ∷ ps) ≡ at ∷ joined at ps
joined_empty at [] some = absurd (some refl)
joined_empty at (p ∷ ps) some = refl

joined_onto : (at b : ℕ) (ps : List (List ℕ)) → (ps ≡ [] → ⊥) → joined at (onto_first b ps) ≡ b ∷ joined at ps
joined_onto at b [] some = absurd (some refl)
joined_onto at b (p ∷ []) some = refl
joined_onto at b (p ∷ q ∷ ps) some = refl

joined_by : (t : Bool) (at b : ℕ) (bs : List ℕ) (ps : List (List ℕ)) → (b == at) ≡ t → (ps ≡ [] → ⊥) → joined at ps ≡ bs
    → joined at (cond t ([] ∷ ps) (onto_first b ps)) ≡ b ∷ bs
joined_by true at b bs ps e some is = joined_empty at ps some ∙ ap (λ (x : ℕ). x ∷ joined at ps) (sym ((Decides-eqb b at).0 e)) ∙ ap (λ (l : List ℕ). b ∷ l) is
joined_by false at b bs ps e some is = joined_onto at b ps some ∙ ap (λ (l : List ℕ). b ∷ l) is

joined_parts : (at : ℕ) (bs : List ℕ) → joined at (parts at bs) ≡ bs
joined_parts at [] = refl
joined_parts at (b ∷ bs) = joined_by (b == at) at b bs (parts at bs) refl (parts_some at bs) (joined_parts at bs)

one_text : (a b : List ℕ) → words_of a ≡ words_of b → a ≡ b
one_text a b e = sym (joined_parts 32 a) ∙ ap (joined 32) e ∙ joined_parts 32 b

-- Equal arguments give equal values

two : {A B C : Type 0} (f : A → B → C) {a x : A} {b y : B} → a ≡ x → b ≡ y → f a b ≡ f x y
two f {a} {x} {b} {y} p q = ap (λ u. f u b) p ∙ ap (f x) q

three : {A B C D : Type 0} (f : A → B → C → D) {a x : A} {b y : B} {c z : C} → a ≡ x → b ≡ y → c ≡ z → f a b c ≡ f x y z
three f {a} {x} {b} {y} {c} {z} p q r = two (λ u v. f u v c) p q ∙ ap (f x y) r

five : {A B C D E F : Type 0} (f : A → B → C → D → E → F) {a x : A} {b y : B} {c z : C} {d w : D} {e v : E} → a ≡ x → b ≡ y → c ≡ z → d ≡ w → e ≡ v → f a b c d e ≡ f x y z w v
five f {a} {x} {b} {y} {c} {z} {d} {w} {e} {v} p q r s t = three (λ i j k. f i j k d e) p q r ∙ two (f x y z) s t

-- Each word determines one value

pub head_same : (x y : List ℕ) (xs ys : List (List ℕ)) → x ∷ xs ≡ y ∷ ys → x ≡ y
head_same x y xs ys e = cc

pub tail_same : (x y : List ℕ) (xs ys : List (List ℕ)) → x ∷ xs ≡ y ∷ ys → xs ≡ ys
tail_same x y xs ys e = cc

none_some : (x : List ℕ) (xs : List (List ℕ)) → [] ≡ x ∷ xs → ⊥
none_some x xs e = absurd cc

node_same : (nodes m n : ℕ) → nodes ≤ 8 → IsNodeOf nodes m → IsNodeOf nodes n → decimal m ≡ decimal n → m ≡ n
node_same nodes m n few a b e = one_number (decimal m) m n (omega (arith, a.1, few)) (omega (arith, b.1, few)) refl e

member_same : (m n : ℕ) → IsMemberNumber m → IsMemberNumber n → decimal m ≡ decimal n → m ≡ n
member_same m n a b e = one_number (decimal m) m n (omega (arith, a.1)) (omega (arith, b.1)) refl e

number_same : (m n : ℕ) → m < 2 ^ 64 → n < 2 ^ 64 → decimal m ≡ decimal n → m ≡ n
number_same m n a b e = one_number (decimal m) m n a b refl e

code_same : (m n : ℕ) → m < 2 ^ 16 → n < 2 ^ 16 → decimal m ≡ decimal n → m ≡ n
code_same m n a b e = one_number (decimal m) m n (omega (arith, a)) (omega (arith, b)) refl e

pub id_by : (a b : Id) → a.home ≡ b.home → a.num ≡ b.num → a ≡ b
id_by a b h n = ap (λ (x : ℕ). record { home = x; num = a.num }) h ∙ ap (λ (x : ℕ). record { home = b.home; num = x }) n

id_same : (a b : Id) → IsId a → IsId b → id_text a ≡ id_text b → a ≡ b
id_same a b valid other e =
    let p = id_parted (id_text a) a valid refl in
    let q = id_parted (id_text a) b other e in
    id_by a b
    (one_number (take 1 (id_text a)) a.home b.home (omega (arith, valid.home.1)) (omega (arith, other.home.1)) p.home q.home)
    (one_number (drop 2 (id_text a)) a.num b.num (omega (arith, valid.num.1)) (omega (arith, other.num.1)) p.num q.num)

some_same : {A : Type 0} (a b : A) → Some a ≡ Some b → a ≡ b
some_same a b e = cc

-- a text is read as one id
read_same : (text : List ℕ) (a b : Id) → IsId a → IsId b → IsTextOf text a → IsTextOf text b → a ≡ b
read_same text a b valid other is also =
    let e : layout a ≡ layout b = some_same (layout a) (layout b) (sym is.bytes ∙ also.bytes) in
    id_by a b (sym (home_back (layout a) a valid refl) ∙ home_back (layout a) b other e) (sym (num_back (layout a) a valid refl) ∙ num_back (layout a) b other e)

-- bytes at a place
at_place : (a b : List ℕ) (n : ℕ) → a ≡ b → get_or a n 0 ≡ get_or b n 0
at_place a b n e = ap (λ (l : List ℕ). get_or l n 0) e

act_same : (a b : Act) → act_name a ≡ act_name b → a ≡ b
act_same CompleteAct CompleteAct e = refl
act_same CompleteAct CompensateAct e = absurd (omega (arith, at_place _ _ 4 e))
act_same CompensateAct CompleteAct e = absurd (omega (arith, at_place _ _ 4 e))
act_same CompensateAct CompensateAct e = refl

outcome_same : (a b : Outcome) → outcome_name a ≡ outcome_name b → a ≡ b
outcome_same Busy Busy e = refl
outcome_same Busy Done e = absurd (omega (arith, at_place _ _ 0 e))
outcome_same Busy Failed e = absurd (omega (arith, at_place _ _ 0 e))
outcome_same Done Busy e = absurd (omega (arith, at_place _ _ 0 e))
outcome_same Done Done e = refl
outcome_same Done Failed e = absurd (omega (arith, at_place _ _ 0 e))
outcome_same Failed Busy e = absurd (omega (arith, at_place _ _ 0 e))
outcome_same Failed Done e = absurd (omega (arith, at_place _ _ 0 e))
outcome_same Failed Failed e = refl

abbrev kind_at : ℕ → Kind
kind_at n = if n == 220 then Complete else if n == 213 then Compensate else if n == 233 then Status else if n == 215 then After else Forget

-- two bytes determine a kind
abbrev kind_mark : List ℕ → ℕ
kind_mark name = get_or name 3 0 + get_or name 4 0

kind_told : (k : Kind) → kind_at (kind_mark (kind_name k)) ≡ k
kind_told Complete = refl
kind_told Compensate = refl
kind_told Status = refl
kind_told Forget = refl
kind_told After = refl

kind_same : (a b : Kind) → kind_name a ≡ kind_name b → a ≡ b
kind_same a b e = sym (kind_told a) ∙ ap (λ (l : List ℕ). kind_at (kind_mark l)) e ∙ kind_told b

parent_same : (a b : Option Id) → IfSome a IsId → IfSome b IsId → parent_words a ≡ parent_words b → a ≡ b
parent_same None None h k e = refl
parent_same None (Some q) h k e = absurd (none_some (id_text q) [] e)
parent_same (Some p) None h k e = absurd (none_some (id_text p) [] (sym e))
parent_same (Some p) (Some q) h k e = ap Some (id_same p q h k (head_same (id_text p) (id_text q) [] [] e))

kept_same : (a b : Option ℕ) → IfSome a IsNumber → IfSome b IsNumber → kept_words a ≡ kept_words b → a ≡ b
kept_same None None h k e = refl
kept_same None (Some n) h k e = absurd (none_some (decimal n) [] e)
kept_same (Some m) None h k e = absurd (none_some (decimal m) [] (sym e))
kept_same (Some m) (Some n) h k e = ap Some (number_same m n h k (head_same (decimal m) (decimal n) [] [] e))

counts_same : (a b : List ℕ) → All IsNumber a → All IsNumber b → map decimal a ≡ map decimal b → a ≡ b
counts_same [] [] h k e = refl
counts_same [] (n ∷ b) h k e = absurd (none_some (decimal n) (map decimal b) e)
counts_same (m ∷ a) [] h k e = absurd (none_some (decimal m) (map decimal a) (sym e))
counts_same (m ∷ a) (n ∷ b) h k e =
    two (λ (x : ℕ) (xs : List ℕ). x ∷ xs)
    (number_same m n (h 0 m (omega arith)) (k 0 n (omega arith)) (head_same (decimal m) (decimal n) (map decimal a) (map decimal b) e))
    (counts_same a b (λ i d lt. h (suc i) d (omega (arith, lt))) (λ i d lt. k (suc i) d (omega (arith, lt))) (tail_same (decimal m) (decimal n) (map decimal a) (map decimal b) e))

links_same : (given : List (List ℕ)) (a b : Links) → GivesLinks given a → GivesLinks given b → a ≡ b
links_same given a b h k = some_same a b (sym h.kept ∙ k.kept)

body_same : (rest : List (List ℕ)) (a b : List ℕ) → IsRestOf rest a → IsRestOf rest b → a ≡ b
body_same rest a b (inl (none, is)) (inl (also, other)) = is ∙ sym other
body_same rest a b (inl (none, is)) (inr words) = absurd (parts_some 32 b (sym words ∙ none))
body_same rest a b (inr words) (inl (none, is)) = absurd (parts_some 32 a (sym words ∙ none))
body_same rest a b (inr words) (inr also) = one_text a b (sym words ∙ also)

-- no number is spelled so
no_number : (n : ℕ) → n < 2 ^ 16 → decimal n ≡ codes "broken" → ⊥
no_number n small e =
    let digits : AllDigits 10 (codes "broken") = subst (AllDigits 10) e (digits_decimal own n (omega (arith, small))) in
    let first = (tells_digits.parts 98 (codes "roken") digits).0 in
    absurd (omega (arith, first))

answer_same : (given : List (List ℕ)) (a b : Answer) → GivesAnswer given a → GivesAnswer given b → IsAnswerInRange a → IsAnswerInRange b → a ≡ b
answer_same given (Code n x) (Code m y) (rest, is, body) (other, also, whole) fits small =
    let e = sym is ∙ also in
    two Code (code_same n m fits small (head_same (decimal n) (decimal m) rest other e))
    (body_same rest x y body (subst (λ (l : List (List ℕ)). IsRestOf l y) (sym (tail_same (decimal n) (decimal m) rest other e)) whole))
answer_same given (Code n x) Broken (rest, is, body) (other, also) fits small = absurd (no_number n fits (head_same (decimal n) (codes "broken") rest other (sym is ∙ also)))
answer_same given Broken (Code m y) (rest, is) (other, also, whole) fits small = absurd (no_number m small (head_same (decimal m) (codes "broken") other rest (sym also ∙ is)))
answer_same given Broken Broken h k fits small = refl

-- The verb determines the form

data Form : Type 0 where
  OfBegin : Form
  OfJoin : Form
  OfLeave : Form
  OfClose : Form
  OfCancel : Form
  OfReport : Form
  OfForgot : Form
  OfTold : Form
  OfPurge : Form
  OfTick : Form
  OfSend : Form
  OfSendOld : Form
  OfDeliver : Form
  OfRestart : Form
  OfShow : Form
  OfMember : Form
  OfDuties : Form
  OfHear : Form
  OfFront : Form
  OfSame : Form
  OfText : Form
  OfRead : Form

abbrev form_of : Ask → Form
form_of (Enter node (Begin parent deadline)) = OfBegin
form_of (Enter node (Join id links)) = OfJoin
form_of (Enter node (Leave id m)) = OfLeave
form_of (Enter node (Decide id Close)) = OfClose
form_of (Enter node (Decide id Cancel)) = OfCancel
form_of (Enter node (Report id m act outcome)) = OfReport
form_of (Enter node (Forgot id m)) = OfForgot
form_of (Enter node (Told id m)) = OfTold
form_of (Enter node (Purge root)) = OfPurge
form_of (Tick node now) = OfTick
form_of (Send node base) = OfSend
form_of (SendOld node base) = OfSendOld
form_of (Deliver frame node kept) = OfDeliver
form_of (Restart node) = OfRestart
form_of (Show node id) = OfShow
form_of (Member node id m) = OfMember
form_of (Duties node) = OfDuties
form_of (Hear node id m kind answer) = OfHear
form_of (Front node) = OfFront
form_of (Same node other) = OfSame
form_of (Text id) = OfText
form_of (Read id) = OfRead

-- three bytes determine a verb
abbrev verb_mark : List ℕ → ℕ
verb_mark verb = get_or verb 0 0 + 4 * get_or verb 2 0 + get_or verb 6 0

abbrev form_at : ℕ → Form
form_at n =
    if n == 510 then OfBegin else if n == 526 then OfJoin else if n == 496 then OfLeave else if n == 543 then OfClose else if n == 539 then OfCancel else
    if n == 562 then OfReport else if n == 558 then OfForgot else if n == 568 then OfPurge else if n == 512 then OfTick else if n == 555 then OfSend else
    if n == 646 then OfDeliver else if n == 690 then OfRestart else if n == 559 then OfShow else if n == 545 then OfMember else if n == 564 then OfDuties else
    if n == 557 then OfHear else if n == 546 then OfFront else if n == 551 then OfSame else if n == 596 then OfText else
    if n == 548 then OfTold else if n == 655 then OfSendOld else OfRead

form_told : (a : Ask) → form_at (verb_mark (verb_of a)) ≡ form_of a
form_told (Enter node (Begin parent deadline)) = refl
form_told (Enter node (Join id links)) = refl
form_told (Enter node (Leave id m)) = refl
form_told (Enter node (Decide id Close)) = refl
form_told (Enter node (Decide id Cancel)) = refl
form_told (Enter node (Report id m act outcome)) = refl
form_told (Enter node (Forgot id m)) = refl
form_told (Enter node (Told id m)) = refl
form_told (Enter node (Purge root)) = refl
form_told (Tick node now) = refl
form_told (Send node base) = refl
form_told (SendOld node base) = refl
form_told (Deliver frame node kept) = refl
form_told (Restart node) = refl
form_told (Show node id) = refl
form_told (Member node id m) = refl
form_told (Duties node) = refl
form_told (Hear node id m kind answer) = refl
form_told (Front node) = refl
form_told (Same node other) = refl
form_told (Text id) = refl
form_told (Read id) = refl

form_same : (a b : Ask) → verb_of a ≡ verb_of b → form_of a ≡ form_of b
form_same a b e = sym (form_told a) ∙ ap (λ (l : List ℕ). form_at (verb_mark l)) e ∙ form_told b

-- an ask of this form
abbrev IsLike : Form → Ask → Type 0
IsLike OfBegin b = (node : ℕ) × (parent : Option Id) × (deadline : ℕ) × (b ≡ Enter node (Begin parent deadline))
IsLike OfJoin b = (node : ℕ) × (id : Id) × (links : Links) × (b ≡ Enter node (Join id links))
IsLike OfLeave b = (node : ℕ) × (id : Id) × (m : ℕ) × (b ≡ Enter node (Leave id m))
IsLike OfClose b = (node : ℕ) × (id : Id) × (b ≡ Enter node (Decide id Close))
IsLike OfCancel b = (node : ℕ) × (id : Id) × (b ≡ Enter node (Decide id Cancel))
IsLike OfReport b = (node : ℕ) × (id : Id) × (m : ℕ) × (act : Act) × (outcome : Outcome) × (b ≡ Enter node (Report id m act outcome))
IsLike OfForgot b = (node : ℕ) × (id : Id) × (m : ℕ) × (b ≡ Enter node (Forgot id m))
IsLike OfTold b = (node : ℕ) × (id : Id) × (m : ℕ) × (b ≡ Enter node (Told id m))
IsLike OfPurge b = (node : ℕ) × (root : Id) × (b ≡ Enter node (Purge root))
IsLike OfTick b = (node : ℕ) × (now : ℕ) × (b ≡ Tick node now)
IsLike OfSend b = (node : ℕ) × (base : List ℕ) × (b ≡ Send node base)
IsLike OfSendOld b = (node : ℕ) × (base : List ℕ) × (b ≡ SendOld node base)
IsLike OfDeliver b = (frame : ℕ) × (node : ℕ) × (kept : Option ℕ) × (b ≡ Deliver frame node kept)
IsLike OfRestart b = (node : ℕ) × (b ≡ Restart node)
IsLike OfShow b = (node : ℕ) × (id : Id) × (b ≡ Show node id)
IsLike OfMember b = (node : ℕ) × (id : Id) × (m : ℕ) × (b ≡ Member node id m)
IsLike OfDuties b = (node : ℕ) × (b ≡ Duties node)
IsLike OfHear b = (node : ℕ) × (id : Id) × (m : ℕ) × (kind : Kind) × (answer : Answer) × (b ≡ Hear node id m kind answer)
IsLike OfFront b = (node : ℕ) × (b ≡ Front node)
IsLike OfSame b = (node : ℕ) × (other : ℕ) × (b ≡ Same node other)
IsLike OfText b = (id : Id) × (b ≡ Text id)
IsLike OfRead b = (id : Id) × (b ≡ Read id)

like : (b : Ask) → IsLike (form_of b) b
like (Enter node (Begin parent deadline)) = (node, parent, deadline, refl)
like (Enter node (Join id links)) = (node, id, links, refl)
like (Enter node (Leave id m)) = (node, id, m, refl)
like (Enter node (Decide id Close)) = (node, id, refl)
like (Enter node (Decide id Cancel)) = (node, id, refl)
like (Enter node (Report id m act outcome)) = (node, id, m, act, outcome, refl)
like (Enter node (Forgot id m)) = (node, id, m, refl)
like (Enter node (Told id m)) = (node, id, m, refl)
like (Enter node (Purge root)) = (node, root, refl)
like (Tick node now) = (node, now, refl)
like (Send node base) = (node, base, refl)
like (SendOld node base) = (node, base, refl)
like (Deliver frame node kept) = (frame, node, kept, refl)
like (Restart node) = (node, refl)
like (Show node id) = (node, id, refl)
like (Member node id m) = (node, id, m, refl)
like (Duties node) = (node, refl)
like (Hear node id m kind answer) = (node, id, m, kind, answer, refl)
like (Front node) = (node, refl)
like (Same node other) = (node, other, refl)
like (Text id) = (id, refl)
like (Read id) = (id, refl)

like_by : (a b : Ask) → verb_of a ≡ verb_of b → IsLike (form_of a) b
like_by a b e = subst (λ (k : Form). IsLike k b) (sym (form_same a b e)) (like b)

-- The words determine the rest

word : (n : ℕ) (a b : List (List ℕ)) → a ≡ b → get_or a n [] ≡ get_or b n []
word n a b e = ap (λ (l : List (List ℕ)). get_or l n []) e

by_form : (nodes : ℕ) (words : List (List ℕ)) (a b c : Ask) → b ≡ c → (HasArguments words c → IsInRange nodes c → a ≡ c) → HasArguments words b → IsInRange nodes b → a ≡ b
by_form nodes words a b c e same has fits =
    subst (λ (x : Ask). a ≡ x) (sym e) (same (subst (λ (x : Ask). HasArguments words x) e has) (subst (λ (x : Ask). IsInRange nodes x) e fits))

same_asked : (nodes : ℕ) (words : List (List ℕ)) (a b : Ask) → nodes ≤ 8 → IsLike (form_of a) b → HasArguments words a → IsInRange nodes a → HasArguments words b → IsInRange nodes b → a ≡ b
same_asked nodes words (Enter node (Begin parent deadline)) b few (nodez, parents, deadlines, is) has fits also small =
    by_form nodes words (Enter node (Begin parent deadline)) b (Enter nodez (Begin parents deadlines)) is (λ are fit. let e = sym has ∙ are in three (λ (x : ℕ) (p : Option Id) (d : ℕ). Enter x (Begin p d)) (node_same nodes node nodez few fits.0 fit.0 (word 0 _ _ e)) (parent_same parent parents fits.1.0 fit.1.0 (ap (drop 2) e)) (number_same deadline deadlines fits.1.1 fit.1.1 (word 1 _ _ e))) also small
same_asked nodes words (Enter node (Join id links)) b few (nodez, ids, linkss, is) has fits also small =
    by_form nodes words (Enter node (Join id links)) b (Enter nodez (Join ids linkss)) is (λ are fit. let e = sym has.1 ∙ are.1 in three (λ (x : ℕ) (i : Id) (l : Links). Enter x (Join i l)) (node_same nodes node nodez few fits.0 fit.0 (word 0 _ _ e)) (id_same id ids fits.1 fit.1 (word 1 _ _ e)) (links_same has.0 links linkss has.2 (subst (λ (g : List (List ℕ)). GivesLinks g linkss) (sym (ap (drop 2) e)) are.2))) also small
same_asked nodes words (Enter node (Leave id m)) b few (nodez, ids, ms, is) has fits also small =
    by_form nodes words (Enter node (Leave id m)) b (Enter nodez (Leave ids ms)) is (λ are fit. let e = sym has ∙ are in three (λ (x : ℕ) (i : Id) (k : ℕ). Enter x (Leave i k)) (node_same nodes node nodez few fits.0 fit.0 (word 0 _ _ e)) (id_same id ids fits.1.0 fit.1.0 (word 1 _ _ e)) (member_same m ms fits.1.1 fit.1.1 (word 2 _ _ e))) also small
same_asked nodes words (Enter node (Decide id Close)) b few (nodez, ids, is) has fits also small =
    by_form nodes words (Enter node (Decide id Close)) b (Enter nodez (Decide ids Close)) is (λ are fit. let e = sym has ∙ are in two (λ (x : ℕ) (i : Id). Enter x (Decide i Close)) (node_same nodes node nodez few fits.0 fit.0 (word 0 _ _ e)) (id_same id ids fits.1 fit.1 (word 1 _ _ e))) also small
same_asked nodes words (Enter node (Decide id Cancel)) b few (nodez, ids, is) has fits also small =
    by_form nodes words (Enter node (Decide id Cancel)) b (Enter nodez (Decide ids Cancel)) is (λ are fit. let e = sym has ∙ are in two (λ (x : ℕ) (i : Id). Enter x (Decide i Cancel)) (node_same nodes node nodez few fits.0 fit.0 (word 0 _ _ e)) (id_same id ids fits.1 fit.1 (word 1 _ _ e))) also small
same_asked nodes words (Enter node (Report id m act outcome)) b few (nodez, ids, ms, acts, outcomes, is) has fits also small =
    by_form nodes words (Enter node (Report id m act outcome)) b (Enter nodez (Report ids ms acts outcomes)) is (λ are fit. let e = sym has ∙ are in five (λ (x : ℕ) (i : Id) (k : ℕ) (a : Act) (o : Outcome). Enter x (Report i k a o)) (node_same nodes node nodez few fits.0 fit.0 (word 0 _ _ e)) (id_same id ids fits.1.0 fit.1.0 (word 1 _ _ e)) (member_same m ms fits.1.1 fit.1.1 (word 2 _ _ e)) (act_same act acts (word 3 _ _ e)) (outcome_same outcome outcomes (word 4 _ _ e))) also small
same_asked nodes words (Enter node (Forgot id m)) b few (nodez, ids, ms, is) has fits also small =
    by_form nodes words (Enter node (Forgot id m)) b (Enter nodez (Forgot ids ms)) is (λ are fit. let e = sym has ∙ are in three (λ (x : ℕ) (i : Id) (k : ℕ). Enter x (Forgot i k)) (node_same nodes node nodez few fits.0 fit.0 (word 0 _ _ e)) (id_same id ids fits.1.0 fit.1.0 (word 1 _ _ e)) (member_same m ms fits.1.1 fit.1.1 (word 2 _ _ e))) also small
same_asked nodes words (Enter node (Told id m)) b few (nodez, ids, ms, is) has fits also small =
    by_form nodes words (Enter node (Told id m)) b (Enter nodez (Told ids ms)) is (λ are fit. let e = sym has ∙ are in three (λ (x : ℕ) (i : Id) (k : ℕ). Enter x (Told i k)) (node_same nodes node nodez few fits.0 fit.0 (word 0 _ _ e)) (id_same id ids fits.1.0 fit.1.0 (word 1 _ _ e)) (member_same m ms fits.1.1 fit.1.1 (word 2 _ _ e))) also small
same_asked nodes words (Enter node (Purge root)) b few (nodez, roots, is) has fits also small =
    by_form nodes words (Enter node (Purge root)) b (Enter nodez (Purge roots)) is (λ are fit. let e = sym has ∙ are in two (λ (x : ℕ) (i : Id). Enter x (Purge i)) (node_same nodes node nodez few fits.0 fit.0 (word 0 _ _ e)) (id_same root roots fits.1 fit.1 (word 1 _ _ e))) also small
same_asked nodes words (Tick node now) b few (nodez, nows, is) has fits also small =
    by_form nodes words (Tick node now) b (Tick nodez nows) is (λ are fit. let e = sym has ∙ are in two Tick (node_same nodes node nodez few fits.0 fit.0 (word 0 _ _ e)) (number_same now nows fits.1 fit.1 (word 1 _ _ e))) also small
same_asked nodes words (Send node base) b few (nodez, bases, is) has fits also small =
    by_form nodes words (Send node base) b (Send nodez bases) is (λ are fit. let e = sym has ∙ are in two Send (node_same nodes node nodez few fits.0 fit.0 (word 0 _ _ e)) (counts_same base bases fits.1.1 fit.1.1 (ap (drop 1) e))) also small
same_asked nodes words (SendOld node base) b few (nodez, bases, is) has fits also small =
    by_form nodes words (SendOld node base) b (SendOld nodez bases) is (λ are fit. let e = sym has ∙ are in two SendOld (node_same nodes node nodez few fits.0 fit.0 (word 0 _ _ e)) (counts_same base bases fits.1.1 fit.1.1 (ap (drop 1) e))) also small
same_asked nodes words (Deliver frame node kept) b few (frames, nodez, keeps, is) has fits also small =
    by_form nodes words (Deliver frame node kept) b (Deliver frames nodez keeps) is (λ are fit. let e = sym has ∙ are in three Deliver (number_same frame frames fits.0 fit.0 (word 0 _ _ e)) (node_same nodes node nodez few fits.1 fit.1 (word 1 _ _ e)) (kept_same kept keeps fits.2 fit.2 (ap (drop 2) e))) also small
same_asked nodes words (Restart node) b few (nodez, is) has fits also small =
    by_form nodes words (Restart node) b (Restart nodez) is (λ are fit. let e = sym has ∙ are in ap Restart (node_same nodes node nodez few fits fit (word 0 _ _ e))) also small
same_asked nodes words (Show node id) b few (nodez, ids, is) has fits also small =
    by_form nodes words (Show node id) b (Show nodez ids) is (λ are fit. let e = sym has ∙ are in two Show (node_same nodes node nodez few fits.0 fit.0 (word 0 _ _ e)) (id_same id ids fits.1 fit.1 (word 1 _ _ e))) also small
same_asked nodes words (Member node id m) b few (nodez, ids, ms, is) has fits also small =
    by_form nodes words (Member node id m) b (Member nodez ids ms) is (λ are fit. let e = sym has ∙ are in three Member (node_same nodes node nodez few fits.0 fit.0 (word 0 _ _ e)) (id_same id ids fits.1 fit.1 (word 1 _ _ e)) (member_same m ms fits.2 fit.2 (word 2 _ _ e))) also small
same_asked nodes words (Duties node) b few (nodez, is) has fits also small =
    by_form nodes words (Duties node) b (Duties nodez) is (λ are fit. let e = sym has ∙ are in ap Duties (node_same nodes node nodez few fits fit (word 0 _ _ e))) also small
same_asked nodes words (Hear node id m kind answer) b few (nodez, ids, ms, kinds, answers, is) has fits also small =
    by_form nodes words (Hear node id m kind answer) b (Hear nodez ids ms kinds answers) is (λ are fit. let e = sym has.1 ∙ are.1 in five Hear (node_same nodes node nodez few fits.0 fit.0 (word 0 _ _ e)) (id_same id ids fits.1 fit.1 (word 1 _ _ e)) (member_same m ms fits.2 fit.2 (word 2 _ _ e)) (kind_same kind kinds (word 3 _ _ e)) (answer_same has.0 answer answers has.2 (subst (λ (g : List (List ℕ)). GivesAnswer g answers) (sym (ap (drop 4) e)) are.2) fits.3 fit.3)) also small
same_asked nodes words (Front node) b few (nodez, is) has fits also small =
    by_form nodes words (Front node) b (Front nodez) is (λ are fit. let e = sym has ∙ are in ap Front (node_same nodes node nodez few fits fit (word 0 _ _ e))) also small
same_asked nodes words (Same node other) b few (nodez, others, is) has fits also small =
    by_form nodes words (Same node other) b (Same nodez others) is (λ are fit. let e = sym has ∙ are in two Same (node_same nodes node nodez few fits.0 fit.0 (word 0 _ _ e)) (node_same nodes other others few fits.1 fit.1 (word 1 _ _ e))) also small
same_asked nodes words (Text id) b few (ids, is) has fits also small =
    by_form nodes words (Text id) b (Text ids) is (λ are fit. let e = sym has ∙ are in ap Text (id_same id ids fits fit (word 0 _ _ e))) also small
same_asked nodes words (Read id) b few (ids, is) has fits also small =
    by_form nodes words (Read id) b (Read ids) is (λ are fit. ap Read (read_same has.0 id ids fits fit has.2 (subst (λ (t : List ℕ). IsTextOf t ids) (sym (word 0 _ _ (sym has.1 ∙ are.1))) are.2))) also small

pub one_ask : (nodes : ℕ) (line : List ℕ) (a b : Ask) → nodes ≤ 8 → Spells nodes line a → Spells nodes line b → a ≡ b
one_ask nodes line a b few (words, is, has, fits) (others, also, have, fit) =
    let e = sym is ∙ also in
    same_asked nodes words a b few (like_by a b (head_same (verb_of a) (verb_of b) words others e)) has fits
    (subst (λ (w : List (List ℕ)). HasArguments w b) (sym (tail_same (verb_of a) (verb_of b) words others e)) have) fit
