-- A text begins with at most one answer.
use Rattle.std.proofs.Common.{◌≡◌, inl, inr, ℕ, ◌≤◌, arith, List, [], ◌∷◌, ◌++◌, length, ap, refl, sym, ◌∙◌, append_assoc, append-nil, Some}
use Rattle.std.specs.List.{AllByRecursion, flat_map}
use Rattle.httparse.specs.Grammar.{IsResponseHead, ResponseHead, print_response, status_code}
use Rattle.httparse.proofs.GrammarLemmas.{response_unique}
use Rattle.wire_http.specs.Streams.{GivenBytes, GivesWhat}
use Rattle.wire_http.proofs.Known.{gives_more}
use Rattle.wire_narayana.specs.Framings.{IsAnswer, IsFinal, IsFramed, IsInterim, IsLength, SaysFraming, framing_for}
use Rattle.wire_narayana.specs.declared.fields.Framing.{Framing}
use Rattle.wire_narayana.specs.declared.fields.Framing.TheVariants.{Length, Chunks, End}
use Rattle.wire_narayana.proofs.OneBody.{known, nothing_more, one_body, same_front}

-- ---- framings

same_length : (t u : List ℕ) (n m : ℕ) → IsLength t n → IsLength u m → t ≡ u → n ≡ m
same_length t u n m one two e = let a = one.value in let b = two.value in cc

-- fields state only one framing
pub same_framing : (unsaid : Framing) (ls cs : List (List ℕ)) (f g : Framing) → SaysFraming unsaid ls cs f → SaysFraming unsaid ls cs g → f ≡ g
same_framing unsaid ls cs (Length n) (Length m) (inl a) (inl b) = let x = a.2 in let y = b.2 in cc
same_framing unsaid ls cs (Length n) (Length m) (inl a) (inr b) = let x = a.0 in let y = b.1 in absurd (cc)
same_framing unsaid ls cs (Length n) (Length m) (inr a) (inl b) = let x = a.1 in let y = b.0 in absurd (cc)
same_framing unsaid ls cs (Length n) (Length m) (inr a) (inr b) =
    let x = a.1 in let y = b.1 in let same : a.0 ≡ b.0 = cc in ap Length (same_length a.0 b.0 n m a.3 b.3 same)
same_framing unsaid ls cs (Length n) Chunks (inl a) (inl b) = let x = a.2 in let y = b.2 in absurd (cc)
same_framing unsaid ls cs (Length n) Chunks (inl a) (inr b) = let x = a.1 in let y = b.2 in absurd (cc)
same_framing unsaid ls cs (Length n) Chunks (inr a) (inl b) = let x = a.1 in let y = b.0 in absurd (cc)
same_framing unsaid ls cs (Length n) Chunks (inr a) (inr b) = let x = a.1 in let y = b.1 in absurd (cc)
same_framing unsaid ls cs (Length n) End (inl a) b = let x = a.2 in let y = b.2 in absurd (cc)
same_framing unsaid ls cs (Length n) End (inr a) b = let x = a.1 in let y = b.0 in absurd (cc)
same_framing unsaid ls cs Chunks (Length n) (inl a) (inl b) = let x = a.2 in let y = b.2 in absurd (cc)
same_framing unsaid ls cs Chunks (Length n) (inl a) (inr b) = let x = a.0 in let y = b.1 in absurd (cc)
same_framing unsaid ls cs Chunks (Length n) (inr a) (inl b) = let x = a.2 in let y = b.1 in absurd (cc)
same_framing unsaid ls cs Chunks (Length n) (inr a) (inr b) = let x = a.1 in let y = b.1 in absurd (cc)
same_framing unsaid ls cs Chunks Chunks a b = refl
same_framing unsaid ls cs Chunks End (inl a) b = let x = a.2 in let y = b.2 in absurd (cc)
same_framing unsaid ls cs Chunks End (inr a) b = let x = a.2 in let y = b.1 in absurd (cc)
same_framing unsaid ls cs End (Length n) a (inl b) = let x = a.2 in let y = b.2 in absurd (cc)
same_framing unsaid ls cs End (Length n) a (inr b) = let x = a.0 in let y = b.1 in absurd (cc)
same_framing unsaid ls cs End Chunks a (inl b) = let x = a.2 in let y = b.2 in absurd (cc)
same_framing unsaid ls cs End Chunks a (inr b) = let x = a.1 in let y = b.2 in absurd (cc)
same_framing unsaid ls cs End End a b = refl

-- a text of one framing begins with at most one body
pub same_framed : (f : Framing) (a b s t x y : List ℕ) → IsFramed f a s → IsFramed f b t → s ++ x ≡ t ++ y → (a ≡ b) × (s ≡ t) × (x ≡ y)
same_framed (Length n) a b s t x y one two e =
    let p = one.0 in let q = two.0 in let long : length a ≡ length b = one.1 ∙ sym two.1 in
    let same = same_front a b x y long (ap (λ (l : List ℕ). l ++ x) (sym p) ∙ e ∙ ap (λ (l : List ℕ). l ++ y) q) in
    (same.0, p ∙ same.0 ∙ sym q, same.1)
same_framed Chunks a b s t x y one two e = one_body a b s t x y one two e
same_framed End a b s t x y one two e =
    let p = one.0 in let q = two.0 in
    (one.1 ∙ sym two.1, p ∙ sym q, ap (λ (l : List ℕ). l ++ x) (sym p) ∙ e ∙ ap (λ (l : List ℕ). l ++ y) q)

-- ---- heads

same_head : (h k : ResponseHead) (x y : List ℕ) → IsResponseHead h → IsResponseHead k → print_response h ++ x ≡ print_response k ++ y → (h ≡ k) × (x ≡ y)
same_head h k x y one two e = response_unique (print_response h ++ x) h k x y (one, refl) (two, e)

-- no interim head is a final one
no_final : (j h : ResponseHead) (x y : List ℕ) → IsInterim j → IsResponseHead h → 200 ≤ status_code h → print_response j ++ x ≡ print_response h ++ y → ⊥
no_final j h x y one two final e =
    let same = same_head j h x y one.head two e in let low = one.code in let code = ap status_code same.0 in omega (arith, low, final, code)

same_heads : (js ks : List ResponseHead) (h k : ResponseHead) (x y : List ℕ) → AllByRecursion IsInterim js → AllByRecursion IsInterim ks → IsResponseHead h → IsResponseHead k
    → 200 ≤ status_code h → 200 ≤ status_code k → flat_map print_response js ++ (print_response h ++ x) ≡ flat_map print_response ks ++ (print_response k ++ y)
    → (flat_map print_response js ≡ flat_map print_response ks) × (h ≡ k) × (x ≡ y)
same_heads [] [] h k x y one two left right a b e = let same = same_head h k x y left right e in (refl, same.0, same.1)
same_heads [] (n ∷ ks) h k x y one two left right a b e =
    absurd (no_final n h (flat_map print_response ks ++ (print_response k ++ y)) x two.0 left a (sym (e ∙ append_assoc (print_response n) (flat_map print_response ks) (print_response k ++ y))))
same_heads (j ∷ js) [] h k x y one two left right a b e =
    absurd (no_final j k (flat_map print_response js ++ (print_response h ++ x)) y one.0 right b (sym (append_assoc (print_response j) (flat_map print_response js) (print_response h ++ x)) ∙ e))
same_heads (j ∷ js) (n ∷ ks) h k x y one two left right a b e =
    let first = same_head j n (flat_map print_response js ++ (print_response h ++ x)) (flat_map print_response ks ++ (print_response k ++ y)) one.0.head two.0.head
    (sym (append_assoc (print_response j) (flat_map print_response js) (print_response h ++ x)) ∙ e ∙ append_assoc (print_response n) (flat_map print_response ks) (print_response k ++ y)) in
    let same = same_heads js ks h k x y one.1 two.1 left right a b first.1 in
    let p = ap print_response first.0 in let q = same.0 in
    (cc, same.1, same.2)

same_final : (c d : ℕ) (f g : Framing) (s t x y : List ℕ) → IsFinal c f s → IsFinal d g t → s ++ x ≡ t ++ y → (c ≡ d) × (f ≡ g) × (s ≡ t) × (x ≡ y)
same_final c d f g s t x y (p, head, (js, interim, front), (h, said), final, whole) (q, tail, (ks, others, before), (k, told), last, all) e =
    let one : s ≡ flat_map print_response js ++ print_response h = rw whole (rw front (rw said.text_is refl)) in
    let two : t ≡ flat_map print_response ks ++ print_response k = rw all (rw before (rw told.text_is refl)) in
    let left = said.code_is in let right = told.code_is in
    let same = same_heads js ks h k x y interim others said.head told.head (omega (arith, final, left)) (omega (arith, last, right))
    (sym (append_assoc (flat_map print_response js) (print_response h) x) ∙ ap (λ (l : List ℕ). l ++ x) (sym one) ∙ e
    ∙ ap (λ (l : List ℕ). l ++ y) two ∙ append_assoc (flat_map print_response ks) (print_response k) y) in
    let heads = same.1 in let fronts = same.0 in let printed = ap print_response heads in
    let texts : flat_map print_response js ++ print_response h ≡ flat_map print_response ks ++ print_response k = cc in (
      left ∙ ap status_code heads ∙ sym right,
      same_framing End _ _ f g said.framing_is (rw heads told.framing_is),
      one ∙ texts ∙ sym two,
      same.2,
    )

-- ---- answers

pub one_answer : (c d : ℕ) (f g : Framing) (a b s t x y : List ℕ) → IsAnswer c f a s → IsAnswer d g b t → s ++ x ≡ t ++ y
    → (c ≡ d) × (f ≡ g) × (a ≡ b) × (s ≡ t) × (x ≡ y)
one_answer c d f g a b s t x y (m, head, behind, final, framing, framed, whole) (n, front, after, last, other, body, all) e =
    let heads = same_final c d m n head front (behind ++ x) (after ++ y) final last
    (sym (append_assoc head behind x) ∙ ap (λ (l : List ℕ). l ++ x) (sym whole) ∙ e ∙ ap (λ (l : List ℕ). l ++ y) all ∙ append_assoc front after y) in
    let codes = heads.0 in let says = heads.1 in
    let frames : f ≡ g = framing ∙ ap (λ k. framing_for k m) codes ∙ ap (framing_for d) says ∙ sym other in
    let bodies = same_framed g a b behind after x y (rw (sym frames) framed) body heads.3 in
    let p = heads.2 in let q = bodies.1 in
    let texts : head ++ behind ≡ front ++ after = cc in
    (codes, frames, bodies.0, whole ∙ texts ∙ sym all, bodies.2)

pub answer_exactly : (old new : GivenBytes) (c d : ℕ) (f g : Framing) (a b text rest : List ℕ) → GivesWhat old new (IsAnswer c f a) → IsAnswer d g b text → old.left ≡ Some (text ++ rest)
    → (c ≡ d) × (f ≡ g) × (a ≡ b) × (new.left ≡ Some rest)
answer_exactly old new c d f g a b text rest (given, gave, is) so left =
    let k = known old.left new.left given (text ++ rest) gave.left left in
    let same = one_answer c d f g a b given text k.0 rest is so (sym k.2) in
    (same.0, same.1, same.2, k.1 ∙ ap Some same.4)

pub no_cut_answer : (old new : GivenBytes) (c d : ℕ) (f g : Framing) (a b text more : List ℕ) → GivesWhat old new (IsAnswer c f a) → IsAnswer d g b (text ++ more) → old.left ≡ Some text
    → more ≡ []
no_cut_answer old new c d f g a b text more (given, gave, is) so left =
    let k = known old.left new.left given text gave.left left in
    let whole : given ++ (k.0 ++ more) ≡ (text ++ more) ++ [] = sym (append_assoc given k.0 more) ∙ ap (λ (l : List ℕ). l ++ more) (sym k.2) ∙ sym (append-nil (text ++ more)) in
    nothing_more k.0 more (one_answer c d f g a b given (text ++ more) (k.0 ++ more) [] is so whole).4

-- heads and a body make an answer
pub answered : (old mid new : GivenBytes) (code : ℕ) (said framing : Framing) (body : List ℕ) → GivesWhat old mid (IsFinal code said) → framing ≡ framing_for code said
    → GivesWhat mid new (IsFramed framing body) → GivesWhat old new (IsAnswer code framing body)
answered old mid new code said framing body (head, gave, final) e (behind, came, framed) =
    (head ++ behind, gives_more old mid new head behind gave came, (said, head, behind, final, e, framed, refl))
