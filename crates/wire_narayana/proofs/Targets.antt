-- A target determines what it carries.
use Rattle.std.proofs.Common.{◌≡◌, ◌+◌, ◌*◌, ◌/◌, ℕ, List, [], ◌∷◌, ◌++◌, codes, sym, refl, ap, ◌∙◌, arith, drop, take, length, get_or}
use Rattle.std.specs.Prelude.{◌==◌, if◌then◌else◌}
use Rattle.std.proofs.lemmas.List.{length-take-le, append-nil}
use Rattle.sha2.specs.Sha256.{sha256}
use Rattle.sha2.proofs.Facts256.{length-sha256}
use Rattle.base64.specs.Engines.{url_safe_no_pad}
use Rattle.base64.specs.Rfc4648.{encode_symbols}
use Rattle.base64.proofs.RoundTrip.{length-encode_symbols}
use Rattle.state_ids.specs.Ids.{Id}
use Rattle.wire_narayana.specs.declared.link_kind.LinkKind.{LinkKind}
use Rattle.wire_narayana.specs.declared.link_kind.LinkKind.TheVariants.{Compensate, Complete, Status, Forget, After}
use Rattle.wire_narayana.specs.declared.link_kind.Query.{Query}
use Rattle.wire_narayana.specs.declared.link_kind.Query.TheVariants.{Own, Jakarta, Javax}
use Rattle.wire_narayana.specs.declared.short.Short.{Short}
use Rattle.wire_narayana.specs.Kinds.{letter_of, query_text}
use Rattle.wire_narayana.specs.Seals.{hmac, pad, seal, sealed_text}
use Rattle.wire_narayana.specs.Carrying.{Carries, spelled}

-- the kind and the form that a letter stands for
kind_by : ℕ → LinkKind
kind_by n = if n == 99 then Compensate else if n == 67 then Compensate else if n == 68 then Compensate else if n == 107 then Complete else if n == 75 then Complete else if n == 76 then Complete else if n == 115 then Status else if n == 83 then Status else if n == 84 then Status else if n == 102 then Forget else if n == 70 then Forget else if n == 71 then Forget else if n == 97 then After else if n == 65 then After else After

form_by : ℕ → Query
form_by n = if n == 99 then Own else if n == 67 then Jakarta else if n == 68 then Javax else if n == 107 then Own else if n == 75 then Jakarta else if n == 76 then Javax else if n == 115 then Own else if n == 83 then Jakarta else if n == 84 then Javax else if n == 102 then Own else if n == 70 then Jakarta else if n == 71 then Javax else if n == 97 then Own else if n == 65 then Jakarta else Javax

kind_said : (kind : LinkKind) (form : Query) → kind_by (letter_of kind form) ≡ kind
unfolding kind_by
kind_said Compensate Own = refl
kind_said Compensate Jakarta = refl
kind_said Compensate Javax = refl
kind_said Complete Own = refl
kind_said Complete Jakarta = refl
kind_said Complete Javax = refl
kind_said Status Own = refl
kind_said Status Jakarta = refl
kind_said Status Javax = refl
kind_said Forget Own = refl
kind_said Forget Jakarta = refl
kind_said Forget Javax = refl
kind_said After Own = refl
kind_said After Jakarta = refl
kind_said After Javax = refl

form_said : (kind : LinkKind) (form : Query) → form_by (letter_of kind form) ≡ form
unfolding form_by
form_said Compensate Own = refl
form_said Compensate Jakarta = refl
form_said Compensate Javax = refl
form_said Complete Own = refl
form_said Complete Jakarta = refl
form_said Complete Javax = refl
form_said Status Own = refl
form_said Status Jakarta = refl
form_said Status Javax = refl
form_said Forget Own = refl
form_said Forget Jakarta = refl
form_said Forget Javax = refl
form_said After Own = refl
form_said After Jakarta = refl
form_said After Javax = refl

-- a letter stands for only one kind and one form
pub one_letter : (kind k : LinkKind) (form f : Query) → letter_of kind form ≡ letter_of k f → (kind ≡ k) × (form ≡ f)
one_letter kind k form f e =
    (sym (kind_said kind form) ∙ ap kind_by e ∙ kind_said k f, sym (form_said kind form) ∙ ap form_by e ∙ form_said k f)

length-hmac : (key message : List ℕ) → length (hmac key message) ≡ 32
unfolding hmac
length-hmac key message = length-sha256 (pad 92 key ++ sha256 (pad 54 key ++ message))

-- a seal has eight letters
pub length-seal : (key : List ℕ) (kind : LinkKind) (id : Id) (link : List ℕ) → length (seal key kind id link) ≡ 8
unfolding seal
length-seal key kind id link =
    let m : List ℕ = take 6 (hmac key (sealed_text kind id link)) in
    let six : length m ≡ 6 = length-take-le 6 (hmac key (sealed_text kind id link)) (omega (arith, length-hmac key (sealed_text kind id link))) in
    ap length (append-nil (encode_symbols url_safe_no_pad.encode_table m)) ∙ length-encode_symbols url_safe_no_pad.encode_table m ∙ ap (λ (n : ℕ). (4 * n + 2) / 3) six

-- two lists of the same length with which the same list begins are equal
pub same_front : (n : ℕ) (xs ys vs ws : List ℕ) → length xs ≡ n → length vs ≡ n → xs ++ ys ≡ vs ++ ws → (xs ≡ vs) × (ys ≡ ws)
same_front n [] ys [] ws a b e = (refl, e)
same_front n [] ys (v ∷ vs) ws a b e = absurd (omega (arith, a, b))
same_front n (x ∷ xs) ys [] ws a b e = absurd (omega (arith, a, b))
same_front n (x ∷ xs) ys (v ∷ vs) ws a b e =
    let more = same_front (length xs) xs ys vs ws refl (omega (arith, a, b)) (ap (drop 1) e) in
    let first : x ≡ v = ap (λ l. get_or l 0 0) e in
    (ap (λ (l : List ℕ). x ∷ l) more.0 ∙ ap (λ (y : ℕ). y ∷ vs) first, more.1)

-- a target with these parts carries only one link, and the seal in it is that of the link
pub one_link : (key : List ℕ) (shorts : List Short) (id : Id) (target : List ℕ) (letter : ℕ) (s rest : List ℕ) (kind : LinkKind) (form : Query) (link : List ℕ)
    → target ≡ 47 ∷ letter ∷ (s ++ 47 ∷ rest) → length s ≡ 8 → letter ≡ letter_of kind form
    → link ≡ codes "http://" ++ (spelled shorts rest ++ query_text kind form)
    → (k : LinkKind) (l : List ℕ) → Carries key shorts id target k l → (kind ≡ k) × (link ≡ l) × (s ≡ seal key kind id link)
one_link key shorts id target letter s rest kind form link parted long says is k l it =
    let both : 47 ∷ letter ∷ (s ++ 47 ∷ rest) ≡ 47 ∷ letter_of k it.form ∷ (seal key k id l ++ 47 ∷ it.rest) = sym parted ∙ it.says in
    let letters = one_letter kind k form it.form (sym says ∙ ap (λ b. get_or b 1 0) both) in
    let backs = same_front 8 s (47 ∷ rest) (seal key k id l) (47 ∷ it.rest) long (length-seal key k id l) (ap (drop 2) both) in
    let rests : rest ≡ it.rest = ap (drop 1) backs.1 in
    let texts : spelled shorts rest ++ query_text kind form ≡ spelled shorts it.rest ++ query_text k it.form =
    ap (λ (r : List ℕ). spelled shorts r ++ query_text kind form) rests ∙ ap (λ (x : LinkKind). spelled shorts it.rest ++ query_text x form) letters.0
    ∙ ap (λ (x : Query). spelled shorts it.rest ++ query_text k x) letters.1 in
    let links : link ≡ l = is ∙ ap (λ (t : List ℕ). codes "http://" ++ t) texts ∙ sym it.is in
    (letters.0, links, backs.0 ∙ ap (λ (x : LinkKind). seal key x id l) (sym letters.0) ∙ ap (λ (x : List ℕ). seal key kind id x) (sym links))
