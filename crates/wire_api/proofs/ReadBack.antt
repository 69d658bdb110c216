-- What a client reads from an answer determines the reply.
use Rattle.std.proofs.Common.{◌≡◌, ◌∙◌, ℕ, ◌<◌, ◌^◌, List, [], ◌∷◌, ◌++◌, All, Some, codes, length, take, drop, inl, ap, sym, refl, arith, if◌then◌else◌}
use Rattle.std.specs.Fmt.{decimal}
use Rattle.std.specs.Str.{bytes_eq}
use Rattle.std.proofs.lemmas.Fmt.{decimal_injective}
use Rattle.std.proofs.lemmas.List.{append_assoc, append_cancel_left, append_cancel_right, drop_at, take_at}
use Rattle.std.proofs.lemmas.List.Elements.{All-from_recursion}
use Rattle.uuid.specs.Text.{lower, parsed}
use Rattle.uuid.proofs.RoundTrips.{parses_hyphenated}
use Rattle.state_ids.proofs.VisibleTexts.{text_length}
use Rattle.state_ids.specs.Ids.{Id, IsId, layout, text_of}
use Rattle.state_ids.specs.Names.{lra_name, member_name}
use Rattle.state_ids.specs.declared.status.LraStatus.{LraStatus}
use Rattle.state_ids.specs.declared.status.LraStatus.TheVariants as lra
use Rattle.state_ids.specs.declared.status.MemberStatus.{MemberStatus}
use Rattle.state_ids.specs.declared.status.MemberStatus.TheVariants as member
use Rattle.wire_http.specs.declared.message.Field.{Field}
use Rattle.wire_http.specs.ByteResponses.{Response}
use Rattle.wire_api.specs.Answers.{begun_answer, joined_answer, ok_json, status_answer}
use Rattle.wire_api.specs.Texts.{member_body, of_lra, of_status, recovery_path, status_body, urn}
use Rattle.wire_api.proofs.Ids.{id_at_layout}
use Rattle.wire_api.specs.Names.{id_at}

-- Texts that begin with parts of the same length

same_start : (n : ℕ) (xs us ys vs : List ℕ) → length xs ≡ n → length us ≡ n → xs ++ ys ≡ us ++ vs → xs ≡ us
same_start n xs us ys vs p q e = sym (take_at xs ys n p) ∙ ap (take n) e ∙ take_at us vs n q

same_rest : (n : ℕ) (xs us ys vs : List ℕ) → length xs ≡ n → length us ≡ n → xs ++ ys ≡ us ++ vs → ys ≡ vs
same_rest n xs us ys vs p q e = sym (drop_at xs ys n p) ∙ ap (drop n) e ∙ drop_at us vs n q

-- Ids

small_layout : (id : Id) → IsId id → All (λ b. b < 256) (layout id)
small_layout id valid = All-from_recursion (λ b. b < 256) (layout id) (omega arith, (omega arith, (omega arith, (omega arith, (omega arith, (omega arith, (omega arith, (omega arith, (omega arith, (omega arith, (omega arith, (omega arith, (omega arith, (omega arith, (omega arith, (omega arith, tt))))))))))))))))

bytes_back : (id : Id) → IsId id → Some (layout id) ≡ parsed (text_of id)
bytes_back id valid = parses_hyphenated lower (layout id) (inl refl) refl (small_layout id valid)

some_same : (xs ys : List ℕ) → Some xs ≡ Some ys → xs ≡ ys
some_same xs ys e = cc

-- a text is that of one id
text_told : (a b : Id) → IsId a → IsId b → text_of a ≡ text_of b → a ≡ b
text_told a b p q e =
    let bytes : layout a ≡ layout b = some_same _ _ (bytes_back a p ∙ ap parsed e ∙ sym (bytes_back b q)) in
    sym (id_at_layout a p) ∙ ap id_at bytes ∙ id_at_layout b q

urn_told : (a b : Id) → IsId a → IsId b → urn a ≡ urn b → a ≡ b
unfolding urn
urn_told a b p q e = text_told a b p q (append_cancel_left (codes "urn:uuid:") (text_of a) (text_of b) e)

-- an id, and what follows it
id_told : (a b : Id) (r s : List ℕ) → IsId a → IsId b → text_of a ++ r ≡ text_of b ++ s → (a ≡ b) × (r ≡ s)
id_told a b r s p q e =
    (text_told a b p q (same_start 36 (text_of a) (text_of b) r s (text_length a) (text_length b) e), same_rest 36 (text_of a) (text_of b) r s (text_length a) (text_length b) e)

path_told : (a b : Id) (m n : ℕ) → IsId a → IsId b → m < 2 ^ 64 → n < 2 ^ 64 → recovery_path a m ≡ recovery_path b n → (a ≡ b) × (m ≡ n)
unfolding recovery_path
path_told a b m n p q fits small e =
    let both = id_told a b (codes "/member/" ++ decimal m) (codes "/member/" ++ decimal n) p q (append_cancel_left (codes "/lra/") _ _ e) in
    (both.0, decimal_injective m n fits small (append_cancel_left (codes "/member/") _ _ both.1))

lra_told : (a b : Id) (r s : List ℕ) → IsId a → IsId b → of_lra a ++ r ≡ of_lra b ++ s → (a ≡ b) × (r ≡ s)
unfolding of_lra
lra_told a b r s p q e =
    let quote : List ℕ = codes "\"" in
    let behind : (text_of a ++ quote) ++ r ≡ (text_of b ++ quote) ++ s = ap (drop 8) e in
    let both = id_told a b (quote ++ r) (quote ++ s) p q (sym (append_assoc (text_of a) quote r) ∙ behind ∙ append_assoc (text_of b) quote s) in
    (both.0, append_cancel_left quote r s both.1)

-- Statuses

abbrev lra_named : List ℕ → LraStatus
lra_named name =
    if bytes_eq name (codes "Active") then lra.Active
    else if bytes_eq name (codes "Closing") then lra.Closing
    else if bytes_eq name (codes "Closed") then lra.Closed
    else if bytes_eq name (codes "FailedToClose") then lra.FailedToClose
    else if bytes_eq name (codes "Cancelling") then lra.Cancelling
    else if bytes_eq name (codes "Cancelled") then lra.Cancelled
    else lra.FailedToCancel

lra_back : (x : LraStatus) → lra_named (lra_name x) ≡ x
lra_back lra.Active = refl
lra_back lra.Closing = refl
lra_back lra.Closed = refl
lra_back lra.FailedToClose = refl
lra_back lra.Cancelling = refl
lra_back lra.Cancelled = refl
lra_back lra.FailedToCancel = refl

abbrev member_named : List ℕ → MemberStatus
member_named name =
    if bytes_eq name (codes "Active") then member.Active
    else if bytes_eq name (codes "Completing") then member.Completing
    else if bytes_eq name (codes "Completed") then member.Completed
    else if bytes_eq name (codes "FailedToComplete") then member.FailedToComplete
    else if bytes_eq name (codes "Compensating") then member.Compensating
    else if bytes_eq name (codes "Compensated") then member.Compensated
    else member.FailedToCompensate

member_back : (x : MemberStatus) → member_named (member_name x) ≡ x
member_back member.Active = refl
member_back member.Completing = refl
member_back member.Completed = refl
member_back member.FailedToComplete = refl
member_back member.Compensating = refl
member_back member.Compensated = refl
member_back member.FailedToCompensate = refl

name_told : (x y : List ℕ) → of_status x ≡ of_status y → x ≡ y
unfolding of_status
name_told x y e = append_cancel_right x y (codes "\"}") (append_cancel_left (codes ",\"status\":\"") _ _ e)

status_told : (a b : Id) (x y : LraStatus) → IsId a → IsId b → status_body a x ≡ status_body b y → (a ≡ b) × (x ≡ y)
unfolding status_body
status_told a b x y p q e =
    let both = lra_told a b (of_status (lra_name x)) (of_status (lra_name y)) p q e in
    (both.0, sym (lra_back x) ∙ ap lra_named (name_told _ _ both.1) ∙ lra_back y)

-- behind a number that both texts have
shown_behind : (m : ℕ) (x y : List ℕ) → codes ",\"member\":" ++ (decimal m ++ of_status x) ≡ codes ",\"member\":" ++ (decimal m ++ of_status y) → x ≡ y
shown_behind m x y e = name_told x y (append_cancel_left (decimal m) _ _ (append_cancel_left (codes ",\"member\":") _ _ e))

participant_told : (a b : Id) (m : ℕ) (x y : MemberStatus) → IsId a → IsId b → member_body a m x ≡ member_body b m y → (a ≡ b) × (x ≡ y)
unfolding member_body
participant_told a b m x y p q e =
    let both = lra_told a b (codes ",\"member\":" ++ (decimal m ++ of_status (member_name x))) (codes ",\"member\":" ++ (decimal m ++ of_status (member_name y))) p q e in
    (both.0, sym (member_back x) ∙ ap member_named (shown_behind m _ _ both.1) ∙ member_back y)

-- Answers

abbrev first_value : List Field → List ℕ
first_value [] = []
first_value (f ∷ fs) = f.value

pub begun_told : (a b : Id) → IsId a → IsId b → begun_answer a ≡ begun_answer b → a ≡ b
begun_told a b p q e = urn_told a b p q (ap (λ (r : Response). first_value r.fields) e)

pub joined_told : (a b : Id) (m n : ℕ) → IsId a → IsId b → m < 2 ^ 64 → n < 2 ^ 64 → joined_answer a m ≡ joined_answer b n → (a ≡ b) × (m ≡ n)
joined_told a b m n p q fits small e = path_told a b m n p q fits small (ap (λ (r : Response). first_value r.fields) e)

pub shown_told : (a b : Id) (x y : LraStatus) → IsId a → IsId b → status_answer a x ≡ status_answer b y → (a ≡ b) × (x ≡ y)
shown_told a b x y p q e = status_told a b x y p q (ap (λ (r : Response). r.body) e)

pub member_told : (a b : Id) (m : ℕ) (x y : MemberStatus) → IsId a → IsId b → ok_json (member_body a m x) ≡ ok_json (member_body b m y) → (a ≡ b) × (x ≡ y)
member_told a b m x y p q e = participant_told a b m x y p q (ap (λ (r : Response). r.body) e)
