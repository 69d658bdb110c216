-- The result of a clerk's call, given what its book or its desk did.
use Rattle.std.proofs.Common.{◌≡◌, ◌+◌, ◌-◌, ◌++◌, ◌∷◌, ◌∙◌, ◌⊎◌, inl, inr, ℕ, List, [], Result, Ok, Err, length, sym, ap, subst, arith, length-append}
use Rattle.std.specs.Prelude.{IfErr, MatchResult, OnErr, OnOk, slice_get}
use Rattle.state_facts.specs.declared.refusal.Refusal.{Refusal}
use Rattle.state_facts.specs.declared.refusal.Refusal.TheVariants.{NoMemory}
use Rattle.state_book.specs.declared.calls.Call.{Call}
use Rattle.state_book.specs.declared.calls.Receipt.{Receipt}
use Rattle.state_book.specs.Books.{IsNotEntered}
use Rattle.state_book.specs.Clerks.{BookCalled, ClerkState, DeskCalled, IsEnteredBy, IsOfClerk, IsOutcome, IsRefusedBy, last_reply, reply_in}
use Rattle.state_book.specs.Desks.{IsCalled, Opening, PassState}
use Rattle.state_book.proofs.Refusals.{book_of_clerk}
use Rattle.state_book.proofs.Stands.{slice_get-last}

one_less : (n m : ℕ) → n ≡ m + 1 → n - 1 ≡ m
one_less n m e = omega (arith, e)

last_of_put : (rs : List Receipt) (r : Receipt) → last_reply (rs ++ r ∷ []) ≡ r.reply
last_of_put rs r = ap (λ n. reply_in (slice_get (rs ++ r ∷ []) n)) (one_less (length (rs ++ r ∷ [])) (length rs) (length-append rs (r ∷ []))) ∙ ap reply_in (slice_get-last rs r)

put : (old new : List Receipt) (asked : Call) (r : Receipt) → r.call ≡ asked → new ≡ old ++ r ∷ [] → IsOutcome old new asked (Ok (last_reply new))
put old new asked r call last =
    let reply : r.reply ≡ last_reply new = sym (ap last_reply last ∙ last_of_put old r) in
    let first : ◌≡◌ {A = Receipt} (record { index = r.index; call = r.call; reply = r.reply }) (record { index = r.index; call = asked; reply = r.reply }) = ap (λ c. record { index = r.index; call = c; reply = r.reply }) call in
    let whole : ◌≡◌ {A = Receipt} r (record { index = r.index; call = asked; reply = last_reply new }) = first ∙ ap (λ s. record { index = r.index; call = asked; reply = s }) reply in
    (r.index, last ∙ ap (λ (x : Receipt). old ++ x ∷ []) whole)

refused_of_clerk : {S : Type 0} (old new : ClerkState S) (asked : Call) (r : Refusal) → ((r ≡ NoMemory) × (new.book ≡ old.book)) ⊎ IsNotEntered old.book old.seen new.book asked r → IsOfClerk r
refused_of_clerk old new asked r (inl none) = subst IsOfClerk (sym none.0) tt
refused_of_clerk old new asked r (inr late) = book_of_clerk old.book old.seen new.book asked r late

pub book_outcome : {S : Type 0} {X : Type 0} (old new : ClerkState S) (asked : Call) (now : ℕ) (result : Result X Refusal) → OnOk result (IsEnteredBy old new asked now) → IfErr result (λ r. IsRefusedBy old new asked r)
    → MatchResult result
    (λ _. IsOutcome old.receipts new.receipts asked (Ok (last_reply new.receipts)) × BookCalled old new asked now (Ok (last_reply new.receipts)))
    (λ r. IsOutcome old.receipts new.receipts asked (Err r) × BookCalled old new asked now (Err r))
book_outcome old new asked now (Ok x) entered refused = (put old.receipts new.receipts asked entered.receipt entered.entered.call entered.kept, entered)
book_outcome old new asked now (Err r) entered refused = ((refused.receipts, refused_of_clerk old new asked r refused.cause), refused)

pub desk_outcome : {X : Type 0} (opening : Opening) (old new : PassState) (asked : Call) (now : ℕ) (result : Result X Refusal) → OnOk result (IsCalled opening old new asked now) → OnErr result (new ≡ old)
    → IfErr result IsOfClerk → MatchResult result
    (λ _. IsOutcome old.receipts new.receipts asked (Ok (last_reply new.receipts)) × DeskCalled opening old new asked now (Ok (last_reply new.receipts)))
    (λ r. IsOutcome old.receipts new.receipts asked (Err r) × DeskCalled opening old new asked now (Err r))
desk_outcome opening old new asked now (Ok x) called kept of = (put old.receipts new.receipts asked called.receipt called.trail.call called.last, called)
desk_outcome opening old new asked now (Err r) called kept of = ((ap (λ (p : PassState). p.receipts) kept, of), kept)
