-- The receipts of a clerk that has its calls made elsewhere.
use Rattle.std.proofs.Common.{◌≡◌, ◌+◌, ◌-◌, ◌++◌, ◌∷◌, ◌∙◌, ℕ, List, [], Ok, length, refl, sym, ap, arith, length-append, Some}
use Rattle.std.specs.Prelude.{slice_get}
use Rattle.state_book.specs.declared.calls.Call.{Call}
use Rattle.state_book.specs.declared.calls.Receipt.{Receipt}
use Rattle.state_book.specs.declared.calls.Reply.{Reply}
use Rattle.state_book.specs.Clerks.{IsOutcome, last_reply, reply_in}

last_there : (rs : List Receipt) (r : Receipt) → slice_get (rs ++ r ∷ []) (length rs) ≡ Some r
last_there [] r = refl
last_there (x ∷ rs) r = last_there rs r

one_less : (n m : ℕ) → n ≡ m + 1 → n - 1 ≡ m
one_less n m e = omega (arith, e)

last_of_put : (rs : List Receipt) (r : Receipt) → last_reply (rs ++ r ∷ []) ≡ r.reply
last_of_put rs r =
    ap (λ n. reply_in (slice_get (rs ++ r ∷ []) n)) (one_less (length (rs ++ r ∷ [])) (length rs) (length-append rs (r ∷ [])))
    ∙ ap reply_in (last_there rs r)

-- a receipt was put last
pub put : (old new : List Receipt) (asked : Call) (reply : Reply)
    → new ≡ old ++ record { index = 0; call = asked; reply = reply } ∷ [] → IsOutcome old new asked (Ok (last_reply new))
put old new asked reply last =
    let r : Receipt = record { index = 0; call = asked; reply = reply } in
    (0, last ∙ ap (λ (s : Reply). old ++ record { index = 0; call = asked; reply = s } ∷ []) (sym (ap last_reply last ∙ last_of_put old r)))
