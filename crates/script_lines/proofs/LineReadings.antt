-- How far the reading of a line has come.
use Rattle.std.proofs.Common.{◌≡◌, ℕ, ◌<◌, ◌≤◌, ◌==◌, true, false, List, [], ◌∷◌, ◌++◌, length, take, ap, sym, refl, subst, ◌∙◌, arith}
use Rattle.std.proofs.lemmas.List.{append-nil, take_all, length-take, length-append, take-append-le}
use Rattle.wire_http.specs.Streams.{FoundEnd, GivenBytes, Gives, GivesWhat}
use Rattle.wire_http.proofs.Known.{gives_more}
use Rattle.script_lines.specs.LineParts.{HasNone}
use Rattle.script_lines.specs.ScriptEnds.{ReadsLine}
use Rattle.script_lines.proofs.Splits.{HasNone-push}

-- a part of a line was given, and this much of it is kept
abbrev pub IsReading : List ℕ → GivenBytes → GivenBytes → Type 0
IsReading kept old now = GivesWhat old now (λ part. (kept ≡ take 4097 part) × HasNone 10 part)

pub reading_byte : (kept more : List ℕ) (old now next : GivenBytes) (b : ℕ) → IsReading kept old now → Gives now next (b ∷ []) → (b == 10) ≡ false
    → ((part : List ℕ) → kept ≡ take 4097 part → more ≡ take 4097 (part ++ b ∷ [])) → IsReading more old next
reading_byte kept more old now next b (part, gave, (is, none)) gives other keeps =
    (part ++ b ∷ [], gives_more old now next part (b ∷ []) gave gives, (keeps part is, HasNone-push 10 part b none other))

pub reading_line : (kept : List ℕ) (old now next : GivenBytes) → IsReading kept old now → Gives now next (10 ∷ []) → ReadsLine true kept old next
reading_line kept old now next (part, gave, (is, none)) gives =
    (part ++ 10 ∷ [], gives_more old now next part (10 ∷ []) gave gives, (part, is, none, refl))

-- the call that gave nothing more
same_part : (old now next : GivenBytes) (part : List ℕ) → Gives old now part → Gives now next [] → Gives old next part
same_part old now next part gave gives = subst (λ (l : List ℕ). Gives old next l) (append-nil part) (gives_more old now next part [] gave gives)

pub reading_end : (kept : List ℕ) (old now next : GivenBytes) → IsReading kept old now → Gives now next [] × FoundEnd next → ReadsLine false kept old next
reading_end kept old now next (part, gave, (is, none)) (gives, ended) = ((part, same_part old now next part gave gives, (is, none)), ended)

-- one more byte is kept, if there is room
pub keep_more : (kept part : List ℕ) (b : ℕ) → length kept < 4097 → kept ≡ take 4097 part → kept ++ b ∷ [] ≡ take 4097 (part ++ b ∷ [])
keep_more kept part b room e =
    let short : length part < 4097 = omega (arith, ap length e, length-take 4097 part) in
    let same : kept ≡ part = e ∙ take_all 4097 part (omega arith) in
    ap (λ (l : List ℕ). l ++ b ∷ []) same ∙ sym (take_all 4097 (part ++ b ∷ []) (omega (arith, length-append part (b ∷ []))))

-- and no byte is kept, if there is no room
pub keep_same : (kept part : List ℕ) (b : ℕ) → 4097 ≤ length kept → kept ≡ take 4097 part → kept ≡ take 4097 (part ++ b ∷ [])
keep_same kept part b full e =
    let long : 4097 ≤ length part = omega (arith, ap length e, length-take 4097 part) in
    e ∙ sym (take-append-le 4097 part (b ∷ []) long)
