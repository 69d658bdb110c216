-- a kept link is read as the same link again
use Rattle.std.proofs.Common.{◌≡◌, ◌&&◌, ℕ, List, Bool, true, false, Some, None, Ok, ap, ◌∙◌, cond, length, nat_le, codes, is_some, ◌≤◌, arith}
use mathlib.Core.Bool.{not}
use Rattle.std.specs.Str.{bytes_eq}
use Rattle.std.proofs.lemmas.Bool.Decides.{nat_tests}
use Rattle.url.specs.Input.{is_empty}
use Rattle.url.specs.Parts.{Parts, serialize, IsValid}
use Rattle.url.specs.Parser.{parse_url}
use Rattle.url.proofs.Theorems.{parse_url_idempotent}
use Rattle.state_facts.specs.LinkTexts.{is_link, kept_of, kept_text}

and_right : (a b : Bool) → (a && b) ≡ true → b ≡ true
and_right true b e = e
and_right false b e = absurd cc

-- the last of five tests
fifth : (a b c d e : Bool) → (a && (b && (c && (d && e)))) ≡ true → e ≡ true
fifth a b c d e h = and_right d e (and_right c (d && e) (and_right b (c && (d && e)) (and_right a (b && (c && (d && e))) h)))

pub kept_again : (text : List ℕ) (url : Parts) → IsValid url → parse_url None text ≡ Ok url → is_link url ≡ true → kept_text (serialize url) ≡ Some (serialize url)
kept_again text url valid parsed link =
    let short : nat_le (length (serialize url)) 127 ≡ true = fifth (bytes_eq url.scheme (codes "http")) (is_empty url.username) (is_empty url.password) (not (is_some url.fragment)) (nat_le (length (serialize url)) 127) link in
    let again : parse_url None (serialize url) ≡ Ok url = parse_url_idempotent None None text url tt valid parsed in
    ap (λ (b : Bool). cond b (kept_of (parse_url None (serialize url))) None) short ∙ ap kept_of again
    ∙ ap (λ (b : Bool). cond b (Some (serialize url)) None) link

-- and the kept link is short
pub kept_short : (url : Parts) → is_link url ≡ true → length (serialize url) ≤ 127
kept_short url link =
    let short : nat_le (length (serialize url)) 127 ≡ true = fifth (bytes_eq url.scheme (codes "http")) (is_empty url.username) (is_empty url.password) (not (is_some url.fragment)) (nat_le (length (serialize url)) 127) link in
    grind (arith, nat_tests, short)
