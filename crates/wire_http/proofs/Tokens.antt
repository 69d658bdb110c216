-- A token of httparse is a token of http.
use Rattle.std.proofs.Common.{◌≡◌, ℕ, List, refl, subst, IsTrue}
use Rattle.httparse.specs.Grammar.{IsToken as IsParsedToken, is_token_byte as is_parsed_byte}
use Rattle.http.specs.Token.{IsToken, is_token_byte}

same_byte : (b : ℕ) → is_parsed_byte b ≡ is_token_byte b
unfolding is_parsed_byte is_token_byte
same_byte b = refl

pub is_token : (bytes : List ℕ) → IsParsedToken bytes → IsToken bytes
is_token bytes (some, all) = (some, λ k d within. subst IsTrue (same_byte _) (all k d within))
