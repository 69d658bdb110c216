-- The seal of a participant's link.
use Rattle.std.specs.Prelude.{ℕ, List, ◌∷◌, ◌++◌, map, replicate, take, bit_xor}
use Rattle.base64.specs.Engines.{url_safe_no_pad}
use Rattle.base64.specs.GeneralPurpose.{encode_of}
use Rattle.sha2.specs.Sha256.{sha256}
use Rattle.state_ids.specs.Ids.{Id, text_of}
use Rattle.wire_narayana.specs.declared.link_kind.LinkKind.{LinkKind}
use Rattle.wire_narayana.specs.Kinds.{kind_name}

-- a key's 32 bytes, each xor the mask, followed by the mask itself up to the 64 bytes of a block of
-- SHA-256
abbrev pub pad : ℕ → List ℕ → List ℕ
pad mask key = map (λ b. bit_xor b mask) key ++ replicate 32 mask

-- HMAC over SHA-256 (RFC 2104, section 2): the masks are 0x36 and 0x5c
unfoldable pub hmac : List ℕ → List ℕ → List ℕ
hmac key message = sha256 (pad 92 key ++ sha256 (pad 54 key ++ message))

-- the text that is sealed: the kind's name, the LRA and the participant's whole link, separated by
-- ends of lines
abbrev pub sealed_text : LinkKind → Id → List ℕ → List ℕ
sealed_text kind id link = kind_name kind ++ (10 ∷ (text_of id ++ (10 ∷ link)))

-- the first six bytes of the HMAC, as eight letters
unfoldable pub seal : List ℕ → LinkKind → Id → List ℕ → List ℕ
seal key kind id link = encode_of url_safe_no_pad (take 6 (hmac key (sealed_text kind id link)))
