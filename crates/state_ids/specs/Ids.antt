-- The ids of nodes and LRAs, the sixteen bytes of an LRA's id, and its texts.
use Rattle.std.specs.Prelude.{◌≡◌, ◌≤◌, ◌<◌, ◌+◌, ◌*◌, ◌^◌, ℕ, Bool, ◌==◌, ◌&&◌, nat_le, nat_lt, List, ◌++◌, Some, length, take, replicate, codes}
use Rattle.std.specs.Int.{to_be_bytes, w16, w64}
use Rattle.std.specs.Fmt.{decimal}
use Rattle.state_ids.specs.declared.TheConstants.{MAX_NODES}
use Rattle.uuid.specs.Text.{parsed, hyphenated_text, lower}

-- a home, and the number of a begin there
pub record Id : Type 0 where
  pub home : ℕ
  pub num : ℕ

-- there are at most eight nodes, numbered from 1
abbrev pub IsNodeNumber : ℕ → Type 0
IsNodeNumber n = (1 ≤ n) × (n ≤ MAX_NODES)

-- the greatest number of a fact, 2 ^ 48 - 1 (proofs calculate with 2 ^ 48: `IsFactNumber`)
abbrev pub last_number : ℕ
last_number = 281474976710655

-- a node numbers its facts from 1, and each number fits 48 bits
abbrev pub IsFactNumber : ℕ → Type 0
IsFactNumber n = (1 ≤ n) × (n < 2 ^ 48)

abbrev pub is_fact_number : ℕ → Bool
is_fact_number n = nat_le 1 n && nat_lt n (2 ^ 48)

pub record IsId (id : Id) : Type 0 where
  pub home : IsNodeNumber id.home
  pub num : IsFactNumber id.num

-- whether two ids are equal
abbrev pub same_id : Id → Id → Bool
same_id a b = (a.home == b.home) && (a.num == b.num)

-- The bits of an id as a UUID of version 8 (RFC 9562, section 5.8): 48 zero bits, four bits of the
-- version, twelve bits of the home, the variant bits 10, and 62 bits of the number.
abbrev pub version_and_home : ℕ → ℕ
version_and_home home = 8 * 2 ^ 12 + home

abbrev pub variant_and_num : ℕ → ℕ
variant_and_num num = 2 * 2 ^ 62 + num

abbrev pub layout : Id → List ℕ
layout id = replicate 6 0 ++ to_be_bytes w16 (version_and_home id.home) ++ to_be_bytes w64 (variant_and_num id.num)

-- the one text in which an id is written
abbrev pub text_of : Id → List ℕ
text_of id = hyphenated_text lower (layout id)

-- A text is read as an id if it is one of the four forms of the id's bytes. The prefix of the urn
-- form, whose text has 45 bytes, must be in lower case.
pub record IsTextOf (text : List ℕ) (id : Id) : Type 0 where
  pub bytes : parsed text ≡ Some (layout id)
  pub prefix : length text ≡ 45 → take 9 text ≡ codes "urn:uuid:"

-- how an id prints in a script or a refusal
abbrev pub id_text : Id → List ℕ
id_text id = decimal id.home ++ codes "." ++ decimal id.num
