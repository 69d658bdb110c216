-- The ids and member numbers in requests.
use Rattle.std.specs.Prelude.{◌&&◌, ◌==◌, ◌||◌, ◌+◌, ◌-◌, ◌*◌, ◌%◌, ◌^◌, ℕ, Bool, List, [], ◌∷◌, codes, drop, length, not, take, Option, Some, None, option_and_then, if◌then◌else◌, nat_le, slice_index}
use Rattle.std.specs.Int.{from_be_bytes, w64}
use Rattle.std.specs.Str.{bytes_eq}
use Rattle.uuid.specs.Text.{parsed}
use Rattle.state_ids.specs.declared.TheConstants.{MAX_NODES}
use Rattle.state_ids.specs.Ids.{Id, is_fact_number, layout}
use Rattle.state_forest.specs.declared.record.TheConstants.{MAX_MEMBERS}

-- the home and the number that stand in sixteen bytes
abbrev pub id_at : List ℕ → Id
id_at bytes = record { home = slice_index bytes 7; num = from_be_bytes w64 (drop 8 bytes) % 2 ^ 62 }

-- the node and the number of a fact whose layout these bytes are
abbrev pub is_layout : List ℕ → Id → Bool
is_layout bytes id = nat_le 1 id.home && nat_le id.home MAX_NODES && is_fact_number id.num && bytes_eq bytes (layout id)

abbrev pub id_in : List ℕ → Option Id
id_in bytes = if is_layout bytes (id_at bytes) then Some (id_at bytes) else None

-- the urn form, of 45 bytes, has its prefix in lower case
abbrev pub is_prefix_lower : List ℕ → Bool
is_prefix_lower text = not (length text == 45) || bytes_eq (take 9 text) (codes "urn:uuid:")

-- the id that a text is, if one: its bytes as a UUID, in any of the four forms, are the id's
unfoldable pub id_of : List ℕ → Option Id
id_of text = if is_prefix_lower text then option_and_then id_in (parsed text) else None

-- the member number that a text is, if one: 1 to 32 in decimal, without leading zeros
abbrev pub if_a_member : ℕ → Option ℕ
if_a_member m = if nat_le m MAX_MEMBERS then Some m else None

abbrev pub member_of : List ℕ → Option ℕ
member_of [] = None
member_of (d ∷ []) = if nat_le 49 d && nat_le d 57 then Some (d - 48) else None
member_of (t ∷ d ∷ []) =
    if nat_le 49 t && nat_le t 51 && nat_le 48 d && nat_le d 57 then if_a_member (10 * (t - 48) + (d - 48)) else None
member_of (_ ∷ _ ∷ _ ∷ _) = None
