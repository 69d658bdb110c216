-- what was put for the homes so far, one after another
use Rattle.std.proofs.Common.{Bool, ◌||◌, ◌≡◌, ◌<◌, ◌+◌, ◌++◌, ◌∙◌, ℕ, List, [], ◌∷◌, refl, sym, ap, subst, append_assoc, get_or, length, take}
use Rattle.state_forest.specs.declared.record.Record.{Record}
use Rattle.std.specs.List.{All, AllByRecursion, flat_map, list_any}
use Rattle.std.proofs.lemmas.List.Elements.{All-from_recursion, All-push, recursion_from_All}
use Rattle.std.proofs.lemmas.List.{append-nil, take_more}
use Rattle.std.proofs.lemmas.Grind.{flat_map-append}
use Rattle.state_forest.specs.declared.merging.Told.{Told}
use Rattle.state_forest.specs.RecordMerges.{held_numbers}
use Rattle.wire_frames.specs.declared.version.Version.{Version}
use Rattle.wire_frames.specs.Order.{lists, records_told}
use Rattle.wire_frames.specs.Encoding.{flat, live, record_text_as}
use Rattle.wire_frames.specs.Typed.{IsTypedRecord}
use Rattle.wire_frames.specs.Versions.{listens}

pub lives_put : (homes : List Told) → flat_map (λ (told : Told). live (held_numbers told.held)) homes ≡ flat_map live (lists homes)
lives_put [] = refl
lives_put (told ∷ homes) = ap (λ (l : List ℕ). live (held_numbers told.held) ++ l) (lives_put homes)

pub homes_put : (v : Version) (homes : List Told) → flat_map (λ (told : Told). flat_map (record_text_as v) told.records.records) homes ≡ flat_map (record_text_as v) (flat (records_told homes))
homes_put v [] = refl
homes_put v (told ∷ homes) =
    ap (λ (l : List ℕ). flat_map (record_text_as v) told.records.records ++ l) (homes_put v homes)
    ∙ sym (flat_map-append (record_text_as v) told.records.records (flat (records_told homes)))

-- the records of typed homes are typed
pub homes_typed : (homes : List Told) → All (λ (told : Told). All IsTypedRecord told.records.records) homes → All (All IsTypedRecord) (records_told homes)
homes_typed homes all = All-from_recursion (All IsTypedRecord) (records_told homes) (each homes (recursion_from_All (λ (told : Told). All IsTypedRecord told.records.records) homes all))
  where
    each : (ts : List Told) → AllByRecursion (λ (told : Told). All IsTypedRecord told.records.records) ts → AllByRecursion (All IsTypedRecord) (records_told ts)
    each [] f = tt
    each (told ∷ ts) f = (f.0, each ts f.1)

-- the property of the first elements with one more element. Without this lemma `All P (take (i + 1)
-- xs)` stays open in a loop, and so does its other clause; that is why `text_next` stands beside it
pub all_next : {X : Type 0} (P : X → Type 0) (xs : List X) (i : ℕ) (x : X) → i < length xs → x ≡ get_or xs i x → All P (take i xs) → P x → All P (take (i + 1) xs)
all_next P xs i x within at so_far here =
    subst (All P) (ap (λ y. take i xs ++ y ∷ []) at ∙ sym (take_more xs i x within)) (All-push P (take i xs) x so_far here)

-- and the text with one more element
pub text_next : {X : Type 0} (f : X → List ℕ) (xs : List X) (i : ℕ) (x : X) (old before after : List ℕ) → i < length xs → x ≡ get_or xs i x → before ≡ old ++ flat_map f (take i xs) → after ≡ before ++ f x
    → after ≡ old ++ flat_map f (take (i + 1) xs)
text_next f xs i x old before after within at so_far here =
    let more : take (i + 1) xs ≡ take i xs ++ x ∷ [] = take_more xs i x within ∙ sym (ap (λ y. take i xs ++ y ∷ []) at) in
    let text : flat_map f (take (i + 1) xs) ≡ flat_map f (take i xs) ++ f x =
    ap (flat_map f) more ∙ flat_map-append f (take i xs) (x ∷ []) ∙ ap (λ l. flat_map f (take i xs) ++ l) (append-nil (f x)) in
    here ∙ ap (λ l. l ++ f x) so_far ∙ append_assoc old (flat_map f (take i xs)) (f x) ∙ sym (ap (λ l. old ++ l) text)

-- whether a record of some home listens
abbrev listens_in : List Record → Bool
listens_in rs = list_any (λ (r : Record). list_any listens r.members) rs

pub any_told : (homes : List Told) → list_any (λ (told : Told). list_any (λ (r : Record). list_any listens r.members) told.records.records) homes ≡ list_any (λ rs. list_any (λ (r : Record). list_any listens r.members) rs) (records_told homes)
any_told [] = refl
any_told (told ∷ homes) = ap (λ (b : Bool). listens_in told.records.records || b) (any_told homes)
