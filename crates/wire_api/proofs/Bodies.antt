-- The JSON object that a body is, by what the JSON reader returned.
use Rattle.std.proofs.Common.{◌≡◌, List, ℕ, Bool, true, false, Some, None, is_some, IsUtf8, refl, option_and_then, if◌then◌else◌}
use Rattle.std.specs.Str.{is_utf8}
use Rattle.std.proofs.lemmas.Str.{IsUtf8-from_is_utf8, is_utf8-from_IsUtf8}
use Rattle.serde_json.specs.Find.{as_object}
use Rattle.serde_json.specs.Data.{Data, null, boolean, number, string, array, object}
use Rattle.serde_json.specs.Read.{read}
use Rattle.wire_api.specs.Bodies.{if_object, object_in}

object_or : (d : Data) → is_some (as_object d) ≡ true → if_object d ≡ Some d
object_or null h = cc
object_or (boolean b) h = cc
object_or (number n) h = cc
object_or (string s) h = cc
object_or (array ds) h = cc
object_or (object ms) h = refl

no_object : (d : Data) → is_some (as_object d) ≡ false → if_object d ≡ None
no_object null h = refl
no_object (boolean b) h = refl
no_object (number n) h = refl
no_object (string s) h = refl
no_object (array ds) h = refl
no_object (object ms) h = cc

pub object_is : (body : List ℕ) (d : Data) → IsUtf8 body → read body ≡ Some d → is_some (as_object d) ≡ true → object_in body ≡ Some d
unfolding object_in
object_is body d u r h = rw (is_utf8-from_IsUtf8 body u, r) (object_or d h)

pub object_none : (body : List ℕ) (d : Data) → IsUtf8 body → read body ≡ Some d → is_some (as_object d) ≡ false → object_in body ≡ None
unfolding object_in
object_none body d u r h = rw (is_utf8-from_IsUtf8 body u, r) (no_object d h)

pub no_json : (body : List ℕ) → IsUtf8 body → read body ≡ None → object_in body ≡ None
unfolding object_in
no_json body u r = rw (is_utf8-from_IsUtf8 body u, r) refl

none_of : (body : List ℕ) (b : Bool) → is_utf8 body ≡ b → ¬ (IsUtf8 body) → (if b then option_and_then if_object (read body) else None) ≡ None
none_of body true e h = absurd (h (IsUtf8-from_is_utf8 body e))
none_of body false e h = refl

pub no_text : (body : List ℕ) → ¬ (IsUtf8 body) → object_in body ≡ None
unfolding object_in
no_text body h = none_of body (is_utf8 body) refl h
