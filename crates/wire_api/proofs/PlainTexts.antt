-- What is said about a wrong body needs no escapes in a JSON string.
use Rattle.std.specs.Prelude.{⊤, nat_le, not, option_and_then}
use Rattle.std.proofs.Common.{◌≡◌, ◌==◌, ◌&&◌, ◌||◌, ◌∙◌, ℕ, Bool, true, false, List, [], ◌∷◌, ◌++◌, codes, length, Option, Some, None, ap, arith, refl, subst, if◌then◌else◌}
use Rattle.std.specs.Char.{is_ascii_alphanumeric}
use Rattle.std.specs.List.{list_all}
use Rattle.std.proofs.lemmas.Bool.Decides.{nat_tests}
use Rattle.serde_json.specs.Data.{Data}
use Rattle.wire_http.specs.declared.message.Request.{Request}
use Rattle.wire_api.specs.Bodies.{object_in}
use Rattle.wire_api.specs.BodyFaults.{fault_in, fault_text, form_of, is_absent, is_plain_byte, is_shown, is_shown_byte, unknown_of, unknown_text, why_in, why_in_body, why_in_object, why_with}
use Rattle.wire_api.specs.declared.body_faults.BodyFault.{BodyFault}
use Rattle.wire_api.specs.declared.body_faults.BodyFault.TheVariants.{NoObject, NoText, NoLinks, NoCompensate, NoLink, NoParent, NoLimit, LongLimit, NoAct, NoOutcome}
use Rattle.wire_api.specs.declared.body_faults.Form.{Form}
use Rattle.wire_api.specs.declared.body_faults.JoinLink.TheVariants.{Complete, Compensate, Status, Forget, After}

abbrev IsPlain : List ℕ → Type 0
IsPlain text = list_all is_plain_byte text ≡ true

abbrev IsPlainIf : Option (List ℕ) → Type 0
IsPlainIf (Some text) = IsPlain text
IsPlainIf None = ⊤

second : (a b : Bool) → (a && b) ≡ true → b ≡ true
second true b is = is
second false b is = cc

first : (a b : Bool) → (a && b) ≡ true → a ≡ true
first true b is = refl
first false b is = cc

shown_is_plain : (b : ℕ) → is_shown_byte b ≡ true → is_plain_byte b ≡ true
shown_is_plain b is = grind (arith, nat_tests)

name_is_plain : (name rest : List ℕ) → list_all is_shown_byte name ≡ true → IsPlain rest → IsPlain (name ++ rest)
name_is_plain [] rest is plain = plain
name_is_plain (b ∷ name) rest is plain =
    let here = shown_is_plain b (first (is_shown_byte b) (list_all is_shown_byte name) is) in
    rw here (name_is_plain name rest (second (is_shown_byte b) (list_all is_shown_byte name) is) plain)

unknown_is_plain : (name : List ℕ) → IsPlain (unknown_text name)
unknown_is_plain name = settle (is_shown name) refl
  where
    settle : (is : Bool) → is_shown name ≡ is → IsPlain (if is then name ++ codes " is not known here" else codes "a member is not known here")
    settle true is = name_is_plain name (codes " is not known here") (second (nat_le (length name) 32) _ (second (nat_le 1 (length name)) _ is)) refl
    settle false is = refl

fault_is_plain : (fault : BodyFault) → IsPlain (fault_text fault)
fault_is_plain NoObject = refl
fault_is_plain (NoText Complete) = refl
fault_is_plain (NoText Compensate) = refl
fault_is_plain (NoText Status) = refl
fault_is_plain (NoText Forget) = refl
fault_is_plain (NoText After) = refl
fault_is_plain NoLinks = refl
fault_is_plain NoCompensate = refl
fault_is_plain (NoLink Complete) = refl
fault_is_plain (NoLink Compensate) = refl
fault_is_plain (NoLink Status) = refl
fault_is_plain (NoLink Forget) = refl
fault_is_plain (NoLink After) = refl
fault_is_plain NoParent = refl
fault_is_plain NoLimit = refl
fault_is_plain LongLimit = refl
fault_is_plain NoAct = refl
fault_is_plain NoOutcome = refl

with_is_plain : (unknown : Option (List ℕ)) (fault : Option BodyFault) → IsPlainIf (why_with unknown fault)
with_is_plain (Some name) fault = unknown_is_plain name
with_is_plain None (Some fault) = fault_is_plain fault
with_is_plain None None = tt

object_is_plain : (form : Form) (now : ℕ) (object : Option Data) → IsPlainIf (why_in_object form now object)
object_is_plain form now None = fault_is_plain NoObject
object_is_plain form now (Some o) = with_is_plain (unknown_of form o) (fault_in form now o)

body_is_plain : (form : Form) (now : ℕ) (body : List ℕ) → IsPlainIf (why_in_body form now body)
unfolding why_in_body
body_is_plain form now body = settle (is_absent form body)
  where
    settle : (is : Bool) → IsPlainIf (if is then None else why_in_object form now (object_in body))
    settle true = tt
    settle false = object_is_plain form now (object_in body)

why_is_plain : (now : ℕ) (request : Request) → IsPlainIf (why_in now request)
unfolding why_in
why_is_plain now request = settle (form_of request)
  where
    settle : (form : Option Form) → IsPlainIf (option_and_then (λ f. why_in_body f now request.body) form)
    settle None = tt
    settle (Some form) = body_is_plain form now request.body

pub plain_why : (now : ℕ) (request : Request) (why : List ℕ) → why_in now request ≡ Some why → list_all is_plain_byte why ≡ true
plain_why now request why is = subst IsPlainIf is (why_is_plain now request)
