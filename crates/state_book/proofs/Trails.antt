-- A trail with one more entry.
use Rattle.std.proofs.Common.{ℕ, List, [], ◌∷◌, ◌++◌, Option, Some, None, refl, subst}
use Rattle.std.specs.Prelude.{IfSome}
use Rattle.theory_history.specs.Views.{View}
use Rattle.state_book.specs.declared.calls.Entry.{Entry}
use Rattle.state_book.specs.Next.{IsNext}
use Rattle.state_book.specs.Trails.{LeadsTo}

-- the longer trail leads on to the next view
pub leads_on : (me : ℕ) (a b c : View) (trail : List Entry) (e : Entry) → LeadsTo me a trail b → IsNext me b e.call e.moment e.reply c → LeadsTo me a (trail ++ e ∷ []) c
leads_on me a b c [] e leads next = (c, subst (λ (v : View). IsNext me v e.call e.moment e.reply c) leads next, refl)
leads_on me a b c (x ∷ trail) e (mid, first, rest) next = (mid, first, leads_on me mid b c trail e rest next)

-- the same from the opening of the current run
pub legal_on : (me : ℕ) (opening : Option View) (b c : View) (trail : List Entry) (e : Entry) → IfSome opening (λ a. LeadsTo me a trail b) → IsNext me b e.call e.moment e.reply c
    → IfSome opening (λ a. LeadsTo me a (trail ++ e ∷ []) c)
legal_on me None b c trail e legal next = legal
legal_on me (Some a) b c trail e legal next = leads_on me a b c trail e legal next
