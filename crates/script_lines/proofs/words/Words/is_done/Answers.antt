use Rattle.std.proofs.Common.{◌≡◌, ℕ, List, [], Bool, true, false, not, Option, None, Some, is_some, IsTrue, Bor, refl, rules}
use Rattle.std.specs.Option.{option_map_or}
use Rattle.script_lines.specs.LineParts.{words_of}
use Rattle.script_lines.proofs.Splits.{parts_some}
use Rattle.script_lines.proofs.words.Words.is_done.Goals as goal

left_of : Option (Bor (List ℕ)) → List (List ℕ)
left_of rest = option_map_or (λ text. words_of text.now) rest []

-- nothing is left if and only if there is no rest
done_is : (rest : Option (Bor (List ℕ))) (none : Bool) → is_some rest ≡ not none → (IsTrue none → left_of rest ≡ []) × (left_of rest ≡ [] → IsTrue none)
unfolding left_of
done_is None true e = (λ h. refl, λ h. search rules)
done_is None false e = absurd cc
done_is (Some text) true e = absurd cc
done_is (Some text) false e = (λ h. search rules, λ h. absurd (parts_some 32 text.now h))

pub returns : goal.returns
unfolding left_of
returns c = let h = done_is c.self.inside.rest c.is_none.result c.is_none.ensures in rw c.self.view_is at h
