-- What a line that is not empty prints.
use Rattle.std.proofs.Common.{◌≡◌, ℕ, inl, inr, List, [], ◌∷◌, refl}
use Rattle.state_facts.specs.declared.refusal.Refusal.TheVariants.{BadText}
use Rattle.script_world.specs.Worlds.{State}
use Rattle.script_lines.specs.Scripts.{refused, Answers, IsBad, IsDone}

pub bad_answers : (n : ℕ) (s : State) (line out : List ℕ) → (line ≡ [] → ⊥) → IsBad n line → out ≡ refused BadText → Answers n s line out s
bad_answers n s [] out some bad is = absurd (some refl)
bad_answers n s (b ∷ bs) out some bad is = inr (inl (bad, is, refl))

pub done_answers : (n : ℕ) (s : State) (line out : List ℕ) (t : State) → (line ≡ [] → ⊥) → IsDone n s line out t → Answers n s line out t
done_answers n s [] out t some done = absurd (some refl)
done_answers n s (b ∷ bs) out t some done = inr (inr done)
