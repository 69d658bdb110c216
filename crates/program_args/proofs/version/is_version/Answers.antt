use Rattle.std.proofs.Common.{◌≡◌, ◌∷◌, [], ◌∙◌, codes, map, MatchBool, string_bytes, sym, subst, true, true≢false}
use Rattle.program_args.proofs.version.is_version.Goals as goal

-- were the words the one, the first would have been found to be it
pub returns-else-is_said : goal.returns-else-is_said
returns-else-is_said c =
    subst (λ b. MatchBool b (map string_bytes c.args.words.now ≡ codes "--version" ∷ []) (map string_bytes c.args.words.now ≡ codes "--version" ∷ [] → ⊥))
    (sym c.if-is_said.false)
    (λ is. true≢false (sym (c.flag_of-is_said.ensures.one true [] (λ others e. cc) is).0 ∙ c.if-is_said.false))
