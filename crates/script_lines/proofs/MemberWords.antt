-- What words must be to report about a participant, or to join.
use Rattle.std.proofs.Common.{◌≡◌, ℕ, List, [], ◌∷◌, codes, get_or, ap, sym, subst, ◌∙◌, arith}
use Rattle.std.specs.Fmt.{decimal}
use Rattle.state_ids.specs.Ids.{Id, IsId, id_text}
use Rattle.state_ids.specs.Names.{act_name, outcome_name}
use Rattle.state_ids.specs.declared.outcome.Verdict.TheVariants.{Close, Cancel}
use Rattle.script_lines.specs.declared.asking.Ask.{Ask}
use Rattle.script_lines.specs.declared.asking.Ask.TheVariants.{Enter, Tick, Send, SendOld, Deliver, Restart, Show, Member, Duties, Hear, Front, Same, Text, Read}
use Rattle.state_facts.specs.declared.command.Command.TheVariants.{Begin, Join, Leave, Decide, Report, Forgot, Told, Purge}
use Rattle.state_facts.specs.Links.{Links}
use Rattle.script_lines.specs.Joins.{GivesLinks}
use Rattle.script_lines.specs.Asks.{IsInRange, HasArguments, IsMemberNumber, IsNodeOf, verb_of}

-- no two verbs of these have the same third letter
third : (word verb : List ℕ) → word ≡ verb → get_or word 2 0 ≡ get_or verb 2 0
third word verb e = ap (λ (l : List ℕ). get_or l 2 0) e

-- words that don't begin with a participant report nothing
pub none_reported : (nodes : ℕ) (words : List (List ℕ))
    → ((node : ℕ) (id : Id) (m : ℕ) (rest : List (List ℕ)) → IsNodeOf nodes node → IsId id → IsMemberNumber m → words ≡ decimal node ∷ id_text id ∷ decimal m ∷ rest → ⊥)
    → (ask : Ask) → verb_of ask ≡ codes "report" → HasArguments words ask → IsInRange nodes ask → ⊥
none_reported nodes words none (Enter node (Begin parent deadline)) verb _ _ = absurd (omega (arith, third _ _ verb))
none_reported nodes words none (Enter node (Join id links)) verb _ _ = absurd (omega (arith, third _ _ verb))
none_reported nodes words none (Enter node (Leave id m)) verb _ _ = absurd (omega (arith, third _ _ verb))
none_reported nodes words none (Enter node (Decide id Close)) verb _ _ = absurd (omega (arith, third _ _ verb))
none_reported nodes words none (Enter node (Decide id Cancel)) verb _ _ = absurd (omega (arith, third _ _ verb))
none_reported nodes words none (Enter node (Report id m act outcome)) _ has fits =
    none node id m (act_name act ∷ outcome_name outcome ∷ []) fits.0 fits.1.0 fits.1.1 has
none_reported nodes words none (Enter node (Forgot id m)) verb _ _ = absurd (omega (arith, third _ _ verb))
none_reported nodes words none (Enter node (Told id m)) verb _ _ = absurd (omega (arith, third _ _ verb))
none_reported nodes words none (Enter node (Purge root)) verb _ _ = absurd (omega (arith, third _ _ verb))
none_reported nodes words none (Tick node now) verb _ _ = absurd (omega (arith, third _ _ verb))
none_reported nodes words none (Send node base) verb _ _ = absurd (omega (arith, third _ _ verb))
none_reported nodes words none (SendOld node base) verb _ _ = absurd (omega (arith, third _ _ verb))
none_reported nodes words none (Deliver frame node kept) verb _ _ = absurd (omega (arith, third _ _ verb))
none_reported nodes words none (Restart node) verb _ _ = absurd (omega (arith, third _ _ verb))
none_reported nodes words none (Show node id) verb _ _ = absurd (omega (arith, third _ _ verb))
none_reported nodes words none (Member node id m) verb _ _ = absurd (omega (arith, third _ _ verb))
none_reported nodes words none (Duties node) verb _ _ = absurd (omega (arith, third _ _ verb))
none_reported nodes words none (Hear node id m kind answer) verb _ _ = absurd (omega (arith, third _ _ verb))
none_reported nodes words none (Front node) verb _ _ = absurd (omega (arith, third _ _ verb))
none_reported nodes words none (Same node other) verb _ _ = absurd (omega (arith, third _ _ verb))
none_reported nodes words none (Text id) verb _ _ = absurd (omega (arith, third _ _ verb))
none_reported nodes words none (Read id) verb _ _ = absurd (omega (arith, third _ _ verb))

same_rest : (a b c d : List ℕ) (rest given : List (List ℕ)) → a ∷ b ∷ rest ≡ c ∷ d ∷ given → given ≡ rest
same_rest a b c d rest given e = cc

-- words join nothing if the words after the first two give no links
pub none_joined : (nodes : ℕ) (words rest : List (List ℕ)) (a b : List ℕ) → words ≡ a ∷ b ∷ rest → ((links : Links) → GivesLinks rest links → ⊥)
    → (ask : Ask) → verb_of ask ≡ codes "join" → HasArguments words ask → IsInRange nodes ask → ⊥
none_joined nodes words rest a b is none (Enter node (Begin parent deadline)) verb _ _ = absurd (omega (arith, third _ _ verb))
none_joined nodes words rest a b is none (Enter node (Join id links)) _ (given, e, gives) _ =
    let P : List (List ℕ) → Type 0 = λ w. GivesLinks w links in
    none links (subst P (same_rest a b (decimal node) (id_text id) rest given (sym is ∙ e)) gives)
none_joined nodes words rest a b is none (Enter node (Leave id m)) verb _ _ = absurd (omega (arith, third _ _ verb))
none_joined nodes words rest a b is none (Enter node (Decide id Close)) verb _ _ = absurd (omega (arith, third _ _ verb))
none_joined nodes words rest a b is none (Enter node (Decide id Cancel)) verb _ _ = absurd (omega (arith, third _ _ verb))
none_joined nodes words rest a b is none (Enter node (Report id m act outcome)) verb _ _ = absurd (omega (arith, third _ _ verb))
none_joined nodes words rest a b is none (Enter node (Forgot id m)) verb _ _ = absurd (omega (arith, third _ _ verb))
none_joined nodes words rest a b is none (Enter node (Told id m)) verb _ _ = absurd (omega (arith, third _ _ verb))
none_joined nodes words rest a b is none (Enter node (Purge root)) verb _ _ = absurd (omega (arith, third _ _ verb))
none_joined nodes words rest a b is none (Tick node now) verb _ _ = absurd (omega (arith, third _ _ verb))
none_joined nodes words rest a b is none (Send node base) verb _ _ = absurd (omega (arith, third _ _ verb))
none_joined nodes words rest a b is none (SendOld node base) verb _ _ = absurd (omega (arith, third _ _ verb))
none_joined nodes words rest a b is none (Deliver frame node kept) verb _ _ = absurd (omega (arith, third _ _ verb))
none_joined nodes words rest a b is none (Restart node) verb _ _ = absurd (omega (arith, third _ _ verb))
none_joined nodes words rest a b is none (Show node id) verb _ _ = absurd (omega (arith, third _ _ verb))
none_joined nodes words rest a b is none (Member node id m) verb _ _ = absurd (omega (arith, third _ _ verb))
none_joined nodes words rest a b is none (Duties node) verb _ _ = absurd (omega (arith, third _ _ verb))
none_joined nodes words rest a b is none (Hear node id m kind answer) verb _ _ = absurd (omega (arith, third _ _ verb))
none_joined nodes words rest a b is none (Front node) verb _ _ = absurd (omega (arith, third _ _ verb))
none_joined nodes words rest a b is none (Same node other) verb _ _ = absurd (omega (arith, third _ _ verb))
none_joined nodes words rest a b is none (Text id) verb _ _ = absurd (omega (arith, third _ _ verb))
none_joined nodes words rest a b is none (Read id) verb _ _ = absurd (omega (arith, third _ _ verb))
