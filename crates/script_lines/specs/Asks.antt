-- The commands of the script, and how a line spells them.
use Rattle.std.specs.Prelude.{◌≡◌, ◌≤◌, ◌<◌, ◌^◌, ℕ, List, [], ◌∷◌, All, codes, length, map, Option, Some, None, IfSome}
use Rattle.std.specs.Fmt.{decimal}
use Rattle.state_ids.specs.Ids.{Id, IsId, IsTextOf, id_text}
use Rattle.state_ids.specs.Names.{verdict_name, act_name, outcome_name}
use Rattle.state_forest.specs.declared.record.TheConstants.{MAX_MEMBERS}
use Rattle.wire_callbacks.specs.CallWords.{kind_name}
use Rattle.script_lines.specs.declared.asking.Ask.{Ask}
use Rattle.script_lines.specs.declared.asking.Ask.TheVariants.{Enter, Tick, Send, SendOld, Deliver, Restart, Show, Member, Duties, Hear, Front, Same, Text, Read}
use Rattle.state_facts.specs.declared.command.Command.{Command}
use Rattle.state_facts.specs.declared.command.Command.TheVariants.{Begin, Join, Leave, Decide, Report, Forgot, Told, Purge}
use Rattle.script_lines.specs.CallLines.{IsAnswerInRange, GivesAnswer}
use Rattle.script_lines.specs.Joins.{GivesLinks}
use Rattle.script_lines.specs.LineParts.{words_of}

-- a node among this many
abbrev pub IsNodeOf : ℕ → ℕ → Type 0
IsNodeOf nodes n = (1 ≤ n) × (n ≤ nodes)

-- an LRA gives out at most 32 member numbers, from 1
abbrev pub IsMemberNumber : ℕ → Type 0
IsMemberNumber m = (1 ≤ m) × (m ≤ MAX_MEMBERS)

-- numbers in a line are below 2^64
abbrev pub IsNumber : ℕ → Type 0
IsNumber n = n < 2 ^ 64

-- a base has a count for each of this many nodes
abbrev pub IsBaseOf : ℕ → List ℕ → Type 0
IsBaseOf nodes base = (length base ≡ nodes) × All IsNumber base

abbrev pub IsCommandInRange : Command → Type 0
IsCommandInRange (Begin parent deadline) = IfSome parent IsId × (deadline < 2 ^ 64)
IsCommandInRange (Join id links) = IsId id
IsCommandInRange (Leave id member) = IsId id × IsMemberNumber member
IsCommandInRange (Decide id verdict) = IsId id
IsCommandInRange (Report id member act outcome) = IsId id × IsMemberNumber member
IsCommandInRange (Forgot id member) = IsId id × IsMemberNumber member
IsCommandInRange (Told id member) = IsId id × IsMemberNumber member
IsCommandInRange (Purge root) = IsId root

-- the values of what is asked are in their ranges
abbrev pub IsInRange : ℕ → Ask → Type 0
IsInRange nodes (Enter node command) = IsNodeOf nodes node × IsCommandInRange command
IsInRange nodes (Tick node now) = IsNodeOf nodes node × (now < 2 ^ 64)
IsInRange nodes (Send node base) = IsNodeOf nodes node × IsBaseOf nodes base
IsInRange nodes (SendOld node base) = IsNodeOf nodes node × IsBaseOf nodes base
IsInRange nodes (Deliver frame node kept) = IsNumber frame × IsNodeOf nodes node × IfSome kept IsNumber
IsInRange nodes (Restart node) = IsNodeOf nodes node
IsInRange nodes (Show node id) = IsNodeOf nodes node × IsId id
IsInRange nodes (Member node id member) = IsNodeOf nodes node × IsId id × IsMemberNumber member
IsInRange nodes (Duties node) = IsNodeOf nodes node
IsInRange nodes (Hear node id member kind answer) = IsNodeOf nodes node × IsId id × IsMemberNumber member × IsAnswerInRange answer
IsInRange nodes (Front node) = IsNodeOf nodes node
IsInRange nodes (Same node other) = IsNodeOf nodes node × IsNodeOf nodes other
IsInRange nodes (Text id) = IsId id
IsInRange nodes (Read id) = IsId id

-- the word that a line begins with
abbrev pub verb_of : Ask → List ℕ
verb_of (Enter node (Begin parent deadline)) = codes "begin"
verb_of (Enter node (Join id links)) = codes "join"
verb_of (Enter node (Leave id member)) = codes "leave"
verb_of (Enter node (Decide id verdict)) = verdict_name verdict
verb_of (Enter node (Report id member act outcome)) = codes "report"
verb_of (Enter node (Forgot id member)) = codes "forgot"
verb_of (Enter node (Told id member)) = codes "told"
verb_of (Enter node (Purge root)) = codes "purge"
verb_of (Tick node now) = codes "tick"
verb_of (Send node base) = codes "send"
verb_of (SendOld node base) = codes "sendold"
verb_of (Deliver frame node kept) = codes "deliver"
verb_of (Restart node) = codes "restart"
verb_of (Show node id) = codes "show"
verb_of (Member node id member) = codes "member"
verb_of (Duties node) = codes "duties"
verb_of (Hear node id member kind answer) = codes "answer"
verb_of (Front node) = codes "front"
verb_of (Same node other) = codes "same"
verb_of (Text id) = codes "text"
verb_of (Read id) = codes "read"

-- a parent is the last word, and may be missing
abbrev pub parent_words : Option Id → List (List ℕ)
parent_words None = []
parent_words (Some p) = id_text p ∷ []

-- a count of bytes is the last word, and may be missing
abbrev pub kept_words : Option ℕ → List (List ℕ)
kept_words None = []
kept_words (Some n) = decimal n ∷ []

-- the words after the verb; numbers are decimal without leading zeros
abbrev pub HasArguments : List (List ℕ) → Ask → Type 0
HasArguments words (Enter node (Begin parent deadline)) = words ≡ decimal node ∷ decimal deadline ∷ parent_words parent
HasArguments words (Enter node (Join id links)) =
    (given : List (List ℕ)) × (words ≡ decimal node ∷ id_text id ∷ given) × GivesLinks given links
HasArguments words (Enter node (Leave id member)) = words ≡ decimal node ∷ id_text id ∷ decimal member ∷ []
HasArguments words (Enter node (Decide id verdict)) = words ≡ decimal node ∷ id_text id ∷ []
HasArguments words (Enter node (Report id member act outcome)) =
    words ≡ decimal node ∷ id_text id ∷ decimal member ∷ act_name act ∷ outcome_name outcome ∷ []
HasArguments words (Enter node (Forgot id member)) = words ≡ decimal node ∷ id_text id ∷ decimal member ∷ []
HasArguments words (Enter node (Told id member)) = words ≡ decimal node ∷ id_text id ∷ decimal member ∷ []
HasArguments words (Enter node (Purge root)) = words ≡ decimal node ∷ id_text root ∷ []
HasArguments words (Tick node now) = words ≡ decimal node ∷ decimal now ∷ []
HasArguments words (Send node base) = words ≡ decimal node ∷ map decimal base
HasArguments words (SendOld node base) = words ≡ decimal node ∷ map decimal base
HasArguments words (Deliver frame node kept) = words ≡ decimal frame ∷ decimal node ∷ kept_words kept
HasArguments words (Restart node) = words ≡ decimal node ∷ []
HasArguments words (Show node id) = words ≡ decimal node ∷ id_text id ∷ []
HasArguments words (Member node id member) = words ≡ decimal node ∷ id_text id ∷ decimal member ∷ []
HasArguments words (Duties node) = words ≡ decimal node ∷ []
HasArguments words (Hear node id member kind answer) =
    (given : List (List ℕ)) × (words ≡ decimal node ∷ id_text id ∷ decimal member ∷ kind_name kind ∷ given) × GivesAnswer given answer
HasArguments words (Front node) = words ≡ decimal node ∷ []
HasArguments words (Same node other) = words ≡ decimal node ∷ decimal other ∷ []
HasArguments words (Text id) = words ≡ id_text id ∷ []
HasArguments words (Read id) = (text : List ℕ) × (words ≡ text ∷ []) × IsTextOf text id

-- a line spells what it asks for
abbrev pub Spells : ℕ → List ℕ → Ask → Type 0
Spells nodes line ask = (words : List (List ℕ)) × (words_of line ≡ verb_of ask ∷ words) × HasArguments words ask × IsInRange nodes ask

-- what words after a verb are read as: the one thing that they ask for, or nothing if they ask for
-- nothing
abbrev pub ReadsArguments : ℕ → List ℕ → List (List ℕ) → Option Ask → Type 0
ReadsArguments nodes verb words None = (ask : Ask) → verb_of ask ≡ verb → HasArguments words ask → IsInRange nodes ask → ⊥
ReadsArguments nodes verb words (Some ask) = (verb_of ask ≡ verb) × HasArguments words ask × IsInRange nodes ask
