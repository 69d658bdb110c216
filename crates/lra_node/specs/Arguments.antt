-- What the program's arguments ask for, other than a script.
use Rattle.std.specs.Prelude.{◌≡◌, ◌≤◌, ℕ, Bool, true, false, List, [], ◌∷◌, ◌++◌, codes, vec_len}
use Rattle.std.specs.Fmt.{decimal}
use Rattle.state_ids.specs.declared.TheConstants.{MAX_NODES}
use Rattle.lra_node.specs.declared.Job.{Job}
use Rattle.lra_node.specs.declared.Job.TheVariants.{Server, Members}
use Rattle.script_lines.specs.Asks.{IsNodeOf}

-- a server of so many nodes, of which the first listens at this port, with their journals in a folder
abbrev pub server_words : (nodes port : ℕ) → List ℕ → List (List ℕ)
server_words nodes port folder = codes "serve" ∷ decimal nodes ∷ decimal port ∷ folder ∷ []

-- words ask for such a server, of 1 to 8 nodes, at a port that all of them can have and that asks for no privilege
abbrev pub AskServer : List (List ℕ) → (nodes port : ℕ) → List ℕ → Type 0
AskServer words nodes port folder = IsNodeOf MAX_NODES nodes × (1024 ≤ port) × (port ≤ 65528) × (words ≡ server_words nodes port folder)

-- the name ends with the one that the program had while it ran members alone
abbrev pub IsOldName : List ℕ → Type 0
IsOldName name = (path : List ℕ) × (name ≡ path ++ codes "lra_member")

-- The words ask for members, which these words describe. They stand behind the word `member`, or alone
-- if the program was started by its old name
abbrev pub AskMember : (has_old_name : Bool) → List (List ℕ) → List (List ℕ) → Type 0
AskMember true words given = given ≡ words
AskMember false words given = words ≡ codes "member" ∷ given

-- the job has one to eight nodes
abbrev pub IsPossible : Job → Type 0
IsPossible (Server nodes port) = (1 ≤ nodes) × (nodes ≤ MAX_NODES)
IsPossible (Members members) = (1 ≤ vec_len members.peers) × (vec_len members.peers ≤ MAX_NODES)
