-- Which pulls are meant for another node than the one that reads them.
use Rattle.std.specs.Prelude.{◌&&◌, ◌||◌, ◌==◌, ◌++◌, ℕ, Bool, true, false, List, [], ◌∷◌, codes, drop, is_some, length, not, nat_le, nat_lt, take, Option, Some, None, if◌then◌else◌}
use Rattle.std.specs.Fmt.{decimal}
use Rattle.std.specs.Char.{is_ascii_digit}
use Rattle.std.specs.List.{after_first, before_first, list_all, position_or_len}
use Rattle.std.specs.Str.{bytes_eq}
use Rattle.wire_http.specs.ByteResponses.{Response}
use Rattle.wire_http.specs.declared.message.Request.{Request}
use Rattle.wire_api.specs.Answers.{error_answer}
use Rattle.wire_api.specs.Paths.{path_of, query_of}
use Rattle.node_worker.specs.Groups.{is_group_name}
use Rattle.node_worker.specs.declared.addressee.Addressee.{Addressee}
use Rattle.node_worker.specs.declared.addressee.Addressee.TheVariants.{Anyone, Node}
use Rattle.node_worker.specs.declared.addressee.NodeName.{NodeName}

-- Whom a query names

-- a number from 1 on, in decimal without leading zeros
abbrev pub is_number : List ℕ → Bool
is_number [] = false
is_number (d ∷ ds) = (nat_le 49 d && nat_le d 57) && list_all is_ascii_digit ds

abbrev pub if_number : List ℕ → Option (List ℕ)
if_number text = if is_number text then Some text else None

abbrev pub if_group : List ℕ → Option (List ℕ)
if_group text = if is_group_name text then Some text else None

-- `to=` and a number; `group=` and a name
abbrev pub number_in : List ℕ → Option (List ℕ)
number_in text = if bytes_eq (take 3 text) (codes "to=") then if_number (drop 3 text) else None

abbrev pub group_in : List ℕ → Option (List ℕ)
group_in text = if bytes_eq (take 6 text) (codes "group=") then if_group (drop 6 text) else None

-- Whether that is another node

abbrev pub is_other_number : ℕ → List ℕ → Bool
is_other_number me number = not (bytes_eq number (decimal me))

-- a group with a name differs from each with another name, and from each without one
abbrev pub is_other_group : (own group : Option (List ℕ)) → Bool
is_other_group (Some own) (Some group) = not (bytes_eq own group)
is_other_group (Some own) None = true
is_other_group None (Some group) = true
is_other_group None None = false

-- a node whose group has a name is meant only by a pull that gives that name too
abbrev pub are_other : NodeName → (number group : Option (List ℕ)) → Bool
are_other node (Some number) group = is_other_number node.me number || is_other_group node.group group
are_other node None group = is_some node.group

abbrev pub is_ampersand : ℕ → Bool
is_ampersand b = b == 38

-- in `to=N` and `to=N&group=G`; nothing else names a node
abbrev pub names_other : NodeName → (query : List ℕ) → Bool
names_other node query =
    if nat_lt (position_or_len is_ampersand query) (length query)
    then are_other node (number_in (before_first is_ampersand query)) (group_in (after_first is_ampersand query))
    else are_other node (number_in query) None

-- the part behind who asks, or waits, if a query begins with that; what comes behind the first `&`
abbrev pub behind_first : (query : List ℕ) → List ℕ
behind_first query = if nat_lt (position_or_len is_ampersand query) (length query) then after_first is_ampersand query else query

abbrev pub past_asker : (query : List ℕ) → List ℕ
past_asker query = if bytes_eq (take 5 query) (codes "from=") || bytes_eq (take 5 query) (codes "wait=") then behind_first query else query

abbrev pub asks_other : NodeName → (query : Option (List ℕ)) → Bool
asks_other node (Some query) = names_other node (past_asker query)
asks_other node None = is_some node.group

-- whether a pull with a query is meant for this addressee
abbrev pub is_meant : Addressee → (query : List ℕ) → Bool
is_meant Anyone query = true
is_meant (Node node) query = not (asks_other node (Some query))

-- Requests

abbrev pub is_pull : Request → Bool
is_pull request = bytes_eq request.method (codes "POST") && bytes_eq (path_of request.target) (codes "/peer/pull")

-- a pull that names another node or group, or names no group if the node's has a name
abbrev pub is_misdirected : NodeName → Request → Bool
is_misdirected node request = is_pull request && asks_other node (query_of request.target)

-- Answers

-- which node this is
abbrev pub text_by : (me : ℕ) → (group : Option (List ℕ)) → List ℕ
text_by me (Some group) = codes "Misdirected: this is node " ++ (decimal me ++ (codes " of group " ++ group))
text_by me None = codes "Misdirected: this is node " ++ decimal me

abbrev pub node_text : NodeName → List ℕ
node_text node = text_by node.me node.group

abbrev pub misdirected_answer : NodeName → Response
misdirected_answer node = error_answer 421 [] (node_text node)

-- the beginning of the query of a pull that waits until there is something new, and of one that
-- doesn't
abbrev pub opening_of : (waits : Bool) → List ℕ
opening_of true = codes "?wait="
opening_of false = codes "?from="

-- the query of a pull from one node to another, and to its group if there is one
abbrev pub query_by : (waits : Bool) → (from to : ℕ) → (group : Option (List ℕ)) → List ℕ
query_by waits from to (Some group) = opening_of waits ++ (decimal from ++ (codes "&to=" ++ (decimal to ++ (codes "&group=" ++ group))))
query_by waits from to None = opening_of waits ++ (decimal from ++ (codes "&to=" ++ decimal to))
