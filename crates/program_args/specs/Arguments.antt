-- What the words of a command line ask for.
use Rattle.std.specs.Prelude.{◌≡◌, ◌≢◌, ◌≤◌, ◌<◌, ◌+◌, ◌-◌, ◌^◌, ◌==◌, ◌&&◌, ◌||◌, ◌⊎◌, ⊤, ℕ, Bool, true, false, cond, IsTrue, List, [], ◌∷◌, ◌++◌, length, nat_le, codes, Option, Some, None, IfSome, MatchOption, option_map, string_bytes}
use Rattle.std.specs.Char.{is_ascii_alphanumeric}
use Rattle.std.specs.Fmt.{decimal}
use Rattle.std.specs.List.{AllPairs, AllZip, list_all, list_any}
use Rattle.std.specs.Net.Grammar.{IsSocketText}
use Rattle.std.specs.Net.Socket.{socket_port}
use Rattle.std.specs.declared.net.socket_addr.SocketAddr.{SocketAddr}
use Rattle.state_ids.specs.declared.TheConstants.{MAX_NODES}
use Rattle.node_sockets.specs.declared.site.Peer.{Peer}
use Rattle.program_args.specs.declared.member_args.MemberArgs.{MemberArgs}

-- a word names one node, or the first and the last of several with a hyphen between them
abbrev pub SaysNodes : List ℕ → (first last : ℕ) → Type 0
SaysNodes word first last = ((word ≡ decimal first) × (last ≡ first)) ⊎ (word ≡ decimal first ++ (codes "-" ++ decimal last))

-- the address is a socket address with a port, or isn't given
abbrev pub IsListen : Option (List ℕ) → Option SocketAddr → Type 0
IsListen None None = ⊤
IsListen None (Some address) = ⊥
IsListen (Some text) None = ⊥
IsListen (Some text) (Some address) = IsSocketText text address × (1 ≤ socket_port address)

-- a number, such as milliseconds, in decimal; or it isn't given
abbrev pub IsTime : Option (List ℕ) → Option ℕ → Type 0
IsTime None None = ⊤
IsTime None (Some n) = ⊥
IsTime (Some text) None = ⊥
IsTime (Some text) (Some n) = (n < 2 ^ 64) × (text ≡ decimal n)

-- a letter, a digit, a dot, an underscore or a hyphen
abbrev pub is_name_byte : ℕ → Bool
is_name_byte b = is_ascii_alphanumeric b || ((b == 46) || ((b == 95) || (b == 45)))

-- such a byte, or a comma
abbrev pub is_names_byte : ℕ → Bool
is_names_byte b = is_name_byte b || (b == 44)

-- names separated by commas: one or more such bytes
abbrev pub are_names : List ℕ → Bool
are_names text = nat_le 1 (length text) && list_all is_names_byte text

-- the name of a group: 1 to 64 letters, digits, dots, underscores and hyphens
abbrev pub is_group_name : List ℕ → Bool
is_group_name text = nat_le 1 (length text) && (nat_le (length text) 64 && list_all is_name_byte text)

-- the names as they are given; empty if they aren't
abbrev pub IsNames : Option (List ℕ) → List ℕ → Type 0
IsNames None names = names ≡ []
IsNames (Some text) names = (names ≡ text) × IsTrue (are_names text)

-- the name of a group as it is given, or no name
abbrev pub IsGroup : Option (List ℕ) → Option (List ℕ) → Type 0
IsGroup None group = group ≡ None
IsGroup (Some text) group = (group ≡ Some text) × IsTrue (is_group_name text)

-- the options: the address of the node and the one for operators; the names by which operators may
-- ask; how long roots that ended and roots that failed are kept; the name of the group; how many
-- other nodes must have a fact before it is acknowledged, and how many milliseconds an answer waits
-- for that; whether an answer is withheld otherwise; and whether the node starts anew
pub record Choices : Type 0 where
  pub listen : Option SocketAddr
  pub operate : Option SocketAddr
  pub names : List ℕ
  pub ended : Option ℕ
  pub failed : Option ℕ
  pub group : Option (List ℕ)
  pub copies : Option ℕ
  pub patience : Option ℕ
  pub strict : Bool
  pub anew : Bool

-- the text after the name of each option that is given, and whether the words `strict` and `anew`
-- are there
pub record Texts : Type 0 where
  pub listen : Option (List ℕ)
  pub operate : Option (List ℕ)
  pub names : Option (List ℕ)
  pub ended : Option (List ℕ)
  pub failed : Option (List ℕ)
  pub group : Option (List ℕ)
  pub copies : Option (List ℕ)
  pub patience : Option (List ℕ)
  pub strict : Bool
  pub anew : Bool

-- the word of an option, if it is given
abbrev pub said : List ℕ → Option (List ℕ) → List (List ℕ)
said name None = []
said name (Some text) = (name ++ text) ∷ []

-- a single word, if it is there
abbrev pub flagged : List ℕ → Bool → List (List ℕ)
flagged word false = []
flagged word true = word ∷ []

-- each option at most once, in this order; then come the addresses
abbrev pub in_words : Texts → List (List ℕ) → List (List ℕ)
in_words texts addresses =
    said (codes "listen=") texts.listen ++ (said (codes "operate=") texts.operate ++ (said (codes "names=") texts.names ++ (said (codes "keep=") texts.ended ++ (said (codes "keep-failed=") texts.failed
    ++ (said (codes "group=") texts.group ++ (said (codes "copies=") texts.copies ++ (said (codes "patience=") texts.patience
    ++ (flagged (codes "strict") texts.strict ++ (flagged (codes "anew") texts.anew ++ addresses)))))))))

-- the texts mean these options
pub record Mean (texts : Texts) (choices : Choices) : Type 0 where
  pub listen : IsListen texts.listen choices.listen
  pub operate : IsListen texts.operate choices.operate
  pub names : IsNames texts.names choices.names
  pub ended : IsTime texts.ended choices.ended
  pub failed : IsTime texts.failed choices.failed
  pub group : IsGroup texts.group choices.group
  pub copies : IsTime texts.copies choices.copies
  pub patience : IsTime texts.patience choices.patience
  pub strict : texts.strict ≡ choices.strict
  pub anew : texts.anew ≡ choices.anew

-- the words give these options, followed by the addresses
abbrev pub SayChoices : List (List ℕ) → Choices → List (List ℕ) → Type 0
SayChoices words choices addresses = (texts : Texts) × Mean texts choices × (words ≡ in_words texts addresses)

-- each of these nodes has a port for operators: the first node has the given one, and each other
-- node the next
abbrev pub HavePorts : (first last : ℕ) → Option SocketAddr → Type 0
HavePorts first last operate = IfSome operate (λ address. socket_port address + (last - first) < 2 ^ 16)

-- there are fewer copies than nodes, and one node alone in its process; without copies nothing else
-- about them is given
abbrev pub HaveCopies : (first last nodes : ℕ) → (copies patience : Option ℕ) → (strict : Bool) → Type 0
HaveCopies first last nodes copies patience strict = MatchOption copies ((patience ≡ None) × (strict ≡ false)) (λ k. (k < nodes) × (last ≤ first))

-- whether a byte is in a text, as 58 is for a colon
abbrev pub has : ℕ → List ℕ → Bool
has byte text = list_any (λ b. b == byte) text

-- a host isn't empty, and has none of the bytes `=`, `[` and `]`, which are 61, 91 and 93
abbrev pub IsHost : List ℕ → Type 0
IsHost host = (1 ≤ length host) × (has 61 host ≡ false) × (has 91 host ≡ false) × (has 93 host ≡ false)

-- an IPv6 address, which has colons, stands in brackets
abbrev pub host_text : List ℕ → List ℕ
host_text host = cond (has 58 host) (codes "[" ++ (host ++ codes "]")) host

-- a word gives a host and a port, with a colon between them
abbrev pub SaysPeer : List ℕ → (List ℕ × ℕ) → Type 0
SaysPeer word (host, port) = IsHost host × (1 ≤ port) × (port < 2 ^ 16) × (word ≡ host_text host ++ (codes ":" ++ decimal port))

-- each word gives a peer, and no word stands twice
abbrev pub SayPeers : List (List ℕ) → List (List ℕ × ℕ) → Type 0
SayPeers words peers = AllZip SaysPeer words peers × AllPairs (λ v w. v ≢ w) words

-- the words ask for these nodes, of those that are reached at the addresses, with their journals in
-- a folder
pub record AskNodes (words : List (List ℕ)) (first last : ℕ) (choices : Choices) (folder : List ℕ) (addresses : List (List ℕ)) : Type 0 where
  pub nodes : List ℕ
  pub behind : List (List ℕ)
  pub are : words ≡ nodes ∷ folder ∷ behind
  pub say_nodes : SaysNodes nodes first last
  pub say_choices : SayChoices behind choices addresses
  pub in_order : (1 ≤ first) × (first ≤ last) × (last ≤ length addresses) × (length addresses ≤ MAX_NODES)
  pub listens_alone : first < last → choices.listen ≡ None
  pub have_ports : HavePorts first last choices.operate
  pub have_copies : HaveCopies first last (length addresses) choices.copies choices.patience choices.strict

-- the same, with the peers that the addresses give
abbrev pub AskMembers : List (List ℕ) → (first last : ℕ) → Choices → List (List ℕ × ℕ) → List ℕ → Type 0
AskMembers words first last choices peers folder = (addresses : List (List ℕ)) × AskNodes words first last choices folder addresses × SayPeers addresses peers

-- a peer's host and port
abbrev pub reached : Peer → List ℕ × ℕ
reached peer = (string_bytes peer.host, peer.port)

-- the options of the members that are asked for
abbrev pub choices_of : MemberArgs → Choices
choices_of asked = record {
  listen = asked.listen;
  operate = asked.operate;
  names = string_bytes asked.names;
  ended = asked.ended;
  failed = asked.failed;
  group = option_map string_bytes asked.group;
  copies = asked.copies;
  patience = asked.patience;
  strict = asked.strict;
  anew = asked.anew;
}
