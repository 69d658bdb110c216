-- Why words ask for no members.
use Rattle.std.specs.Prelude.{◌≡◌, ◌≢◌, ◌≤◌, ◌<◌, ◌||◌, ◌⊎◌, ⊤, ℕ, Bool, true, false, IsSomeAnd, List, [], ◌∷◌, codes, length, nat_eq, take, Option, Some, None}
use Rattle.std.specs.List.{AllZip, Contains, slice_get, starts_with}
use Rattle.std.specs.declared.net.socket_addr.SocketAddr.{SocketAddr}
use Rattle.state_ids.specs.declared.TheConstants.{MAX_NODES}
use Rattle.program_args.specs.Arguments.{Choices, HaveCopies, HavePorts, IsGroup, IsListen, IsNames, IsTime, Mean, SayPeers, SaysNodes, SaysPeer, Texts, has, in_words}
use Rattle.program_args.specs.declared.wrong_word.WrongWord.{WrongWord}
use Rattle.program_args.specs.declared.wrong_word.WrongWord.TheVariants.{NoNodes, Nodes, NoFolder, Listen, Operate, Names, Keep, KeepFailed, Group, Copies, Patience, Misplaced, Unknown, Address, Twice, NoAddresses, NinthNode, NoSuchNode, SharedListen, NoPorts, SharedCopies, FewNodes, PatienceAlone, StrictAlone}
use Rattle.program_args.specs.declared.member_args.MemberError.{MemberError}
use Rattle.program_args.specs.declared.member_args.MemberError.TheVariants.{NoMemory, Wrong}

-- a word names these nodes, of eight at most
abbrev pub AreNodes : List ℕ → (first last : ℕ) → Type 0
AreNodes word first last = (1 ≤ first) × (first ≤ last) × (last ≤ MAX_NODES) × SaysNodes word first last

-- the first words are wrong: those before the options
abbrev pub IsWrongStart : List (List ℕ) → WrongWord → Type 0
IsWrongStart words NoNodes = words ≡ []
IsWrongStart words (Nodes word) = (behind : List (List ℕ)) × (words ≡ word.now ∷ behind) × ((first last : ℕ) → AreNodes word.now first last → ⊥)
IsWrongStart words NoFolder = (nodes : List ℕ) × (words ≡ nodes ∷ [])
IsWrongStart words _ = ⊥

-- the text of an option is given, and means nothing
abbrev pub IsWrongText : Texts → WrongWord → Type 0
IsWrongText texts (Listen text) = (texts.listen ≡ Some text.now) × ((address : Option SocketAddr) → IsListen texts.listen address → ⊥)
IsWrongText texts (Operate text) = (texts.operate ≡ Some text.now) × ((address : Option SocketAddr) → IsListen texts.operate address → ⊥)
IsWrongText texts (Names text) = (texts.names ≡ Some text.now) × ((names : List ℕ) → IsNames texts.names names → ⊥)
IsWrongText texts (Keep text) = (texts.ended ≡ Some text.now) × ((time : Option ℕ) → IsTime texts.ended time → ⊥)
IsWrongText texts (KeepFailed text) = (texts.failed ≡ Some text.now) × ((time : Option ℕ) → IsTime texts.failed time → ⊥)
IsWrongText texts (Group text) = (texts.group ≡ Some text.now) × ((name : Option (List ℕ)) → IsGroup texts.group name → ⊥)
IsWrongText texts (Copies text) = (texts.copies ≡ Some text.now) × ((count : Option ℕ) → IsTime texts.copies count → ⊥)
IsWrongText texts (Patience text) = (texts.patience ≡ Some text.now) × ((time : Option ℕ) → IsTime texts.patience time → ⊥)
IsWrongText texts _ = ⊥

-- a word begins with the name of an option
abbrev pub has_option_name : List ℕ → Bool
has_option_name word = starts_with nat_eq word (codes "listen=") || (starts_with nat_eq word (codes "operate=") || (starts_with nat_eq word (codes "names=") || (starts_with nat_eq word (codes "keep=")
    || (starts_with nat_eq word (codes "keep-failed=") || (starts_with nat_eq word (codes "group=") || (starts_with nat_eq word (codes "copies=") || starts_with nat_eq word (codes "patience=")))))))

-- a word that is no address is an option that stands elsewhere, no option at all, or neither
abbrev pub IsNoAddress : List ℕ → WrongWord → Type 0
IsNoAddress word (Misplaced it) = (it.now ≡ word) × ((word ≡ codes "strict") ⊎ ((word ≡ codes "anew") ⊎ (has_option_name word ≡ true)))
IsNoAddress word (Unknown it) = (it.now ≡ word) × (has_option_name word ≡ false) × (has 61 word ≡ true)
IsNoAddress word (Address it) = (it.now ≡ word) × (word ≢ codes "strict") × (word ≢ codes "anew") × (has 61 word ≡ false)
IsNoAddress word _ = ⊥

-- a word stands at a place, and before it too
abbrev pub IsTwice : List (List ℕ) → List ℕ → Type 0
IsTwice words word = (place : ℕ) × (slice_get words place ≡ Some word) × Contains (take place words) word

-- the word is one that stands twice
abbrev pub IsAgain : List (List ℕ) → WrongWord → Type 0
IsAgain words (Twice it) = IsTwice words it.now
IsAgain words _ = ⊥

-- one of these words is no address; or all are, and one of them stands twice
abbrev pub IsWrongAddress : List (List ℕ) → WrongWord → Type 0
IsWrongAddress words wrong =
    ((place : ℕ) × (word : List ℕ) × (slice_get words place ≡ Some word) × ((peer : List ℕ × ℕ) → SaysPeer word peer → ⊥) × IsNoAddress word wrong)
    ⊎ ((peers : List (List ℕ × ℕ)) × AllZip SaysPeer words peers × IsAgain words wrong)

-- the last node has an address, and there are eight addresses at most
abbrev pub AreEnough : (last : ℕ) → List (List ℕ) → Type 0
AreEnough last addresses = (last ≤ length addresses) × (length addresses ≤ MAX_NODES)

-- the nodes can't be run together: there is no address, or there are more than eight, or the last node
-- has none, or several nodes would listen at one address
abbrev pub IsWrongGroup : (nodes : List ℕ) (first last : ℕ) → Texts → List (List ℕ) → WrongWord → Type 0
IsWrongGroup nodes first last texts addresses NoAddresses = addresses ≡ []
IsWrongGroup nodes first last texts addresses (NinthNode it) = slice_get addresses MAX_NODES ≡ Some it.now
IsWrongGroup nodes first last texts addresses (NoSuchNode it) = (it.now ≡ nodes) × (1 ≤ length addresses) × (length addresses < last)
IsWrongGroup nodes first last texts addresses (SharedListen it) = AreEnough last addresses × (first < last) × (texts.listen ≡ Some it.now)
IsWrongGroup nodes first last texts addresses _ = ⊥

-- the options for copies don't fit: K is as many as the nodes, or the process has several nodes, or K
-- isn't given and other options for copies are
abbrev pub IsWrongCopies : (first last nodes : ℕ) → Texts → Choices → WrongWord → Type 0
IsWrongCopies first last nodes texts choices (FewNodes it) = IsSomeAnd choices.copies (λ k. nodes ≤ k) × (texts.copies ≡ Some it.now)
IsWrongCopies first last nodes texts choices (SharedCopies it) = IsSomeAnd choices.copies (λ k. k < nodes) × (first < last) × (texts.copies ≡ Some it.now)
IsWrongCopies first last nodes texts choices (PatienceAlone it) = (choices.copies ≡ None) × (texts.patience ≡ Some it.now)
IsWrongCopies first last nodes texts choices StrictAlone = (choices.copies ≡ None) × (texts.patience ≡ None) × (texts.strict ≡ true)
IsWrongCopies first last nodes texts choices _ = ⊥

-- one of the nodes would have no port for operators
abbrev pub LacksPorts : (first last : ℕ) → Texts → Choices → WrongWord → Type 0
LacksPorts first last texts choices (NoPorts it) = (texts.operate ≡ Some it.now) × (HavePorts first last choices.operate → ⊥)
LacksPorts first last texts choices _ = ⊥

-- the nodes can be run together, so far as it depends on `listen`
abbrev pub AreTogether : (first last : ℕ) → Choices → List (List ℕ) → Type 0
AreTogether first last choices addresses = AreEnough last addresses × (first < last → choices.listen ≡ None)

-- the options fit the nodes
abbrev pub Fit : (first last : ℕ) → Choices → List (List ℕ) → Type 0
Fit first last choices addresses =
    AreTogether first last choices addresses × HavePorts first last choices.operate × HaveCopies first last (length addresses) choices.copies choices.patience choices.strict

-- the options don't fit the nodes: these can't be run together; or they can, and one of them would
-- have no port for operators; or each has one, and the options for copies don't fit
abbrev pub IsMisfit : (nodes : List ℕ) (first last : ℕ) → Texts → Choices → List (List ℕ) → WrongWord → Type 0
IsMisfit nodes first last texts choices addresses wrong =
    IsWrongGroup nodes first last texts addresses wrong
    ⊎ (AreTogether first last choices addresses
    × (LacksPorts first last texts choices wrong ⊎ (HavePorts first last choices.operate × IsWrongCopies first last (length addresses) texts choices wrong)))

-- the words taken apart: the nodes, the folder, the options and the addresses
abbrev pub AreParts : List (List ℕ) → (nodes : List ℕ) (first last : ℕ) (folder : List ℕ) → Texts → List (List ℕ) → Type 0
AreParts words nodes first last folder texts addresses = (words ≡ nodes ∷ folder ∷ in_words texts addresses) × AreNodes nodes first last

-- what is wrong behind the folder: an option's text means nothing; or all mean something, and an
-- address is none; or each is one, and the options don't fit the nodes
abbrev pub IsWrongBehind : (nodes : List ℕ) (first last : ℕ) → Texts → List (List ℕ) → WrongWord → Type 0
IsWrongBehind nodes first last texts addresses wrong =
    IsWrongText texts wrong
    ⊎ ((choices : Choices) × Mean texts choices × (IsWrongAddress addresses wrong ⊎ ((peers : List (List ℕ × ℕ)) × SayPeers addresses peers × IsMisfit nodes first last texts choices addresses wrong)))

-- why words ask for no members: the nodes or the folder are missing or wrong, or something behind them is
abbrev pub IsWrong : List (List ℕ) → WrongWord → Type 0
IsWrong words wrong =
    IsWrongStart words wrong
    ⊎ ((nodes : List ℕ) × (first : ℕ) × (last : ℕ) × (folder : List ℕ) × (texts : Texts) × (addresses : List (List ℕ)) × AreParts words nodes first last folder texts addresses × IsWrongBehind nodes first last texts addresses wrong)

-- something is said of the word, if memory wasn't refused
abbrev pub OnWrong : MemberError → (WrongWord → Type 0) → Type 0
OnWrong (Wrong wrong) said = said wrong
OnWrong NoMemory said = ⊤

-- the choices on which it depends whether they fit are these
abbrev pub HasChoices : Choices → Choices → Type 0
HasChoices these choices = (choices.listen ≡ these.listen) × (choices.operate ≡ these.operate) × (choices.copies ≡ these.copies) × (choices.patience ≡ these.patience) × (choices.strict ≡ these.strict)
