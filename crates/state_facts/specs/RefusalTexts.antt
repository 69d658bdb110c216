-- The printed form of a refusal: its number, its name, and its values.
use Rattle.std.specs.Prelude.{ℕ, List, ◌++◌, codes}
use Rattle.std.specs.Fmt.{decimal}
use Rattle.state_ids.specs.Ids.{id_text}
use Rattle.state_ids.specs.Fronts.{front_text}
use Rattle.state_ids.specs.Names.{lra_name}
use Rattle.state_facts.specs.declared.refusal.Refusal.{Refusal}
use Rattle.state_facts.specs.declared.refusal.Refusal.TheVariants.{BadText, UnknownLra, NotHeld, NotHome, UnknownMember, NotActive, NotDue, NotEnded, NotRoot, StillToForget, StillToTell, MembersFull, DepthFull, LrasFull, NumbersSpent, Gap, NeedsVersion2, BadFrame, NoMemory, JournalFailed, Stopped, RunFull, TrailLost, Strange}

abbrev pub refusal_text : Refusal → List ℕ
refusal_text BadText = codes "E1 BadText"
refusal_text UnknownLra = codes "E2 UnknownLra"
refusal_text NotHeld = codes "E3 NotHeld"
refusal_text (NotHome home) = codes "E4 NotHome " ++ decimal home
refusal_text UnknownMember = codes "E5 UnknownMember"
refusal_text (NotActive status) = codes "E6 NotActive " ++ lra_name status
refusal_text (NotDue status) = codes "E7 NotDue " ++ lra_name status
refusal_text (NotEnded status) = codes "E8 NotEnded " ++ lra_name status
refusal_text NotRoot = codes "E9 NotRoot"
refusal_text (StillToForget id member) = codes "E10 StillToForget " ++ id_text id ++ codes " " ++ decimal member
refusal_text (StillToTell id member) = codes "E24 StillToTell " ++ id_text id ++ codes " " ++ decimal member
refusal_text MembersFull = codes "E11 MembersFull"
refusal_text DepthFull = codes "E12 DepthFull"
refusal_text LrasFull = codes "E13 LrasFull"
refusal_text NumbersSpent = codes "E14 NumbersSpent"
refusal_text (Gap front) = codes "E15 Gap " ++ front_text front
refusal_text NeedsVersion2 = codes "E23 NeedsVersion2"
refusal_text (BadFrame place) = codes "E16 BadFrame " ++ decimal place
refusal_text NoMemory = codes "E17 NoMemory"
refusal_text JournalFailed = codes "E18 JournalFailed"
refusal_text Stopped = codes "E19 Stopped"
refusal_text RunFull = codes "E20 RunFull"
refusal_text (TrailLost number) = codes "E21 TrailLost " ++ decimal number
refusal_text (Strange place) = codes "E22 Strange " ++ decimal place
