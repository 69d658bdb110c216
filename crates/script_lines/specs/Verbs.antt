-- The words that lines begin with.
use Rattle.std.specs.Prelude.{ℕ, List, codes}
use Rattle.script_lines.specs.declared.words.Verb.{Verb}
use Rattle.script_lines.specs.declared.words.Verb.TheVariants.{Answer, Begin, Cancel, Close, Deliver, Duties, Forgot, Front, Join, Leave, Member, Purge, Read, Report, Restart, Same, Send, SendOld, Show, Text, Tick, Told}

abbrev pub verb_name : Verb → List ℕ
verb_name Answer = codes "answer"
verb_name Begin = codes "begin"
verb_name Cancel = codes "cancel"
verb_name Close = codes "close"
verb_name Deliver = codes "deliver"
verb_name Duties = codes "duties"
verb_name Forgot = codes "forgot"
verb_name Front = codes "front"
verb_name Join = codes "join"
verb_name Leave = codes "leave"
verb_name Member = codes "member"
verb_name Purge = codes "purge"
verb_name Read = codes "read"
verb_name Report = codes "report"
verb_name Restart = codes "restart"
verb_name Same = codes "same"
verb_name Send = codes "send"
verb_name SendOld = codes "sendold"
verb_name Show = codes "show"
verb_name Text = codes "text"
verb_name Tick = codes "tick"
verb_name Told = codes "told"
