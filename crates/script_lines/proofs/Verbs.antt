-- Each ask begins with the name of a verb.
use Rattle.std.proofs.Common.{◌≡◌, refl}
use Rattle.state_ids.specs.declared.outcome.Verdict.TheVariants as verdict
use Rattle.state_facts.specs.declared.command.Command.TheVariants as command
use Rattle.script_lines.specs.declared.asking.Ask.{Ask}
use Rattle.script_lines.specs.declared.asking.Ask.TheVariants as ask
use Rattle.script_lines.specs.declared.words.Verb.{Verb}
use Rattle.script_lines.specs.declared.words.Verb.TheVariants as verb
use Rattle.script_lines.specs.Asks.{verb_of}
use Rattle.script_lines.specs.Verbs.{verb_name}

pub each_ask_has_a_verb : (a : Ask) → (v : Verb) × (verb_of a ≡ verb_name v)
each_ask_has_a_verb (ask.Enter node (command.Begin parent deadline)) = (verb.Begin, refl)
each_ask_has_a_verb (ask.Enter node (command.Join id links)) = (verb.Join, refl)
each_ask_has_a_verb (ask.Enter node (command.Leave id member)) = (verb.Leave, refl)
each_ask_has_a_verb (ask.Enter node (command.Decide id verdict.Close)) = (verb.Close, refl)
each_ask_has_a_verb (ask.Enter node (command.Decide id verdict.Cancel)) = (verb.Cancel, refl)
each_ask_has_a_verb (ask.Enter node (command.Report id member act outcome)) = (verb.Report, refl)
each_ask_has_a_verb (ask.Enter node (command.Forgot id member)) = (verb.Forgot, refl)
each_ask_has_a_verb (ask.Enter node (command.Told id member)) = (verb.Told, refl)
each_ask_has_a_verb (ask.Enter node (command.Purge root)) = (verb.Purge, refl)
each_ask_has_a_verb (ask.Tick node now) = (verb.Tick, refl)
each_ask_has_a_verb (ask.Send node base) = (verb.Send, refl)
each_ask_has_a_verb (ask.SendOld node base) = (verb.SendOld, refl)
each_ask_has_a_verb (ask.Deliver frame node kept) = (verb.Deliver, refl)
each_ask_has_a_verb (ask.Restart node) = (verb.Restart, refl)
each_ask_has_a_verb (ask.Show node id) = (verb.Show, refl)
each_ask_has_a_verb (ask.Member node id member) = (verb.Member, refl)
each_ask_has_a_verb (ask.Duties node) = (verb.Duties, refl)
each_ask_has_a_verb (ask.Hear node id member kind answer) = (verb.Answer, refl)
each_ask_has_a_verb (ask.Front node) = (verb.Front, refl)
each_ask_has_a_verb (ask.Same node other) = (verb.Same, refl)
each_ask_has_a_verb (ask.Text id) = (verb.Text, refl)
each_ask_has_a_verb (ask.Read id) = (verb.Read, refl)
