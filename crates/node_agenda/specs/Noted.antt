-- The effects of a call at the desk, which the threads go on with.
use Rattle.std.specs.Prelude.{◌≡◌, Bool, Option, None, Some, false, map, true}
use Rattle.std.specs.declared.time.Duration.{Duration}
use Rattle.state_ids.specs.Ids.{Id}
use Rattle.node_agenda.specs.Looks.{with_begun, with_purged, with_stir}
use Rattle.node_agenda.specs.Mail.{Mail, after_news, with_since, with_sweeps}
use Rattle.node_agenda.specs.Since.{IsMentioned}
use Rattle.node_agenda.specs.Sweeps.{Sweeps, freed, hastened, with_ended, with_full, with_looking}
use Rattle.node_agenda.specs.declared.effects.Became.{Became}
use Rattle.node_agenda.specs.declared.effects.Became.TheVariants.{Begun, Ended, Full, Nothing, Removed}
use Rattle.node_agenda.specs.declared.effects.NewlyDue.{NewlyDue}
use Rattle.node_agenda.specs.declared.effects.NewlyDue.TheVariants.{Nobody, OfCompletion, Others}
use Rattle.node_agenda.specs.declared.effects.Effects.{Effects}

-- a new list of duties is asked for, if a participant may be due
abbrev pub with_news : NewlyDue → Mail → Mail
with_news Nobody m = m
with_news OfCompletion m = after_news true m
with_news Others m = after_news false m

-- what a call changed of an LRA makes the home be looked through
abbrev pub with_became : Became → Sweeps → Sweeps
with_became Nothing s = s
with_became Begun s = with_looking (with_begun s.looking) s
with_became Full s = with_full true s
with_became Ended s = with_looking (with_stir s.looking) s
with_became Removed s = with_looking (with_purged s.looking) s

-- roots that waited for an LRA are tried; or, if a frame was taken, all that wait are tried within
-- a second
abbrev pub freed_of : Option Id → Sweeps → Sweeps
freed_of None s = s
freed_of (Some id) s = with_ended (map (freed id) s.ended) s

abbrev pub freed_by : (took : Bool) → Option Id → Duration → Sweeps → Sweeps
freed_by true freed now s = with_ended (map (hastened now) s.ended) s
freed_by false freed now s = freed_of freed s

-- all effects of a call are recorded
pub record Notes (noted : Effects) (now : Duration) (old new : Mail) : Type 0 where
  pub freed : new.sweeps ≡ freed_by noted.took noted.freed now (with_became noted.became old.sweeps)
  pub heard : IsMentioned noted.heard old.since new.since
  pub rest : new ≡ with_since new.since (with_sweeps new.sweeps (with_news noted.news old))
