-- When a node looks through its home, and why.
use Rattle.std.specs.Prelude.{◌≡◌, ◌+◌, ◌-◌, ◌&&◌, ◌||◌, ℕ, Bool, true, false, if◌then◌else◌, min, nat_le, nat_lt}
use Rattle.std.specs.declared.time.Duration.{Duration}
use Rattle.node_agenda.specs.Moments.{IsAfter, is_by}
use Rattle.node_agenda.specs.declared.looking.TheConstants.{HALF, LOOK_MS, LOOK_OF_MANY_MS, LOOK_TO_COUNT_MS, MANY}
use Rattle.node_agenda.specs.declared.looking.Looking.{Looking}

-- after an LRA may have ended; after some were purged; after one more was begun; and after there
-- was no room for one that has ended
abbrev pub with_stir : Looking → Looking
with_stir l = record { counts = l.counts; is_watched = l.is_watched; is_stirred = true; begun = l.begun; has_purged = l.has_purged; has_missed = l.has_missed; taken = l.taken; looks_at = l.looks_at; counts_at = l.counts_at }

abbrev pub with_purged : Looking → Looking
with_purged l = record { counts = l.counts; is_watched = l.is_watched; is_stirred = l.is_stirred; begun = l.begun; has_purged = true; has_missed = l.has_missed; taken = l.taken; looks_at = l.looks_at; counts_at = l.counts_at }

abbrev pub with_begun : Looking → Looking
with_begun l = record { counts = l.counts; is_watched = l.is_watched; is_stirred = l.is_stirred; begun = min (l.begun + 1) 18_446_744_073_709_551_615; has_purged = l.has_purged; has_missed = l.has_missed; taken = l.taken; looks_at = l.looks_at; counts_at = l.counts_at }

abbrev pub missed : Looking → Looking
missed l = record { counts = l.counts; is_watched = l.is_watched; is_stirred = l.is_stirred; begun = l.begun; has_purged = l.has_purged; has_missed = true; taken = l.taken; looks_at = l.looks_at; counts_at = l.counts_at }

-- after a look began, if the next may begin at these moments
abbrev pub looked_at : Duration → Duration → Looking → Looking
looked_at looks_at counts_at l = record { counts = l.counts; is_watched = l.is_watched; is_stirred = false; begun = 0; has_purged = false; has_missed = l.has_missed; taken = l.taken; looks_at = looks_at; counts_at = counts_at }

-- the pause from one look to the next: a quarter of a second, or less if half of the home's places
-- are taken
abbrev pub look_pause : Looking → ℕ
look_pause l = if nat_le HALF l.taken then LOOK_OF_MANY_MS else LOOK_MS

-- a look begins: the next one may begin after the pause, and one that only counts after a second
pub record Begins (now : Duration) (old new : Looking) : Type 0 where
  pub is : new ≡ looked_at new.looks_at new.counts_at old
  pub looks : IsAfter (look_pause old) now new.looks_at
  pub counts : IsAfter LOOK_TO_COUNT_MS now new.counts_at

-- after a look is over that found this many: another follows if there was no room for one that has
-- ended
abbrev pub looked_over : ℕ → Looking → Looking
looked_over taken l = record { counts = l.counts; is_watched = l.is_watched; is_stirred = l.is_stirred || l.has_missed; begun = l.begun; has_purged = l.has_purged; has_missed = false; taken = taken; looks_at = l.looks_at; counts_at = l.counts_at }

-- whether three quarters of the home's places may be taken, if that is to be known
abbrev pub may_be_many : Looking → Bool
may_be_many l = l.counts && (nat_lt 0 l.begun && (nat_le MANY l.taken || nat_le (MANY - l.taken) l.begun))

abbrev pub has_changed : Looking → Bool
has_changed l = nat_lt 0 l.begun || (l.is_stirred || l.has_purged)

-- whether to look through the home at this moment, given whether ended roots are purged
abbrev pub is_to_look : Duration → Bool → Looking → Bool
is_to_look now purges l =
    is_by now l.looks_at && (may_be_many l || ((l.is_watched && (is_by now l.counts_at && has_changed l)) || (purges && l.is_stirred)))
