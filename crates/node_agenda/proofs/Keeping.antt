-- Since when a root is remembered.
use Rattle.std.proofs.Common.{◌≡◌, ◌≤◌, ◌<◌, ◌-◌, ◌*◌, ◌⊎◌, ◌++◌, ◌∷◌, ◌==◌, ◌&&◌, ◌||◌, ◌∙◌, [], inl, inr, ℕ, Bool, true, false, List, MatchBool, Option, Some, None, ap, arith, filter, get_or, map, not, refl, subst, suc, sym, zero}
use Rattle.std.proofs.lemmas.Bool.{eqb-true, leb-true}
use Rattle.std.proofs.lemmas.List.Elements.{All-filter, All-head, All-cons, All-map, All-nil, All-push, All-tail, All-weaker, filter_passes}
use Rattle.std.proofs.lemmas.List.Folds.{list_any_at}
use Rattle.std.specs.List.{All, list_any}
use Rattle.std.specs.Option.{option_map, option_map_or}
use Rattle.std.specs.Duration.{as_nanos}
use Rattle.std.specs.Prelude.{if◌then◌else◌, is_some, nat_le, nat_lt}
use Rattle.std.specs.declared.time.Duration.{Duration}
use Rattle.state_ids.specs.Ids.{Id, same_id}
use Rattle.state_ids.specs.States.{rank}
use Rattle.state_ids.specs.declared.status.LraStatus.{LraStatus}
use Rattle.state_ids.specs.declared.status.LraStatus.TheVariants.{Active, Cancelled, Cancelling, Closed, Closing, FailedToCancel, FailedToClose}
use Rattle.node_agenda.specs.Kept.{Kept}
use Rattle.node_agenda.specs.Censuses.{with_one}
use Rattle.node_agenda.specs.Looks.{is_to_look, missed}
use Rattle.node_agenda.specs.declared.looking.Looking.{Looking}
use Rattle.node_agenda.specs.Noted.{freed_by, freed_of, with_became}
use Rattle.node_agenda.specs.Sweeps.{AreSince, BeginsLook, IsAdded, IsNextChore, IsNoted, IsSeen, IsSeenSince, IsSince, NotesFor, Root, Sight, Sweeps, WasKept, begun, first_due, found, freed, hastened, is_due, is_found, is_kept_for, is_ripe, is_root, is_sight, is_tried, kept_of, last_seen, left_by, looked, newcomer, next_pause, purges, put_off, put_off_if, same_status, seen_as, sights_after, sooner, sweeps, time_of, tried_from, turned, unfound, waiting, with_beyond, with_counts, with_ended, with_looking, without}
use Rattle.node_agenda.specs.declared.effects.Became.{Became}
use Rattle.node_agenda.specs.declared.effects.Became.TheVariants.{Begun, Ended, Full, Nothing, Removed}
use Rattle.node_agenda.specs.declared.sweep.Chore.{Chore}
use Rattle.node_agenda.specs.declared.sweep.Chore.TheVariants.{List as ToList, Purge}
use Rattle.node_agenda.specs.Moments.{nanos_after}
use Rattle.node_agenda.specs.declared.sweep.Keep.{Keep}
use Rattle.node_agenda.specs.declared.sweep.Purged.{Purged}
use Rattle.node_agenda.specs.declared.sweep.Purged.TheVariants.{Changed, Gone, Later, Missing, Nested, Waits}
use Rattle.node_agenda.specs.declared.sweep.TheConstants.{FIRST_PAUSE_MS, LAST_PAUSE_MS}

both_true : (a b : Bool) → a ≡ true → b ≡ true → (a && b) ≡ true
both_true true b e h = h
both_true false b e h = absurd cc

number_self : (a : ℕ) → (a == a) ≡ true
number_self a = grind arith

same_self : (id : Id) → same_id id id ≡ true
same_self id = both_true (id.home == id.home) (id.num == id.num) (number_self id.home) (number_self id.num)

-- statuses of the same rank are the same
of_rank : ℕ → LraStatus
of_rank zero = Active
of_rank (suc zero) = Closing
of_rank (suc (suc zero)) = Closed
of_rank (suc (suc (suc zero))) = FailedToClose
of_rank (suc (suc (suc (suc zero)))) = Cancelling
of_rank (suc (suc (suc (suc (suc zero))))) = Cancelled
of_rank (suc (suc (suc (suc (suc (suc n)))))) = FailedToCancel

ranked : (s : LraStatus) → of_rank (rank s) ≡ s
unfolding of_rank
ranked Active = refl
ranked Closing = refl
ranked Closed = refl
ranked FailedToClose = refl
ranked Cancelling = refl
ranked Cancelled = refl
ranked FailedToCancel = refl

status_is : (a b : LraStatus) → same_status a b ≡ true → b ≡ a
status_is a b e = sym (ranked b) ∙ (ap of_rank (sym (eqb-true (rank a) (rank b) e)) ∙ ranked a)

not_not : (b : Bool) → not b ≡ true → b ≡ false
not_not true e = absurd cc
not_not false e = refl

-- one more sight, of another LRA and of the same one
other_sight : (sight : Sight) (sights : List Sight) (root : Root) → same_id root.id sight.id ≡ false → IsSince sights root → IsSince (sight ∷ sights) root
other_sight sight sights root differs is =
    subst (λ (b : Bool). MatchBool b ((sight.seen ≡ root.seen) × ((sight.now ≡ root.since) ⊎ IsSeenSince root.id root.seen root.since sights)) (IsSeenSince root.id root.seen root.since sights))
    (sym differs) is

same_sight : (sight : Sight) (sights : List Sight) (root : Root) → same_id root.id sight.id ≡ true → sight.seen ≡ root.seen → (sight.now ≡ root.since) ⊎ IsSince sights root → IsSince (sight ∷ sights) root
same_sight sight sights root same seen is =
    subst (λ (b : Bool). MatchBool b ((sight.seen ≡ root.seen) × ((sight.now ≡ root.since) ⊎ IsSeenSince root.id root.seen root.since sights)) (IsSeenSince root.id root.seen root.since sights))
    (sym same) (seen, is)

-- an LRA other than the one that is seen is as it was
dropped_since : (sight : Sight) (sights : List Sight) (ended : List Root) → AreSince sights ended → AreSince (sight ∷ sights) (without sight.id ended)
dropped_since sight sights ended all =
    let p = λ (root : Root). not (same_id root.id sight.id) in
    let if_other = All-weaker (IsSince sights) (λ (root : Root). p root ≡ true → IsSince (sight ∷ sights) root) (λ root is other. other_sight sight sights root (not_not (same_id root.id sight.id) other) is) ended all in
    let kept = All-filter p (λ (root : Root). p root ≡ true → IsSince (sight ∷ sights) root) ended if_other in
    λ place d within. kept place d within (filter_passes p ended place d within)

-- the LRA that is seen, by two tests
seen_since_by : (now : Duration) (id : Id) (seen : LraStatus) (sights : List Sight) (root : Root) (is_it is_same : Bool) → same_id root.id id ≡ is_it → same_status root.seen seen ≡ is_same
    → IsSince sights root → IsSince (record { now = now; id = id; seen = seen } ∷ sights) (if is_it then (if is_same then found root else newcomer root.id seen now) else root)
seen_since_by now id seen sights root true true it same is = same_sight (record { now = now; id = id; seen = seen }) sights (found root) it (status_is root.seen seen same) (inr is)
seen_since_by now id seen sights root true false it same is = same_sight (record { now = now; id = id; seen = seen }) sights (newcomer root.id seen now) it refl (inl refl)
seen_since_by now id seen sights root false same it e is = other_sight (record { now = now; id = id; seen = seen }) sights root it is

seen_since : (now : Duration) (id : Id) (seen : LraStatus) (sights : List Sight) (ended : List Root) → AreSince sights ended → AreSince (record { now = now; id = id; seen = seen } ∷ sights) (map (seen_as id seen now) ended)
seen_since now id seen sights ended all =
    All-map (IsSince (record { now = now; id = id; seen = seen } ∷ sights)) (seen_as id seen now) ended
    (All-weaker (IsSince sights) (λ (root : Root). IsSince (record { now = now; id = id; seen = seen } ∷ sights) (seen_as id seen now root))
    (λ root is. seen_since_by now id seen sights root (same_id root.id id) (same_status root.seen seen) refl refl is) ended all)

unless : (b any : Bool) → (b ≡ true → any ≡ true) → any ≡ false → b ≡ false
unless true any some none = sym (some refl) ∙ none
unless false any some none = refl

-- the LRA that is seen is none of those that are remembered
none_seen : (sight : Sight) (sights : List Sight) (ended : List Root) → list_any (is_root sight.id) ended ≡ false → AreSince sights ended → AreSince (sight ∷ sights) ended
none_seen sight sights ended none all = λ place d within.
    other_sight sight sights (get_or ended place d)
    (unless (same_id (get_or ended place d).id sight.id) (list_any (is_root sight.id) ended) (λ e. list_any_at (is_root sight.id) ended place d within e) none) (all place d within)

added_since : (now : Duration) (id : Id) (seen : LraStatus) (sights : List Sight) (old new : Sweeps) → IsAdded id seen now old new → AreSince (record { now = now; id = id; seen = seen } ∷ sights) old.ended
    → AreSince (record { now = now; id = id; seen = seen } ∷ sights) new.ended
added_since now id seen sights old new (inl more) all =
    subst (λ (s : Sweeps). AreSince (record { now = now; id = id; seen = seen } ∷ sights) s.ended) (sym more)
    (All-push (IsSince (record { now = now; id = id; seen = seen } ∷ sights)) old.ended (newcomer id seen now) all
    (same_sight (record { now = now; id = id; seen = seen }) sights (newcomer id seen now) (same_self id) refl (inl refl)))
added_since now id seen sights old new (inr same) all = subst (λ (s : Sweeps). AreSince (record { now = now; id = id; seen = seen } ∷ sights) s.ended) (sym same) all

remembered_since : (now : Duration) (id : Id) (seen : LraStatus) (sights : List Sight) (old new : Sweeps) (is_there : Bool) → list_any (is_root id) old.ended ≡ is_there
    → MatchBool is_there (new ≡ with_ended (map (seen_as id seen now) old.ended) old) (IsAdded id seen now old new) → AreSince sights old.ended → AreSince (record { now = now; id = id; seen = seen } ∷ sights) new.ended
remembered_since now id seen sights old new true e is all = subst (λ (s : Sweeps). AreSince (record { now = now; id = id; seen = seen } ∷ sights) s.ended) (sym is) (seen_since now id seen sights old.ended all)
remembered_since now id seen sights old new false e is all = added_since now id seen sights old new is (none_seen (record { now = now; id = id; seen = seen }) sights old.ended e all)

noted_since : (time : Option ℕ) (now : Duration) (id : Id) (seen : LraStatus) (sights : List Sight) (old new : Sweeps) → NotesFor time now id seen old new → AreSince sights old.ended
    → AreSince (record { now = now; id = id; seen = seen } ∷ sights) new.ended
noted_since None now id seen sights old new is all =
    subst (λ (s : Sweeps). AreSince (record { now = now; id = id; seen = seen } ∷ sights) s.ended) (sym is) (dropped_since (record { now = now; id = id; seen = seen }) sights old.ended all)
noted_since (Some time) now id seen sights old new is all = remembered_since now id seen sights old new (list_any (is_root id) old.ended) refl is all

sight_since : (now : Duration) (id : Id) (shown seen : LraStatus) (sights : List Sight) (old new : Sweeps) (looks is_own : Bool)
    → MatchBool looks
    (MatchBool is_own (IsNoted now id seen (with_counts (with_one shown old.counts) (with_beyond (Some id) old)) new) (new ≡ looked (with_beyond (Some id) old)))
    (new ≡ with_beyond (Some id) old)
    → AreSince sights old.ended → AreSince (if looks && is_own then record { now = now; id = id; seen = seen } ∷ sights else sights) new.ended
sight_since now id shown seen sights old new true true is all = noted_since (time_of old.keep seen) now id seen sights (with_counts (with_one shown old.counts) (with_beyond (Some id) old)) new is all
sight_since now id shown seen sights old new true false is all = subst (λ (s : Sweeps). AreSince sights s.ended) (sym is) (All-filter is_found (IsSince sights) old.ended all)
sight_since now id shown seen sights old new false is_own is all = subst (λ (s : Sweeps). AreSince sights s.ended) (sym is) all

pub seen_is_since : (now : Duration) (id : Id) (shown seen : LraStatus) (sights : List Sight) (old new : Sweeps) → IsSeen now id shown seen old new → AreSince sights old.ended
    → AreSince (sights_after now id seen old sights) new.ended
seen_is_since now id shown seen sights old new is all = sight_since now id shown seen sights old new old.looks (id.home == old.number) is all

-- nothing else changes that
turned_by : (sights : List Sight) (s : Sweeps) (ends : Bool) → AreSince sights s.ended → AreSince sights (if ends then looked s else s).ended
turned_by sights s true all = All-filter is_found (IsSince sights) s.ended all
turned_by sights s false all = all

pub turned_since : (more : Bool) (sights : List Sight) (s : Sweeps) → AreSince sights s.ended → AreSince sights (turned more s).ended
turned_since more sights s all = turned_by sights s (s.looks && not more) all

-- when a purge is tried again doesn't change since when a root shows what it shows
off_since : (sights : List Sight) (id : Id) (purged : Purged) (now : Duration) (root : Root) → IsSince sights root → IsSince sights (put_off_if id purged now root)
off_since sights id purged now root is = by (same_id root.id id)
  where
    off : (purged : Purged) → IsSince sights (put_off purged now root)
    off Gone = is
    off Missing = is
    off Nested = is
    off (Waits other) = is
    off Changed = is
    off Later = is

    by : (b : Bool) → IsSince sights (if b then put_off purged now root else root)
    by true = off purged
    by false = is

each_off : (sights : List Sight) (id : Id) (purged : Purged) (now : Duration) (ended : List Root) → AreSince sights ended → AreSince sights (map (put_off_if id purged now) ended)
each_off sights id purged now ended all =
    All-map (IsSince sights) (put_off_if id purged now) ended (All-weaker (IsSince sights) (λ (root : Root). IsSince sights (put_off_if id purged now root)) (off_since sights id purged now) ended all)

left_out : (sights : List Sight) (id : Id) (ended : List Root) → AreSince sights ended → AreSince sights (without id ended)
left_out sights id ended all = All-filter (λ (root : Root). not (same_id root.id id)) (IsSince sights) ended all

pub purged_since : (purged : Purged) (id : Id) (now : Duration) (sights : List Sight) (s : Sweeps) → AreSince sights s.ended → AreSince sights (left_by purged id now s).ended
purged_since Gone id now sights s all = left_out sights id s.ended all
purged_since Missing id now sights s all = left_out sights id s.ended all
purged_since Nested id now sights s all = each_off sights id Nested now s.ended all
purged_since Changed id now sights s all = each_off sights id Changed now s.ended all
purged_since (Waits other) id now sights s all = each_off sights id (Waits other) now s.ended all
purged_since Later id now sights s all = each_off sights id Later now s.ended all

freed_since : (sights : List Sight) (id : Id) (root : Root) → IsSince sights root → IsSince sights (freed id root)
freed_since sights id root is = by (option_map_or (λ (other : Id). same_id other id) root.waits_for false)
  where
    by : (b : Bool) → IsSince sights (if b then tried_from (Some 0) root.pause None root else root)
    by true = is
    by false = is

hastened_since : (sights : List Sight) (now : Duration) (root : Root) → IsSince sights root → IsSince sights (hastened now root)
hastened_since sights now root is = by (is_some root.waits_for)
  where
    soon : ℕ
    soon = nanos_after FIRST_PAUSE_MS now

    by_time : (until : ℕ) (b : Bool) → IsSince sights (if b then tried_from (Some soon) 0 root.waits_for root else root)
    by_time until true = is
    by_time until false = is

    by_try : (at : Option ℕ) → IsSince sights (sooner soon at root)
    by_try None = is
    by_try (Some until) = by_time until (nat_lt soon until)

    by : (b : Bool) → IsSince sights (if b then sooner soon root.tries_at root else root)
    by true = by_try root.tries_at
    by false = is

pub noted_call_since : (became : Became) (took : Bool) (who : Option Id) (now : Duration) (sights : List Sight) (s : Sweeps) → AreSince sights s.ended → AreSince sights (freed_by took who now (with_became became s)).ended
noted_call_since became took who now sights s all = freed_all took (became_all became)
  where
    became_all : (became : Became) → AreSince sights (with_became became s).ended
    became_all Nothing = all
    became_all Begun = all
    became_all Full = all
    became_all Ended = all
    became_all Removed = all

    after : Sweeps
    after = with_became became s

    freed_one : (who : Option Id) → AreSince sights after.ended → AreSince sights (freed_of who after).ended
    freed_one None every = every
    freed_one (Some id) every = All-map (IsSince sights) (freed id) after.ended (All-weaker (IsSince sights) (λ (root : Root). IsSince sights (freed id root)) (freed_since sights id) after.ended every)

    freed_all : (took : Bool) → AreSince sights after.ended → AreSince sights (freed_by took who now after).ended
    freed_all true every = All-map (IsSince sights) (hastened now) after.ended (All-weaker (IsSince sights) (λ (root : Root). IsSince sights (hastened now root)) (hastened_since sights now) after.ended every)
    freed_all false every = freed_one who every

pub lists_since : (now : Duration) (beyond : Option Id) (sights : List Sight) (old new : Sweeps) → IsNextChore now old new (Some (ToList beyond)) → AreSince sights old.ended → AreSince sights new.ended
lists_since now beyond sights old new is all = by_look old.looks is.2
  where
    by_look : (looks : Bool) → MatchBool looks (new ≡ old) (BeginsLook now old new) → AreSince sights new.ended
    by_look true same = subst (λ (s : Sweeps). AreSince sights s.ended) (sym same) all
    by_look false begins = subst (λ (s : Sweeps). AreSince sights s.ended) (sym begins.2) (All-map (IsSince sights) unfound old.ended all)

-- what is due is purged, if no look is under way
pub due_is_purged : (now : Duration) (root : Root) (old new : Sweeps) (chore : Option Chore) → sweeps old ≡ true → old.looks ≡ false → first_due old.keep now old.ended ≡ Some root → IsNextChore now old new chore
    → chore ≡ Some (Purge (kept_of root))
due_is_purged now root old new None does ends first is = absurd cc
due_is_purged now root old new (Some (ToList beyond)) does ends first is = absurd (none_listed _ old.looks ends is.2)
  where
    none_listed : (A : Type 0) (looks : Bool) → looks ≡ false → MatchBool looks A (BeginsLook now old new) → ⊥
    none_listed A true e begins = absurd cc
    none_listed A false e begins = no_first begins.0
      where
        no_first : is_some (first_due old.keep now old.ended) ≡ false → ⊥
        no_first none = absurd cc
due_is_purged now root old new (Some (Purge kept)) does ends first is = ap (λ (k : Kept). Some (Purge k)) (same_kept (first_due old.keep now old.ended) first is.2)
  where
    same_kept : (found : Option Root) → found ≡ Some root → option_map kept_of found ≡ Some kept → kept ≡ kept_of root
    same_kept None e is = absurd cc
    same_kept (Some other) e is = cc

-- a look goes on beyond the last LRA that it was shown
noted_beyond : (time : Option ℕ) (now : Duration) (id : Id) (seen : LraStatus) (old new : Sweeps) → NotesFor time now id seen old new → new.beyond ≡ old.beyond
noted_beyond None now id seen old new is = ap (λ (s : Sweeps). s.beyond) is
noted_beyond (Some time) now id seen old new is = by (list_any (is_root id) old.ended) is
  where
    added : IsAdded id seen now old new → new.beyond ≡ old.beyond
    added (inl more) = ap (λ (s : Sweeps). s.beyond) more
    added (inr same) = ap (λ (s : Sweeps). s.beyond) same

    by : (b : Bool) → MatchBool b (new ≡ with_ended (map (seen_as id seen now) old.ended) old) (IsAdded id seen now old new) → new.beyond ≡ old.beyond
    by true is = ap (λ (s : Sweeps). s.beyond) is
    by false is = added is

seen_beyond : (now : Duration) (id : Id) (shown seen : LraStatus) (old new : Sweeps) → IsSeen now id shown seen old new → new.beyond ≡ Some id
seen_beyond now id shown seen old new is = by old.looks (id.home == old.number) is
  where
    by : (looks is_own : Bool) → MatchBool looks
        (MatchBool is_own (IsNoted now id seen (with_counts (with_one shown old.counts) (with_beyond (Some id) old)) new) (new ≡ looked (with_beyond (Some id) old)))
        (new ≡ with_beyond (Some id) old) → new.beyond ≡ Some id
    by true true is = noted_beyond (time_of old.keep seen) now id seen (with_counts (with_one shown old.counts) (with_beyond (Some id) old)) new is
    by true false is = ap (λ (s : Sweeps). s.beyond) is
    by false is_own is = ap (λ (s : Sweeps). s.beyond) is

both_are : (a b : Bool) → a ≡ true → b ≡ true → (a && b) ≡ false → ⊥
both_are true true e h none = absurd cc
both_are true false e h none = absurd cc
both_are false b e h none = absurd cc

either_is : (a b : Bool) → a ≡ true → (a || b) ≡ true
either_is true b e = refl
either_is false b e = absurd cc

pub goes_on : (now later : Duration) (id : Id) (shown seen : LraStatus) (old new next : Sweeps) (chore : Option Chore) → IsSeen now id shown seen old new → sweeps new ≡ true → new.looks ≡ true
    → IsNextChore later new next chore → chore ≡ Some (ToList (Some id))
goes_on now later id shown seen old new next None saw does looks is =
    absurd (both_are (sweeps new) (new.looks || (is_some (first_due new.keep later new.ended) || is_to_look later (purges new.keep) new.looking)) does
    (either_is new.looks (is_some (first_due new.keep later new.ended) || is_to_look later (purges new.keep) new.looking) looks) is.0)
goes_on now later id shown seen old new next (Some (ToList beyond)) saw does looks is =
    ap (λ (o : Option Id). Some (ToList o)) (is.1 ∙ ap (λ (s : Sweeps). s.beyond) (same _ new.looks looks is.2) ∙ seen_beyond now id shown seen old new saw)
  where
    same : (A : Type 0) (b : Bool) → b ≡ true → MatchBool b (next ≡ new) A → next ≡ new
    same A true e is = is
    same A false e is = absurd cc
goes_on now later id shown seen old new next (Some (Purge kept)) saw does looks is = absurd (differ new.looks looks is.1)
  where
    differ : (b : Bool) → b ≡ true → b ≡ false → ⊥
    differ true e f = absurd cc
    differ false e f = absurd cc

pub pauses_within : (pause : ℕ) → (FIRST_PAUSE_MS ≤ next_pause pause) × (next_pause pause ≤ LAST_PAUSE_MS)
pauses_within pause = (omega arith, omega arith)

-- the first root that is to be purged is one of those remembered, and is due
first_is : (keep : Keep) (now : Duration) (P : Root → Type 0) (ended : List Root) (root : Root) → first_due keep now ended ≡ Some root → All P ended → P root × (is_due keep now root ≡ true)
first_is keep now P [] root e all = absurd cc
first_is keep now P (x ∷ rest) root e all =
    one_of (is_due keep now x) refl e (All-head P x rest all) (λ later. first_is keep now P rest root later (All-tail P x rest all))
  where
    one_of : (b : Bool) → is_due keep now x ≡ b → (if b then Some x else first_due keep now rest) ≡ Some root → P x → (first_due keep now rest ≡ Some root → P root × (is_due keep now root ≡ true))
        → P root × (is_due keep now root ≡ true)
    one_of true due is here later = let same : x ≡ root = cc in (subst P same here, subst (λ (r : Root). is_due keep now r ≡ true) same due)
    one_of false due is here later = later is

-- a root that is purged was kept long enough
kept_for : (keep : Keep) (now : Duration) (kept : Kept) (sights : List Sight) (since : Duration) (time : Option ℕ) → time_of keep kept.seen ≡ time
    → is_kept_for time (as_nanos now - as_nanos since) ≡ true → IsSeenSince kept.root kept.seen since sights → WasKept keep now kept sights
kept_for keep now kept sights since None e ripe is = absurd cc
kept_for keep now kept sights since (Some time) e ripe is = record {
  since = since;
  time = time;
  is_seen = is;
  is_time = e;
  is_long = leb-true (time * 1_000_000) (as_nanos now - as_nanos since) ripe;
}

left_true : (a b : Bool) → (a && b) ≡ true → a ≡ true
left_true true b h = refl
left_true false b h = absurd cc

due_was_kept : (keep : Keep) (now : Duration) (kept : Kept) (sights : List Sight) (ended : List Root) (first : Option Root) → first_due keep now ended ≡ first → option_map kept_of first ≡ Some kept
    → AreSince sights ended → WasKept keep now kept sights
due_was_kept keep now kept sights ended None e is all = absurd cc
due_was_kept keep now kept sights ended (Some root) e is all =
    let it = first_is keep now (IsSince sights) ended root e all in
    let same : kept_of root ≡ kept = cc in
    subst (λ (kept : Kept). WasKept keep now kept sights) same
    (kept_for keep now (kept_of root) sights root.since (time_of keep root.seen) refl (left_true (is_ripe keep now root) (is_tried now root.tries_at) it.1) it.0)

pub purges_kept : (now : Duration) (kept : Kept) (sights : List Sight) (old new : Sweeps) → IsNextChore now old new (Some (Purge kept)) → AreSince sights old.ended → WasKept old.keep now kept sights × (new ≡ old)
purges_kept now kept sights old new is all = (due_was_kept old.keep now kept sights old.ended (first_due old.keep now old.ended) refl is.2 all, is.3)

-- a root that showed this whenever it was seen since then shows this
last_is : (id : Id) (seen : LraStatus) (since : Duration) (sights : List Sight) → IsSeenSince id seen since sights → last_seen id sights ≡ Some seen
last_is id seen since [] is = absurd is
last_is id seen since (sight ∷ sights) is = last_by id seen since sight sights (same_id id sight.id) (last_is id seen since sights) is
  where
    last_by : (id : Id) (seen : LraStatus) (since : Duration) (sight : Sight) (sights : List Sight) (b : Bool) → (IsSeenSince id seen since sights → last_seen id sights ≡ Some seen)
        → MatchBool b ((sight.seen ≡ seen) × ((sight.now ≡ since) ⊎ IsSeenSince id seen since sights)) (IsSeenSince id seen since sights)
        → (if b then Some sight.seen else last_seen id sights) ≡ Some seen
    last_by id seen since sight sights true before is = ap (λ (s : LraStatus). Some s) is.0
    last_by id seen since sight sights false before is = before is

some_none : (time : ℕ) → Some time ≡ None → ⊥
some_none time e = absurd cc

pub never_purged : (now : Duration) (kept : Kept) (seen : LraStatus) (sights : List Sight) (old new : Sweeps) → IsNextChore now old new (Some (Purge kept)) → AreSince sights old.ended
    → last_seen kept.root sights ≡ Some seen → time_of old.keep seen ≡ None → ⊥
never_purged now kept seen sights old new is all last never =
    let was = (purges_kept now kept sights old new is all).0 in
    let both : Some kept.seen ≡ Some seen = sym (last_is kept.root kept.seen was.since sights was.is_seen) ∙ last in
    let same : kept.seen ≡ seen = cc in
    some_none was.time (sym was.is_time ∙ ap (time_of old.keep) same ∙ never)
