-- What a trail alone says of fronts, whatever view it begins with. A node that lost its journal is none
-- of a world, so this is what there is to say of it.
use Rattle.std.proofs.Common.{◌≡◌, ◌≤◌, ◌<◌, ◌+◌, ◌==◌, inl, inr, ℕ, Bool, true, false, List, [], ◌∷◌, length, refl, sym, ap, subst, ◌∙◌, arith, Option, Some, None}
use Rattle.std.specs.Prelude.{nat_le, not}
use Rattle.std.specs.List.{range_with_len}
use Rattle.std.specs.Option.{option_map_or}
use Rattle.std.proofs.lemmas.Bool.{eqb-true, le-leb}
use Rattle.state_ids.specs.Fronts.{IsBelow, count}
use Rattle.state_ids.specs.Ids.{Id}
use Rattle.state_ids.specs.declared.outcome.Verdict.TheVariants.{Cancel}
use Rattle.state_facts.specs.declared.command.Command.{Command}
use Rattle.state_facts.specs.declared.command.Command.TheVariants.{Begin, Decide, Forgot, Join, Leave, Purge, Report, Told}
use Rattle.state_forest.specs.declared.record.Record.{Record}
use Rattle.theory_history.specs.Changes.{Change}
use Rattle.theory_history.specs.Next.{changed, judge_on, next_view, overdue_on, view_by}
use Rattle.theory_history.specs.Replies.{Accepted, AlreadyKnown, Denied, Judgement}
use Rattle.theory_history.specs.Views.{View, empty_view, record_at}
use Rattle.theory_history.proofs.JoinedFronts.{below_left}
use Rattle.theory_history.proofs.OneMoreEntry.{below_raised}
use Rattle.wire_frames.specs.Frames.{Frame}
use Rattle.script_world.specs.Worlds.{State}
use Rattle.script_world.proofs.Moving.{frame_in}
use Rattle.state_book.specs.declared.calls.Call.{Call}
use Rattle.state_book.specs.declared.calls.Call.TheVariants.{Command as Enter, Take, Pull, Status, Member, Page, Record as Show, Survey, Duties, Expire, Sweep}
use Rattle.state_book.specs.declared.calls.Entry.{Entry}
use Rattle.state_book.specs.declared.calls.Reply.{Reply as BookReply}
use Rattle.state_book.specs.declared.calls.Reply.TheVariants.{Took}
use Rattle.state_book.specs.Next.{IsNext, shows_so, view_expired, view_swept}
use Rattle.state_book.specs.Trails.{LeadsTo, entry}
use Rattle.state_book.specs.Trees.{tree_shown_on}
use Rattle.node_replication.specs.Spreads.{holders, is_holder}
use Rattle.theory_trail.specs.Copies.{HearsEach, TakesIn, is_missed, missed}
use Rattle.theory_trail.specs.NodeTrails.{Arrival, IsServed, WasSent}
use Rattle.theory_trail.proofs.Copied.{another, at_least, both, found_in, is_heard, is_taken}
use Rattle.theory_trail.proofs.OwnCommands.{current_of}

-- A node of a world lacks none of its own facts

pub lacks_none : (me : ℕ) (s : State) (a : View) (delta : Frame) (frame : Arrival) → IsServed me s a → WasSent s frame (Take delta) Took → count delta.front me ≤ count a.front me
lacks_none me s a delta frame served (told, rules) =
    let was = served.world.sent told.sent (frame_in s frame.number told.sent told.numbered) in
    let within = was.closed.within me in
    let own = (current_of me s a served).own in
    let front : delta.front ≡ told.sent.front = ap (λ (d : Frame). d.front) told.told ∙ told.sender.counts in
    let there = ap (λ (v : List ℕ). count v me) front in
    let here = ap (λ (v : List ℕ). count v me) served.holds.counts in omega (arith, within, own, there, here)

-- No call lowers a count

same : (v : List ℕ) → IsBelow v v
same v = λ node. omega arith

either : (v : List ℕ) (f : Record → Change) (unless_ : Change) (found : Option Record) → ((r : Record) → IsBelow v (f r).front) → IsBelow v unless_.front → IsBelow v (option_map_or f found unless_).front
either v f unless_ (Some r) some none = some r
either v f unless_ None some none = none

changed_up : (a : View) (me : ℕ) (c : Command) → IsBelow a.front (changed a me c).front
changed_up a me (Begin None deadline) = below_raised a.front me
changed_up a me (Begin (Some p) deadline) = either a.front _ _ (record_at a p) (λ r. below_raised a.front me) (same a.front)
changed_up a me (Join l links) = either a.front _ _ (record_at a l) (λ r. below_raised a.front me) (same a.front)
changed_up a me (Leave l m) = either a.front _ _ (record_at a l) (λ r. below_raised a.front me) (same a.front)
changed_up a me (Decide l verdict) = either a.front _ _ (record_at a l) (λ r. below_raised a.front me) (same a.front)
changed_up a me (Report l m act outcome) = either a.front _ _ (record_at a l) (λ r. below_raised a.front me) (same a.front)
changed_up a me (Forgot l m) = either a.front _ _ (record_at a l) (λ r. below_raised a.front me) (same a.front)
changed_up a me (Told l m) = either a.front _ _ (record_at a l) (λ r. below_raised a.front me) (same a.front)
changed_up a me (Purge root) = below_raised a.front me

judged_up : (a : View) (me : ℕ) (c : Command) (judged : Judgement) → IsBelow a.front (view_by judged a (changed a me c)).front
judged_up a me c (Denied r) = same a.front
judged_up a me c AlreadyKnown = same a.front
judged_up a me c Accepted = changed_up a me c

next_up : (a : View) (me : ℕ) (c : Command) → IsBelow a.front (next_view a me c).front
next_up a me c = judged_up a me c (judge_on a me c)

expired_up : (a : View) (me : ℕ) (late : Option Id) → IsBelow a.front (view_expired a me late).front
expired_up a me None = same a.front
expired_up a me (Some l) = next_up a me (Decide l Cancel)

swept_up : (a : View) (me : ℕ) (l : Id) (so : Bool) → IsBelow a.front (view_swept a me l so).front
swept_up a me l true = next_up a me (Purge l)
swept_up a me l false = same a.front

is_up : (a b c : View) → b ≡ c → IsBelow a.front c.front → IsBelow a.front b.front
is_up a b c e up = subst (λ (v : View). IsBelow a.front v.front) (sym e) up

call_up : (me now : ℕ) (a b : View) (call : Call) (reply : BookReply) → IsNext me a call now reply b → IsBelow a.front b.front
call_up me now a b (Enter c) reply (e, at) = is_up a b (next_view a me c) at (next_up a me c)
call_up me now a b (Take delta) reply (inl (e, takes)) = subst (λ (v : List ℕ). IsBelow a.front v) (sym takes.taken.front) (below_left a.front delta.front)
call_up me now a b (Take delta) reply (inr (refusal, e, why, at)) = is_up a b a at (same a.front)
call_up me now a b (Pull body) reply (e, at) = is_up a b a at (same a.front)
call_up me now a b (Status l) reply (e, at) = is_up a b a at (same a.front)
call_up me now a b (Member l m) reply (e, at) = is_up a b a at (same a.front)
call_up me now a b (Page beyond) reply (e, at) = is_up a b a at (same a.front)
call_up me now a b (Show l) reply (e, at) = is_up a b a at (same a.front)
call_up me now a b (Survey beyond) reply (e, at) = is_up a b a at (same a.front)
call_up me now a b Duties reply (e, at) = is_up a b a at (same a.front)
call_up me now a b Expire reply (e, at) = is_up a b (view_expired a me (overdue_on a me now)) at (expired_up a me (overdue_on a me now))
call_up me now a b (Sweep l seen) reply (e, at) = is_up a b (view_swept a me l (shows_so seen (tree_shown_on a l))) at (swept_up a me l (shows_so seen (tree_shown_on a l)))

up_and_up : (u v w : List ℕ) → IsBelow u v → IsBelow v w → IsBelow u w
up_and_up u v w one other = λ node. (let here = one node in let later = other node in omega (arith, here, later))

pub trail_up : (me : ℕ) (a b : View) (trail : List Entry) → LeadsTo me a trail b → IsBelow a.front b.front
trail_up me a b [] at = is_up a b a at (same a.front)
trail_up me a b (e ∷ es) (mid, first, rest) = up_and_up a.front mid.front b.front (call_up me e.moment a mid e.call e.reply first) (trail_up me mid b es rest)

pub taken_up : (me : ℕ) (a b : View) (trail : List Entry) (delta : Frame) → LeadsTo me a trail b → TakesIn trail delta → IsBelow delta.front b.front
taken_up me a b [] delta legal is = absurd is
taken_up me a b (e ∷ es) delta (mid, first, rest) (inl (call, reply)) =
    up_and_up delta.front mid.front b.front (is_taken me e.moment a mid e.call e.reply delta first call reply) (trail_up me mid b es rest)
taken_up me a b (e ∷ es) delta (mid, first, rest) (inr is) = taken_up me mid b es delta rest is

pub back : (me wanted n : ℕ) (told : List ℕ) (heard : ℕ → Bool) (a b : View) (trail : List Entry) → LeadsTo me a trail b → wanted ≤ holders me n told → missed me (length told) heard < wanted
    → HearsEach me heard told trail → n ≤ count b.front me
back me wanted n told heard a b trail legal enough few hears =
    let found = found_in (is_holder me n told) (is_missed me heard) (range_with_len 1 (length told)) (omega (arith, enough, few)) in
    let parts = both (not (found.node == me)) (nat_le n (count told found.node)) found.first in
    let there = hears found.node (another found.node me parts.0) (is_heard (not (found.node == me)) (heard found.node) parts.0 found.other) in
    let held = taken_up me a b trail there.0 legal there.2 me in
    let many = at_least n (count told found.node) parts.1 in
    let counts = there.1 in omega (arith, held, many, counts)

pub new_to_all : (me : ℕ) (told : List ℕ) (heard : ℕ → Bool) (a b : View) (trail : List Entry) → LeadsTo me a trail b → ((node : ℕ) → (node ≡ me → ⊥) → heard node ≡ true)
    → HearsEach me heard told trail → (node : ℕ) → (node ≡ me → ⊥) → count told node < count b.front me + 1
new_to_all me told heard a b trail legal all hears node apart =
    let there = hears node apart (all node apart) in
    let held = taken_up me a b trail there.0 legal there.2 me in
    let counts = there.1 in omega (arith, held, counts)

-- A lost disk: node 1 of two begins with nothing, and takes a frame of node 2

itself : (n : ℕ) → nat_le n n ≡ true
itself n = le-leb n n (omega arith)

one_holder : (n : ℕ) → 1 ≤ holders 1 n (0 ∷ n ∷ [])
one_holder n = rw (itself n) (omega arith)

second_is_heard : (node : ℕ) (delta : Frame) → (node == 2) ≡ true → count (0 ∷ count delta.front 1 ∷ []) node ≤ count delta.front 1
second_is_heard node delta e = subst (λ (n : ℕ). count (0 ∷ count delta.front 1 ∷ []) n ≤ count delta.front 1) (sym (eqb-true node 2 e)) (omega arith)

pub a_disk_is_lost : (now : ℕ) (delta : Frame) (b : View) → IsNext 1 (empty_view 2) (Take delta) now Took b →
    (trail : List Entry) × LeadsTo 1 (empty_view 2) trail b
    × (1 ≤ holders 1 (count delta.front 1) (0 ∷ count delta.front 1 ∷ []))
    × (missed 1 2 (λ node. node == 2) < 1)
    × HearsEach 1 (λ node. node == 2) (0 ∷ count delta.front 1 ∷ []) trail
a_disk_is_lost now delta b takes = (
  entry (Take delta) now Took ∷ [],
  (b, takes, refl),
  one_holder (count delta.front 1),
  omega arith,
  λ node apart heard. (delta, second_is_heard node delta heard, inl (refl, refl)),
)
