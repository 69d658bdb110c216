-- What a node told it holds, and what it takes back once it is lost.
use Rattle.std.proofs.Common.{◌≡◌, ◌≤◌, ◌<◌, ◌+◌, ◌==◌, ◌&&◌, inl, inr, ℕ, Bool, true, false, cond, List, [], ◌∷◌, length, refl, sym, ap, subst, ◌∙◌, arith, Result, Ok, Err, filter}
use Rattle.std.specs.Prelude.{nat_le, not}
use Rattle.std.specs.List.{range_with_len}
use Rattle.std.proofs.lemmas.Bool.Decides.{nat_tests}
use Rattle.state_ids.specs.Fronts.{IsBelow, count}
use Rattle.state_facts.specs.declared.refusal.Refusal.{Refusal}
use Rattle.theory_history.specs.Views.{View}
use Rattle.theory_history.proofs.JoinedFronts.{below_right}
use Rattle.wire_frames.specs.Frames.{Frame}
use Rattle.wire_pulls.specs.PullBodies.{asked}
use Rattle.script_world.specs.Worlds.{State, front_of}
use Rattle.script_world.proofs.Moving.{run_keeps}
use Rattle.state_book.specs.declared.calls.Call.{Call}
use Rattle.state_book.specs.declared.calls.Call.TheVariants.{Pull, Take}
use Rattle.state_book.specs.declared.calls.Reply.{Reply as BookReply}
use Rattle.state_book.specs.declared.calls.Reply.TheVariants.{Gave, Took}
use Rattle.state_book.specs.Next.{IsNext, IsTakeReply, pull_reply}
use Rattle.state_book.specs.Trails.{LeadsTo}
use Rattle.node_replication.specs.Spreads.{holders, is_holder}
use Rattle.theory_trail.specs.Copies.{HearsEach, TakesIn, is_missed, missed}
use Rattle.theory_trail.specs.NodeTrails.{Elsewhere, Happen, Here, IsPlayed, IsServed, Item, events_of, trail_of}
use Rattle.theory_trail.proofs.AtOtherNodes.{served_still}
use Rattle.theory_trail.proofs.Played.{entry_meant, played_runs}

-- Fronts only rise

pub risen : (me : ℕ) (s t : State) (a b : View) (items : List Item) → IsPlayed me s a items t b → IsBelow a.front b.front
risen me s t a b items played =
    let run = played_runs me s t a b items played in
    let kept = run_keeps s t (events_of me items) run.replies played.served.world run.runs in
    subst (λ (v : List ℕ). IsBelow v b.front) (sym played.served.holds.counts)
    (subst (λ (v : List ℕ). IsBelow (front_of s me) v) (sym run.served.holds.counts) (kept.risen me played.served.node))

abbrev front_in : (else_ : List ℕ) → BookReply → List ℕ
front_in else_ (Gave delta) = delta.front
front_in else_ reply = else_

-- a frame that is given counts all that the node holds
given : (b : View) (delta : Frame) (r : Result (List ℕ) Refusal) → Gave delta ≡ pull_reply b r → delta.front ≡ b.front
given b delta (Ok front) e = ap (front_in b.front) e
given b delta (Err refusal) e = absurd cc

given_front : (me now : ℕ) (b c : View) (body : List ℕ) (delta : Frame) → IsNext me b (Pull body) now (Gave delta) c → (delta.front ≡ b.front) × (c ≡ b)
given_front me now b c body delta (e, same) = (given b delta (asked (length b.front) body) e, same)

pub has_before : (me now : ℕ) (s t : State) (a b c : View) (items : List Item) (body : List ℕ) (delta : Frame) → IsPlayed me s a items t b → IsNext me b (Pull body) now (Gave delta) c → IsBelow a.front delta.front
has_before me now s t a b c items body delta played next =
    subst (λ (v : List ℕ). IsBelow a.front v) (sym (given_front me now b c body delta next).0) (risen me s t a b items played)

pub gave_held : (me now : ℕ) (s t : State) (a b c : View) (items : List Item) (body : List ℕ) (delta : Frame) → IsNext me c (Pull body) now (Gave delta) a → IsPlayed me s a items t b → IsBelow delta.front b.front
gave_held me now s t a b c items body delta next played =
    let gave = given_front me now c a body delta next in
    subst (λ (v : List ℕ). IsBelow v b.front) (sym (gave.0 ∙ ap (λ (v : View). v.front) (sym gave.1))) (risen me s t a b items played)

-- a frame that is taken is then counted
took_front : (a : View) (delta : Frame) (b : View) → IsTakeReply a delta Took b → IsBelow delta.front b.front
took_front a delta b (inl (e, takes)) = subst (λ (v : List ℕ). IsBelow delta.front v) (sym takes.taken.front) (below_right a.front delta.front)
took_front a delta b (inr (refusal, e, why, same)) = absurd cc

pub is_taken : (me now : ℕ) (a b : View) (call : Call) (reply : BookReply) (delta : Frame) → IsNext me a call now reply b → call ≡ Take delta → reply ≡ Took → IsBelow delta.front b.front
is_taken me now a b call reply delta next is took =
    took_front a delta b (subst (λ (c : Call). IsNext me a c now Took b) is (subst (λ (r : BookReply). IsNext me a call now r b) took next))

-- and it is counted from then on
held_so_far : (me : ℕ) (s : State) (a : View) (items : List Item) (t : State) (b : View) (delta : Frame) → IsServed me s a → LeadsTo me a (trail_of items) b → Happen me s items t → TakesIn (trail_of items) delta → IsBelow delta.front b.front
held_so_far me s a [] t b delta served legal happen is = absurd is
held_so_far me s a (Elsewhere event reply ∷ items) t b delta served legal (other, (mid, steps, happen)) is =
    held_so_far me mid a items t b delta (served_still s mid me a event reply served other steps) legal happen is
held_so_far me s a (Here entry frame ∷ items) t b delta served (next, first, legal) (sent, (mid, follows, happen)) (inl (call, reply)) =
    let meant = entry_meant me s frame a next entry mid served first sent follows in
    let at = is_taken me entry.moment a next entry.call entry.reply delta first call reply in
    let up = risen me mid t next b items (record { served = meant.served; legal = legal; happen = happen }) in
    λ node. (let here = at node in let later = up node in omega (arith, here, later))
held_so_far me s a (Here entry frame ∷ items) t b delta served (next, first, legal) (sent, (mid, follows, happen)) (inr is) =
    let meant = entry_meant me s frame a next entry mid served first sent follows in
    held_so_far me mid next items t b delta meant.served legal happen is

pub took_held : (me : ℕ) (s t : State) (a b : View) (items : List Item) (delta : Frame) → IsPlayed me s a items t b → TakesIn (trail_of items) delta → IsBelow delta.front b.front
took_held me s t a b items delta played is = held_so_far me s a items t b delta played.served played.legal played.happen is

-- If more nodes have a fact than are missed, one of them is heard

pub record Found (p q : ℕ → Bool) : Type 0 where
  pub node : ℕ
  pub first : p node ≡ true
  pub other : q node ≡ false

found_among : (p q : ℕ → Bool) (x : ℕ) (xs : List ℕ) (a b : Bool) → p x ≡ a → q x ≡ b → (length (filter q xs) < length (filter p xs) → Found p q)
    → length (cond b (x ∷ filter q xs) (filter q xs)) < length (cond a (x ∷ filter p xs) (filter p xs)) → Found p q
found_among p q x xs true false e f rest less = record { node = x; first = e; other = f }
found_among p q x xs true true e f rest less = rest (omega (arith, less))
found_among p q x xs false true e f rest less = rest (omega (arith, less))
found_among p q x xs false false e f rest less = rest less

pub found_in : (p q : ℕ → Bool) (xs : List ℕ) → length (filter q xs) < length (filter p xs) → Found p q
found_in p q [] less = absurd (omega (arith, less))
found_in p q (x ∷ xs) less = found_among p q x xs (p x) (q x) refl refl (found_in p q xs) less

pub both : (a b : Bool) → (a && b) ≡ true → (a ≡ true) × (b ≡ true)
both true true e = (refl, refl)
both true false e = absurd cc
both false b e = absurd cc

pub another : (node me : ℕ) → not (node == me) ≡ true → node ≡ me → ⊥
another node me e same = grind (arith, nat_tests)

pub at_least : (n k : ℕ) → nat_le n k ≡ true → n ≤ k
at_least n k e = grind (arith, nat_tests)

pub is_heard : (apart heard : Bool) → apart ≡ true → (apart && not heard) ≡ false → heard ≡ true
is_heard true true e f = refl
is_heard true false e f = absurd cc
is_heard false heard e f = absurd cc

pub taken_back : (me wanted n : ℕ) (told : List ℕ) (heard : ℕ → Bool) (s t : State) (a b : View) (items : List Item) → IsPlayed me s a items t b → wanted ≤ holders me n told → missed me (length told) heard < wanted
    → HearsEach me heard told (trail_of items) → n ≤ count b.front me
taken_back me wanted n told heard s t a b items played enough few hears =
    let found = found_in (is_holder me n told) (is_missed me heard) (range_with_len 1 (length told)) (omega (arith, enough, few)) in
    let parts = both (not (found.node == me)) (nat_le n (count told found.node)) found.first in
    let there = hears found.node (another found.node me parts.0) (is_heard (not (found.node == me)) (heard found.node) parts.0 found.other) in
    let held = took_held me s t a b items there.0 played there.2 me in
    let many = at_least n (count told found.node) parts.1 in
    let counts = there.1 in omega (arith, held, many, counts)

pub goes_on : (me : ℕ) (told : List ℕ) (heard : ℕ → Bool) (s t : State) (a b : View) (items : List Item) → IsPlayed me s a items t b → ((node : ℕ) → (node ≡ me → ⊥) → heard node ≡ true)
    → HearsEach me heard told (trail_of items) → (node : ℕ) → (node ≡ me → ⊥) → count told node < count b.front me + 1
goes_on me told heard s t a b items played all hears node apart =
    let there = hears node apart (all node apart) in
    let held = took_held me s t a b items there.0 played there.2 me in
    let counts = there.1 in omega (arith, held, counts)
