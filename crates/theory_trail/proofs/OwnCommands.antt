-- A command at a node of the world, judged by the node's view and by its set.
use Rattle.std.proofs.Common.{◌≡◌, ◌≤◌, ◌<◌, ◌-◌, ◌&&◌, ℕ, List, [], refl, sym, ap, subst, ◌∙◌, Bool, true, false, arith, get_or-set_same, length, nat_le, Some}
use Rattle.std.proofs.lemmas.Bool.Decides.{nat_tests}
use Rattle.state_facts.specs.declared.fact.Fact.{Fact}
use Rattle.state_facts.specs.declared.command.Command.{Command}
use Rattle.state_facts.specs.declared.command.Command.TheVariants.{Begin, Join, Leave, Decide, Report, Forgot, Told, Purge}
use Rattle.theory_history.specs.Changes.{AddsFact, raised}
use Rattle.theory_history.specs.Growth.{IsSettled}
use Rattle.theory_history.specs.Histories.{facts}
use Rattle.theory_history.specs.Next.{change_on, changed, judge_on, next_view, reply_on, view_by}
use Rattle.theory_history.specs.NodeViews.{IsCurrent, IsViewIn}
use Rattle.theory_history.specs.Replies.{Judgement, Denied, AlreadyKnown, Accepted, accepted, judge, reply_by, reply_of}
use Rattle.theory_history.specs.Views.{View}
use Rattle.theory_history.proofs.ClosedSets.{closed_settled}
use Rattle.theory_history.proofs.PatchedHistories.{front_with, view_with}
use Rattle.theory_history.proofs.SameReadings.{judge_view}
use Rattle.theory_history.proofs.ViewReplies.{is_added, is_plain, view_law}
use Rattle.script_world.specs.declared.event.EventReply.{EventReply}
use Rattle.script_world.specs.Headline.{IsNode}
use Rattle.script_world.specs.Worlds.{IfNode, IsViewOf, State, after_command, front_of, if_taken, is_node, nodes_of, reply_at, set_of, with_command}
use Rattle.theory_trail.specs.NodeTrails.{IsServed, is_accepted}

-- If there is such a node

pub at_node : (s t : State) (node : ℕ) (happens : Type 0) (reply : EventReply) → IsNode s node → happens → IfNode (is_node s node) s happens reply t
at_node s t node happens reply is h = subst (λ (b : Bool). IfNode b s happens reply t) (sym yes) h
  where
    le : (a b : ℕ) → a ≤ b → nat_le a b ≡ true
    le a b h = grind (arith, nat_tests)

    yes : is_node s node ≡ true
    yes = ap (λ (b : Bool). b && nat_le node (nodes_of s)) (le 1 node is.some) ∙ le node (nodes_of s) is.there

-- What a node holds

pub current_of : (me : ℕ) (s : State) (a : View) → IsServed me s a → IsCurrent s.history me (front_of s me)
current_of me s a served = served.world.current me served.node.some served.node.there

pub settled_of : (me : ℕ) (s : State) (a : View) → IsServed me s a → IsSettled (set_of s me)
settled_of me s a served = closed_settled s.history served.world.lawful (front_of s me) (current_of me s a served).closed

pub nodes_in : (me : ℕ) (s : State) (a : View) → IsServed me s a → length a.front ≡ nodes_of s
nodes_in me s a served = ap (λ (v : List ℕ). length v) served.holds.counts ∙ (current_of me s a served).closed.nodes

pub there_in : (me : ℕ) (s : State) (a : View) → IsServed me s a → me ≤ length a.front
there_in me s a served = omega (arith, served.node.there, nodes_in me s a served)

-- Replies

-- a command that is accepted was entered
accepted_is : (S : List Fact) (v : List ℕ) (node : ℕ) (c : Command) → is_accepted (accepted S v node c) ≡ true
accepted_is S v node (Begin parent deadline) = refl
accepted_is S v node (Join l links) = refl
accepted_is S v node (Leave l m) = refl
accepted_is S v node (Decide l verdict) = refl
accepted_is S v node (Report l m act outcome) = refl
accepted_is S v node (Forgot l m) = refl
accepted_is S v node (Told l m) = refl
accepted_is S v node (Purge root) = refl

never_both : (b : Bool) → b ≡ true → b ≡ false → ⊥
never_both true e f = absurd cc
never_both false e f = absurd cc

-- a command that isn't accepted leaves the world as it was
pub unless_accepted : (s : State) (me : ℕ) (c : Command) → is_accepted (reply_at s me c) ≡ false → after_command s me c ≡ s
unless_accepted s me c refused = by (judge (set_of s me) (front_of s me) me c) refused
  where
    by : (j : Judgement) → is_accepted (reply_by j (accepted (set_of s me) (front_of s me) me c)) ≡ false → if_taken j s (with_command s me c) ≡ s
    by (Denied r) e = refl
    by AlreadyKnown e = refl
    by Accepted e = absurd (never_both _ (accepted_is (set_of s me) (front_of s me) me c) e)

-- the view's reply is that of the world
pub reply_is : (me : ℕ) (s : State) (a : View) (c : Command) → IsServed me s a → reply_on a me c ≡ reply_at s me c
reply_is me s a c served =
    (view_law (set_of s me) a me c served.node.some (there_in me s a served) (settled_of me s a served) served.holds.stands).0
    ∙ ap (λ (v : List ℕ). reply_of (set_of s me) v me c) served.holds.counts

-- Views

judge_is : (me : ℕ) (s : State) (a : View) (c : Command) → IsServed me s a → judge_on a me c ≡ judge (set_of s me) (front_of s me) me c
judge_is me s a c served =
    judge_view (set_of s me) a me c (is_plain (length a.front) me c served.node.some (there_in me s a served)) (settled_of me s a served) served.holds.stands
    ∙ ap (λ (v : List ℕ). judge (set_of s me) v me c) served.holds.counts

-- the view is that of what the node holds in this state
abbrev pub Holds : (me : ℕ) → State → View → Type 0
Holds me s a = IsViewOf s.history (front_of s me) a

entered_holds : (me : ℕ) (s : State) (a : View) (c : Command) → IsServed me s a → judge (set_of s me) (front_of s me) me c ≡ Accepted → Holds me (with_command s me c) (changed a me c)
entered_holds me s a c served taken =
    subst (λ (u : List ℕ). IsViewOf (with_command s me c).history u (changed a me c)) (sym front)
    (record {
      stands = (view_with s.history me v a c (change_on a me c) at served.holds.counts adds).stands;
      counts = front_with s.history me v a c (change_on a me c) served.holds.counts adds;
    })
  where
    v : List ℕ
    v = front_of s me

    at : IsViewIn s.history me v a
    at = record { lawful = served.world.lawful; current = current_of me s a served; stands = served.holds.stands }

    adds : AddsFact (facts s.history v) a me c (Some (change_on a me c))
    adds =
        (is_added (set_of s me) a me c (is_plain (length a.front) me c served.node.some (there_in me s a served)) served.node.some (there_in me s a served)
        (settled_of me s a served) served.holds.stands (ap (λ (u : List ℕ). judge (set_of s me) u me c) served.holds.counts ∙ taken)).1

    place : me - 1 < length s.fronts
    place = omega (arith, served.node.some, served.node.there, served.world.nodes)

    front : front_of (with_command s me c) me ≡ raised v me
    front = get_or-set_same s.fronts (me - 1) (raised v me) [] place

-- so the next view is that of what the node holds after the command
pub command_holds : (me : ℕ) (s : State) (a : View) (c : Command) → IsServed me s a → Holds me (after_command s me c) (next_view a me c)
command_holds me s a c served =
    subst (λ (k : Judgement). Holds me (after_command s me c) (view_by k a (changed a me c))) (sym (judge_is me s a c served)) (by (judge (set_of s me) (front_of s me) me c) refl)
  where
    by : (j : Judgement) → judge (set_of s me) (front_of s me) me c ≡ j → Holds me (if_taken j s (with_command s me c)) (view_by j a (changed a me c))
    by (Denied r) e = served.holds
    by AlreadyKnown e = served.holds
    by Accepted e = entered_holds me s a c served e
