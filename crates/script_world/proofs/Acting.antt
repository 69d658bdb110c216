-- The result of a command at a node, given what was prepared.
use Rattle.std.proofs.Common.{◌≡◌, inl, inr, ℕ, List, Option, None, Some, Ok, Err, sym, ap, subst, ◌∙◌}
use Rattle.state_facts.specs.declared.fact.Fact.{Fact}
use Rattle.state_facts.specs.declared.refusal.Refusal.{Refusal}
use Rattle.state_facts.specs.declared.refusal.Refusal.TheVariants.{NoMemory}
use Rattle.state_facts.specs.declared.command.Command.{Command}
use Rattle.state_facts.specs.declared.command.Command.TheVariants.{Begin, Join, Leave, Decide, Report, Forgot, Told, Purge}
use Rattle.state_facts.specs.declared.command.CommandReply.TheVariants.{Refused}
use Rattle.state_replica.specs.declared.patch.Prepared.{Prepared}
use Rattle.theory_history.specs.Changes.{AddsFact, Change, with_patch}
use Rattle.state_replica.specs.Prepared.{IsPrepared}
use Rattle.theory_history.specs.Replies.{Judgement, Denied, AlreadyKnown, Accepted, accepted, judge, reply_by, reply_of}
use Rattle.theory_history.specs.Views.{StandsFor, View}
use Rattle.script_world.specs.Machines.{Becomes, IsActed}

-- with the patch, if there is one, the view becomes what the command asks for
becomes : (S : List Fact) (old new : View) (me : ℕ) (c : Command) (patch : Option Change) → AddsFact S old me c patch → new ≡ with_patch patch old → Becomes (judge S old.front me c) S old me c new
becomes S old new me c None known is = subst (λ (j : Judgement). Becomes j S old me c new) (sym known) is
becomes S old new me c (Some change) (taken, raises, adds) is =
    subst (λ (j : Judgement). Becomes j S old me c new) (sym taken)
    (ap (λ (v : View). v.front) is ∙ raises, λ T more. subst (λ (v : View). StandsFor T v) (sym is) (adds T more))

entered : (S : List Fact) (old new : View) (me : ℕ) (c : Command) (p : Prepared) → IsPrepared S old me c (Ok p) → new ≡ with_patch p.patch old → (p.reply ≡ reply_of S old.front me c) × Becomes (judge S old.front me c) S old me c new
entered S old new me c p prepared is = (prepared.0, becomes S old new me c p.patch prepared.1 is)

pub acted_with : (S : List Fact) (old new : View) (me : ℕ) (c : Command) (p : Prepared) → IsPrepared S old me c (Ok p) → new ≡ with_patch p.patch old → IsActed S old me c p.reply new
acted_with S old new me c p prepared is = entered S old new me c p prepared is

-- a command that is entered is not refused
never_refused : (S : List Fact) (v : List ℕ) (node : ℕ) (c : Command) (r : Refusal) → accepted S v node c ≡ Refused r → ⊥
never_refused S v node (Begin parent deadline) r e = absurd cc
never_refused S v node (Join id links) r e = absurd cc
never_refused S v node (Leave id m) r e = absurd cc
never_refused S v node (Decide id verdict) r e = absurd cc
never_refused S v node (Report id m act outcome) r e = absurd cc
never_refused S v node (Forgot id m) r e = absurd cc
never_refused S v node (Told id m) r e = absurd cc
never_refused S v node (Purge root) r e = absurd cc

unchanged : (j : Judgement) (S : List Fact) (old new : View) (me : ℕ) (c : Command) (r : Refusal) → reply_by j (accepted S old.front me c) ≡ Refused r → new ≡ old → Becomes j S old me c new
unchanged (Denied q) S old new me c r e is = is
unchanged AlreadyKnown S old new me c r e is = is
unchanged Accepted S old new me c r e is = absurd (never_refused S old.front me c r e)

refused : (S : List Fact) (old new : View) (me : ℕ) (c : Command) (r : Refusal) → IsPrepared S old me c (Err r) → (r ≡ NoMemory → ⊥) → new ≡ old → (Refused r ≡ reply_of S old.front me c) × Becomes (judge S old.front me c) S old me c new
refused S old new me c r (inl none) other is = absurd (other none.0)
refused S old new me c r (inr reply) other is = (sym reply, unchanged (judge S old.front me c) S old new me c r reply is)

pub acted_not : (S : List Fact) (old new : View) (me : ℕ) (c : Command) (r : Refusal) → IsPrepared S old me c (Err r) → (r ≡ NoMemory → ⊥) → new ≡ old → IsActed S old me c (Refused r) new
acted_not S old new me c r prepared other is = refused S old new me c r prepared other is
