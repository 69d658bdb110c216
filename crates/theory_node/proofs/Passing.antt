-- What one step keeps, whatever it is.
use Rattle.std.proofs.Common.{◌≡◌, ◌⊎◌, inl, ◌≤◌, ◌<◌, ◌∙◌, ℕ, Bool, true, false, List, ap, arith, length, refl, subst, sym}
use Rattle.std.specs.Prelude.{MatchBool}
use Rattle.state_ids.specs.Fronts.{IsBelow, count}
use Rattle.state_ids.specs.declared.TheConstants.{LAST_NUMBER}
use Rattle.node_agenda.specs.Mail.{Mail}
use Rattle.node_agenda.specs.declared.start_state.StartState.{StartState}
use Rattle.node_core.specs.Doubts.{IsBarred}
use Rattle.node_core.specs.declared.node_state.NodeState.{NodeState}
use Rattle.theory_node.specs.Steps.{IsApart}

-- A node keeps its place; fronts don't get shorter and only grow; and who is barred stays so until the node
-- has all facts that there can be
pub record Keeps (old new : NodeState) : Type 0 where
  pub me : new.mail.opening.me ≡ old.mail.opening.me
  pub long : length new.mail.opening.awaited ≡ length old.mail.opening.awaited
  pub sizes : length new.mail.known.front ≡ length old.mail.known.front
  pub known : IsBelow old.mail.known.front new.mail.known.front
  pub barred : IsBarred old.mail.opening → count new.mail.known.front new.mail.opening.me < LAST_NUMBER → IsBarred new.mail.opening

-- and nothing casts doubt
pub record Passes (old new : NodeState) : Type 0 where
  pub keeps : Keeps old new
  pub doubted : new.followers.is_doubted ≡ old.followers.is_doubted

-- what is not touched passes
pub untouched : (old new : NodeState) → IsApart old new → Passes old new
untouched old new is = record {
  keeps = record {
    me = ap (λ (o : StartState). o.me) is.opening;
    long = ap (λ (o : StartState). length o.awaited) is.opening;
    sizes = ap (λ (front : List ℕ). length front) is.known;
    known = λ node. subst (λ (front : List ℕ). count old.mail.known.front node ≤ count front node) (sym is.known) (omega arith);
    barred = λ barred few. subst (λ (o : StartState). IsBarred o) (sym is.opening) barred;
  };
  doubted = is.doubted;
}

pub same : (n : NodeState) → Passes n n
same n = untouched n n (record { opening = refl; known = refl; doubted = refl })

-- one after another
still_few : (old between new : NodeState) → Keeps old between → Keeps between new → count new.mail.known.front new.mail.opening.me < LAST_NUMBER
    → count between.mail.known.front between.mail.opening.me < LAST_NUMBER
still_few old between new a b few =
    let here : count new.mail.known.front between.mail.opening.me < LAST_NUMBER =
    subst (λ (me : ℕ). count new.mail.known.front me < LAST_NUMBER) b.me few in
    omega (arith, here, b.known between.mail.opening.me)

pub keeps_then : (old between new : NodeState) → Keeps old between → Keeps between new → Keeps old new
keeps_then old between new a b = record {
  me = b.me ∙ a.me;
  long = b.long ∙ a.long;
  sizes = b.sizes ∙ a.sizes;
  known = λ node. omega (arith, a.known node, b.known node);
  barred = λ barred few. b.barred (a.barred barred (still_few old between new a b few)) few;
}

pub and_then : (old between new : NodeState) → Passes old between → Passes between new → Passes old new
and_then old between new a b = record { keeps = keeps_then old between new a.keeps b.keeps; doubted = b.doubted ∙ a.doubted }

-- what is left is what a definition says
pub moved : (old next new : NodeState) → new ≡ next → Passes old next → Passes old new
moved old next new is passes = subst (λ (n : NodeState). Passes old n) (sym is) passes

-- one of two things is left
pub either : (which : Bool) (A C : Type 0) (old x y new : NodeState) → Passes old x → Passes old y → MatchBool which (A × (new ≡ x)) (C × (new ≡ y)) → Passes old new
either true A C old x y new p q is = moved old x new is.1 p
either false A C old x y new p q is = moved old y new is.1 q

-- a mailbox with the same opening and the same front
abbrev pub MailSame : (old new : Mail) → Type 0
MailSame old new = (new.opening ≡ old.opening) × (new.known.front ≡ old.known.front)

pub mail_moved : (old next new : Mail) → new ≡ next → MailSame old next → MailSame old new
mail_moved old next new is same = subst (λ (m : Mail). MailSame old m) (sym is) same

pub mail_passes : (old new : NodeState) → MailSame old.mail new.mail → new.followers.is_doubted ≡ old.followers.is_doubted → Passes old new
mail_passes old new same doubted = untouched old new (record { opening = same.0; known = same.1; doubted = doubted })

-- a front that has grown
pub known_passes : (old new : NodeState) → new.mail.opening ≡ old.mail.opening → new.followers.is_doubted ≡ old.followers.is_doubted
    → length new.mail.known.front ≡ length old.mail.known.front → IsBelow old.mail.known.front new.mail.known.front → Passes old new
known_passes old new opening doubted sizes grows = record {
  keeps = record {
    me = ap (λ (o : StartState). o.me) opening;
    long = ap (λ (o : StartState). length o.awaited) opening;
    sizes = sizes;
    known = grows;
    barred = λ barred few. subst (λ (o : StartState). IsBarred o) (sym opening) barred;
  };
  doubted = doubted;
}

-- an opening of the same node, which stays barred
pub opening_passes : (old new : NodeState) → new.mail.known.front ≡ old.mail.known.front → new.followers.is_doubted ≡ old.followers.is_doubted
    → new.mail.opening.me ≡ old.mail.opening.me → length new.mail.opening.awaited ≡ length old.mail.opening.awaited
    → (IsBarred old.mail.opening → count old.mail.known.front old.mail.opening.me < LAST_NUMBER → IsBarred new.mail.opening) → Passes old new
opening_passes old new known doubted me long barred = record {
  keeps = record {
    me = me;
    long = long;
    sizes = ap (λ (front : List ℕ). length front) known;
    known = λ node. subst (λ (front : List ℕ). count old.mail.known.front node ≤ count front node) (sym known) (omega arith);
    barred = λ is few. barred is (subst (λ (front : List ℕ). count front old.mail.opening.me < LAST_NUMBER) known
        (subst (λ (k : ℕ). count new.mail.known.front k < LAST_NUMBER) me few));
  };
  doubted = doubted;
}

-- what a step keeps: who is in doubt stays so, and who comes to be in doubt does so for this reason
pub record StepPasses (Why : Type 0) (old new : NodeState) : Type 0 where
  pub keeps : Keeps old new
  pub doubted : old.followers.is_doubted ≡ true → new.followers.is_doubted ≡ true
  pub cause : new.followers.is_doubted ≡ true → (old.followers.is_doubted ≡ true) ⊎ Why

pub without_doubt : (Why : Type 0) (old new : NodeState) → Passes old new → StepPasses Why old new
without_doubt Why old new passes =
    record { keeps = passes.keeps; doubted = λ doubted. passes.doubted ∙ doubted; cause = λ doubted. inl (sym passes.doubted ∙ doubted) }

pub step_then : (Why : Type 0) (old between new : NodeState) → StepPasses Why old between → Passes between new → StepPasses Why old new
step_then Why old between new a b = record {
  keeps = keeps_then old between new a.keeps b.keeps;
  doubted = λ doubted. b.doubted ∙ a.doubted doubted;
  cause = λ doubted. a.cause (sym b.doubted ∙ doubted);
}
