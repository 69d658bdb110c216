-- An LRA that is held has a record; and what the reply to a command is, whether it is refused or
-- accepted.
use Rattle.std.proofs.Common.{◌≡◌, ◌≤◌, ℕ, List, refl, sym, ap, ◌∙◌, Bool, true, false, cond, Some, None, length}
use Rattle.state_ids.specs.Ids.{Id}
use Rattle.state_facts.specs.declared.fact.Fact.{Fact}
use Rattle.state_facts.specs.declared.refusal.Refusal.{Refusal}
use Rattle.state_facts.specs.Sets.{is_held}
use Rattle.state_forest.specs.declared.record.Record.{Record}
use Rattle.state_forest.specs.Records.{record_of}
use Rattle.state_facts.specs.declared.command.Command.{Command}
use Rattle.state_facts.specs.declared.command.CommandReply.TheVariants.{Refused}
use Rattle.theory_history.specs.Replies.{Denied, Judgement, Accepted, accepted, judge, reply_by, reply_of}
use Rattle.theory_history.specs.Views.{StandsFor, View, record_at}
use Rattle.theory_history.proofs.PatchesAddFacts.{held_home}
use Rattle.theory_history.proofs.Covered.{begun_within}
use Rattle.theory_history.proofs.Basics.{held_begun}

-- a command that is denied has the refusal as its reply
pub reply_denied : (S : List Fact) (v : List ℕ) (node : ℕ) (c : Command) (refusal : Refusal) → judge S v node c ≡ Denied refusal → reply_of S v node c ≡ Refused refusal
reply_denied S v node c refusal denied = ap (λ (j : Judgement). reply_by j (accepted S v node c)) denied

-- a command that is accepted has the reply to its fact
pub reply_accepted : (S : List Fact) (v : List ℕ) (node : ℕ) (c : Command) → judge S v node c ≡ Accepted → reply_of S v node c ≡ accepted S v node c
reply_accepted S v node c taken = ap (λ (j : Judgement). reply_by j (accepted S v node c)) taken

-- an LRA that is held has a record
pub never_lost : (S : List Fact) (view : View) (l : Id) → StandsFor S view → is_held S l ≡ true → l.home ≤ length view.front → record_at view l ≡ None → ⊥
never_lost S view l stands held there none =
    let found = (stands.records l.home (held_home S view l stands held) there).stands l refl in
    by (record_of (length view.front) S l) (is_held S l) held (sym none ∙ found)
  where
    by : (r : Record) (b : Bool) → b ≡ true → None ≡ cond b (Some r) None → ⊥
    by r true e f = cc
    by r false e f = cc

-- the home of an LRA that is held is one of the nodes
pub held_within : (S : List Fact) (view : View) (l : Id) → StandsFor S view → is_held S l ≡ true → l.home ≤ length view.front
held_within S view l stands held = begun_within S view.front l stands.front (held_begun S l held)
