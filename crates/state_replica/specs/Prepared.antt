-- The result of preparing a command.
use Rattle.std.specs.Prelude.{◌≡◌, ◌⊎◌, ◌+◌, ℕ, Bool, true, false, Some, None, List, Result, Ok, Err, IfSome}
use Rattle.state_ids.specs.Ids.{Id}
use Rattle.state_ids.specs.Fronts.{count}
use Rattle.state_facts.specs.declared.fact.Fact.{Fact}
use Rattle.state_facts.specs.declared.refusal.Refusal.{Refusal}
use Rattle.state_facts.specs.declared.refusal.Refusal.TheVariants.{NoMemory}
use Rattle.state_forest.specs.declared.record.Record.{Record}
use Rattle.state_facts.specs.declared.command.Command.{Command}
use Rattle.state_facts.specs.declared.command.CommandReply.TheVariants.{Refused, Known}
use Rattle.theory_history.specs.Replies.{Judgement, Denied, AlreadyKnown, Accepted, judge, reply_of}
use Rattle.theory_history.specs.Views.{View, record_at}
use Rattle.theory_history.specs.Changes.{Change, with_stamp, AddsFact}
use Rattle.state_facts.specs.declared.command.CommandReply.{CommandReply}
use Rattle.theory_history.specs.Next.{change_on, judge_on, accepted_on}
use Rattle.state_replica.specs.declared.patch.Prepared.{Prepared}
use Rattle.state_replica.specs.Replicas.{Fits, ReplicaState}

-- the command's refusal, or out of memory, which is possible only if the command is accepted
abbrev pub IsDenied : List Fact → View → ℕ → Command → Refusal → Type 0
IsDenied S view me c refusal = ((refusal ≡ NoMemory) × (judge S view.front me c ≡ Accepted)) ⊎ (reply_of S view.front me c ≡ Refused refusal)

-- the reply that the definitions give, with its patch, or the reason why it is denied
abbrev pub IsPrepared : List Fact → View → ℕ → Command → Result Prepared Refusal → Type 0
IsPrepared S view me c (Ok prepared) = (prepared.reply ≡ reply_of S view.front me c) × AddsFact S view me c prepared.patch
IsPrepared S view me c (Err refusal) = IsDenied S view me c refusal

-- the judgement that a result of `judge` stands for: already known, accepted, or the refusal
abbrev pub judged_as : Result Bool Refusal → Judgement
judged_as (Ok true) = AlreadyKnown
judged_as (Ok false) = Accepted
judged_as (Err refusal) = Denied refusal

-- there is room for the patch
abbrev pub HasRoom : Result Prepared Refusal → ReplicaState → Type 0
HasRoom (Ok prepared) kept = IfSome prepared.patch (λ change. Fits change kept)
HasRoom (Err refusal) kept = Unit {0}

-- The result of preparing a command, by its judgement: the refusal, that it is known, or the reply
-- and the change. Only in the last case memory may run out
abbrev pub IsAnswer : Judgement → CommandReply → Change → Result Prepared Refusal → Type 0
IsAnswer (Denied r) reply change result = result ≡ Err r
IsAnswer AlreadyKnown reply change result = result ≡ Ok (record { reply = Known; patch = None })
IsAnswer Accepted reply change result = (result ≡ Err NoMemory) ⊎ (result ≡ Ok (record { reply = reply; patch = Some change }))

abbrev pub IsNext : View → ℕ → Command → Result Prepared Refusal → Type 0
IsNext view me c result = IsAnswer (judge_on view me c) (accepted_on view me c) (change_on view me c) result

-- The first half of preparing. If the command is accepted, it gives a copy of the record of l with
-- the number of the node's next fact, otherwise the refusal. Memory may run out only if the command
-- is accepted
abbrev pub IsReadyNext : View → ℕ → Command → Id → Result Record Refusal → Type 0
IsReadyNext view me c l (Ok copy) =
    (judge_on view me c ≡ Accepted)
    × ((old : Record) × (record_at view l ≡ Some old) × (copy ≡ with_stamp me (count view.front me + 1) old))
IsReadyNext view me c l (Err refusal) = (judge_on view me c ≡ Denied refusal) ⊎ ((refusal ≡ NoMemory) × (judge_on view me c ≡ Accepted))
