-- What the writer thread does between two calls.
use Rattle.std.specs.Prelude.{◌≡◌, ◌↔◌, ◌&&◌, ◌||◌, ◌==◌, Bool, List, MatchOption, Option, IsTrue, false, if◌then◌else◌, is_some, not, true}
use Rattle.std.specs.declared.time.Duration.{Duration}
use Rattle.wire_callbacks.specs.declared.duty.Duty.{Duty}
use Rattle.node_replication.specs.Followers.{IsGoing, kept, put_off_to, to_call}
use Rattle.node_replication.specs.Paces.{DoAllListen}
use Rattle.node_replication.specs.declared.followers_state.Released.{Released}
use Rattle.node_schedule.specs.Resuming.{ResumesAt}
use Rattle.node_agenda.specs.Hearing.{IsListed}
use Rattle.node_agenda.specs.Mail.{Mail, after_news, to_count, with_calls, with_known, with_opening}
use Rattle.node_agenda.specs.Starts.{IsOpened}
use Rattle.node_agenda.specs.Tasks.{IsNextTask}
use Rattle.node_agenda.specs.declared.task.Task.{Task}
use Rattle.node_agenda.specs.declared.task.Task.TheVariants.{Ask, Rest}
use Rattle.node_core.specs.Nodes.{with_followers, with_mail}
use Rattle.node_core.specs.Tallies.{is_spent}
use Rattle.node_core.specs.declared.node_state.NodeState.{NodeState}
use Rattle.node_core.specs.declared.turns.Readied.{Readied}
use Rattle.node_core.specs.declared.turns.Wakeups.{Wakeups}

-- A list of duties comes. It is put at once if nothing is to be copied before; otherwise it waits, and
-- the others are to ask.
abbrev pub IsListPut : List Duty → Duration → (old new : NodeState) → Bool → Type 0
IsListPut duties now old new result =
    MatchOption (to_call duties old.followers)
    ((result ≡ false) × (new ≡ record old { followers = kept duties now old.followers; has_news = true }))
    (λ (list : List Duty). (result ≡ true) × IsListed list now old.mail new.mail
    × (new ≡ with_mail new.mail (with_followers (kept duties now old.followers) old)))

-- the list that waited is put, if it is there; and a new one is asked for, if that is to be
abbrev pub IsListedIf : Option (List Duty) → Duration → (old new : Mail) → Type 0
IsListedIf list now old new = MatchOption list (new ≡ old) (λ (duties : List Duty). IsListed duties now old new)

abbrev pub stirred_if : Bool → Mail → Mail
stirred_if asks_again m = if asks_again then after_news false m else m

pub record IsLetGo (released : Released (List Duty)) (now : Duration) (old new : Mail) (is_put asks_again : Bool) : Type 0 where
  pub listed : Mail
  pub put : IsListedIf released.list now old listed
  pub rest : new ≡ stirred_if released.asks_again listed
  pub is_it_put : is_put ≡ is_some released.list
  pub is_asked : asks_again ≡ released.asks_again

abbrev pub IsLetGoIf : Option (Released (List Duty)) → Duration → (old new : Mail) → (is_put asks_again : Bool) → Type 0
IsLetGoIf out now old new is_put asks_again =
    MatchOption out
    ((new ≡ old) × (is_put ≡ false) × (asks_again ≡ false))
    (λ (released : Released (List Duty)). IsLetGo released now old new is_put asks_again)

pub record IsReleased (now : Duration) (old new : NodeState) (is_put asks_again : Bool) : Type 0 where
  pub out : Option (Released (List Duty))
  pub going : IsGoing now old.followers new.followers out
  pub goes : IsLetGoIf out now old.mail new.mail is_put asks_again
  pub rest : new ≡ with_mail new.mail (with_followers new.followers old)

-- once commands are accepted, the disk is no longer in doubt
abbrev pub opened_if : Bool → NodeState → NodeState
opened_if has_opened n = if has_opened then record n { is_new = false } else n

-- what is due by now: the list that has waited, the opening, and the participants that pause
pub record IsReadied (now : Duration) (old new : NodeState) (readied : Readied) : Type 0 where
  pub released : NodeState
  pub release : IsReleased now old released readied.is_put readied.asks_again
  pub opening : IsOpened now released.mail.known.front released.mail.opening new.mail.opening readied.has_opened
  pub resumed : ResumesAt released.mail.calls.resumes_at now released.mail.calls new.mail.calls readied.may_call
  pub rest : new ≡ opened_if readied.has_opened (with_mail (with_calls new.mail.calls (with_opening new.mail.opening released.mail)) released)

-- a new list isn't asked for while one waits: that is put off
abbrev pub IsNextOf : Task → (old new : NodeState) → Task → Type 0
IsNextOf Ask old new task =
    (task ≡ (if is_some old.followers.wait.calls then Rest else Ask)) × (new ≡ with_mail new.mail (with_followers (put_off_to old.followers) old))
IsNextOf next old new task = (task ≡ next) × (new ≡ with_mail new.mail old)

pub record IsNext (now : Duration) (old new : NodeState) (task : Task) : Type 0 where
  pub next : Task
  pub is : IsNextTask now old.mail new.mail next
  pub does : IsNextOf next old new task

-- Who is to be woken, and whether the run is to end. The others are asked if there is something new,
-- they are in processes of their own, and one of them doesn't wait for news.
abbrev pub asks_others : (do_all_listen : Bool) → NodeState → Bool
asks_others do_all_listen n = n.has_news && (n.is_apart && ((n.nodes == 1) || not do_all_listen))

abbrev pub asking_if : Bool → NodeState → NodeState
asking_if asks n = if asks then with_mail (with_known (to_count n.mail.known) n.mail) n else n

abbrev pub without_news : NodeState → NodeState
without_news n = record n { has_news = false }

pub record IsHandedOn (now : Duration) (old new : NodeState) (wakeups : Wakeups) : Type 0 where
  pub do_all_listen : Bool
  pub is : IsTrue do_all_listen ↔ DoAllListen old.followers.node.me old.followers.node.nodes now old.followers.pace
  pub asked : new ≡ asking_if (asks_others do_all_listen old) (without_news old)
  pub wakes : wakeups ≡ record { writer = asks_others do_all_listen old || old.mail.asking.is_stirred; others = old.has_news; is_spent = is_spent old.tally }
