-- What a node answers is what its set of facts in the world gives.
use Rattle.std.proofs.Common.{◌≡◌, inl, inr, ◌≤◌, ◌-◌, ◌∙◌, ℕ, List, [], Result, Ok, Err, refl, sym, ap, subst, arith, length, replicate}
use Rattle.std.proofs.lemmas.List.{length-replicate}
use Rattle.state_ids.specs.Ids.{Id}
use Rattle.state_ids.specs.declared.status.LraStatus.{LraStatus}
use Rattle.state_ids.specs.declared.status.LraStatus.TheVariants.{Cancelled, Cancelling, Closed, Closing, FailedToCancel, FailedToClose}
use Rattle.state_ids.specs.declared.status.MemberStatus.{MemberStatus}
use Rattle.state_facts.specs.declared.refusal.Refusal.{Refusal}
use Rattle.theory_history.specs.Histories.{Entry}
use Rattle.theory_history.specs.Views.{StandsFor, View, empty_view}
use Rattle.theory_history.proofs.ClosedSets.{closed_counted}
use Rattle.theory_history.proofs.OneViewOfASet.{one_front}
use Rattle.theory_history.proofs.PatchedHistories.{empty_view_in}
use Rattle.script_world.specs.Headline.{IsNode, ShowsCancel, ShowsClose, member_at, shown_at}
use Rattle.script_world.specs.Worlds.{IsViewOf, IsWorld, State, front_of, nodes_of, set_of, start}
use Rattle.script_world.proofs.Moving.{same_at, start_is}
use Rattle.state_book.specs.declared.calls.Call.{Call}
use Rattle.state_book.specs.declared.calls.Call.TheVariants.{Member, Status}
use Rattle.state_book.specs.declared.calls.Reply.{Reply}
use Rattle.state_book.specs.declared.calls.Reply.TheVariants.{Shown, ShownMember}
use Rattle.state_book.specs.Next.{IsNext, member_reply, status_reply}
use Rattle.state_book.specs.OfSets.{IsReplyOf}
use Rattle.state_book.proofs.RepliesOfSets.{reply_of_set}
use Rattle.theory_trail.specs.NodeTrails.{IsServed}
use Rattle.theory_trail.specs.Servers.{Answers, AnswersCancel, AnswersClose}
use Rattle.theory_trail.proofs.OwnCommands.{settled_of, there_in}

pub answers : (me now : ℕ) (s : State) (a b : View) (call : Call) (reply : Reply) → IsServed me s a → IsNext me a call now reply b → IsReplyOf (set_of s me) (front_of s me) me call now reply b
answers me now s a b call reply served next =
    subst (λ (v : List ℕ). IsReplyOf (set_of s me) v me call now reply b) served.holds.counts
    (reply_of_set (set_of s me) me now a b call reply (settled_of me s a served) served.holds.stands served.node.some (there_in me s a served) next)

-- what is shown is a status
status_is : (l k : Id) (status : LraStatus) (found : Result LraStatus Refusal) → Shown k status ≡ status_reply l found → (k ≡ l) × (found ≡ Ok status)
status_is l k status (Ok other) e = (ap id_of e, ap (λ (is : LraStatus). Ok is) (sym (ap status_of e)))
  where
    id_of : Reply → Id
    id_of (Shown id is) = id
    id_of _ = l

    status_of : Reply → LraStatus
    status_of (Shown id is) = is
    status_of _ = status
status_is l k status (Err refusal) e = absurd cc

member_is : (l k : Id) (m n : ℕ) (status : MemberStatus) (found : Result MemberStatus Refusal) → ShownMember k n status ≡ member_reply l m found → (k ≡ l) × (n ≡ m) × (found ≡ Ok status)
member_is l k m n status (Ok other) e = (ap id_of e, ap number_of e, ap (λ (is : MemberStatus). Ok is) (sym (ap status_of e)))
  where
    id_of : Reply → Id
    id_of (ShownMember id number is) = id
    id_of _ = l

    number_of : Reply → ℕ
    number_of (ShownMember id number is) = number
    number_of _ = m

    status_of : Reply → MemberStatus
    status_of (ShownMember id number is) = is
    status_of _ = status
member_is l k m n status (Err refusal) e = absurd cc

pub shown : (me now : ℕ) (s : State) (a b : View) (l k : Id) (status : LraStatus) → IsServed me s a → IsNext me a (Status l) now (Shown k status) b → (k ≡ l) × (shown_at s me l ≡ Ok status)
shown me now s a b l k status served next = status_is l k status (shown_at s me l) (answers me now s a b (Status l) (Shown k status) served next).0

pub member : (me now : ℕ) (s : State) (a b : View) (l k : Id) (m n : ℕ) (status : MemberStatus) → IsServed me s a → IsNext me a (Member l m) now (ShownMember k n status) b
    → (k ≡ l) × (n ≡ m) × (member_at s me l m ≡ Ok status)
member me now s a b l k m n status served next = member_is l k m n status (member_at s me l m) (answers me now s a b (Member l m) (ShownMember k n status) served next).0

-- a view that stands for the set has the node's front
pub stands_served : (me : ℕ) (s : State) (a : View) → IsWorld s → IsNode s me → length a.front ≡ nodes_of s → StandsFor (set_of s me) a → IsServed me s a
stands_served me s a world node nodes stands =
    let closed = (world.current me node.some node.there).closed in
    record {
      world = world;
      node = node;
      holds = record {
        stands = stands;
        counts = one_front (set_of s me) a.front (front_of s me) (nodes ∙ sym closed.nodes) stands.front (closed_counted s.history (front_of s me) closed);
      };
    }

-- at the start each node has the view of no facts
pub starts_served : (nodes me : ℕ) → IsNode (start nodes) me → IsServed me (start nodes) (empty_view nodes)
starts_served nodes me is =
    let there : me ≤ nodes = omega (arith, is.there, length-replicate {A = List Entry} nodes []) in
    let some : 1 ≤ nodes = omega (arith, is.some, there) in
    let front : front_of (start nodes) me ≡ replicate nodes 0 = same_at nodes (me - 1) (replicate nodes 0) (omega (arith, is.some, there)) in
    record {
      world = start_is nodes some;
      node = is;
      holds = subst (λ (v : List ℕ). IsViewOf (start nodes).history v (empty_view nodes)) (sym front)
          (record { stands = (empty_view_in nodes me is.some there).stands; counts = refl });
    }

-- What closes and what is cancelled

shows : (me : ℕ) (s : State) (a : View) (l : Id) (status : LraStatus) → IsServed me s a → Answers me a l status → shown_at s me l ≡ Ok status
shows me s a l status served (now, (b, next)) = (shown me now s a b l l status served next).1

pub shows_close : (me : ℕ) (s : State) (a : View) (l : Id) → IsServed me s a → AnswersClose me a l → ShowsClose s me l
shows_close me s a l served (inl closing) = inl (shows me s a l Closing served closing)
shows_close me s a l served (inr (inl closed)) = inr (inl (shows me s a l Closed served closed))
shows_close me s a l served (inr (inr failed)) = inr (inr (shows me s a l FailedToClose served failed))

pub shows_cancel : (me : ℕ) (s : State) (a : View) (l : Id) → IsServed me s a → AnswersCancel me a l → ShowsCancel s me l
shows_cancel me s a l served (inl cancelling) = inl (shows me s a l Cancelling served cancelling)
shows_cancel me s a l served (inr (inl cancelled)) = inr (inl (shows me s a l Cancelled served cancelled))
shows_cancel me s a l served (inr (inr failed)) = inr (inr (shows me s a l FailedToCancel served failed))
