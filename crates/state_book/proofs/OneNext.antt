-- A call has one next view, and one reply.
use Rattle.std.proofs.Common.{◌≡◌, ◌≤◌, ◌∙◌, inl, inr, ℕ, List, sym, ap, subst, length}
use Rattle.state_facts.specs.declared.refusal.Refusal.{Refusal}
use Rattle.state_forest.proofs.OneListOfRecords.{same_records}
use Rattle.theory_history.specs.Readings.{by_view}
use Rattle.theory_history.specs.Views.{View, record_at, records_at}
use Rattle.state_replica.specs.Pages.{PageRows}
use Rattle.theory_history.proofs.OneViewOfASet.{same_homes, same_views}
use Rattle.wire_frames.specs.Frames.{Frame}
use Rattle.wire_frames.specs.TakenFrames.{IsTaken}
use Rattle.state_book.specs.declared.calls.Call.{Call}
use Rattle.state_book.specs.declared.calls.Call.TheVariants.{Command as Enter, Take, Pull, Status, Member, Page, Record as Show, Survey, Duties, Expire, Sweep}
use Rattle.state_book.specs.declared.calls.Reply.{Reply}
use Rattle.state_book.specs.declared.calls.Reply.TheVariants.{Listed, Surveyed, Refused}
use Rattle.state_book.specs.Holdings.{survey_of}
use Rattle.state_book.specs.Next.{IsNext, IsTakeReply, RefusesFrame, Takes}
use Rattle.state_book.specs.Trees.{tree_on}
use Rattle.state_book.proofs.OnePage.{one_page}

-- a frame that is taken leads to one view only
one_taken : (a b c : View) (frame : Frame) → IsTaken a frame b → IsTaken a frame c → b ≡ c
one_taken a b c frame left right =
    let fronts : b.front ≡ c.front = left.front ∙ sym right.front in
    let nodes : length c.front ≡ length b.front = ap (λ (v : List ℕ). length v) (sym fronts) in
    let there : (home : ℕ) → home ≤ length b.front → home ≤ length c.front = λ home high. subst (λ (n : ℕ). home ≤ n) (sym nodes) high in
    same_views b c fronts (left.purges ∙ sym right.purges)
    (same_homes (length b.front) b.records c.records left.homes (right.homes ∙ nodes) (λ home low high.
    let own = left.order home low high in
    let other = right.order home low (there home high) in
    same_records home (records_at b.records home) (records_at c.records home) own.homes other.homes own.ascending other.ascending
    (λ n. left.records (record { home = home; num = n }) low high ∙ sym (right.records (record { home = home; num = n }) low (there home high)))))

-- a frame that is taken isn't refused
taken_or_refused : (a b : View) (frame : Frame) (r : Refusal) → Takes a frame b → RefusesFrame a frame r → ⊥
taken_or_refused a b frame r takes (inl other) = other.1 (sym takes.taken.nodes)
taken_or_refused a b frame r takes (inr (inl gap)) = gap.2 takes.reached
taken_or_refused a b frame r takes (inr (inr bad)) = bad.3 b takes.taken takes.shape

-- a frame is refused for one cause only
one_cause : (a : View) (frame : Frame) (r s : Refusal) → RefusesFrame a frame r → RefusesFrame a frame s → r ≡ s
one_cause a frame r s (inl x) (inl y) = x.0 ∙ sym y.0
one_cause a frame r s (inl x) (inr (inl y)) = absurd (x.1 y.1)
one_cause a frame r s (inl x) (inr (inr y)) = absurd (x.1 y.1)
one_cause a frame r s (inr (inl x)) (inl y) = absurd (y.1 x.1)
one_cause a frame r s (inr (inl x)) (inr (inl y)) = x.0 ∙ sym y.0
one_cause a frame r s (inr (inl x)) (inr (inr y)) = absurd (x.2 y.2)
one_cause a frame r s (inr (inr x)) (inl y) = absurd (y.1 x.1)
one_cause a frame r s (inr (inr x)) (inr (inl y)) = absurd (y.2 x.2)
one_cause a frame r s (inr (inr x)) (inr (inr y)) = x.0 ∙ sym y.0

one_take : (a b c : View) (frame : Frame) (r s : Reply) → IsTakeReply a frame r b → IsTakeReply a frame s c → (r ≡ s) × (b ≡ c)
one_take a b c frame r s (inl x) (inl y) = (x.0 ∙ sym y.0, one_taken a b c frame x.1.taken y.1.taken)
one_take a b c frame r s (inl x) (inr (p, told, refuses, same)) = absurd (taken_or_refused a b frame p x.1 refuses)
one_take a b c frame r s (inr (p, told, refuses, same)) (inl y) = absurd (taken_or_refused a c frame p y.1 refuses)
one_take a b c frame r s (inr (p, told, refuses, same)) (inr (q, of, causes, kept)) =
    (told ∙ ap (λ (x : Refusal). Refused x) (one_cause a frame p q refuses causes) ∙ sym of, same ∙ sym kept)

pub one_next_view : (me now : ℕ) (a b c : View) (call : Call) (r s : Reply) → IsNext me a call now r b → IsNext me a call now s c → b ≡ c
one_next_view me now a b c (Enter x) r s (is, next) (so, other) = next ∙ sym other
one_next_view me now a b c (Take frame) r s is so = (one_take a b c frame r s is so).1
one_next_view me now a b c (Pull body) r s (is, next) (so, other) = next ∙ sym other
one_next_view me now a b c (Status l) r s (is, next) (so, other) = next ∙ sym other
one_next_view me now a b c (Member l m) r s (is, next) (so, other) = next ∙ sym other
one_next_view me now a b c (Page l) r s (is, next) (so, other) = next ∙ sym other
one_next_view me now a b c (Show l) r s (is, next) (so, other) = next ∙ sym other
one_next_view me now a b c (Survey l) r s (is, next) (so, other) = next ∙ sym other
one_next_view me now a b c Duties r s (is, next) (so, other) = next ∙ sym other
one_next_view me now a b c Expire r s (is, next) (so, other) = next ∙ sym other
one_next_view me now a b c (Sweep l seen) r s (is, next) (so, other) = next ∙ sym other

pub one_next_reply : (me now : ℕ) (a b c : View) (call : Call) (r s : Reply) → IsNext me a call now r b → IsNext me a call now s c → r ≡ s
one_next_reply me now a b c (Enter x) r s (is, next) (so, other) = is ∙ sym so
one_next_reply me now a b c (Take frame) r s is so = (one_take a b c frame r s is so).0
one_next_reply me now a b c (Pull body) r s (is, next) (so, other) = is ∙ sym so
one_next_reply me now a b c (Status l) r s (is, next) (so, other) = is ∙ sym so
one_next_reply me now a b c (Member l m) r s (is, next) (so, other) = is ∙ sym so
one_next_reply me now a b c (Page l) r s ((page, is, of), next) ((other, so, also), later) = is ∙ ap (λ (p : PageRows). Listed p) (one_page (by_view a) l page other of also) ∙ sym so
one_next_reply me now a b c (Show l) r s (is, next) (so, other) = is ∙ sym so
one_next_reply me now a b c (Survey l) r s ((page, is, of), next) ((other, so, also), later) =
    is ∙ ap (λ (p : PageRows). Surveyed (survey_of (tree_on a) (record_at a) p)) (one_page (by_view a) l page other of also) ∙ sym so
one_next_reply me now a b c Duties r s (is, next) (so, other) = is ∙ sym so
one_next_reply me now a b c Expire r s (is, next) (so, other) = is ∙ sym so
one_next_reply me now a b c (Sweep l seen) r s (is, next) (so, other) = is ∙ sym so
