use Rattle.std.proofs.Common.{◌≡◌, sym, subst, ◌∙◌, ℕ, Option, Some, None, length}
use Rattle.state_ids.specs.Ids.{Id}
use Rattle.theory_history.specs.Readings.{by_view}
use Rattle.state_replica.specs.Replicas.{view_of}
use Rattle.theory_history.specs.Replies.{Reading}
use Rattle.state_replica.specs.Pages.{IsFirstBeyond, IsNext, IsNextAt}
use Rattle.state_replica.proofs.Paging.{first_of_all, kept_within, next_same, next_other}
use Rattle.state_replica.proofs.replica.Replica.next_after.Goals as goal

-- the next LRA after the home and number of an LRA
next_of : (t : Reading) (id : Id) (home num : ℕ) (o : Option Id) → home ≡ id.home → num ≡ id.num → IsNextAt t home num o → IsNextAt t id.home id.num o
next_of t id home num o homes nums next = subst (λ (h : ℕ). IsNextAt t h id.num o) homes (subst (λ (n : ℕ). IsNextAt t home n o) nums next)

pub returns-in_default : goal.returns-in_default
returns-in_default c =
    subst (λ (after : Option Id). IsNext (by_view (view_of c.args.self.now)) after c.first_beyond.result) (sym c.in_default.is)
    (first_of_all (by_view (view_of c.args.self.now)) (length c.args.self.now.front) c.first_beyond.result (kept_within c.args.self.now c.first_beyond.ensures.state) c.first_beyond.ensures.first)

pub returns-in-None : goal.returns-in-None
returns-in-None c =
    let next = next_of (by_view (view_of c.args.self.now)) c.in-Some.id c.home.result c.num.result None c.home.ensures.value c.num.ensures.value (c.in-None.ensures) in
    let home : c.from.result ≡ c.in-Some.id.home = c.from.ensures ∙ c.number.ensures.value ∙ c.home-in-None.ensures.value in
    subst (λ (after : Option Id). IsNext (by_view (view_of c.args.self.now)) after c.first_beyond-in-None.result) (sym c.in-Some.is)
    (next_other (by_view (view_of c.args.self.now)) c.in-Some.id c.first_beyond-in-None.result next
    (subst (λ (h : ℕ). IsFirstBeyond (by_view (view_of c.args.self.now)) h c.first_beyond-in-None.result) home (c.first_beyond-in-None.ensures.first)))

pub returns-in-Some-next_at : goal.returns-in-Some-next_at
returns-in-Some-next_at c =
    let next = next_of (by_view (view_of c.args.self.now)) c.in-Some.id c.home.result c.num.result (Some c.in-Some-next_at.next) c.home.ensures.value c.num.ensures.value (c.in-Some-next_at.ensures) in
    subst (λ (after : Option Id). IsNext (by_view (view_of c.args.self.now)) after (Some c.in-Some-next_at.next)) (sym c.in-Some.is) (next_same (by_view (view_of c.args.self.now)) c.in-Some.id c.in-Some-next_at.next next)
