-- What is held of LRAs is what their set says.
use Rattle.std.proofs.Common.{◌≡◌, ◌≤◌, ◌∙◌, ◌++◌, ◌∷◌, ℕ, zero, suc, Bool, true, false, List, [], Option, Some, None, Result, Ok, Err, cond, refl, sym, ap, is_some, length}
use Rattle.std.specs.List.{AllByRecursion}
use Rattle.std.specs.Option.{option_map_or}
use Rattle.state_ids.specs.Ids.{Id, is_fact_number}
use Rattle.state_ids.specs.declared.status.LraStatus.{LraStatus}
use Rattle.state_ids.specs.declared.status.MemberStatus.{MemberStatus}
use Rattle.state_facts.specs.declared.fact.Fact.{Fact}
use Rattle.state_facts.specs.declared.refusal.Refusal.{Refusal}
use Rattle.state_facts.specs.declared.refusal.Refusal.TheVariants.{NotHeld}
use Rattle.state_facts.specs.Refusals.{first, unknown, unless}
use Rattle.state_facts.specs.Sets.{is_held, shows_now}
use Rattle.state_forest.specs.declared.record.Record.{Record}
use Rattle.state_forest.specs.Records.{record_of}
use Rattle.state_forest.specs.Trees.{tree_shows}
use Rattle.state_forest.proofs.Bools.{and_right}
use Rattle.state_facts.specs.declared.command.Command.TheVariants.{Purge}
use Rattle.state_facts.specs.declared.command.CommandReply.{CommandReply}
use Rattle.theory_history.specs.Growth.{IsSettled}
use Rattle.theory_history.specs.Next.{member_shown_on, reply_on, shown_on}
use Rattle.theory_history.specs.Readings.{by_view}
use Rattle.theory_history.specs.Replies.{member_shown, reply_of, shown_of}
use Rattle.theory_history.specs.Views.{StandsFor, View, record_at}
use Rattle.theory_history.proofs.SameReadings.{has_record, stands_at}
use Rattle.theory_history.proofs.ViewReplies.{view_law}
use Rattle.state_replica.specs.declared.page.Row.{Row}
use Rattle.state_replica.specs.Pages.{IsRow}
use Rattle.state_replica.proofs.PreparedReplies.{member_settled, shown_settled}
use Rattle.state_book.specs.declared.holdings.Summary.{Summary}
use Rattle.state_book.specs.declared.calls.Reply.TheVariants.{Held}
use Rattle.state_book.specs.Holdings.{holding_of, shown_in, statuses_of, summaries_of, summary_of}
use Rattle.state_book.specs.Next.{held_reply, record_reply}
use Rattle.state_book.specs.OfSets.{record_reply_of}
use Rattle.state_book.specs.Trees.{tree_on}
use Rattle.state_book.proofs.TreesOfSets.{tree_alike}

-- the record of an LRA that the set holds is the set's
found : (S : List Fact) (a : View) (l : Id) → StandsFor S a → is_held S l ≡ true → record_at a l ≡ Some (record_of (length a.front) S l)
found S a l stands held = stands_at S a l stands held l refl ∙ ap (λ (b : Bool). cond b (Some (record_of (length a.front) S l)) None) held

-- an LRA that shows something is held
shows_held : (S : List Fact) (front : List ℕ) (l : Id) (status : LraStatus) → shown_of S front l ≡ Ok status → is_held S l ≡ true
shows_held S front l status = by (unknown front l) (is_held S l)
  where
    by : (o : Option Refusal) (b : Bool) → option_map_or (λ (r : Refusal). Err r) (first (o ∷ unless b NotHeld ∷ [])) (Ok (shows_now S l)) ≡ Ok status → b ≡ true
    by (Some r) b e = absurd cc
    by None true e = refl
    by None false e = absurd cc

-- two functions that agree on each number show the same statuses
same_statuses : (f g : ℕ → Result MemberStatus Refusal) → ((m : ℕ) → f m ≡ g m) → (n : ℕ) → statuses_of f n ≡ statuses_of g n
same_statuses f g same zero = refl
same_statuses f g same (suc n) =
    ap (λ (xs : List (Option MemberStatus)). xs ++ shown_in (f (suc n)) ∷ []) (same_statuses f g same n)
    ∙ ap (λ (r : Result MemberStatus Refusal). statuses_of g n ++ shown_in r ∷ []) (same (suc n))

held_of : (l : Id) (status : LraStatus) (f g : ℕ → Result MemberStatus Refusal) (p q : CommandReply) (o : Option Record) (r : Record) → ((m : ℕ) → f m ≡ g m) → p ≡ q → o ≡ Some r
    → held_reply l status f p o ≡ Held (holding_of l status r g q)
held_of l status f g p q o r same purge is =
    ap (held_reply l status f p) is
    ∙ ap (λ (xs : List (Option MemberStatus)). Held (record { id = l; status = status; «record» = r; members = xs; purge = p })) (same_statuses f g same (length r.members))
    ∙ ap (λ (x : CommandReply). Held (holding_of l status r g x)) purge

pub record_of_set : (S : List Fact) (a : View) (me : ℕ) (l : Id) → IsSettled S → StandsFor S a → 1 ≤ me → me ≤ length a.front
    → record_reply a me l (shown_on a l) ≡ record_reply_of S a.front me l (shown_of S a.front l)
record_of_set S a me l settled stands some there = ap (record_reply a me l) (shown_settled S a l settled stands) ∙ by (shown_of S a.front l) refl
  where
    by : (o : Result LraStatus Refusal) → shown_of S a.front l ≡ o → record_reply a me l o ≡ record_reply_of S a.front me l o
    by (Err r) e = refl
    by (Ok status) e =
        held_of l status (member_shown_on a l) (member_shown S a.front l) (reply_on a me (Purge l)) (reply_of S a.front me (Purge l)) (record_at a l) (record_of (length a.front) S l)
        (λ m. member_settled S a l m settled stands) (view_law S a me (Purge l) some there settled stands).0 (found S a l stands (shows_held S a.front l status e))

-- each row has what its tree shows by the set, and what the set's record says
pub rows_of_set : (S : List Fact) (a : View) (after : Option Id) (rows : List Row) → IsSettled S → StandsFor S a → AllByRecursion (IsRow (by_view a) after) rows
    → summaries_of (tree_on a) (record_at a) rows ≡ summaries_of (tree_shows S) (λ l. Some (record_of (length a.front) S l)) rows
rows_of_set S a after [] settled stands all = refl
rows_of_set S a after (row ∷ rows) settled stands all =
    let held : is_held S row.id ≡ true = sym (has_record S a row.id stands) ∙ and_right (is_fact_number row.id.num) (is_some (record_at a row.id)) all.0.held in
    let record_is : Option Record = Some (record_of (length a.front) S row.id) in
    ap (λ (o : Option Record). summary_of row (tree_on a row.id) o ∷ summaries_of (tree_on a) (record_at a) rows) (found S a row.id stands held)
    ∙ ap (λ (s : LraStatus). summary_of row s record_is ∷ summaries_of (tree_on a) (record_at a) rows) (tree_alike S a row.id settled stands held)
    ∙ ap (λ (xs : List Summary). summary_of row (tree_shows S row.id) record_is ∷ xs) (rows_of_set S a after rows settled stands all.1)
