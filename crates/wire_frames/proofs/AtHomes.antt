-- records put at their homes, one after the other, as they are read
use Rattle.std.proofs.Common.{◌≡◌, ◌≤◌, ◌<◌, ◌-◌, ◌++◌, ◌∷◌, ◌∙◌, [], ℕ, List, Option, Result, ap, arith, filter, length, subst, sym}
use Rattle.std.specs.Prelude.{◌==◌, slice_set}
use Rattle.std.specs.List.{AllByRecursion}
use Rattle.state_forest.specs.declared.merging.Told.{Told}
use Rattle.state_forest.specs.declared.record.Record.{Record}
use Rattle.theory_history.specs.Merging.{AreToldFrom}
use Rattle.theory_history.specs.Views.{records_at}
use Rattle.wire_frames.specs.declared.version.Version.{Version}
use Rattle.wire_frames.specs.declared.input.Stop.{Stop}
use Rattle.wire_frames.specs.declared.order.Last.{Last}
use Rattle.wire_frames.specs.Order.{AreInOrder, ArePut, lists, records_told}
use Rattle.wire_frames.specs.Reading.{read_record_at}
use Rattle.wire_frames.specs.Rules.{Context, by_home, start, told_context}
use Rattle.wire_frames.specs.Seen.{Reads, Seen}
use Rattle.wire_frames.proofs.Filters.{at_home}
use Rattle.wire_frames.proofs.HomeLists.{one_more_at_home}
use Rattle.wire_frames.proofs.Ordered.{before, within_at}
use Rattle.wire_frames.proofs.ToldLists.{as_many}

-- what is told of a home once some records were put
at_its_home : (n : ℕ) (ts : List Told) (done : List Record) (home : ℕ) → records_told ts ≡ by_home n done → 1 ≤ home → home ≤ n → records_at (records_told ts) home ≡ filter (λ (r : Record). r.home == home) done
at_its_home n ts done home e some few =
    ap (λ (l : List (List Record)). records_at l home) e ∙ at_home (λ (k : ℕ). filter (λ (r : Record). r.home == k) done) [] n home some few

put_more : (n : ℕ) (ts ts' : List Told) (done : List Record) (r : Record) → records_told ts ≡ by_home n done → 1 ≤ r.home → r.home ≤ n
    → records_told ts' ≡ slice_set (records_told ts) (r.home - 1) (records_at (records_told ts) r.home ++ r ∷ []) → records_told ts' ≡ by_home n (done ++ r ∷ [])
put_more n ts ts' done r e some few put =
    put ∙ ap (λ (l : List Record). slice_set (records_told ts) (r.home - 1) (l ++ r ∷ [])) (at_its_home n ts done r.home e some few)
    ∙ ap (λ (l : List (List Record)). slice_set l (r.home - 1) (filter (λ (q : Record). q.home == r.home) done ++ r ∷ [])) e
    ∙ sym (one_more_at_home n (r.home - 1) done r (omega (arith, some)))

-- the home of the next record exists
pub home_of_next : (n : ℕ) (old ts : List Told) (done : List Record) (r : Record) → ArePut n old ts done → AreInOrder n start (done ++ r ∷ []) → r.home ≤ length ts
home_of_next n old ts done r put order = omega (arith, (within_at n start done r [] order).1, as_many n ts done put.records)

-- the earlier records of its home have lower numbers
pub last_of_home : (n : ℕ) (old ts : List Told) (done : List Record) (r : Record) → ArePut n old ts done → AreInOrder n start (done ++ r ∷ [])
    → AllByRecursion (λ (q : Record). q.num < r.num) (records_at (records_told ts) r.home)
last_of_home n old ts done r put order =
    let within = within_at n start done r [] order in
    subst (λ (rs : List Record). AllByRecursion (λ (q : Record). q.num < r.num) rs) (sym (at_its_home n ts done r.home put.records within.0 within.1)) (before n start done r [] order)

pub put_next : (n : ℕ) (old ts ts' : List Told) (done : List Record) (r : Record) → ArePut n old ts done → AreInOrder n start (done ++ r ∷ []) → AreToldFrom 1 ts' → lists ts' ≡ lists ts
    → records_told ts' ≡ slice_set (records_told ts) (r.home - 1) (records_at (records_told ts) r.home ++ r ∷ []) → ArePut n old ts' (done ++ r ∷ [])
put_next n old ts ts' done r put order told held records =
    let within = within_at n start done r [] order in record {
      told = told;
      held = held ∙ put.held;
      records = put_more n ts ts' done r put.records within.0 within.1 records;
    }

-- how a record is read depends only on the live lists
pub reads_as_before : (old new : Seen) (result : Result Record Stop) (v : Version) (base front : List ℕ) (ts ts' : List Told) (last : Last) → lists ts' ≡ lists ts
    → Reads old new (λ (x : Record). x) result (read_record_at (told_context v base front ts') last) → Reads old new (λ (x : Record). x) result (read_record_at (told_context v base front ts) last)
reads_as_before old new result v base front ts ts' last e read =
    let same : told_context v base front ts' ≡ told_context v base front ts = ap (λ (l : List (Option (List ℕ))). record { version = v; base = base; front = front; lives = l }) e in
    subst (λ (k : Context). Reads old new (λ (x : Record). x) result (read_record_at k last)) same read
