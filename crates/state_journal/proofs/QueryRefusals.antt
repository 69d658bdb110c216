-- Why one of the two SELECTs fails: memory runs out, or the database refuses.
use Rattle.std.proofs.Common.{◌≡◌, ◌⊎◌, inl, inr, ℕ, List, [], true, false, Option, None, Ok, Err, Result, IsTrue, nat_le, length, refl, sym, ap, subst, subst₂, ◌∙◌, arith, append-nil}
use Rattle.std.specs.Prelude.{IfErr, IsSome}
use Rattle.sqlite_disk.specs.Disk.{MoreFaults}
use Rattle.std.proofs.lemmas.Bool.{true≢false}
use Rattle.std.proofs.lemmas.Bool.Decides.{nat_tests}
use Rattle.sqlite.specs.declared.error.Error.{Error}
use Rattle.sqlite.specs.declared.error.Error.TheVariants.{SqliteFailure}
use Rattle.sqlite.specs.declared.error.ErrorCode.TheVariants as code
use Rattle.sqlite.specs.Command.TheVariants.{Select}
use Rattle.sqlite.specs.Effect.{Database, RefusesQuery, RefusesToRead}
use Rattle.sqlite.specs.Listing.{understood, reads_listing, IsSourceOf}
use Rattle.sqlite.specs.Query.{Query}
use Rattle.sqlite.specs.State.{State, FailsToQuery, HasCause, IsNoStatement, IsNotRun, IsTooLate, Shown, ShowsRows, store_error}
use Rattle.sqlite.specs.Order.{Row}
use Rattle.sqlite.specs.Tree.{Trees}
use Rattle.sqlite.specs.Clock.{timed}
use Rattle.sqlite.proofs.Callers.{IsPlain, command_of}
use Rattle.sqlite_resolve.specs.declared.compiled.Compiled.{Compiled}
use Rattle.sqlite_resolve.specs.declared.error.CompileError.{CompileError}
use Rattle.sqlite_schema.specs.declared.schema.Schema.{Schema}
use Rattle.sqlite_sql.specs.Program.{ProgramOverflows}
use Rattle.sqlite_tied.specs.Compute.{everything}
use Rattle.sqlite_trees.specs.declared.error.StoreError.{StoreError}
use Rattle.sqlite_trees.specs.declared.error.StoreError.TheVariants.{OutOfMemory, Io, Corrupt, Full, Broken, Unstorable}
use Rattle.state_journal.specs.Schema.{journal_schema}
use Rattle.state_journal.proofs.Texts.{front_query, lra_query, program, select_front, select_front_is, select_lra, select_lra_is}
use Rattle.state_journal.proofs.Listed.{front_plain, front_unlisted, lra_plain, lra_unlisted}

abbrev OutOf : Error → Type 0
OutOf e = e ≡ SqliteFailure code.OutOfMemory

-- the text is one statement, without parameters
abbrev IsWhole : List ℕ → Result Compiled CompileError → Type 0
IsWhole sql (Ok c) = (nat_le (length sql) c.tail ≡ true) × (c.names ≡ [])
IsWhole sql (Err e) = ⊥

module _ (old new : State) (e : Error) (on : IsTrue old.is_open) (free : old.step_limit ≡ None) where
  by_cause : (cause : StoreError) → e ≡ store_error cause → HasCause old new ⊥ cause → OutOf e ⊎ MoreFaults old.faults new.faults
  by_cause OutOfMemory is h = inl is
  by_cause Io is h = inr h
  by_cause Corrupt is h = inr h
  by_cause Full is h = inr h
  by_cause Broken is h = absurd (true≢false (sym on ∙ h))
  by_cause Unstorable is h = absurd h

  module _ (sql : List ℕ) (q : Query) (names : List (List ℕ)) (schema : Schema) (is : command_of (understood schema sql) ≡ Select (program q) names) (plain : IsPlain (understood schema sql))
      (whole : IsWhole sql (understood schema sql)) (unlisted : reads_listing schema sql ≡ false)
      (limits : (limit : Option ℕ) (db : Database) → db.schema ≡ schema → RefusesQuery limit db (program q) [] e → IsSome limit) (has : old.now.schema ≡ schema) where
    known : understood old.now.schema sql ≡ understood schema sql
    known = ap (λ s. understood s sql) has

    is_statement : ¬ IsNoStatement old sql [] e
    is_statement (inl refused) = let all = subst (IsWhole sql) (sym known ∙ refused.1) whole in all
    is_statement (inr refused) =
        let is_c : understood schema sql ≡ Ok refused.0 = sym known ∙ refused.1 in
        let all : IsWhole sql (Ok refused.0) = subst (IsWhole sql) is_c whole in
        let bare : IsPlain (Ok refused.0) = subst IsPlain is_c plain in
        elim refused.2 [
          | inl longer ↦ longer.0 (grind (arith, nat_tests, all.0))
          | inr (inl wrong) ↦ wrong.0 (sym (ap (λ (l : List (List ℕ)). length l) all.1))
          | inr (inr clock) ↦ clock.0 bare.1
        ]

    pub why : FailsToQuery sql [] old new e ⊎ IsTooLate sql [] old new e → OutOf e ⊎ MoreFaults old.faults new.faults
    unfolding FailsToQuery IsNotRun
    why (inl (inl (inl none))) = absurd (is_statement none.0)
    why (inl (inl (inr failed))) = by_cause failed.0 failed.1 failed.2
    why (inl (inr h)) =
        let same = sym h.1.is ∙ known in
        let bare = subst IsPlain (sym same) plain in
        let it = rw (bare.0, bare.1, append-nil []) at h.2 in
        let db : it.0 ≡ old.now = subst (λ b. IsSourceOf b old.now it.0) (ap (λ s. reads_listing s sql) has ∙ unlisted) it.1 in
        let limited = limits old.step_limit old.now has (subst₂ (λ k d. RefusesToRead old.step_limit k d [] e) (ap command_of same ∙ is) db it.2) in
        absurd (true≢false (sym (rw free at limited)))
    why (inr late) =
        let same = sym late.1.is ∙ known in
        let bare = subst IsPlain (sym same) plain in
        absurd (true≢false (sym (rw bare.0 at late.2)))

-- ---- the two SELECTs

front_whole : IsWhole select_front (understood journal_schema select_front)
unfolding understood everything
front_whole = (refl, refl)

lra_whole : IsWhole select_lra (understood journal_schema select_lra)
unfolding understood everything
lra_whole = (refl, refl)

front_flows : (db : Trees) → ¬ ProgramOverflows db [] [] [] front_query
front_flows db (inl none) = none
front_flows db (inr some) = some.4

lra_flows : (db : Trees) → ¬ ProgramOverflows db [] [] [] lra_query
lra_flows db (inl none) = none
lra_flows db (inr some) = some.4

-- a database with these tables refuses the SELECTs only for the steps that they take
front_limits : (e : Error) (limit : Option ℕ) (db : Database) → db.schema ≡ journal_schema → RefusesQuery limit db (program front_query) [] e → IsSome limit
unfolding everything
front_limits e limit db has (inl mistyped) = absurd (true≢false (rw has at mistyped.1))
front_limits e limit db has (inr (inl overflows)) = absurd (front_flows db.trees overflows.1)
front_limits e limit db has (inr (inr limited)) = limited.1

lra_limits : (e : Error) (limit : Option ℕ) (db : Database) → db.schema ≡ journal_schema → RefusesQuery limit db (program lra_query) [] e → IsSome limit
unfolding everything
lra_limits e limit db has (inl mistyped) = absurd (true≢false (rw has at mistyped.1))
lra_limits e limit db has (inr (inl overflows)) = absurd (lra_flows db.trees overflows.1)
lra_limits e limit db has (inr (inr limited)) = limited.1

module _ (old new : State) (e : Error) (on : IsTrue old.is_open) (has : old.now.schema ≡ journal_schema) (free : old.step_limit ≡ None) where
  pub front_refused : FailsToQuery select_front [] old new e ⊎ IsTooLate select_front [] old new e → OutOf e ⊎ MoreFaults old.faults new.faults
  front_refused = why old new e on free select_front front_query _ journal_schema select_front_is front_plain front_whole front_unlisted (front_limits e) has

  pub lra_refused : FailsToQuery select_lra [] old new e ⊎ IsTooLate select_lra [] old new e → OutOf e ⊎ MoreFaults old.faults new.faults
  lra_refused = why old new e on free select_lra lra_query _ journal_schema select_lra_is lra_plain lra_whole lra_unlisted (lra_limits e) has

-- the connection of a SELECT that shows rows is open
pub shown_still : (old new : State) (rows : List Row) → old.now.schema ≡ journal_schema → Shown select_front [] old new rows → IsTrue new.is_open
unfolding Shown
shown_still old new rows has h =
    let known = sym h.1.is ∙ ap (λ s. understood s select_front) has in
    let bare = subst IsPlain (sym known) front_plain in
    let it = subst (ShowsRows old new select_front h.0 (timed [] h.0.formats h.1.now) rows) bare.0 h.2 in
    it.3.0.is_open

pub if_err : {X E : Type 0} (r : Result X E) (P Q : E → Type 0) → ((e : E) → P e → Q e) → IfErr r P → IfErr r Q
if_err (Ok x) P Q all h = h
if_err (Err e) P Q all h = all e h
