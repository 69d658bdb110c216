-- Why one of the two statements that write a row fails, and what it does otherwise.
use Rattle.std.proofs.Common.{◌≡◌, ◌≢◌, ◌≤◌, ◌⊎◌, inl, inr, ℕ, List, [], ◌∷◌, true, false, Some, None, Ok, Err, Result, IsTrue, nat_le, length, refl, sym, ap, subst, ◌∙◌, arith, append-nil}
use Rattle.sqlite_disk.specs.Disk.{MoreFaults}
use Rattle.std.proofs.lemmas.Bool.{true≢false}
use Rattle.std.proofs.lemmas.Bool.Decides.{nat_tests}
use Rattle.sqlite.specs.declared.error.Error.{Error}
use Rattle.sqlite.specs.declared.error.Error.TheVariants.{SqliteFailure}
use Rattle.sqlite.specs.declared.error.ErrorCode.TheVariants as code
use Rattle.sqlite.specs.Command.{Command}
use Rattle.sqlite.specs.Command.TheVariants.{InsertOr}
use Rattle.sqlite.specs.Does.{Does, Tally}
use Rattle.sqlite.specs.Effect.{Database}
use Rattle.sqlite.specs.Listing.{understood}
use Rattle.sqlite.specs.Rows.{Outcome}
use Rattle.sqlite.specs.State.{State, Executes, ExecutesIn, ExecutesInside, EndsScope, HasCause, IsMisplaced, IsNoStatement, IsNotRun, Runs, RunsCommand, Writes, mode_of, shows_rows, store_error, text_of}
use Rattle.sqlite.specs.declared.types.Value.{Value}
use Rattle.sqlite.specs.Order.{Row}
use Rattle.sqlite.specs.Tree.{Trees}
use Rattle.sqlite.proofs.Callers.{IsPlain, command_of}
use Rattle.sqlite_resolve.specs.declared.compiled.Compiled.{Compiled}
use Rattle.sqlite_resolve.specs.declared.error.CompileError.{CompileError}
use Rattle.sqlite_schema.specs.declared.command.Conflict.{Conflict}
use Rattle.sqlite_schema.specs.declared.command.Source.{Source}
use Rattle.sqlite_schema.specs.declared.command.Upsert.{Upsert}
use Rattle.sqlite_tied.specs.Compute.{everything}
use Rattle.sqlite_trees.specs.declared.error.StoreError.{StoreError}
use Rattle.sqlite_trees.specs.declared.error.StoreError.TheVariants.{OutOfMemory, Io, Corrupt, Full, Broken, Unstorable}
use Rattle.state_journal.specs.Statements.{ComesTo, FailsFor, IsRefusedOn, Makes, on_journal, put_front, put_lra}
use Rattle.state_journal.specs.Schema.{journal_schema}
use Rattle.state_journal.specs.Tables.{IsFormed, IsJournal, IsWriting}
use Rattle.state_facts.specs.declared.refusal.Refusal.{Refusal}
use Rattle.state_facts.specs.declared.refusal.Refusal.TheVariants.{JournalFailed, NoMemory}
use Rattle.sqlite.specs.Held.{Held, state}
use Rattle.sqlite_trees.specs.declared.store.Store.{Ghosts}
use Rattle.state_journal.proofs.Texts.{put_front_is, put_lra_is}

-- the text is one statement with `count` parameters, which writes rows by INSERT .. ON CONFLICT
abbrev IsWholeOf : List ℕ → ℕ → Result Compiled CompileError → Type 0
IsWholeOf sql count (Ok c) = (nat_le (length sql) c.tail ≡ true) × (length c.names ≡ count)
IsWholeOf sql count (Err e) = ⊥

module _ (sql : List ℕ) (old new : State) (values : Row) (at : ℕ) (way : Conflict) (from : Source) (clauses : List Upsert) (has : old.now.schema ≡ journal_schema) (free : old.step_limit ≡ None)
    (is : command_of (understood journal_schema sql) ≡ InsertOr at way from clauses) (plain : IsPlain (understood journal_schema sql)) where
  known : understood old.now.schema sql ≡ understood journal_schema sql
  known = ap (λ s. understood s sql) has

  module _ (c : Compiled) (found : understood old.now.schema sql ≡ Ok c) where
    there : understood journal_schema sql ≡ Ok c
    there = sym known ∙ found

    bare : IsPlain (Ok c)
    bare = subst IsPlain there plain

    command : c.command ≡ InsertOr at way from clauses
    command = sym (ap command_of there) ∙ is

    -- the same on the tables alone
    comes : (out : Outcome (Tally × Database)) → Does old.step_limit (mode_of old) values old.now (text_of sql c) c.returning c.command out → ComesTo sql values old.now.trees out
    comes out does =
        let db : old.now ≡ on_journal old.now.trees = ap (λ s. record { schema = s; trees = old.now.trees }) has in (
          c,
          there,
          subst (λ (d : Database). Does None (mode_of old) values d (text_of sql c) c.returning c.command out) db
              (subst (λ l. Does l (mode_of old) values old.now (text_of sql c) c.returning c.command out) free does),
        )

    shows_none : shows_rows false c ≡ false
    shows_none = rw (command, bare.0) refl

  pub made : (count : ℕ) → new.now.schema ≡ journal_schema → Executes sql values old new (Ok count) → Makes sql values old.now.trees new.now.trees
  unfolding ExecutesIn
  made count then h =
      let c = h.0 in
      let found = h.1.is in
      let b = bare c found in
      let ran = rw (shows_none c found, b.1, append-nil values) at h.2 in
      let wrote : Writes old new c.returning c.command (text_of sql c) values count =
      subst (λ (k : Command). Writes old new c.returning k (text_of sql c) values count) (sym (command c found)) (subst (λ (k : Command). Runs old new c.returning k (text_of sql c) values count) (command c found) ran) in
      let after : new.now ≡ on_journal new.now.trees = ap (λ s. record { schema = s; trees = new.now.trees }) then in
      (wrote.tally, subst (λ (d : Database). ComesTo sql values old.now.trees (Ok (wrote.tally, d))) after (comes c found (Ok (wrote.tally, new.now)) wrote.changed))

  by_cause : (e : Error) (too_big : Type 0) → IsTrue old.is_open → (cause : StoreError) → e ≡ store_error cause → HasCause old new too_big cause → (too_big → IsRefusedOn sql values old.now.trees)
      → FailsFor e old.faults new.faults (IsRefusedOn sql values old.now.trees)
  by_cause e too_big on OutOfMemory is h big = inl is
  by_cause e too_big on Io is h big = inr (inl h)
  by_cause e too_big on Corrupt is h big = inr (inl h)
  by_cause e too_big on Full is h big = inr (inl h)
  by_cause e too_big on Broken is h big = absurd (true≢false (sym on ∙ h))
  by_cause e too_big on Unstorable is h big = inr (inr (big h))

  module _ (e : Error) (on : IsTrue old.is_open) (whole : IsWholeOf sql (length values) (understood journal_schema sql)) where
    no_statement : ¬ IsNoStatement old sql values e
    no_statement (inl refused) = let all = subst (IsWholeOf sql (length values)) (sym known ∙ refused.1) whole in all
    no_statement (inr refused) =
        let all : IsWholeOf sql (length values) (Ok refused.0) = subst (IsWholeOf sql (length values)) (there refused.0 refused.1) whole in
        let b = bare refused.0 refused.1 in
        elim refused.2 [
          | inl longer ↦ longer.0 (grind (arith, nat_tests, all.0))
          | inr (inl wrong) ↦ wrong.0 (sym all.1)
          | inr (inr clock) ↦ clock.0 b.1
        ]

    placed : (c : Compiled) (found : understood old.now.schema sql ≡ Ok c) → ¬ IsMisplaced old c.command e
    placed c found (inl (_, inl begins)) = let both = sym (command c found) ∙ begins.0 in cc
    placed c found (inl (_, inr (inl commits, _))) = let both = sym (command c found) ∙ commits in cc
    placed c found (inl (_, inr (inr rolls, _))) = let both = sym (command c found) ∙ rolls in cc
    placed c found (inr (_, name, inl releases, _)) = let both = sym (command c found) ∙ releases in cc
    placed c found (inr (_, name, inr goes, _)) = let both = sym (command c found) ∙ goes in cc

    stays_in : ¬ EndsScope 0 sql values old
    unfolding EndsScope
    stays_in (c, it, inl (inl commits)) = let both = sym (command c it.is) ∙ commits in cc
    stays_in (c, it, inl (inr rolls)) = let both = sym (command c it.is) ∙ rolls in cc
    stays_in (c, it, inr (name, inl releases, _)) = let both = sym (command c it.is) ∙ releases in cc
    stays_in (c, it, inr (name, inr goes, _)) = let both = sym (command c it.is) ∙ goes in cc

    ran : (c : Compiled) (found : understood old.now.schema sql ≡ Ok c) → RunsCommand old new sql c values (Err e) → FailsFor e old.faults new.faults (IsRefusedOn sql values old.now.trees)
    ran c found (inl (inl misplaced, _)) = absurd (placed c found misplaced)
    ran c found (inl (inr does, _)) = inr (inr (Some e, comes c found (Err (Some e)) does.1))
    ran c found (inr fails) = by_cause e _ on fails.0 fails.1 fails.2 (λ big. (None, comes c found (Err None) big))

    pub refused : ExecutesInside 0 sql values old new (Err e) → FailsFor e old.faults new.faults (IsRefusedOn sql values old.now.trees)
    unfolding ExecutesIn IsNotRun
    refused (inl (inl (inl none), _)) = absurd (no_statement none.0)
    refused (inl (inl (inr fails), _)) = by_cause e ⊥ on fails.0 fails.1 fails.2 (λ big. absurd big)
    refused (inl (inr h, _)) =
        let found = h.1.is in
        let b = bare h.0 found in
        ran h.0 found (rw (shows_none h.0 found, b.1, append-nil values) at h.2)
    refused (inr (ends, _, _)) = absurd (stays_in ends)

-- ---- the two statements

lra_plain : IsPlain (understood journal_schema put_lra)
unfolding understood everything
lra_plain = (refl, refl)

front_plain : IsPlain (understood journal_schema put_front)
unfolding understood everything
front_plain = (refl, refl)

lra_whole : IsWholeOf put_lra 3 (understood journal_schema put_lra)
unfolding understood everything
lra_whole = (refl, refl)

front_whole : IsWholeOf put_front 3 (understood journal_schema put_front)
unfolding understood everything
front_whole = (refl, refl)

module _ (old new : State) (a b c : Value) (has : old.now.schema ≡ journal_schema) (free : old.step_limit ≡ None) where
  pub lra_made : (count : ℕ) → new.now.schema ≡ journal_schema → Executes put_lra (a ∷ b ∷ c ∷ []) old new (Ok count) → Makes put_lra (a ∷ b ∷ c ∷ []) old.now.trees new.now.trees
  lra_made = made put_lra old new (a ∷ b ∷ c ∷ []) _ _ _ _ has free put_lra_is lra_plain

  pub lra_refused : (e : Error) → IsTrue old.is_open → ExecutesInside 0 put_lra (a ∷ b ∷ c ∷ []) old new (Err e) → FailsFor e old.faults new.faults (IsRefusedOn put_lra (a ∷ b ∷ c ∷ []) old.now.trees)
  lra_refused e on = refused put_lra old new (a ∷ b ∷ c ∷ []) _ _ _ _ has free put_lra_is lra_plain e on lra_whole

  pub front_refused : (e : Error) → IsTrue old.is_open → ExecutesInside 0 put_front (a ∷ b ∷ c ∷ []) old new (Err e) → FailsFor e old.faults new.faults (IsRefusedOn put_front (a ∷ b ∷ c ∷ []) old.now.trees)
  front_refused e on = refused put_front old new (a ∷ b ∷ c ∷ []) _ _ _ _ has free put_front_is front_plain e on front_whole

-- ---- a fault in a sequence of steps

-- a fault in the second of two steps is a fault in both together
pub more_since : (a b c : ℕ) → a ≤ b → MoreFaults b c → MoreFaults a c
more_since a b c up more = omega (arith, up, more)

-- and so is a fault in the first of them
pub more_until : (a b c : ℕ) → b ≤ c → MoreFaults a b → MoreFaults a c
more_until a b c up more = omega (arith, up, more)

pub failed_since : (e : Error) (a b c : ℕ) (P Q : Type 0) → a ≤ b → (P → Q) → FailsFor e b c P → FailsFor e a c Q
failed_since e a b c P Q up then (inl memory) = inl memory
failed_since e a b c P Q up then (inr (inl more)) = inr (inl (more_since a b c up more))
failed_since e a b c P Q up then (inr (inr why)) = inr (inr (then why))

-- a SELECT before them fails only for the first two of these causes
pub asked_first : (e : Error) (a b : ℕ) (P : Type 0) → (e ≡ SqliteFailure code.OutOfMemory) ⊎ MoreFaults a b → FailsFor e a b P
asked_first e a b P (inl memory) = inl memory
asked_first e a b P (inr more) = inr (inl more)

-- and it leaves the transaction as it was
pub writing_still : (old new : State) → IsWriting old → IsTrue new.is_open → new.in_transaction ≡ true → new.now ≡ old.now → IsWriting new
writing_still old new was still inside same = record {
  is_open = still;
  inside = inside;
  schema = ap (λ (d : Database). d.schema) same ∙ was.schema;
  formed = subst (λ (d : Database). IsFormed d.trees) (sym same) was.formed;
}

-- ---- in a transaction that has begun, and after it

module _ {S : Type 0} (g : Ghosts S) (c b : Held S) where
  pub begun_writing : b ≡ record c { in_transaction = true } → IsJournal (state g c) → IsWriting (state g b)
  begun_writing is was = subst (λ (h : Held S). IsWriting (state g h)) (sym is) (record { is_open = was.is_open; inside = refl; schema = was.schema; formed = was.formed })

  pub begun_free : b ≡ record c { in_transaction = true } → (state g c).step_limit ≡ None → (state g b).step_limit ≡ None
  begun_free is free = subst (λ (h : Held S). (state g h).step_limit ≡ None) (sym is) free

  pub begun_failed : (e : Error) (mid new : ℕ) (P : Trees → Type 0) → b ≡ record c { in_transaction = true } → mid ≤ new → FailsFor e (state g b).faults mid (P (state g b).now.trees)
      → FailsFor e (state g c).faults new (P (state g c).now.trees)
  begun_failed e mid new P is up failed = later (subst (λ (h : Held S). FailsFor e (state g h).faults mid (P (state g h).now.trees)) is failed)
    where
      later : FailsFor e (state g c).faults mid (P (state g c).now.trees) → FailsFor e (state g c).faults new (P (state g c).now.trees)
      later (inl memory) = inl memory
      later (inr (inl more)) = inr (inl (more_until _ mid new up more))
      later (inr (inr why)) = inr (inr why)

-- and if it is reported as E18, it has one of the other two causes
pub told_so : (refusal : Refusal) (e : Error) (a b : ℕ) (P : Type 0)
    → ((refusal ≡ NoMemory) × (e ≡ SqliteFailure code.OutOfMemory)) ⊎ ((refusal ≡ JournalFailed) × (e ≢ SqliteFailure code.OutOfMemory))
    → refusal ≡ JournalFailed → FailsFor e a b P → MoreFaults a b ⊎ P
told_so refusal e a b P (inl none) is failed = absurd (let both = sym none.0 ∙ is in cc)
told_so refusal e a b P (inr told) is (inl memory) = absurd (told.1 memory)
told_so refusal e a b P (inr told) is (inr why) = why
