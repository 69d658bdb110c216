-- What the two CREATEs do, and when they can't be done.
use Rattle.std.proofs.Common.{◌≡◌, ℕ, List, [], Bool, true, false, None, Ok, Err, Result, refl, sym, ap, subst, ◌∙◌}
use Rattle.sqlite.specs.Command.TheVariants.{CreateTable}
use Rattle.sqlite.specs.Compile.{table_defined_by}
use Rattle.sqlite.specs.Change.{created, next_tree}
use Rattle.sqlite.specs.Table.{Table}
use Rattle.sqlite.specs.Schema.{Schema}
use Rattle.sqlite.specs.Order.{Row}
use Rattle.sqlite.specs.Does.{Tally, lacks_sequence}
use Rattle.sqlite.specs.Effect.{Database}
use Rattle.sqlite.specs.Listing.{understood, listing_schema}
use Rattle.sqlite.specs.State.{State, Executes, ExecutesIn, Writes, Shown}
use Rattle.std.proofs.lemmas.Bool.{true≢false}
use Rattle.sqlite_tied.specs.Compute.{everything}
use Rattle.sqlite_catalog.specs.Change.{is_used, KeepsRows}
use Rattle.sqlite.proofs.Callers.{IsPlain, command_of, statement_of, runs_as}
use Rattle.sqlite_resolve.specs.declared.compiled.Compiled.{Compiled}
use Rattle.sqlite_resolve.specs.declared.error.CompileError.{CompileError}
use Rattle.state_journal.specs.Schema.{no_schema, front_schema, journal_schema, front_tree, lra_tree}
use Rattle.state_journal.proofs.Texts.{create_front, create_lra, create_front_is, create_lra_is, select_front}
use Rattle.state_journal.proofs.Upserts.{went, same_value}

-- ---- a CREATE TABLE whose text is written out

module _ (text : List ℕ) (schema : Schema) (table : Table) (defined : table_defined_by text ≡ Ok table)
    (makes_table : command_of (understood schema text) ≡ CreateTable) (whole : statement_of text (understood schema text) ≡ text) (plain : IsPlain (understood schema text))
    (old new : State) (count : ℕ) (has : old.now.schema ≡ schema) (h : Executes text [] old new (Ok count)) where
  record Makes : Type 0 where
    pub after : Database
    pub now : lacks_sequence after.schema ≡ false → new.now ≡ after
    pub is : after.schema ≡ created schema table
    pub free : is_used schema table.name ≡ false
    pub empty : after.trees (next_tree schema) ≡ []
    pub others : KeepsRows schema.tables old.now.trees after.trees

  makes : Makes
  makes =
      let w = subst (λ t. Writes old new None CreateTable t [] count) whole (runs_as text [] old new schema has CreateTable makes_table plain count h) in
      let all = went w.changed in
      let first = went all.1 in
      let made = first.1 in
      let both : Ok made.table ≡ Ok table = sym made.defined ∙ defined in
      let same : made.table ≡ table = same_value both in
      record {
        after = first.0;
        now = λ counted. ap (λ (p : Tally × Database). p.1) (same_value all.2) ∙ same_value (rw counted at first.2);
        is = made.is ∙ ap (λ s. created s made.table) has ∙ ap (created schema) same;
        free = subst (λ s. is_used s table.name ≡ false) has (subst (λ t. is_used old.now.schema t.name ≡ false) same made.free);
        empty = subst (λ s. first.0.trees (next_tree s) ≡ []) has made.empty;
        others = subst (λ s. KeepsRows s.tables old.now.trees first.0.trees) has made.others;
      }

-- ---- the two CREATEs of the journal

create_front_none : (command_of (understood no_schema create_front) ≡ CreateTable) × (statement_of create_front (understood no_schema create_front) ≡ create_front)
unfolding understood everything
create_front_none = (refl, refl)

create_front_plain : IsPlain (understood no_schema create_front)
unfolding understood everything
create_front_plain = (refl, refl)

create_lra_next : (command_of (understood front_schema create_lra) ≡ CreateTable) × (statement_of create_lra (understood front_schema create_lra) ≡ create_lra)
unfolding understood everything
create_lra_next = (refl, refl)

create_lra_plain : IsPlain (understood front_schema create_lra)
unfolding understood everything
create_lra_plain = (refl, refl)

module _ (old new : State) (count : ℕ) where
  pub front_made_new : old.now.schema ≡ no_schema → Executes create_front [] old new (Ok count) → (new.now.schema ≡ front_schema) × (new.now.trees front_tree ≡ [])
  front_made_new has h =
      let made = makes create_front no_schema _ create_front_is create_front_none.0 create_front_none.1 create_front_plain old new count has h in
      let now : new.now ≡ made.after = made.now (ap lacks_sequence made.is) in
      (ap (λ (d : Database). d.schema) now ∙ made.is, ap (λ (d : Database). d.trees 0) now ∙ made.empty)

  pub lra_made_new : old.now.schema ≡ front_schema → Executes create_lra [] old new (Ok count)
      → (new.now.schema ≡ journal_schema) × (new.now.trees lra_tree ≡ []) × (new.now.trees front_tree ≡ old.now.trees front_tree)
  lra_made_new has h =
      let made = makes create_lra front_schema _ create_lra_is create_lra_next.0 create_lra_next.1 create_lra_plain old new count has h in
      let now : new.now ≡ made.after = made.now (ap lacks_sequence made.is) in
      (ap (λ (d : Database). d.schema) now ∙ made.is, ap (λ (d : Database). d.trees 1) now ∙ made.empty, ap (λ (d : Database). d.trees 0) now ∙ made.others.0)

-- ---- if they aren't understood

abbrev is_understood : Result Compiled CompileError → Bool
is_understood (Ok c) = true
is_understood (Err e) = false

front_is_there : is_understood (understood journal_schema create_front) ≡ false
unfolding understood everything
front_is_there = refl

nothing_to_show : is_understood (understood no_schema select_front) ≡ false
unfolding understood everything listing_schema
nothing_to_show = refl

-- a text that isn't understood is no statement
no_statement : (schema : Schema) (text : List ℕ) (c : Compiled) → is_understood (understood schema text) ≡ false → ¬ (understood schema text ≡ Ok c)
no_statement schema text c not is = true≢false (sym (ap is_understood is) ∙ not)

pub front_not_again : (old new : State) (count : ℕ) → old.now.schema ≡ journal_schema → ¬ Executes create_front [] old new (Ok count)
unfolding ExecutesIn
front_not_again old new count has h = no_statement journal_schema create_front h.0 front_is_there (subst (λ s. understood s create_front ≡ Ok h.0) has h.1.is)

pub none_shown : (old new : State) (rows : List Row) → old.now.schema ≡ no_schema → ¬ Shown select_front [] old new rows
unfolding Shown
none_shown old new rows has h = no_statement no_schema select_front h.0 nothing_to_show (subst (λ s. understood s select_front ≡ Ok h.0) has h.1.is)
