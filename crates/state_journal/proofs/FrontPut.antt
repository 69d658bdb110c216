-- What the upsert on `front` does.
use Rattle.std.proofs.Common.{◌≡◌, ◌⊎◌, inl, inr, ℕ, ℤ, pos, List, [], ◌∷◌, ◌++◌, map, drop, true, false, ◌&&◌, ◌||◌, Option, Some, Ok, refl, sym, ap, subst, ◌∙◌, arith, is_eq}
use Rattle.std.specs.List.{list_all}
use Rattle.sqlite_rules.proofs.ListLemmas.{some_from}
use Rattle.std.proofs.lemmas.Bool.{not-true, and_parts, and_from, or_cases, false_from_ne_true, true≢false}
use Rattle.sqlite.specs.declared.types.Value.TheVariants.{Null, Int}
use Rattle.sqlite.specs.Order.{Row, value_cmp, column}
use Rattle.sqlite.specs.Tree.{Trees, rowid, has_rowid}
use Rattle.sqlite.specs.Term.{holds, eval_all}
use Rattle.sqlite_value.specs.Keys.{first_key}
use Rattle.sqlite.specs.Effect.{Answers}
use Rattle.sqlite.specs.Edit.{are_fresh, without_all, put_all, id_in, edit_of, Applies}
use Rattle.sqlite.specs.Rowids.TheVariants.{Given}
use Rattle.sqlite.specs.Cast.{cast_row}
use Rattle.sqlite_rules.specs.Keys.{conflicts, AreConflicts}
use Rattle.sqlite_rules.specs.Calls.{ids_of}
use Rattle.sqlite_rules.specs.Lists.{Has}
use Rattle.sqlite_schema.specs.declared.schema.Keys.{Keys}
use Rattle.sqlite_rules.proofs.TableLemmas.{put_all_has, put_all_keeps, put_all_adds}
use Rattle.sqlite.specs.Rows.{Task, Written, Puts, Clears, Updates, Upserts, Meets, shown}
use Rattle.sqlite_schema.specs.declared.command.Conflict.TheVariants.{Abort}
use Rattle.sqlite_schema.specs.declared.command.Upsert.{Upsert}
use Rattle.sqlite.proofs.Callers.{one_step}
use Rattle.state_journal.specs.Schema.{front_table, lra_index, journal_schema}
use Rattle.state_journal.specs.Tables.{front_row, IsFrontRow, IsFrontFormed, IsLraRow, IsFormed, SetsFront}
use Rattle.state_journal.proofs.Texts.{program, front_update}
use Rattle.state_journal.proofs.Members.{has_mapped, mapped_has, left_has, has_left_over, numbered_given}
use Rattle.state_journal.proofs.Upserts.{went, same_value, cast_int, cast_null, shown_has, has_shown}
use Rattle.state_journal.proofs.LraDelete.{tied_int, int_tied, equal_int, pos_same, int_same}

-- rows of `lra` that did not change are formed as they were
formed_lra : (db next : Trees) → IsFormed db → next 1 ≡ db 1 → IsFrontFormed (next 0) → IsFormed next
formed_lra db next formed lra front = record {
  front = front;
  each = subst (λ rows. (row : Row) → Has rows row → IsLraRow row) (sym lra) formed.each;
  apart = subst (λ rows. (a b : Row) → Has rows a → Has rows b → rowid a ≡ rowid b → a ≡ b) (sym lra) formed.apart;
  one = subst (λ rows. (a b : Row) → Has rows a → Has rows b → column a 1 ≡ column b 1 → column a 2 ≡ column b 2 → a ≡ b) (sym lra) formed.one;
}

abbrev IsOrigin : ℕ → Row → Type 0
IsOrigin origin x = rowid x ≡ Int (pos origin)

-- one row is written, in place of the one with its origin
module _ (db next : Trees) (origin : ℕ) (held purged : ℤ) (formed : IsFormed db) (lra : next 1 ≡ db 1)
    (here : Has (next 0) (front_row origin held purged))
    (out : (x : Row) → Has (next 0) x → (x ≡ front_row origin held purged) ⊎ (Has (db 0) x × ¬ IsOrigin origin x))
    (keep : (x : Row) → Has (db 0) x → ¬ IsOrigin origin x → Has (next 0) x) where
  each : (x : Row) → Has (next 0) x → IsFrontRow x
  each x h = elim (out x h) [ inl new ↦ record { origin = origin; held = held; purged = purged; is = new } | inr was ↦ formed.front.each x was.0 ]

  apart : (a b : Row) → Has (next 0) a → Has (next 0) b → rowid a ≡ rowid b → a ≡ b
  apart a b p q same = elim (out a p) [
    | inl new ↦ elim (out b q) [ inl too ↦ new ∙ sym too | inr was ↦ absurd (was.1 (sym same ∙ ap rowid new)) ]
    | inr was ↦ elim (out b q) [ inl new ↦ absurd (was.1 (same ∙ ap rowid new)) | inr too ↦ formed.front.apart a b was.0 too.0 same ]
  ]

  pub replaced : SetsFront origin held purged db next
  replaced = record {
    lra = lra;
    formed = formed_lra db next formed lra (record { each = each; apart = apart });
    there = λ h p. (
      λ has. elim (out _ has) [ inl new ↦ (let a : h ≡ held = cc in a, let b : p ≡ purged = cc in b) | inr was ↦ absurd (was.1 refl) ],
      λ is. subst (λ h. Has (next 0) (front_row origin h p)) (sym is.0) (subst (λ p. Has (next 0) (front_row origin held p)) (sym is.1) here),
    );
    others = λ o h p other. (
      λ has. elim (out _ has) [ inl new ↦ absurd (other (let a : o ≡ origin = cc in a)) | inr was ↦ was.0 ],
      λ has. keep _ has (λ at. other (pos_same _ _ (int_same _ _ at))),
    );
  }

-- a row has the origin of the new one
conflict_is : (o : ℕ) (h p : ℤ) (origin : ℕ) (held purged : ℤ) → conflicts (Some (0 ∷ [])) (lra_index ∷ []) front_table (front_row origin held purged) (front_row o h p)
    ≡ ((is_eq (value_cmp (Int (pos o)) (Int (pos origin))) && true) || false)
unfolding first_key
conflict_is o h p origin held purged = rw (equal_int (pos o) (pos origin)) refl

conflict_at : (o : ℕ) (h p : ℤ) (origin : ℕ) (held purged : ℤ) → conflicts (Some (0 ∷ [])) (lra_index ∷ []) front_table (front_row origin held purged) (front_row o h p) ≡ true → o ≡ origin
conflict_at o h p origin held purged is =
    elim (or_cases _ _ (sym (conflict_is o h p origin held purged) ∙ is)) [
      | inl both ↦ pos_same _ _ (tied_int _ _ (and_parts _ _ both).0)
      | inr none ↦ absurd (true≢false (sym none))
    ]

pub cast_front : (origin : ℕ) (held purged : ℤ) → cast_row front_table (front_row origin held purged) ≡ front_row origin held purged
cast_front origin held purged = rw (cast_int (pos origin), cast_null, cast_int held, cast_int purged) refl

abbrev pub three : ℕ → ℤ → ℤ → Row
three origin held purged = Int (pos origin) ∷ Int held ∷ Int purged ∷ []

id_test : (given r : Row) (a b : ℤ) → column r 0 ≡ Int a → column given 3 ≡ Int b → list_all (holds (given ∷ r ∷ [])) front_update.filter ≡ (is_eq (value_cmp (Int a) (Int b)) && true)
id_test given r a b left right = rw (left, right, equal_int a b) refl

-- the row of the origin gets the new values
module _ (keys : Keys) (db next : Trees) (origin : ℕ) (held purged : ℤ) (h p : ℤ) (formed : IsFormed db) (has : Has (db 0) (front_row origin h p)) (rest : Row) (rows : List Row)
    (asked : Answers (record { schema = journal_schema; trees = db }) (program front_update) (three origin held purged ++ Int (pos origin) ∷ rest) rows)
    (done : Applies journal_schema keys db (edit_of db front_table (ids_of rows) Given 1 rows) next) where
  abbrev i : ℤ
  i = pos origin

  abbrev given : Row
  given = three origin held purged ++ Int i ∷ rest

  abbrev cast_source : Row → Row
  cast_source s = cast_row front_table (drop 1 s)

  news_are : (edit_of db front_table (ids_of rows) Given 1 rows).news ≡ map cast_source rows
  news_are = numbered_given (map cast_source rows) _

  s0 : Row
  s0 = Int i ∷ Int i ∷ Null ∷ Int held ∷ Int purged ∷ []

  s0_has : Has rows s0
  unfolding s0
  s0_has = has_shown 0 _ _ [] db given rows journal_schema refl asked (front_row origin h p) has (id_test given (front_row origin h p) i i refl refl ∙ and_from _ _ (int_tied i i refl) refl)

  source_is : (s : Row) → Has rows s → s ≡ s0
  unfolding s0
  source_is s there =
      let r = shown_has 0 _ _ [] db given rows journal_schema refl asked s there in
      let it = formed.front.each r.0 r.1 in
      let tied = sym (id_test given r.0 (pos it.origin) i (ap (λ x. column x 0) it.is) refl) ∙ r.2 in
      let same : pos it.origin ≡ i = tied_int _ _ (and_parts _ _ tied).0 in
      let old : r.0 ≡ front_row origin h p = formed.front.apart r.0 (front_row origin h p) r.1 has (ap rowid it.is ∙ ap Int same) in
      r.3 ∙ ap (λ x. eval_all front_update.project (given ∷ x ∷ [])) old

  ids_have : Has (ids_of rows) i
  unfolding s0
  ids_have = mapped_has (λ r. id_in (rowid r)) rows s0 s0_has

  id_is : (j : ℤ) → Has (ids_of rows) j → j ≡ i
  unfolding s0
  id_is j there = let s = has_mapped (λ r. id_in (rowid r)) rows j there in s.2 ∙ ap (λ r. id_in (rowid r)) (source_is s.0 s.1)

  is : next 0 ≡ put_all (without_all (db 0) (ids_of rows)) (map cast_source rows)
  is = done.rows ∙ ap (put_all (without_all (db 0) (ids_of rows))) news_are

  fresh : are_fresh (without_all (db 0) (ids_of rows)) (map cast_source rows) ≡ true
  fresh = subst (λ l. are_fresh (without_all (db 0) (ids_of rows)) l ≡ true) news_are done.fresh

  new_is : cast_source s0 ≡ front_row origin held purged
  unfolding s0
  new_is = cast_front origin held purged

  pub applied : SetsFront origin held purged db next
  applied = replaced db next origin held purged formed (done.tables.1.0 (omega arith))
      (subst (λ l. Has l (front_row origin held purged)) (sym is) (put_all_adds (map cast_source rows) _ _ fresh (subst (Has (map cast_source rows)) new_is (mapped_has cast_source rows s0 s0_has))))
      (λ x there. elim (put_all_has (map cast_source rows) _ x (subst (λ l. Has l x) is there)) [
        | inl new ↦ let s = has_mapped cast_source rows x new in inl (s.2 ∙ ap cast_source (source_is s.0 s.1) ∙ new_is)
        | inr left ↦ let was = left_has (ids_of rows) (db 0) x left in
            let apart : ¬ IsOrigin origin x = λ same. true≢false (sym (ap (λ v. is_eq (value_cmp v (Int i))) same ∙ int_tied i i refl) ∙ was.1 i ids_have) in
            inr (was.0, apart)
      ])
      (λ x there at. subst (λ l. Has l x) (sym is) (put_all_keeps (map cast_source rows) _ x fresh (has_left_over (ids_of rows) (db 0) x there (λ j gone. false_from_ne_true _ (λ tied.
      let it = formed.front.each x there in
      let same : pos it.origin ≡ j = tied_int _ _ (ap (λ r. has_rowid j r) (sym it.is) ∙ tied) in
      at (ap rowid it.is ∙ ap Int (same ∙ id_is j gone)))))))

abbrev pub clause : Upsert
clause = record { target = Some (0 ∷ []); update = Some (program front_update) }

module _ (limit : Option ℕ) (keys : Keys) (db : Trees) (origin : ℕ) (held purged : ℤ) (formed : IsFormed db) (one : Written) where
  abbrev pub task : Task
  task = record { limit = limit; keys = keys; schema = journal_schema; table = front_table; params = three origin held purged }

  abbrev new : Row
  new = front_row origin held purged

  -- no row has the origin, so the new one is inserted
  inserted : ((r : Row) → Has (db 0) r → conflicts (Some (0 ∷ [])) (lra_index ∷ []) front_table new r ≡ true → ⊥)
      → Puts task new db (Ok one) → SetsFront origin held purged db one.trees
  inserted none h =
      let put = went h in
      let edit = edit_of db front_table [] Given 0 (new ∷ []) in
      let done = one_step journal_schema keys db put.0 edit refl put.1 in
      let news : edit.news ≡ new ∷ [] = ap (λ r. r ∷ []) (cast_front origin held purged) in
      let fresh = subst (λ l. are_fresh (db 0) l ≡ true) news done.fresh in
      let is : put.0 0 ≡ put_all (db 0) (new ∷ []) = done.rows ∙ ap (put_all (db 0)) news in
      let trees : one.trees ≡ put.0 = ap (λ (it : Written). it.trees) (same_value put.2) in
      let free : (x : Row) → Has (db 0) x → ¬ IsOrigin origin x = λ x there same.
      true≢false (sym (some_from _ (db 0) x there (ap (λ v. is_eq (value_cmp v (Int (pos origin)))) same ∙ int_tied _ _ refl)) ∙ not-true _ (and_parts _ _ fresh).0) in
      subst (SetsFront origin held purged db) (sym trees) (replaced db put.0 origin held purged formed (done.tables.1.0 (omega arith))
      (subst (λ l. Has l new) (sym is) (put_all_adds (new ∷ []) (db 0) new fresh (inl refl)))
      (λ x there. elim (put_all_has (new ∷ []) (db 0) x (subst (λ l. Has l x) is there)) [
        | inl (inl same) ↦ inl same
        | inl (inr none) ↦ absurd none
        | inr was ↦ inr (was, free x was)
      ])
      (λ x there at. subst (λ l. Has l x) (sym is) (put_all_keeps (new ∷ []) (db 0) x fresh there)))

  -- the row that has the origin gets the new values
  updated : (there old : Row) → Has (db 0) old → conflicts (Some (0 ∷ [])) (lra_index ∷ []) front_table new old ≡ true → there ≡ rowid old ∷ []
      → Updates task (program front_update) (three origin held purged ++ rowid there ∷ shown front_table new) db (Ok one) → SetsFront origin held purged db one.trees
  updated there old has clash is h =
      let it = formed.front.each old has in
      let key = conflict_at it.origin it.held it.purged origin held purged (subst (λ r. conflicts (Some (0 ∷ [])) (lra_index ∷ []) front_table new r ≡ true) it.is clash) in
      let old_is : old ≡ front_row origin it.held it.purged = it.is ∙ ap (λ o. front_row o it.held it.purged) key in
      let got = went (subst (λ v. Updates task (program front_update) (three origin held purged ++ v ∷ shown front_table new) db (Ok one)) (ap rowid is ∙ ap rowid old_is) h) in
      let wrote = went got.2 in
      let trees : one.trees ≡ wrote.0 = ap (λ (it : Written). it.trees) (same_value wrote.2) in
      subst (SetsFront origin held purged db) (sym trees) (applied keys db wrote.0 origin held purged it.held it.purged formed (subst (Has (db 0)) old_is has) _ got.0 got.1
      (one_step journal_schema keys db wrote.0 (edit_of db front_table (ids_of got.0) Given 1 got.0) refl wrote.1))

  cleared : (found : List Row) → Clears task Abort new db found (Ok one) → Puts task new db (Ok one)
  cleared [] h = h
  cleared (x ∷ more) h = h

  pub upserted : Upserts task Abort new db (clause ∷ []) (Ok one) → SetsFront origin held purged db one.trees
  upserted h = go h.0 h.1 h.2
    where
      go : (found : List Row) → AreConflicts clause.target (lra_index ∷ []) front_table (db 0) new found
          → Meets task (Upserts task Abort new db []) new db clause found (Ok one) → SetsFront origin held purged db one.trees
      go [] are met = inserted are.complete (cleared met.0 met.2)
      go (t ∷ more) are met = let r = are.sound t (inl refl) in updated t r.0 r.1 r.2 r.3 met
