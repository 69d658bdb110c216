-- What the upsert on `lra` does.
use Rattle.std.proofs.Common.{◌≡◌, ◌≢◌, ◌⊎◌, inl, inr, ℕ, ℤ, pos, List, [], ◌∷◌, ◌++◌, map, drop, true, false, ◌&&◌, ◌||◌, Option, Some, Ok, refl, sym, ap, subst, ◌∙◌, arith, is_eq}
use Rattle.std.specs.List.{list_all}
use Rattle.sqlite_rules.proofs.ListLemmas.{some_from}
use Rattle.std.proofs.lemmas.Bool.{not-true, and_parts, and_from, or_cases, or_left, false_from_ne_true, true≢false}
use Rattle.sqlite.specs.declared.types.Value.TheVariants.{Int, Blob}
use Rattle.sqlite.specs.Order.{Row, value_cmp, column}
use Rattle.sqlite.specs.Tree.{Trees, rowid, has_rowid}
use Rattle.sqlite.specs.Term.{holds, eval_all}
use Rattle.sqlite_value.specs.Keys.{first_key}
use Rattle.sqlite.specs.Effect.{Answers}
use Rattle.sqlite.specs.Edit.{are_fresh, without_all, put_all, id_in, edit_of, Applies}
use Rattle.sqlite.specs.Rowids.TheVariants.{Given}
use Rattle.sqlite.specs.Cast.{cast_row}
use Rattle.sqlite_rules.specs.Keys.{conflicts, AreConflicts}
use Rattle.sqlite_rules.specs.Calls.{ids_of}
use Rattle.sqlite_rules.specs.Lists.{Has}
use Rattle.sqlite_schema.specs.declared.schema.Keys.{Keys}
use Rattle.sqlite_rules.proofs.TableLemmas.{put_all_has, put_all_keeps, put_all_adds}
use Rattle.sqlite.specs.Rows.{Task, Written, Puts, Clears, Updates, Upserts, Meets, shown}
use Rattle.sqlite_schema.specs.declared.command.Conflict.TheVariants.{Abort}
use Rattle.sqlite_schema.specs.declared.command.Upsert.{Upsert}
use Rattle.sqlite.proofs.Callers.{one_step}
use Rattle.state_journal.specs.Schema.{lra_table, lra_index, journal_schema}
use Rattle.state_journal.specs.Tables.{lra_row, IsLraRow, IsFrontFormed, IsFormed, IsKey, SetsLra}
use Rattle.state_journal.proofs.Texts.{program, lra_update}
use Rattle.state_journal.proofs.Members.{has_mapped, mapped_has, left_has, has_left_over, numbered_given}
use Rattle.state_journal.proofs.Upserts.{went, same_value, cast_int, shown_has, has_shown}
use Rattle.state_journal.proofs.LraDelete.{tied_int, int_tied, equal_int, pos_same, int_same}

abbrev IsAt : ℕ → ℤ → Row → Type 0
IsAt home num x = (column x 1 ≡ Int (pos home)) × (column x 2 ≡ Int num)

-- one row is written, in place of the one with its key
module _ (db next : Trees) (home : ℕ) (num : ℤ) (body : List ℕ) (id : ℤ) (formed : IsFormed db) (front : next 0 ≡ db 0)
    (here : Has (next 1) (lra_row id home num body))
    (out : (x : Row) → Has (next 1) x → (x ≡ lra_row id home num body) ⊎ (Has (db 1) x × (rowid x ≢ Int id) × ¬ IsAt home num x))
    (keep : (x : Row) → Has (db 1) x → ¬ IsAt home num x → Has (next 1) x) where
  each : (x : Row) → Has (next 1) x → IsLraRow x
  each x h = elim (out x h) [ inl new ↦ record { id = id; home = home; num = num; body = body; is = new } | inr was ↦ formed.each x was.0 ]

  apart : (a b : Row) → Has (next 1) a → Has (next 1) b → rowid a ≡ rowid b → a ≡ b
  apart a b p q same = elim (out a p) [
    | inl new ↦ elim (out b q) [ inl too ↦ new ∙ sym too | inr was ↦ absurd (was.1 (sym same ∙ ap rowid new)) ]
    | inr was ↦ elim (out b q) [ inl new ↦ absurd (was.1 (same ∙ ap rowid new)) | inr too ↦ formed.apart a b was.0 too.0 same ]
  ]

  one : (a b : Row) → Has (next 1) a → Has (next 1) b → column a 1 ≡ column b 1 → column a 2 ≡ column b 2 → a ≡ b
  one a b p q s t = elim (out a p) [
    | inl new ↦ elim (out b q) [ inl too ↦ new ∙ sym too | inr was ↦ absurd (was.2 (sym s ∙ ap (λ r. column r 1) new, sym t ∙ ap (λ r. column r 2) new)) ]
    | inr was ↦ elim (out b q) [ inl new ↦ absurd (was.2 (s ∙ ap (λ r. column r 1) new, t ∙ ap (λ r. column r 2) new)) | inr too ↦ formed.one a b was.0 too.0 s t ]
  ]

  pub replaced : SetsLra home num (Some body) db next
  replaced = record {
    front = front;
    formed = record { front = subst IsFrontFormed (sym front) formed.front; each = each; apart = apart; one = one };
    there = λ b. (
      λ h. elim (out _ h.1) [ inl new ↦ let same : b ≡ body = cc in ap Some (sym same) | inr was ↦ absurd (was.2 (refl, refl)) ],
      λ is. let same : body ≡ b = cc in (id, subst (λ b. Has (next 1) (lra_row id home num b)) same here),
    );
    others = λ h n b other. (
      λ p. elim (out _ p.1) [ inl new ↦ absurd (other (let a : h ≡ home = cc in a, let b : n ≡ num = cc in b)) | inr was ↦ (p.0, was.0) ],
      λ p. (p.0, keep _ p.1 (λ at. other (pos_same _ _ (int_same _ _ at.0), int_same _ _ at.1))),
    );
  }

-- a row has the key of the new one
conflict_is : (i id : ℤ) (h : ℕ) (n : ℤ) (home : ℕ) (num : ℤ) (b body : List ℕ) → conflicts (Some (1 ∷ 2 ∷ [])) (lra_index ∷ []) lra_table (lra_row id home num body) (lra_row i h n b)
    ≡ ((is_eq (value_cmp (Int (pos h)) (Int (pos home))) && (is_eq (value_cmp (Int n) (Int num)) && true)) || false)
unfolding first_key
conflict_is i id h n home num b body = rw (equal_int (pos h) (pos home), equal_int n num) refl

conflict_at : (i id : ℤ) (h : ℕ) (n : ℤ) (home : ℕ) (num : ℤ) (b body : List ℕ) → conflicts (Some (1 ∷ 2 ∷ [])) (lra_index ∷ []) lra_table (lra_row id home num body) (lra_row i h n b) ≡ true → IsKey home num h n
conflict_at i id h n home num b body is =
    elim (or_cases _ _ (sym (conflict_is i id h n home num b body) ∙ is)) [
      | inl both ↦ let parts = and_parts _ _ both in (pos_same _ _ (tied_int _ _ parts.0), tied_int _ _ (and_parts _ _ parts.1).0)
      | inr none ↦ absurd (true≢false (sym none))
    ]

at_conflict : (i id : ℤ) (home : ℕ) (num : ℤ) (b body : List ℕ) → conflicts (Some (1 ∷ 2 ∷ [])) (lra_index ∷ []) lra_table (lra_row id home num body) (lra_row i home num b) ≡ true
at_conflict i id home num b body = conflict_is i id home num home num b body ∙ or_left _ _ (and_from _ _ (int_tied _ _ refl) (and_from _ _ (int_tied _ _ refl) refl))

at_is : (home : ℕ) (num : ℤ) (x : Row) (it : IsLraRow x) → IsAt home num x → IsKey home num it.home it.num
at_is home num x it at =
    let a : Int (pos it.home) ≡ Int (pos home) = ap (λ r. column r 1) (sym it.is) ∙ at.0 in
    let b : Int it.num ≡ Int num = ap (λ r. column r 2) (sym it.is) ∙ at.1 in
    (pos_same _ _ (int_same _ _ a), int_same _ _ b)

cast_again : (id : ℤ) (home : ℕ) (num : ℤ) (body : List ℕ) → cast_row lra_table (lra_row id home num body) ≡ lra_row id home num body
cast_again id home num body = rw (cast_int id, cast_int (pos home), cast_int num) refl

abbrev pub three : ℕ → ℤ → List ℕ → Row
three home num body = Int (pos home) ∷ Int num ∷ Blob body ∷ []

id_test : (given r : Row) (a b : ℤ) → column r 0 ≡ Int a → column given 3 ≡ Int b → list_all (holds (given ∷ r ∷ [])) lra_update.filter ≡ (is_eq (value_cmp (Int a) (Int b)) && true)
id_test given r a b left right = rw (left, right, equal_int a b) refl

-- the row that has the key gets the body
module _ (keys : Keys) (db next : Trees) (home : ℕ) (num : ℤ) (body : List ℕ) (i : ℤ) (b : List ℕ) (formed : IsFormed db) (has : Has (db 1) (lra_row i home num b)) (rest : Row) (rows : List Row)
    (h : Answers (record { schema = journal_schema; trees = db }) (program lra_update) (three home num body ++ Int i ∷ rest) rows)
    (done : Applies journal_schema keys db (edit_of db lra_table (ids_of rows) Given 1 rows) next) where
  abbrev given : Row
  given = three home num body ++ Int i ∷ rest

  abbrev cast_source : Row → Row
  cast_source s = cast_row lra_table (drop 1 s)

  news_are : (edit_of db lra_table (ids_of rows) Given 1 rows).news ≡ map cast_source rows
  news_are = numbered_given (map cast_source rows) _

  s0 : Row
  s0 = Int i ∷ Int i ∷ Int (pos home) ∷ Int num ∷ Blob body ∷ []

  s0_has : Has rows s0
  unfolding s0
  s0_has = has_shown 1 _ _ [] db given rows journal_schema refl h (lra_row i home num b) has (id_test given (lra_row i home num b) i i refl refl ∙ and_from _ _ (int_tied i i refl) refl)

  source_is : (s : Row) → Has rows s → s ≡ s0
  unfolding s0
  source_is s there =
      let r = shown_has 1 _ _ [] db given rows journal_schema refl h s there in
      let it = formed.each r.0 r.1 in
      let tied = sym (id_test given r.0 it.id i (ap (λ x. column x 0) it.is) refl) ∙ r.2 in
      let same : it.id ≡ i = tied_int _ _ (and_parts _ _ tied).0 in
      let old : r.0 ≡ lra_row i home num b = formed.apart r.0 (lra_row i home num b) r.1 has (ap rowid it.is ∙ ap Int same) in
      r.3 ∙ ap (λ x. eval_all lra_update.project (given ∷ x ∷ [])) old

  ids_have : Has (ids_of rows) i
  unfolding s0
  ids_have = mapped_has (λ r. id_in (rowid r)) rows s0 s0_has

  id_is : (j : ℤ) → Has (ids_of rows) j → j ≡ i
  unfolding s0
  id_is j there = let s = has_mapped (λ r. id_in (rowid r)) rows j there in s.2 ∙ ap (λ r. id_in (rowid r)) (source_is s.0 s.1)

  is : next 1 ≡ put_all (without_all (db 1) (ids_of rows)) (map cast_source rows)
  is = done.rows ∙ ap (put_all (without_all (db 1) (ids_of rows))) news_are

  fresh : are_fresh (without_all (db 1) (ids_of rows)) (map cast_source rows) ≡ true
  fresh = subst (λ l. are_fresh (without_all (db 1) (ids_of rows)) l ≡ true) news_are done.fresh

  new_is : cast_source s0 ≡ lra_row i home num body
  unfolding s0
  new_is = cast_again i home num body

  other : (x : Row) → Has (db 1) x → rowid x ≢ Int i → ¬ IsAt home num x
  other x there apart at = apart (ap rowid (formed.one x (lra_row i home num b) there has at.0 at.1))

  pub applied : SetsLra home num (Some body) db next
  applied = replaced db next home num body i formed (done.tables.0 (omega arith))
      (subst (λ l. Has l (lra_row i home num body)) (sym is) (put_all_adds (map cast_source rows) _ _ fresh (subst (Has (map cast_source rows)) new_is (mapped_has cast_source rows s0 s0_has))))
      (λ x there. elim (put_all_has (map cast_source rows) _ x (subst (λ l. Has l x) is there)) [
        | inl new ↦ let s = has_mapped cast_source rows x new in inl (s.2 ∙ ap cast_source (source_is s.0 s.1) ∙ new_is)
        | inr left ↦ let was = left_has (ids_of rows) (db 1) x left in
            let apart : rowid x ≢ Int i = λ same. true≢false (sym (ap (λ v. is_eq (value_cmp v (Int i))) same ∙ int_tied i i refl) ∙ was.1 i ids_have) in
            inr (was.0, apart, other x was.0 apart)
      ])
      (λ x there at. subst (λ l. Has l x) (sym is) (put_all_keeps (map cast_source rows) _ x fresh (has_left_over (ids_of rows) (db 1) x there (λ j gone. false_from_ne_true _ (λ tied.
      let it = formed.each x there in
      let same : it.id ≡ j = tied_int _ _ (ap (λ r. has_rowid j r) (sym it.is) ∙ tied) in
      let old : x ≡ lra_row i home num b = formed.apart x (lra_row i home num b) there has (ap rowid it.is ∙ ap Int (same ∙ id_is j gone)) in
      at (ap (λ r. column r 1) old, ap (λ r. column r 2) old))))))

abbrev pub clause : Upsert
clause = record { target = Some (1 ∷ 2 ∷ []); update = Some (program lra_update) }

module _ (limit : Option ℕ) (keys : Keys) (db : Trees) (home : ℕ) (num : ℤ) (body : List ℕ) (formed : IsFormed db) (one : Written) where
  abbrev pub task : Task
  task = record { limit = limit; keys = keys; schema = journal_schema; table = lra_table; params = three home num body }

  -- no row has the key, so the new one is inserted
  inserted : (id : ℤ) → ((r : Row) → Has (db 1) r → conflicts (Some (1 ∷ 2 ∷ [])) (lra_index ∷ []) lra_table (lra_row id home num body) r ≡ true → ⊥)
      → Puts task (lra_row id home num body) db (Ok one) → SetsLra home num (Some body) db one.trees
  inserted id none h =
      let new = lra_row id home num body in
      let put = went h in
      let edit = edit_of db lra_table [] Given 0 (new ∷ []) in
      let done = one_step journal_schema keys db put.0 edit refl put.1 in
      let news : edit.news ≡ new ∷ [] = ap (λ r. r ∷ []) (cast_again id home num body) in
      let fresh = subst (λ l. are_fresh (db 1) l ≡ true) news done.fresh in
      let is : put.0 1 ≡ put_all (db 1) (new ∷ []) = done.rows ∙ ap (put_all (db 1)) news in
      let trees : one.trees ≡ put.0 = ap (λ (it : Written). it.trees) (same_value put.2) in
      let free : (x : Row) → Has (db 1) x → rowid x ≢ Int id = λ x there same.
      true≢false (sym (some_from _ (db 1) x there (ap (λ v. is_eq (value_cmp v (Int id))) same ∙ int_tied id id refl)) ∙ not-true _ (and_parts _ _ fresh).0) in
      let other : (x : Row) → Has (db 1) x → ¬ IsAt home num x = λ x there at.
      let it = formed.each x there in
      let key = at_is home num x it at in
      none x there (subst (λ r. conflicts (Some (1 ∷ 2 ∷ [])) (lra_index ∷ []) lra_table new r ≡ true) (ap (λ h. lra_row it.id h num it.body) (sym key.0) ∙ ap (λ n. lra_row it.id it.home n it.body) (sym key.1) ∙ sym it.is) (at_conflict it.id id home num it.body body)) in
      subst (SetsLra home num (Some body) db) (sym trees) (replaced db put.0 home num body id formed (done.tables.0 (omega arith))
      (subst (λ l. Has l new) (sym is) (put_all_adds (new ∷ []) (db 1) new fresh (inl refl)))
      (λ x there. elim (put_all_has (new ∷ []) (db 1) x (subst (λ l. Has l x) is there)) [
        | inl (inl same) ↦ inl same
        | inl (inr none) ↦ absurd none
        | inr was ↦ inr (was, free x was, other x was)
      ])
      (λ x there at. subst (λ l. Has l x) (sym is) (put_all_keeps (new ∷ []) (db 1) x fresh there)))

  -- the row that has the key gets the body
  updated : (id : ℤ) (there old : Row) → Has (db 1) old → conflicts (Some (1 ∷ 2 ∷ [])) (lra_index ∷ []) lra_table (lra_row id home num body) old ≡ true → there ≡ rowid old ∷ []
      → Updates task (program lra_update) (three home num body ++ rowid there ∷ shown lra_table (lra_row id home num body)) db (Ok one) → SetsLra home num (Some body) db one.trees
  updated id there old has clash is h =
      let it = formed.each old has in
      let key = conflict_at it.id id it.home it.num home num it.body body (subst (λ r. conflicts (Some (1 ∷ 2 ∷ [])) (lra_index ∷ []) lra_table (lra_row id home num body) r ≡ true) it.is clash) in
      let old_is : old ≡ lra_row it.id home num it.body = it.is ∙ ap (λ h. lra_row it.id h it.num it.body) key.0 ∙ ap (λ n. lra_row it.id home n it.body) key.1 in
      let got = went (subst (λ v. Updates task (program lra_update) (three home num body ++ v ∷ shown lra_table (lra_row id home num body)) db (Ok one)) (ap rowid is ∙ ap rowid it.is) h) in
      let wrote = went got.2 in
      let trees : one.trees ≡ wrote.0 = ap (λ (it : Written). it.trees) (same_value wrote.2) in
      subst (SetsLra home num (Some body) db) (sym trees) (applied keys db wrote.0 home num body it.id it.body formed (subst (Has (db 1)) old_is has) _ got.0 got.1
      (one_step journal_schema keys db wrote.0 (edit_of db lra_table (ids_of got.0) Given 1 got.0) refl wrote.1))

  cleared : (id : ℤ) (found : List Row) → Clears task Abort (lra_row id home num body) db found (Ok one) → Puts task (lra_row id home num body) db (Ok one)
  cleared id [] h = h
  cleared id (x ∷ more) h = h

  pub upserted : (id : ℤ) → Upserts task Abort (lra_row id home num body) db (clause ∷ []) (Ok one) → SetsLra home num (Some body) db one.trees
  upserted id h = go h.0 h.1 h.2
    where
      go : (found : List Row) → AreConflicts clause.target (lra_index ∷ []) lra_table (db 1) (lra_row id home num body) found
          → Meets task (Upserts task Abort (lra_row id home num body) db []) (lra_row id home num body) db clause found (Ok one) → SetsLra home num (Some body) db one.trees
      go [] are met = inserted id are.complete (cleared id met.0 met.2)
      go (t ∷ more) are met = let r = are.sound t (inl refl) in updated id t r.0 r.1 r.2 r.3 met
