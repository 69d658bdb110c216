-- What the DELETE does.
use Rattle.std.proofs.Common.{◌≡◌, ℕ, ℤ, pos, List, [], ◌∷◌, Bool, true, false, ◌&&◌, Some, None, refl, sym, ap, subst, ◌∙◌, int_cmp, is_eq, Equal, Ordering}
use Rattle.std.specs.List.{list_all}
use Rattle.std.proofs.lemmas.Bool.{and_parts, and_from, false_from_ne_true, true≢false}
use Rattle.std.proofs.lemmas.Cmp.{tied_itself}
use Rattle.std.proofs.lemmas.Map.Lookups.{exact_signed}
use Rattle.sqlite.specs.declared.types.Value.{Value}
use Rattle.sqlite.specs.declared.types.Value.TheVariants.{Int}
use Rattle.sqlite.specs.Order.{Row, value_cmp}
use Rattle.sqlite.specs.Tree.{Trees, rowid, has_rowid}
use Rattle.sqlite.specs.Term.{holds}
use Rattle.sqlite.specs.Ops.{unary, binary, is_true, from_truth}
use Rattle.sqlite_value.proofs.OrderLemmas.{value_cmp-Int, value_cmp_total}
use Rattle.sqlite_sql.specs.declared.ops.BinaryOp.TheVariants.{Compare}
use Rattle.sqlite_sql.specs.declared.ops.CompareOp.TheVariants.{Eq}
use Rattle.sqlite_value.specs.declared.keys.Collation.TheVariants.{Binary}
use Rattle.sqlite.specs.Effect.{Answers}
use Rattle.sqlite.specs.Edit.{without_all, id_in}
use Rattle.sqlite_rules.specs.Calls.{ids_of}
use Rattle.sqlite_rules.specs.Lists.{Has}
use Rattle.state_journal.specs.Schema.{journal_schema}
use Rattle.state_journal.specs.Tables.{lra_row, IsFrontFormed, IsFormed, IsKey, SetsLra}
use Rattle.state_journal.proofs.Texts.{program, lra_delete}
use Rattle.state_journal.proofs.Members.{has_mapped, mapped_has, left_has, has_left_over}
use Rattle.state_journal.proofs.Upserts.{shown_has, has_shown}

pub tied_int : (a b : ℤ) → is_eq (value_cmp (Int a) (Int b)) ≡ true → a ≡ b
tied_int a b h = exact_signed a b (tied (int_cmp a b) (ap is_eq (sym (value_cmp-Int a b)) ∙ h))
  where
    tied : (o : Ordering) → is_eq o ≡ true → o ≡ Equal
    tied Equal h = refl
    tied _ h = cc

pub int_tied : (a b : ℤ) → a ≡ b → is_eq (value_cmp (Int a) (Int b)) ≡ true
int_tied a b same = rw same (ap is_eq (tied_itself value_cmp_total (Int b)))

pub equal_int : (a b : ℤ) → is_true (binary (Compare Eq Binary) (Int a) (Int b)) ≡ is_eq (value_cmp (Int a) (Int b))
unfolding binary
equal_int a b = truth (is_eq (value_cmp (Int a) (Int b)))
  where
    truth : (b : Bool) → is_true (from_truth (Some b)) ≡ b
    truth true = refl
    truth false = refl

-- the test of the DELETE
key_test : (id : ℤ) (home : ℕ) (num : ℤ) (h : ℕ) (n : ℤ) (body : List ℕ) → list_all (holds ((Int (pos home) ∷ Int num ∷ []) ∷ lra_row id h n body ∷ [])) lra_delete.filter
    ≡ (is_eq (value_cmp (Int (pos h)) (Int (pos home))) && (is_eq (value_cmp (Int n) (Int num)) && true))
unfolding unary
key_test id home num h n body = rw (equal_int (pos h) (pos home), equal_int n num) refl

pub pos_same : (a b : ℕ) → ◌≡◌ {A = ℤ} (pos a) (pos b) → a ≡ b
pos_same a b e = cc

pub int_same : (a b : ℤ) → ◌≡◌ {A = Value} (Int a) (Int b) → a ≡ b
int_same a b e = cc

key_is : (id : ℤ) (home : ℕ) (num : ℤ) (h : ℕ) (n : ℤ) (body : List ℕ) → list_all (holds ((Int (pos home) ∷ Int num ∷ []) ∷ lra_row id h n body ∷ [])) lra_delete.filter ≡ true → IsKey home num h n
key_is id home num h n body h' =
    let parts = and_parts _ _ (sym (key_test id home num h n body) ∙ h') in
    (pos_same _ _ (tied_int _ _ parts.0), tied_int _ _ (and_parts _ _ parts.1).0)

is_key : (id : ℤ) (home : ℕ) (num : ℤ) (body : List ℕ) → list_all (holds ((Int (pos home) ∷ Int num ∷ []) ∷ lra_row id home num body ∷ [])) lra_delete.filter ≡ true
is_key id home num body = key_test id home num home num body ∙ and_from _ _ (int_tied _ _ refl) (and_from _ _ (int_tied _ _ refl) refl)

module _ (db next : Trees) (home : ℕ) (num : ℤ) (rows : List Row) (formed : IsFormed db) (front : next 0 ≡ db 0) (is : next 1 ≡ without_all (db 1) (ids_of rows))
    (h : Answers (record { schema = journal_schema; trees = db }) (program lra_delete) (Int (pos home) ∷ Int num ∷ []) rows) where
  given : Row
  given = Int (pos home) ∷ Int num ∷ []

  was : (x : Row) → Has (next 1) x → Has (db 1) x × ((id : ℤ) → Has (ids_of rows) id → has_rowid id x ≡ false)
  was x there = left_has (ids_of rows) (db 1) x (subst (λ l. Has l x) is there)

  -- the id of a row that is deleted
  goes : (id : ℤ) (body : List ℕ) → Has (db 1) (lra_row id home num body) → Has (ids_of rows) id
  goes id body there = mapped_has (λ r. id_in (rowid r)) rows (Int id ∷ []) (has_shown 1 _ _ [] db _ rows journal_schema refl h (lra_row id home num body) there (is_key id home num body))

  stays : (id : ℤ) (h' : ℕ) (n : ℤ) (body : List ℕ) → ¬ IsKey home num h' n → Has (db 1) (lra_row id h' n body) → Has (next 1) (lra_row id h' n body)
  stays id h' n body other there =
      subst (λ l. Has l (lra_row id h' n body)) (sym is) (has_left_over (ids_of rows) (db 1) (lra_row id h' n body) there (λ i gone. false_from_ne_true _ (λ tied.
      let s = has_mapped (λ r. id_in (rowid r)) rows i gone in
      let r = shown_has 1 _ _ [] db _ rows journal_schema refl h s.0 s.1 in
      let it = formed.each r.0 r.1 in
      let key = key_is it.id home num it.home it.num it.body (subst (λ r. list_all (holds ((Int (pos home) ∷ Int num ∷ []) ∷ r ∷ [])) lra_delete.filter ≡ true) it.is r.2) in
      let same : id ≡ it.id = tied_int _ _ tied ∙ s.2 ∙ ap (λ r. id_in (rowid r)) (r.3 ∙ ap (λ r. rowid r ∷ []) it.is) in
      let rows_same : lra_row id h' n body ≡ r.0 = formed.apart _ _ there r.1 (ap Int same ∙ ap rowid (sym it.is)) in
      let all : lra_row id h' n body ≡ lra_row it.id it.home it.num it.body = rows_same ∙ it.is in
      other (let a : h' ≡ it.home = cc in a ∙ key.0, let b : n ≡ it.num = cc in b ∙ key.1))))

  pub deletes : SetsLra home num None db next
  deletes = record {
    front = front;
    formed = record {
      front = subst IsFrontFormed (sym front) formed.front;
      each = λ row there. formed.each row (was row there).0;
      apart = λ a b p q. formed.apart a b (was a p).0 (was b q).0;
      one = λ a b p q. formed.one a b (was a p).0 (was b q).0;
    };
    there = λ body. (λ p. absurd (true≢false (sym (int_tied _ _ refl) ∙ (was _ p.1).1 p.0 (goes p.0 body (was _ p.1).0))), λ none. absurd (cc));
    others = λ h n body other. (λ p. (p.0, (was _ p.1).0), λ p. (p.0, stays p.0 h n body other p.1));
  }
