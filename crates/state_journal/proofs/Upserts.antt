-- What the statements on `lra` do.
use Rattle.std.proofs.Common.{◌≡◌, ◌⊎◌, inl, inr, ℕ, ℤ, List, [], ◌∷◌, Bool, true, false, cond, Ok, Err, Result, refl, sym, ap, subst, ◌∙◌}
use Rattle.std.specs.List.{list_all}
use Rattle.sqlite.specs.declared.types.Value.{Value}
use Rattle.sqlite.specs.declared.types.Value.TheVariants.{Null, Int}
use Rattle.sqlite.specs.Order.{Row}
use Rattle.sqlite.specs.Tree.{Trees}
use Rattle.sqlite.specs.Term.{Term, eval_all, holds}
use Rattle.sqlite.specs.Ops.{unary}
use Rattle.sqlite.specs.Query.{Query, IsAnswer, output, Output}
use Rattle.sqlite.specs.Program.{overlay}
use Rattle.sqlite.specs.Schema.{Schema}
use Rattle.sqlite_value.specs.declared.keys.Key.{Key}
use Rattle.sqlite.specs.Effect.{Answers}
use Rattle.sqlite.specs.Cast.{cast}
use Rattle.sqlite.specs.Kind.TheVariants.{Integer}
use Rattle.sqlite_rules.specs.Lists.{Has}
use Rattle.state_journal.proofs.Texts.{plain_query, program}
use Rattle.state_journal.proofs.Members.{has_mapped, mapped_has, has_gathered, gathered_has, has_permuted}
use Rattle.std.proofs.lemmas.List.Sorted.{IsPermutation-sym}

-- a part that returned a value did not stop on the way
pub went : {B E R : Type 0} {b : B} {Stops : E → Type 0} → ((stop : E) × Stops stop × (Ok b ≡ Err stop)) ⊎ R → R
went (inl stopped) = absurd (let e = stopped.2 in cc)
went (inr on) = on

pub same_value : {B E : Type 0} {a b : B} → ◌≡◌ {A = Result B E} (Ok a) (Ok b) → a ≡ b
same_value e = cc

either : (b : Bool) (x : Value) → cond b x x ≡ x
either true x = refl
either false x = refl

pub cast_null : cast Integer Null ≡ Null
unfolding unary
cast_null = either _ Null

pub cast_int : (n : ℤ) → cast Integer (Int n) ≡ Int n
unfolding unary
cast_int n = either _ (Int n)

-- ---- a query over one table shows each row that passes its test

pub picked : {X : Type 0} (b : Bool) (x y : X) → Has (cond b (x ∷ []) []) y → (b ≡ true) × (y ≡ x)
picked true x y (inl same) = (refl, same)
picked true x y (inr none) = absurd none
picked false x y none = absurd none

pub picks : {X : Type 0} (b : Bool) (x : X) → b ≡ true → Has (cond b (x ∷ []) []) x
picks b x is = rw is (inl refl)

module _ (table : ℕ) (test shown : List Term) (order : List (Term × Key)) where
  abbrev pub query : Query
  query = record (plain_query table test shown) { order = order }

  module _ (db : Trees) (given : Row) (rows : List Row) (schema : Schema) (low : overlay db [] table ≡ db table) (h : Answers (record { schema = schema; trees = db }) (program query) given rows) where
    pub shown_has : (x : Row) → Has rows x → (r : Row) × Has (db table) r × (list_all (holds (given ∷ r ∷ [])) test ≡ true) × (x ≡ eval_all shown (given ∷ r ∷ []))
    shown_has x there =
        let a : IsAnswer query (overlay db []) given rows = h.answer Null in
        let o = has_mapped (λ (o : Output). o.1) a.ordered x (subst (λ l. Has l x) a.shown there) in
        let kept = has_permuted a.kept a.ordered o.0 a.same o.1 in
        let e = has_mapped (output query) a.staged o.0 (subst (λ l. Has l o.0) a.distinct kept) in
        let r = has_gathered _ (overlay db [] table) e.0 (subst (λ l. Has l e.0) a.grouped e.1) in
        let it = picked (list_all (holds (given ∷ r.0 ∷ [])) test) (given ∷ r.0 ∷ []) e.0 r.2 in
        (r.0, subst (λ l. Has l r.0) low r.1, it.0, o.2 ∙ ap (λ (p : Output). p.1) e.2 ∙ ap (eval_all shown) it.1)

    pub has_shown : (r : Row) → Has (db table) r → list_all (holds (given ∷ r ∷ [])) test ≡ true → Has rows (eval_all shown (given ∷ r ∷ []))
    has_shown r there passes =
        let a : IsAnswer query (overlay db []) given rows = h.answer Null in
        let env = given ∷ r ∷ [] in
        let staged : Has a.staged env = subst (λ l. Has l env) (sym a.grouped) (gathered_has _ (overlay db [] table) r env (subst (λ l. Has l r) (sym low) there) (picks (list_all (holds env) test) env passes)) in
        let kept : Has a.kept (output query env) = subst (λ l. Has l (output query env)) (sym a.distinct) (mapped_has (output query) a.staged env staged) in
        let ordered = has_permuted a.ordered a.kept (output query env) (IsPermutation-sym _ _ a.same) kept in
        subst (λ l. Has l (eval_all shown env)) (sym a.shown) (mapped_has (λ (o : Output). o.1) a.ordered (output query env) ordered)
