-- Tables without rows, and the rows of a view of no facts.
use Rattle.std.proofs.Common.{◌≡◌, ◌↔◌, inl, inr, ℕ, zero, suc, ◌≤◌, ◌-◌, ℤ, pos, List, [], Some, Result, Ok, Err, OnOk, length, replicate, find, get_or, refl, sym, ap, subst, ◌∙◌, arith}
use Rattle.std.specs.Int.{w64}
use Rattle.std.proofs.Math.Facts.{to_z_pos}
use Rattle.std.proofs.lemmas.Bool.{cases_lt}
use Rattle.std.proofs.lemmas.List.{length-replicate}
use Rattle.sqlite.specs.Tree.{Trees}
use Rattle.sqlite.specs.State.{State}
use Rattle.sqlite_rules.specs.Lists.{Has}
use Rattle.state_forest.specs.declared.record.Record.{Record}
use Rattle.state_forest.specs.Forests.{AreOf, id_of, is_of}
use Rattle.state_ids.specs.Ids.{Id}
use Rattle.theory_history.specs.Views.{empty_view, record_at}
use Rattle.state_journal.specs.Tables.{GoesOn, HasFront, IsFormed, IsWriting, SetsFront, SetsFronts, signed}
use Rattle.state_journal.specs.NewStores.{Empties, HasFrontTable, HasNoRows, IsHalfMade, SetsNone}
use Rattle.wire_frames.specs.declared.version.Version.TheVariants.{Two}
use Rattle.state_journal.specs.Stands.{IsFrontOf, IsReplicaView, Stands}

none_in : {X : Type 0} (xs : List X) (x : X) → xs ≡ [] → ¬ Has xs x
none_in xs x none there = subst (λ l. Has l x) none there

pub no_rows_formed : (db : Trees) → HasNoRows db → IsFormed db
no_rows_formed db none = record {
  front = record { each = λ r there. absurd (none_in _ _ none.0 there); apart = λ a b there. absurd (none_in _ _ none.0 there) };
  each = λ r there. absurd (none_in _ _ none.1 there);
  apart = λ a b there. absurd (none_in _ _ none.1 there);
  one = λ a b there. absurd (none_in _ _ none.1 there);
}

-- the second table is made after the first
pub both_made : {E : Type 0} (a b c : State) (r : Result (Unit {0}) E) → HasFrontTable a b → (IsHalfMade b → OnOk r (GoesOn Empties b c)) → OnOk r (GoesOn Empties a c)
both_made a b c (Err e) first then = tt
both_made a b c (Ok u) first then =
    let more = then first.1 in
    record {
      shows = record { was_open = first.0.was_open; is_open = more.shows.is_open; now_is = refl; committed_is = more.shows.committed_is ∙ first.0.committed_is; mode = more.shows.mode };
      writing = more.writing;
      change = more.change;
    }

-- ---- the view of no facts

pub empty_at : (n k : ℕ) → get_or (empty_view n).records k [] ≡ []
empty_at zero k = refl
empty_at (suc n) zero = refl
empty_at (suc n) (suc k) = empty_at n k

pub none_held : (nodes : ℕ) (l : Id) (r : Record) → ¬ (record_at (empty_view nodes) l ≡ Some r)
none_held nodes l r found = let none = ap (find (is_of l)) (empty_at nodes (l.home - 1)) in absurd (let both = sym none ∙ found in cc)

empty_is : (nodes : ℕ) → IsReplicaView (empty_view nodes)
empty_is nodes = record {
  purges = refl;
  homes = length-replicate nodes _ ∙ sym (length-replicate nodes _);
  order = λ home some high. subst (AreOf home) (sym (empty_at nodes (home - 1))) (record { homes = tt; ascending = tt });
  numbers = λ r held. absurd (none_held nodes (id_of r) r held);
}

small : (n : ℕ) → n ≤ 8 → signed n ≡ pos n
small n low = to_z_pos w64 (omega (arith, low))

module _ (me nodes : ℕ) (low : me ≤ 8) (a b c : Trees) (none : HasNoRows a) (own : SetsFront 0 (signed me) (signed 2) a b) (nodes_set : SetsFronts (replicate nodes 0) (replicate nodes 0) nodes b c) where
  size : length (empty_view nodes).front ≡ nodes
  size = length-replicate nodes 0

  front : (origin : ℕ) (held purged : ℤ) → HasFront c origin held purged ↔ IsFrontOf Two me (empty_view nodes) origin held purged
  front zero held purged =
      let same = nodes_set.others 0 held purged (inl refl) in
      let said = own.there held purged in (
        λ has. let is = said.0 (same.0 has) in (is.0 ∙ small me low, is.1 ∙ small 2 (omega arith)),
        λ is. same.1 (said.1 (is.0 ∙ sym (small me low), is.1 ∙ sym (small 2 (omega arith)))),
      )
  front (suc i) held purged = elim (cases_lt i nodes) [
    | inl within ↦
        let said = nodes_set.there (suc i) held purged (omega arith) (omega (arith, within)) in
        (λ has. let is = said.0 has in (omega (arith, within, size), is.0, is.1), λ is. said.1 (is.1, is.2))
    | inr past ↦
        let same = nodes_set.others (suc i) held purged (inr (omega (arith, past))) in
        let before = own.others (suc i) held purged (λ e. omega (arith, e)) in
        (λ has. absurd (none_in _ _ none.0 (before.0 (same.0 has))), λ is. absurd (omega (arith, is.0, past, size)))
  ]

  pub none_stands : Stands me c (empty_view nodes)
  none_stands = record {
    formed = nodes_set.formed;
    whole = empty_is nodes;
    front = front;
    lra = λ home num body. (
      λ has. absurd (none_in _ _ (nodes_set.lra ∙ own.lra ∙ none.1) has.1),
      λ is. absurd (none_held nodes (id_of is.kept) is.kept is.held),
    );
  }

-- the rows of the view are put one after another
pub rows_put : {E : Type 0} (a b c : State) (me nodes held : ℕ) (front : List ℕ) (r : Result (Unit {0}) E) → me ≤ 8 → held ≡ me → front ≡ replicate nodes 0 → GoesOn (SetsFront 0 (signed held) (signed 2)) a b
    → (IsWriting b → OnOk r (GoesOn (SetsFronts front front (length front)) b c)) → OnOk r (GoesOn (SetsNone me nodes) a c)
rows_put a b c me nodes held v (Err e) low same zeros first then = tt
rows_put a b c me nodes held v (Ok u) low same zeros first then =
    let more = then first.writing in
    let own = subst (λ n. SetsFront 0 (signed n) (signed 2) a.now.trees b.now.trees) same first.change in
    let size : length v ≡ nodes = ap (λ (l : List ℕ). length l) zeros ∙ length-replicate nodes 0 in
    let all = subst (λ n. SetsFronts (replicate nodes 0) (replicate nodes 0) n b.now.trees c.now.trees) size (subst (λ w. SetsFronts w w (length v) b.now.trees c.now.trees) zeros more.change) in
    record {
      shows = record { was_open = first.shows.was_open; is_open = more.shows.is_open; now_is = refl; committed_is = more.shows.committed_is ∙ first.shows.committed_is; mode = more.shows.mode };
      writing = more.writing;
      change = λ none. none_stands me nodes low a.now.trees b.now.trees c.now.trees none own all;
    }
