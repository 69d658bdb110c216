-- The steps by which rows are written anew.
use Rattle.std.proofs.Common.{◌≡◌, ◌≤◌, ◌+◌, ℕ, ℤ, pos, arith, List, [], ◌∷◌, ◌++◌, None, take, drop, refl, sym, ap, subst, ◌∙◌, append-nil, append_assoc, Ok, Err, Result}
use Rattle.std.specs.Prelude.{OnOk}
use Rattle.std.specs.Int.{w64}
use Rattle.std.specs.List.{flat_map}
use Rattle.std.proofs.lemmas.Grind.{flat_map-append}
use Rattle.std.proofs.lemmas.List.{take-append-drop}
use Rattle.std.proofs.Math.Facts.{to_z_pos}
use Rattle.sqlite.specs.State.{State}
use Rattle.sqlite.specs.Tree.{Trees}
use Rattle.state_forest.specs.declared.record.Record.{Record}
use Rattle.state_forest.specs.Forests.{HomeRecords}
use Rattle.state_replica.specs.Replicas.{records_in}
use Rattle.state_journal.specs.Rewriting.{MakesRow, RefusesOneOf, Rewrites, all_records}
use Rattle.state_journal.specs.Stands.{PutsRecord}
use Rattle.state_journal.specs.Tables.{GoesOn, IsWriting, SetsFront, signed}
use Rattle.state_journal.specs.Turns.{InTurn}
use Rattle.state_journal.proofs.Chain.{goes_then}

-- the rows of the first records were written, and the others are left
pub record IsSoFar (all left : List Record) (old new : State) : Type 0 where
  pub done : List Record
  pub split : done ++ left ≡ all
  pub goes : GoesOn (InTurn PutsRecord done) old new
  pub made : old.step_limit ≡ None → InTurn MakesRow done old.now.trees new.now.trees

pub turns_append : {X : Type 0} (Does : X → Trees → Trees → Type 0) (xs ys : List X) (a b c : Trees) → InTurn Does xs a b → InTurn Does ys b c → InTurn Does (xs ++ ys) a c
turns_append Does [] ys a b c same then = subst (λ (t : Trees). InTurn Does ys t c) same then
turns_append Does (x ∷ xs) ys a b c h then = (h.0, h.1, turns_append Does xs ys h.0 b c h.2 then)

-- the records of these homes, one home after another
abbrev pub records_of : List HomeRecords → List Record
records_of homes = flat_map (λ (home : HomeRecords). home.records) homes

pub all_of_homes : (homes : List HomeRecords) → records_of homes ≡ all_records (records_in homes)
all_of_homes [] = refl
all_of_homes (home ∷ homes) = ap (λ (rs : List Record). home.records ++ rs) (all_of_homes homes)

pub one_home_more : (homes : List HomeRecords) (home : HomeRecords) → records_of (homes ++ home ∷ []) ≡ records_of homes ++ home.records
one_home_more [] home = append-nil home.records
one_home_more (h ∷ homes) home =
    ap (λ (rs : List Record). h.records ++ rs) (one_home_more homes home) ∙ sym (append_assoc h.records (records_of homes) home.records)

-- a row of one home is refused, after those of the homes before it were written
pub refused_within : (homes : List HomeRecords) (i : ℕ) (item : HomeRecords) (old mid : Trees) → take (i + 1) homes ≡ take i homes ++ item ∷ []
    → InTurn MakesRow (records_of (take i homes)) old mid → RefusesOneOf item.records mid → RefusesOneOf (all_records (records_in homes)) old
refused_within homes i item old mid next made refused =
    let before = records_of (take i homes) in
    let behind = records_of (drop (i + 1) homes) in
    let own : records_of (take (i + 1) homes) ≡ before ++ item.records = ap records_of next ∙ one_home_more (take i homes) item in
    let all : (before ++ item.records) ++ behind ≡ records_of homes =
    ap (λ (rs : List Record). rs ++ behind) (sym own) ∙ sym (flat_map-append (λ (home : HomeRecords). home.records) (take (i + 1) homes) (drop (i + 1) homes))
    ∙ ap records_of (take-append-drop (i + 1) homes) in
    let one : (before ++ refused.done) ++ refused.next ∷ (refused.left ++ behind) ≡ (before ++ item.records) ++ behind =
    append_assoc before refused.done (refused.next ∷ (refused.left ++ behind))
    ∙ ap (λ (rs : List Record). before ++ rs) (sym (append_assoc refused.done (refused.next ∷ refused.left) behind) ∙ ap (λ (rs : List Record). rs ++ behind) refused.split)
    ∙ sym (append_assoc before item.records behind) in
    record {
      done = before ++ refused.done;
      next = refused.next;
      left = refused.left ++ behind;
      split = one ∙ all ∙ all_of_homes homes;
      mid = refused.mid;
      made = turns_append MakesRow before refused.done old mid refused.mid made refused.made;
      refused = refused.refused;
    }

-- the rows of all records, and then the version
pub rows_anew : {E : Type 0} (a b c : State) (me held : ℕ) (homes : List (List Record)) (r : Result (Unit {0}) E) → me ≤ 8 → held ≡ me → GoesOn (InTurn PutsRecord (all_records homes)) a b
    → (IsWriting b → OnOk r (GoesOn (SetsFront 0 (signed held) (signed 2)) b c)) → OnOk r (GoesOn (Rewrites me homes) a c)
rows_anew a b c me held homes (Err e) low same first then = tt
rows_anew a b c me held homes (Ok u) low same first then =
    let more = then first.writing in
    let own : signed held ≡ pos me = ap signed same ∙ to_z_pos w64 (omega (arith, low)) in
    let two : signed 2 ≡ pos 2 = to_z_pos w64 (omega arith) in
    goes_then (InTurn PutsRecord (all_records homes)) (SetsFront 0 (signed held) (signed 2)) (Rewrites me homes) a b c
    (λ records version. record { mid = b.now.trees; records = records; version = subst (λ (h : ℤ). SetsFront 0 h (pos 2) b.now.trees c.now.trees) own (subst (λ (p : ℤ). SetsFront 0 (signed held) p b.now.trees c.now.trees) two version) }) first more
