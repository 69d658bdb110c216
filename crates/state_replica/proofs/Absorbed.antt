-- a patch that takes what another node tells, home by home
use mathlib.Core.Bool.{not}
use Rattle.std.proofs.Common.{◌≡◌, inl, inr, ◌≤◌, ◌<◌, ◌+◌, ◌-◌, ◌==◌, ◌||◌, ℕ, List, [], ◌∷◌, ◌++◌, refl, sym, ap, subst, ◌∙◌, append_assoc, Bool, true, false, cond, arith, Option, Some, None, length, get_or-set_other, get_or-set_same, slice_get, filter, find, nat_le}
use Rattle.std.proofs.lemmas.List.{length-append, length-map, length-set, get_or_past}
use Rattle.std.specs.List.{list_any, AllByRecursion}
use Rattle.std.specs.Option.{option_map_or}
use Rattle.state_ids.specs.Ids.{Id}
use Rattle.state_ids.specs.Fronts.{IsBelow, count, join_fronts}
use Rattle.state_forest.specs.declared.merging.Told.{Told}
use Rattle.state_forest.specs.declared.record.Record.{Record}
use Rattle.state_forest.specs.Forests.{AreOf, HomeRecords, is_of}
use Rattle.state_forest.specs.RecordMerges.{changed_by, held_numbers, is_gone, put_all, absorbed, without}
use Rattle.state_forest.specs.OnlyChanges.{AreOnlyChanges}
use Rattle.state_forest.specs.Places.{put_record}
use Rattle.state_forest.specs.Shape.{AreInShape, found_at}
use Rattle.state_forest.proofs.OneListOfRecords.{same_records}
use Rattle.theory_history.specs.Merging.{AreToldFrom, IsAbsorbed, IsTelling, Telling, told_held, told_records}
use Rattle.theory_history.specs.Changes.{Change, HoldsOnlyChanges, ids_of, patched, put_at_home, put_each, records_of, remove_each, remove_at_home}
use Rattle.theory_history.specs.ViewShape.{HasShape}
use Rattle.theory_history.specs.Views.{View, records_at}
use Rattle.theory_history.proofs.Basics.{at_most, equal_from, equal_itself}
use Rattle.theory_history.proofs.ListsWithOneMore.{filter_all, filter_append}
use Rattle.theory_history.proofs.JoinedFronts.{length_join}
use Rattle.theory_history.proofs.ElementsByHome.{all_weaker, home_all, home_none, no_changes}
use Rattle.state_replica.specs.Absorbing.{AreTaken, AreTakenAt, IsChangeAt, IsGrown, IsTakenTo, after_at}
use Rattle.state_replica.specs.Replicas.{Fits, IsReplicaState, ReplicaState, count_of_home, spare_at, view_of}
use Rattle.state_replica.proofs.Homes.{home_records}

all_both : {X : Type 0} (P : X → Type 0) (xs ys : List X) → AllByRecursion P xs → AllByRecursion P ys → AllByRecursion P (xs ++ ys)
all_both P [] ys a b = b
all_both P (x ∷ xs) ys a b = (a.0, all_both P xs ys a.1 b)

-- appended elements of another home change nothing for this home; appended elements of this home
-- are all of it, if it had none before
home_other : {X : Type 0} (h : X → ℕ) (home other : ℕ) (xs ys : List X) → (other ≡ home → ⊥) → AllByRecursion (λ x. h x ≡ other) ys → filter (λ x. h x == home) (xs ++ ys) ≡ filter (λ x. h x == home) xs
home_other h home other xs ys not_same all =
    filter_append (λ x. h x == home) xs ys
    ∙ ap (λ zs. filter (λ x. h x == home) xs ++ zs) (home_none h home ys (all_weaker (λ x. h x ≡ other) (λ x. h x ≡ home → ⊥) ys (λ x e s. not_same (sym e ∙ s)) all))
    ∙ no_more (filter (λ x. h x == home) xs)
  where
    no_more : {X : Type 0} (xs : List X) → xs ++ [] ≡ xs
    no_more [] = refl
    no_more (x ∷ xs) = ap (λ zs. x ∷ zs) (no_more xs)

home_new : {X : Type 0} (h : X → ℕ) (home : ℕ) (xs ys : List X) → AllByRecursion (λ x. h x < home) xs → AllByRecursion (λ x. h x ≡ home) ys → filter (λ x. h x == home) (xs ++ ys) ≡ ys
home_new h home xs ys before all =
    filter_append (λ x. h x == home) xs ys
    ∙ ap (λ zs. zs ++ filter (λ x. h x == home) ys) (home_none h home xs (all_weaker (λ x. h x < home) (λ x. h x ≡ home → ⊥) xs (λ x e s. omega (arith, e, s)) before))
    ∙ home_all h home ys all

-- A home of the patched view

taken_away : (l : Id) (homes : List (List Record)) (home : ℕ) → 1 ≤ l.home → l.home ≤ length homes → 1 ≤ home → (b : Bool) → (l.home == home) ≡ b
    → records_at (remove_at_home l homes) home ≡ cond b (filter (λ r. not (is_of l r)) (records_at homes home)) (records_at homes home)
taken_away l homes home some there low true e =
    let same : l.home ≡ home = equal_from l.home home e in
    subst (λ (k : ℕ). records_at (remove_at_home l homes) k ≡ filter (λ r. not (is_of l r)) (records_at homes k)) same
    (get_or-set_same {A = List Record} homes (l.home - 1) (filter (λ r. not (is_of l r)) (records_at homes l.home)) [] (omega (arith, some, there)))
taken_away l homes home some there low false e =
    get_or-set_other {A = List Record} homes (l.home - 1) (home - 1) (filter (λ r. not (is_of l r)) (records_at homes l.home)) []
    (λ s. let same : l.home ≡ home = omega (arith, s, some, low) in let clash : true ≡ false = sym (ap (λ (n : ℕ). n == home) same ∙ equal_itself home) ∙ e in cc)

-- taking out one record and then others is taking out all of them
without_more : (l : Id) (ids : List Id) (records : List Record) → without ids (filter (λ r. not (is_of l r)) records) ≡ without (l ∷ ids) records
without_more l ids [] = refl
without_more l ids (r ∷ rs) = by (is_of l r) (list_any (λ x. is_of x r) ids) refl refl (without_more l ids rs)
  where
    by : (b c : Bool) → is_of l r ≡ b → list_any (λ x. is_of x r) ids ≡ c → without ids (filter (λ q. not (is_of l q)) rs) ≡ without (l ∷ ids) rs
        → without ids (cond (not b) (r ∷ filter (λ q. not (is_of l q)) rs) (filter (λ q. not (is_of l q)) rs)) ≡ cond (not (b || c)) (r ∷ without (l ∷ ids) rs) (without (l ∷ ids) rs)
    by true c e f rest = rest
    by false true e f rest = rw f rest
    by false false e f rest = rw f (ap (λ zs. r ∷ zs) rest)

without_none : (records : List Record) → without [] records ≡ records
without_none records = filter_all (λ (r : Record). true) records (λ r m. refl)

take_each_length : (ids : List Id) (homes : List (List Record)) → length (remove_each ids homes) ≡ length homes
take_each_length [] homes = refl
take_each_length (l ∷ ids) homes =
    take_each_length ids (remove_at_home l homes) ∙ length-set {A = List Record} homes (l.home - 1) (filter (λ r. not (is_of l r)) (records_at homes l.home))

take_each_at : (ids : List Id) (homes : List (List Record)) (home : ℕ) → 1 ≤ home → AllByRecursion (λ l. (1 ≤ l.home) × (l.home ≤ length homes)) ids
    → records_at (remove_each ids homes) home ≡ without (ids_of home ids) (records_at homes home)
take_each_at [] homes home low all = sym (without_none (records_at homes home))
take_each_at (l ∷ ids) homes home low all =
    let size : length (remove_at_home l homes) ≡ length homes = length-set {A = List Record} homes (l.home - 1) (filter (λ r. not (is_of l r)) (records_at homes l.home)) in
    by (l.home == home) refl
    (take_each_at ids (remove_at_home l homes) home low (all_weaker (λ x. (1 ≤ x.home) × (x.home ≤ length homes)) (λ x. (1 ≤ x.home) × (x.home ≤ length (remove_at_home l homes))) ids (λ x h. (h.0, omega (arith, h.1, size))) all.1))
  where
    by : (b : Bool) → (l.home == home) ≡ b → records_at (remove_each ids (remove_at_home l homes)) home ≡ without (ids_of home ids) (records_at (remove_at_home l homes) home)
        → records_at (remove_each ids (remove_at_home l homes)) home ≡ without (cond b (l ∷ ids_of home ids) (ids_of home ids)) (records_at homes home)
    by true e rest = rest ∙ ap (without (ids_of home ids)) (taken_away l homes home all.0.0 all.0.1 low true e) ∙ without_more l (ids_of home ids) (records_at homes home)
    by false e rest = rest ∙ ap (without (ids_of home ids)) (taken_away l homes home all.0.0 all.0.1 low false e)

put_there : (r : Record) (homes : List (List Record)) (home : ℕ) → 1 ≤ r.home → r.home ≤ length homes → 1 ≤ home → (b : Bool) → (r.home == home) ≡ b
    → records_at (put_at_home r homes) home ≡ cond b (put_record r (records_at homes home)) (records_at homes home)
put_there r homes home some there low true e =
    let same : r.home ≡ home = equal_from r.home home e in
    subst (λ (k : ℕ). records_at (put_at_home r homes) k ≡ put_record r (records_at homes k)) same
    (get_or-set_same {A = List Record} homes (r.home - 1) (put_record r (records_at homes r.home)) [] (omega (arith, some, there)))
put_there r homes home some there low false e =
    get_or-set_other {A = List Record} homes (r.home - 1) (home - 1) (put_record r (records_at homes r.home)) []
    (λ s. let same : r.home ≡ home = omega (arith, s, some, low) in let clash : true ≡ false = sym (ap (λ (n : ℕ). n == home) same ∙ equal_itself home) ∙ e in cc)

put_each_length : (rs : List Record) (homes : List (List Record)) → length (put_each rs homes) ≡ length homes
put_each_length [] homes = refl
put_each_length (r ∷ rs) homes =
    put_each_length rs (put_at_home r homes) ∙ length-set {A = List Record} homes (r.home - 1) (put_record r (records_at homes r.home))

put_each_at : (rs : List Record) (homes : List (List Record)) (home : ℕ) → 1 ≤ home → AllByRecursion (λ r. (1 ≤ r.home) × (r.home ≤ length homes)) rs
    → records_at (put_each rs homes) home ≡ put_all (records_of home rs) (records_at homes home)
put_each_at [] homes home low all = refl
put_each_at (r ∷ rs) homes home low all =
    let size : length (put_at_home r homes) ≡ length homes = length-set {A = List Record} homes (r.home - 1) (put_record r (records_at homes r.home)) in
    by (r.home == home) refl
    (put_each_at rs (put_at_home r homes) home low (all_weaker (λ x. (1 ≤ x.home) × (x.home ≤ length homes)) (λ x. (1 ≤ x.home) × (x.home ≤ length (put_at_home r homes))) rs (λ x h. (h.0, omega (arith, h.1, size))) all.1))
  where
    by : (b : Bool) → (r.home == home) ≡ b → records_at (put_each rs (put_at_home r homes)) home ≡ put_all (records_of home rs) (records_at (put_at_home r homes) home)
        → records_at (put_each rs (put_at_home r homes)) home ≡ put_all (cond b (r ∷ records_of home rs) (records_of home rs)) (records_at homes home)
    by true e rest = rest ∙ ap (put_all (records_of home rs)) (put_there r homes home all.0.0 all.0.1 low true e)
    by false e rest = rest ∙ ap (put_all (records_of home rs)) (put_there r homes home all.0.0 all.0.1 low false e)

-- a home of the patched view has what the patch changes there
-- (a patch is a flat list over all homes, of which the elements of a home act there: after two
-- inductions all is said of one home, without bounds on it)
pub patched_at : (change : Change) (a : View) (home : ℕ) → 1 ≤ home → AllByRecursion (λ l. (1 ≤ l.home) × (l.home ≤ length a.records)) change.removed → AllByRecursion (λ r. (1 ≤ r.home) × (r.home ≤ length a.records)) change.records
    → records_at (patched change a).records home ≡ after_at change a home
patched_at change a home low ids records =
    let size = take_each_length change.removed a.records in
    put_each_at change.records (remove_each change.removed a.records) home low
    (all_weaker (λ r. (1 ≤ r.home) × (r.home ≤ length a.records)) (λ r. (1 ≤ r.home) × (r.home ≤ length (remove_each change.removed a.records))) change.records (λ r h. (h.0, omega (arith, h.1, size))) records)
    ∙ ap (put_all (records_of home change.records)) (take_each_at change.removed a.records home low ids)

pub patched_length : (change : Change) (a : View) → length (patched change a).records ≡ length a.records
patched_length change a = put_each_length change.records (remove_each change.removed a.records) ∙ take_each_length change.removed a.records

-- One home

-- the records before are those of the view
module _ (kept : ReplicaState) (told : Told) (reach mine : ℕ) (front : List ℕ) (own : HomeRecords) (ids : List Id) (more : List Record)
    (some : 1 ≤ told.records.home) (home : own.home ≡ told.records.home) (all : mine ≡ count kept.front told.records.home)
    (at : slice_get kept.homes (told.records.home - 1) ≡ Some own)
    (order : AreOf own.home (changed_by ids more own.records))
    (found : (num : ℕ) → found_at own.home (changed_by ids more own.records) num ≡ absorbed (nat_le num mine) (is_gone reach (held_numbers told.held) num) (found_at own.home own.records num) (found_at own.home told.records.records num)) where
  own_records : own.records ≡ records_at (view_of kept).records told.records.home
  own_records = sym (home_records kept told.records.home own at)

  pub taken_there : AreTakenAt (view_of kept) told reach (changed_by ids more (records_at (view_of kept).records told.records.home))
  taken_there =
      let here : AreTaken own.home mine reach (held_numbers told.held) told.records.records own.records (changed_by ids more own.records) = record { order = order; taken = found } in
      subst (λ (n : ℕ). AreTaken told.records.home n reach (held_numbers told.held) told.records.records (records_at (view_of kept).records told.records.home) (changed_by ids more (records_at (view_of kept).records told.records.home))) all
      (subst (λ (rs : List Record). AreTaken told.records.home mine reach (held_numbers told.held) told.records.records rs (changed_by ids more rs)) own_records
      (subst (λ (n : ℕ). AreTaken n mine reach (held_numbers told.held) told.records.records own.records (changed_by ids more own.records)) home here))

  shape_there : AreInShape front own.home (changed_by ids more own.records) → AreInShape front told.records.home (changed_by ids more (records_at (view_of kept).records told.records.home))
  shape_there shape =
      subst (λ (rs : List Record). AreInShape front told.records.home (changed_by ids more rs)) own_records
      (subst (λ (n : ℕ). AreInShape front n (changed_by ids more own.records)) home shape)

  pub changed_there : AreOnlyChanges own.home own.records ids more → AreInShape front own.home (changed_by ids more own.records) → IsChangeAt (view_of kept) told reach front ids more
  changed_there only shape =
      record {
        some = some;
        only =
            subst (λ (rs : List Record). AreOnlyChanges told.records.home rs ids more) own_records
            (subst (λ (n : ℕ). AreOnlyChanges n own.records ids more) home only);
        taken = taken_there;
        shape = shape_there shape;
      }

  -- no other records are the ones that are taken
  pub only_there : (after : List Record) → AreTakenAt (view_of kept) told reach after → AreInShape front told.records.home after → AreInShape front own.home (changed_by ids more own.records)
  only_there after there shape =
      let one = same_records told.records.home after (changed_by ids more (records_at (view_of kept).records told.records.home)) there.order.homes taken_there.order.homes there.order.ascending taken_there.order.ascending (λ n. there.taken n ∙ sym (taken_there.taken n)) in
      subst (λ (n : ℕ). AreInShape front n (changed_by ids more own.records)) (sym home)
      (subst (λ (rs : List Record). AreInShape front told.records.home (changed_by ids more rs)) (sym own_records)
      (subst (λ (rs : List Record). AreInShape front told.records.home rs) one shape))

-- at first nothing is taken
pub taken_none : (a : View) (telling : Telling) (homes : List HomeRecords) (change : Change) → change.removed ≡ [] → change.records ≡ [] → IsTakenTo a telling homes change 0
taken_none a telling homes change ids records =
    record {
      of_ids = subst (λ (xs : List Id). AllByRecursion (λ (l : Id). (1 ≤ l.home) × (l.home ≤ 0)) xs) (sym ids) tt;
      of_records = subst (λ (xs : List Record). AllByRecursion (λ (r : Record). (1 ≤ r.home) × (r.home ≤ 0)) xs) (sym records) tt;
      only = λ home.
          subst (λ (ls : List Id). AreOnlyChanges home (records_at a.records home) (ids_of home ls) (records_of home change.records)) (sym ids)
          (subst (λ (rs : List Record). AreOnlyChanges home (records_at a.records home) [] (records_of home rs)) (sym records) (no_changes home (records_at a.records home)));
      taken = λ home low high. absurd (omega (arith, low, high));
      shape = λ home low high. absurd (omega (arith, low, high));
      room = λ home low. omega (arith, ap (λ (xs : List Record). count_of_home home xs) records);
    }

-- one more home is taken
module _ (a : View) (telling : Telling) (told : Told) (reach k : ℕ) (homes rooms : List HomeRecords) (old new : Change)
    (so : IsTakenTo a telling homes old k) (grown : IsGrown a told reach rooms old new)
    (next : told.records.home ≡ k + 1) (at : slice_get telling.homes k ≡ Some told) (far : reach ≡ count telling.front (k + 1))
    (front : new.front ≡ old.front) (kept : (home : ℕ) → 1 ≤ home → spare_at homes home ≤ spare_at rooms home) where
  ids_here : ids_of told.records.home new.removed ≡ grown.ids
  ids_here =
      ap (ids_of told.records.home) grown.removed
      ∙ home_new (λ (l : Id). l.home) told.records.home old.removed grown.ids (all_weaker (λ (l : Id). (1 ≤ l.home) × (l.home ≤ k)) (λ (l : Id). l.home < told.records.home) old.removed (λ l h. omega (arith, h.1, next)) so.of_ids) grown.is.only.homes

  records_here : records_of told.records.home new.records ≡ grown.more
  records_here =
      ap (records_of told.records.home) grown.records
      ∙ home_new (λ (r : Record). r.home) told.records.home old.records grown.more (all_weaker (λ (r : Record). (1 ≤ r.home) × (r.home ≤ k)) (λ (r : Record). r.home < told.records.home) old.records (λ r h. omega (arith, h.1, next)) so.of_records) grown.is.only.order.homes

  ids_there : (home : ℕ) → (told.records.home ≡ home → ⊥) → ids_of home new.removed ≡ ids_of home old.removed
  ids_there home other = ap (ids_of home) grown.removed ∙ home_other (λ (l : Id). l.home) home told.records.home old.removed grown.ids other grown.is.only.homes

  records_there : (home : ℕ) → (told.records.home ≡ home → ⊥) → records_of home new.records ≡ records_of home old.records
  records_there home other = ap (records_of home) grown.records ∙ home_other (λ (r : Record). r.home) home told.records.home old.records grown.more other grown.is.only.order.homes

  earlier : (home : ℕ) → home ≤ k → after_at new a home ≡ after_at old a home
  earlier home low =
      let other : told.records.home ≡ home → ⊥ = λ e. omega (arith, e, next, low) in
      ap (λ ids. changed_by ids (records_of home new.records) (records_at a.records home)) (ids_there home other)
      ∙ ap (λ rs. changed_by (ids_of home old.removed) rs (records_at a.records home)) (records_there home other)

  latest : after_at new a told.records.home ≡ changed_by grown.ids grown.more (records_at a.records told.records.home)
  latest =
      ap (λ ids. changed_by ids (records_of told.records.home new.records) (records_at a.records told.records.home)) ids_here
      ∙ ap (λ rs. changed_by grown.ids rs (records_at a.records told.records.home)) records_here

  only_changes : HoldsOnlyChanges a new
  only_changes home = by (told.records.home == home) refl
    where
      of_lists : (h : ℕ) (ids ls : List Id) (rs ps : List Record) → ls ≡ ids → ps ≡ rs → AreOnlyChanges h (records_at a.records h) ids rs → AreOnlyChanges h (records_at a.records h) ls ps
      of_lists h ids ls rs ps e f only =
          subst (λ (xs : List Id). AreOnlyChanges h (records_at a.records h) xs ps) (sym e)
          (subst (λ (xs : List Record). AreOnlyChanges h (records_at a.records h) ids xs) (sym f) only)

      by : (b : Bool) → (told.records.home == home) ≡ b → AreOnlyChanges home (records_at a.records home) (ids_of home new.removed) (records_of home new.records)
      by true e =
          subst (λ (h : ℕ). AreOnlyChanges h (records_at a.records h) (ids_of h new.removed) (records_of h new.records)) (equal_from told.records.home home e)
          (of_lists told.records.home grown.ids (ids_of told.records.home new.removed) grown.more (records_of told.records.home new.records) ids_here records_here grown.is.only)
      by false e =
          let other : told.records.home ≡ home → ⊥ = λ s. (let clash : true ≡ false = sym (ap (λ (n : ℕ). n == home) s ∙ equal_itself home) ∙ e in cc) in
          of_lists home (ids_of home old.removed) (ids_of home new.removed) (records_of home old.records) (records_of home new.records) (ids_there home other) (records_there home other) (so.only home)

  told_here : slice_get telling.homes (told.records.home - 1) ≡ Some told
  told_here = let place : told.records.home - 1 ≡ k = omega (arith, next) in ap (slice_get telling.homes) place ∙ at

  taken_here : AreTaken told.records.home (count a.front told.records.home) (count telling.front told.records.home) (told_held telling told.records.home) (told_records telling told.records.home) (records_at a.records told.records.home) (after_at new a told.records.home)
  taken_here =
      let home = told.records.home in
      let reached : reach ≡ count telling.front home = far ∙ ap (count telling.front) (sym next) in
      let held : held_numbers told.held ≡ told_held telling home = sym (ap (λ o. option_map_or (λ (t : Told). held_numbers t.held) o None) told_here) in
      let theirs : told.records.records ≡ told_records telling home = sym (ap (λ o. option_map_or (λ (t : Told). t.records.records) o []) told_here) in
      let own = records_at a.records home in
      let mine = count a.front home in
      let one = subst (λ (n : ℕ). AreTaken home mine n (held_numbers told.held) told.records.records own (changed_by grown.ids grown.more own)) reached grown.is.taken in
      let two = subst (λ (h : Option (List ℕ)). AreTaken home mine (count telling.front home) h told.records.records own (changed_by grown.ids grown.more own)) held one in
      let three = subst (λ (rs : List Record). AreTaken home mine (count telling.front home) (told_held telling home) rs own (changed_by grown.ids grown.more own)) theirs two in
      subst (λ (rs : List Record). AreTaken home mine (count telling.front home) (told_held telling home) (told_records telling home) own rs) (sym latest) three

  shape_here : AreInShape new.front told.records.home (after_at new a told.records.home)
  shape_here =
      subst (λ (v : List ℕ). AreInShape v told.records.home (after_at new a told.records.home)) (sym front)
      (subst (λ (rs : List Record). AreInShape old.front told.records.home rs) (sym latest) grown.is.shape)

  room_for : (home : ℕ) → 1 ≤ home → count_of_home home new.records ≤ spare_at rooms home
  room_for home low =
      let size : count_of_home home new.records ≡ count_of_home home (old.records ++ grown.more) = ap (count_of_home home) grown.records in
      by (told.records.home == home) refl size
    where
      by : (b : Bool) → (told.records.home == home) ≡ b → count_of_home home new.records ≡ count_of_home home (old.records ++ grown.more) → count_of_home home new.records ≤ spare_at rooms home
      by true e size =
          let same : told.records.home ≡ home = equal_from told.records.home home e in
          let mine : records_of home (old.records ++ grown.more) ≡ grown.more =
          home_new (λ (r : Record). r.home) home old.records grown.more (all_weaker (λ (r : Record). (1 ≤ r.home) × (r.home ≤ k)) (λ (r : Record). r.home < home) old.records (λ r h. omega (arith, h.1, next, same)) so.of_records)
          (all_weaker (λ (r : Record). r.home ≡ told.records.home) (λ (r : Record). r.home ≡ home) grown.more (λ r f. f ∙ same) grown.is.only.order.homes) in
          let many : count_of_home home (old.records ++ grown.more) ≡ length grown.more = ap (λ (rs : List Record). length rs) mine in
          let spare : spare_at rooms told.records.home ≡ spare_at rooms home = ap (spare_at rooms) same in
          omega (arith, size, many, spare, grown.room)
      by false e size =
          let other : told.records.home ≡ home → ⊥ = λ s. (let clash : true ≡ false = sym (ap (λ (n : ℕ). n == home) s ∙ equal_itself home) ∙ e in cc) in
          let many : count_of_home home (old.records ++ grown.more) ≡ count_of_home home old.records = ap (λ (rs : List Record). length rs) (home_other (λ (r : Record). r.home) home told.records.home old.records grown.more other grown.is.only.order.homes) in
          let before = so.room home low in
          let room = kept home low in
          omega (arith, size, many, before, room)

  pub taken_more : IsTakenTo a telling rooms new (k + 1)
  taken_more =
      record {
        of_ids =
            subst (λ (xs : List Id). AllByRecursion (λ (l : Id). (1 ≤ l.home) × (l.home ≤ k + 1)) xs) (sym grown.removed)
            (all_both (λ (l : Id). (1 ≤ l.home) × (l.home ≤ k + 1)) old.removed grown.ids
            (all_weaker (λ (l : Id). (1 ≤ l.home) × (l.home ≤ k)) (λ (l : Id). (1 ≤ l.home) × (l.home ≤ k + 1)) old.removed (λ l h. (h.0, omega (arith, h.1))) so.of_ids)
            (all_weaker (λ (l : Id). l.home ≡ told.records.home) (λ (l : Id). (1 ≤ l.home) × (l.home ≤ k + 1)) grown.ids (λ l e. (omega (arith, e, next), omega (arith, e, next))) grown.is.only.homes));
        of_records =
            subst (λ (xs : List Record). AllByRecursion (λ (r : Record). (1 ≤ r.home) × (r.home ≤ k + 1)) xs) (sym grown.records)
            (all_both (λ (r : Record). (1 ≤ r.home) × (r.home ≤ k + 1)) old.records grown.more
            (all_weaker (λ (r : Record). (1 ≤ r.home) × (r.home ≤ k)) (λ (r : Record). (1 ≤ r.home) × (r.home ≤ k + 1)) old.records (λ r h. (h.0, omega (arith, h.1))) so.of_records)
            (all_weaker (λ (r : Record). r.home ≡ told.records.home) (λ (r : Record). (1 ≤ r.home) × (r.home ≤ k + 1)) grown.more (λ r e. (omega (arith, e, next), omega (arith, e, next))) grown.is.only.order.homes));
        only = only_changes;
        taken = λ home low high. elim (at_most home k) [
          | inl near ↦
              subst (λ (rs : List Record). AreTaken home (count a.front home) (count telling.front home) (told_held telling home) (told_records telling home) (records_at a.records home) rs) (sym (earlier home near))
              (so.taken home low near)
          | inr far ↦
              let same : told.records.home ≡ home = omega (arith, next, far, high) in
              subst (λ (x : ℕ). AreTaken x (count a.front x) (count telling.front x) (told_held telling x) (told_records telling x) (records_at a.records x) (after_at new a x)) same taken_here
        ];
        shape = λ home low high. elim (at_most home k) [
          | inl near ↦
              subst (λ (v : List ℕ). AreInShape v home (after_at new a home)) (sym front)
              (subst (λ (rs : List Record). AreInShape old.front home rs) (sym (earlier home near)) (so.shape home low near))
          | inr far ↦
              let same : told.records.home ≡ home = omega (arith, next, far, high) in
              subst (λ (x : ℕ). AreInShape new.front x (after_at new a x)) same shape_here
        ];
        room = room_for;
      }

-- After all homes are taken

no_records : (front : List ℕ) (home : ℕ) (rs : List Record) → rs ≡ [] → AreInShape front home rs
no_records front home [] e = record { few = omega arith; in_place = λ num r at. absurd cc }
no_records front home (r ∷ rs) e = absurd cc

module _ (a : View) (telling : Telling) (homes : List HomeRecords) (change : Change) (so : IsTakenTo a telling homes change (length a.records))
    (nodes : length a.front ≡ length telling.front) (size : length a.records ≡ length a.front)
    (front : change.front ≡ join_fronts a.front telling.front) (purges : change.purges ≡ join_fronts a.purges telling.purges) where
  at_home : (home : ℕ) → 1 ≤ home → records_at (patched change a).records home ≡ after_at change a home
  at_home home low = patched_at change a home low so.of_ids so.of_records

  long : length change.front ≡ length a.records
  long = ap (λ (v : List ℕ). length v) front ∙ length_join a.front telling.front nodes ∙ sym size

  pub taken_absorbed : IsAbsorbed a telling (patched change a)
  taken_absorbed =
      record {
        nodes = nodes;
        front = front;
        purges = purges;
        homes = patched_length change a ∙ sym long;
        order = λ home low high. subst (AreOf home) (sym (at_home home low)) (so.taken home low (omega (arith, high, long))).order;
        records = λ l low high. ap (find (is_of l)) (at_home l.home low) ∙ (so.taken l.home low (omega (arith, high, long))).taken l.num;
      }

  pub taken_shape : IsBelow change.purges change.front → HasShape (patched change a)
  taken_shape below =
      record {
        homes = λ home low. elim (at_most home (length a.records)) [
          | inl near ↦ subst (λ (rs : List Record). AreInShape change.front home rs) (sym (at_home home low)) (so.shape home low near)
          | inr far ↦ no_records change.front home (records_at (patched change a).records home) (get_or_past (patched change a).records (home - 1) [] (omega (arith, far, patched_length change a)))
        ];
        purges = below;
      }

-- the patch fits, if the view is that of what is kept
pub taken_fits : (kept : ReplicaState) (telling : Telling) (change : Change) → IsTakenTo (view_of kept) telling kept.homes change (length kept.front) → length change.front ≡ length kept.front → length change.purges ≡ length kept.front → length change.records ≤ kept.index.spare → Fits change kept
taken_fits kept telling change so front purges entries =
    record {
      front = front;
      purges = purges;
      homes = all_weaker (λ (r : Record). (1 ≤ r.home) × (r.home ≤ length kept.front)) (λ (r : Record). r.home ≤ length kept.front) change.records (λ r h. h.1) so.of_records;
      room = so.room;
      entries = entries;
    }

-- a view that takes what is told has, at each home, what is taken of that home
pub absorbed_there : (a c : View) (telling : Telling) (told : Told) (reach : ℕ) → IsAbsorbed a telling c → 1 ≤ told.records.home → told.records.home ≤ length a.front → slice_get telling.homes (told.records.home - 1) ≡ Some told → reach ≡ count telling.front told.records.home
    → AreTakenAt a told reach (records_at c.records told.records.home)
absorbed_there a c telling told reach is low high at far =
    let home = told.records.home in
    let size : length c.front ≡ length a.front = ap (λ (v : List ℕ). length v) is.front ∙ length_join a.front telling.front is.nodes in
    let held : told_held telling home ≡ held_numbers told.held = ap (λ o. option_map_or (λ (t : Told). held_numbers t.held) o None) at in
    let theirs : told_records telling home ≡ told.records.records = ap (λ o. option_map_or (λ (t : Told). t.records.records) o []) at in
    record {
      order = is.order home low (omega (arith, high, size));
      taken = λ num.
          is.records (record { home = home; num = num }) low (omega (arith, high, size))
          ∙ ap (λ n. absorbed (nat_le num (count a.front home)) (is_gone n (told_held telling home) num) (found_at home (records_at a.records home) num) (found_at home (told_records telling home) num)) (sym far)
          ∙ ap (λ h. absorbed (nat_le num (count a.front home)) (is_gone reach h num) (found_at home (records_at a.records home) num) (found_at home (told_records telling home) num)) held
          ∙ ap (λ rs. absorbed (nat_le num (count a.front home)) (is_gone reach (held_numbers told.held) num) (found_at home (records_at a.records home) num) (found_at home rs num)) theirs;
    }

-- What is left to take

-- the homes before those that are left are already taken
pub record IsTakenSo (a : View) (telling : Telling) (kept : ReplicaState) (patch old : Change) (rest : List Told) : Type 0 where
  pub done : List Told
  pub all : telling.homes ≡ done ++ rest
  pub view : view_of kept ≡ a
  pub front : patch.front ≡ old.front
  pub purges : patch.purges ≡ old.purges
  pub so : IsTakenTo a telling kept.homes patch (length done)

told_number : (k : ℕ) (done rest : List Told) (told : Told) → AreToldFrom k (done ++ told ∷ rest) → told.records.home ≡ k + length done
told_number k [] rest told are = omega (arith, are.0)
told_number k (x ∷ done) rest told are = omega (arith, told_number (k + 1) done rest told are.1)

told_place : (done rest : List Told) (told : Told) → slice_get (done ++ told ∷ rest) (length done) ≡ Some told
told_place [] rest told = refl
told_place (x ∷ done) rest told = told_place done rest told

module _ (a : View) (telling : Telling) (kept : ReplicaState) (patch old : Change) (told : Told) (rest : List Told)
    (is : IsTelling telling) (nodes : length a.front ≡ length telling.front) (so : IsTakenSo a telling kept patch old (told ∷ rest)) where
  numbered : told.records.home ≡ length so.done + 1
  numbered = omega (arith, told_number 1 so.done rest told (subst (AreToldFrom 1) so.all is.numbered))

  -- the next home is one of the nodes
  pub next_within : told.records.home ≤ length kept.front
  next_within =
      let size : length telling.homes ≡ length so.done + length (told ∷ rest) = ap (λ (ts : List Told). length ts) so.all ∙ length-append so.done (told ∷ rest) in
      let fronts : length kept.front ≡ length a.front = ap (λ (v : View). length v.front) so.view in
      omega (arith, numbered, size, fronts, nodes, is.homes)

  pub next_there : slice_get telling.homes (told.records.home - 1) ≡ Some told
  next_there =
      let place : told.records.home - 1 ≡ length so.done = omega (arith, numbered) in
      ap (slice_get telling.homes) place ∙ ap (λ ts. slice_get ts (length so.done)) so.all ∙ told_place so.done rest told

  -- and it is taken
  pub next_taken : (after : ReplicaState) (new : Change) (reach : ℕ) → reach ≡ count telling.front told.records.home → view_of after ≡ view_of kept → new.front ≡ patch.front → new.purges ≡ patch.purges
      → ((home : ℕ) → 1 ≤ home → spare_at kept.homes home ≤ spare_at after.homes home) → IsGrown (view_of kept) told reach after.homes patch new → IsTakenSo a telling after new old rest
  next_taken after new reach far view front purges room grown =
      let home : count telling.front told.records.home ≡ count telling.front (length so.done + 1) = ap (count telling.front) numbered in
      let place : slice_get telling.homes (length so.done) ≡ Some told = ap (λ ts. slice_get ts (length so.done)) so.all ∙ told_place so.done rest told in
      let more = taken_more a telling told reach (length so.done) kept.homes after.homes patch new so.so
      (subst (λ (v : View). IsGrown v told reach after.homes patch new) so.view grown) numbered place (far ∙ home) front room in
      record {
        done = so.done ++ told ∷ [];
        all = so.all ∙ sym (append_assoc so.done (told ∷ []) rest);
        view = view ∙ so.view;
        front = front ∙ so.front;
        purges = purges ∙ so.purges;
        so = subst (λ (n : ℕ). IsTakenTo a telling after.homes new n) (sym (length-append so.done (told ∷ []))) more;
      }

  -- if the records taken at a home don't have their shape, no view that takes what is told has the
  -- shape (this uses uniqueness at one home, so no merge has to be constructed)
  pub next_broken : (c : View) (reach : ℕ) → reach ≡ count telling.front told.records.home → ((after : List Record) → AreTakenAt (view_of kept) told reach after → AreInShape patch.front told.records.home after → ⊥)
      → IsAbsorbed a telling c → c.front ≡ old.front → HasShape c → ⊥
  next_broken c reach far none absorbed front shape =
      let low : 1 ≤ told.records.home = omega (arith, numbered) in
      let fronts : length kept.front ≡ length a.front = ap (λ (v : View). length v.front) so.view in
      let there = absorbed_there a c telling told reach absorbed low (omega (arith, next_within, fronts)) next_there far in
      none (records_at c.records told.records.home)
      (subst (λ (v : View). AreTakenAt v told reach (records_at c.records told.records.home)) (sym so.view) there)
      (subst (λ (v : List ℕ). AreInShape v told.records.home (records_at c.records told.records.home)) (front ∙ sym so.front) (shape.homes told.records.home low))

-- The whole patch

module _ (kept after : ReplicaState) (telling : Telling) (change : Change) (is : IsReplicaState kept) (told : IsTelling telling) (nodes : length kept.front ≡ length telling.front)
    (view : view_of after ≡ view_of kept) (so : IsTakenTo (view_of kept) telling after.homes change (length kept.front))
    (front : change.front ≡ join_fronts kept.front telling.front) (purges : change.purges ≡ join_fronts kept.purges telling.purges) where
  size : length (view_of kept).records ≡ length kept.front
  size = length-map kept.homes (λ (h : HomeRecords). h.records) ∙ is.homes

  all_homes : IsTakenTo (view_of kept) telling after.homes change (length (view_of kept).records)
  all_homes = subst (λ (n : ℕ). IsTakenTo (view_of kept) telling after.homes change n) (sym size) so

  pub patch_absorbs : IsAbsorbed (view_of kept) telling (patched change (view_of kept))
  patch_absorbs = taken_absorbed (view_of kept) telling after.homes change all_homes nodes size front purges

  pub patch_shapes : IsBelow change.purges change.front → HasShape (patched change (view_of kept))
  patch_shapes below = taken_shape (view_of kept) telling after.homes change all_homes nodes size front purges below

  pub patch_fits : length change.records ≤ after.index.spare → Fits change after
  patch_fits entries =
      let fronts : length after.front ≡ length kept.front = ap (λ (v : View). length v.front) view in
      let low : IsTakenTo (view_of after) telling after.homes change (length after.front) =
      subst (λ (v : View). IsTakenTo v telling after.homes change (length after.front)) (sym view)
      (subst (λ (n : ℕ). IsTakenTo (view_of kept) telling after.homes change n) (sym fronts) so) in
      let purged : length kept.purges ≡ length telling.purges = is.purges ∙ nodes ∙ sym told.purges in
      taken_fits after telling change low
      (ap (λ (v : List ℕ). length v) front ∙ length_join kept.front telling.front nodes ∙ sym fronts)
      (ap (λ (v : List ℕ). length v) purges ∙ length_join kept.purges telling.purges purged ∙ is.purges ∙ sym fronts) entries
