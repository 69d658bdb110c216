-- the records that the begins so far have made
use Rattle.std.proofs.Common.{◌≡◌, ◌&&◌, ◌||◌, ◌==◌, ◌∷◌, ◌++◌, ℕ, List, [], refl, sym, ap, subst, ◌∙◌, Bool, true, false, cond, arith, Some, None, find}
use Rattle.std.specs.List.{list_any}
use Rattle.std.proofs.lemmas.Bool.Decides.{nat_tests}
use Rattle.state_ids.specs.Ids.{Id, same_id}
use Rattle.state_facts.specs.declared.fact.Fact.{Fact}
use Rattle.state_facts.specs.Sets.{begins, begins_held, begun_by, is_begin, is_begun, is_held}
use Rattle.state_forest.specs.declared.record.Record.{Record}
use Rattle.state_forest.specs.Forests.{AreOf, HomeRecords, is_of}
use Rattle.state_forest.specs.Gathering.{IsRecordable}
use Rattle.state_forest.specs.Places.{put_record}
use Rattle.state_forest.specs.Records.{record_of}
use Rattle.state_forest.proofs.Bools.{and_left, and_right}
use Rattle.state_forest.proofs.Puts.{put_are_of, put_find}
use Rattle.state_forest.proofs.NumberedMembers.{same_is}

-- the records are those of the held LRAs that were begun so far
abbrev pub StandSoFar : ℕ → ℕ → List Fact → List Fact → List Record → Type 0
StandSoFar nodes home S done records = (l : Id) → l.home ≡ home → find (is_of l) records ≡ cond (is_held S l && is_begun done l) (Some (record_of nodes S l)) None

pub any_last : {X : Type 0} (t : X → Bool) (xs : List X) (x : X) → list_any t (xs ++ x ∷ []) ≡ (list_any t xs || t x)
any_last t [] x = by (t x)
  where
    by : (b : Bool) → (b || false) ≡ b
    by true = refl
    by false = refl
any_last t (y ∷ xs) x = by (t y) (any_last t xs x)
  where
    by : (b : Bool) → list_any t (xs ++ x ∷ []) ≡ (list_any t xs || t x) → (b || list_any t (xs ++ x ∷ [])) ≡ ((b || list_any t xs) || t x)
    by true rest = refl
    by false rest = rest

begins_own_id : (l : Id) (f : Fact) → begins l f ≡ true → begun_by f ≡ l
begins_own_id l f e = same_is (begun_by f) l (and_right (is_begin f.body) _ e)

on_both : {A : Type 0} (h d : Bool) (x y : A) → h ≡ true → cond (h && (d || true)) x y ≡ x
on_both true true x y e = refl
on_both true false x y e = refl
on_both false d x y e = absurd cc

on_neither : {A : Type 0} (h b c : Bool) (x y : A) → h ≡ false → cond (h && b) x y ≡ cond (h && c) x y
on_neither true b c x y e = absurd cc
on_neither false b c x y e = refl

as_before : {A : Type 0} (h d : Bool) (x y : A) → cond (h && d) x y ≡ cond (h && (d || false)) x y
as_before true true x y = refl
as_before true false x y = refl
as_before false d x y = refl

equal_number : (a b : ℕ) → (a == b) ≡ true → a ≡ b
equal_number a b e = grind (arith, nat_tests, e)

same_test : (a b : ℕ) → a ≡ b → (a == b) ≡ true
same_test a b e = grind (arith, nat_tests, e)

-- the next begin is of a held LRA: its record is put
pub stand_put : (nodes home : ℕ) (S done : List Fact) (f : Fact) (records : List Record) (r : Record) (id : Id) → AreOf home records → StandSoFar nodes home S done records → begins_held S home f ≡ true → id ≡ begun_by f → r ≡ record_of nodes S id → StandSoFar nodes home S (done ++ f ∷ []) (put_record r records)
stand_put nodes home S done f records r id order stand begun is made l at =
    put_find home r records l own order
    ∙ by (is_of l r) (begins l f) refl refl
    ∙ ap (λ b. cond (is_held S l && b) (Some (record_of nodes S l)) None) (sym (any_last (begins l) done f))
  where
    begin : is_begin f.body ≡ true
    begin = and_left (is_begin f.body) _ begun

    named : r ≡ record_of nodes S (begun_by f)
    named = made ∙ ap (record_of nodes S) is

    home_is : f.origin ≡ home
    home_is = equal_number f.origin home (and_left (f.origin == home) _ (and_right (is_begin f.body) _ begun))

    held : is_held S (begun_by f) ≡ true
    held = and_right (f.origin == home) _ (and_right (is_begin f.body) _ begun)

    own : r.home ≡ home
    own = ap (λ (x : Record). x.home) named ∙ home_is

    matches : is_of l r ≡ same_id (begun_by f) l
    matches = ap (is_of l) named

    by : (a b : Bool) → is_of l r ≡ a → begins l f ≡ b → cond a (Some r) (find (is_of l) records) ≡ cond (is_held S l && (is_begun done l || b)) (Some (record_of nodes S l)) None
    by true true s t =
        let there : begun_by f ≡ l = begins_own_id l f t in
        let kept : is_held S l ≡ true = ap (is_held S) (sym there) ∙ held in
        ap (λ (x : Record). Some x) (named ∙ ap (record_of nodes S) there) ∙ sym (on_both (is_held S l) (is_begun done l) (Some (record_of nodes S l)) None kept)
    by true false s t = absurd (let wrong : begins l f ≡ true = rw begin (sym matches ∙ s) in cc)
    by false true s t = absurd (let wrong : is_of l r ≡ true = matches ∙ and_right (is_begin f.body) _ t in cc)
    by false false s t = stand l at ∙ as_before (is_held S l) (is_begun done l) (Some (record_of nodes S l)) None

-- the next fact is of an LRA that is not held, or is no begin of the home: nothing is put
pub stand_skip : (nodes home : ℕ) (S done : List Fact) (f : Fact) (records : List Record) → StandSoFar nodes home S done records → begins_held S home f ≡ false → StandSoFar nodes home S (done ++ f ∷ []) records
stand_skip nodes home S done f records stand begun l at =
    stand l at ∙ by (begins l f) refl ∙ ap (λ b. cond (is_held S l && b) (Some (record_of nodes S l)) None) (sym (any_last (begins l) done f))
  where
    by : (b : Bool) → begins l f ≡ b → cond (is_held S l && is_begun done l) (Some (record_of nodes S l)) None ≡ cond (is_held S l && (is_begun done l || b)) (Some (record_of nodes S l)) None
    by true t =
        let there : begun_by f ≡ l = begins_own_id l f t in
        let origin : (f.origin == home) ≡ true = same_test f.origin home (ap (λ (x : Id). x.home) there ∙ at) in
        let gone : is_held S (begun_by f) ≡ false = sym (only (is_begin f.body) (f.origin == home) (is_held S (begun_by f)) (and_left (is_begin f.body) _ t) origin) ∙ begun in
        on_neither (is_held S l) (is_begun done l) (is_begun done l || true) (Some (record_of nodes S l)) None (ap (is_held S) (sym there) ∙ gone)
      where
        only : (a b c : Bool) → a ≡ true → b ≡ true → (a && (b && c)) ≡ c
        only a b c e g = rw (e, g) refl
    by false t = as_before (is_held S l) (is_begun done l) (Some (record_of nodes S l)) None

-- what is known of the records made of the facts so far
pub record IsMade (nodes home : ℕ) (S done : List Fact) (h : HomeRecords) : Type 0 where
  pub own : h.home ≡ home
  pub order : AreOf home h.records
  pub so_far : IsRecordable S → StandSoFar nodes home S done h.records

pub own_home : (home : ℕ) (S : List Fact) (f : Fact) → begins_held S home f ≡ true → f.origin ≡ home
own_home home S f e = equal_number f.origin home (and_left (f.origin == home) _ (and_right (is_begin f.body) _ e))

-- what the test of a begin and its id mean, if it is held
pub begun_is : (b : Bool) (own id : Id) → Some id ≡ cond b (Some own) None → (b ≡ true) × (id ≡ own)
begun_is true own id e = (refl, cc)
begun_is false own id e = absurd cc

pub begun_not : (b : Bool) (own : Id) → None ≡ cond b (Some own) None → b ≡ false
begun_not true own e = absurd cc
begun_not false own e = refl

pub begun_home : (home : ℕ) (S : List Fact) (f : Fact) (id : Id) → Some id ≡ cond (begins_held S home f) (Some (begun_by f)) None → id.home ≡ home
begun_home home S f id e =
    let known = begun_is (begins_held S home f) (begun_by f) id e in
    ap (λ (x : Id). x.home) known.1 ∙ own_home home S f known.0

pub made_put : (nodes home : ℕ) (S done : List Fact) (f : Fact) (old new : HomeRecords) (r : Record) (id : Id) → IsMade nodes home S done old → Some id ≡ cond (begins_held S home f) (Some (begun_by f)) None → r.home ≡ id.home → (IsRecordable S → r ≡ record_of nodes S id) → new.home ≡ old.home → new.records ≡ put_record r old.records → IsMade nodes home S (done ++ f ∷ []) new
made_put nodes home S done f old new r id made begun own is stays records =
    let known = begun_is (begins_held S home f) (begun_by f) id begun in
    record {
      own = stays ∙ made.own;
      order = subst (AreOf home) (sym records) (put_are_of home r old.records (own ∙ begun_home home S f id begun) made.order);
      so_far = λ kept. subst (StandSoFar nodes home S (done ++ f ∷ [])) (sym records) (stand_put nodes home S done f old.records r id made.order (made.so_far kept) known.0 known.1 (is kept));
    }

pub made_skip : (nodes home : ℕ) (S done : List Fact) (f : Fact) (h : HomeRecords) → IsMade nodes home S done h → None ≡ cond (begins_held S home f) (Some (begun_by f)) None → IsMade nodes home S (done ++ f ∷ []) h
made_skip nodes home S done f h made begun =
    record {
      own = made.own;
      order = made.order;
      so_far = λ kept. stand_skip nodes home S done f h.records (made.so_far kept) (begun_not (begins_held S home f) (begun_by f) begun);
    }
