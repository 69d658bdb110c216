-- the number of records
use Rattle.std.proofs.Common.{◌≡◌, ◌&&◌, ◌||◌, ◌==◌, ◌∷◌, ◌++◌, ℕ, suc, List, [], refl, sym, ap, ◌∙◌, Bool, true, false, cond, arith, Some, None, find, filter, length, nat_lt}
use Rattle.std.specs.List.{list_any, AllByRecursion}
use Rattle.std.proofs.lemmas.Bool.Decides.{nat_tests}
use Rattle.state_facts.specs.declared.fact.Fact.{Fact}
use Rattle.state_facts.specs.Sets.{begins, begins_held, begun_by, held_at, is_begun, is_held}
use Rattle.state_forest.specs.declared.record.Record.{Record}
use Rattle.state_forest.specs.Forests.{AreOf, id_of, is_of}
use Rattle.state_forest.specs.Places.{put_record}
use Rattle.state_forest.specs.Records.{record_of}
use Rattle.state_forest.specs.Standing.{AreOnce, Stands}
use Rattle.state_forest.proofs.ParentsAndChains.{begins_at}
use Rattle.state_forest.proofs.RecordsSoFar.{StandSoFar, any_last, own_home, stand_put}
use Rattle.state_forest.proofs.Puts.{put_are_of}
use Rattle.state_forest.proofs.OneListOfRecords.{one_view}

-- the records of the begins of LRAs that are held, put one by one
abbrev built : ℕ → ℕ → List Fact → List Fact → List Record
built nodes home S [] = []
built nodes home S (f ∷ done) = cond (begins_held S home f) (put_record (record_of nodes S (begun_by f)) (built nodes home S done)) (built nodes home S done)

built_are_of : (nodes home : ℕ) (S done : List Fact) → AreOf home (built nodes home S done)
built_are_of nodes home S [] = record { homes = tt; ascending = tt }
built_are_of nodes home S (f ∷ done) = by (begins_held S home f) refl (built_are_of nodes home S done)
  where
    by : (b : Bool) → begins_held S home f ≡ b → AreOf home (built nodes home S done) → AreOf home (cond b (put_record (record_of nodes S (begun_by f)) (built nodes home S done)) (built nodes home S done))
    by true t rest = put_are_of home (record_of nodes S (begun_by f)) (built nodes home S done) (own_home home S f t) rest
    by false t rest = rest

or_turned : (a b : Bool) → (a || b) ≡ (b || a)
or_turned true true = refl
or_turned true false = refl
or_turned false true = refl
or_turned false false = refl

any_first : {X : Type 0} (t : X → Bool) (xs : List X) (x : X) → list_any t (xs ++ x ∷ []) ≡ (t x || list_any t xs)
any_first t xs x = any_last t xs x ∙ or_turned (list_any t xs) (t x)

-- a begin of another home, or one of an LRA that is not held, changes nothing
no_more : (held b d : Bool) (r : Record) → (held ≡ true → b ≡ true → ⊥) → cond (held && d) (Some r) None ≡ cond (held && (b || d)) (Some r) None
no_more false b d r h = refl
no_more true false d r h = refl
no_more true true d r h = absurd (h refl refl)

built_stands : (nodes home : ℕ) (S done : List Fact) → StandSoFar nodes home S done (built nodes home S done)
built_stands nodes home S [] l at = by (is_held S l)
  where
    by : (b : Bool) → ◌≡◌ None (cond (b && false) (Some (record_of nodes S l)) None)
    by true = refl
    by false = refl
built_stands nodes home S (f ∷ done) l at = by (begins_held S home f) refl (built_stands nodes home S done)
  where
    skipped : begins_held S home f ≡ false → is_held S l ≡ true → begins l f ≡ true → ⊥
    skipped t held begin =
        let here = begins_at l f begin in
        grind (arith, nat_tests, t, held, begin, here, at)

    by : (b : Bool) → begins_held S home f ≡ b → StandSoFar nodes home S done (built nodes home S done) → find (is_of l) (cond b (put_record (record_of nodes S (begun_by f)) (built nodes home S done)) (built nodes home S done)) ≡ cond (is_held S l && (begins l f || is_begun done l)) (Some (record_of nodes S l)) None
    by true t rest =
        stand_put nodes home S done f (built nodes home S done) (record_of nodes S (begun_by f)) (begun_by f) (built_are_of nodes home S done) rest t refl refl l at
        ∙ ap (λ b. cond (is_held S l && b) (Some (record_of nodes S l)) None) (any_first (begins l) done f)
    by false t rest = rest l at ∙ no_more (is_held S l) (begins l f) (is_begun done l) (record_of nodes S l) (skipped t)

-- putting a record of an LRA that has no record yet adds one record
one_more : (r : Record) (qs : List Record) → AllByRecursion (λ q. q.home ≡ r.home) qs → find (is_of (id_of r)) qs ≡ None → length (put_record r qs) ≡ suc (length qs)
one_more r [] h e = refl
one_more r (q ∷ qs) h e = by (one_more r qs h.1) (nat_lt q.num r.num) (is_of (id_of r) q) refl e
  where
    there : (q.num == r.num) ≡ true → is_of (id_of r) q ≡ true
    there s = let own = h.0 in grind (arith, nat_tests, s, own)

    by : (find (is_of (id_of r)) qs ≡ None → length (put_record r qs) ≡ suc (length qs)) → (a b : Bool) → is_of (id_of r) q ≡ b → cond b (Some q) (find (is_of (id_of r)) qs) ≡ None → length (cond a (q ∷ put_record r qs) (cond (q.num == r.num) (r ∷ qs) (r ∷ q ∷ qs))) ≡ suc (suc (length qs))
    by rest a true s e = absurd cc
    by rest true false s e = ap (λ n. suc n) (rest e)
    by rest false false s e = here (q.num == r.num) refl
      where
        here : (c : Bool) → (q.num == r.num) ≡ c → length (cond c (r ∷ qs) (r ∷ q ∷ qs)) ≡ suc (suc (length qs))
        here true u = absurd (let wrong = there u in cc)
        here false u = refl

-- facts with other origins and numbers don't begin the LRA that f begins
not_begun : (f : Fact) (done : List Fact) → AllByRecursion (λ g. f.origin ≡ g.origin → f.num ≡ g.num → ⊥) done → is_begun done (begun_by f) ≡ false
not_begun f [] h = refl
not_begun f (g ∷ done) h = by (begins (begun_by f) g) refl (not_begun f done h.1)
  where
    by : (b : Bool) → begins (begun_by f) g ≡ b → is_begun done (begun_by f) ≡ false → (b || is_begun done (begun_by f)) ≡ false
    by true t rest = let at = begins_at (begun_by f) g t in absurd (h.0 (sym at.0) (sym at.1))
    by false t rest = rest

and_none : (a b : Bool) (r : Record) → b ≡ false → cond (a && b) (Some r) None ≡ None
and_none true true r e = absurd cc
and_none true false r e = refl
and_none false b r e = refl

homes_of : (home other : ℕ) (qs : List Record) → other ≡ home → AllByRecursion (λ q. q.home ≡ home) qs → AllByRecursion (λ q. q.home ≡ other) qs
homes_of home other [] e h = tt
homes_of home other (q ∷ qs) e h = (h.0 ∙ sym e, homes_of home other qs e h.1)

-- there is one record for each begin
built_length : (nodes home : ℕ) (S done : List Fact) → AreOnce done → length (built nodes home S done) ≡ length (filter (begins_held S home) done)
built_length nodes home S [] once = refl
built_length nodes home S (f ∷ done) once = by (begins_held S home f) refl (built_length nodes home S done once.1)
  where
    by : (b : Bool) → begins_held S home f ≡ b → length (built nodes home S done) ≡ length (filter (begins_held S home) done) → length (cond b (put_record (record_of nodes S (begun_by f)) (built nodes home S done)) (built nodes home S done)) ≡ length (cond b (f ∷ filter (begins_held S home) done) (filter (begins_held S home) done))
    by false t rest = rest
    by true t rest =
        let own : f.origin ≡ home = own_home home S f t in
        let order = built_are_of nodes home S done in
        let none : find (is_of (begun_by f)) (built nodes home S done) ≡ None = built_stands nodes home S done (begun_by f) own ∙ and_none (is_held S (begun_by f)) (is_begun done (begun_by f)) (record_of nodes S (begun_by f)) (not_begun f done once.0) in
        one_more (record_of nodes S (begun_by f)) (built nodes home S done) (homes_of home f.origin (built nodes home S done) own order.homes) none ∙ ap (λ n. suc n) rest

absorbed : (b c : Bool) (r : Record) → cond ((b && c) && b) (Some r) None ≡ cond (b && c) (Some r) None
absorbed true true r = refl
absorbed true false r = refl
absorbed false c r = refl

-- records that stand for a set in which no fact stands twice number as many as the LRAs of the home
-- that it holds
pub held_count : (nodes home : ℕ) (S : List Fact) (records : List Record) → AreOf home records → Stands nodes home S records → AreOnce S → length records ≡ held_at S home
held_count nodes home S records order stands once =
    ap (λ (qs : List Record). length qs) (one_view nodes home S records (built nodes home S S) order (built_are_of nodes home S S) stands (λ l at. built_stands nodes home S S l at ∙ absorbed (is_begun S l) _ (record_of nodes S l)))
    ∙ built_length nodes home S S once
