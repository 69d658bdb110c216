-- the records of a home in a set with one more fact
use Rattle.std.proofs.Common.{◌≡◌, ◌≤◌, ◌+◌, ℕ, List, refl, sym, ap, subst, ◌∙◌, Bool, true, false, cond, Option, Some, None, find}
use Rattle.state_ids.specs.Ids.{Id, same_id}
use Rattle.state_ids.specs.declared.outcome.Act.{Act}
use Rattle.state_ids.specs.declared.outcome.Outcome.{Outcome}
use Rattle.state_ids.specs.declared.outcome.Verdict.{Verdict}
use Rattle.state_facts.specs.declared.fact.Body.{Body}
use Rattle.state_facts.specs.declared.fact.Body.TheVariants.{Begin, Join, Leave, Decide, Report, Forgot, Told, Purge}
use Rattle.state_facts.specs.declared.fact.Fact.{Fact}
use Rattle.state_facts.specs.Links.{Links}
use Rattle.state_facts.specs.Sets.{begins, begun_by, is_begin, is_held, want, gives_number, numbers_given}
use Rattle.state_forest.specs.declared.record.Record.{Record}
use Rattle.state_forest.specs.Forests.{AreOf, is_of}
use Rattle.state_forest.specs.Places.{put_record}
use Rattle.state_forest.specs.Records.{is_named, record_of}
use Rattle.state_forest.proofs.Bools.{and_left, and_right}
use Rattle.state_forest.proofs.ParentsAndChains.{begins_at}
use Rattle.state_forest.proofs.Puts.{put_find, put_are_of}
use Rattle.state_forest.proofs.NumberedMembers.{same_is, same_self}
use Rattle.theory_history.specs.Growth.{IsMore, IsSettled, record_after, new_record}
use Rattle.theory_history.specs.Views.{AreRecords, is_purge_fact}
use Rattle.theory_history.proofs.LeftAsItWas.{held_kept, held_stays, record_kept}
use Rattle.theory_history.proofs.FactsOfRecords.{decide_record, join_record, parent_record}
use Rattle.theory_history.proofs.FactsOfMembers.{leave_record, report_record, forgot_record, told_record}
use Rattle.theory_history.proofs.NewRecords.{IsHeldAbove, above_begun, begin_record, new_held}
use Rattle.theory_history.proofs.Basics.{false_from, held_begun}

-- a record of l is of no other LRA
of_is_same : (x l : Id) (r : Record) → r.home ≡ l.home → r.num ≡ l.num → is_of x r ≡ same_id l x
of_is_same x l r home num = rw (home, num) refl

of_is : (x l : Id) (r : Record) → r.home ≡ l.home → r.num ≡ l.num → is_of x r ≡ true → l ≡ x
of_is x l r home num e = same_is l x (sym (of_is_same x l r home num) ∙ e)

of_not : (x l : Id) (r : Record) → r.home ≡ l.home → r.num ≡ l.num → is_of x r ≡ false → l ≡ x → ⊥
of_not x l r home num e same = clash (of_is_same x l r home num ∙ ap (same_id l) (sym same) ∙ same_self l)
  where
    clash : is_of x r ≡ true → ⊥
    clash t = let wrong : true ≡ false = sym t ∙ e in cc

-- an LRA that the fact neither begins nor names is found as before
others_stand : (f : Fact) (S T : List Fact) → IsMore f S T → IsSettled S → is_purge_fact f.body ≡ false → ((p : Id) → gives_number p f.body ≡ true → f.origin ≡ p.home) → (nodes : ℕ) (x : Id) → begins x f ≡ false → is_named x f.body ≡ false
    → cond (is_held S x) (Some (record_of nodes S x)) None ≡ cond (is_held T x) (Some (record_of nodes T x)) None
others_stand f S T more settled plain home nodes x b n = by (is_held S x) refl (held_stays f S T more settled.whole plain x b)
  where
    by : (c : Bool) → is_held S x ≡ c → is_held T x ≡ is_held S x → cond c (Some (record_of nodes S x)) None ≡ cond (is_held T x) (Some (record_of nodes T x)) None
    by true held same = let t = same ∙ held in rw t (ap (λ (r : Record). Some r) (sym (record_kept f S T more settled home nodes x (held_begun S x held) n)))
    by false held same = let t = same ∙ held in rw t refl

-- r is found of an LRA that is held and whose record is r
own_stands : (T : List Fact) (nodes : ℕ) (l x : Id) (r : Record) → l ≡ x → is_held T l ≡ true → record_of nodes T l ≡ r → Some r ≡ cond (is_held T x) (Some (record_of nodes T x)) None
own_stands T nodes l x r same held is =
    subst (λ (y : Id). Some r ≡ cond (is_held T y) (Some (record_of nodes T y)) None) same (rw held (ap (λ (q : Record). Some q) (sym is)))

-- a fact that names one LRA, and begins and purges none
record NamesOne (f : Fact) (l : Id) : Type 0 where
  pub no_begin : is_begin f.body ≡ false
  pub plain : is_purge_fact f.body ≡ false
  pub only : (x : Id) → is_named x f.body ≡ true → l ≡ x
  pub home : (p : Id) → gives_number p f.body ≡ true → f.origin ≡ p.home

-- such a fact changes one record
named_stands : (f : Fact) (S T : List Fact) → IsMore f S T → IsSettled S → (nodes : ℕ) (l : Id) (records : List Record) → NamesOne f l → is_held S l ≡ true
    → record_of nodes T l ≡ record_after f (record_of nodes S l) → AreRecords nodes S l.home records → AreRecords nodes T l.home (put_record (record_after f (record_of nodes S l)) records)
named_stands f S T more settled nodes l records names held changed are =
    record {
      order = put_are_of l.home (record_after f (record_of nodes S l)) records refl are.order;
      stands = λ x at. put_find l.home (record_after f (record_of nodes S l)) records x refl are.order ∙ by x at (is_of x (record_after f (record_of nodes S l))) refl;
    }
  where
    none_begun : (x : Id) → begins x f ≡ false
    none_begun x = let none = names.no_begin in rw none refl

    by : (x : Id) → x.home ≡ l.home → (b : Bool) → is_of x (record_after f (record_of nodes S l)) ≡ b → cond b (Some (record_after f (record_of nodes S l))) (find (is_of x) records) ≡ cond (is_held T x) (Some (record_of nodes T x)) None
    by x at true e =
        own_stands T nodes l x (record_after f (record_of nodes S l)) (of_is x l (record_after f (record_of nodes S l)) refl refl e)
        (held_stays f S T more settled.whole names.plain l (none_begun l) ∙ held) changed
    by x at false e =
        are.stands x at
        ∙ others_stand f S T more settled names.plain names.home nodes x (none_begun x)
        (false_from (is_named x f.body) (λ n. of_not x l (record_after f (record_of nodes S l)) refl refl e (names.only x n)))

-- the records with a decision of an LRA that wanted nothing
pub decide_stands : (f : Fact) (S T : List Fact) → IsMore f S T → IsSettled S → (nodes : ℕ) (l : Id) (v : Verdict) (records : List Record) → f.body ≡ Decide l v → is_held S l ≡ true → want S l ≡ None
    → AreRecords nodes S l.home records → AreRecords nodes T l.home (put_record (record_after f (record_of nodes S l)) records)
decide_stands f S T more settled nodes l v records body held none are =
    named_stands f S T more settled nodes l records
    (record {
      no_begin = rw body refl;
      plain = rw body refl;
      only = λ x n. let e : same_id l x ≡ true = rw body at n in same_is l x e;
      home = λ p g. absurd (let wrong : gives_number p (Decide l v) ≡ true = rw body at g in cc);
    })
    held (decide_record f S T more settled nodes l v body (held_begun S l held) none) are

-- the records with a join under the next member number, at its home
pub join_stands : (f : Fact) (S T : List Fact) → IsMore f S T → IsSettled S → (nodes : ℕ) (l : Id) (m : ℕ) (links : Links) (records : List Record) → f.body ≡ Join l m links → f.origin ≡ l.home → m ≡ numbers_given S l + 1 → is_held S l ≡ true
    → AreRecords nodes S l.home records → AreRecords nodes T l.home (put_record (record_after f (record_of nodes S l)) records)
join_stands f S T more settled nodes l m links records body at next held are =
    named_stands f S T more settled nodes l records
    (record {
      no_begin = rw body refl;
      plain = rw body refl;
      only = λ x n. let e : same_id l x ≡ true = rw body at n in same_is l x e;
      home = λ p g. let e : same_id l p ≡ true = rw body at g in at ∙ ap (λ (y : Id). y.home) (same_is l p e);
    })
    held (join_record f S T more settled nodes l m links body at next (held_begun S l held)) are

-- the records with a leave of a member
pub leave_stands : (f : Fact) (S T : List Fact) → IsMore f S T → IsSettled S → (nodes : ℕ) (l : Id) (m : ℕ) (records : List Record) → f.body ≡ Leave l m → 1 ≤ m → is_held S l ≡ true
    → AreRecords nodes S l.home records → AreRecords nodes T l.home (put_record (record_after f (record_of nodes S l)) records)
leave_stands f S T more settled nodes l m records body some held are =
    named_stands f S T more settled nodes l records
    (record {
      no_begin = rw body refl;
      plain = rw body refl;
      only = λ x n. let e : same_id l x ≡ true = rw body at n in same_is l x e;
      home = λ p g. absurd (let wrong : gives_number p (Leave l m) ≡ true = rw body at g in cc);
    })
    held (leave_record f S T more settled nodes l m body some (held_begun S l held)) are

-- the records with a report of a member, by any node
pub report_stands : (f : Fact) (S T : List Fact) → IsMore f S T → IsSettled S → (nodes : ℕ) (l : Id) (m : ℕ) (act : Act) (outcome : Outcome) (records : List Record) → f.body ≡ Report l m act outcome → 1 ≤ m → is_held S l ≡ true
    → AreRecords nodes S l.home records → AreRecords nodes T l.home (put_record (record_after f (record_of nodes S l)) records)
report_stands f S T more settled nodes l m act outcome records body some held are =
    named_stands f S T more settled nodes l records
    (record {
      no_begin = rw body refl;
      plain = rw body refl;
      only = λ x n. let e : same_id l x ≡ true = rw body at n in same_is l x e;
      home = λ p g. absurd (let wrong : gives_number p (Report l m act outcome) ≡ true = rw body at g in cc);
    })
    held (report_record f S T more settled nodes l m act outcome body some (held_begun S l held)) are

-- the records with a forgot of a member, by any node
pub forgot_stands : (f : Fact) (S T : List Fact) → IsMore f S T → IsSettled S → (nodes : ℕ) (l : Id) (m : ℕ) (records : List Record) → f.body ≡ Forgot l m → 1 ≤ m → is_held S l ≡ true
    → AreRecords nodes S l.home records → AreRecords nodes T l.home (put_record (record_after f (record_of nodes S l)) records)
forgot_stands f S T more settled nodes l m records body some held are =
    named_stands f S T more settled nodes l records
    (record {
      no_begin = rw body refl;
      plain = rw body refl;
      only = λ x n. let e : same_id l x ≡ true = rw body at n in same_is l x e;
      home = λ p g. absurd (let wrong : gives_number p (Forgot l m) ≡ true = rw body at g in cc);
    })
    held (forgot_record f S T more settled nodes l m body some (held_begun S l held)) are

-- the records with a told of a member, by any node
pub told_stands : (f : Fact) (S T : List Fact) → IsMore f S T → IsSettled S → (nodes : ℕ) (l : Id) (m : ℕ) (records : List Record) → f.body ≡ Told l m → 1 ≤ m → is_held S l ≡ true
    → AreRecords nodes S l.home records → AreRecords nodes T l.home (put_record (record_after f (record_of nodes S l)) records)
told_stands f S T more settled nodes l m records body some held are =
    named_stands f S T more settled nodes l records
    (record {
      no_begin = rw body refl;
      plain = rw body refl;
      only = λ x n. let e : same_id l x ≡ true = rw body at n in same_is l x e;
      home = λ p g. absurd (let wrong : gives_number p (Told l m) ≡ true = rw body at g in cc);
    })
    held (told_record f S T more settled nodes l m body some (held_begun S l held)) are

-- Begins

-- the record of a new LRA is put among those that stand for all others
new_stands : (f : Fact) (S T : List Fact) → IsMore f S T → IsSettled S → (nodes : ℕ) (parent : Option Id) (deadline : ℕ) (records : List Record) → f.body ≡ Begin parent deadline → IsHeldAbove f S parent → AreOf f.origin records
    → ((x : Id) → x.home ≡ f.origin → begins x f ≡ false → find (is_of x) records ≡ cond (is_held T x) (Some (record_of nodes T x)) None) → AreRecords nodes T f.origin (put_record (new_record nodes S f parent deadline) records)
new_stands f S T more settled nodes parent deadline records body up order others =
    record {
      order = put_are_of f.origin (new_record nodes S f parent deadline) records refl order;
      stands = λ x at. put_find f.origin (new_record nodes S f parent deadline) records x refl order ∙ by x at (is_of x (new_record nodes S f parent deadline)) refl;
    }
  where
    by : (x : Id) → x.home ≡ f.origin → (b : Bool) → is_of x (new_record nodes S f parent deadline) ≡ b → cond b (Some (new_record nodes S f parent deadline)) (find (is_of x) records) ≡ cond (is_held T x) (Some (record_of nodes T x)) None
    by x at true e =
        own_stands T nodes (begun_by f) x (new_record nodes S f parent deadline) (of_is x (begun_by f) (new_record nodes S f parent deadline) refl refl e)
        (new_held f S T more settled parent deadline body up)
        (begin_record f S T more settled nodes parent deadline body (above_begun f S parent up))
    by x at false e =
        others x at (false_from (begins x f) (λ b. of_not x (begun_by f) (new_record nodes S f parent deadline) refl refl e (same_is (begun_by f) x (and_right (is_begin f.body) _ b))))

-- the records with a begin of a root
pub root_stands : (f : Fact) (S T : List Fact) → IsMore f S T → IsSettled S → (nodes : ℕ) (deadline : ℕ) (records : List Record) → f.body ≡ Begin None deadline
    → AreRecords nodes S f.origin records → AreRecords nodes T f.origin (put_record (new_record nodes S f None deadline) records)
root_stands f S T more settled nodes deadline records body are =
    new_stands f S T more settled nodes None deadline records body (λ p e. absurd cc) are.order (λ x at b.
    are.stands x at
    ∙ others_stand f S T more settled (rw body refl) (λ p g. absurd (let wrong : gives_number p (Begin None deadline) ≡ true = rw body at g in cc)) nodes x b (rw body refl))

-- the records with a begin under a parent, at its home: two records change
pub nested_stands : (f : Fact) (S T : List Fact) → IsMore f S T → IsSettled S → (nodes : ℕ) (p : Id) (deadline : ℕ) (records : List Record) → f.body ≡ Begin (Some p) deadline → f.origin ≡ p.home → is_held S p ≡ true
    → AreRecords nodes S f.origin records → AreRecords nodes T f.origin (put_record (new_record nodes S f (Some p) deadline) (put_record (record_after f (record_of nodes S p)) records))
nested_stands f S T more settled nodes p deadline records body at held are =
    new_stands f S T more settled nodes (Some p) deadline (put_record (record_after f (record_of nodes S p)) records) body up
    (put_are_of f.origin (record_after f (record_of nodes S p)) records (sym at) are.order) others
  where
    up : IsHeldAbove f S (Some p)
    up q e = let same : p ≡ q = cc in subst (λ (y : Id). (f.origin ≡ y.home) × (is_held S y ≡ true)) same (at, held)

    home : (q : Id) → gives_number q f.body ≡ true → f.origin ≡ q.home
    home q g = let e : same_id p q ≡ true = rw body at g in at ∙ ap (λ (y : Id). y.home) (same_is p q e)

    by : (x : Id) → x.home ≡ f.origin → begins x f ≡ false → (c : Bool) → is_of x (record_after f (record_of nodes S p)) ≡ c → cond c (Some (record_after f (record_of nodes S p))) (find (is_of x) records) ≡ cond (is_held T x) (Some (record_of nodes T x)) None
    by x own b true e =
        own_stands T nodes p x (record_after f (record_of nodes S p)) (of_is x p (record_after f (record_of nodes S p)) refl refl e)
        (held_kept f S T more settled.whole (rw body refl) p (held_begun S p held) ∙ held)
        (parent_record f S T more settled nodes p deadline body at (held_begun S p held))
    by x own b false e =
        are.stands x own
        ∙ others_stand f S T more settled (rw body refl) home nodes x b
        (false_from (is_named x f.body) (λ n. of_not x p (record_after f (record_of nodes S p)) refl refl e (let s : same_id p x ≡ true = rw body at n in same_is p x s)))

    others : (x : Id) → x.home ≡ f.origin → begins x f ≡ false → find (is_of x) (put_record (record_after f (record_of nodes S p)) records) ≡ cond (is_held T x) (Some (record_of nodes T x)) None
    others x own b = put_find f.origin (record_after f (record_of nodes S p)) records x (sym at) are.order ∙ by x own b (is_of x (record_after f (record_of nodes S p))) refl

-- Other homes

-- the home of the LRA that a fact of this node begins, names or purges
abbrev pub touched_home : ℕ → Body → ℕ
touched_home node (Begin parent deadline) = node
touched_home node (Join id m links) = id.home
touched_home node (Leave id m) = id.home
touched_home node (Decide id verdict) = id.home
touched_home node (Report id m act outcome) = id.home
touched_home node (Forgot id m) = id.home
touched_home node (Told id m) = id.home
touched_home node (Purge root) = root.home

named_home : (node : ℕ) (body : Body) (x : Id) → ((p : Id) → gives_number p body ≡ true → node ≡ p.home) → is_named x body ≡ true → touched_home node body ≡ x.home
named_home node (Begin parent deadline) x home n = home x n
named_home node (Join id m links) x home n = ap (λ (y : Id). y.home) (same_is id x n)
named_home node (Leave id m) x home n = ap (λ (y : Id). y.home) (same_is id x n)
named_home node (Decide id verdict) x home n = ap (λ (y : Id). y.home) (same_is id x n)
named_home node (Report id m act outcome) x home n = ap (λ (y : Id). y.home) (same_is id x n)
named_home node (Forgot id m) x home n = ap (λ (y : Id). y.home) (same_is id x n)
named_home node (Told id m) x home n = ap (λ (y : Id). y.home) (same_is id x n)
named_home node (Purge root) x home n = absurd cc

begun_home : (node : ℕ) (body : Body) → is_begin body ≡ true → touched_home node body ≡ node
begun_home node (Begin parent deadline) b = refl
begun_home node (Join id m links) b = absurd cc
begun_home node (Leave id m) b = absurd cc
begun_home node (Decide id verdict) b = absurd cc
begun_home node (Report id m act outcome) b = absurd cc
begun_home node (Forgot id m) b = absurd cc
begun_home node (Told id m) b = absurd cc
begun_home node (Purge root) b = absurd cc

-- the records of other homes stay the same, if the fact is no purge
pub other_home_stands : (f : Fact) (S T : List Fact) → IsMore f S T → IsSettled S → is_purge_fact f.body ≡ false → ((p : Id) → gives_number p f.body ≡ true → f.origin ≡ p.home) → (nodes home : ℕ) (records : List Record) → (touched_home f.origin f.body ≡ home → ⊥)
    → AreRecords nodes S home records → AreRecords nodes T home records
other_home_stands f S T more settled plain givers nodes home records other are =
    record {
      order = are.order;
      stands = λ x at.
          are.stands x at
          ∙ others_stand f S T more settled plain givers nodes x
          (false_from (begins x f) (λ b. other (begun_home f.origin f.body (and_left (is_begin f.body) _ b) ∙ (begins_at x f b).0 ∙ at)))
          (false_from (is_named x f.body) (λ n. other (named_home f.origin f.body x givers n ∙ at)));
    }
