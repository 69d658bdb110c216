-- what is taken of another node's records
use Rattle.std.proofs.Common.{◌≡◌, ◌≤◌, ◌<◌, ◌&&◌, ◌||◌, ◌==◌, ◌∷◌, ◌++◌, ℕ, List, [], inl, inr, filter, map, refl, sym, ap, subst, ◌∙◌, Bool, true, false, cond, arith, Option, Some, None, nat_le, is_some, is_none}
use mathlib.Core.Bool.{not}
use Rattle.std.specs.List.{AllByRecursion, list_any}
use Rattle.std.specs.Option.{option_or}
use Rattle.std.proofs.lemmas.Bool.Decides.{nat_tests}
use Rattle.state_ids.specs.Ids.{Id}
use Rattle.state_forest.specs.declared.record.Record.{Record}
use Rattle.state_forest.specs.Forests.{AreOf, id_of, is_of}
use Rattle.state_forest.specs.RecordMerges.{brought, changed_by, home_stamp, is_gone, merged_record, absorbed}
use Rattle.state_forest.specs.OnlyChanges.{IsPut, IsTold}
use Rattle.state_forest.specs.Places.{put_record}
use Rattle.state_forest.specs.Shape.{found_at}
use Rattle.state_forest.proofs.ChangedRecords.{found_changed, found_kept, found_own, keep, none_after, stays}
use Rattle.state_forest.proofs.Puts.{put_are_of, put_behind, put_find}

abbrev at : ℕ → ℕ → Id
at home num = record { home = home; num = num }

-- among records of one home, the number decides whether a record is that of the LRA
pub by_number : (home num : ℕ) (r : Record) → r.home ≡ home → is_of (at home num) r ≡ (r.num == num)
by_number home num r own = let same : (r.home == home) ≡ true = grind (arith, nat_tests, own) in rw same refl

-- What is brought

merged_id : (r t : Record) → ((merged_record r t).home ≡ r.home) × ((merged_record r t).num ≡ r.num)
merged_id r t = by (nat_le (home_stamp t) (home_stamp r)) refl
  where
    by : (b : Bool) → nat_le (home_stamp t) (home_stamp r) ≡ b → ((merged_record r t).home ≡ r.home) × ((merged_record r t).num ≡ r.num)
    by true e = rw e (refl, refl)
    by false e = rw e (refl, refl)

-- what is to be put of an LRA, whether it has a record here or not, if the other node has this
-- record and the receiver has or has not covered its begin
abbrev pub IsNews : (home : ℕ) → List Record → (covered : Bool) → Record → Option Record → Type 0
IsNews home own covered heard put = IsPut (found_at home own heard.num) (brought covered (found_at home own heard.num) (Some heard)) put

-- the put record is of the same LRA
pub news_of : (home : ℕ) (own : List Record) (covered : Bool) (heard next : Record) → heard.home ≡ home
    → IsNews home own covered heard (Some next) → (next.home ≡ home) × (next.num ≡ heard.num)
news_of home own covered heard next of put = by covered (found_at home own heard.num) refl (sym put.0)
  where
    by : (c : Bool) (o : Option Record) → found_at home own heard.num ≡ o → Some next ≡ brought c o (Some heard) → (next.home ≡ home) × (next.num ≡ heard.num)
    by true None f e = absurd cc
    by false None f e = let same : next ≡ heard = cc in (ap (λ (x : Record). x.home) same ∙ of, ap (λ (x : Record). x.num) same)
    by c (Some r) f e =
        let same : next ≡ merged_record r heard = cc in
        let is = found_own home heard.num own r f in
        let id = merged_id r heard in
        (ap (λ (x : Record). x.home) same ∙ id.0 ∙ is.0, ap (λ (x : Record). x.num) same ∙ id.1 ∙ is.1)

-- after it is put, the record is found, and the others are found as before
pub news_found : (home : ℕ) (old : List Record) (next : Record) (num n : ℕ) (b : Bool) → AreOf home old → next.home ≡ home → next.num ≡ num → (num == n) ≡ b
    → found_at home (put_record next old) n ≡ cond b (Some next) (found_at home old n)
news_found home old next num n b order of is e =
    put_find home next old (at home n) of order
    ∙ ap (λ c. cond c (Some next) (found_at home old n)) (by_number home n next of ∙ ap (λ k. k == n) is ∙ e)

-- records with lesser numbers are up to the number
pub up_to : (n : ℕ) (qs : List Record) → AllByRecursion (λ (q : Record). q.num < n) qs → AllByRecursion (λ (q : Record). q.num ≤ n) qs
up_to n [] h = tt
up_to n (q ∷ qs) h = (omega (arith, h.0), up_to n qs h.1)

-- and they still are with a record of that number behind them
pub up_to_it : (n : ℕ) (r : Record) (qs : List Record) → r.num ≡ n → AllByRecursion (λ (q : Record). q.num < n) qs → AllByRecursion (λ (q : Record). q.num ≤ n) (qs ++ r ∷ [])
up_to_it n r [] is h = (omega (arith, is), tt)
up_to_it n r (q ∷ qs) is h = (omega (arith, h.0), up_to_it n r qs is h.1)

-- and none of them has the number
pub none_has : (home n : ℕ) (qs : List Record) → AllByRecursion (λ (q : Record). q.num < n) qs → found_at home qs n ≡ None
none_has home n [] h = refl
none_has home n (q ∷ qs) h =
    let other : is_of (at home n) q ≡ false = let less = h.0 in grind (arith, nat_tests, less) in
    rw other (none_has home n qs h.1)

-- records up to a number have lesser numbers than those behind it
all_lesser : (n m : ℕ) (qs : List Record) → n < m → AllByRecursion (λ (q : Record). q.num ≤ n) qs → AllByRecursion (λ (q : Record). q.num < m) qs
all_lesser n m [] less h = tt
all_lesser n m (q ∷ qs) less h = (omega (arith, less, h.0), all_lesser n m qs less h.1)

all_behind : (n : ℕ) (qs rest : List Record) → AllByRecursion (λ (q : Record). q.num ≤ n) qs → AllByRecursion (λ (t : Record). n < t.num) rest
    → AllByRecursion (λ (t : Record). AllByRecursion (λ (q : Record). q.num < t.num) qs) rest
all_behind n qs [] h less = tt
all_behind n qs (t ∷ rest) h less = (all_lesser n t.num qs less.0 h, all_behind n qs rest h less.1)

-- what is to be put of an LRA of which there may be news
abbrev pub IsRight : (home mine : ℕ) (own : List Record) → ℕ → Option Record → Option Record → Type 0
IsRight home mine own num theirs put = IsPut (found_at home own num) (brought (nat_le num mine) (found_at home own num) theirs) put

-- and what the receiver is to be told of it
abbrev pub IsToldTo : (home : ℕ) (own : List Record) → ℕ → Option Record → Option Record → Type 0
IsToldTo home own num theirs told = IsTold (found_at home own num) theirs told

-- Of all records that the other node has, `rest` is still to be brought, and `records` are what was
-- brought, each as it has to be
pub record IsBringing (Has : ℕ → Option Record → Option Record → Type 0) (home : ℕ) (all rest records : List Record) : Type 0 where
  pub order : AreOf home records
  pub left : AreOf home rest
  pub last : (num : ℕ) → is_some (found_at home rest num) ≡ true → found_at home all num ≡ found_at home rest num
  pub behind : AllByRecursion (λ (t : Record). AllByRecursion (λ (q : Record). q.num < t.num) records) rest
  pub there : (num : ℕ) → is_some (found_at home rest num) ≡ false → Has num (found_at home all num) (found_at home records num)

-- the records after one more is put behind all others
pub record IsPushed (home num : ℕ) (r : Record) (qs : List Record) : Type 0 where
  pub order : AreOf home (qs ++ r ∷ [])
  pub last : AllByRecursion (λ (q : Record). q.num ≤ num) (qs ++ r ∷ [])
  pub found : found_at home (qs ++ r ∷ []) num ≡ Some r
  pub others : (n : ℕ) → (num == n) ≡ false → found_at home (qs ++ r ∷ []) n ≡ found_at home qs n

pub pushed : (home num : ℕ) (r : Record) (qs : List Record) → r.home ≡ home → r.num ≡ num → AreOf home qs → AllByRecursion (λ (q : Record). q.num < num) qs → IsPushed home num r qs
pushed home num r qs of is order less = record {
  order = subst (AreOf home) put (put_are_of home r qs of order);
  last = up_to_it num r qs is less;
  found = let same : (num == num) ≡ true = grind (arith, nat_tests) in
      ap (λ (rs : List Record). found_at home rs num) (sym put) ∙ news_found home qs r num num true order of is same;
  others = λ n other. ap (λ (rs : List Record). found_at home rs n) (sym put) ∙ news_found home qs r num n false order of is other;
}
  where
    put : put_record r qs ≡ qs ++ r ∷ []
    put = put_behind r qs (subst (λ n. AllByRecursion (λ (q : Record). q.num < n) qs) (sym is) less)

-- one more record is brought
pub bringing_more : (Has : ℕ → Option Record → Option Record → Type 0) (home : ℕ) (all rest records new : List Record) (t : Record) → IsBringing Has home all (t ∷ rest) records → AreOf home new
    → AllByRecursion (λ (q : Record). q.num ≤ t.num) new
    → Has t.num (Some t) (found_at home new t.num)
    → ((num : ℕ) → (t.num == num) ≡ false → found_at home new num ≡ found_at home records num)
    → IsBringing Has home all rest new
bringing_more Has home all rest records new t h order last_is put others = record {
  order = order;
  left = record { homes = h.left.homes.1; ascending = h.left.ascending.1 };
  last = λ num e. last num e (t.num == num) refl;
  behind = all_behind t.num new rest last_is h.left.ascending.0;
  there = λ num e. there num e (t.num == num) refl;
}
  where
    none_left : (num : ℕ) → (t.num == num) ≡ true → found_at home rest num ≡ None
    none_left num e = none_after (at home num) t rest h.left.ascending.0 (by_number home num t h.left.homes.0 ∙ e)

    first : (num : ℕ) (b : Bool) → (t.num == num) ≡ b → found_at home (t ∷ rest) num ≡ cond b (Some t) (found_at home rest num)
    first num b e = ap (λ x. cond x (Some t) (found_at home rest num)) (by_number home num t h.left.homes.0 ∙ e)

    last : (num : ℕ) → is_some (found_at home rest num) ≡ true → (b : Bool) → (t.num == num) ≡ b → found_at home all num ≡ found_at home rest num
    last num e true t = absurd (let none = none_left num t in let no : is_some (found_at home rest num) ≡ false = ap is_some none in cc)
    last num e false t = let same = first num false t in h.last num (ap is_some same ∙ e) ∙ same

    there : (num : ℕ) → is_some (found_at home rest num) ≡ false → (b : Bool) → (t.num == num) ≡ b → Has num (found_at home all num) (found_at home new num)
    there num e true s =
        let number : t.num ≡ num = grind (arith, nat_tests, s) in
        let same = first num true s in
        let some : found_at home all num ≡ Some t = h.last num (ap is_some same) ∙ same in
        subst (λ (o : Option Record). Has num o (found_at home new num)) (sym some)
        (subst (λ (n : ℕ). Has n (Some t) (found_at home new n)) number put)
    there num e false s =
        let same = first num false s in
        subst (λ (o : Option Record). Has num (found_at home all num) o) (sym (others num s))
        (h.there num (ap is_some same ∙ e))

-- What is gone

-- the LRAs of which there is a record that passes the test
abbrev pub AreGone : (ℕ → Bool) → ℕ → List Record → List Id → Type 0
AreGone test home own removed = (num : ℕ) → list_any (λ (l : Id). l.num == num) removed ≡ (is_some (found_at home own num) && test num)

pub ids_are_gone : (test : ℕ → Bool) (home : ℕ) (own : List Record) → AllByRecursion (λ (r : Record). r.home ≡ home) own → AreGone test home own (map id_of (filter (λ r. test r.num) own))
ids_are_gone test home [] homes num = refl
ids_are_gone test home (r ∷ rs) homes num =
    by (test r.num) refl (r.num == num) refl (ids_are_gone test home rs homes.1 num)
  where
    own : (c : Bool) → (r.num == num) ≡ c → is_some (found_at home (r ∷ rs) num) ≡ is_some (cond c (Some r) (found_at home rs num))
    own c e = ap (λ b. is_some (cond b (Some r) (found_at home rs num))) (by_number home num r homes.0 ∙ e)

    passes : (b : Bool) → test r.num ≡ b → (r.num == num) ≡ true → test num ≡ b
    passes b e t = let n : r.num ≡ num = grind (arith, nat_tests, t) in ap test (sym n) ∙ e

    none : (a : Bool) → (a && false) ≡ false
    none true = refl
    none false = refl

    by : (b : Bool) → test r.num ≡ b → (c : Bool) → (r.num == num) ≡ c
        → list_any (λ (l : Id). l.num == num) (map id_of (filter (λ q. test q.num) rs)) ≡ (is_some (found_at home rs num) && test num)
        → list_any (λ (l : Id). l.num == num) (map id_of (cond b (r ∷ filter (λ q. test q.num) rs) (filter (λ q. test q.num) rs))) ≡ (is_some (found_at home (r ∷ rs) num) && test num)
    by true e true t rest = ap (λ a. a || list_any (λ (l : Id). l.num == num) (map id_of (filter (λ q. test q.num) rs))) t ∙ sym (passes true e t) ∙ ap (λ a. a && test num) (sym (own true t))
    by true e false t rest = ap (λ a. a || list_any (λ (l : Id). l.num == num) (map id_of (filter (λ q. test q.num) rs))) t ∙ rest ∙ ap (λ a. a && test num) (sym (own false t))
    by false e true t rest =
        rest ∙ ap (λ a. is_some (found_at home rs num) && a) (passes false e t) ∙ none (is_some (found_at home rs num))
        ∙ sym (passes false e t) ∙ ap (λ a. a && test num) (sym (own true t))
    by false e false t rest = rest ∙ ap (λ a. a && test num) (sym (own false t))

-- What is changed

-- among LRAs of one home, the number decides whether a record is that of the LRA
listed : (home : ℕ) (removed : List Id) (r : Record) → AllByRecursion (λ l. l.home ≡ home) removed → r.home ≡ home → list_any (λ l. is_of l r) removed ≡ list_any (λ (l : Id). l.num == r.num) removed
listed home [] r h own = refl
listed home (l ∷ ls) r h own = ap (λ b. b || list_any (λ l. is_of l r) ls) (here (sym h.0)) ∙ ap (λ b. (l.num == r.num) || b) (listed home ls r h.1 own)
  where
    here : home ≡ l.home → is_of l r ≡ (l.num == r.num)
    here at = grind (arith, nat_tests, own, at)

-- The four rules: what is put is put, what is gone is removed, and everything else stays
pub takes : (home told : ℕ) (covered : Bool) (held : Option (List ℕ)) (removed : List Id) (changed own other : List Record) (num : ℕ) → AreOf home changed → AreOf home own
    → AllByRecursion (λ l. l.home ≡ home) removed
    → AreGone (λ n. is_none (found_at home other n) && is_gone told held n) home own removed
    → IsPut (found_at home own num) (brought covered (found_at home own num) (found_at home other num)) (found_at home changed num)
    → found_at home (changed_by removed changed own) num ≡ absorbed covered (is_gone told held num) (found_at home own num) (found_at home other num)
takes home told covered held removed changed own other num c h homes gone put =
    found_changed home removed changed own num c h
    ∙ ap (option_or (found_at home changed num)) (found_kept home removed own num h)
    ∙ by (found_at home own num) refl (found_at home other num) refl (found_at home changed num) put
  where
    among : (r : Record) (n : Option Record) → found_at home own num ≡ Some r → found_at home other num ≡ n → list_any (λ l. is_of l r) removed ≡ (is_none n && is_gone told held num)
    among r n e f =
        let is = found_own home num own r e in
        listed home removed r homes is.0 ∙ ap (λ k. list_any (λ (l : Id). l.num == k) removed) is.1 ∙ gone num
        ∙ ap (λ q. is_some q && (is_none (found_at home other num) && is_gone told held num)) e
        ∙ ap (λ q. is_none q && is_gone told held num) f

    flip : (r : Record) (b : Bool) → cond (not b) (Some r) None ≡ cond b None (Some r)
    flip r true = refl
    flip r false = refl

    by : (o : Option Record) → found_at home own num ≡ o → (n : Option Record) → found_at home other num ≡ n → (p : Option Record) → IsPut o (brought covered o n) p
        → option_or p (keep (stays removed) o) ≡ absorbed covered (is_gone told held num) o n
    by o e None f (Some x) put = absurd (let no = put.0 in cc)
    by None e (Some t) f (Some x) put = sym put.0
    by (Some r) e (Some t) f (Some x) put = sym put.0
    by None e None f None put = refl
    by (Some r) e None f None put = ap (λ b. cond (not b) (Some r) None) (among r None e f) ∙ flip r (is_gone told held num)
    by None e (Some t) f None (inl none) = sym none
    by None e (Some t) f None (inr none) = sym none
    by (Some r) e (Some t) f None (inl none) = absurd cc
    by (Some r) e (Some t) f None (inr same) = ap (λ b. cond (not b) (Some r) None) (among r (Some t) e f) ∙ sym same
