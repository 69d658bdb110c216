-- an LRA gets one stamp in place of another
use Rattle.std.proofs.Common.{◌≡◌, ◌↔◌, ◌⊎◌, inl, inr, ◌≤◌, ◌==◌, ℕ, List, refl, sym, ap, ◌∙◌, Bool, true, false, cond, arith, Option, nat_lt}
use Rattle.std.proofs.lemmas.Bool.Decides.{nat_tests}
use Rattle.state_ids.specs.Ids.{Id, same_id}
use Rattle.state_stamps.specs.declared.stamp_entry.StampEntry.{StampEntry}
use Rattle.state_stamps.specs.Entries.{In, entry_of, id_of, IsRising, put_entry, same_entry, without}
use Rattle.state_stamps.specs.Indexes.{IsIndexOf, with_stamp, without_stamp, with_exchange, stamp_at, with_stamps}
use Rattle.state_stamps.proofs.Orders.{same_parts}
use Rattle.state_stamps.proofs.Putting.{in_put, put_in, put_rises}
use Rattle.state_stamps.proofs.Removing.{in_without, without_in, without_rises}

abbrev made : Id → ℕ → StampEntry
made l stamp = entry_of stamp l

moved_rises : (l : Id) (s t : ℕ) (es : List StampEntry) → IsRising es → IsRising (with_exchange l s t es)
moved_rises l s t es h = by (s == t) (nat_lt 0 t)
  where
    rest : (b : Bool) → IsRising (cond b (without (made l s) es) es)
    rest true = without_rises (made l s) es h
    rest false = h

    by : (b c : Bool) → IsRising (cond b es (cond c (put_entry (made l t) (without_stamp l s es)) (without_stamp l s es)))
    by true c = h
    by false true = put_rises (made l t) (without_stamp l s es) (rest (nat_lt 0 s))
    by false false = rest (nat_lt 0 s)

own : (l : Id) (s : ℕ) (e : StampEntry) → e ≡ made l s → same_id (id_of e) l ≡ true
own l s e i = let itself : same_id l l ≡ true = grind (arith, nat_tests) in ap (λ (x : StampEntry). same_id (id_of x) l) i ∙ itself

is_made : (l : Id) (s : ℕ) (e : StampEntry) → same_id (id_of e) l ≡ true → s ≡ e.stamp → same_entry e (made l s) ≡ true
is_made l s e i same = grind (arith, nat_tests)

not_made : (l : Id) (s : ℕ) (e : StampEntry) → same_id (id_of e) l ≡ false → same_entry e (made l s) ≡ false
not_made l s e i = grind (arith, nat_tests)

-- the entries of other LRAs stay
in_left_other : (l : Id) (s : ℕ) (es : List StampEntry) (e : StampEntry) (b : Bool) → In e (cond b (without (made l s) es) es) → In e es
in_left_other l s es e true i = (in_without (made l s) es e i).0
in_left_other l s es e false i = i

left_other_in : (l : Id) (s : ℕ) (es : List StampEntry) (e : StampEntry) → same_id (id_of e) l ≡ false → (b : Bool) → In e es → In e (cond b (without (made l s) es) es)
left_other_in l s es e o true i = without_in (made l s) es e i (not_made l s e o)
left_other_in l s es e o false i = i

in_entered_other : (l : Id) (t : ℕ) (es : List StampEntry) (e : StampEntry) → same_id (id_of e) l ≡ false → (b : Bool) → In e (cond b (put_entry (made l t) es) es) → In e es
in_entered_other l t es e o true i = by (in_put (made l t) es e i)
  where
    by : (e ≡ made l t) ⊎ In e es → In e es
    by (inl is) = absurd (let same : same_id (id_of e) l ≡ true = own l t e is in cc)
    by (inr j) = j
in_entered_other l t es e o false i = i

entered_other_in : (l : Id) (t : ℕ) (es : List StampEntry) (e : StampEntry) (b : Bool) → In e es → In e (cond b (put_entry (made l t) es) es)
entered_other_in l t es e true i = put_in (made l t) es e (inr i)
entered_other_in l t es e false i = i

others : (l : Id) (s t : ℕ) (es : List StampEntry) (e : StampEntry) → same_id (id_of e) l ≡ false → In e (with_exchange l s t es) ↔ In e es
others l s t es e o = by (s == t)
  where
    by : (b : Bool) → In e (cond b es (with_stamp l t (without_stamp l s es))) ↔ In e es
    by true = ((λ i. i), (λ i. i))
    by false = (
      (λ i. in_left_other l s es e (nat_lt 0 s) (in_entered_other l t (without_stamp l s es) e o (nat_lt 0 t) i)),
      (λ i. entered_other_in l t (without_stamp l s es) e (nat_lt 0 t) (left_other_in l s es e o (nat_lt 0 s) i)),
    )

-- of the LRA's own entries, the one with the old stamp is gone
own_gone : (l : Id) (s : ℕ) (es : List StampEntry) (e : StampEntry) → same_id (id_of e) l ≡ true → (In e es → (1 ≤ e.stamp) × (s ≡ e.stamp)) → (b : Bool) → nat_lt 0 s ≡ b → In e (cond b (without (made l s) es) es) → ⊥
own_gone l s es e o h true t i =
    let gone = in_without (made l s) es e i in
    let same : same_entry e (made l s) ≡ true = is_made l s e o (h gone.0).1 in
    let other : same_entry e (made l s) ≡ false = gone.1 in
    absurd cc
own_gone l s es e o h false t i = let k = h i in let none : s ≡ 0 = zero_of s t in absurd (omega (arith, k.0, k.1, none))
  where
    zero_of : (n : ℕ) → nat_lt 0 n ≡ false → n ≡ 0
    zero_of n t = grind (arith, nat_tests)

-- and the entry that was put is there
own_in : (l : Id) (t : ℕ) (es : List StampEntry) (e : StampEntry) → same_id (id_of e) l ≡ true → (In e es → ⊥) → (b : Bool) → nat_lt 0 t ≡ b → In e (cond b (put_entry (made l t) es) es) ↔ ((1 ≤ e.stamp) × (t ≡ e.stamp))
own_in l t es e o none true p = ((λ i. by (in_put (made l t) es e i)), (λ h. put_in (made l t) es e (inl (same_parts e (made l t) (is_made l t e o h.1)))))
  where
    some : (n : ℕ) → nat_lt 0 n ≡ true → 1 ≤ n
    some n t = grind (arith, nat_tests)

    by : (e ≡ made l t) ⊎ In e es → (1 ≤ e.stamp) × (t ≡ e.stamp)
    by (inl is) = let stamp : e.stamp ≡ t = ap (λ (x : StampEntry). x.stamp) is in (omega (arith, stamp, some t p), sym stamp)
    by (inr j) = absurd (none j)
own_in l t es e o none false p = ((λ i. absurd (none i)), (λ h. let zero_is : t ≡ 0 = zero_of t p in absurd (omega (arith, h.0, h.1, zero_is))))
  where
    zero_of : (n : ℕ) → nat_lt 0 n ≡ false → n ≡ 0
    zero_of n t = grind (arith, nat_tests)

owns : (l : Id) (s t : ℕ) (es : List StampEntry) (e : StampEntry) → same_id (id_of e) l ≡ true → In e es ↔ ((1 ≤ e.stamp) × (s ≡ e.stamp)) → In e (with_exchange l s t es) ↔ ((1 ≤ e.stamp) × (t ≡ e.stamp))
owns l s t es e o h = by (s == t) refl
  where
    same_of : (s == t) ≡ true → s ≡ t
    same_of e = grind (arith, nat_tests)

    by : (b : Bool) → (s == t) ≡ b → In e (cond b es (with_stamp l t (without_stamp l s es))) ↔ ((1 ≤ e.stamp) × (t ≡ e.stamp))
    by true same = ((λ i. let k = h.0 i in (k.0, sym (same_of same) ∙ k.1)), (λ k. h.1 (k.0, same_of same ∙ k.1)))
    by false other = own_in l t (without_stamp l s es) e o (own_gone l s es e o h.0 (nat_lt 0 s) refl) (nat_lt 0 t) refl

same_ids : (a b : Id) → same_id a b ≡ true → a ≡ b
same_ids a b e =
    let home : a.home ≡ b.home = grind (arith, nat_tests) in
    let num : a.num ≡ b.num = grind (arith, nat_tests) in
    two (λ h n. record { home = h; num = n }) a.home a.num b.home b.num home num
  where
    two : (f : ℕ → ℕ → Id) (a b x y : ℕ) → a ≡ x → b ≡ y → f a b ≡ f x y
    two f a b x y e g = cc

-- the entries are those of what is known, with the new stamps of the LRA
pub moved_index : (origin : ℕ) (l : Id) (was now : Option (List ℕ)) (known : Id → Option (List ℕ)) (es : List StampEntry) → known l ≡ was → IsIndexOf origin es known
    → IsIndexOf origin (with_exchange l (stamp_at was origin) (stamp_at now origin) es) (with_stamps l now known)
moved_index origin l was now known es known_is h = record { rising = moved_rises l (stamp_at was origin) (stamp_at now origin) es h.rising; held = λ e. by e (same_id (id_of e) l) refl }
  where
    by : (e : StampEntry) (b : Bool) → same_id (id_of e) l ≡ b → In e (with_exchange l (stamp_at was origin) (stamp_at now origin) es) ↔ ((1 ≤ e.stamp) × (stamp_at (cond b now (known (id_of e))) origin ≡ e.stamp))
    by e true o =
        let at : stamp_at (known (id_of e)) origin ≡ stamp_at was origin = ap (λ (i : Id). stamp_at (known i) origin) (same_ids (id_of e) l o) ∙ ap (λ (v : Option (List ℕ)). stamp_at v origin) known_is in
        owns l (stamp_at was origin) (stamp_at now origin) es e o ((λ i. let k = (h.held e).0 i in (k.0, sym at ∙ k.1)), (λ k. (h.held e).1 (k.0, at ∙ k.1)))
    by e false o =
        let same = others l (stamp_at was origin) (stamp_at now origin) es e o in
        ((λ i. (h.held e).0 (same.0 i)), (λ k. same.1 ((h.held e).1 k)))
