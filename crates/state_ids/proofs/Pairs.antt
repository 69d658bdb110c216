-- two fronts, compared node by node
use Rattle.std.proofs.Common.{◌≡◌, ◌<◌, ◌+◌, ◌-◌, ℕ, zero, suc, List, [], ◌∷◌, ◌++◌, refl, sym, ap, ◌∙◌, arith, length, take, get_or, max, min, replicate, set}
use Rattle.std.proofs.Math.Seq.{take-append_seam}
use Rattle.std.proofs.lemmas.List.{length-take-le}
use Rattle.state_ids.specs.declared.front.Front.TheInside.{Inside}
use Rattle.state_ids.specs.FrontParts.{IsPadded, counts_of}
use Rattle.state_ids.specs.Fronts.{pairwise, join_fronts, meet_fronts, IsBelow}

-- the first i nodes are paired
abbrev pub paired_to : (ℕ → ℕ → ℕ) → ℕ → List ℕ → List ℕ → List ℕ
paired_to f zero xs ys = xs
paired_to f (suc i) [] ys = []
paired_to f (suc i) (x ∷ xs) [] = x ∷ xs
paired_to f (suc i) (x ∷ xs) (y ∷ ys) = f x y ∷ paired_to f i xs ys

pub paired_at : (f : ℕ → ℕ → ℕ) (i : ℕ) (xs ys : List ℕ) → get_or (paired_to f i xs ys) i 0 ≡ get_or xs i 0
paired_at f zero xs ys = refl
paired_at f (suc i) [] ys = refl
paired_at f (suc i) (x ∷ xs) [] = refl
paired_at f (suc i) (x ∷ xs) (y ∷ ys) = paired_at f i xs ys

pub paired_more : (f : ℕ → ℕ → ℕ) (i : ℕ) (xs ys : List ℕ) → i < length xs → i < length ys → set (paired_to f i xs ys) i (f (get_or xs i 0) (get_or ys i 0)) ≡ paired_to f (suc i) xs ys
paired_more f i [] ys a b = absurd (omega (arith, a))
paired_more f i (x ∷ xs) [] a b = absurd (omega (arith, b))
paired_more f zero (x ∷ xs) (y ∷ ys) a b = refl
paired_more f (suc i) (x ∷ xs) (y ∷ ys) a b = ap (λ r. f x y ∷ r) (paired_more f i xs ys (omega (arith, a)) (omega (arith, b)))

take_pairs : (f : ℕ → ℕ → ℕ) (n : ℕ) (xs ys : List ℕ) → length xs ≡ length ys → take n (pairwise f xs ys) ≡ pairwise f (take n xs) (take n ys)
take_pairs f zero xs ys e = refl
take_pairs f (suc n) [] [] e = refl
take_pairs f (suc n) [] (y ∷ ys) e = absurd cc
take_pairs f (suc n) (x ∷ xs) [] e = absurd cc
take_pairs f (suc n) (x ∷ xs) (y ∷ ys) e = ap (λ r. f x y ∷ r) (take_pairs f n xs ys (omega (arith, e)))

pairs_append : (f : ℕ → ℕ → ℕ) (xs ys zs : List ℕ) → length xs ≡ length ys → pairwise f (xs ++ zs) (ys ++ zs) ≡ pairwise f xs ys ++ pairwise f zs zs
pairs_append f [] [] zs e = refl
pairs_append f [] (y ∷ ys) zs e = absurd cc
pairs_append f (x ∷ xs) [] zs e = absurd cc
pairs_append f (x ∷ xs) (y ∷ ys) zs e = ap (λ r. f x y ∷ r) (pairs_append f xs ys zs (omega (arith, e)))

pairs_one : (f : ℕ → ℕ → ℕ) → ((n : ℕ) → f n n ≡ n) → (zs : List ℕ) → pairwise f zs zs ≡ zs
pairs_one f same [] = refl
pairs_one f same (z ∷ zs) = ap (λ n. n ∷ pairwise f zs zs) (same z) ∙ ap (λ r. z ∷ r) (pairs_one f same zs)

length-pairwise : (f : ℕ → ℕ → ℕ) (xs ys : List ℕ) → length xs ≡ length ys → length (pairwise f xs ys) ≡ length xs
length-pairwise f [] [] e = refl
length-pairwise f [] (y ∷ ys) e = absurd cc
length-pairwise f (x ∷ xs) [] e = absurd cc
length-pairwise f (x ∷ xs) (y ∷ ys) e = ap suc (length-pairwise f xs ys (omega (arith, e)))

-- the fronts have the same number of nodes and of counts, and the counts of both are split at the
-- same place
pub record AreAlike (a b : Inside) : Type 0 where
  pub sizes : length a.counts ≡ length b.counts
  pub nodes : b.nodes ≡ a.nodes
  pub fronts : length (take a.nodes a.counts) ≡ length (take a.nodes b.counts)

pub alike : (a b : Inside) → IsPadded a → IsPadded b → length (counts_of a) ≡ length (counts_of b) → AreAlike a b
alike a b ha hb e =
    let la : length (take a.nodes a.counts) ≡ a.nodes = length-take-le a.nodes a.counts (omega (arith, ha.few, ha.size)) in
    let lb : length (take b.nodes b.counts) ≡ b.nodes = length-take-le b.nodes b.counts (omega (arith, hb.few, hb.size)) in
    let nodes : b.nodes ≡ a.nodes = sym lb ∙ sym e ∙ la in
    record { sizes = ha.size ∙ sym hb.size; nodes = nodes; fronts = e ∙ ap (λ k. length (take k b.counts)) nodes }

pub pairs_kept : (f : ℕ → ℕ → ℕ) → ((n : ℕ) → f n n ≡ n) → (a b : Inside) → IsPadded a → IsPadded b → length (counts_of a) ≡ length (counts_of b)
    → IsPadded (record { nodes = a.nodes; counts = pairwise f a.counts b.counts })
pairs_kept f same a b ha hb e =
    let al = alike a b ha hb e in
    let zs : List ℕ = replicate (8 - a.nodes) 0 in
    let rest : b.counts ≡ take a.nodes b.counts ++ zs = hb.rest ∙ ap (λ k. take k b.counts ++ replicate (8 - k) 0) al.nodes in
    record {
      some = ha.some;
      few = ha.few;
      size = length-pairwise f a.counts b.counts al.sizes ∙ ha.size;
      rest =
          ap (λ r. pairwise f r b.counts) ha.rest ∙ ap (pairwise f (take a.nodes a.counts ++ zs)) rest
          ∙ pairs_append f (take a.nodes a.counts) (take a.nodes b.counts) zs al.fronts
          ∙ ap (λ r. pairwise f (take a.nodes a.counts) (take a.nodes b.counts) ++ r) (pairs_one f same zs)
          ∙ ap (λ r. r ++ zs) (sym (take_pairs f a.nodes a.counts b.counts al.sizes));
    }

pub pairs_seen : (f : ℕ → ℕ → ℕ) (a b : Inside) → IsPadded a → IsPadded b → length (counts_of a) ≡ length (counts_of b)
    → take a.nodes (pairwise f a.counts b.counts) ≡ pairwise f (counts_of a) (counts_of b)
pairs_seen f a b ha hb e =
    let al = alike a b ha hb e in
    take_pairs f a.nodes a.counts b.counts al.sizes ∙ ap (λ k. pairwise f (take a.nodes a.counts) (take k b.counts)) (sym al.nodes)

-- the count that is kept at a place is the one that is seen there
in_front : (xs : List ℕ) (n k : ℕ) → get_or (xs ++ replicate n 0) k 0 ≡ get_or xs k 0
in_front [] zero k = refl
in_front [] (suc n) zero = refl
in_front [] (suc n) (suc k) = in_front [] n k
in_front (x ∷ xs) n zero = refl
in_front (x ∷ xs) n (suc k) = in_front xs n k

pub kept_count : (a : Inside) → IsPadded a → (k : ℕ) → get_or (counts_of a) k 0 ≡ get_or a.counts k 0
kept_count a h k = sym (ap (λ r. get_or r k 0) h.rest ∙ in_front (take a.nodes a.counts) (8 - a.nodes) k)

-- the count of the paired fronts at a place is f of the two counts there
pair_count : (f : ℕ → ℕ → ℕ) → f 0 0 ≡ 0 → (v w : List ℕ) → length v ≡ length w → (k : ℕ) → get_or (pairwise f v w) k 0 ≡ f (get_or v k 0) (get_or w k 0)
pair_count f none [] [] e k = sym none
pair_count f none [] (b ∷ w) e k = absurd cc
pair_count f none (a ∷ v) [] e k = absurd cc
pair_count f none (a ∷ v) (b ∷ w) e zero = refl
pair_count f none (a ∷ v) (b ∷ w) e (suc k) = pair_count f none v w (omega (arith, e)) k

pub join_count : (v w : List ℕ) (k : ℕ) → get_or (join_fronts v w) k 0 ≡ max (get_or v k 0) (get_or w k 0)
join_count [] w k = omega arith
join_count (a ∷ v) [] k = omega arith
join_count (a ∷ v) (b ∷ w) zero = refl
join_count (a ∷ v) (b ∷ w) (suc k) = join_count v w k

pub meet_count : (v w : List ℕ) → length v ≡ length w → (k : ℕ) → get_or (meet_fronts v w) k 0 ≡ min (get_or v k 0) (get_or w k 0)
meet_count v w e k = pair_count min refl v w e k

pub join_above : (v w : List ℕ) → IsBelow v (join_fronts v w) × IsBelow w (join_fronts v w)
join_above v w = (λ node. omega (arith, join_count v w (node - 1)), λ node. omega (arith, join_count v w (node - 1)))

pub join_least : (v w u : List ℕ) → IsBelow v u → IsBelow w u → IsBelow (join_fronts v w) u
join_least v w u a b = λ node. omega (arith, join_count v w (node - 1), a node, b node)

pub meet_below : (v w : List ℕ) → length v ≡ length w → IsBelow (meet_fronts v w) v × IsBelow (meet_fronts v w) w
meet_below v w e = (λ node. omega (arith, meet_count v w e (node - 1)), λ node. omega (arith, meet_count v w e (node - 1)))

pub meet_greatest : (v w u : List ℕ) → length v ≡ length w → IsBelow u v → IsBelow u w → IsBelow u (meet_fronts v w)
meet_greatest v w u e a b = λ node. omega (arith, meet_count v w e (node - 1), a node, b node)

-- The join of two fronts, of which either may have more nodes

length_join : (v w : List ℕ) → length (join_fronts v w) ≡ max (length v) (length w)
length_join [] w = omega arith
length_join (a ∷ v) [] = omega arith
length_join (a ∷ v) (b ∷ w) = omega (arith, length_join v w)

join_none : (v : List ℕ) → join_fronts v [] ≡ v
join_none [] = refl
join_none (a ∷ v) = refl

-- the join of fronts that are filled up with zeros is their join filled up with zeros
join_filled : (v w : List ℕ) (m n k : ℕ) → length v + m ≡ length w + n → k + max (length v) (length w) ≡ length v + m
    → join_fronts (v ++ replicate m 0) (w ++ replicate n 0) ≡ join_fronts v w ++ replicate k 0
join_filled [] [] zero zero zero e l = refl
join_filled [] [] zero zero (suc k) e l = absurd (omega (arith, l))
join_filled [] [] zero (suc n) k e l = absurd (omega (arith, e))
join_filled [] [] (suc m) zero k e l = absurd (omega (arith, e))
join_filled [] [] (suc m) (suc n) zero e l = absurd (omega (arith, l))
join_filled [] [] (suc m) (suc n) (suc k) e l = ap (λ r. 0 ∷ r) (join_filled [] [] m n k (omega (arith, e)) (omega (arith, l)))
join_filled [] (b ∷ w) zero n k e l = absurd (omega (arith, e))
join_filled [] (b ∷ w) (suc m) n k e l =
    let greater : max 0 b ≡ b = omega arith in
    ap (λ x. x ∷ join_fronts (replicate m 0) (w ++ replicate n 0)) greater
    ∙ ap (λ r. b ∷ r) (join_filled [] w m n k (omega (arith, e)) (omega (arith, l)))
join_filled (a ∷ v) [] m zero k e l = absurd (omega (arith, e))
join_filled (a ∷ v) [] m (suc n) k e l =
    let greater : max a 0 ≡ a = omega arith in
    ap (λ x. x ∷ join_fronts (v ++ replicate m 0) (replicate n 0)) greater
    ∙ ap (λ r. a ∷ r) (join_filled v [] m n k (omega (arith, e)) (omega (arith, l)) ∙ ap (λ r. r ++ replicate k 0) (join_none v))
join_filled (a ∷ v) (b ∷ w) m n k e l = ap (λ r. max a b ∷ r) (join_filled v w m n k (omega (arith, e)) (omega (arith, l)))

pub joined_counts : (a b : Inside) → IsPadded a → IsPadded b → join_fronts a.counts b.counts ≡ join_fronts (counts_of a) (counts_of b) ++ replicate (8 - max a.nodes b.nodes) 0
joined_counts a b ha hb =
    let la : length (take a.nodes a.counts) ≡ a.nodes = length-take-le a.nodes a.counts (omega (arith, ha.few, ha.size)) in
    let lb : length (take b.nodes b.counts) ≡ b.nodes = length-take-le b.nodes b.counts (omega (arith, hb.few, hb.size)) in
    ap (λ r. join_fronts r b.counts) ha.rest ∙ ap (join_fronts (take a.nodes a.counts ++ replicate (8 - a.nodes) 0)) hb.rest
    ∙ join_filled (take a.nodes a.counts) (take b.nodes b.counts) (8 - a.nodes) (8 - b.nodes) (8 - max a.nodes b.nodes)
    (omega (arith, la, lb, ha.few, hb.few)) (omega (arith, la, lb, ha.few, hb.few))

pub join_seen : (a b : Inside) → IsPadded a → IsPadded b → take (max a.nodes b.nodes) (join_fronts a.counts b.counts) ≡ join_fronts (counts_of a) (counts_of b)
join_seen a b ha hb =
    let la : length (take a.nodes a.counts) ≡ a.nodes = length-take-le a.nodes a.counts (omega (arith, ha.few, ha.size)) in
    let lb : length (take b.nodes b.counts) ≡ b.nodes = length-take-le b.nodes b.counts (omega (arith, hb.few, hb.size)) in
    let same : max a.nodes b.nodes ≡ length (join_fronts (counts_of a) (counts_of b)) = omega (arith, la, lb, length_join (counts_of a) (counts_of b)) in
    ap (take (max a.nodes b.nodes)) (joined_counts a b ha hb)
    ∙ ap (λ k. take k (join_fronts (counts_of a) (counts_of b) ++ replicate (8 - max a.nodes b.nodes) 0)) same
    ∙ take-append_seam (join_fronts (counts_of a) (counts_of b)) (replicate (8 - max a.nodes b.nodes) 0)

pub join_kept : (a b : Inside) → IsPadded a → IsPadded b → IsPadded (record { nodes = max a.nodes b.nodes; counts = join_fronts a.counts b.counts })
join_kept a b ha hb = record {
  some = omega (arith, ha.some);
  few = omega (arith, ha.few, hb.few);
  size = omega (arith, length_join a.counts b.counts, ha.size, hb.size);
  rest = joined_counts a b ha hb ∙ ap (λ r. r ++ replicate (8 - max a.nodes b.nodes) 0) (sym (join_seen a b ha hb));
}
