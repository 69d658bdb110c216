-- reading items one after the other, as a loop does
use Rattle.std.proofs.Common.{◌≡◌, ℕ, zero, suc, ◌-◌, ◌+◌, ◌≤◌, ◌<◌, List, [], ◌∷◌, ◌++◌, length, Result, Ok, Err, refl, sym, ap, ◌∙◌, append_assoc, arith}
use Rattle.std.specs.Prelude.{IfOk}
use Rattle.std.proofs.lemmas.List.{append-nil}
use Rattle.wire_frames.specs.declared.input.Stop.{Stop}
use Rattle.wire_frames.specs.declared.input.Stop.TheVariants.{Fault, Cut, ReadFault, Memory}
use Rattle.wire_frames.specs.FrameFields.{Rest, Read, Halt, Short, Broken, ◌>>=◌, Stops, each_at}
use Rattle.wire_frames.specs.Seen.{Seen, Reads, Begins, IsWell, rest_in}

-- the value of a step that did not fail
pub bind_ok : {A B : Type 0} (r : Result A Halt) (f : A → Result B Halt) (y : B) → (r >>= f) ≡ Ok y → (x : A) × (r ≡ Ok x) × (f x ≡ Ok y)
bind_ok (Ok x) f y e = (x, refl, e)
bind_ok (Err d) f y e = absurd cc

abbrev done : {A : Type 0} → A → Result A Halt
done x = Ok x

pub ok_is : {A : Type 0} (x y : A) → done x ≡ done y → x ≡ y
ok_is x y e = cc

-- the items read before, followed by those that are still to be read
abbrev pub with_prefix : {A : Type 0} → List A → Read (List A) → Read (List A)
with_prefix prefix read = read >>= λ x. Ok (prefix ++ x.0, x.1)

regroup : {A : Type 0} (prefix : List A) (n : A) (read : Read (List A)) → with_prefix prefix (read >>= λ x. Ok (n ∷ x.0, x.1)) ≡ with_prefix (prefix ++ n ∷ []) read
regroup {A} prefix n (Ok x) = ap (λ (ns : List A). Ok (ns, x.1)) (simp append_assoc)
regroup prefix n (Err f) = refl

one_more : {S A : Type 0} (item : S → Rest → Read A) (next : S → A → S) (prefix : List A) (left more : ℕ) (s : S) (r : Rest) (x : A) (after : Rest) (total : Read (List A)) → left ≡ suc more → item s r ≡ Ok (x, after)
    → with_prefix prefix (each_at item next left s r) ≡ total → with_prefix (prefix ++ x ∷ []) (each_at item next more (next s x) after) ≡ total
unfolding each_at
one_more item next prefix left more s r x after total k h so_far =
    let one : with_prefix prefix (each_at item next left s r) ≡ with_prefix (prefix ++ x ∷ []) (each_at item next more (next s x) after) = rw (k, h) (regroup prefix x (each_at item next more (next s x) after)) in
    sym one ∙ so_far

stops : {S A : Type 0} (item : S → Rest → Read A) (next : S → A → S) (taken : ℕ) (e : Stop) (prefix : List A) (left more : ℕ) (s : S) (r : Rest) (total : Read (List A)) → left ≡ suc more → Stops taken e (item s r)
    → with_prefix prefix (each_at item next left s r) ≡ total → Stops taken e total
unfolding each_at
stops item next taken Memory prefix left more s r total k h so_far = tt
stops item next taken Cut prefix left more s r total k h so_far =
    let one : with_prefix prefix (each_at item next left s r) ≡ Err Short = rw (k, h) refl in
    sym so_far ∙ one
stops item next taken ReadFault prefix left more s r total k h so_far =
    let one : with_prefix prefix (each_at item next left s r) ≡ Err Short = rw (k, h) refl in
    sym so_far ∙ one
stops item next taken (Fault place) prefix left more s r total k h so_far =
    let one : with_prefix prefix (each_at item next left s r) ≡ Err (Broken place taken) = rw (k, h) refl in
    sym so_far ∙ one

-- the state of a loop that has `left` items still to read
abbrev pub SoFar : {S A : Type 0} → (S → Rest → Read A) → (S → A → S) → ℕ → S → Seen → List A → ℕ → S → Seen → Type 0
SoFar item next count start old prefix left s now =
    (now.first ≡ old.first)
    × ((whole : List ℕ) → Begins now.taken whole → Begins old.taken whole × (with_prefix prefix (each_at item next left s (rest_in whole now)) ≡ each_at item next count start (rest_in whole old)))
    × (IsWell old → IsWell now)

pub goes_on : {S A X : Type 0} (item : S → Rest → Read A) (next : S → A → S) (count : ℕ) (start : S) (old : Seen) (prefix : List A) (i : ℕ) (s : S) (now after : Seen) (view : X → A) (x : X)
    → i < count → SoFar item next count start old prefix (count - i) s now → Reads now after view (Ok x) (item s)
    → SoFar item next count start old (prefix ++ view x ∷ []) (count - (i + 1)) (next s (view x)) after
goes_on item next count start old prefix i s now after view x lt so_far read = (
  read.0 ∙ so_far.0,
  (λ whole f.
      let r = read.2 whole f in
      let p = so_far.1 whole r.0 in
      (p.0, one_more item next prefix (count - i) (count - (i + 1)) s (rest_in whole now) (view x) (rest_in whole after) _ (omega (arith, lt)) r.1 p.1)),
  λ well. read.3 (so_far.2 well),
)

pub ends : {S A : Type 0} (item : S → Rest → Read A) (next : S → A → S) (count : ℕ) (start : S) (old : Seen) (prefix : List A) (i : ℕ) (s : S) (now after : Seen) (e : Stop)
    → i < count → SoFar item next count start old prefix (count - i) s now → Reads now after (λ (x : A). x) (Err e) (item s)
    → Reads old after (λ (xs : List A). xs) (Err e) (each_at item next count start)
ends item next count start old prefix i s now after e lt so_far read =
    let r = read in (
      r.0 ∙ so_far.0,
      r.1,
      (λ whole f.
          let q = r.2 whole f in
          let p = so_far.1 whole q.0 in
          (p.0, stops item next (length after.taken) e prefix (count - i) (count - (i + 1)) s (rest_in whole now) _ (omega (arith, lt)) q.1 p.1)),
      λ well. r.3 (so_far.2 well),
    )

pub is_done : {S A Y : Type 0} (item : S → Rest → Read A) (next : S → A → S) (count : ℕ) (start : S) (old : Seen) (i : ℕ) (s : S) (now : Seen) (views : Y → List A) (y : Y)
    → count ≤ i → SoFar item next count start old (views y) (count - i) s now → Reads old now views (Ok y) (each_at item next count start)
unfolding each_at
is_done {S} {A} item next count start old i s now views y le so_far =
    let k : count - i ≡ 0 = omega arith in (
      so_far.0,
      tt,
      (λ whole f.
          let p = so_far.1 whole f in
          let one : with_prefix (views y) (each_at item next (count - i) s (rest_in whole now)) ≡ Ok (views y, rest_in whole now) = rw k (ap (λ (ns : List A). Ok (ns, rest_in whole now)) (append-nil (views y))) in
          (p.0, sym p.1 ∙ one)),
      so_far.2,
    )

each_length : {S A : Type 0} (item : S → Rest → Read A) (next : S → A → S) (n : ℕ) (s : S) (r : Rest) (xs : List A) (r' : Rest) → each_at item next n s r ≡ Ok (xs, r') → length xs ≡ n
unfolding each_at
each_length item next zero s r xs r' e = let h = ok_is ([], r) (xs, r') e in ap (λ y. length y.0) (sym h)
each_length {S} {A} item next (suc n) s r xs r' e =
    let k : A × Rest → Read (List A) = λ first. each_at item next n (next s first.0) first.1 >>= λ others. Ok (first.0 ∷ others.0, others.1) in
    let b = bind_ok (item s r) k (xs, r') e in
    let l : List A × Rest → Read (List A) = λ others. Ok (b.0.0 ∷ others.0, others.1) in
    let d = bind_ok (each_at item next n (next s b.0.0) b.0.1) l (xs, r') b.2 in
    let h = ok_is (b.0.0 ∷ d.0.0, d.0.1) (xs, r') d.2 in
    let len = each_length item next n (next s b.0.0) b.0.1 d.0.0 d.0.1 d.1 in
    ap (λ (y : List A × Rest). length y.0) (sym h) ∙ ap suc len

pub begins_itself : (taken : List ℕ) → Begins taken taken
unfolding Begins
begins_itself taken = ([], sym (append-nil taken))

pub reads_length : {S A X : Type 0} (item : S → Rest → Read A) (next : S → A → S) (n : ℕ) (s : S) (old new : Seen) (view : X → List A) (result : Result X Stop) → Reads old new view result (each_at item next n s) → IfOk result (λ x. length (view x) ≡ n)
reads_length item next n s old new view (Ok x) read = each_length item next n s _ (view x) _ (read.2 new.taken (begins_itself new.taken)).1
reads_length item next n s old new view (Err e) read = tt
