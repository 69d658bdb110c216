-- frames
use Rattle.std.proofs.Common.{◌≡◌, ℕ, zero, suc, ◌+◌, ◌^◌, ◌<◌, ◌≤◌, Bool, true, false, cond, min, List, [], ◌∷◌, ◌++◌, length, Option, Some, None, Ok, Err, refl, sym, ap, subst, ◌∙◌, arith, length-append}
use Rattle.std.specs.Int.{w8, w16, w32, w64}
use Rattle.std.specs.Prelude.{◌==◌, ◌&&◌, nat_le, slice_index}
use Rattle.std.specs.List.{AllByRecursion}
use Rattle.std.proofs.lemmas.Bool.{eqb-true}
use Rattle.std.proofs.lemmas.Bool.Decides.{nat_tests}
use Rattle.std.proofs.lemmas.List.{append-nil, nil_from_length}
use Rattle.state_ids.specs.Ids.{last_number}
use Rattle.wire_frames.specs.declared.version.Version.{Version}
use Rattle.wire_frames.specs.declared.version.Version.TheVariants.{One, Two}
use Rattle.wire_frames.specs.Versions.{is_version, version_mark, version_of}
use Rattle.state_forest.specs.declared.record.Record.{Record}
use Rattle.wire_frames.specs.Frames.{Frame}
use Rattle.wire_frames.specs.FrameFields.{Rest, Read, Short, Broken, ◌>>=◌, value_of, told_of, Along}
use Rattle.wire_frames.specs.Encoding.{live_mark, live_body, live_list, live, record_text_as, records, body, flat, magic, encoding_as}
use Rattle.wire_frames.specs.Rules.{Context, start, after, is_record_count, IsRecord, is_live_mark, is_live_count, is_live_number, AreLive, IsLive, is_node_count, are_counts, is_front, at_most, IsBody, IsDeltaAs, is_frame_length, by_home}
use Rattle.wire_frames.specs.OneRecord.{IsRecordUnderAs, alone_at, record_in_as, under}
use Rattle.wire_frames.specs.Reading.{read_records_at, live_list_at, live_by, read_live_at, body_at, within, ended_at, framed_at, frame_at, frame_in, versioned_at}
use Rattle.wire_frames.proofs.Codes.{IsBytes, IsCode, IsThere, Takes, bind_ok, rule_ok, ok_is, uncut_bind, uncut_if, step, cased, finish, refit, each_code, number_code, wide8, wide16, wide32, wide64}
use Rattle.wire_frames.proofs.HomeLists.{flat_by_home}
use Rattle.wire_frames.proofs.RecordCodes.{vector_code, record_code}

-- ---- live lists

live_count_small : (n : ℕ) → is_live_count n ≡ true → n < 2 ^ 16
live_count_small n e = grind (arith, nat_tests)

live_mark_small : (base purge n : ℕ) → is_live_mark base purge n ≡ true → n ≤ 1
live_mark_small base purge n e = grind (arith, nat_tests)

live_mark_is : (base purge top : ℕ) (o : Option (List ℕ)) → IsLive base purge top o → (live_mark o < 2 ^ 8) × (is_live_mark base purge (live_mark o) ≡ true)
live_mark_is base purge top None f = (omega arith, f)
live_mark_is base purge top (Some ns) f = (omega arith, f.0)

no_list : (o : Option (List ℕ)) → live_mark o ≡ 0 → o ≡ None
no_list None e = refl
no_list (Some ns) e = absurd cc

list_made : (base purge top : ℕ) (o : Option (List ℕ)) → IsLive base purge top o × (live_mark o ≡ 1) → (x : List ℕ) × (o ≡ Some x) × AreLive top x
list_made base purge top None f = absurd cc
list_made base purge top (Some ns) f = (ns, refl, f.0.1)

live_list_code : (top : ℕ) → IsCode (live_list_at top) live_list (AreLive top)
unfolding live_list_at live_list
live_list_code top = step _ (number_code w16 (2 ^ 16) wide16 is_live_count) (λ ns. length ns) (λ ns f. (live_count_small (length ns) f.0, f.0)) (λ n fn.
    refit (each_code (λ last. number_code w64 (2 ^ 64) wide64 (is_live_number top last)) n 0) (λ ns f. ((rw f.1 fn.1, f.0), f.1)) (λ ns f. (f.0.1, f.1)))

live_by_code : (base purge top mark : ℕ) → (mark < 2 ^ 8) × (is_live_mark base purge mark ≡ true) → IsCode (λ r. live_by top mark r) live_body (λ o. IsLive base purge top o × (live_mark o ≡ mark))
unfolding live_by
live_by_code base purge top zero f = finish None refl (f.1, refl) (λ o g. no_list o g.1)
live_by_code base purge top (suc zero) f = cased (live_list_code top) (λ ns. Some ns) (λ ns g. refl) (λ ns g. ((f.1, g), refl)) (list_made base purge top)
live_by_code base purge top (suc (suc n)) f = absurd (omega (arith, live_mark_small base purge (suc (suc n)) f.1))

live_code : (base purge top : ℕ) → IsCode (read_live_at base purge top) live (IsLive base purge top)
unfolding read_live_at live
live_code base purge top = step (λ x. live_by top x.0 x.1) (number_code w8 (2 ^ 8) wide8 (is_live_mark base purge)) live_mark (live_mark_is base purge top) (λ mark f. live_by_code base purge top mark f)

-- ---- records

nodes_small : (n : ℕ) → is_node_count n ≡ true → n < 2 ^ 8
nodes_small n e = grind (arith, nat_tests)

nodes_few : (n : ℕ) → is_node_count n ≡ true → n ≤ 8
nodes_few n e = grind (arith, nat_tests)

record_count_small : (nodes n : ℕ) → nodes ≤ 8 → is_record_count nodes n ≡ true → n < 2 ^ 16
record_count_small nodes n le e = grind (arith, nat_tests)

pub records_code : (k : Context) → length k.front ≤ 8 → IsCode (read_records_at k) (records k.version) (λ rs. (is_record_count (length k.front) (length rs) ≡ true) × Along (IsRecord k) after start rs)
unfolding read_records_at records
records_code k le = step _ (number_code w16 (2 ^ 16) wide16 (is_record_count (length k.front))) (λ rs. length rs) (λ rs f. (record_count_small (length k.front) (length rs) le f.0, f.0)) (λ n fn.
    refit (each_code (record_code k) n start) (λ rs f. ((rw f.1 fn.1, f.0), f.1)) (λ rs f. (f.0.1, f.1)))

-- ---- bodies

frame_is : (d : Frame) (n : ℕ) (a b c : List ℕ) (l : List (Option (List ℕ))) → length d.base ≡ n → d.base ≡ a → d.front ≡ b → d.purges ≡ c → d.live ≡ l → d.records ≡ by_home (length d.base) (flat d.records)
    → d ≡ record { base = a; front = b; purges = c; live = l; records = by_home n (flat d.records) }
frame_is d n a b c l en ea eb ec el er =
    let one : d ≡ record { base = d.base; front = d.front; purges = d.purges; live = d.live; records = by_home n (flat d.records) } =
    ap (λ (x : List (List Record)). record { base = d.base; front = d.front; purges = d.purges; live = d.live; records = x }) (er ∙ ap (λ (x : ℕ). by_home x (flat d.records)) en) in
    one ∙ rw (← ea, ← eb, ← ec, ← el) refl

-- what the rules of a vector need not ask: its numbers fit because their limits give that
both : (a b : Bool) → (a && b) ≡ true → (a ≡ true) × (b ≡ true)
both true b e = (refl, e)
both false b e = absurd cc

count_fits : (n : ℕ) → nat_le n last_number ≡ true → n < 2 ^ 64
count_fits n e = grind (arith, nat_tests)

fits_under : (n l : ℕ) → nat_le n l ≡ true → l < 2 ^ 64 → n < 2 ^ 64
fits_under n l e lt = grind (arith, nat_tests)

counts_fit : (ns : List ℕ) → are_counts ns ≡ true → AllByRecursion (λ x. x < 2 ^ 64) ns
counts_fit [] e = tt
counts_fit (n ∷ ns) e = let h = both (nat_le n last_number) (are_counts ns) e in (count_fits n h.0, counts_fit ns h.1)

purges_fit : (limits ns : List ℕ) → length ns ≡ length limits → AllByRecursion (λ x. x < 2 ^ 64) limits → at_most limits ns ≡ true → AllByRecursion (λ x. x < 2 ^ 64) ns
purges_fit limits [] len f e = tt
purges_fit [] (n ∷ ns) len f e = absurd cc
purges_fit (l ∷ limits) (n ∷ ns) len f e = let h = both (nat_le n l) (at_most limits ns) e in (fits_under n l h.0 f.0, purges_fit limits ns (omega (arith, len)) f.1 h.1)

front_counts : (base ns : List ℕ) → is_front base ns ≡ true → are_counts ns ≡ true
front_counts base ns e = grind (arith, nat_tests)

pub body_code : (v : Version) → IsCode (body_at v) (body v) (IsBody v)
unfolding body_at body
body_code v =
    step _ (number_code w8 (2 ^ 8) wide8 is_node_count) (λ d. length d.base) (λ d f. (nodes_small (length d.base) f.nodes, f.nodes)) (λ n fn.
    step _ (vector_code n are_counts) (λ d. d.base) (λ d f. ((counts_fit d.base f.0.base, f.1), f.0.base)) (λ a fa.
    step _ (vector_code n (is_front a)) (λ d. d.front) (λ d f. let g = f.0.0 in ((counts_fit d.front (front_counts d.base d.front g.front), g.same_nodes ∙ f.0.1), rw (← f.1) g.front)) (λ b fb.
    step _ (vector_code n (at_most b)) (λ d. d.purges) (λ d f. let g = f.0.0.0 in ((purges_fit d.front d.purges (g.purge_nodes ∙ sym g.same_nodes) (counts_fit d.front (front_counts d.base d.front g.front)) g.purges, g.purge_nodes ∙ f.0.0.1), rw (← f.1) g.purges)) (λ c fc.
    step _ (each_code (λ i. live_code (slice_index a i) (slice_index c i) (slice_index b i)) n 0) (λ d. d.live) (λ d f. let g = f.0.0.0.0 in (rw (← f.0.0.1, ← f.0.1, ← f.1) g.lives, g.live_nodes ∙ f.0.0.0.1)) (λ l fl.
    let k : Context = record { version = v; base = a; front = b; lives = l } in
    let put : (rs : List Record) → (is_record_count (length b) (length rs) ≡ true) × Along (IsRecord k) after start rs → flat (by_home n rs) ≡ rs =
    λ rs fr. ap (λ (x : ℕ). flat (by_home x rs)) (sym fb.0.1) ∙ flat_by_home k start rs fr.1 in
    cased (records_code k (omega (arith, nodes_few n fn.1, fb.0.1)))
    (λ rs. record { base = a; front = b; purges = c; live = l; records = by_home n rs })
    (λ rs fr. ap (records v) (put rs fr))
    (λ rs fr. (
      (
        (
          (
            (
              record {
                nodes = rw fa.0.1 fn.1;
                base = fa.1;
                same_nodes = fb.0.1 ∙ sym fa.0.1;
                front = fb.1;
                purge_nodes = fc.0.1 ∙ sym fa.0.1;
                purges = fc.1;
                live_nodes = fl.1 ∙ sym fa.0.1;
                lives = fl.0;
                count = rw (put rs fr) (rw (fb.0.1 ∙ sym fa.0.1) at fr.0);
                records = rw (put rs fr) fr.1;
                homes = ap (λ (x : ℕ). by_home x rs) (sym fa.0.1) ∙ ap (by_home (length a)) (sym (put rs fr));
              },
              fa.0.1,
            ),
            refl,
          ),
          refl,
        ),
        refl,
      ),
      refl,
    ))
    (λ d f. let g = f.0.0.0.0.0 in
    (flat d.records, frame_is d n a b c l f.0.0.0.0.1 f.0.0.0.1 f.0.0.1 f.0.1 f.1 g.homes, (rw (ap length (sym f.0.0.1) ∙ g.same_nodes) g.count, rw (← f.0.0.0.1, ← f.0.0.1, ← f.1) g.records))))))))

-- ---- what the length bounds

same_place : (n : ℕ) → (n == n) ≡ true
same_place n = grind (arith, nat_tests)

pub ended_code : (v : Version) (len : ℕ) → IsCode (ended_at v len) (body v) (λ d. IsBody v d × (length (body v d) ≡ len))
unfolding ended_at
ended_code v len = record {
  takes = λ r bytes well d r' e.
      let k : Frame × Rest → Read Frame = λ x. cond (x.1.place == r.place + len) (Ok (x.0, record { place = x.1.place; limit = r.limit; ahead = x.1.ahead })) (Err (Broken x.1.place x.1.place)) in
      let b = bind_ok (body_at v (within len r)) k (d, r') e in
      let inside : (within len r).place ≤ (within len r).limit = omega arith in
      let t = (body_code v).takes (within len r) bytes inside b.0.0 b.0.1 b.1 in
      let g = rule_ok (b.0.1.place == r.place + len) (Broken b.0.1.place b.0.1.place) (b.0.0, record { place = b.0.1.place; limit = r.limit; ahead = b.0.1.ahead }) (d, r') b.2 in
      let here : b.0.1.place ≡ r.place + len = eqb-true _ _ g.0 in
      let size : length (body v b.0.0) ≡ len = omega (arith, here, t.1.place) in
      let text : Takes r (body v b.0.0) (record { place = b.0.1.place; limit = r.limit; ahead = b.0.1.ahead }) = record { parts = t.1.parts; place = t.1.place; limit = refl; within = omega (arith, t.1.within, t.1.limit) } in
      let P : Frame × Rest → Type 0 = λ y. (IsBody v y.0 × (length (body v y.0) ≡ len)) × Takes r (body v y.0) y.1 × IsBytes y.1.ahead in
      subst P g.1 ((t.0, size), text, t.2);
  again = λ d f r r' t.
      let mid : Rest = record { place = r'.place; limit = min r.limit (r.place + len); ahead = r'.ahead } in
      let one : body_at v (within len r) ≡ Ok (d, mid) = (body_code v).again d f.0 (within len r) mid (record { parts = t.parts; place = t.place; limit = refl; within = omega (arith, t.place, t.within, t.limit, f.1) }) in
      let at_end : r'.place ≡ r.place + len = omega (arith, t.place, f.1) in
      let two : (r'.place == r.place + len) ≡ true = rw (← at_end) (same_place r'.place) in
      let same : record { place = r'.place; limit = r.limit; ahead = r'.ahead } ≡ r' = ap (λ (n : ℕ). record { place = r'.place; limit = n; ahead = r'.ahead }) (sym t.limit) in
      rw (one, two) (ap (λ (x : Rest). Ok (d, x)) same);
  uncut = λ r bytes well there.
      let inside : (within len r).place ≤ (within len r).limit = omega arith in
      let here : IsThere (within len r) = omega arith in
      uncut_bind (body_at v (within len r)) _ ((body_code v).uncut (within len r) bytes inside here) (λ x e there'.
      let t = (body_code v).takes (within len r) bytes inside x.0 x.1 e in
      let size : length r.ahead ≡ length (body v x.0) + length x.1.ahead = ap length t.1.parts ∙ length-append (body v x.0) x.1.ahead in
      let last : IsThere (record { place = x.1.place; limit = r.limit; ahead = x.1.ahead }) = omega (arith, size, t.1.place, there) in
      uncut_if (x.1.place == r.place + len) x.1.place x.1.place _ last);
}

frame_length_small : (n : ℕ) → is_frame_length n ≡ true → n < 2 ^ 32
frame_length_small n e = grind (arith, nat_tests)

version_back : (n : ℕ) → is_version n ≡ true → version_mark (version_of n) ≡ n
version_back zero e = absurd cc
version_back (suc zero) e = refl
version_back (suc (suc zero)) e = refl
version_back (suc (suc (suc n))) e = absurd (let no : is_version (suc (suc (suc n))) ≡ false = grind (arith, nat_tests) in cc)

version_is : (v : Version) → (version_mark v < 2 ^ 8) × (is_version (version_mark v) ≡ true)
version_is One = (omega arith, refl)
version_is Two = (omega arith, refl)

version_again : (v : Version) → version_of (version_mark v) ≡ v
version_again One = refl
version_again Two = refl

-- a frame with the version of its encoding
abbrev pub IsVersioned : Version × Frame → Type 0
IsVersioned x = IsDeltaAs x.0 x.1

abbrev pub versioned : Version × Frame → List ℕ
versioned x = encoding_as x.0 x.1

versioned_made : (n len : ℕ) (x : Version × Frame) → version_mark x.0 ≡ n → x ≡ (version_of n, x.1)
versioned_made n len x e = ap (λ (v : Version). (v, x.1)) (sym (version_again x.0) ∙ ap version_of e)

pub framed_code : IsCode framed_at versioned IsVersioned
unfolding framed_at
framed_code =
    step _ (number_code w32 (2 ^ 32) wide32 (λ n. n == magic)) (λ x. magic) (λ x f. (omega arith, refl)) (λ m fm.
    step _ (number_code w8 (2 ^ 8) wide8 is_version) (λ x. version_mark x.0) (λ x f. version_is x.0) (λ n fn.
    step _ (number_code w32 (2 ^ 32) wide32 is_frame_length) (λ x. length (body x.0 x.1)) (λ x f. (frame_length_small (length (body x.0 x.1)) f.0.0.short, f.0.0.short)) (λ len fl.
    cased (ended_code (version_of n) len) (λ d. (version_of n, d)) (λ d f. refl)
    (λ d f. (((record { is_body = f.0; short = rw f.1 fl.1 }, sym (eqb-true _ _ fm.1)), version_back n fn.1), f.1))
    (λ x f.
    let made = versioned_made n len x f.0.1 in
    let same : x.0 ≡ version_of n = ap (λ (y : Version × Frame). y.0) made in
    (x.1, made, (subst (λ (v : Version). IsBody v x.1) same f.0.0.0.is_body, ap (λ (v : Version). length (body v x.1)) (sym same) ∙ f.1))))))

-- ---- the laws

value_ok : {A : Type 0} (m : Read A) (x : A) → told_of (value_of m) ≡ Ok x → (y : A × Rest) × (m ≡ Ok y) × (y.0 ≡ x)
value_ok (Ok y) x e = (y, refl, cc)
value_ok (Err Short) x e = absurd cc
value_ok (Err (Broken place reach)) x e = absurd cc

-- one item is read, and then the input must end
abbrev pub ending : {A : Type 0} → (Rest → Read A) → Rest → Read A
ending scan r = scan r >>= λ x. cond (x.1.place == r.limit) (Ok x) (Err (Broken x.1.place x.1.place))

pub whole_takes : {A : Type 0} {scan : Rest → Read A} {encode : A → List ℕ} {Fits : A → Type 0} → IsCode scan encode Fits → (bytes : List ℕ) (a : A) → IsBytes bytes
    → told_of (value_of (ending scan (record { place = 0; limit = length bytes; ahead = bytes }))) ≡ Ok a → Fits a × (bytes ≡ encode a)
whole_takes {A} {scan} {encode} {Fits} code bytes a fits e =
    let r : Rest = record { place = 0; limit = length bytes; ahead = bytes } in
    let v = value_ok (ending scan r) a e in
    let k : A × Rest → Read A = λ x. cond (x.1.place == r.limit) (Ok x) (Err (Broken x.1.place x.1.place)) in
    let b = bind_ok (scan r) k v.0 v.1 in
    let g = rule_ok (b.0.1.place == r.limit) (Broken b.0.1.place b.0.1.place) b.0 v.0 b.2 in
    let t = code.takes r fits (omega arith) b.0.0 b.0.1 b.1 in
    let here : b.0.1.place ≡ length bytes = eqb-true _ _ g.0 in
    let size : length bytes ≡ length (encode b.0.0) + length b.0.1.ahead = ap length t.1.parts ∙ length-append (encode b.0.0) b.0.1.ahead in
    let nothing : b.0.1.ahead ≡ [] = nil_from_length b.0.1.ahead (omega (arith, here, size, t.1.place)) in
    let whole : bytes ≡ encode b.0.0 = t.1.parts ∙ ap (λ (x : List ℕ). encode b.0.0 ++ x) nothing ∙ append-nil (encode b.0.0) in
    let same : b.0.0 ≡ a = ap (λ (x : A × Rest). x.0) g.1 ∙ v.2 in
    subst (λ (x : A). Fits x × (bytes ≡ encode x)) same (t.0, whole)

pub whole_again : {A : Type 0} {scan : Rest → Read A} {encode : A → List ℕ} {Fits : A → Type 0} → IsCode scan encode Fits → (a : A) → Fits a
    → told_of (value_of (ending scan (record { place = 0; limit = length (encode a); ahead = encode a }))) ≡ Ok a
whole_again {A} {scan} {encode} {Fits} code a f =
    let r : Rest = record { place = 0; limit = length (encode a); ahead = encode a } in
    let r' : Rest = record { place = length (encode a); limit = length (encode a); ahead = [] } in
    let one : scan r ≡ Ok (a, r') = code.again a f r r' (record { parts = sym (append-nil (encode a)); place = omega arith; limit = refl; within = omega arith }) in
    rw (one, same_place (length (encode a))) refl

-- the frame is read without its version
dropped : (m : Read (Version × Frame)) (d : Frame) → told_of (value_of (m >>= λ x. Ok (x.0.1, x.1))) ≡ Ok d → (v : Version) × (told_of (value_of m) ≡ Ok (v, d))
dropped (Ok y) d e = let same : y.0.1 ≡ d = cc in (y.0.0, ap (λ (x : Frame). Ok (y.0.0, x)) same)
dropped (Err Short) d e = absurd cc
dropped (Err (Broken place reach)) d e = absurd cc

kept_value : (m : Read (Version × Frame)) (v : Version) (d : Frame) → told_of (value_of m) ≡ Ok (v, d) → told_of (value_of (m >>= λ x. Ok (x.0.1, x.1))) ≡ Ok d
kept_value (Ok y) v d e = let same : y.0 ≡ (v, d) = cc in ap (λ (x : Version × Frame). Ok x.1) same
kept_value (Err Short) v d e = absurd cc
kept_value (Err (Broken place reach)) v d e = absurd cc

pub frame_takes : (bytes : List ℕ) (d : Frame) → IsBytes bytes → frame_in bytes ≡ Ok d → (v : Version) × IsDeltaAs v d × (bytes ≡ encoding_as v d)
unfolding frame_at versioned_at
frame_takes bytes d fits e =
    let r : Rest = record { place = 0; limit = length bytes; ahead = bytes } in
    let x = dropped (versioned_at r) d e in
    let t = whole_takes framed_code bytes (x.0, d) fits x.1 in
    (x.0, t.0, t.1)

pub frame_again : (v : Version) (d : Frame) → IsDeltaAs v d → frame_in (encoding_as v d) ≡ Ok d
unfolding frame_at versioned_at
frame_again v d f = kept_value (versioned_at (record { place = 0; limit = length (encoding_as v d); ahead = encoding_as v d })) v d (whole_again framed_code (v, d) f)

pub record_takes : (v : Version) (front bytes : List ℕ) (kept : Record) → IsBytes bytes → record_in_as v front bytes ≡ Ok kept → IsRecordUnderAs v front kept × (bytes ≡ record_text_as v kept)
unfolding alone_at
record_takes v front bytes kept fits e = whole_takes (record_code (under v front) start) bytes kept fits e

pub record_again : (v : Version) (front : List ℕ) (kept : Record) → IsRecordUnderAs v front kept → record_in_as v front (record_text_as v kept) ≡ Ok kept
unfolding alone_at
record_again v front kept f = whole_again (record_code (under v front) start) kept f

-- no encoding is the beginning of another
pub one_of : {A : Type 0} {scan : Rest → Read A} {encode : A → List ℕ} {Fits : A → Type 0} → IsCode scan encode Fits → (a b : A) (x y : List ℕ) → Fits a → Fits b → encode a ++ x ≡ encode b ++ y → (a ≡ b) × (x ≡ y)
one_of {A} {scan} {encode} {Fits} code a b x y fa fb e =
    let top : ℕ = length (encode a) + length (encode b) in
    let r : Rest = record { place = 0; limit = top; ahead = encode a ++ x } in
    let ra : Rest = record { place = length (encode a); limit = top; ahead = x } in
    let rb : Rest = record { place = length (encode b); limit = top; ahead = y } in
    let one : scan r ≡ Ok (a, ra) = code.again a fa r ra (record { parts = refl; place = omega arith; limit = refl; within = omega arith }) in
    let two : scan r ≡ Ok (b, rb) = code.again b fb r rb (record { parts = e; place = omega arith; limit = refl; within = omega arith }) in
    let same = ok_is (a, ra) (b, rb) (sym one ∙ two) in
    (ap (λ (p : A × Rest). p.0) same, ap (λ (p : A × Rest). p.1.ahead) same)

-- an encoding has one version and one frame
pub one_delta : (v w : Version) (a b : Frame) (x y : List ℕ) → IsDeltaAs v a → IsDeltaAs w b → encoding_as v a ++ x ≡ encoding_as w b ++ y → (v ≡ w) × (a ≡ b) × (x ≡ y)
one_delta v w a b x y fa fb e =
    let one = one_of framed_code (v, a) (w, b) x y fa fb e in
    (ap (λ (p : Version × Frame). p.0) one.0, ap (λ (p : Version × Frame). p.1) one.0, one.1)

pub one_record : (v : Version) (front : List ℕ) (a b : Record) (x y : List ℕ) → IsRecordUnderAs v front a → IsRecordUnderAs v front b → record_text_as v a ++ x ≡ record_text_as v b ++ y → (a ≡ b) × (x ≡ y)
one_record v front = one_of (record_code (under v front) start)
