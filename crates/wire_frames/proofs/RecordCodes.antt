-- the parts of a record
use Rattle.std.proofs.Common.{◌≡◌, ℕ, zero, suc, ◌*◌, ◌-◌, ◌^◌, ◌<◌, ◌≤◌, Bool, true, false, List, [], ◌∷◌, ◌++◌, length, Option, Some, None, refl, subst, ap, arith, length-append}
use Rattle.std.specs.Int.{w8, w64}
use Rattle.std.specs.Prelude.{◌==◌, ◌&&◌, ◌||◌, is_none, is_some, slice_index}
use mathlib.Core.Bool.{not}
use Rattle.std.specs.List.{AllByRecursion}
use Rattle.std.proofs.lemmas.Bool.Decides.{nat_tests}
use Rattle.std.proofs.lemmas.List.Concat.{flat_map-cons}
use Rattle.state_ids.specs.declared.outcome.Verdict.{Verdict}
use Rattle.state_ids.specs.declared.outcome.Verdict.TheVariants.{Close, Cancel}
use Rattle.state_ids.specs.declared.outcome.Outcome.{Outcome}
use Rattle.state_ids.specs.declared.outcome.Outcome.TheVariants.{Busy, Done, Failed}
use Rattle.state_forest.specs.declared.record.Place.{Place}
use Rattle.state_forest.specs.declared.record.Participant.{Participant as ParticipantRecord}
use Rattle.state_forest.specs.declared.record.Member.{Member}
use Rattle.state_forest.specs.declared.record.Member.TheVariants.{Nested, Participant, Left}
use Rattle.state_forest.specs.declared.record.Record.{Record}
use Rattle.wire_frames.specs.declared.order.Last.{Last}
use Rattle.state_facts.specs.Links.{Links, are_links}
use Rattle.wire_frames.specs.declared.marks.Marks.{Marks}
use Rattle.wire_frames.specs.declared.version.Version.{Version}
use Rattle.wire_frames.specs.declared.version.Version.TheVariants.{One, Two}
use Rattle.wire_frames.specs.Versions.{knows}
use Rattle.wire_frames.specs.FrameFields.{many_at, vector_at, Along}
use Rattle.wire_frames.specs.Encoding.{links_text, marks_of, marks_text, parent_mark, parent_body, parent, byte, number, place, decision_mark, outcome_mark, flag_mark, link_text, counted, vector, after_link, told_mark, participant, member_mark, member_body, member, members, record_text_as}
use Rattle.wire_frames.specs.Rules.{is_mark, is_above, is_slot, IsPlace, IsParent, is_decision, is_outcome, is_outcome_for, is_mark_for, is_given_length, is_kept_or_none, is_length_for, may_be, may_be_after, needs_compensate, IsLink, IsParticipant, is_nested, IsMember, next_nested, is_member_count, Context, is_home, is_number, are_stamps, IsRecord}
use Rattle.wire_frames.specs.Reading.{place_at, parent_by, parent_at, decision_of, decision_at, outcome_of, text_at, link_of, link_at, after_at, told_at, last_link_at, links_at, marks_at, participant_at, is_member_mark, member_by, member_at, members_at, read_record_at}
use Rattle.wire_frames.proofs.Together.{all_together, both, may_all, with_both}
use Rattle.wire_frames.proofs.Codes.{IsCode, step, step_from, cased, finish, refit, guarded, ruled, ruled_at, each_code, cells_code, whole_code, number_code, wide8, wide64}

mark_small : (n : ℕ) → is_mark n ≡ true → n ≤ 1
mark_small n e = grind (arith, nat_tests)

slot_small : (s : ℕ) → is_slot s ≡ true → s < 2 ^ 8
slot_small s e = grind (arith, nat_tests)

-- ---- the place where an LRA is nested

pub place_code : (num : ℕ) → IsCode (place_at num) place (IsPlace num)
unfolding place_at place
place_code num = step _ (number_code w64 (2 ^ 64) wide64 (is_above num)) (λ p. p.number) (λ p f. (f.wide, f.number)) (λ above fa.
    cased (number_code w8 (2 ^ 8) wide8 is_slot) (λ slot. record { number = above; slot = slot }) (λ slot fs. refl) (λ slot fs. (record { number = fa.1; wide = fa.0; slot = fs.1 }, refl))
    (λ p f. (p.slot, ap (λ (n : ℕ). record { number = n; slot = p.slot }) f.1, (slot_small p.slot f.0.slot, f.0.slot))))

parent_mark_is : (num : ℕ) (p : Option Place) → IsParent num p → (parent_mark p < 2 ^ 8) × (is_mark (parent_mark p) ≡ true)
parent_mark_is num None f = (omega arith, refl)
parent_mark_is num (Some p) f = (omega arith, refl)

none_is : (num : ℕ) (p : Option Place) → parent_mark p ≡ 0 → p ≡ None
none_is num None e = refl
none_is num (Some p) e = absurd cc

some_is : (num : ℕ) (p : Option Place) → IsParent num p × (parent_mark p ≡ 1) → (x : Place) × (p ≡ Some x) × IsPlace num x
some_is num None f = absurd cc
some_is num (Some p) f = (p, refl, f.0)

parent_by_code : (num tag : ℕ) → (tag < 2 ^ 8) × (is_mark tag ≡ true) → IsCode (λ r. parent_by num tag r) parent_body (λ p. IsParent num p × (parent_mark p ≡ tag))
unfolding parent_by
parent_by_code num zero f = finish None refl (tt, refl) (λ p g. none_is num p g.1)
parent_by_code num (suc zero) f = cased (place_code num) (λ p. Some p) (λ p g. refl) (λ p g. (g, refl)) (some_is num)
parent_by_code num (suc (suc n)) f = absurd (omega (arith, mark_small (suc (suc n)) f.1))

pub parent_code : (num : ℕ) → IsCode (parent_at num) parent (IsParent num)
unfolding parent_at parent
parent_code num = step (λ x. parent_by num x.0 x.1) (number_code w8 (2 ^ 8) wide8 is_mark) parent_mark (parent_mark_is num) (λ tag f. parent_by_code num tag f)

-- ---- marks

decision_small : (n : ℕ) → is_decision n ≡ true → n ≤ 2
decision_small n e = grind (arith, nat_tests)

decision_back : (n : ℕ) → is_decision n ≡ true → decision_mark (decision_of n) ≡ n
decision_back zero e = refl
decision_back (suc zero) e = refl
decision_back (suc (suc zero)) e = refl
decision_back (suc (suc (suc n))) e = absurd (omega (arith, decision_small (suc (suc (suc n))) e))

decision_made : (d : Option Verdict) → (x : ℕ) × (d ≡ decision_of x) × ((x < 2 ^ 8) × (is_decision x ≡ true))
decision_made None = (0, refl, (omega arith, refl))
decision_made (Some Close) = (1, refl, (omega arith, refl))
decision_made (Some Cancel) = (2, refl, (omega arith, refl))

pub decision_code : IsCode decision_at (λ d. byte (decision_mark d)) (λ d. Unit {0})
unfolding decision_at
decision_code = cased (number_code w8 (2 ^ 8) wide8 is_decision) decision_of (λ n f. ap byte (decision_back n f.1)) (λ n f. tt) (λ d f. decision_made d)

-- ---- vectors

pub length-vector : (ns : List ℕ) → length (vector ns) ≡ 8 * length ns
length-vector [] = refl
length-vector (n ∷ ns) =
    let e : length (vector (n ∷ ns)) ≡ length (number n ++ vector ns) = ap length (flat_map-cons number n ns) in
    omega (arith, e, length-append (number n) (vector ns), length-vector ns)

along_all : (P : ℕ → Type 0) (s : ℕ) (ns : List ℕ) → Along (λ (t : ℕ). P) (λ (t x : ℕ). t) s ns → AllByRecursion P ns
along_all P s [] f = tt
along_all P s (n ∷ ns) f = (f.0, along_all P s ns f.1)

all_along : (P : ℕ → Type 0) (s : ℕ) (ns : List ℕ) → AllByRecursion P ns → Along (λ (t : ℕ). P) (λ (t x : ℕ). t) s ns
all_along P s [] f = tt
all_along P s (n ∷ ns) f = (f.0, all_along P s ns f.1)

pub many_code : (n : ℕ) → IsCode (many_at n) vector (λ ns. AllByRecursion (λ x. x < 2 ^ 64) ns × (length ns ≡ n))
unfolding many_at
many_code n = refit (guarded (8 * n) (each_code (λ (s : ℕ). whole_code w64 (2 ^ 64) wide64) n 0) (λ ns f. omega (arith, length-vector ns, f.1)))
    (λ ns f. (along_all (λ x. x < 2 ^ 64) 0 ns f.0, f.1)) (λ ns f. (all_along (λ x. x < 2 ^ 64) 0 ns f.0, f.1))

pub vector_code : (n : ℕ) (rule : List ℕ → Bool) → IsCode (vector_at n rule) vector (λ ns. (AllByRecursion (λ x. x < 2 ^ 64) ns × (length ns ≡ n)) × (rule ns ≡ true))
unfolding vector_at
vector_code n rule = ruled (many_code n) rule

-- ---- links

pub text_code : (fits : ℕ → Bool) (rule : List ℕ → Bool) → ((n : ℕ) → fits n ≡ true → n < 2 ^ 8) → IsCode (text_at fits rule) counted (λ text. (fits (length text) ≡ true) × (rule text ≡ true))
unfolding text_at counted
text_code fits rule small = step_from _ (number_code w8 (2 ^ 8) wide8 fits) (λ text. length text) (λ text f. (small (length text) f.0, f.0)) (λ len fl from.
    refit (ruled_at from.place (cells_code from.place len) rule) (λ text f. ((rw f.0 fl.1, f.1), f.0)) (λ text f. (f.1, f.0.1)))

length_small : (needed allowed : Bool) (n : ℕ) → is_length_for needed allowed n ≡ true → n < 2 ^ 8
length_small needed allowed n e = grind (arith, nat_tests)

-- a link of a length other than zero is one that is given
given_from : (needed allowed : Bool) (n : ℕ) → is_length_for needed allowed (suc n) ≡ true → is_given_length (suc n) ≡ true
given_from needed allowed n e = grind (arith, nat_tests)

some_from : (needed allowed : Bool) (n : ℕ) → is_length_for needed allowed (suc n) ≡ true → ((not needed || true) && (allowed || false)) ≡ true
some_from true true n e = refl
some_from false true n e = refl
some_from true false n e = absurd (let no : is_length_for true false (suc n) ≡ false = grind (arith, nat_tests) in cc)
some_from false false n e = absurd (let no : is_length_for false false (suc n) ≡ false = grind (arith, nat_tests) in cc)

none_from : (needed allowed : Bool) → is_length_for needed allowed 0 ≡ true → ((not needed || false) && (allowed || true)) ≡ true
none_from true true e = absurd cc
none_from true false e = absurd cc
none_from false true e = refl
none_from false false e = refl

length_none : (needed allowed : Bool) → may_be needed allowed None ≡ true → is_length_for needed allowed 0 ≡ true
length_none true true e = absurd cc
length_none true false e = absurd cc
length_none false true e = refl
length_none false false e = refl

length_from : (needed allowed : Bool) (n : ℕ) (text : List ℕ) → may_be needed allowed (Some text) ≡ true → is_given_length n ≡ true → is_length_for needed allowed n ≡ true
length_from true true n text m e = grind (arith, nat_tests, e)
length_from false true n text m e = grind (arith, nat_tests, e)
length_from true false n text m e = absurd cc
length_from false false n text m e = absurd cc

nothing_given : is_given_length 0 ≡ true → ⊥
nothing_given e = cc

link_back : (text : List ℕ) → link_text (link_of text) ≡ text
link_back [] = refl
link_back (c ∷ text) = refl

-- the link may be there, and is there if it is needed
abbrev pub IsLinkFor : (needed allowed : Bool) → Option (List ℕ) → Type 0
IsLinkFor needed allowed o = IsLink o × (may_be needed allowed o ≡ true)

link_kept : (needed allowed : Bool) (text : List ℕ) → (is_length_for needed allowed (length text) ≡ true) × (is_kept_or_none text ≡ true) → IsLinkFor needed allowed (link_of text)
link_kept needed allowed [] f = (tt, none_from needed allowed f.0)
link_kept needed allowed (c ∷ text) f = ((given_from needed allowed (length text) f.0, f.1), some_from needed allowed (length text) f.0)

link_made : (needed allowed : Bool) (o : Option (List ℕ)) → IsLinkFor needed allowed o → (x : List ℕ) × (o ≡ link_of x) × ((is_length_for needed allowed (length x) ≡ true) × (is_kept_or_none x ≡ true))
link_made needed allowed None f = ([], refl, (length_none needed allowed f.1, refl))
link_made needed allowed (Some []) f = absurd (nothing_given f.0.0)
link_made needed allowed (Some (c ∷ text)) f = (c ∷ text, refl, (length_from needed allowed (suc (length text)) (c ∷ text) f.1 f.0.0, f.0.1))

pub link_code : (needed allowed : Bool) → IsCode (link_at needed allowed) (λ o. counted (link_text o)) (IsLinkFor needed allowed)
unfolding link_at
link_code needed allowed = cased (text_code (is_length_for needed allowed) is_kept_or_none (length_small needed allowed)) link_of (λ text f. ap counted (link_back text)) (link_kept needed allowed) (link_made needed allowed)

-- the link for the end, if the version knows it
abbrev pub IsAfter : Version → Bool → Option (List ℕ) → Type 0
IsAfter One needed o = o ≡ None
IsAfter Two needed o = IsLinkFor needed true o

after_code : (v : Version) (needed : Bool) → IsCode (λ r. after_at v needed r) (after_link v) (IsAfter v needed)
unfolding after_at
after_code One needed = finish None refl refl (λ o f. f)
after_code Two needed = link_code needed true

-- ---- participants

outcome_small : (n : ℕ) → is_outcome n ≡ true → n ≤ 3
outcome_small n e = grind (arith, nat_tests)

outcome_back : (n : ℕ) → is_outcome n ≡ true → outcome_mark (outcome_of n) ≡ n
outcome_back zero e = refl
outcome_back (suc zero) e = refl
outcome_back (suc (suc zero)) e = refl
outcome_back (suc (suc (suc zero))) e = refl
outcome_back (suc (suc (suc (suc n)))) e = absurd (omega (arith, outcome_small (suc (suc (suc (suc n)))) e))

outcome_again : (o : Option Outcome) → outcome_of (outcome_mark o) ≡ o
outcome_again None = refl
outcome_again (Some Busy) = refl
outcome_again (Some Done) = refl
outcome_again (Some Failed) = refl

outcome_is : (o : Option Outcome) → (outcome_mark o < 2 ^ 8) × (is_outcome (outcome_mark o) ≡ true)
outcome_is None = (omega arith, refl)
outcome_is (Some Busy) = (omega arith, refl)
outcome_is (Some Done) = (omega arith, refl)
outcome_is (Some Failed) = (omega arith, refl)

outcome_for_small : (link : Option (List ℕ)) (n : ℕ) → is_outcome_for link n ≡ true → is_outcome n ≡ true
outcome_for_small link n e = grind (arith, nat_tests)

flag_back : (n : ℕ) → n ≤ 1 → flag_mark (n == 1) ≡ n
flag_back zero e = refl
flag_back (suc zero) e = refl
flag_back (suc (suc n)) e = absurd (omega (arith, e))

flag_again : (b : Bool) → (flag_mark b == 1) ≡ b
flag_again true = refl
flag_again false = refl

mark_for_small : (link : Option (List ℕ)) (n : ℕ) → is_mark_for link n ≡ true → n ≤ 1
mark_for_small link n e = grind (arith, nat_tests)

abbrev IsToldNumber : Version → Option (List ℕ) → ℕ → Type 0
IsToldNumber One link n = n ≡ 0
IsToldNumber Two link n = (n < 2 ^ 8) × (is_mark_for link n ≡ true)

abbrev told_bytes : Version → ℕ → List ℕ
told_bytes One n = []
told_bytes Two n = byte n

told_code : (v : Version) (link : Option (List ℕ)) → IsCode (λ r. told_at v link r) (told_bytes v) (IsToldNumber v link)
unfolding told_at
told_code One link = finish 0 refl refl (λ n f. f)
told_code Two link = number_code w8 (2 ^ 8) wide8 (is_mark_for link)

told_text : (v : Version) (link : Option (List ℕ)) (x : ℕ) → IsToldNumber v link x → told_mark v (x == 1) ≡ told_bytes v x
told_text One link x f = refl
told_text Two link x f = ap byte (flag_back x (mark_for_small link x f.1))

told_fits : (v : Version) (link : Option (List ℕ)) (x : ℕ) → IsToldNumber v link x → is_mark_for link (flag_mark (x == 1)) ≡ true
told_fits One link x f = rw f (unmarked link)
  where
    unmarked : (link : Option (List ℕ)) → is_mark_for link 0 ≡ true
    unmarked (Some text) = refl
    unmarked None = refl
told_fits Two link x f = rw (flag_back x (mark_for_small link x f.1)) f.1

-- without a link there is no mark
told_made : (v : Version) (link : Option (List ℕ)) (b : Bool) → knows v link ≡ true → is_mark_for link (flag_mark b) ≡ true → IsToldNumber v link (flag_mark b)
told_made One None true k e = absurd cc
told_made One None false k e = refl
told_made One (Some text) b k e = absurd cc
told_made Two link b k e = (omega (arith, mark_for_small link (flag_mark b) e), e)

after_from : (v : Version) (needed : Bool) (a : Option (List ℕ)) → IsLink a → may_be_after v needed a ≡ true → IsAfter v needed a
after_from One needed None l m = refl
after_from One needed (Some a) l m = absurd cc
after_from Two needed a l m = (l, m)

after_link_is : (v : Version) (needed : Bool) (a : Option (List ℕ)) → IsAfter v needed a → IsLink a
after_link_is One needed a f = rw f tt
after_link_is Two needed a f = f.0

may_after_is : (v : Version) (needed : Bool) (a : Option (List ℕ)) → IsAfter v needed a → may_be_after v needed a ≡ true
may_after_is One needed a f = rw f refl
may_after_is Two needed a f = f.1

-- the links keep the rules for a participant's links
record AreGiven (v : Version) (l : Links) : Type 0 where
  complete : IsLink l.complete
  compensate : IsLink l.compensate
  status : IsLink l.status
  forget : IsLink l.forget
  after : IsLink l.after
  together : are_links l ≡ true
  known : knows v l.after ≡ true

-- what each link may be, by itself
record MayEach (v : Version) (l : Links) : Type 0 where
  complete : may_be false true l.complete ≡ true
  compensate : may_be (needs_compensate v l.complete) true l.compensate ≡ true
  status : may_be false (is_some l.compensate) l.status ≡ true
  forget : may_be false (is_some l.compensate) l.forget ≡ true
  after : may_be_after v (is_none l.compensate) l.after ≡ true

may_each : (v : Version) (l : Links) → AreGiven v l → MayEach v l
may_each v l f =
    let a = both (may_be false true l.complete) _ (may_all v l.complete l.compensate l.status l.forget l.after f.together f.known) in
    let b = both (may_be (needs_compensate v l.complete) true l.compensate) _ a.1 in
    let c = both (may_be false (is_some l.compensate) l.status) _ b.1 in
    let d = both (may_be false (is_some l.compensate) l.forget) _ c.1 in
    record { complete = a.0; compensate = b.0; status = c.0; forget = d.0; after = d.1 }

links_made : (l : Links) (a b c d : Option (List ℕ)) → l.complete ≡ a → l.compensate ≡ b → l.status ≡ c → l.forget ≡ d
    → l ≡ record { complete = a; compensate = b; status = c; forget = d; after = l.after }
links_made l a b c d ea eb ec ed = rw (← ea, ← eb, ← ec, ← ed) refl

links_code : (v : Version) → IsCode (links_at v) (links_text v) (AreGiven v)
unfolding links_at last_link_at links_text
links_code v =
    step _ (link_code false true) (λ l. l.complete) (λ l f. (f.complete, (may_each v l f).complete)) (λ a fa.
    step _ (link_code (needs_compensate v a) true) (λ l. l.compensate) (λ l f. (f.0.compensate, rw (← f.1) (may_each v l f.0).compensate)) (λ b fb.
    step _ (link_code false (is_some b)) (λ l. l.status) (λ l f. (f.0.0.status, rw (← f.1) (may_each v l f.0.0).status)) (λ c fc.
    step _ (link_code false (is_some b)) (λ l. l.forget) (λ l f. (f.0.0.0.forget, rw (← f.0.1) (may_each v l f.0.0.0).forget)) (λ d fd.
    cased (after_code v (is_none b))
    (λ e. record { complete = a; compensate = b; status = c; forget = d; after = e })
    (λ e fe. refl)
    (λ e fe.
    let all = all_together v a b c d e (with_both _ _ fa.1 (with_both _ _ fb.1 (with_both _ _ fc.1 (with_both _ _ fd.1 (may_after_is v (is_none b) e fe))))) in
    ((((record { complete = fa.0; compensate = fb.0; status = fc.0; forget = fd.0; after = after_link_is v (is_none b) e fe; together = all.0; known = all.1 }, refl), refl), refl), refl))
    (λ l f. (
      l.after,
      links_made l a b c d f.0.0.0.1 f.0.0.1 f.0.1 f.1,
      after_from v (is_none b) l.after f.0.0.0.0.after (rw (← f.0.0.1) (may_each v l f.0.0.0.0).after),
    ))))))

-- the marks keep the rules for a participant with these links
record AreMarks (links : Links) (m : Marks) : Type 0 where
  completed : is_outcome_for links.complete (outcome_mark m.completed) ≡ true
  compensated : is_outcome_for links.compensate (outcome_mark m.compensated) ≡ true
  forgotten : is_mark_for links.forget (flag_mark m.forgotten) ≡ true
  told : is_mark_for links.after (flag_mark m.told) ≡ true

marks_made : (p : Marks) (m n o : ℕ) → outcome_mark p.completed ≡ m → outcome_mark p.compensated ≡ n → flag_mark p.forgotten ≡ o
    → p ≡ record { completed = outcome_of m; compensated = outcome_of n; forgotten = o == 1; told = flag_mark p.told == 1 }
marks_made p m n o em en eo = rw (← em, ← en, ← eo, outcome_again p.completed, outcome_again p.compensated, flag_again p.forgotten, flag_again p.told) refl

marks_code : (v : Version) (links : Links) → knows v links.after ≡ true → IsCode (marks_at v links) (marks_text v) (AreMarks links)
unfolding marks_at marks_text
marks_code v links known =
    step _ (number_code w8 (2 ^ 8) wide8 (is_outcome_for links.complete)) (λ p. outcome_mark p.completed) (λ p f. ((outcome_is p.completed).0, f.completed)) (λ m fm.
    step _ (number_code w8 (2 ^ 8) wide8 (is_outcome_for links.compensate)) (λ p. outcome_mark p.compensated) (λ p f. ((outcome_is p.compensated).0, f.0.compensated)) (λ n fn.
    step _ (number_code w8 (2 ^ 8) wide8 (is_mark_for links.forget)) (λ p. flag_mark p.forgotten) (λ p f. let g = f.0.0.forgotten in (omega (arith, mark_for_small links.forget (flag_mark p.forgotten) g), g)) (λ o fo.
    cased (told_code v links.after)
    (λ x. record { completed = outcome_of m; compensated = outcome_of n; forgotten = o == 1; told = x == 1 })
    (λ x fx. told_text v links.after x fx)
    (λ x fx.
    let em = outcome_back m (outcome_for_small links.complete m fm.1) in
    let en = outcome_back n (outcome_for_small links.compensate n fn.1) in
    let eo = flag_back o (mark_for_small links.forget o fo.1) in
    (((record { completed = rw em fm.1; compensated = rw en fn.1; forgotten = rw eo fo.1; told = told_fits v links.after x fx }, em), en), eo))
    (λ p f. (flag_mark p.told, marks_made p m n o f.0.0.1 f.0.1 f.1, told_made v links.after p.told known f.0.0.0.told)))))

participant_is : (p : ParticipantRecord) (links : Links) → p.links ≡ links
    → p ≡ record { links = links; completed = p.completed; compensated = p.compensated; forgotten = p.forgotten; told = p.told }
participant_is p links e = rw (← e) refl

given_links : (v : Version) (p : ParticipantRecord) → IsParticipant v p → AreGiven v p.links
given_links v p f = record { complete = f.complete; compensate = f.compensate; status = f.status; forget = f.forget; after = f.after; together = f.together; known = f.known }

given_marks : (v : Version) (p : ParticipantRecord) → IsParticipant v p → AreMarks p.links (marks_of p)
given_marks v p f = record { completed = f.completed; compensated = f.compensated; forgotten = f.forgotten; told = f.told }

pub participant_code : (v : Version) → IsCode (participant_at v) (participant v) (IsParticipant v)
unfolding participant_at participant
participant_code v =
    step _ (links_code v) (λ p. p.links) (given_links v) (λ links fl.
    cased (marks_code v links fl.known)
    (λ m. record { links = links; completed = m.completed; compensated = m.compensated; forgotten = m.forgotten; told = m.told })
    (λ m fm. refl)
    (λ m fm. (
      record {
        complete = fl.complete;
        compensate = fl.compensate;
        status = fl.status;
        forget = fl.forget;
        after = fl.after;
        together = fl.together;
        known = fl.known;
        completed = fm.completed;
        compensated = fm.compensated;
        forgotten = fm.forgotten;
        told = fm.told;
      },
      refl,
    ))
    (λ p f. (marks_of p, participant_is p links f.1, subst (λ (l : Links). AreMarks l (marks_of p)) f.1 (given_marks v p f.0))))

-- ---- members

member_mark_is : (m : Member) → (member_mark m < 2 ^ 8) × (is_member_mark (member_mark m) ≡ true)
member_mark_is (Nested n) = (omega arith, refl)
member_mark_is (Participant p) = (omega arith, refl)
member_mark_is Left = (omega arith, refl)

member_mark_small : (n : ℕ) → is_member_mark n ≡ true → n ≤ 2
member_mark_small n e = grind (arith, nat_tests)

nested_made : (v : Version) (stamp last : ℕ) (m : Member) → IsMember v stamp last m × (member_mark m ≡ 0) → (x : ℕ) × (m ≡ Nested x) × ((x < 2 ^ 64) × (is_nested last stamp x ≡ true))
nested_made v stamp last (Nested n) f = (n, refl, f.0)
nested_made v stamp last (Participant p) f = absurd cc
nested_made v stamp last Left f = absurd cc

participant_made : (v : Version) (stamp last : ℕ) (m : Member) → IsMember v stamp last m × (member_mark m ≡ 1) → (x : ParticipantRecord) × (m ≡ Participant x) × IsParticipant v x
participant_made v stamp last (Nested n) f = absurd cc
participant_made v stamp last (Participant p) f = (p, refl, f.0)
participant_made v stamp last Left f = absurd cc

left_made : (m : Member) → member_mark m ≡ 2 → m ≡ Left
left_made (Nested n) e = absurd cc
left_made (Participant p) e = absurd cc
left_made Left e = refl

member_by_code : (v : Version) (stamp last mark : ℕ) → (mark < 2 ^ 8) × (is_member_mark mark ≡ true) → IsCode (λ r. member_by v stamp last mark r) (member_body v) (λ m. IsMember v stamp last m × (member_mark m ≡ mark))
unfolding member_by
member_by_code v stamp last zero f = cased (number_code w64 (2 ^ 64) wide64 (is_nested last stamp)) (λ n. Nested n) (λ n g. refl) (λ n g. (g, refl)) (nested_made v stamp last)
member_by_code v stamp last (suc zero) f = cased (participant_code v) (λ p. Participant p) (λ p g. refl) (λ p g. (g, refl)) (participant_made v stamp last)
member_by_code v stamp last (suc (suc zero)) f = finish Left refl (tt, refl) (λ m g. left_made m g.1)
member_by_code v stamp last (suc (suc (suc n))) f = absurd (omega (arith, member_mark_small (suc (suc (suc n))) f.1))

pub member_code : (v : Version) (stamp last : ℕ) → IsCode (member_at v stamp last) (member v) (IsMember v stamp last)
unfolding member_at member
member_code v stamp last = step (λ x. member_by v stamp last x.0 x.1) (number_code w8 (2 ^ 8) wide8 is_member_mark) member_mark (λ m f. member_mark_is m) (λ mark f. member_by_code v stamp last mark f)

member_count_small : (n : ℕ) → is_member_count n ≡ true → n < 2 ^ 8
member_count_small n e = grind (arith, nat_tests)

pub members_code : (v : Version) (stamp num : ℕ) → IsCode (members_at v stamp num) (members v) (λ ms. (is_member_count (length ms) ≡ true) × Along (IsMember v stamp) next_nested num ms)
unfolding members_at members
members_code v stamp num = step _ (number_code w8 (2 ^ 8) wide8 is_member_count) (λ ms. length ms) (λ ms f. (member_count_small (length ms) f.0, f.0)) (λ n fn.
    refit (each_code (member_code v stamp) n num) (λ ms f. ((rw f.1 fn.1, f.0), f.1)) (λ ms f. (f.0.1, f.1)))

-- ---- records

record_is : (p : Record) (a b : ℕ) (c : Option Place) (d : ℕ) (e : Option Verdict) (s : List ℕ)
    → p.home ≡ a → p.num ≡ b → p.parent ≡ c → p.deadline ≡ d → p.decision ≡ e → p.stamps ≡ s
    → p ≡ record { home = a; num = b; parent = c; deadline = d; decision = e; stamps = s; members = p.members }
record_is p a b c d e s ea eb ec ed ee es = rw (← ea, ← eb, ← ec, ← ed, ← ee, ← es) refl

pub record_code : (k : Context) (last : Last) → IsCode (read_record_at k last) (record_text_as k.version) (IsRecord k last)
unfolding read_record_at record_text_as
record_code k last =
    step _ (number_code w8 (2 ^ 8) wide8 (is_home (length k.front) last.home)) (λ p. p.home) (λ p f. (f.small, f.home)) (λ a fa.
    step _ (number_code w64 (2 ^ 64) wide64 (is_number k last a)) (λ p. p.num) (λ p f. (f.0.wide, rw (← f.1) f.0.num)) (λ b fb.
    step _ (parent_code b) (λ p. p.parent) (λ p f. rw (← f.1) f.0.0.parent) (λ c fc.
    step _ (whole_code w64 (2 ^ 64) wide64) (λ p. p.deadline) (λ p f. f.0.0.0.deadline) (λ d fd.
    step _ decision_code (λ p. p.decision) (λ p f. tt) (λ e fe.
    step _ (vector_code (length k.front) (are_stamps k a b)) (λ p. p.stamps) (λ p f. let g = f.0.0.0.0.0 in ((g.wide_stamps, g.nodes), rw (← f.0.0.0.0.1, ← f.0.0.0.1) g.stamps)) (λ s fs.
    cased (members_code k.version (slice_index s (a - 1)) b)
    (λ ms. record { home = a; num = b; parent = c; deadline = d; decision = e; stamps = s; members = ms })
    (λ ms fm. refl)
    (λ ms fm. ((((((record { home = fa.1; small = fa.0; num = fb.1; wide = fb.0; parent = fc; deadline = fd; nodes = fs.0.1; stamps = fs.1; wide_stamps = fs.0.0; count = fm.0; members = fm.1 }, refl), refl), refl), refl), refl), refl))
    (λ p f. let g = f.0.0.0.0.0.0 in
    (p.members, record_is p a b c d e s f.0.0.0.0.0.1 f.0.0.0.0.1 f.0.0.0.1 f.0.0.1 f.0.1 f.1, (g.count, rw (← f.1, ← f.0.0.0.0.0.1, ← f.0.0.0.0.1) g.members)))))))))
