-- Two readings that say the same of the LRAs that are held make the same of a command; so do a view
-- and its set
use Rattle.std.specs.Option.{option_map_or}
use Rattle.std.proofs.Common.{◌≡◌, inl, inr, ◌||◌, ◌≤◌, ◌-◌, ℕ, List, [], ◌∷◌, refl, sym, ap, ◌∙◌, Bool, true, false, arith, Option, Some, None, Ok, find, is_none, is_some, length, nat_lt}
use Rattle.std.proofs.lemmas.List.{get_or_past}
use Rattle.state_ids.specs.Ids.{Id}
use Rattle.state_ids.specs.declared.outcome.Act.{Act}
use Rattle.state_ids.specs.declared.outcome.Outcome.{Outcome}
use Rattle.state_ids.specs.declared.outcome.Verdict.{Verdict}
use Rattle.state_ids.specs.declared.status.LraStatus.{LraStatus}
use Rattle.state_facts.specs.declared.fact.Fact.{Fact}
use Rattle.state_facts.specs.declared.refusal.Refusal.{Refusal}
use Rattle.state_facts.specs.declared.refusal.Refusal.TheVariants.{DepthFull, LrasFull, MembersFull, NotActive, NotDue, NotEnded, NotHeld, NotRoot, StillToForget, StillToTell, UnknownMember}
use Rattle.state_facts.specs.Refusals.{unless, first, unknown, away, spent}
use Rattle.state_facts.specs.Sets.{IsNumbered, is_held, want}
use Rattle.state_forest.specs.declared.duties.Due.{Due}
use Rattle.state_forest.specs.declared.record.Record.{Record}
use Rattle.state_forest.specs.Forests.{is_of}
use Rattle.state_forest.specs.Standing.{Stands, answered}
use Rattle.state_forest.proofs.Bools.{all_from, all_in}
use Rattle.state_forest.proofs.ToldByChains.{end_told_said, hear_said, owed_said, root_said, told_said}
use Rattle.state_forest.proofs.LeastDutyUnderARoot.{least_said, least_untold_said}
use Rattle.state_forest.proofs.RecordCounts.{held_count}
use Rattle.state_forest.proofs.MembersAndStamps.{find_in}
use Rattle.state_forest.proofs.RecordsSayTheSet.{demanded_said, depth_said, ended_said, heard_said, member_shown_said, numbers_said, participant_said, shown_said, want_said}
use Rattle.state_facts.specs.declared.command.Command.{Command}
use Rattle.state_facts.specs.declared.command.Command.TheVariants.{Begin, Join, Leave, Decide, Report, Forgot, Told, Purge}
use Rattle.theory_history.specs.Growth.{IsSettled}
use Rattle.theory_history.specs.Next.{judge_on}
use Rattle.theory_history.specs.Readings.{by_view}
use Rattle.theory_history.specs.Replies.{Reading, by_facts, full_by, deep_by, crowded_by, is_known_by, judge_by, refusal_by, running_by, inactive_by, unasked_by, unforgotten_by, untold_by, unowed_by, early_by, judge, judged}
use Rattle.theory_history.specs.Views.{StandsFor, View, record_at, records_at}
use Rattle.theory_history.proofs.PatchesAddFacts.{found_record, held_home}
use Rattle.theory_history.proofs.Covered.{found_of, nested_settled}
use Rattle.theory_history.proofs.Basics.{at_most, open_first, passed}
use Rattle.theory_history.proofs.ReplyOrRefusal.{held_within, never_lost}

-- the readings say the same of the LRAs that are held, and of how many there are at each node
pub record AreAlike (nodes : ℕ) (t u : Reading) : Type 0 where
  pub held : (l : Id) → t.held l ≡ u.held l
  pub want : (l : Id) → u.held l ≡ true → t.want l ≡ u.want l
  pub shows : (l : Id) → u.held l ≡ true → t.shows l ≡ u.shows l
  pub member : (l : Id) (m : ℕ) → u.held l ≡ true → t.member l m ≡ u.member l m
  pub depth : (l : Id) → u.held l ≡ true → t.depth l ≡ u.depth l
  pub numbers : (l : Id) → u.held l ≡ true → t.numbers l ≡ u.numbers l
  pub held_at : (home : ℕ) → 1 ≤ home → home ≤ nodes → t.held_at home ≡ u.held_at home
  pub participant : (l : Id) (m : ℕ) → u.held l ≡ true → t.participant l m ≡ u.participant l m
  pub demanded : (l : Id) (m : ℕ) (act : Act) → u.held l ≡ true → u.participant l m ≡ true → t.demanded l m act ≡ u.demanded l m act
  pub heard : (l : Id) (m : ℕ) (act : Act) (outcome : Outcome) → u.held l ≡ true → u.participant l m ≡ true → t.heard l m act outcome ≡ u.heard l m act outcome
  pub root : (l : Id) → u.held l ≡ true → t.root l ≡ u.root l
  pub ended : (l : Id) → u.held l ≡ true → t.ended l ≡ u.ended l
  pub owed : (l : Id) (m : ℕ) → u.held l ≡ true → t.owed l m ≡ u.owed l m
  pub forgot : (l : Id) (m : ℕ) → u.held l ≡ true → u.participant l m ≡ true → t.forgot l m ≡ u.forgot l m
  pub least_owed : (l : Id) → u.held l ≡ true → t.least_owed l ≡ u.least_owed l
  pub to_hear : (l : Id) (m : ℕ) → u.held l ≡ true → t.to_hear l m ≡ u.to_hear l m
  pub told : (l : Id) (m : ℕ) → u.held l ≡ true → u.participant l m ≡ true → t.told l m ≡ u.told l m
  pub least_untold : (l : Id) → u.held l ≡ true → t.least_untold l ≡ u.least_untold l

-- First refusals

pub first_both : (o p : Option Refusal) (xs ys : List (Option Refusal)) → o ≡ p → first xs ≡ first ys → first (o ∷ xs) ≡ first (p ∷ ys)
first_both o p xs ys same rest = ap (λ (x : Option Refusal). first (x ∷ xs)) same ∙ by p
  where
    by : (p : Option Refusal) → first (p ∷ xs) ≡ first (p ∷ ys)
    by None = rest
    by (Some r) = refl

-- what follows a test needs to be the same only if the test is passed
pub first_past : (b c : Bool) (r : Refusal) (xs ys : List (Option Refusal)) → b ≡ c → (c ≡ true → first xs ≡ first ys) → first (unless b r ∷ xs) ≡ first (unless c r ∷ ys)
first_past b c r xs ys same rest = ap (λ (x : Bool). first (unless x r ∷ xs)) same ∙ by c rest
  where
    by : (c : Bool) → (c ≡ true → first xs ≡ first ys) → first (unless c r ∷ xs) ≡ first (unless c r ∷ ys)
    by true rest = rest refl
    by false rest = refl

inactive_alike : (nodes : ℕ) (t u : Reading) (l : Id) → AreAlike nodes t u → u.held l ≡ true → inactive_by t l ≡ inactive_by u l
inactive_alike nodes t u l alike held =
    ap (λ (w : Option Verdict). unless (is_none w) (NotActive (t.shows l))) (alike.want l held)
    ∙ ap (λ (s : LraStatus). unless (is_none (u.want l)) (NotActive s)) (alike.shows l held)

full_alike : (nodes : ℕ) (t u : Reading) (l : Id) → AreAlike nodes t u → u.held l ≡ true → full_by t l ≡ full_by u l
full_alike nodes t u l alike held = ap (λ (n : ℕ). unless (nat_lt n 32) MembersFull) (alike.numbers l held)

deep_alike : (nodes : ℕ) (t u : Reading) (l : Id) → AreAlike nodes t u → u.held l ≡ true → deep_by t l ≡ deep_by u l
deep_alike nodes t u l alike held = ap (λ (n : ℕ). unless (nat_lt n 8) DepthFull) (alike.depth l held)

crowded_alike : (nodes : ℕ) (t u : Reading) (node : ℕ) → AreAlike nodes t u → 1 ≤ node → node ≤ nodes → crowded_by t node ≡ crowded_by u node
crowded_alike nodes t u node alike some there = ap (λ (n : ℕ). unless (nat_lt n 256) LrasFull) (alike.held_at node some there)

unasked_alike : (nodes : ℕ) (t u : Reading) (l : Id) (m : ℕ) (act : Act) → AreAlike nodes t u → u.held l ≡ true → u.participant l m ≡ true → unasked_by t l m act ≡ unasked_by u l m act
unasked_alike nodes t u l m act alike held some =
    ap (λ (b : Bool). unless b (NotDue (t.shows l))) (alike.demanded l m act held some)
    ∙ ap (λ (s : LraStatus). unless (u.demanded l m act) (NotDue s)) (alike.shows l held)

unowed_alike : (nodes : ℕ) (t u : Reading) (l : Id) (m : ℕ) → AreAlike nodes t u → u.held l ≡ true → u.participant l m ≡ true → unowed_by t l m ≡ unowed_by u l m
unowed_alike nodes t u l m alike held some =
    ap (λ (b : Bool). unless (b || t.forgot l m) (NotDue (t.shows l))) (alike.owed l m held)
    ∙ ap (λ (b : Bool). unless (u.owed l m || b) (NotDue (t.shows l))) (alike.forgot l m held some)
    ∙ ap (λ (s : LraStatus). unless (u.owed l m || u.forgot l m) (NotDue s)) (alike.shows l held)

early_alike : (nodes : ℕ) (t u : Reading) (l : Id) (m : ℕ) → AreAlike nodes t u → u.held l ≡ true → u.participant l m ≡ true → early_by t l m ≡ early_by u l m
early_alike nodes t u l m alike held some =
    ap (λ (b : Bool). unless (b || t.told l m) (NotDue (t.shows l))) (alike.to_hear l m held)
    ∙ ap (λ (b : Bool). unless (u.to_hear l m || b) (NotDue (t.shows l))) (alike.told l m held some)
    ∙ ap (λ (s : LraStatus). unless (u.to_hear l m || u.told l m) (NotDue s)) (alike.shows l held)

running_alike : (nodes : ℕ) (t u : Reading) (l : Id) → AreAlike nodes t u → u.held l ≡ true → running_by t l ≡ running_by u l
running_alike nodes t u l alike held =
    ap (λ (b : Bool). unless b (NotEnded (t.shows l))) (alike.ended l held)
    ∙ ap (λ (s : LraStatus). unless (u.ended l) (NotEnded s)) (alike.shows l held)

unforgotten_alike : (nodes : ℕ) (t u : Reading) (l : Id) → AreAlike nodes t u → u.held l ≡ true → unforgotten_by t l ≡ unforgotten_by u l
unforgotten_alike nodes t u l alike held = ap (λ (o : Option Due). option_map_or (λ due. Some (StillToForget due.lra due.member)) o None) (alike.least_owed l held)

untold_alike : (nodes : ℕ) (t u : Reading) (l : Id) → AreAlike nodes t u → u.held l ≡ true → untold_by t l ≡ untold_by u l
untold_alike nodes t u l alike held = ap (λ (o : Option Due). option_map_or (λ due. Some (StillToTell due.lra due.member)) o None) (alike.least_untold l held)

-- Commands

-- a begin counts the LRAs of one of the nodes
abbrev pub IsPlain : (nodes node : ℕ) → Command → Type 0
IsPlain nodes node (Begin parent deadline) = (1 ≤ node) × (node ≤ nodes)
IsPlain nodes node _ = Unit {0}

refusal_alike : (nodes : ℕ) (t u : Reading) (v : List ℕ) (node : ℕ) (c : Command) → IsPlain nodes node c → AreAlike nodes t u → refusal_by t v node c ≡ refusal_by u v node c
refusal_alike nodes t u v node (Begin None deadline) plain alike = first_both _ _ [] [] (crowded_alike nodes t u node alike plain.0 plain.1) refl
refusal_alike nodes t u v node (Begin (Some p) deadline) plain alike =
    first_both (unknown v p) (unknown v p) _ _ refl (first_past (t.held p) (u.held p) NotHeld _ _ (alike.held p) (λ held.
    first_both (away node p) (away node p) _ _ refl
    (first_both _ _ _ _ (inactive_alike nodes t u p alike held)
    (first_both _ _ _ _ (full_alike nodes t u p alike held)
    (first_both _ _ _ _ (deep_alike nodes t u p alike held)
    (first_both _ _ [] [] (crowded_alike nodes t u node alike plain.0 plain.1) refl))))))
refusal_alike nodes t u v node (Join l links) plain alike =
    first_both (unknown v l) (unknown v l) _ _ refl (first_past (t.held l) (u.held l) NotHeld _ _ (alike.held l) (λ held.
    first_both (away node l) (away node l) _ _ refl
    (first_both _ _ _ _ (inactive_alike nodes t u l alike held)
    (first_both _ _ [] [] (full_alike nodes t u l alike held) refl))))
refusal_alike nodes t u v node (Leave l m) plain alike =
    first_both (unknown v l) (unknown v l) _ _ refl (first_past (t.held l) (u.held l) NotHeld _ _ (alike.held l) (λ held.
    first_both (away node l) (away node l) _ _ refl
    (first_past (t.participant l m) (u.participant l m) UnknownMember _ _ (alike.participant l m held) (λ joined.
    first_both _ _ [] [] (inactive_alike nodes t u l alike held) refl))))
refusal_alike nodes t u v node (Decide l verdict) plain alike =
    first_both (unknown v l) (unknown v l) _ _ refl (first_past (t.held l) (u.held l) NotHeld _ _ (alike.held l) (λ held.
    first_both (away node l) (away node l) _ _ refl
    (first_both _ _ [] [] (inactive_alike nodes t u l alike held) refl)))
refusal_alike nodes t u v node (Report l m act outcome) plain alike =
    first_both (unknown v l) (unknown v l) _ _ refl (first_past (t.held l) (u.held l) NotHeld _ _ (alike.held l) (λ held.
    first_past (t.participant l m) (u.participant l m) UnknownMember _ _ (alike.participant l m held) (λ joined.
    first_both _ _ [] [] (unasked_alike nodes t u l m act alike held joined) refl)))
refusal_alike nodes t u v node (Forgot l m) plain alike =
    first_both (unknown v l) (unknown v l) _ _ refl (first_past (t.held l) (u.held l) NotHeld _ _ (alike.held l) (λ held.
    first_past (t.participant l m) (u.participant l m) UnknownMember _ _ (alike.participant l m held) (λ joined.
    first_both _ _ [] [] (unowed_alike nodes t u l m alike held joined) refl)))
refusal_alike nodes t u v node (Told l m) plain alike =
    first_both (unknown v l) (unknown v l) _ _ refl (first_past (t.held l) (u.held l) NotHeld _ _ (alike.held l) (λ held.
    first_past (t.participant l m) (u.participant l m) UnknownMember _ _ (alike.participant l m held) (λ joined.
    first_both _ _ [] [] (early_alike nodes t u l m alike held joined) refl)))
refusal_alike nodes t u v node (Purge root) plain alike =
    first_both (unknown v root) (unknown v root) _ _ refl (first_past (t.held root) (u.held root) NotHeld _ _ (alike.held root) (λ held.
    first_both (away node root) (away node root) _ _ refl
    (first_past (t.root root) (u.root root) NotRoot _ _ (alike.root root held) (λ is_root.
    first_both _ _ _ _ (running_alike nodes t u root alike held)
    (first_both _ _ _ _ (unforgotten_alike nodes t u root alike held)
    (first_both _ _ [] [] (untold_alike nodes t u root alike held) refl))))))

-- The set's reading is the definitions

pub judge_facts : (S : List Fact) (v : List ℕ) (node : ℕ) (c : Command) → judge_by (by_facts S) v node c ≡ judge S v node c
judge_facts S v node (Begin None deadline) = refl
judge_facts S v node (Begin (Some p) deadline) = refl
judge_facts S v node (Join l links) = refl
judge_facts S v node (Leave l m) = refl
judge_facts S v node (Decide l verdict) = refl
judge_facts S v node (Report l m act outcome) = refl
judge_facts S v node (Forgot l m) = refl
judge_facts S v node (Told l m) = refl
judge_facts S v node (Purge root) = refl

-- A view says what its set says

zero_home : (S : List Fact) (view : View) (l : Id) (r : Record) → StandsFor S view → l.home ≡ 0 → record_at view l ≡ Some r → ⊥
zero_home S view l r stands zero found = elim (at_most 1 (length view.front)) [
  | inl there ↦
      let order = (stands.records 1 (omega arith) there).order in
      let same : records_at view.records l.home ≡ records_at view.records 1 = ap (λ (n : ℕ). records_at view.records n) zero in
      let at : find (is_of l) (records_at view.records 1) ≡ Some r = ap (find (is_of l)) (sym same) ∙ found in
      let one = all_in (λ (x : Record). x.home ≡ 1) (records_at view.records 1) order.homes r (find_in (is_of l) (records_at view.records 1) r at).0 in
      let own = found_of l (records_at view.records 1) r at in
      omega (arith, one, own, zero)
  | inr past ↦
      let none : record_at view l ≡ None = ap (find (is_of l)) (get_or_past view.records (l.home - 1) [] (omega (arith, past, stands.homes))) in
      let wrong : Some r ≡ None = sym found ∙ none in cc
]

-- an LRA that has a record is held
pub has_record : (S : List Fact) (view : View) (l : Id) → StandsFor S view → is_some (record_at view l) ≡ is_held S l
has_record S view l stands = by (record_at view l) refl
  where
    none : (b : Bool) → is_held S l ≡ b → record_at view l ≡ None → false ≡ b
    none true held e = absurd (never_lost S view l stands held (held_within S view l stands held) e)
    none false held e = refl

    by : (o : Option Record) → record_at view l ≡ o → is_some o ≡ is_held S l
    by None e = none (is_held S l) refl e
    by (Some r) e = elim (at_most 1 l.home) [
      | inl some ↦ sym (found_record S view l r stands some e).held
      | inr zero ↦ absurd (zero_home S view l r stands (omega (arith, zero)) e)
    ]

pub stands_at : (S : List Fact) (view : View) (l : Id) → StandsFor S view → is_held S l ≡ true → Stands (length view.front) l.home S (records_at view.records l.home)
stands_at S view l stands held = (stands.records l.home (held_home S view l stands held) (held_within S view l stands held)).stands

-- the view and the set are alike for the LRAs that are held and their homes
pub view_alike : (S : List Fact) (view : View) → IsSettled S → StandsFor S view → AreAlike (length view.front) (by_view view) (by_facts S)
view_alike S view settled stands =
    let nodes = length view.front in
    let nest = nested_settled S settled in
    record {
      held = λ l. has_record S view l stands;
      want = λ l held. want_said nodes S (records_at view.records l.home) l settled.whole nest (stands_at S view l stands held) held;
      shows = λ l held. shown_said nodes S (records_at view.records l.home) l settled.whole nest (stands_at S view l stands held) held;
      member = λ l m held. member_shown_said nodes S (records_at view.records l.home) l m settled.whole nest settled.seated (stands_at S view l stands held) held;
      depth = λ l held. depth_said nodes S (records_at view.records l.home) l settled.whole nest (stands_at S view l stands held) held;
      numbers = λ l held. numbers_said nodes S (records_at view.records l.home) l (stands_at S view l stands held) held;
      held_at = λ home some there. held_count nodes home S (records_at view.records home) (stands.records home some there).order (stands.records home some there).stands settled.seated.once;
      participant = λ l m held. participant_said nodes S (records_at view.records l.home) l m settled.seated (stands_at S view l stands held) held;
      demanded = λ l m act held some. demanded_said nodes S (records_at view.records l.home) l m act settled.whole nest settled.seated (stands_at S view l stands held) held some;
      heard = λ l m act outcome held some. heard_said nodes S (records_at view.records l.home) l m act outcome settled.seated (stands_at S view l stands held) held some;
      root = λ l held. root_said nodes S (records_at view.records l.home) l settled.whole (stands_at S view l stands held) held;
      ended = λ l held. ended_said nodes S (records_at view.records l.home) l settled.whole nest (stands_at S view l stands held) held;
      owed = λ l m held. owed_said nodes S (records_at view.records l.home) l m settled.whole nest settled.seated (stands_at S view l stands held) held;
      forgot = λ l m held some. told_said nodes S (records_at view.records l.home) l m settled.seated (stands_at S view l stands held) held some;
      least_owed = λ l held.
          let are = stands.records l.home (held_home S view l stands held) (held_within S view l stands held) in
          least_said nodes l.home S (records_at view.records l.home) l settled.whole nest settled.seated (all_from IsNumbered S settled.numbered) are.order are.stands refl held;
      to_hear = λ l m held. hear_said nodes S (records_at view.records l.home) l m settled.whole nest settled.seated (stands_at S view l stands held) held;
      told = λ l m held some. end_told_said nodes S (records_at view.records l.home) l m settled.seated (stands_at S view l stands held) held some;
      least_untold = λ l held.
          let are = stands.records l.home (held_home S view l stands held) (held_within S view l stands held) in
          least_untold_said nodes l.home S (records_at view.records l.home) l settled.whole nest settled.seated (all_from IsNumbered S settled.numbered) are.order are.stands refl held;
    }

-- what holds of a report that is not refused
pub report_passed : (u : Reading) (v : List ℕ) (node : ℕ) (l : Id) (m : ℕ) (act : Act) (outcome : Outcome) → refusal_by u v node (Report l m act outcome) ≡ None → (u.held l ≡ true) × (u.participant l m ≡ true)
report_passed u v node l m act outcome none =
    let after_unknown = open_first (unknown v l) _ none in
    let after_gone = open_first (unless (u.held l) NotHeld) _ after_unknown.1 in
    let after_stranger = open_first (unless (u.participant l m) UnknownMember) _ after_gone.1 in
    (passed (u.held l) NotHeld after_gone.0, passed (u.participant l m) UnknownMember after_stranger.0)

-- what holds of a forgot that is not refused
pub forgot_passed : (u : Reading) (v : List ℕ) (node : ℕ) (l : Id) (m : ℕ) → refusal_by u v node (Forgot l m) ≡ None → (u.held l ≡ true) × (u.participant l m ≡ true)
forgot_passed u v node l m none =
    let after_unknown = open_first (unknown v l) _ none in
    let after_gone = open_first (unless (u.held l) NotHeld) _ after_unknown.1 in
    let after_stranger = open_first (unless (u.participant l m) UnknownMember) _ after_gone.1 in
    (passed (u.held l) NotHeld after_gone.0, passed (u.participant l m) UnknownMember after_stranger.0)

-- and of a told that is not refused (as `forgot_passed`, except for the mark; one lemma for both
-- was not tried)
pub told_passed : (u : Reading) (v : List ℕ) (node : ℕ) (l : Id) (m : ℕ) → refusal_by u v node (Told l m) ≡ None → (u.held l ≡ true) × (u.participant l m ≡ true)
told_passed u v node l m none =
    let after_unknown = open_first (unknown v l) _ none in
    let after_gone = open_first (unless (u.held l) NotHeld) _ after_unknown.1 in
    let after_stranger = open_first (unless (u.participant l m) UnknownMember) _ after_gone.1 in
    (passed (u.held l) NotHeld after_gone.0, passed (u.participant l m) UnknownMember after_stranger.0)

known_alike : (nodes : ℕ) (t u : Reading) (v : List ℕ) (node : ℕ) (c : Command) → IsPlain nodes node c → AreAlike nodes t u → refusal_by u v node c ≡ None → is_known_by t c ≡ is_known_by u c
known_alike nodes t u v node (Begin None deadline) plain alike none = refl
known_alike nodes t u v node (Begin (Some p) deadline) plain alike none = refl
known_alike nodes t u v node (Join l links) plain alike none = refl
known_alike nodes t u v node (Leave l m) plain alike none = refl
known_alike nodes t u v node (Decide l verdict) plain alike none = refl
known_alike nodes t u v node (Report l m act outcome) plain alike none =
    let gone = report_passed u v node l m act outcome none in alike.heard l m act outcome gone.0 gone.1
known_alike nodes t u v node (Forgot l m) plain alike none =
    let gone = forgot_passed u v node l m none in alike.forgot l m gone.0 gone.1
known_alike nodes t u v node (Told l m) plain alike none =
    let gone = told_passed u v node l m none in alike.told l m gone.0 gone.1
known_alike nodes t u v node (Purge root) plain alike none = refl

pub judge_alike : (nodes : ℕ) (t u : Reading) (v : List ℕ) (node : ℕ) (c : Command) → IsPlain nodes node c → AreAlike nodes t u → judge_by t v node c ≡ judge_by u v node c
judge_alike nodes t u v node c plain alike =
    ap (λ (o : Option Refusal). judged o (is_known_by t c) (spent v node)) (refusal_alike nodes t u v node c plain alike)
    ∙ by (refusal_by u v node c) (known_alike nodes t u v node c plain alike)
  where
    by : (o : Option Refusal) → (o ≡ None → is_known_by t c ≡ is_known_by u c) → judged o (is_known_by t c) (spent v node) ≡ judged o (is_known_by u c) (spent v node)
    by (Some r) same = refl
    by None same = ap (λ (b : Bool). judged None b (spent v node)) (same refl)

-- So the view makes of a command what its set does
pub judge_view : (S : List Fact) (view : View) (me : ℕ) (c : Command) → IsPlain (length view.front) me c → IsSettled S → StandsFor S view → judge_on view me c ≡ judge S view.front me c
judge_view S view me c plain settled stands =
    judge_alike (length view.front) (by_view view) (by_facts S) view.front me c plain (view_alike S view settled stands) ∙ judge_facts S view.front me c

-- the view and the set agree on what an LRA wants
pub want_alike : (S : List Fact) (view : View) (l : Id) → IsSettled S → StandsFor S view → answered ((by_view view).held l) ((by_view view).want l) ≡ answered (is_held S l) (want S l)
want_alike S view l settled stands =
    let alike = view_alike S view settled stands in
    ap (λ (b : Bool). answered b ((by_view view).want l)) (alike.held l) ∙ by (is_held S l) (alike.want l)
  where
    by : (b : Bool) → (b ≡ true → (by_view view).want l ≡ want S l) → answered b ((by_view view).want l) ≡ answered b (want S l)
    by true same = ap (λ w. Ok w) (same refl)
    by false same = refl
