-- after a round of calls, at most as many are open as were to compensate, less one
use Rattle.std.proofs.Common.{◌≡◌, inl, inr, ◌≤◌, ◌<◌, ◌-◌, ◌&&◌, ℕ, zero, suc, List, [], ◌∷◌, refl, sym, ap, subst, ◌∙◌, Bool, true, false, cond, arith, filter, is_some, length, Option, Some, None}
use mathlib.Core.Bool.{not}
use Rattle.std.specs.List.{list_any, AllByRecursion}
use Rattle.std.specs.Option.{option_map_or}
use Rattle.state_ids.specs.Ids.{Id}
use Rattle.state_ids.specs.declared.outcome.Act.TheVariants.{Compensate, Complete}
use Rattle.state_ids.specs.declared.outcome.Verdict.{Verdict}
use Rattle.state_ids.specs.declared.outcome.Verdict.TheVariants.{Cancel, Close}
use Rattle.state_facts.specs.declared.fact.Body.{Body}
use Rattle.state_facts.specs.declared.fact.Body.TheVariants.{Begin, Decide, Forgot, Join, Leave, Purge, Report, Told}
use Rattle.state_facts.specs.declared.fact.Fact.{Fact}
use Rattle.state_facts.specs.Duties.{has_to_compensate, holds_back, is_compensation_due, is_pending, is_uncompensated, saga_path, topmost_cancelled, wants_cancel}
use Rattle.state_facts.specs.Links.{Links}
use Rattle.state_facts.specs.Lists.{In}
use Rattle.state_facts.specs.Sets.{NamesEarlier, chain, demands, has_left, heard, is_begun, is_decided, is_demanded, is_ended, is_held, is_leave, is_open, is_participant, is_purge, is_purged_root, is_root, is_under, links_of, some_shows, status_by, want}
use Rattle.state_facts.proofs.Membership.{any_from, any_gives, any_inside}
use Rattle.state_forest.proofs.Bools.{and_left, and_right, not_false}
use Rattle.state_forest.proofs.CompensationUnderAnLra.{held_below}
use Rattle.state_forest.proofs.NumberedMembers.{same_is, same_self}
use Rattle.state_forest.proofs.Paths.{under_home}
use Rattle.state_forest.proofs.SagaOrder.{last_none, top_is, topmost_below}
use Rattle.state_forest.proofs.UnderAnLra.{under_self}
use Rattle.theory_history.specs.Growth.{IsSettled}
use Rattle.theory_history.specs.Histories.{History, IsClosed, IsLawful, facts}
use Rattle.theory_history.specs.Replies.{command_of}
use Rattle.theory_history.proofs.AcceptedCommands.{IsGiven, lawful_gives}
use Rattle.theory_history.proofs.Basics.{both_true, false_from}
use Rattle.theory_history.proofs.ClosedSets.{closed_settled, facts_inside}
use Rattle.theory_history.proofs.Decisions.{active_begun, asks_active, counted_entry, entered_before, wanted_begun}
use Rattle.theory_history.proofs.RanksRise.{IsGrown, kept_chain, kept_want}
use Rattle.theory_history.proofs.SameChains.{chain_order}
use Rattle.theory_progress.specs.Calls.{is_open_at, joins_under, open_under, saga_of}
use Rattle.theory_progress.specs.CallRounds.{HearsAllEnds, compensations_left, is_to_compensate}
use Rattle.theory_progress.proofs.ActsAsked.{asked_open, call_asked, cancels, open_cancelled, open_closing}
use Rattle.theory_progress.proofs.AnswersLeft.{root_wants}
use Rattle.theory_progress.proofs.AskedOneWay.{cancel_is, ended_later}
use Rattle.theory_progress.proofs.CallOfOne.{IsCalledUnder, call_of, compensate_call, complete_call}
use Rattle.theory_progress.proofs.DueInASaga.{IsPending, participant_by, some_due, tells_pending, told_pending}
use Rattle.theory_progress.proofs.OpenUnder.{Fades, IsTold, count_fewer, count_less, ended_none, ended_not_open, facts_fewer, join_told, joined_as, open_fades, open_stays, some_open, stayed_by, told_join, told_not}
use Rattle.theory_progress.proofs.UnderWay.{ended_under, in_under, links_joined, saga_some, some_is, under_goes, under_in, wants_below}

clash : (b : Bool) → b ≡ true → b ≡ false → ⊥
clash b e f = let wrong : true ≡ false = sym e ∙ f in cc

-- an element that is counted is in the list
one_kept : {X : Type 0} (p : X → Bool) (xs : List X) → 1 ≤ length (filter p xs) → (x : X) × In x xs × (p x ≡ true)
one_kept p [] e = absurd (omega (arith, e))
one_kept {X} p (x ∷ xs) e = by (p x) refl e (one_kept p xs)
  where
    by : (b : Bool) → p x ≡ b → 1 ≤ length (cond b (x ∷ filter p xs) (filter p xs)) → (1 ≤ length (filter p xs) → (y : X) × In y xs × (p y ≡ true)) → (y : X) × In y (x ∷ xs) × (p y ≡ true)
    by true t f rest = (x, inl refl, t)
    by false t f rest = let found = rest f in (found.0, inr found.1, found.2)

-- What has gone

purge_is : (a : Id) (body : Body) → is_purge a body ≡ true → body ≡ Purge a
purge_is a (Purge root) e = ap (λ (x : Id). Purge x) (same_is root a e)
purge_is a (Begin parent deadline) e = absurd cc
purge_is a (Join d m links) e = absurd cc
purge_is a (Leave d m) e = absurd cc
purge_is a (Decide d verdict) e = absurd cc
purge_is a (Report d m act outcome) e = absurd cc
purge_is a (Forgot d m) e = absurd cc
purge_is a (Told d m) e = absurd cc

-- an LRA that was to end, and isn't held any more, has ended
module _ (h : History) (lawful : IsLawful h) (v : List ℕ) (cv : IsClosed h v) where
  abbrev S : List Fact
  S = facts h v

  purged_ended : (a : Id) (f : Fact) → In f S → is_purge a f.body ≡ true → is_ended S a ≡ true
  purged_ended a f there purges =
      let e = counted_entry h v f there in
      let entry = lawful.each e.0 e.1 in
      let body : e.0.fact.body ≡ Purge a = ap (λ (x : Fact). x.body) (sym e.2) ∙ purge_is a f.body purges in
      let given : IsGiven (facts h e.0.front) e.0.front e.0.fact.origin (command_of (Purge a)) =
      subst (λ (b : Body). IsGiven (facts h e.0.front) e.0.front e.0.fact.origin (command_of b)) body
      (lawful_gives (facts h e.0.front) e.0.front e.0.fact.origin (command_of e.0.fact.body) entry.lawful.accepted) in
      let g : IsGrown h e.0.front v = record { lawful = lawful; before = entry.closed; after = cv; below = cv.kept e.0 e.1 e.3 } in
      let x = some_is (want (facts h e.0.front) a) (and_left (is_some (want (facts h e.0.front) a)) _ given.3) in
      ended_later h e.0.front v g a x.0 x.1 (root_wants h e.0.front v g a given.2 x.0 x.1) given.3

  pub gone_ended : (l : Id) (x : Verdict) → want S l ≡ Some x → is_held S l ≡ false → is_ended S l ≡ true
  gone_ended l x wanted gone = by (list_any (is_purged_root S) (chain S l)) refl
    where
      by : (b : Bool) → list_any (is_purged_root S) (chain S l) ≡ b → is_ended S l ≡ true
      by true e =
          let found = any_gives (is_purged_root S) (chain S l) e in
          let purge = any_gives (λ (f : Fact). is_purge found.0 f.body) S (and_right (is_root S found.0) _ found.2) in
          ended_under S found.0 l (closed_settled h lawful v cv) (in_under S found.0 l found.1) (purged_ended found.0 purge.0 purge.1 purge.2)
      by false e = absurd (clash (is_held S l) (both_true (is_begun S l) _ (wanted_begun h lawful v cv l x wanted) (ap not e)) gone)

-- A participant that is to compensate

due_parts : (S : List Fact) (d : Id) (m : ℕ) → is_compensation_due S d m ≡ true → (is_participant S d m ≡ true) × (is_uncompensated S d m ≡ true)
due_parts S d m e = by (topmost_cancelled S d) e
  where
    by : (o : Option Id) → option_map_or (λ a. is_participant S d m && (is_uncompensated S d m && not (list_any (λ f. holds_back S a (saga_path S d m) f.body) S))) o false ≡ true → (is_participant S d m ≡ true) × (is_uncompensated S d m ≡ true)
    by None f = absurd cc
    by (Some a) f = (and_left (is_participant S d m) _ f, and_left (is_uncompensated S d m) _ (and_right (is_participant S d m) _ f))

-- an LRA that wants Cancel has a topmost cancelled LRA
pub top_of : (S : List Fact) (d : Id) → want S d ≡ Some Cancel → (a : Id) × (topmost_cancelled S d ≡ Some a)
top_of S d cancel = by (topmost_cancelled S d) refl
  where
    never : (c k : Bool) → c ≡ false → cond c (Some Cancel) (cond k (Some Close) None) ≡ Some Cancel → ⊥
    never true k e f = cc
    never false true e f = cc
    never false false e f = cc

    by : (o : Option Id) → topmost_cancelled S d ≡ o → (a : Id) × (topmost_cancelled S d ≡ Some a)
    by None top = absurd (never (list_any (is_decided S Cancel) (chain S d)) (list_any (is_decided S Close) (chain S d)) (last_none (is_decided S Cancel) (chain S d) top) cancel)
    by (Some a) top = (a, top)

-- and that LRA is under an LRA that waits only for those under itself
pub top_under : (S : List Fact) → AllByRecursion NamesEarlier S → (l d a : Id) → saga_of S l ≡ l → is_under S l d ≡ true → topmost_cancelled S d ≡ Some a → is_under S l a ≡ true
top_under S nested l d a alone under top = by (topmost_cancelled S l) refl
  where
    same : (x y : Id) → ◌≡◌ {A = Option Id} (Some x) (Some y) → x ≡ y
    same x y e = cc

    by : (o : Option Id) → topmost_cancelled S l ≡ o → is_under S l a ≡ true
    by None none =
        let tops = top_is S nested (suc d.num) d a (omega arith) top in
        elim (chain_order S nested d a l (under_in S a d tops.under) (under_in S l d under)) [
          | inl above ↦
              let wrong : ◌≡◌ {A = Option Id} None (Some a) = sym none ∙ topmost_below S nested a tops.own (suc l.num) l (omega arith) (in_under S a l above) in
              absurd cc
          | inr below ↦ in_under S l a below
        ]
    by (Some b) some =
        let own : b ≡ l = sym (saga_some S l b some) ∙ alone in
        let it : topmost_cancelled S l ≡ Some l = some ∙ ap (λ (x : Id). Some x) own in
        let one : l ≡ a = same l a (sym (topmost_below S nested l it (suc d.num) d (omega arith) under) ∙ top) in
        subst (λ (x : Id). is_under S l x ≡ true) one (under_self S nested l)

-- One of these participants is called

record IsOneToEnd (S : List Fact) (l : Id) : Type 0 where
  d : Id
  m : ℕ
  links : Links
  f : Fact
  there : In f S
  joins : f.body ≡ Join d m links
  under : is_under S l d ≡ true
  known : is_participant S d m ≡ true
  wants : want S d ≡ Some Cancel
  opened : is_open_at S d m links ≡ true
  call : IsCalledUnder S l d m Compensate

one_to_end : (S : List Fact) (l : Id) → IsSettled S → is_held S l ≡ true → saga_of S l ≡ l → 1 ≤ compensations_left S l → IsOneToEnd S l
one_to_end S l settled held alone some =
    record {
      d = due.0;
      m = due.1;
      links = who.0;
      f = who.1;
      there = who.2;
      joins = who.3;
      under = beneath;
      known = parts.0;
      wants = cancel;
      opened = asked_open (want S due.0) who.0 Compensate (heard S due.0 due.1 Complete) (heard S due.0 due.1 Compensate)
          (ap (λ (w : Option Verdict). demands w who.0 Compensate) cancel ∙ and_left (is_some who.0.compensate) _ owes) (and_right (is_some who.0.compensate) _ owes);
      call = compensate_call S l due.0 due.1 who.0 (record {
        own = under_home S nested l (suc due.0.num) due.0 (omega arith) beneath;
        held = held_below S settled.whole l held (suc due.0.num) due.0 (omega arith) beneath;
        under = beneath;
        joined = joined;
      }) due.3 (and_left (is_some who.0.compensate) _ owes);
    }
  where
    nested : AllByRecursion NamesEarlier S
    nested = settled.whole.nested

    found : (f : Fact) × In f S × (joins_under (is_to_compensate S) S l f.body ≡ true)
    found = one_kept (λ (f : Fact). joins_under (is_to_compensate S) S l f.body) S some

    first : (d : Id) × (m : ℕ) × (links : Links) × (found.0.body ≡ Join d m links) × IsTold (is_to_compensate S) S l d m links
    first = told_join (is_to_compensate S) S l found.0.body found.2

    first_wants : want S first.0 ≡ Some Cancel
    first_wants = cancel_is (want S first.0) (and_right (is_open_at S first.0 first.1 first.2) _ first.4.passes)

    top : (a : Id) × (topmost_cancelled S first.0 ≡ Some a)
    top = top_of S first.0 first_wants

    own : topmost_cancelled S top.0 ≡ Some top.0
    own = (top_is S nested (suc first.0.num) first.0 top.0 (omega arith) top.1).own

    has : (is_some first.2.compensate ≡ true) × (is_pending (heard S first.0 first.1 Compensate) ≡ true)
    has =
        open_cancelled first.2 (heard S first.0 first.1 Complete) (heard S first.0 first.1 Compensate)
        (ap (λ (w : Option Verdict). is_open (status_by w first.2 (heard S first.0 first.1 Complete) (heard S first.0 first.1 Compensate))) (sym first_wants)
        ∙ and_left (is_open_at S first.0 first.1 first.2) _ first.4.passes)

    pending : IsPending S top.0 first.0 first.1
    pending =
        record {
          under = (top_is S nested (suc first.0.num) first.0 top.0 (omega arith) top.1).under;
          stayed = first.4.stayed;
          pending = ap (λ (o : Option Links). option_map_or (λ (x : Links). has_to_compensate x (heard S first.0 first.1 Compensate)) o false) (links_joined S found.0 first.0 first.1 first.2 settled.seated found.1 first.3)
              ∙ both_true (is_some first.2.compensate) _ has.0 has.1;
        }

    due : (d : Id) × (m : ℕ) × (is_under S top.0 d ≡ true) × (is_compensation_due S d m ≡ true)
    due = some_due S nested top.0 own found.0 found.1 (ap (tells_pending S top.0) first.3 ∙ told_pending S top.0 first.0 first.1 first.2 pending)

    beneath : is_under S l due.0 ≡ true
    beneath = under_goes S nested l top.0 due.0 (top_under S nested l first.0 top.0 alone first.4.under top.1) due.2

    cancel : want S due.0 ≡ Some Cancel
    cancel = cancels S due.0 top.0 (topmost_below S nested top.0 own (suc due.0.num) due.0 (omega arith) due.2)

    parts : (is_participant S due.0 due.1 ≡ true) × (is_uncompensated S due.0 due.1 ≡ true)
    parts = due_parts S due.0 due.1 due.3

    who : (links : Links) × (f : Fact) × In f S × (f.body ≡ Join due.0 due.1 links)
    who = joined_as S due.0 due.1 parts.0

    joined : links_of S due.0 due.1 ≡ Some who.0
    joined = links_joined S who.1 due.0 due.1 who.0 settled.seated who.2 who.3

    owes : has_to_compensate who.0 (heard S due.0 due.1 Compensate) ≡ true
    owes = sym (ap (λ (o : Option Links). option_map_or (λ (x : Links). has_to_compensate x (heard S due.0 due.1 Compensate)) o false) joined) ∙ parts.1

-- A round

-- each participant that is open under l is to compensate
abbrev pub AllCompensate : List Fact → Id → Type 0
AllCompensate T l = (f : Fact) (d : Id) (m : ℕ) (links : Links) → In f T → f.body ≡ Join d m links → IsTold (is_open_at T) T l d m links → wants_cancel (want T d) ≡ true

-- under an LRA that has ended, no participant is open
pub none_told : (T : List Fact) (l : Id) → is_ended T l ≡ true → (f : Fact) (d : Id) (m : ℕ) (links : Links) → In f T → f.body ≡ Join d m links → IsTold (is_open_at T) T l d m links → ⊥
none_told T l ended f d m links there body told =
    clash (some_shows is_open T l)
    (sym (some_open T l) ∙ any_from (λ (y : Fact). joins_under (is_open_at T) T l y.body) T f there (join_told (is_open_at T) T l d m links f.body body told))
    (not_false _ (and_right (is_some (want T l)) _ ended))

module _ (h : History) (v w : List ℕ) (g : IsGrown h v w) (l : Id) (x : Verdict) (wanted : want (facts h v) l ≡ Some x) (later : want (facts h w) l ≡ Some x) where
  before : IsSettled (facts h v)
  before = closed_settled h g.lawful v g.before

  after : IsSettled (facts h w)
  after = closed_settled h g.lawful w g.after

  -- no participant is to compensate that was not to do so before
  compensations_fade : Fades h v w is_to_compensate l
  compensations_fade = λ d m links begun under e.
      both_true (is_open_at (facts h v) d m links) _
      (open_fades h v w g l x wanted later d m links begun under (and_left (is_open_at (facts h w) d m links) _ e))
      (ap wants_cancel (kept_want h v w g l x wanted later d begun under) ∙ and_right (is_open_at (facts h w) d m links) _ e)

  -- a participant that joined under l joined before
  pub had_joined : (f : Fact) (d : Id) (m : ℕ) (links : Links) → In f (facts h w) → f.body ≡ Join d m links → is_under (facts h w) l d ≡ true → In f (facts h v)
  had_joined f d m links there body under =
      entered_before h g.lawful v w g.before g.after l x wanted f there d (ap (asks_active d) body ∙ same_self d) (under_in (facts h w) l d under)

  -- so a participant that completes, and is open after the round, was to be called
  was_called : (f : Fact) (d : Id) (m : ℕ) (links : Links) → In f (facts h w) → f.body ≡ Join d m links → IsTold (is_open_at (facts h w)) (facts h w) l d m links → is_held (facts h v) l ≡ true → want (facts h w) d ≡ Some Close → IsCalledUnder (facts h v) l d m Complete
  was_called f d m links there body told held close =
      complete_call (facts h v) l d m links (record {
        own = under_home (facts h v) nested l (suc d.num) d (omega arith) under;
        held = held_below (facts h v) before.whole l held (suc d.num) d (omega arith) under;
        under = under;
        joined = joined;
      }) (both_true (is_participant (facts h v) d m) _ (participant_by (facts h v) d m links f had body stayed) (both_true (is_demanded (facts h v) d m Complete) _ demanded has.1)) has.0
    where
      nested : AllByRecursion NamesEarlier (facts h v)
      nested = before.whole.nested

      had : In f (facts h v)
      had = had_joined f d m links there body told.under

      begun : is_begun (facts h v) d ≡ true
      begun = active_begun h g.lawful v g.before f d had (ap (asks_active d) body ∙ same_self d)

      chained : In l (chain (facts h w) d)
      chained = under_in (facts h w) l d told.under

      under : is_under (facts h v) l d ≡ true
      under = in_under (facts h v) l d (subst (λ (c : List Id). In l c) (sym (kept_chain h v w g d begun)) chained)

      stayed : has_left (facts h v) d m ≡ false
      stayed = false_from (has_left (facts h v) d m) (λ left. clash (has_left (facts h w) d m) (any_inside (λ (y : Fact). is_leave d m y.body) (facts h v) (facts h w) (facts_inside h v w g.below) left) told.stayed)

      joined : links_of (facts h v) d m ≡ Some links
      joined = links_joined (facts h v) f d m links before.seated had body

      closes : want (facts h v) d ≡ Some Close
      closes = kept_want h v w g l x wanted later d begun chained ∙ close

      has : (is_some links.complete ≡ true) × (is_pending (heard (facts h v) d m Complete) ≡ true)
      has =
          open_closing links (heard (facts h v) d m Complete) (heard (facts h v) d m Compensate)
          (ap (λ (o : Option Verdict). is_open (status_by o links (heard (facts h v) d m Complete) (heard (facts h v) d m Compensate))) (sym closes) ∙ open_fades h v w g l x wanted later d m links begun chained told.passes)

      demanded : is_demanded (facts h v) d m Complete ≡ true
      demanded =
          ap (λ (o : Option Links). option_map_or (λ (y : Links). demands (want (facts h v) d) y Complete) o false) joined ∙ ap (λ (o : Option Verdict). demands o links Complete) closes ∙ has.0

  -- a participant that is open after the round is to compensate
  open_compensates : HearsAllEnds (facts h v) (facts h w) l → is_held (facts h v) l ≡ true → (f : Fact) (d : Id) (m : ℕ) (links : Links) → In f (facts h w) → f.body ≡ Join d m links → IsTold (is_open_at (facts h w)) (facts h w) l d m links → wants_cancel (want (facts h w) d) ≡ true
  open_compensates all held f d m links there body told = by (want (facts h w) d) refl
    where
      by : (o : Option Verdict) → want (facts h w) d ≡ o → wants_cancel (want (facts h w) d) ≡ true
      by None e = absurd (let wrong : false ≡ true = sym (ap is_some e) ∙ wants_below (facts h w) l d after (ap is_some later) told.under in cc)
      by (Some Cancel) e = ap wants_cancel e
      by (Some Close) e =
          let call = was_called f d m links there body told held e in
          let has = open_closing links (heard (facts h w) d m Complete) (heard (facts h w) d m Compensate)
          (ap (λ (o : Option Verdict). is_open (status_by o links (heard (facts h w) d m Complete) (heard (facts h w) d m Compensate))) (sym e) ∙ told.passes) in
          absurd (clash (is_pending (heard (facts h w) d m Complete)) has.1 (all (call_of (facts h v) call.kind Complete d m call.link) call.is))

  -- the same even if the LRA was gone
  pub all_compensate : HearsAllEnds (facts h v) (facts h w) l → AllCompensate (facts h w) l
  all_compensate all = λ f d m links there body told. by (is_held (facts h v) l) refl f d m links there body told
    where
      by : (b : Bool) → is_held (facts h v) l ≡ b → (f : Fact) (d : Id) (m : ℕ) (links : Links) → In f (facts h w) → f.body ≡ Join d m links → IsTold (is_open_at (facts h w)) (facts h w) l d m links → wants_cancel (want (facts h w) d) ≡ true
      by true held f d m links there body told = open_compensates all held f d m links there body told
      by false gone f d m links there body told =
          absurd (none_told (facts h w) l (ended_later h v w g l x wanted later (gone_ended h g.lawful v g.before l x wanted gone)) f d m links there body told)

  open_left : HearsAllEnds (facts h v) (facts h w) l → is_held (facts h v) l ≡ true → open_under (facts h w) l ≤ compensations_left (facts h w) l
  open_left all held =
      facts_fewer h w w (λ (f : Fact). joins_under (is_to_compensate (facts h w)) (facts h w) l f.body) (λ (f : Fact). joins_under (is_open_at (facts h w)) (facts h w) l f.body)
      (λ f there e.
      let who = told_join (is_open_at (facts h w)) (facts h w) l f.body e in (
        there,
        join_told (is_to_compensate (facts h w)) (facts h w) l who.0 who.1 who.2 f.body who.3 (record {
          under = who.4.under;
          stayed = who.4.stayed;
          passes = both_true (is_open_at (facts h w) who.0 who.1 who.2) _ who.4.passes (open_compensates all held f who.0 who.1 who.2 there who.3 who.4);
        }),
      ))

  compensations_fall : HearsAllEnds (facts h v) (facts h w) l → is_held (facts h v) l ≡ true → saga_of (facts h v) l ≡ l → 1 ≤ compensations_left (facts h v) l → compensations_left (facts h w) l < compensations_left (facts h v) l
  compensations_fall all held alone some =
      let S = facts h v in
      let T = facts h w in
      let one = one_to_end S l before held alone some in
      let call = call_of S one.call.kind Compensate one.d one.m one.call.link in
      let shut : is_open_at T one.d one.m one.links ≡ false = ended_not_open h v w g l x wanted later one.f one.d one.m one.links Compensate one.there one.joins one.under (call_asked S l call one.call.is) (all call one.call.is) in
      count_less h v w g l x wanted later is_to_compensate compensations_fade one.f one.there
      (join_told (is_to_compensate S) S l one.d one.m one.links one.f.body one.joins (record {
        under = one.under;
        stayed = stayed_by S one.d one.m one.known;
        passes = both_true (is_open_at S one.d one.m one.links) _ one.opened (ap wants_cancel one.wants);
      }))
      (told_not (is_to_compensate T) T l one.d one.m one.links one.f.body one.joins (ap (λ (b : Bool). b && wants_cancel (want T one.d)) shut))

  pub round_falls : HearsAllEnds (facts h v) (facts h w) l → saga_of (facts h v) l ≡ l → open_under (facts h w) l ≤ compensations_left (facts h v) l - 1
  round_falls all alone = by (is_held (facts h v) l) refl
    where
      counted : is_held (facts h v) l ≡ true → (n : ℕ) → compensations_left (facts h v) l ≡ n → open_under (facts h w) l ≤ compensations_left (facts h v) l - 1
      counted held zero e = omega (arith, e, open_left all held, count_fewer h v w g l x wanted later is_to_compensate compensations_fade)
      counted held (suc n) e = omega (arith, e, open_left all held, compensations_fall all held alone (omega (arith, e)))

      by : (b : Bool) → is_held (facts h v) l ≡ b → open_under (facts h w) l ≤ compensations_left (facts h v) l - 1
      by true held = counted held (compensations_left (facts h v) l) refl
      by false gone =
          let none = (ended_none (facts h v) l (ap is_some wanted)).0 (gone_ended h g.lawful v g.before l x wanted gone) in
          omega (arith, none, open_stays h v w g l x wanted later)
