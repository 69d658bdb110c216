-- an LRA that is under way waits for a participant that is to be called now
use Rattle.std.proofs.Common.{◌≡◌, inl, inr, ◌&&◌, ℕ, suc, List, [], ◌∷◌, refl, sym, ap, subst, ◌∙◌, Bool, true, false, cond, arith, Option, Some, None, is_some}
use mathlib.Core.Bool.{not}
use Rattle.std.specs.List.{list_any, AllByRecursion}
use Rattle.std.specs.Option.{option_map_or}
use Rattle.state_ids.specs.Ids.{Id, same_id}
use Rattle.state_ids.specs.States.{shown}
use Rattle.state_ids.specs.declared.status.LraStatus.TheVariants.{Cancelling, Closing}
use Rattle.state_ids.specs.declared.outcome.Act.TheVariants.{Complete, Compensate}
use Rattle.state_ids.specs.declared.outcome.Verdict.{Verdict}
use Rattle.state_ids.specs.declared.outcome.Verdict.TheVariants.{Close, Cancel}
use Rattle.state_facts.specs.declared.fact.Body.{Body}
use Rattle.state_facts.specs.declared.fact.Body.TheVariants.{Join}
use Rattle.state_facts.specs.declared.fact.Fact.{Fact}
use Rattle.state_facts.specs.Duties.{has_to_compensate, is_pending, is_uncompensated, last_that, topmost_cancelled}
use Rattle.state_facts.specs.Links.{Links}
use Rattle.state_facts.specs.Lists.{In}
use Rattle.state_facts.specs.Sets.{NamesEarlier, chain, demands, heard, is_decided, is_demanded, is_ended, is_held, is_open, is_participant, is_root, is_under, links_of, parent_of, shows, some_shows, status_by, want}
use Rattle.state_facts.proofs.Membership.{any_from, any_gives}
use Rattle.state_forest.proofs.Bools.{and_left, and_right, not_false}
use Rattle.state_forest.proofs.CompensationUnderAnLra.{held_above, held_below}
use Rattle.state_forest.proofs.NumberedMembers.{join_found, join_links, same_is, same_self}
use Rattle.state_forest.proofs.ParentsAndChains.{chain_root}
use Rattle.state_forest.proofs.Paths.{under_home}
use Rattle.state_forest.proofs.SagaOrder.{last_none, top_is, topmost_below}
use Rattle.state_forest.proofs.UnderAnLra.{IsShown, join_shows, shown_join, under_self}
use Rattle.state_forest.specs.Standing.{IsSeated}
use Rattle.theory_history.specs.Growth.{IsSettled}
use Rattle.theory_history.specs.Views.{StandsFor, View}
use Rattle.theory_history.proofs.AcceptedCommands.{none_is}
use Rattle.theory_history.proofs.Basics.{both_true, false_from}
use Rattle.theory_history.proofs.ClosedSets.{closed_settled}
use Rattle.theory_history.proofs.Decisions.{decided_by, undecided}
use Rattle.theory_history.proofs.PatchesAddFacts.{held_home}
use Rattle.theory_history.proofs.ReplyOrRefusal.{held_within}
use Rattle.theory_history.proofs.SameChains.{chain_goes, chain_order}
use Rattle.theory_history.proofs.SetsToMerge.{joins_once}
use Rattle.wire_callbacks.specs.declared.duty.Duty.{Duty}
use Rattle.wire_callbacks.specs.CallDuties.{IsDuty}
use Rattle.wire_callbacks.specs.ViewDuties.{duties_of}
use Rattle.wire_callbacks.proofs.Viewed.{all_of_view}
use Rattle.script_world.specs.Headline.{IsNode}
use Rattle.script_world.specs.Worlds.{IsViewOf, IsWorld, State, front_of, set_of}
use Rattle.theory_progress.specs.Calls.{IsActUnder, IsUnderWay, saga_of}
use Rattle.theory_progress.proofs.ActsAsked.{call_due, cancels, open_cancelled, open_closing}
use Rattle.theory_progress.proofs.DueInASaga.{IsPending, participant_by, some_due, tells_pending, told_pending}

-- What is under an LRA

pub under_in : (S : List Fact) (l d : Id) → is_under S l d ≡ true → In l (chain S d)
under_in S l d e = let found = any_gives (same_id l) (chain S d) e in subst (λ x. In x (chain S d)) (sym (same_is l found.0 found.2)) found.1

pub in_under : (S : List Fact) (l d : Id) → In l (chain S d) → is_under S l d ≡ true
in_under S l d m = any_from (same_id l) (chain S d) l m (same_self l)

pub under_goes : (S : List Fact) → AllByRecursion NamesEarlier S → (a l d : Id) → is_under S a l ≡ true → is_under S l d ≡ true → is_under S a d ≡ true
under_goes S nested a l d e f = in_under S a d (chain_goes S nested d l a (under_in S l d f) (under_in S a l e))

-- the links of a participant are those of its join
pub links_joined : (S : List Fact) (f : Fact) (d : Id) (m : ℕ) (links : Links) → IsSeated S → In f S → f.body ≡ Join d m links → links_of S d m ≡ Some links
links_joined S f d m links seated i body = by (links_of S d m) refl
  where
    by : (o : Option Links) → links_of S d m ≡ o → links_of S d m ≡ Some links
    by None none = absurd (join_links S d m links f i body none)
    by (Some k) some =
        let g = join_found S d m k some in
        some ∙ ap (λ (x : Links). Some x) (joins_once S g.0 f d m k links seated g.1 g.2 i body)

-- What an LRA waits for

pub saga_some : (S : List Fact) (l a : Id) → topmost_cancelled S l ≡ Some a → saga_of S l ≡ a
saga_some S l a top = ap (λ (o : Option Id). option_map_or (λ x. x) o l) top

pub saga_none : (S : List Fact) (l : Id) → topmost_cancelled S l ≡ None → saga_of S l ≡ l
saga_none S l top = ap (λ (o : Option Id). option_map_or (λ x. x) o l) top

-- l is under the LRA that it waits for, so both have the same home
pub saga_above : (S : List Fact) → AllByRecursion NamesEarlier S → (l : Id) → is_under S (saga_of S l) l ≡ true
saga_above S nested l = by (topmost_cancelled S l) refl
  where
    by : (o : Option Id) → topmost_cancelled S l ≡ o → is_under S (saga_of S l) l ≡ true
    by None top = ap (λ (x : Id). is_under S x l) (saga_none S l top) ∙ under_self S nested l
    by (Some a) top = ap (λ (x : Id). is_under S x l) (saga_some S l a top) ∙ (top_is S nested (suc l.num) l a (omega arith) top).under

pub saga_home : (S : List Fact) → AllByRecursion NamesEarlier S → (l : Id) → (saga_of S l).home ≡ l.home
saga_home S nested l = sym (under_home S nested (saga_of S l) (suc l.num) l (omega arith) (saga_above S nested l))

-- the topmost cancelled LRA is cancelled
last_passes : (t : Id → Bool) (xs : List Id) (y : Id) → last_that t xs ≡ Some y → t y ≡ true
last_passes t [] y e = absurd cc
last_passes t (x ∷ xs) y e = by (last_passes t xs y) (last_that t xs) refl (t x) refl e
  where
    by : (last_that t xs ≡ Some y → t y ≡ true) → (o : Option Id) → last_that t xs ≡ o → (b : Bool) → t x ≡ b → option_map_or (λ z. Some z) o (cond b (Some x) None) ≡ Some y → t y ≡ true
    by rest (Some z) s b u f = rest (s ∙ f)
    by rest None s true u f = let same : x ≡ y = cc in ap t (sym same) ∙ u
    by rest None s false u f = absurd cc

clash : (b : Bool) → b ≡ true → b ≡ false → ⊥
clash b e f = let wrong : true ≡ false = sym e ∙ f in cc

-- A participant that is open under an LRA

-- if an LRA that is cancelled in its own right has a participant under it that is to compensate,
-- one is called
saga_calls : (S : List Fact) (a : Id) → IsSettled S → is_held S a ≡ true → topmost_cancelled S a ≡ Some a → (f : Fact) (d : Id) (m : ℕ) (links : Links) → In f S → f.body ≡ Join d m links → IsPending S a d m → (l : Id) → is_under S l a ≡ true → (call : Duty) × IsActUnder S l call
saga_calls S a settled held top f d m links i body p l above =
    let nested = settled.whole.nested in
    let due = some_due S nested a top f i (told S a f.body d m links body p) in
    let under = under_goes S nested l a due.0 above due.2 in
    call_due S l Compensate due.0 due.1 (under_home S nested l (suc due.0.num) due.0 (omega arith) under) (held_below S settled.whole a held (suc due.0.num) due.0 (omega arith) due.2) under due.3
  where
    told : (S : List Fact) (a : Id) (x : Body) (d : Id) (m : ℕ) (links : Links) → x ≡ Join d m links → IsPending S a d m → tells_pending S a x ≡ true
    told S a x d m links e p = ap (tells_pending S a) e ∙ told_pending S a d m links p

-- the participant is to compensate
uncompensated : (S : List Fact) (d : Id) (m : ℕ) (links : Links) → links_of S d m ≡ Some links → is_some links.compensate ≡ true → is_pending (heard S d m Compensate) ≡ true → is_uncompensated S d m ≡ true
uncompensated S d m links joined given pending =
    ap (λ o. option_map_or (λ (x : Links). has_to_compensate x (heard S d m Compensate)) o false) joined ∙ both_true (is_some links.compensate) _ given pending

-- a participant that is to complete is called
completes : (S : List Fact) (l : Id) → IsSettled S → is_held S l ≡ true → (f : Fact) (d : Id) (m : ℕ) (links : Links) → In f S → f.body ≡ Join d m links → IsShown is_open S l d m links → want S d ≡ Some Close → (call : Duty) × IsActUnder S l call
completes S l settled held f d m links i body shown close =
    let nested = settled.whole.nested in
    let opened : is_open (status_by (Some Close) links (heard S d m Complete) (heard S d m Compensate)) ≡ true =
    ap (λ w. is_open (status_by w links (heard S d m Complete) (heard S d m Compensate))) (sym close) ∙ shown.passes in
    let has = open_closing links (heard S d m Complete) (heard S d m Compensate) opened in
    let joined = links_joined S f d m links settled.seated i body in
    let demanded : is_demanded S d m Complete ≡ true =
    ap (λ o. option_map_or (λ (x : Links). demands (want S d) x Complete) o false) joined ∙ ap (λ w. demands w links Complete) close ∙ has.0 in
    let known = participant_by S d m links f i body shown.stayed in
    call_due S l Complete d m (under_home S nested l (suc d.num) d (omega arith) shown.under) (held_below S settled.whole l held (suc d.num) d (omega arith) shown.under) shown.under
    (both_true (is_participant S d m) _ known (both_true (is_demanded S d m Complete) _ demanded has.1))

pending_by : (S : List Fact) (a d : Id) (m : ℕ) (links : Links) (f : Fact) → IsSettled S → In f S → f.body ≡ Join d m links → is_under S a d ≡ true → want S d ≡ Some Cancel → (l : Id) → IsShown is_open S l d m links → IsPending S a d m
pending_by S a d m links f settled i body under cancel l shown =
    let opened : is_open (status_by (Some Cancel) links (heard S d m Complete) (heard S d m Compensate)) ≡ true =
    ap (λ w. is_open (status_by w links (heard S d m Complete) (heard S d m Compensate))) (sym cancel) ∙ shown.passes in
    let has = open_cancelled links (heard S d m Complete) (heard S d m Compensate) opened in
    record {
      under = under;
      stayed = shown.stayed;
      pending = uncompensated S d m links (links_joined S f d m links settled.seated i body) has.0 has.1;
    }

-- a participant is called if l, or an LRA above it, is cancelled
cancelled_calls : (S : List Fact) (l a : Id) → IsSettled S → is_held S l ≡ true → topmost_cancelled S l ≡ Some a → (f : Fact) (d : Id) (m : ℕ) (links : Links) → In f S → f.body ≡ Join d m links → IsShown is_open S l d m links → (call : Duty) × IsActUnder S a call
cancelled_calls S l a settled held top f d m links i body shown =
    let nested = settled.whole.nested in
    let tops = top_is S nested (suc l.num) l a (omega arith) top in
    let under = under_goes S nested a l d tops.under shown.under in
    let cancel = cancels S d a (topmost_below S nested a tops.own (suc d.num) d (omega arith) under) in
    saga_calls S a settled (held_above S settled.whole a (suc l.num) l (omega arith) tops.under held) tops.own f d m links i body (pending_by S a d m links f settled i body under cancel l shown) a (under_self S nested a)

-- a participant is called if no LRA of its chain is cancelled
closing_calls : (S : List Fact) (l : Id) (verdict : Verdict) → IsSettled S → is_held S l ≡ true → want S l ≡ Some verdict → topmost_cancelled S l ≡ None → (f : Fact) (d : Id) (m : ℕ) (links : Links) → In f S → f.body ≡ Join d m links → IsShown is_open S l d m links → (call : Duty) × IsActUnder S l call
closing_calls S l verdict settled held wants top f d m links i body shown = by (want S d) refl
  where
    nested : AllByRecursion NamesEarlier S
    nested = settled.whole.nested

    chained : In l (chain S d)
    chained = under_in S l d shown.under

    none : list_any (is_decided S Cancel) (chain S l) ≡ false
    none = last_none (is_decided S Cancel) (chain S l) top

    -- the topmost cancelled LRA of d's chain is under l
    beneath : (a : Id) → topmost_cancelled S d ≡ Some a → is_under S l a ≡ true
    beneath a at = elim (chain_order S nested d a l (under_in S a d (top_is S nested (suc d.num) d a (omega arith) at).under) chained) [
      | inl above ↦ absurd (clash (list_any (is_decided S Cancel) (chain S l)) (any_from (is_decided S Cancel) (chain S l) a above (last_passes (is_decided S Cancel) (chain S d) a at)) none)
      | inr below ↦ in_under S l a below
    ]

    cancelled : want S d ≡ Some Cancel → (o : Option Id) → topmost_cancelled S d ≡ o → (call : Duty) × IsActUnder S l call
    cancelled cancel None at = absurd (never (list_any (is_decided S Cancel) (chain S d)) (list_any (is_decided S Close) (chain S d)) (last_none (is_decided S Cancel) (chain S d) at) cancel)
      where
        never : (c k : Bool) → c ≡ false → cond c (Some Cancel) (cond k (Some Close) None) ≡ Some Cancel → ⊥
        never true k e f = cc
        never false true e f = cc
        never false false e f = cc
    cancelled cancel (Some a) at =
        let tops = top_is S nested (suc d.num) d a (omega arith) at in
        let under = beneath a at in
        saga_calls S a settled (held_below S settled.whole l held (suc a.num) a (omega arith) under) tops.own f d m links i body (pending_by S a d m links f settled i body tops.under cancel l shown) l under

    by : (w : Option Verdict) → want S d ≡ w → (call : Duty) × IsActUnder S l call
    by None idle = let cause = decided_by S l verdict wants in absurd (undecided S d idle verdict cause.0 (chain_goes S nested d l cause.0 chained cause.1) cause.2)
    by (Some Close) close = completes S l settled held f d m links i body shown close
    by (Some Cancel) cancel = cancelled cancel (topmost_cancelled S d) refl

-- so if a participant is open, one is called
pub open_calls : (S : List Fact) (l : Id) (verdict : Verdict) → IsSettled S → is_held S l ≡ true → want S l ≡ Some verdict → some_shows is_open S l ≡ true → (call : Duty) × IsActUnder S (saga_of S l) call
open_calls S l verdict settled held wants opened = by (topmost_cancelled S l) refl
  where
    by : (o : Option Id) → topmost_cancelled S l ≡ o → (call : Duty) × IsActUnder S (saga_of S l) call
    by None top =
        let found = any_gives (λ (f : Fact). shows is_open S l f.body) S opened in
        let who = shown_join is_open S l found.0.body found.2 in
        subst (λ (a : Id). (call : Duty) × IsActUnder S a call) (sym (saga_none S l top))
        (closing_calls S l verdict settled held wants top found.0 who.0 who.1 who.2 found.1 who.3 who.4)
    by (Some a) top =
        let found = any_gives (λ (f : Fact). shows is_open S l f.body) S opened in
        let who = shown_join is_open S l found.0.body found.2 in
        subst (λ (x : Id). (call : Duty) × IsActUnder S x call) (sym (saga_some S l a top))
        (cancelled_calls S l a settled held top found.0 who.0 who.1 who.2 found.1 who.3 who.4)

-- An LRA that is under way

pub record IsOpen (S : List Fact) (l : Id) : Type 0 where
  pub verdict : Verdict
  pub held : is_held S l ≡ true
  pub wants : want S l ≡ Some verdict
  pub opened : some_shows is_open S l ≡ true

pub some_is : (o : Option Verdict) → is_some o ≡ true → (x : Verdict) × (o ≡ Some x)
some_is None e = absurd cc
some_is (Some x) e = (x, refl)

way_closing : (held : Bool) (w : Option Verdict) (opened i u : Bool) → cond held (Some (shown w (is_some w && not opened) i u)) None ≡ Some Closing → (held ≡ true) × (is_some w ≡ true) × (opened ≡ true)
way_closing false w opened i u s = absurd cc
way_closing true None opened i u s = absurd cc
way_closing true (Some Close) true i u s = (refl, refl, refl)
way_closing true (Some Close) false false u s = absurd cc
way_closing true (Some Close) false true u s = absurd cc
way_closing true (Some Cancel) true i u s = absurd cc
way_closing true (Some Cancel) false i false s = absurd cc
way_closing true (Some Cancel) false i true s = absurd cc

way_cancelling : (held : Bool) (w : Option Verdict) (opened i u : Bool) → cond held (Some (shown w (is_some w && not opened) i u)) None ≡ Some Cancelling → (held ≡ true) × (is_some w ≡ true) × (opened ≡ true)
way_cancelling false w opened i u s = absurd cc
way_cancelling true None opened i u s = absurd cc
way_cancelling true (Some Cancel) true i u s = (refl, refl, refl)
way_cancelling true (Some Close) true i u s = absurd cc
way_cancelling true (Some Close) false false u s = absurd cc
way_cancelling true (Some Close) false true u s = absurd cc
way_cancelling true (Some Cancel) false i false s = absurd cc
way_cancelling true (Some Cancel) false i true s = absurd cc

pub way_open : (S : List Fact) (l : Id) → IsUnderWay S l → IsOpen S l
way_open S l way = let is = by way in let x = some_is (want S l) is.1 in record { verdict = x.0; held = is.0; wants = x.1; opened = is.2 }
  where
    by : IsUnderWay S l → (is_held S l ≡ true) × (is_some (want S l) ≡ true) × (some_shows is_open S l ≡ true)
    by (inl s) = way_closing (is_held S l) (want S l) (some_shows is_open S l) _ _ s
    by (inr s) = way_cancelling (is_held S l) (want S l) (some_shows is_open S l) _ _ s

pub way_calls : (S : List Fact) (l : Id) → IsSettled S → IsUnderWay S l → (call : Duty) × IsActUnder S (saga_of S l) call
way_calls S l settled way = let is = way_open S l way in open_calls S l is.verdict settled is.held is.wants is.opened

-- and the call stands in the list of every view of the set
pub way_listed : (S : List Fact) (view : View) (l : Id) → IsSettled S → StandsFor S view → IsUnderWay S l → (call : Duty) × In call (duties_of view l.home) × IsActUnder S (saga_of S l) call
way_listed S view l settled stands way =
    let held = (way_open S l way).held in
    let made = way_calls S l settled way in
    let all = all_of_view S view l.home settled stands (held_home S view l stands held) (held_within S view l stands held) in
    (made.0, all.all made.0 (subst (λ (h : ℕ). IsDuty h S made.0) (saga_home S settled.whole.nested l) made.1.duty), made.1)

pub way_world : (s : State) (node : ℕ) (l : Id) → IsWorld s → IsNode s node → IsUnderWay (set_of s node) l → (call : Duty) × IsActUnder (set_of s node) (saga_of (set_of s node) l) call
way_world s node l world is way =
    way_calls (set_of s node) l (closed_settled s.history world.lawful (front_of s node) (world.current node is.some is.there).closed) way

-- and at the LRA's home it stands in that node's list
pub way_home : (s : State) (view : View) (l : Id) → IsWorld s → IsNode s l.home → IsViewOf s.history (front_of s l.home) view → IsUnderWay (set_of s l.home) l → (call : Duty) × In call (duties_of view l.home) × IsActUnder (set_of s l.home) (saga_of (set_of s l.home) l) call
way_home s view l world is views way =
    way_listed (set_of s l.home) view l (closed_settled s.history world.lawful (front_of s l.home) (world.current l.home is.some is.there).closed) views.stands way

-- An LRA ends together with the one that it waits for

pub root_alone : (S : List Fact) (l : Id) → IsSettled S → is_root S l ≡ true → saga_of S l ≡ l
root_alone S l settled root = by (is_decided S Cancel l) refl
  where
    alone : topmost_cancelled S l ≡ cond (is_decided S Cancel l) (Some l) None
    alone = ap (last_that (is_decided S Cancel)) (chain_root S settled.whole.nested l (none_is (parent_of S l) root))

    by : (b : Bool) → is_decided S Cancel l ≡ b → saga_of S l ≡ l
    by true e = saga_some S l l (alone ∙ ap (λ (b : Bool). cond b (Some l) None) e)
    by false e = saga_none S l (alone ∙ ap (λ (b : Bool). cond b (Some l) None) e)

pub closing_alone : (S : List Fact) (l : Id) → want S l ≡ Some Close → saga_of S l ≡ l
closing_alone S l close = by (topmost_cancelled S l) refl
  where
    by : (o : Option Id) → topmost_cancelled S l ≡ o → saga_of S l ≡ l
    by None top = saga_none S l top
    by (Some a) top = absurd (let wrong : Some Close ≡ Some Cancel = sym close ∙ cancels S l a top in cc)

-- a participant that is open under an LRA is open under every LRA above that
pub open_above : (S : List Fact) → AllByRecursion NamesEarlier S → (a l : Id) → is_under S a l ≡ true → some_shows is_open S l ≡ true → some_shows is_open S a ≡ true
open_above S nested a l above opened =
    let found = any_gives (λ (f : Fact). shows is_open S l f.body) S opened in
    let who = shown_join is_open S l found.0.body found.2 in
    join_shows is_open S a who.0 who.1 who.2 found.0 found.1 who.3
    (record { under = under_goes S nested a l who.0 above who.4.under; stayed = who.4.stayed; passes = who.4.passes })

-- an LRA under one that wants something wants something
pub wants_below : (S : List Fact) (a d : Id) → IsSettled S → is_some (want S a) ≡ true → is_under S a d ≡ true → is_some (want S d) ≡ true
wants_below S a d settled wants under = by (want S d) refl
  where
    by : (o : Option Verdict) → want S d ≡ o → is_some (want S d) ≡ true
    by (Some x) at = ap is_some at
    by None at =
        let wanted = some_is (want S a) wants in
        let cause = decided_by S a wanted.0 wanted.1 in
        absurd (undecided S d at wanted.0 cause.0 (chain_goes S settled.whole.nested d a cause.0 (under_in S a d under) cause.1) cause.2)

-- and it has ended if that one has
pub ended_under : (S : List Fact) (a l : Id) → IsSettled S → is_under S a l ≡ true → is_ended S a ≡ true → is_ended S l ≡ true
ended_under S a l settled above ended =
    let none : some_shows is_open S a ≡ false = not_false (some_shows is_open S a) (and_right (is_some (want S a)) _ ended) in
    let shut : some_shows is_open S l ≡ false = false_from (some_shows is_open S l) (λ opened. clash (some_shows is_open S a) (open_above S settled.whole.nested a l above opened) none) in
    both_true (is_some (want S l)) _ (wants_below S a l settled (and_left (is_some (want S a)) _ ended) above) (ap not shut)

pub ends_below : (S : List Fact) (l : Id) → IsSettled S → is_ended S (saga_of S l) ≡ true → is_ended S l ≡ true
ends_below S l settled ended = ended_under S (saga_of S l) l settled (saga_above S settled.whole.nested l) ended
