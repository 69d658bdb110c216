-- ranks of statuses, given what is wanted and some tests
use mathlib.Core.Bool.{not}
use Rattle.std.proofs.Common.{◌≡◌, ◌⊎◌, inl, inr, ◌≤◌, ◌&&◌, ℕ, refl, Bool, true, false, cond, arith, Option, Some, None, is_some}
use Rattle.state_ids.specs.States.{compensating, completing, level, rank, rank_of, same_member_status, shown}
use Rattle.state_ids.specs.declared.status.LraStatus.{LraStatus}
use Rattle.state_ids.specs.declared.status.LraStatus.TheVariants.{Active, Closing, Closed, FailedToClose, Cancelling, Cancelled, FailedToCancel}
use Rattle.state_ids.specs.declared.status.MemberStatus.TheVariants.{Compensated, Completed, FailedToComplete, FailedToCompensate}
use Rattle.state_ids.specs.declared.outcome.Outcome.{Outcome}
use Rattle.state_ids.specs.declared.outcome.Outcome.TheVariants.{Busy, Done, Failed}
use Rattle.state_ids.specs.declared.outcome.Verdict.{Verdict}
use Rattle.state_ids.specs.declared.outcome.Verdict.TheVariants.{Close, Cancel}
use Rattle.state_facts.specs.Links.{Links}
use Rattle.state_facts.specs.Sets.{is_open, status_by}

-- Participants of which more is heard

-- if no less is heard, a participant that is open was open before
pub stays_final : (x : Option Verdict) (links : Links) (a b c d : Option Outcome) → level a ≤ level c → level b ≤ level d → is_open (status_by x links c d) ≡ true → is_open (status_by x links a b) ≡ true
stays_final None links a b c d p q e = refl
stays_final (Some Close) links a b c d p q e = closing (is_some links.complete) a c p e
  where
    closing : (given : Bool) (a c : Option Outcome) → level a ≤ level c → is_open (cond given (completing c) Completed) ≡ true → is_open (cond given (completing a) Completed) ≡ true
    closing false a c p e = e
    closing true None c p e = refl
    closing true (Some Busy) c p e = refl
    closing true (Some Done) None p e = absurd (omega arith)
    closing true (Some Done) (Some Busy) p e = absurd (omega arith)
    closing true (Some Done) (Some Done) p e = e
    closing true (Some Done) (Some Failed) p e = absurd cc
    closing true (Some Failed) None p e = absurd (omega arith)
    closing true (Some Failed) (Some Busy) p e = absurd (omega arith)
    closing true (Some Failed) (Some Done) p e = absurd (omega arith)
    closing true (Some Failed) (Some Failed) p e = e
stays_final (Some Cancel) links a b c d p q e = cancelling (is_some links.compensate) b d q e
  where
    cancelling : (given : Bool) (b d : Option Outcome) → level b ≤ level d → is_open (cond given (compensating d) Compensated) ≡ true → is_open (cond given (compensating b) Compensated) ≡ true
    cancelling false b d q e = e
    cancelling true None d q e = refl
    cancelling true (Some Busy) d q e = refl
    cancelling true (Some Done) None q e = absurd (omega arith)
    cancelling true (Some Done) (Some Busy) q e = absurd (omega arith)
    cancelling true (Some Done) (Some Done) q e = e
    cancelling true (Some Done) (Some Failed) q e = absurd cc
    cancelling true (Some Failed) None q e = absurd (omega arith)
    cancelling true (Some Failed) (Some Busy) q e = absurd (omega arith)
    cancelling true (Some Failed) (Some Done) q e = absurd (omega arith)
    cancelling true (Some Failed) (Some Failed) q e = e

-- a participant that failed to complete stays so
pub stays_incomplete : (x : Option Verdict) (links : Links) (a b c d : Option Outcome) → level a ≤ level c → same_member_status FailedToComplete (status_by x links a b) ≡ true → same_member_status FailedToComplete (status_by x links c d) ≡ true
stays_incomplete None links a b c d p e = absurd cc
stays_incomplete (Some Close) links a b c d p e = closing (is_some links.complete) a c p e
  where
    closing : (given : Bool) (a c : Option Outcome) → level a ≤ level c → same_member_status FailedToComplete (cond given (completing a) Completed) ≡ true → same_member_status FailedToComplete (cond given (completing c) Completed) ≡ true
    closing false a c p e = e
    closing true None c p e = absurd cc
    closing true (Some Busy) c p e = absurd cc
    closing true (Some Done) c p e = absurd cc
    closing true (Some Failed) None p e = absurd (omega arith)
    closing true (Some Failed) (Some Busy) p e = absurd (omega arith)
    closing true (Some Failed) (Some Done) p e = absurd (omega arith)
    closing true (Some Failed) (Some Failed) p e = e
stays_incomplete (Some Cancel) links a b c d p e = absurd (never (is_some links.compensate) b e)
  where
    never : (given : Bool) (b : Option Outcome) → same_member_status FailedToComplete (cond given (compensating b) Compensated) ≡ true → ⊥
    never false b e = cc
    never true None e = cc
    never true (Some Busy) e = cc
    never true (Some Done) e = cc
    never true (Some Failed) e = cc

-- and so does a participant that failed to compensate
pub stays_uncompensated : (x : Option Verdict) (links : Links) (a b c d : Option Outcome) → level b ≤ level d → same_member_status FailedToCompensate (status_by x links a b) ≡ true → same_member_status FailedToCompensate (status_by x links c d) ≡ true
stays_uncompensated None links a b c d p e = absurd cc
stays_uncompensated (Some Close) links a b c d p e = closing (is_some links.complete) a e
  where
    closing : (given : Bool) (a : Option Outcome) → same_member_status FailedToCompensate (cond given (completing a) Completed) ≡ true → same_member_status FailedToCompensate (status_by (Some Close) links c d) ≡ true
    closing false a e = absurd cc
    closing true None e = absurd cc
    closing true (Some Busy) e = absurd cc
    closing true (Some Done) e = absurd cc
    closing true (Some Failed) e = absurd cc
stays_uncompensated (Some Cancel) links a b c d p e = cancelling (is_some links.compensate) b d p e
  where
    cancelling : (given : Bool) (b d : Option Outcome) → level b ≤ level d → same_member_status FailedToCompensate (cond given (compensating b) Compensated) ≡ true → same_member_status FailedToCompensate (cond given (compensating d) Compensated) ≡ true
    cancelling false b d p e = e
    cancelling true None d p e = absurd cc
    cancelling true (Some Busy) d p e = absurd cc
    cancelling true (Some Done) d p e = absurd cc
    cancelling true (Some Failed) None p e = absurd (omega arith)
    cancelling true (Some Failed) (Some Busy) p e = absurd (omega arith)
    cancelling true (Some Failed) (Some Done) p e = absurd (omega arith)
    cancelling true (Some Failed) (Some Failed) p e = e

-- What is wanted, by tests for a Cancel and a Close

-- if both pairs of tests agree on whether there is a Cancel, and on whether there is a verdict, the
-- same is wanted
pub wants_alike : (c k later_c later_k : Bool) → (c ≡ true → later_c ≡ true) → (later_c ≡ true → c ≡ true) → (k ≡ true → later_k ≡ true) → (c ≡ true) ⊎ (k ≡ true) → cond c (Some Cancel) (cond k (Some Close) None) ≡ cond later_c (Some Cancel) (cond later_k (Some Close) None)
wants_alike true k later_c later_k f g h s = let e : later_c ≡ true = f refl in rw e refl
wants_alike false k true later_k f g h s = absurd (let e : false ≡ true = g refl in cc)
wants_alike false true false later_k f g h s = let e : later_k ≡ true = h refl in rw e refl
wants_alike false false false later_k f g h (inl s) = absurd cc
wants_alike false false false later_k f g h (inr s) = absurd cc

-- how strong a verdict is: nothing, then Close, then Cancel
abbrev pub force : Option Verdict → ℕ
force None = 0
force (Some Close) = 1
force (Some Cancel) = 2

-- if tests that are true stay true, no less is wanted
pub force_more : (c k later_c later_k : Bool) → (c ≡ true → later_c ≡ true) → (k ≡ true → later_k ≡ true) → force (cond c (Some Cancel) (cond k (Some Close) None)) ≤ force (cond later_c (Some Cancel) (cond later_k (Some Close) None))
force_more true k later_c later_k f g = let e : later_c ≡ true = f refl in rw e (omega arith)
force_more false true true later_k f g = omega arith
force_more false true false later_k f g = let e : later_k ≡ true = g refl in rw e (omega arith)
force_more false false later_c later_k f g = omega arith

-- Ranks

rank_few : (s : LraStatus) → rank s ≤ 6
rank_few Active = omega arith
rank_few Closing = omega arith
rank_few Closed = omega arith
rank_few FailedToClose = omega arith
rank_few Cancelling = omega arith
rank_few Cancelled = omega arith
rank_few FailedToCancel = omega arith

-- if each LRA that is held was held, and the ranks of what is shown rise, the ranks of the statuses
-- rise
pub rank_held : (a b : Bool) (s t : LraStatus) → (b ≡ true → a ≡ true) → (a ≡ true → rank s ≤ rank t) → rank_of (cond a (Some s) None) ≤ rank_of (cond b (Some t) None)
rank_held true true s t f g = g refl
rank_held true false s t f g = omega (arith, rank_few s)
rank_held false true s t f g = absurd (let e : false ≡ true = f refl in cc)
rank_held false false s t f g = omega arith

closing_few : (e i u : Bool) → rank (shown (Some Close) e i u) ≤ 3
closing_few false i u = omega arith
closing_few true false u = omega arith
closing_few true true u = omega arith

cancelling_many : (e i u : Bool) → 4 ≤ rank (shown (Some Cancel) e i u)
cancelling_many false i u = omega arith
cancelling_many true i false = omega arith
cancelling_many true i true = omega arith

shown_more : (x : Verdict) (e i u later_e later_i later_u : Bool) → (e ≡ true → later_e ≡ true) → (i ≡ true → later_i ≡ true) → (u ≡ true → later_u ≡ true) → rank (shown (Some x) e i u) ≤ rank (shown (Some x) later_e later_i later_u)
shown_more Close false i u false later_i later_u a b c = omega arith
shown_more Close false i u true false later_u a b c = omega arith
shown_more Close false i u true true later_u a b c = omega arith
shown_more Close true i u false later_i later_u a b c = absurd (let n : false ≡ true = a refl in cc)
shown_more Close true false u true false later_u a b c = omega arith
shown_more Close true false u true true later_u a b c = omega arith
shown_more Close true true u true false later_u a b c = absurd (let n : false ≡ true = b refl in cc)
shown_more Close true true u true true later_u a b c = omega arith
shown_more Cancel false i u false later_i later_u a b c = omega arith
shown_more Cancel false i u true later_i false a b c = omega arith
shown_more Cancel false i u true later_i true a b c = omega arith
shown_more Cancel true i u false later_i later_u a b c = absurd (let n : false ≡ true = a refl in cc)
shown_more Cancel true i false true later_i false a b c = omega arith
shown_more Cancel true i false true later_i true a b c = omega arith
shown_more Cancel true i true true later_i false a b c = absurd (let n : false ≡ true = c refl in cc)
shown_more Cancel true i true true later_i true a b c = omega arith

not_more : (a b : Bool) → (b ≡ true → a ≡ true) → not a ≡ true → not b ≡ true
not_more true b f e = absurd cc
not_more false true f e = f refl
not_more false false f e = refl

-- with the same verdict the rank rises, if no participant becomes open and those that failed stay
-- so
pub rank_same : (a b : Option Verdict) (x : Verdict) → a ≡ Some x → b ≡ Some x → (o i u later_o later_i later_u : Bool) → (later_o ≡ true → o ≡ true) → (i ≡ true → later_i ≡ true) → (u ≡ true → later_u ≡ true) → rank (shown a (is_some a && not o) i u) ≤ rank (shown b (is_some b && not later_o) later_i later_u)
rank_same a b x e f o i u later_o later_i later_u p q r = rw (e, f) (shown_more x (not o) i u (not later_o) later_i later_u (not_more o later_o p) q r)

-- an LRA that cancels ranks above one that closes
pub rank_raised : (a b : Option Verdict) → a ≡ Some Close → b ≡ Some Cancel → (e i u later_e later_i later_u : Bool) → rank (shown a e i u) ≤ rank (shown b later_e later_i later_u)
rank_raised a b p q e i u later_e later_i later_u = rw (p, q) (omega (arith, closing_few e i u, cancelling_many later_e later_i later_u))
