-- what is seen of one member, and of one more
use Rattle.std.proofs.Common.{◌≡◌, ◌-◌, ◌<◌, ℕ, zero, suc, refl, sym, ap, ◌∙◌, Bool, false, arith, Option, Some, None}
use Rattle.std.specs.List.{list_any}
use Rattle.state_ids.specs.States.{same_member_status}
use Rattle.state_ids.specs.declared.status.MemberStatus.{MemberStatus}
use Rattle.state_ids.specs.declared.status.MemberStatus.TheVariants.{FailedToComplete, FailedToCompensate}
use Rattle.state_ids.specs.declared.outcome.Verdict.{Verdict}
use Rattle.state_facts.specs.Sets.{is_open}
use Rattle.state_forest.specs.declared.record.Participant.{Participant as ParticipantRecord}
use Rattle.state_forest.specs.declared.record.Member.TheVariants.{Nested, Participant, Left}
use Rattle.state_forest.specs.declared.record.Record.{Record}
use Rattle.state_forest.specs.Children.{child_of}
use Rattle.state_forest.specs.Statuses.{member_passes, seen_by, shows_within, status_in}
use Rattle.state_forest.specs.Wants.{over}

-- two functions that agree on each test are seen alike
pub seen_alike : (f g : (MemberStatus → Bool) → Bool) → ((test : MemberStatus → Bool) → f test ≡ g test) → seen_by f ≡ seen_by g
seen_alike f g h =
    ap (λ (b : Bool). record { unsettled = b; incomplete = f (same_member_status FailedToComplete); uncompensated = f (same_member_status FailedToCompensate) }) (h is_open)
    ∙ ap (λ (b : Bool). record { unsettled = g is_open; incomplete = b; uncompensated = f (same_member_status FailedToCompensate) }) (h (same_member_status FailedToComplete))
    ∙ ap (λ (b : Bool). record { unsettled = g is_open; incomplete = g (same_member_status FailedToComplete); uncompensated = b }) (h (same_member_status FailedToCompensate))

pub within_participant : (levels : ℕ) (at : ℕ → Option Record) (num : ℕ) (want : Option Verdict) (p : ParticipantRecord) → seen_by (λ test. test (status_in want p)) ≡ seen_by (λ test. shows_within levels test at num want (Participant p))
unfolding shows_within
within_participant zero at num want p = refl
within_participant (suc levels) at num want p = refl

pub within_left : (levels : ℕ) (at : ℕ → Option Record) (num : ℕ) (want : Option Verdict) → seen_by (λ test. false) ≡ seen_by (λ test. shows_within levels test at num want Left)
unfolding shows_within
within_left zero at num want = refl
within_left (suc levels) at num want = refl

pub within_none : (levels : ℕ) (at : ℕ → Option Record) (num : ℕ) (want : Option Verdict) (child : ℕ) → child_of at num child ≡ None → seen_by (λ test. false) ≡ seen_by (λ test. shows_within levels test at num want (Nested child))
unfolding shows_within
within_none zero at num want child none = refl
within_none (suc levels) at num want child none =
    seen_alike (λ test. false) (λ test. shows_within (suc levels) test at num want (Nested child)) (λ test. sym (ap (member_passes (shows_within levels test at child) want) none))

pub within_bottom : (at : ℕ → Option Record) (num : ℕ) (want : Option Verdict) (child : ℕ) → seen_by (λ test. false) ≡ seen_by (λ test. shows_within zero test at num want (Nested child))
unfolding shows_within
within_bottom at num want child = refl

pub within_nested : (levels : ℕ) (at : ℕ → Option Record) (num : ℕ) (want : Option Verdict) (child : ℕ) (r : Record) → 0 < levels → child_of at num child ≡ Some r → seen_by (λ test. list_any (shows_within (levels - 1) test at child (over r.decision want)) r.members) ≡ seen_by (λ test. shows_within levels test at num want (Nested child))
unfolding shows_within
within_nested zero at num want child r some found = absurd (omega (arith, some))
within_nested (suc levels) at num want child r some found =
    let less : suc levels - 1 ≡ levels = omega arith in
    seen_alike (λ test. list_any (shows_within (suc levels - 1) test at child (over r.decision want)) r.members) (λ test. shows_within (suc levels) test at num want (Nested child))
    (λ test. ap (λ (k : ℕ). list_any (shows_within k test at child (over r.decision want)) r.members) less
    ∙ sym (ap (member_passes (shows_within levels test at child) want) found))
