-- Only participants that were named are to be called.
use Rattle.std.proofs.Common.{◌≡◌, ◌<◌, ◌∷◌, [], ℕ, Bool, true, false, List, Some, length, map, rules, subst, sym}
use Rattle.std.proofs.lemmas.List.Elements.{All-cons, All-head, All-map, All-nil, All-set, All-tail, All-weaker}
use Rattle.std.specs.List.{All}
use Rattle.std.specs.Prelude.{if◌then◌else◌}
use Rattle.wire_callbacks.specs.declared.duty.Duty.{Duty}
use Rattle.node_schedule.specs.Calling.{Calling, IsTakenFrom}
use Rattle.node_schedule.specs.Named.{AllDue, AllKept, AllNamed, AllWaiting, IsKept, NamesNoOther, Passes}
use Rattle.node_schedule.specs.Listing.{recalled_all}
use Rattle.node_schedule.specs.Slips.{begun_to, called_of, same_called, standing, taken_back}
use Rattle.node_schedule.specs.Turns.{AtHost, Begins, BeginsAt, IsNext, Turns, host_at, next_turn, nowhere, recalled}
use Rattle.node_schedule.specs.declared.slip.Called.{Called}
use Rattle.node_schedule.specs.declared.slip.Slip.{Slip}
use Rattle.node_schedule.specs.declared.slip.SlipState.TheVariants.{IsCalled}

-- the first of those that are left is put, and this names no other
pub put_next : (test : Duty → Bool) (old new : Calling) (left rest : List Duty) (first : Duty) → left ≡ first ∷ rest
    → NamesNoOther old new (first ∷ []) → AllNamed test old → All (Passes test) left → AllNamed test new × All (Passes test) rest
put_next test old new left rest first is names named passes =
    let both = subst (All (Passes test)) is passes in
    (names test named (All-cons (Passes test) first [] (All-head (Passes test) first rest both) (All-nil (Passes test))), All-tail (Passes test) first rest both)

-- a participant is called for what it was to be called for
begun_by : (test : Duty → Bool) (is_it : Bool) (slip : Slip) → IsKept test slip → IsKept test (if is_it then standing IsCalled slip else slip)
begun_by test true slip kept = kept
begun_by test false slip kept = kept

all_begun : (test : Duty → Bool) (who : Called) (slips : List Slip) → AllKept test slips → AllKept test (map (begun_to who) slips)
all_begun test who slips kept =
    All-map (IsKept test) (begun_to who) slips
    (All-weaker (IsKept test) (λ (slip : Slip). IsKept test (begun_to who slip)) (λ slip h. begun_by test (same_called slip.who who) slip h) slips kept)

-- a host that is called next is one of the hosts
pub next_within : (now : Turns) (place : ℕ) → IsNext now (Some place) → place < length now.hosts
next_within now place next = search rules

-- the first participant of a host is called, and the others go on waiting
begun : (test : Duty → Bool) (turn : ℕ) (duty : Duty) (old new : AtHost) → Begins turn duty old new → AllDue test old → Passes test duty × AllDue test new
begun test turn duty old new begins due =
    let both = subst (All (Passes test)) begins.first due in
    (All-head (Passes test) duty new.due both, All-tail (Passes test) duty new.due both)

taken_at : (test : Duty → Bool) (place : ℕ) (duty : Duty) (old new : Turns) → place < length old.hosts → BeginsAt place duty old new → AllWaiting test old.hosts
    → Passes test duty × AllWaiting test new.hosts
taken_at test place duty old new within begins waiting =
    let both = begun test (next_turn old.turns) duty (host_at old.hosts place) (host_at new.hosts place) begins.begins (waiting place nowhere within) in
    (both.0, subst (AllWaiting test) (sym begins.others) (All-set (AllDue test) old.hosts place (host_at new.hosts place) both.1 waiting))

-- what is taken was named, and so was what is left
pub taken : (old new : Calling) (duty : Duty) (test : Duty → Bool) → IsTakenFrom old new (Some duty) → AllNamed test old → Passes test duty × AllNamed test new
taken old new duty test is named =
    let both = taken_at test is.hosts.0 duty old.now new.now (next_within old.now is.hosts.0 is.hosts.1) is.hosts.2 named.waiting in
    (both.0, record { waiting = both.1; kept = subst (AllKept test) (sym is.slips) (all_begun test (called_of duty) old.slips named.kept) })

-- if all is taken back, no participant is to be called for anything
pub recalled_names : (test : Duty → Bool) (calling : Calling) → AllNamed test (recalled_all calling)
recalled_names test calling = record {
  waiting = All-map (AllDue test) recalled calling.now.hosts (λ k d e. All-nil (Passes test));
  kept = All-map (IsKept test) taken_back calling.slips (λ k d e. tt);
}
