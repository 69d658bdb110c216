-- A wait is over when there is a task.
use Rattle.std.proofs.Common.{◌≡◌, ◌≤◌, ◌⊎◌, ◌&&◌, ◌||◌, ◌∙◌, ℕ, Bool, true, false, Option, None, Some, arith, inl, inr, not, refl, subst, sym}
use Rattle.std.proofs.lemmas.Bool.{leb-true, ltb-false, ltb-true}
use Rattle.std.specs.Duration.{as_nanos}
use Rattle.std.specs.List.{list_any}
use Rattle.std.specs.Prelude.{if◌then◌else◌, is_some, length, nat_le, nat_lt}
use Rattle.std.specs.declared.time.Duration.{Duration}
use Rattle.node_schedule.specs.Pausing.{earlier}
use Rattle.node_agenda.specs.Backlogs.{is_any_due, is_due_of, is_failed, nodes, waiting_of}
use Rattle.node_agenda.specs.Mail.{Mail, is_wanted}
use Rattle.node_agenda.specs.Moments.{earlier_of, is_by}
use Rattle.node_agenda.specs.Resting.{counts_or_looks, has_task, is_occupied, looks_at, next_at, rests_until, that_or, tries_or}
use Rattle.node_agenda.specs.Sweeps.{is_chore}
use Rattle.node_agenda.specs.Tasks.{has, is_spared, may_enter}
use Rattle.node_agenda.proofs.Circle.{any_there, none_of_all}
use Rattle.node_agenda.specs.declared.task.OperatorWant.{OperatorWant}
use Rattle.node_agenda.specs.declared.task.OperatorWant.TheVariants.{Command, Nothing, Question}
use Rattle.node_agenda.specs.declared.turn.Turn.TheVariants.{OfChores, OfCount, OfDeadlines, OfDuties, OfErrand, OfLetters, OfTelling}

one_of : (a b c d e f g : Bool) → (a || (b || (c || (d || (e || (f || g)))))) ≡ true
    → (a ≡ true) ⊎ ((b ≡ true) ⊎ ((c ≡ true) ⊎ ((d ≡ true) ⊎ ((e ≡ true) ⊎ ((f ≡ true) ⊎ (g ≡ true))))))
one_of true b c d e f g h = inl refl
one_of false true c d e f g h = inr (inl refl)
one_of false false true d e f g h = inr (inr (inl refl))
one_of false false false true e f g h = inr (inr (inr (inl refl)))
one_of false false false false true f g h = inr (inr (inr (inr (inl refl))))
one_of false false false false false true g h = inr (inr (inr (inr (inr (inl refl)))))
one_of false false false false false false g h = inr (inr (inr (inr (inr (inr h)))))

-- none of the last five
record NoneOf (c d e f g : Bool) : Type 0 where
  letters : c ≡ false
  telling : d ≡ false
  duties : e ≡ false
  chores : f ≡ false
  errand : g ≡ false

none_of : (a b c d e f g : Bool) → (a || (b || (c || (d || (e || (f || g)))))) ≡ false → NoneOf c d e f g
none_of true b c d e f g h = absurd cc
none_of false true c d e f g h = absurd cc
none_of false false true d e f g h = absurd cc
none_of false false false true e f g h = absurd cc
none_of false false false false true f g h = absurd cc
none_of false false false false false true g h = absurd cc
none_of false false false false false false g h = record { letters = refl; telling = refl; duties = refl; chores = refl; errand = h }

both : (a b : Bool) → (a && b) ≡ true → (a ≡ true) × (b ≡ true)
both true b h = (refl, h)
both false b h = absurd cc

not_true : (a : Bool) → not a ≡ true → a ≡ false
not_true true h = absurd cc
not_true false h = refl

neither : (a b : Bool) → (a || b) ≡ false → a ≡ false
neither true b h = absurd cc
neither false b h = refl

-- the earlier of two moments is at most each
first_if : (one other : Duration) (is_less : Bool) → nat_lt (as_nanos other) (as_nanos one) ≡ is_less
    → (as_nanos (if is_less then other else one) ≤ as_nanos one) × (as_nanos (if is_less then other else one) ≤ as_nanos other)
first_if one other true e = let less = ltb-true (as_nanos other) (as_nanos one) e in (omega (arith, less), omega arith)
first_if one other false e = let le = ltb-false (as_nanos other) (as_nanos one) e in (omega arith, omega (arith, le))

first : (one other : Duration) → (as_nanos (earlier_of one other) ≤ as_nanos one) × (as_nanos (earlier_of one other) ≤ as_nanos other)
first one other = first_if one other (nat_lt (as_nanos other) (as_nanos one)) refl

resumed : (resumes : Option Duration) (at : Duration) → as_nanos (earlier resumes at) ≤ as_nanos at
resumed None at = omega arith
resumed (Some one) at = (first_if one at (nat_lt (as_nanos at) (as_nanos one)) refl).1

-- when deadlines are checked, and when facts are counted
looks : (m : Mail) (later : Duration) → m.opening.is_open ≡ true → as_nanos m.asking.ticks_at ≤ as_nanos later → as_nanos (looks_at m) ≤ as_nanos later
looks m later is_open le = subst (λ (b : Bool). as_nanos (if b then m.asking.ticks_at else that_or m.opening.opens_at m.asking.ticks_at) ≤ as_nanos later) (sym is_open) le

counted_if : (is_to_count : Bool) (at counts_at later : Duration) → as_nanos at ≤ as_nanos later → as_nanos (if is_to_count then earlier_of at counts_at else at) ≤ as_nanos later
counted_if true at counts_at later le = let e = (first at counts_at).0 in omega (arith, e, le)
counted_if false at counts_at later le = le

counted : (is_to_count : Bool) (at counts_at later : Duration) → is_to_count ≡ true → as_nanos counts_at ≤ as_nanos later → as_nanos (if is_to_count then earlier_of at counts_at else at) ≤ as_nanos later
counted true at counts_at later is le = let e = (first at counts_at).1 in omega (arith, e, le)
counted false at counts_at later is le = absurd cc

-- if something is stored later that isn't now, the journal is spared now
not_entered : (is_open spared b : Bool) → is_open ≡ true → spared ≡ false → b ≡ true → ((is_open && not spared) && b) ≡ false → ⊥
not_entered true false true o s e n = absurd cc
not_entered true true b o s e n = absurd cc
not_entered true false false o s e n = absurd cc
not_entered false spared b o s e n = absurd cc

not_taken : (spared b : Bool) → spared ≡ false → (not spared && b) ≡ false → b ≡ false
not_taken false b s n = n
not_taken true b s n = absurd cc

-- when the next timer fires, unless the journal is spared
abbrev unheld : Duration → Mail → Duration
unheld now m = tries_or now m.backlog.retry_at (counts_or_looks m)

-- if the journal is spared, until it isn't
next_if : (m : Mail) (now later : Duration) (spared : Bool) → is_spared later m ≡ false → (spared ≡ false → as_nanos (unheld now m) ≤ as_nanos later)
    → as_nanos (if spared then m.held_until else unheld now m) ≤ as_nanos later
next_if m now later true free or_else = ltb-false (as_nanos later) (as_nanos m.held_until) free
next_if m now later false free or_else = or_else refl

-- what the journal couldn't take is tried at the earlier of two moments, or at another
tries_by : (is_tried : Bool) (retry_at other later : Duration) → as_nanos other ≤ as_nanos later → as_nanos (if is_tried then other else earlier_of other retry_at) ≤ as_nanos later
tries_by true retry_at other later le = le
tries_by false retry_at other later le = let e = (first other retry_at).0 in omega (arith, e, le)

unheld_by : (m : Mail) (now later : Duration) → as_nanos (counts_or_looks m) ≤ as_nanos later → as_nanos (unheld now m) ≤ as_nanos later
unheld_by m now later le = tries_by (is_by now m.backlog.retry_at) m.backlog.retry_at (counts_or_looks m) later le

retries_by : (is_tried : Bool) (retry_at other later : Duration) → is_tried ≡ false → as_nanos retry_at ≤ as_nanos later → as_nanos (if is_tried then other else earlier_of other retry_at) ≤ as_nanos later
retries_by true retry_at other later none le = absurd cc
retries_by false retry_at other later none le = let e = (first other retry_at).1 in omega (arith, e, le)

-- if a telling is due later that isn't now, the pause before the next try is over by then
tried_later : (waits failed now_by later_by : Bool) → (waits && (not failed || now_by)) ≡ false → (waits && (not failed || later_by)) ≡ true → (now_by ≡ false) × (later_by ≡ true)
tried_later true true false true none some = (refl, refl)
tried_later true true true later_by none some = absurd cc
tried_later true true false false none some = absurd cc
tried_later true false now_by later_by none some = absurd cc
tried_later false failed now_by later_by none some = absurd cc

taken_by : (m : Mail) (now later : Duration) → is_any_due now m.backlog ≡ false → is_any_due later m.backlog ≡ true → as_nanos (unheld now m) ≤ as_nanos later
taken_by m now later none some =
    let due = both (not (is_some m.backlog.taking)) (list_any (is_due_of later m.backlog) nodes) some in
    let one = any_there (is_due_of later m.backlog) due.1 in
    let idle = not_any (not (is_some m.backlog.taking)) (list_any (is_due_of now m.backlog) nodes) due.0 none in
    let over = tried_later (is_some (waiting_of one.node m.backlog)) (is_failed one.node m.backlog) (is_by now m.backlog.retry_at) (is_by later m.backlog.retry_at)
    (none_of_all (is_due_of now m.backlog) one.node one.least one.most idle) one.is
    in
    retries_by (is_by now m.backlog.retry_at) m.backlog.retry_at (counts_or_looks m) later over.0 (leb-true (as_nanos m.backlog.retry_at) (as_nanos later) over.1)
  where
    not_any : (a b : Bool) → a ≡ true → (a && b) ≡ false → b ≡ false
    not_any true b is e = e
    not_any false b is e = absurd cc

-- for a kind of task that stores something
entered_by : (m : Mail) (now later : Duration) (b : Bool) → (may_enter now m && b) ≡ false → (may_enter later m && b) ≡ true → as_nanos (next_at now m) ≤ as_nanos later
entered_by m now later b none some =
    let h = both (may_enter later m) b some in
    let may = both m.opening.is_open (not (is_spared later m)) h.0 in
    next_if m now later (is_spared now m) (not_true (is_spared later m) may.1) (λ free. absurd (not_entered m.opening.is_open (is_spared now m) b may.0 free h.1 none))

wanted_by : (m : Mail) (now later : Duration) (wanted : OperatorWant) → is_wanted (may_enter now m) wanted ≡ false → is_wanted (may_enter later m) wanted ≡ true → as_nanos (next_at now m) ≤ as_nanos later
wanted_by m now later Nothing none some = absurd cc
wanted_by m now later Question none some = absurd cc
wanted_by m now later Command none some =
    entered_by m now later true (grind (arith, none)) (grind (arith, some))

next_by : (m : Mail) (now later : Duration) → is_chore later m.sweeps ≡ is_chore now m.sweeps → has_task now m ≡ false → has_task later m ≡ true → as_nanos (next_at now m) ≤ as_nanos later
next_by m now later same none some =
    let none = none_of (has now m OfDeadlines) (has now m OfCount) (has now m OfLetters) (has now m OfTelling) (has now m OfDuties) (has now m OfChores) (has now m OfErrand) none in
    let Goal = as_nanos (next_at now m) ≤ as_nanos later in
    elim (one_of (has later m OfDeadlines) (has later m OfCount) (has later m OfLetters) (has later m OfTelling) (has later m OfDuties) (has later m OfChores) (has later m OfErrand) some) as (λ _. Goal) [
      | inl ticks ↦
          let h = both (may_enter later m) (is_by later m.asking.ticks_at) ticks in
          let may = both m.opening.is_open (not (is_spared later m)) h.0 in
          next_if m now later (is_spared now m) (not_true (is_spared later m) may.1)
          (λ free. unheld_by m now later (counted_if m.known.is_to_count (looks_at m) m.known.counts_at later (looks m later may.0 (leb-true (as_nanos m.asking.ticks_at) (as_nanos later) h.1))))
      | inr more ↦ elim more as (λ _. Goal) [
        | inl counts ↦
            let h = both (not (is_spared later m)) (m.known.is_to_count && is_by later m.known.counts_at) counts in
            let is = both m.known.is_to_count (is_by later m.known.counts_at) h.1 in
            next_if m now later (is_spared now m) (not_true (is_spared later m) h.0)
            (λ free. unheld_by m now later (counted m.known.is_to_count (looks_at m) m.known.counts_at later is.0 (leb-true (as_nanos m.known.counts_at) (as_nanos later) is.1)))
        | inr more ↦ elim more as (λ _. Goal) [
          | inl letters ↦ entered_by m now later (nat_lt 0 (length m.letters)) none.letters letters
          | inr more ↦ elim more as (λ _. Goal) [
            | inl telling ↦
                let h = both (not (is_spared later m)) (is_any_due later m.backlog) telling in
                next_if m now later (is_spared now m) (not_true (is_spared later m) h.0)
                (λ free. taken_by m now later (not_taken (is_spared now m) (is_any_due now m.backlog) free none.telling) h.1)
            | inr more ↦ elim more as (λ _. Goal) [
              | inl duties ↦ entered_by m now later m.asking.is_stirred none.duties duties
              | inr more ↦ elim more as (λ _. Goal) [
                | inl chores ↦ entered_by m now later (is_chore now m.sweeps) none.chores (subst (λ (b : Bool). (may_enter later m && b) ≡ true) same chores)
                | inr errand ↦ wanted_by m now later m.wanted none.errand errand
              ]
            ]
          ]
        ]
      ]
    ]

pub over_by_then : (m : Mail) (now later : Duration) → is_chore later m.sweeps ≡ is_chore now m.sweeps → is_occupied now m ≡ false → as_nanos now ≤ as_nanos later → has_task later m ≡ true
    → as_nanos (rests_until now m) ≤ as_nanos later
over_by_then m now later same idle le some =
    let next = next_by m now later same (neither (has_task now m) m.is_hurried idle) some in
    let sooner = resumed m.calls.resumes_at (next_at now m) in
    omega (arith, next, sooner)
