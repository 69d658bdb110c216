-- The calls for one message, in two parts.
use Rattle.std.proofs.Common.{◌≡◌, ℕ, ◌+◌, ◌<◌, ◌≤◌, inl, inr, arith}
use Rattle.wire_http.specs.declared.fault.Fault.{Fault}
use Rattle.wire_http.specs.declared.fault.Fault.TheVariants.{Cut, ReadFault, WriteFault, HeadTooLong, BodyTooLong, BadHead, LengthNeeded, NotOffered, NoMemory}
use Rattle.wire_http.specs.Streams.{Calls, AllWell, HasCause, IsLost, OnReadFault}

pub well_none : (before : ℕ) (old : Calls) → before < 1024 → AllWell 0 before old old
well_none before old below = record { none_failed = omega arith; few_interrupted = omega (arith, below); few = omega arith }

-- the first calls went well, and the last of them left this many interrupted ones; the others
-- follow
module _ (first then most before between : ℕ) (old mid new : Calls) (fits : first + then ≤ most) (counted : mid.interrupted + before ≡ old.interrupted + between) (well : AllWell first before old mid) where
  pub well_then : AllWell then between mid new → AllWell most before old new
  well_then next = record {
    none_failed = let a = well.none_failed in let b = next.none_failed in omega (arith, a, b);
    few_interrupted = let b = next.few_interrupted in omega (arith, b, counted);
    few = let a = well.few in let b = next.few in omega (arith, a, b, fits);
  }

  cause_then : HasCause between mid new → HasCause before old new
  cause_then (inl (failed, last, few)) = inl (
    let a = well.none_failed in omega (arith, a, failed),
    last,
    omega (arith, few, counted),
  )
  cause_then (inr (none, all)) = inr (
    let a = well.none_failed in omega (arith, a, none),
    omega (arith, all, counted),
  )

  pub lost_then : IsLost then between mid new → IsLost most before old new
  lost_then next = record {
    cause = cause_then next.cause;
    few = let a = well.few in let b = next.few in omega (arith, a, b, fits);
  }

  pub fault_then : (fault : Fault) → OnReadFault (IsLost then between mid new) (AllWell then between mid new) fault
      → OnReadFault (IsLost most before old new) (AllWell most before old new) fault
  fault_then ReadFault h = lost_then h
  fault_then WriteFault h = absurd h
  fault_then Cut h = well_then h
  fault_then BadHead h = well_then h
  fault_then HeadTooLong h = well_then h
  fault_then BodyTooLong h = well_then h
  fault_then LengthNeeded h = well_then h
  fault_then NotOffered h = well_then h
  fault_then NoMemory h = well_then h
