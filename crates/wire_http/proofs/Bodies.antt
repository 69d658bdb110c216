-- A body in pieces.
use Rattle.std.proofs.Common.{ℕ, ◌+◌, ◌<◌, ◌≤◌, arith, List, ◌++◌, length, sym, subst, append_assoc, length-append}
use Rattle.wire_http.specs.declared.fault.Fault.{Fault}
use Rattle.wire_http.specs.declared.fault.Fault.TheVariants.{Cut, ReadFault, WriteFault, HeadTooLong, BodyTooLong, BadHead, LengthNeeded, NotOffered, NoMemory}
use Rattle.wire_http.specs.Bodies.{RefusesBody}
use Rattle.wire_http.specs.Faults.{Shows, Stops}
use Rattle.wire_http.specs.Streams.{GivenBytes, Gives}
use Rattle.wire_http.proofs.Known.{gives_more}

-- a fault of the piece that follows is a fault of the body
refuses : (size : ℕ) (body rest : List ℕ) (fault : Fault) → length body < size → RefusesBody 1 rest fault → RefusesBody size (body ++ rest) fault
refuses size body rest Cut short f = omega (arith, short, f, length-append body rest)
refuses size body rest ReadFault short f = tt
refuses size body rest NoMemory short f = tt
refuses size body rest HeadTooLong short f = absurd f
refuses size body rest BodyTooLong short f = absurd f
refuses size body rest BadHead short f = absurd f
refuses size body rest LengthNeeded short f = absurd f
refuses size body rest NotOffered short f = absurd f
refuses size body rest WriteFault short f = absurd f

pub body_stopped : (size room : ℕ) (old mid new : GivenBytes) (body : List ℕ) (fault : Fault) → Gives old mid body → length body < size → length body + room ≤ size
    → Stops mid new (Shows room (RefusesBody 1)) fault → Stops old new (Shows size (RefusesBody size)) fault
body_stopped size room old mid new body fault gives short whole stops = record {
  bytes = body ++ stops.bytes;
  gives = gives_more old mid new body stops.bytes gives stops.gives;
  is = record {
    shown = λ more none.
        subst (λ (l : List ℕ). RefusesBody size l fault) (sym (append_assoc body stops.bytes more))
        (refuses size body (stops.bytes ++ more) fault short (stops.is.shown more none));
    short = let fits = stops.is.short in omega (arith, fits, whole, length-append body stops.bytes);
  };
  ended = stops.ended;
}
