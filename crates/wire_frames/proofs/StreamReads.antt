-- what the reading of a whole input says of the bytes that came
use Rattle.std.proofs.Common.{◌≡◌, ℕ, ◌+◌, ◌-◌, ◌≤◌, ◌<◌, List, [], ◌++◌, length, take, Option, None, Some, Result, Ok, Err, refl, sym, ap, subst, ◌∙◌, arith}
use Rattle.std.specs.Prelude.{IfErr, IfOk, IfSome}
use Rattle.std.specs.Borrow.{GName}
use Rattle.std.specs.Io.KnownBytes.{Consumes, IsAtEnd}
use Rattle.std.proofs.lemmas.List.{append-nil, take_all}
use Rattle.std.proofs.Math.Seq.{take-append-add}
use Rattle.wire_http.specs.Streams.{AllWell, FoundEnd, Gives as GivesBytes, HasCause, IsLost, too_many_interrupted}
use Rattle.wire_frames.specs.declared.input.Stop.{Stop}
use Rattle.wire_frames.specs.declared.input.Stop.TheVariants.{Fault, Cut, ReadFault, Memory}
use Rattle.wire_frames.specs.Encoding.{encoding_as}
use Rattle.wire_frames.specs.FrameFields.{Gives, told_of, value_of}
use Rattle.wire_frames.specs.Frames.{Frame}
use Rattle.wire_frames.specs.Rules.{IsDeltaAs}
use Rattle.wire_frames.specs.declared.version.Version.{Version}
use Rattle.wire_frames.specs.Seen.{Seen, Standing, Start, Answers, Whole, HasReason, Begins, GoesWell, IsWell, StopsWell, rest_in}
use Rattle.wire_frames.specs.Sources.{IsSound, OnReadFault, ReadsCalls, Refuses, Says, StopsReading}
use Rattle.wire_frames.specs.Reading.{frame_at, looking, read_of, frame_in}
use Rattle.wire_frames.proofs.FrameCodes.{frame_takes}
use Rattle.wire_frames.proofs.Loop.{begins_itself}
use Rattle.wire_frames.proofs.Slices.{says_told}

-- a source in this state gave nothing yet, and may give this many bytes
pub record IsFresh (stands : Standing) (size : ℕ) (s : Seen) : Type 0 where
  pub standing : s.first.standing ≡ stands
  pub now : s.now ≡ stands
  pub bytes : s.first.bytes ≡ size
  pub limit : s.limit ≡ size
  pub taken : s.taken ≡ []

-- a source is in this state at its start
pub fresh_source : (stands : Standing) (bytes : ℕ) (source : GName) (s : Seen) → s ≡ record { first = record { standing = stands; bytes = bytes; source = source }; now = stands; taken = []; limit = bytes } → IsFresh stands bytes s
fresh_source stands bytes source s e = record {
  standing = ap (λ (o : Seen). o.first.standing) e;
  now = ap (λ (o : Seen). o.now) e;
  bytes = ap (λ (o : Seen). o.first.bytes) e;
  limit = ap (λ (o : Seen). o.limit) e;
  taken = ap (λ (o : Seen). o.taken) e;
}

begins_more : (taken more : List ℕ) → Begins taken (taken ++ more)
unfolding Begins
begins_more taken more = (more, refl)

fresh_read : (stands : Standing) (bytes : ℕ) (s : Seen) (whole : List ℕ) → IsFresh stands bytes s → value_of (frame_at (rest_in whole s)) ≡ looking bytes whole
fresh_read stands bytes s whole f = rw (f.taken, f.limit) refl

-- what reading gives, for any whole input
abbrev Known : (bytes : ℕ) (new : Seen) (result : Result Frame Stop) → Type 0
Known bytes new result = (whole : List ℕ) → Whole result new whole → Gives (length new.taken) (λ (x : Frame). x) result (looking bytes whole)

known : (stands : Standing) (bytes : ℕ) (old new : Seen) (result : Result Frame Stop) → IsFresh stands bytes old → Answers old new (λ (x : Frame). x) result frame_at → Known bytes new result
known stands bytes old new result f a whole w = rw (← (fresh_read stands bytes old whole f)) (a.2 whole w).1

first_is : (stands : Standing) (bytes : ℕ) (old new : Seen) → IsFresh stands bytes old → new.first ≡ old.first → new.first.standing ≡ stands
first_is stands bytes old new f e = ap (λ (s : Start). s.standing) e ∙ f.standing

bytes_are : (stands : Standing) (bytes : ℕ) (old new : Seen) → IsFresh stands bytes old → new.first ≡ old.first → new.first.bytes ≡ bytes
bytes_are stands bytes old new f e = ap (λ (s : Start). s.bytes) e ∙ f.bytes

gave : (stands : Standing) (bytes : ℕ) (old new : Seen) → IsFresh stands bytes old → new.first ≡ old.first → IsSound new → GivesBytes stands.stream new.now.stream new.taken
gave stands bytes old new f e sound = subst (λ (s : Standing). GivesBytes s.stream new.now.stream new.taken) (first_is stands bytes old new f e) sound.gives

-- what was given before a reading stopped
refuses : (bytes : ℕ) (new : Seen) (e : Stop) → HasReason e new → Known bytes new (Err e) → length new.taken ≤ bytes → new.limit ≤ bytes → Refuses bytes e new.taken
refuses bytes new (Fault place) reason reads le lim = ((λ more. reads (new.taken ++ more) (begins_more new.taken more)), reason)
refuses bytes new Cut reason reads le lim = (ap told_of (reads new.taken refl), omega (arith, reason.0, lim))
refuses bytes new ReadFault reason reads le lim = ap told_of (reads new.taken refl)
refuses bytes new Memory reason reads le lim = tt

ended : (new : Seen) (e : Stop) → HasReason e new → e ≡ Cut → FoundEnd new.now.stream
ended new e reason is = (subst (λ (stop : Stop). HasReason stop new) is reason).1

pub reads_stop : (stands : Standing) (bytes : ℕ) (old new : Seen) (result : Result Frame Stop) → IsFresh stands bytes old → Answers old new (λ (x : Frame). x) result frame_at → IsSound new
    → IfErr result (StopsReading bytes stands.stream new.now.stream)
reads_stop stands bytes old new (Ok d) f a sound = tt
reads_stop stands bytes old new (Err e) f a sound =
    let size = bytes_are stands bytes old new f a.0 in
    record {
      given = new.taken;
      gives = gave stands bytes old new f a.0 sound;
      short = rw size at sound.short;
      refuses = refuses bytes new e a.1 (known stands bytes old new (Err e) f a) (rw size at sound.short) (rw size at sound.inside);
      ended = ended new e a.1;
    }

pub reads_frame : (stands : Standing) (bytes : ℕ) (old new : Seen) (result : Result Frame Stop) → IsFresh stands bytes old → Answers old new (λ (x : Frame). x) result frame_at → IsSound new → IfOk result (λ _. length new.taken ≡ old.limit)
    → IfOk result (λ d. (v : Version) × IsDeltaAs v d × (length (encoding_as v d) ≡ bytes) × GivesBytes stands.stream new.now.stream (encoding_as v d))
reads_frame stands bytes old new (Err e) f a sound whole = tt
reads_frame stands bytes old new (Ok d) f a sound whole =
    let size : length new.taken ≡ bytes = whole ∙ f.limit in
    let read : read_of bytes new.taken ≡ Ok d = ap told_of (known stands bytes old new (Ok d) f a new.taken (begins_itself new.taken)) in
    let all : frame_in new.taken ≡ Ok d = subst (λ (n : ℕ). read_of n new.taken ≡ Ok d) (sym size) read in
    let takes = frame_takes new.taken d sound.bytes all in
    (takes.0, takes.1, ap length (sym takes.2) ∙ size, subst (λ (bs : List ℕ). GivesBytes stands.stream new.now.stream bs) takes.2 (gave stands bytes old new f a.0 sound))

-- ---- known bytes

part_begins : (taken ys ahead : List ℕ) (n : ℕ) → ahead ≡ taken ++ ys → Begins taken (take (length taken + n) ahead)
unfolding Begins
part_begins taken ys ahead n e = (take n ys, rw e (take-append-add taken ys n))

known_begins : (ahead taken : List ℕ) (now : Option (List ℕ)) (bytes : ℕ) → Consumes (Some ahead) now taken → length taken ≤ bytes → Begins taken (take bytes ahead)
known_begins ahead taken None bytes c le = absurd c
known_begins ahead taken (Some ys) bytes c le =
    let size : length taken + (bytes - length taken) ≡ bytes = omega (arith, le) in
    subst (λ (n : ℕ). Begins taken (take n ahead)) size (part_begins taken ys ahead (bytes - length taken) c)

known_whole : (ahead taken : List ℕ) (now : Option (List ℕ)) (bytes : ℕ) → Consumes (Some ahead) now taken → IsAtEnd now → length taken ≤ bytes → take bytes ahead ≡ taken
known_whole ahead taken None bytes c end le = absurd c
known_whole ahead taken (Some ys) bytes c end le =
    let all : ahead ≡ taken = c ∙ ap (λ (l : List ℕ). taken ++ l) end ∙ append-nil taken in
    take_all bytes ahead (rw all le) ∙ all

told : (ahead : List ℕ) (bytes : ℕ) (new : Seen) (result : Result Frame Stop) → Known bytes new result → Whole result new (take bytes ahead) → Says result (read_of bytes (take bytes ahead))
told ahead bytes new result reads whole = says_told (length new.taken) result _ (reads (take bytes ahead) whole)

says : (ahead : List ℕ) (bytes : ℕ) (new : Seen) (result : Result Frame Stop) → Consumes (Some ahead) new.now.stream.left new.taken → length new.taken ≤ bytes → IfErr result (λ e. HasReason e new) → Known bytes new result
    → Says result (read_of bytes (take bytes ahead))
says ahead bytes new (Ok x) c le reason reads = told ahead bytes new (Ok x) reads (known_begins ahead new.taken new.now.stream.left bytes c le)
says ahead bytes new (Err (Fault place)) c le reason reads = told ahead bytes new (Err (Fault place)) reads (known_begins ahead new.taken new.now.stream.left bytes c le)
says ahead bytes new (Err Cut) c le reason reads = told ahead bytes new (Err Cut) reads (known_whole ahead new.taken new.now.stream.left bytes c reason.1.1 le)
says ahead bytes new (Err ReadFault) c le reason reads = tt
says ahead bytes new (Err Memory) c le reason reads = tt

says_some : (left : Option (List ℕ)) (bytes : ℕ) (new : Seen) (result : Result Frame Stop) → Consumes left new.now.stream.left new.taken → length new.taken ≤ bytes → IfErr result (λ e. HasReason e new) → Known bytes new result
    → IfSome left (λ ahead. Says result (read_of bytes (take bytes ahead)))
says_some None bytes new result c le reason reads = tt
says_some (Some ahead) bytes new result c le reason reads = says ahead bytes new result c le reason reads

pub reads_known : (stands : Standing) (bytes : ℕ) (old new : Seen) (result : Result Frame Stop) → IsFresh stands bytes old → Answers old new (λ (x : Frame). x) result frame_at → IsSound new
    → IfSome stands.stream.left (λ ahead. Says result (read_of bytes (take bytes ahead)))
reads_known stands bytes old new result f a sound =
    says_some stands.stream.left bytes new result (gave stands bytes old new f a.0 sound).left (rw (bytes_are stands bytes old new f a.0) at sound.short) a.1 (known stands bytes old new result f a)

-- ---- calls

well_begins : (stands : Standing) (bytes : ℕ) (old : Seen) → IsFresh stands bytes old → stands.counted < too_many_interrupted → IsWell old
unfolding GoesWell
well_begins stands bytes old f few = rw (f.standing, f.now) (refl, few)

-- what the struct says of its source, in terms of its earlier state
record Counts (stands : Standing) (bytes : ℕ) (now : Standing) : Type 0 where
  pub counted : now.calls.interrupted + stands.counted ≡ stands.calls.interrupted + now.counted
  pub few : now.calls.made + stands.calls.interrupted ≤ stands.calls.made + bytes + now.calls.interrupted

counts : (stands : Standing) (bytes : ℕ) (old new : Seen) → IsFresh stands bytes old → new.first ≡ old.first → IsSound new → Counts stands bytes new.now
counts stands bytes old new f e sound =
    subst (λ (s : Standing). Counts s bytes new.now) (first_is stands bytes old new f e)
    (record { counted = sound.counted; few = rw (bytes_are stands bytes old new f e) at sound.few })

all_well : (stands now : Standing) (bytes : ℕ) → Counts stands bytes now → GoesWell stands now → AllWell bytes stands.counted stands.calls now.calls
unfolding GoesWell
all_well stands now bytes c well = record {
  none_failed = well.0;
  few_interrupted = omega (arith, c.counted, well.1);
  few = c.few;
}

well_now : (stands : Standing) (bytes : ℕ) (old new : Seen) → IsFresh stands bytes old → new.first ≡ old.first → IsWell new → GoesWell stands new.now
well_now stands bytes old new f e well = subst (λ (s : Standing). GoesWell s new.now) (first_is stands bytes old new f e) well

on_stop : (stands : Standing) (bytes : ℕ) (old new : Seen) (e : Stop) → IsFresh stands bytes old → new.first ≡ old.first → HasReason e new → StopsWell e new → Counts stands bytes new.now
    → OnReadFault (IsLost bytes stands.counted stands.calls new.now.calls) (AllWell bytes stands.counted stands.calls new.now.calls) e
on_stop stands bytes old new (Fault place) f e reason well c = all_well stands new.now bytes c (well_now stands bytes old new f e well)
on_stop stands bytes old new Cut f e reason well c = all_well stands new.now bytes c (well_now stands bytes old new f e well)
on_stop stands bytes old new Memory f e reason well c = all_well stands new.now bytes c (well_now stands bytes old new f e well)
on_stop stands bytes old new ReadFault f e reason well c = record {
  cause = subst (λ (s : Standing). HasCause s.counted s.calls new.now.calls) (first_is stands bytes old new f e) reason;
  few = c.few;
}

pub reads_calls : (stands : Standing) (bytes : ℕ) (old new : Seen) (result : Result Frame Stop) → stands.counted < too_many_interrupted → IsFresh stands bytes old → Answers old new (λ (x : Frame). x) result frame_at → IsSound new
    → ReadsCalls bytes stands.counted stands.calls new.now.calls result
reads_calls stands bytes old new (Ok d) few f a sound =
    all_well stands new.now bytes (counts stands bytes old new f a.0 sound) (well_now stands bytes old new f a.0 (a.3 (well_begins stands bytes old f few)))
reads_calls stands bytes old new (Err e) few f a sound =
    on_stop stands bytes old new e f a.0 a.1 (a.3 (well_begins stands bytes old f few)) (counts stands bytes old new f a.0 sound)
