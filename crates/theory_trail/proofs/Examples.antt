-- What a short trail means in the world.
use Rattle.std.proofs.Common.{◌≡◌, ◌==◌, [], ◌∷◌, inl, refl, None}
use Rattle.std.specs.Prelude.{List, length}
use Rattle.state_ids.specs.Ids.{Id}
use Rattle.state_ids.specs.declared.outcome.Verdict.TheVariants.{Close}
use Rattle.state_ids.specs.declared.status.LraStatus.TheVariants.{Cancelled, Closed}
use Rattle.state_facts.specs.declared.refusal.Refusal.TheVariants.{NotHeld}
use Rattle.state_facts.specs.declared.command.Command.TheVariants.{Begin, Decide, Purge}
use Rattle.state_facts.specs.declared.command.CommandReply.TheVariants.{Began, Purged, Refused as NotEntered}
use Rattle.wire_frames.specs.Frames.{Frame}
use Rattle.wire_frames.specs.Encoding.{encoding_as}
use Rattle.wire_frames.specs.declared.version.Version.TheVariants.{One, Two}
use Rattle.script_world.specs.declared.event.Event.TheVariants.{Act, Deliver, Restart, Send, Tick}
use Rattle.script_world.specs.declared.event.EventReply.TheVariants.{Restarted, Sent}
use Rattle.state_book.specs.declared.calls.Call.TheVariants.{Command as Enter, Pull, Status, Take, Expire, Sweep}
use Rattle.state_book.specs.declared.calls.Reply.TheVariants.{Command as Entered, Gave, Shown, Expired, Quiet, Took}
use Rattle.state_book.specs.Trails.{entry}
use Rattle.node_replication.specs.Spreads.{holders}
use Rattle.theory_trail.specs.Copies.{TakesIn, missed}
use Rattle.theory_trail.specs.NodeTrails.{Arrival, Elsewhere, Here, Item, events_of}

abbrev one : Id
one = record { home = 1; num = 1 }

abbrev other : Id
other = record { home = 1; num = 7 }

abbrev frame : Frame
frame = record { base = 0 ∷ 0 ∷ []; front = 2 ∷ 0 ∷ []; purges = 0 ∷ 0 ∷ []; live = None ∷ None ∷ []; records = [] ∷ [] ∷ [] }

-- the arrival that goes with an entry that takes no frame
abbrev nothing : Arrival
nothing = record { number = 0; version = Two }

abbrev items : List Item
items =
    Here (entry (Enter (Begin None 9)) 5 (Entered (Began one 0))) nothing
    ∷ Elsewhere (Restart 2) Restarted
    ∷ Here (entry (Enter (Decide other Close)) 6 (Entered (NotEntered NotHeld))) nothing
    ∷ Here (entry Expire 7 Quiet) nothing
    ∷ Here (entry Expire 9 (Expired one)) nothing
    ∷ Here (entry (Pull []) 9 (Gave frame)) nothing
    ∷ Here (entry (Status one) 9 (Shown one Closed)) nothing
    ∷ Here (entry (Sweep one Closed) 9 (Shown one Cancelled)) nothing
    ∷ Here (entry (Sweep one Cancelled) 9 (Entered Purged)) nothing
    ∷ []

-- a refused call, a quiet call or a question is no event
happened : events_of 1 items ≡ Act 1 (Begin None 9) ∷ Restart 2 ∷ Tick 1 9 ∷ Send 1 (0 ∷ 0 ∷ []) Two ∷ Act 1 (Purge one) ∷ []
happened = refl

-- a frame that was sent in version 1 is taken when its bytes of version 1 arrive, and one in
-- version 2 when those of version 2 do
abbrev arrivals : List Item
arrivals =
    Elsewhere (Send 2 (0 ∷ 0 ∷ []) One) (Sent 1)
    ∷ Here (entry (Take frame) 5 Took) (record { number = 1; version = One })
    ∷ Elsewhere (Send 2 (0 ∷ 0 ∷ []) Two) (Sent 2)
    ∷ Here (entry (Take frame) 6 Took) (record { number = 2; version = Two })
    ∷ []

arrived : events_of 1 arrivals
    ≡ Send 2 (0 ∷ 0 ∷ []) One ∷ Deliver 1 1 (length (encoding_as One frame)) ∷ Send 2 (0 ∷ 0 ∷ []) Two ∷ Deliver 2 1 (length (encoding_as Two frame)) ∷ []
arrived = refl

-- two other nodes have five facts of node 1; one of these nodes is heard, and its frame is taken
copied : holders 1 5 (0 ∷ 5 ∷ 5 ∷ []) ≡ 2
copied = refl

one_missed : missed 1 3 (λ node. node == 2) ≡ 1
one_missed = refl

takes_it : TakesIn (entry (Take frame) 7 Took ∷ []) frame
takes_it = inl (refl, refl)
