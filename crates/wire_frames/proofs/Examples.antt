-- frames in which an LRA was purged
use Rattle.std.proofs.Common.{◌≡◌, [], ◌∷◌, refl, Some, None}
use Rattle.state_ids.specs.Ids.{Id}
use Rattle.state_forest.specs.declared.record.Record.{Record}
use Rattle.theory_history.specs.Views.{View}
use Rattle.wire_frames.specs.Frames.{frame_of}
use Rattle.wire_frames.specs.TakenFrames.{taken_from}

abbrev first : Id
first = record { home = 1; num = 1 }

abbrev begun : Record
begun = record { home = 1; num = 1; parent = None; deadline = 0; decision = None; stamps = 1 ∷ []; members = [] }

-- the view of a node that began an LRA, and the view after its purge
abbrev held : View
held = record { front = 1 ∷ []; purges = 0 ∷ []; records = (begun ∷ []) ∷ [] }

abbrev purged : View
purged = record { front = 3 ∷ []; purges = 3 ∷ []; records = [] ∷ [] }

-- the frame since the begin has a live list without the LRA, so the LRA is removed
told : (frame_of purged (1 ∷ [])).live ≡ Some [] ∷ []
told = refl

gone : taken_from held (frame_of purged (1 ∷ [])) first ≡ None
gone = refl

-- an old frame has the record, which doesn't come back
old : (frame_of held (0 ∷ [])).records ≡ (begun ∷ []) ∷ []
old = refl

stays_away : taken_from purged (frame_of held (0 ∷ [])) first ≡ None
stays_away = refl

-- since its own front a node tells neither a record nor a live list
silent : (frame_of purged (3 ∷ [])).live ≡ None ∷ []
silent = refl

nothing : (frame_of held (1 ∷ [])).records ≡ [] ∷ []
nothing = refl
