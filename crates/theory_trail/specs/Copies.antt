-- What a lost node takes back of its own facts.
use Rattle.std.specs.Prelude.{◌≡◌, ◌⊎◌, ◌==◌, ◌&&◌, ◌≤◌, ℕ, Bool, true, List, [], ◌∷◌, filter, length, not}
use Rattle.std.specs.List.{range_with_len}
use Rattle.state_ids.specs.Fronts.{count}
use Rattle.wire_frames.specs.Frames.{Frame}
use Rattle.state_book.specs.declared.calls.Call.TheVariants.{Take}
use Rattle.state_book.specs.declared.calls.Entry.{Entry}
use Rattle.state_book.specs.declared.calls.Reply.TheVariants.{Took}

-- the trail takes a frame
abbrev pub TakesIn : List Entry → Frame → Type 0
TakesIn [] delta = ⊥
TakesIn (e ∷ es) delta = ((e.call ≡ Take delta) × (e.reply ≡ Took)) ⊎ TakesIn es delta

-- another node that isn't heard
abbrev pub is_missed : (me : ℕ) → (heard : ℕ → Bool) → (node : ℕ) → Bool
is_missed me heard node = not (node == me) && not (heard node)

-- how many of this many nodes are others that aren't heard
abbrev pub missed : (me nodes : ℕ) → (heard : ℕ → Bool) → ℕ
missed me nodes heard = length (filter (is_missed me heard) (range_with_len 1 nodes))

-- from each other node that is heard the trail takes a frame, which counts at least as many facts
-- of the node me as that node told that it has
abbrev pub HearsEach : (me : ℕ) → (heard : ℕ → Bool) → (told : List ℕ) → List Entry → Type 0
HearsEach me heard told trail =
    (node : ℕ) → (node ≡ me → ⊥) → heard node ≡ true → (delta : Frame) × (count told node ≤ count delta.front me) × TakesIn trail delta
