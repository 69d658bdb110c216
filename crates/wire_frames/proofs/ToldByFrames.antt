-- what is told is what a frame has
use Rattle.std.proofs.Common.{◌≡◌, ◌-◌, ℕ, zero, suc, List, [], ◌∷◌, refl, sym, ap, ◌∙◌, None, find, get_or, length, map, slice_get}
use Rattle.std.specs.Option.{option_map_or}
use Rattle.state_ids.specs.Ids.{Id}
use Rattle.state_ids.specs.Fronts.{count, is_covered, join_fronts}
use Rattle.state_forest.specs.declared.merging.Told.{Told}
use Rattle.state_forest.specs.Forests.{is_of}
use Rattle.state_forest.specs.RecordMerges.{held_numbers, is_gone, absorbed}
use Rattle.theory_history.specs.Merging.{IsAbsorbed, Telling, absorbed_of, told_held, told_records}
use Rattle.theory_history.specs.Views.{View, record_at}
use Rattle.wire_frames.specs.Frames.{Frame, live_at}
use Rattle.wire_frames.specs.Sending.{IsToldBy, frame_told}
use Rattle.wire_frames.specs.TakenFrames.{IsTaken, taken_from}

told_map : {X : Type 0} (f : Told → X) (d : X) (ts : List Told) (i : ℕ) → option_map_or f (slice_get ts i) d ≡ get_or (map f ts) i d
told_map f d [] i = refl
told_map f d (t ∷ ts) zero = refl
told_map f d (t ∷ ts) (suc i) = told_map f d ts i

pub told_by : (base : List ℕ) (telling : Telling) → IsToldBy (frame_told base telling) telling
told_by base telling = record {
  front = refl;
  purges = refl;
  records = λ home. told_map (λ (t : Told). t.records.records) [] telling.homes (home - 1);
  live = λ home. told_map (λ (t : Told). held_numbers t.held) None telling.homes (home - 1);
}

-- the same is taken for each LRA
same_taken : (a : View) (frame : Frame) (telling : Telling) (l : Id) → IsToldBy frame telling → absorbed_of a telling l ≡ taken_from a frame l
same_taken a frame telling l is =
    ap (λ v. absorbed (is_covered a.front l) (is_gone (count v l.home) (told_held telling l.home) l.num) (record_at a l) (find (is_of l) (told_records telling l.home))) is.front
    ∙ ap (λ held. absorbed (is_covered a.front l) (is_gone (count frame.front l.home) held l.num) (record_at a l) (find (is_of l) (told_records telling l.home))) (is.live l.home)
    ∙ ap (λ rs. absorbed (is_covered a.front l) (is_gone (count frame.front l.home) (live_at frame.live l.home) l.num) (record_at a l) (find (is_of l) rs)) (is.records l.home)

pub taken_by : (a c : View) (frame : Frame) (telling : Telling) → IsToldBy frame telling → IsAbsorbed a telling c → IsTaken a frame c
taken_by a c frame telling is m = record {
  nodes = m.nodes ∙ ap (λ (v : List ℕ). length v) is.front;
  front = m.front ∙ ap (join_fronts a.front) is.front;
  purges = m.purges ∙ ap (join_fronts a.purges) is.purges;
  homes = m.homes;
  order = m.order;
  records = λ l low high. m.records l low high ∙ same_taken a frame telling l is;
}

pub absorbed_by : (a c : View) (frame : Frame) (telling : Telling) → IsToldBy frame telling → IsTaken a frame c → IsAbsorbed a telling c
absorbed_by a c frame telling is m = record {
  nodes = m.nodes ∙ sym (ap (λ (v : List ℕ). length v) is.front);
  front = m.front ∙ sym (ap (join_fronts a.front) is.front);
  purges = m.purges ∙ sym (ap (join_fronts a.purges) is.purges);
  homes = m.homes;
  order = m.order;
  records = λ l low high. m.records l low high ∙ sym (same_taken a frame telling l is);
}
