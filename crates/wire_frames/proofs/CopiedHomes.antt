-- Copies of what is told of each home say the same.
use Rattle.std.proofs.Common.{◌≡◌, ◌+◌, ◌∙◌, ℕ, List, [], ◌∷◌, refl, sym, ap, length, map}
use Rattle.std.proofs.lemmas.List.{length-map}
use Rattle.state_forest.specs.declared.merging.Told.{Told}
use Rattle.theory_history.specs.Merging.{AreToldFrom, IsTelling, Telling}
use Rattle.wire_frames.specs.Sending.{HomePart, frame_told, part_of}

first_same : (p q : HomePart) (ps qs : List HomePart) → p ∷ ps ≡ q ∷ qs → p ≡ q
first_same p q ps qs e = cc

rest_same : (p q : HomePart) (ps qs : List HomePart) → p ∷ ps ≡ q ∷ qs → ps ≡ qs
rest_same p q ps qs e = cc

numbered : (k : ℕ) (copies homes : List Told) → map part_of copies ≡ map part_of homes → AreToldFrom k homes → AreToldFrom k copies
numbered k [] [] same told = tt
numbered k [] (y ∷ homes) same told = absurd cc
numbered k (x ∷ copies) [] same told = absurd cc
numbered k (x ∷ copies) (y ∷ homes) same (here, rest) = (
  ap (λ (p : HomePart). p.home) (first_same (part_of x) (part_of y) (map part_of copies) (map part_of homes) same) ∙ here,
  numbered (k + 1) copies homes (rest_same (part_of x) (part_of y) (map part_of copies) (map part_of homes) same) rest,
)

through : {X : Type 0} (f : HomePart → X) (homes : List Told) → map (λ (told : Told). f (part_of told)) homes ≡ map f (map part_of homes)
through f [] = refl
through f (x ∷ homes) = ap (λ xs. f (part_of x) ∷ xs) (through f homes)

-- whatever is made of each part is the same for the copies
each_same : {X : Type 0} (f : HomePart → X) (copies homes : List Told) → map part_of copies ≡ map part_of homes → map (λ (told : Told). f (part_of told)) copies ≡ map (λ (told : Told). f (part_of told)) homes
each_same f copies homes same = through f copies ∙ ap (map f) same ∙ sym (through f homes)

pub copy_tells : (telling : Telling) (copies : List Told) → map part_of copies ≡ map part_of telling.homes → IsTelling telling → IsTelling (record { front = telling.front; purges = telling.purges; homes = copies })
copy_tells telling copies same is =
    record {
      purges = is.purges;
      homes = sym (length-map copies part_of) ∙ ap (λ (ps : List HomePart). length ps) same ∙ length-map telling.homes part_of ∙ is.homes;
      numbered = numbered 1 copies telling.homes same is.numbered;
    }

pub copy_frame : (base : List ℕ) (telling : Telling) (copies : List Told) → map part_of copies ≡ map part_of telling.homes
    → frame_told base (record { front = telling.front; purges = telling.purges; homes = copies }) ≡ frame_told base telling
copy_frame base telling copies same =
    let live = each_same (λ (p : HomePart). p.live) copies telling.homes same in
    let records = each_same (λ (p : HomePart). p.records) copies telling.homes same in
    rw (live, records) refl
