-- What is due of the participants of a home, as lists.
use Rattle.std.specs.Prelude.{◌≡◌, ◌==◌, ◌&&◌, ◌||◌, ℕ, Bool, true, false, Option, Some, None, List, [], ◌∷◌, nat_lt, if◌then◌else◌}
use Rattle.std.specs.List.{AllByRecursion}
use Rattle.std.specs.Option.{option_map_or}
use Rattle.state_ids.specs.Ids.{Id, same_id}
use Rattle.state_ids.specs.declared.outcome.Act.TheVariants.{Complete}
use Rattle.state_facts.specs.declared.fact.Body.{Body}
use Rattle.state_facts.specs.declared.fact.Body.TheVariants.{Join}
use Rattle.state_facts.specs.declared.fact.Fact.{Fact}
use Rattle.state_facts.specs.Duties.{is_compensation_due, is_forget_duty, is_pending, is_untold, topmost_cancelled}
use Rattle.state_facts.specs.Lists.{In}
use Rattle.state_facts.specs.Sets.{heard, is_demanded, is_held, is_participant, is_under}
use Rattle.state_forest.specs.declared.duties.Due.{Due}

-- each element comes before all that follow it
abbrev pub IsOrdered : {X : Type 0} → (X → X → Bool) → List X → Type 0
IsOrdered before [] = Unit {0}
IsOrdered before (x ∷ xs) = AllByRecursion (λ y. before x y ≡ true) xs × IsOrdered before xs

-- all that pass, and no others, in this order; if no element comes before itself, each stands there
-- once
pub record AreAll {X : Type 0} (passes : X → Type 0) (before : X → X → Bool) (xs : List X) : Type 0 where
  pub all : (x : X) → passes x → In x xs
  pub only : (x : X) → In x xs → passes x
  pub order : IsOrdered before xs

-- an element that passes and has none before it, or `None` if no element passes
abbrev pub IsFirst : {X : Type 0} → (X → Type 0) → (X → X → Bool) → Option X → Type 0
IsFirst {X} passes before None = (x : X) → passes x → ⊥
IsFirst {X} passes before (Some y) = passes y × ((x : X) → passes x → before x y ≡ false)

-- the LRA is of the home and held, and this is due of its participant
pub record IsDueAt (home : ℕ) (S : List Fact) (due : List Fact → Id → ℕ → Bool) (d : Due) : Type 0 where
  pub own : d.lra.home ≡ home
  pub held : is_held S d.lra ≡ true
  pub owed : due S d.lra d.member ≡ true

-- ordered by the number of the LRA, then by the member number
abbrev pub is_before : Due → Due → Bool
is_before a b = nat_lt a.lra.num b.lra.num || ((a.lra.num == b.lra.num) && nat_lt a.member b.member)

-- the number of the topmost cancelled LRA of a chain, 0 if there is none
abbrev pub topmost_number : List Fact → Id → ℕ
topmost_number S l = option_map_or (λ a. a.num) (topmost_cancelled S l) 0

-- ordered by the number of the topmost cancelled LRA; no two participants under one are due at once
abbrev pub is_topmost_before : List Fact → Due → Due → Bool
is_topmost_before S a b = nat_lt (topmost_number S a.lra) (topmost_number S b.lra)

-- a participant that has a link to complete, and whose LRA closes, is called until the act is done
-- or failed
abbrev pub is_complete_duty : List Fact → Id → ℕ → Bool
is_complete_duty S l m = is_participant S l m && (is_demanded S l m Complete && is_pending (heard S l m Complete))

-- the LRA is cancelled, and no LRA above it is
abbrev pub is_topmost : List Fact → Id → Bool
is_topmost S l = option_map_or (same_id l) (topmost_cancelled S l) false

-- the participant is due to compensate, and its topmost cancelled LRA has this number
pub record IsDueUnder (home : ℕ) (S : List Fact) (num : ℕ) (d : Due) : Type 0 where
  pub due : IsDueAt home S is_compensation_due d
  pub topmost : topmost_number S d.lra ≡ num

-- the one participant that is due under an LRA, or `None` if there is none
abbrev pub IsShare : ℕ → List Fact → ℕ → Option Due → Type 0
IsShare home S num None = (d : Due) → IsDueUnder home S num d → ⊥
IsShare home S num (Some x) = IsDueUnder home S num x × ((d : Due) → IsDueUnder home S num d → d ≡ x)

-- The least of what is due under an LRA

-- d is a participant of the LRA with this number, that LRA is under l, and this is due of it
pub record IsDueBelow (due : List Fact → Id → ℕ → Bool) (S : List Fact) (l : Id) (num : ℕ) (d : Due) : Type 0 where
  pub number : d.lra.num ≡ num
  pub under : is_under S l d.lra ≡ true
  pub owed : due S d.lra d.member ≡ true

abbrev pub lesser_due : Option Due → Option Due → Option Due
lesser_due None b = b
lesser_due (Some a) None = Some a
lesser_due (Some a) (Some b) = if is_before b a then Some b else Some a

-- the participant under l that the fact joins, if this is due of it
abbrev pub due_by : (List Fact → Id → ℕ → Bool) → List Fact → Id → Body → Option Due
due_by due S l (Join d m links) = if is_under S l d && due S d m then Some (record { lra = d; member = m }) else None
due_by due S l _ = None

-- the least of the due participants that the facts of a list join
abbrev pub least_due : (List Fact → Id → ℕ → Bool) → List Fact → List Fact → Id → Option Due
least_due due S [] l = None
least_due due S (f ∷ facts) l = lesser_due (due_by due S l f.body) (least_due due S facts l)

-- the least participant that must still be told to forget
abbrev pub least_forget : List Fact → Id → Option Due
least_forget S l = least_due is_forget_duty S S l

-- the least participant that has a link for the end of its LRA and was not told of the end
abbrev pub least_untold : List Fact → Id → Option Due
least_untold S l = least_due is_untold S S l
