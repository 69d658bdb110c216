-- What a node stated last is what it is known to have.
use Rattle.std.proofs.Common.{◌≡◌, ◌≢◌, ◌≤◌, ◌⊎◌, ◌-◌, ◌∷◌, ◌∙◌, [], ℕ, List, true, false, ap, arith, if◌then◌else◌, inl, inr, length, refl}
use Rattle.std.specs.Prelude.{◌&&◌, ◌==◌, nat_le, nat_lt, not, slice_set}
use Rattle.std.specs.declared.time.Duration.{Duration}
use Rattle.std.proofs.lemmas.Bool.{cases_eq}
use Rattle.std.proofs.lemmas.Bool.Decides.{nat_tests}
use Rattle.std.proofs.lemmas.List.{get_or-replicate, get_or-set_other, get_or-set_same, length-replicate, length-set}
use Rattle.state_ids.specs.Fronts.{count}
use Rattle.node_replication.specs.Spreads.{Spread, acknowledged, drawn_to_wait, is_entering, is_other, settled, standing_of, told_by}
use Rattle.node_replication.specs.Steps.{Asks, Begins, Ends, Gives, Hears, Learns, Looks, Node, Stands, Step, after, after_all, at_start, last_told}
use Rattle.node_replication.proofs.Cases.{either, either_way}

-- what holds for a state: of this many nodes, this node stated this many facts last
abbrev pub Tells : (me nodes node told : ℕ) → Spread → Type 0
Tells me nodes node told s = (s.others.me ≡ me) × (length s.others.told ≡ nodes) × (count s.others.told node ≡ told)

-- a node that isn't another node isn't this one
no_other : (other me size node nodes : ℕ) → (nat_lt 0 other && (not (other == me) && nat_le other size)) ≡ false → 1 ≤ node → node ≤ nodes → size ≡ nodes → node ≢ me
    → (other == node) ≡ false
no_other other me size node nodes e some few is apart = grind (arith, nat_tests)

in_range : (other me size : ℕ) → (nat_lt 0 other && (not (other == me) && nat_le other size)) ≡ true → 1 ≤ other
in_range other me size e = grind (arith, nat_tests)

below : (other me size : ℕ) → (nat_lt 0 other && (not (other == me) && nat_le other size)) ≡ true → other ≤ size
below other me size e = grind (arith, nat_tests)

is_it : (other node : ℕ) → other ≡ node → (other == node) ≡ true
is_it other node e = grind (arith, nat_tests)

is_not_it : (other node : ℕ) → other ≢ node → (other == node) ≡ false
is_not_it other node e = grind (arith, nat_tests)

-- the count of a node once another is set
set_at : (other node value : ℕ) (told : List ℕ) → 1 ≤ other → other ≤ length told → 1 ≤ node
    → count (slice_set told (other - 1) value) node ≡ (if other == node then value else count told node)
set_at other node value told some few more = settle (cases_eq other node)
  where
    settle : (other ≡ node) ⊎ (other ≢ node) → count (slice_set told (other - 1) value) node ≡ (if other == node then value else count told node)
    settle (inl is) =
        let same = get_or-set_same told (other - 1) value 0 (omega (arith, some, few)) in
        let yes = is_it other node is in
        rw (yes, ← is) same
    settle (inr not_) =
        let apart : (node - 1) ≢ (other - 1) = λ e. not_ (omega (arith, e, some, more)) in
        let no_ = is_not_it other node not_ in
        rw no_ (get_or-set_other told (other - 1) (node - 1) value 0 apart)

hears : (me nodes node told other facts : ℕ) (now : Duration) (s : Spread) → 1 ≤ node → node ≤ nodes → node ≢ me → Tells me nodes node told s
    → is_other other s.others ≡ true
    → Tells me nodes node (if other == node then acknowledged facts s else told) (settled now (told_by other facts s))
hears me nodes node told other facts now s some few apart h e =
    let one = in_range other s.others.me (length s.others.told) e in
    let size = below other s.others.me (length s.others.told) e in (
      h.0,
      length-set s.others.told (other - 1) (acknowledged facts s) ∙ h.1,
      set_at other node (acknowledged facts s) s.others.told one size some ∙ ap (λ (n : ℕ). if other == node then acknowledged facts s else n) h.2,
    )

unheard : (me nodes node told other facts : ℕ) (s : Spread) → 1 ≤ node → node ≤ nodes → node ≢ me → Tells me nodes node told s
    → is_other other s.others ≡ false → Tells me nodes node (if other == node then acknowledged facts s else told) s
unheard me nodes node told other facts s some few apart h e =
    let no_ = no_other other s.others.me (length s.others.told) node nodes e some few h.1 (λ is. apart (is ∙ h.0)) in
    (h.0, h.1, rw no_ h.2)

one_step : (me nodes node : ℕ) (step : Step) (steps : List Step) (start : Spread) → 1 ≤ node → node ≤ nodes → node ≢ me
    → Tells me nodes node (last_told node steps start) (after_all steps start)
    → Tells me nodes node (last_told node (step ∷ steps) start) (after step (after_all steps start))
one_step me nodes node Begins steps start some few apart h = h
one_step me nodes node (Ends true) steps start some few apart h = h
one_step me nodes node (Ends false) steps start some few apart h = h
one_step me nodes node Asks steps start some few apart h = h
one_step me nodes node (Gives mark) steps start some few apart h = h
one_step me nodes node (Hears other facts now) steps start some few apart h =
    let s = after_all steps start in
    let told = last_told node steps start in
    either (Tells me nodes node (if other == node then acknowledged facts s else told)) (is_other other s.others) (settled now (told_by other facts s)) s
    (hears me nodes node told other facts now s some few apart h)
    (unheard me nodes node told other facts s some few apart h)
one_step me nodes node Looks steps start some few apart h =
    let s = after_all steps start in
    either (Tells me nodes node (last_told node steps start)) (is_entering s) (drawn_to_wait s) s (λ _. h) (λ _. h)
one_step me nodes node (Learns facts) steps start some few apart h = h
one_step me nodes node (Stands ticket since now is_strict) steps start some few apart h =
    let s = after_all steps start in
    either_way (Tells me nodes node (last_told node steps start)) (standing_of ticket since now is_strict s) s h h

always : (node : Node) (other : ℕ) (steps : List Step) → 1 ≤ other → other ≤ node.nodes → other ≢ node.me
    → Tells node.me node.nodes other (last_told other steps (at_start node)) (after_all steps (at_start node))
always node other [] some few apart = (refl, length-replicate node.nodes 0, get_or-replicate node.nodes (other - 1) 0 0 (omega (arith, some, few)))
always node other (step ∷ steps) some few apart = one_step node.me node.nodes other step steps (at_start node) some few apart (always node other steps some few apart)

pub tells : (node : Node) (other : ℕ) (steps : List Step) → 1 ≤ other → other ≤ node.nodes → other ≢ node.me
    → count (after_all steps (at_start node)).others.told other ≡ last_told other steps (at_start node)
tells node other steps some few apart = (always node other steps some few apart).2
