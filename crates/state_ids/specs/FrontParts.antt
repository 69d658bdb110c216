-- The fields of a front, and the counts that they represent.
use Rattle.std.specs.Prelude.{◌≡◌, ◌≤◌, ◌-◌, ◌++◌, ℕ, List, take, length, replicate}
use Rattle.std.proofs.Common.{sym, ap, ◌∙◌, arith}
use Rattle.std.proofs.lemmas.List.{length-take-le}
use Rattle.state_ids.specs.declared.TheConstants.{MAX_NODES}
use Rattle.state_ids.specs.declared.front.Front.TheInside.{Inside}

-- the counts of the existing nodes, followed by zeros
pub record IsPadded (f : Inside) : Type 0 where
  pub some : 1 ≤ f.nodes
  pub few : f.nodes ≤ MAX_NODES
  pub size : length f.counts ≡ MAX_NODES
  pub rest : f.counts ≡ take f.nodes f.counts ++ replicate (MAX_NODES - f.nodes) 0

abbrev pub counts_of : Inside → List ℕ
counts_of f = take f.nodes f.counts

abbrev pub padded : List ℕ → Inside
padded counts = record { nodes = length counts; counts = counts ++ replicate (MAX_NODES - length counts) 0 }

pub padded_back : (f : Inside) → IsPadded f → padded (counts_of f) ≡ f
padded_back f h =
    let e : length (take f.nodes f.counts) ≡ f.nodes = length-take-le f.nodes f.counts (omega (arith, h.few, h.size)) in
    let step : padded (counts_of f) ≡ record { nodes = f.nodes; counts = take f.nodes f.counts ++ replicate (MAX_NODES - f.nodes) 0 } =
    ap (λ (n : ℕ). record { nodes = n; counts = take f.nodes f.counts ++ replicate (MAX_NODES - n) 0 }) e in
    step ∙ ap (λ (cs : List ℕ). record { nodes = f.nodes; counts = cs }) (sym h.rest)
