-- one host after another, of which the first is chosen
use Rattle.std.proofs.Common.{◌≡◌, ◌<◌, ◌+◌, ℕ, List, sym, ◌∙◌, arith, Bool, false, Option, None, Some, get_or, length}
use Rattle.std.proofs.lemmas.List.{get_or_default}
use Rattle.node_schedule.specs.Turns.{AtHost, IsFirstOf, host_at, nowhere}

-- the host that is read at a place is the one at that place
pub stands_at : (hosts : List AtHost) (place : ℕ) (host : AtHost) → place < length hosts → host ≡ get_or hosts place host → host_at hosts place ≡ host
stands_at hosts place host e is = get_or_default hosts place nowhere host e ∙ sym is

-- a host that may not be chosen changes nothing
pub passed_by : (place : ℕ) (may : AtHost → Bool) (before : AtHost → AtHost → Bool) (hosts : List AtHost) (first : Option ℕ)
    → may (host_at hosts place) ≡ false → IsFirstOf place may before hosts first → IsFirstOf (place + 1) may before hosts first
passed_by place may before hosts None never h = λ k e. grind (arith, never, h k)
passed_by place may before hosts (Some that) never h = record {
  within = omega (arith, h.within);
  may_be = h.may_be;
  first = λ k e m. grind (arith, never, m, h.first k);
}
