-- how many participants are open under an LRA in two closed sets of one history
use Rattle.std.proofs.Common.{◌≡◌, ◌≤◌, ◌<◌, ℕ, List, Some}
use Rattle.state_ids.specs.Ids.{Id}
use Rattle.state_ids.specs.Fronts.{IsBelow}
use Rattle.state_ids.specs.declared.outcome.Verdict.{Verdict}
use Rattle.state_facts.specs.Sets.{want}
use Rattle.theory_history.specs.Histories.{History, IsClosed, IsLawful, facts}
use Rattle.theory_history.proofs.RanksRise.{IsGrown}
use Rattle.theory_progress.specs.Calls.{HearsAnEnd, open_under}
use Rattle.theory_progress.proofs.OpenUnder.{open_falls, open_stays}

grown_by : (h : History) (v w : List ℕ) → IsLawful h → IsClosed h v → IsClosed h w → IsBelow v w → IsGrown h v w
grown_by h v w lawful cv cw below = record { lawful = lawful; before = cv; after = cw; below = below }

pub stays : (h : History) (v w : List ℕ) (l : Id) (verdict : Verdict) → IsLawful h → IsClosed h v → IsClosed h w → IsBelow v w → want (facts h v) l ≡ Some verdict → want (facts h w) l ≡ Some verdict → open_under (facts h w) l ≤ open_under (facts h v) l
stays h v w l verdict lawful cv cw below wanted later = open_stays h v w (grown_by h v w lawful cv cw below) l verdict wanted later

pub falls : (h : History) (v w : List ℕ) (l : Id) (verdict : Verdict) → IsLawful h → IsClosed h v → IsClosed h w → IsBelow v w → want (facts h v) l ≡ Some verdict → want (facts h w) l ≡ Some verdict → HearsAnEnd (facts h v) (facts h w) l → open_under (facts h w) l < open_under (facts h v) l
falls h v w l verdict lawful cv cw below wanted later hears = open_falls h v w (grown_by h v w lawful cv cw below) l verdict wanted later hears
