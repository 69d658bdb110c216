-- The result of a command depends only on the records of one home.
use Rattle.std.specs.Option.{option_map_or}
use Rattle.std.proofs.Common.{◌≡◌, ◌≤◌, ◌-◌, ◌==◌, ℕ, List, [], ◌∷◌, refl, sym, ap, subst, ◌∙◌, Bool, true, false, Option, Some, None, cond, is_some, length, slice_get}
use Rattle.state_ids.specs.Ids.{Id}
use Rattle.state_ids.specs.Fronts.{is_covered}
use Rattle.state_facts.specs.declared.refusal.Refusal.{Refusal}
use Rattle.state_facts.specs.declared.refusal.Refusal.TheVariants.{NotHeld, NotHome, UnknownLra}
use Rattle.state_facts.specs.Refusals.{first, spent, unless, unknown}
use Rattle.state_forest.specs.declared.record.Record.{Record}
use Rattle.state_facts.specs.declared.command.Command.{Command}
use Rattle.state_facts.specs.declared.command.Command.TheVariants.{Begin, Join, Leave, Decide, Report, Forgot, Told, Purge}
use Rattle.theory_history.specs.Next.{judge_on}
use Rattle.theory_history.specs.Readings.{by_view}
use Rattle.theory_history.specs.Replies.{Denied, crowded_by, deep_by, full_by, gone_by, inactive_by, judge_by, judged}
use Rattle.theory_history.specs.Views.{View, record_at, records_at}
use Rattle.theory_history.proofs.Basics.{equal_from}
use Rattle.state_replica.specs.AtHome.{by_home, lost_by, named_by}
use Rattle.state_replica.specs.Replicas.{ReplicaState, view_of}
use Rattle.state_replica.proofs.Homes.{lost_here}

-- the home of the LRA that a command names, or the node itself if it names none
abbrev pub home_by : Command → ℕ → ℕ
home_by c me = option_map_or (λ (l : Id). l.home) (named_by c) me

-- the last refusals need to be the same only if the third test is passed
last_alike : (a b d e f : Option Refusal) (t : Bool) (r : Refusal) (x y : Option Refusal) → (t ≡ true → x ≡ y)
    → first (a ∷ b ∷ unless t r ∷ d ∷ e ∷ f ∷ x ∷ []) ≡ first (a ∷ b ∷ unless t r ∷ d ∷ e ∷ f ∷ y ∷ [])
last_alike (Some a) b d e f t r x y same = refl
last_alike None (Some b) d e f t r x y same = refl
last_alike None None d e f false r x y same = refl
last_alike None None (Some d) e f true r x y same = refl
last_alike None None None (Some e) f true r x y same = refl
last_alike None None None None (Some f) true r x y same = refl
last_alike None None None None None true r x y same = ap (λ (o : Option Refusal). first (o ∷ [])) (same refl)

judged_here : (view : View) (me : ℕ) (c : Command) → judge_on view me c ≡ judge_by (by_home (records_at view.records (home_by c me))) view.front me c
judged_here view me (Begin None deadline) = refl
judged_here view me (Begin (Some p) deadline) =
    let t = by_view view in
    ap (λ (o : Option Refusal). judged o false (spent view.front me))
    (last_alike (unknown view.front p) (gone_by t p) (inactive_by t p) (full_by t p) (deep_by t p) (p.home == me) (NotHome p.home)
    (crowded_by t me) (crowded_by t p.home) (λ here. ap (crowded_by t) (sym (equal_from p.home me here))))
judged_here view me (Join l links) = refl
judged_here view me (Leave l m) = refl
judged_here view me (Decide l verdict) = refl
judged_here view me (Report l m act outcome) = refl
judged_here view me (Forgot l m) = refl
judged_here view me (Told l m) = refl
judged_here view me (Purge root) = refl

-- the judgement is the same by the records of the home that the command goes to
pub judged_at_home : (view : View) (me : ℕ) (c : Command) (home : ℕ) (records : List Record) → home ≡ home_by c me → records_at view.records home ≡ records → judge_on view me c ≡ judge_by (by_home records) view.front me c
judged_at_home view me c home records at are =
    judged_here view me c ∙ ap (λ (rs : List Record). judge_by (by_home rs) view.front me c) (ap (records_at view.records) (sym at) ∙ are)

lost_first : (covered held : Bool) (rest : List (Option Refusal)) (known : Bool) (limit : Option Refusal) → held ≡ false
    → judged (first (unless covered UnknownLra ∷ unless held NotHeld ∷ rest)) known limit ≡ Denied (cond covered NotHeld UnknownLra)
lost_first true true rest known limit none = absurd cc
lost_first true false rest known limit none = refl
lost_first false held rest known limit none = refl

-- if that home is no node, the command is refused
pub judged_nowhere : (kept : ReplicaState) (me : ℕ) (c : Command) (home : ℕ) → home ≡ home_by c me → slice_get kept.homes (home - 1) ≡ None → me ≤ length kept.front → (home ≤ length kept.front → ⊥)
    → judge_on (view_of kept) me c ≡ Denied (lost_by kept.front c)
judged_nowhere kept me c home at none there beyond = by c at
  where
    gone : (l : Id) → home ≡ l.home → record_at (view_of kept) l ≡ None
    gone l is = lost_here kept l (subst (λ (h : ℕ). slice_get kept.homes (h - 1) ≡ None) is none)

    lost : (l : Id) (rest : List (Option Refusal)) (known : Bool) → home ≡ l.home → judged (first (unknown kept.front l ∷ unless (is_some (record_at (view_of kept) l)) NotHeld ∷ rest)) known (spent kept.front me) ≡ Denied (cond (is_covered kept.front l) NotHeld UnknownLra)
    lost l rest known is = lost_first (is_covered kept.front l) (is_some (record_at (view_of kept) l)) rest known (spent kept.front me) (ap is_some (gone l is))

    by : (c : Command) → home ≡ home_by c me → judge_on (view_of kept) me c ≡ Denied (lost_by kept.front c)
    by (Begin None deadline) is = absurd (beyond (subst (λ (h : ℕ). h ≤ length kept.front) (sym is) there))
    by (Begin (Some p) deadline) is = lost p _ _ is
    by (Join l links) is = lost l _ _ is
    by (Leave l m) is = lost l _ _ is
    by (Decide l verdict) is = lost l _ _ is
    by (Report l m act outcome) is = lost l _ _ is
    by (Forgot l m) is = lost l _ _ is
    by (Told l m) is = lost l _ _ is
    by (Purge root) is = lost root _ _ is
