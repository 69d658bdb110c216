-- the patch of a command holds only what changes, each once
use Rattle.std.proofs.Common.{◌≡◌, ◌≤◌, ◌<◌, ◌+◌, ◌-◌, ◌==◌, ◌∷◌, ℕ, List, [], refl, sym, ap, subst, ◌∙◌, Bool, true, false, cond, arith, Option, Some, None, get_or-set_same, length}
use Rattle.std.proofs.lemmas.List.{length-map}
use Rattle.std.specs.List.{AllByRecursion}
use Rattle.std.specs.Option.{option_map_or}
use Rattle.state_ids.specs.Ids.{Id}
use Rattle.state_ids.specs.Fronts.{count}
use Rattle.state_facts.specs.declared.fact.Fact.{Fact}
use Rattle.state_facts.specs.Sets.{begins}
use Rattle.state_facts.proofs.Membership.{any_gives}
use Rattle.state_forest.specs.declared.record.Record.{Record}
use Rattle.state_forest.specs.Forests.{IsAscending, id_of}
use Rattle.state_forest.specs.OnlyChanges.{AreOnlyChanges}
use Rattle.state_forest.specs.Records.{nodes_to, stamp}
use Rattle.state_forest.specs.Said.{ids_below, is_below}
use Rattle.state_forest.specs.Shape.{found_at}
use Rattle.state_forest.proofs.ParentsAndChains.{begins_at}
use Rattle.state_forest.proofs.OnlyWhatChanges.{ids_alone, some_same}
use Rattle.state_facts.specs.declared.command.Command.{Command}
use Rattle.state_facts.specs.declared.command.Command.TheVariants.{Begin, Join, Leave, Decide, Report, Forgot, Told, Purge}
use Rattle.theory_history.specs.Growth.{IsSettled, record_after, stamped}
use Rattle.theory_history.specs.Next.{change_on, change_record, judge_on, next_fact_on, no_change}
use Rattle.theory_history.specs.Changes.{fresh_record, HoldsOnlyChanges, ids_of, one_change, records_of, two_changes}
use Rattle.theory_history.specs.Readings.{at_home, by_view}
use Rattle.theory_history.specs.Replies.{Accepted, judge}
use Rattle.theory_history.specs.Views.{StandsFor, View, record_at, records_at}
use Rattle.theory_history.proofs.ElementsByHome.{all_weaker, home_all, home_none, no_changes}
use Rattle.theory_history.proofs.PatchesAddFacts.{found_record, held_home}
use Rattle.theory_history.proofs.SameReadings.{judge_view}
use Rattle.theory_history.proofs.ViewReplies.{is_plain}
use Rattle.theory_history.proofs.Basics.{equal_from, equal_itself, held_begun, length_nodes}
use Rattle.theory_history.proofs.AcceptedCommands.{lawful_gives}
use Rattle.theory_history.proofs.RecordsAfterAPurge.{ascending_kept}
use Rattle.theory_history.proofs.ReplyOrRefusal.{held_within}
use Rattle.theory_history.proofs.ViewsHaveShape.{record_in_place}

-- Records that are put

-- the view has this record as it is
abbrev IsThere : View → Record → Type 0
IsThere view r = record_at view (id_of r) ≡ Some r

of_home : (home : ℕ) (rs : List Record) → AllByRecursion (λ (r : Record). r.home ≡ home) (records_of home rs)
of_home home [] = tt
of_home home (r ∷ rs) = by (r.home == home) refl (of_home home rs)
  where
    by : (b : Bool) → (r.home == home) ≡ b → AllByRecursion (λ (x : Record). x.home ≡ home) (records_of home rs) → AllByRecursion (λ (x : Record). x.home ≡ home) (cond b (r ∷ records_of home rs) (records_of home rs))
    by true e rest = (equal_from r.home home e, rest)
    by false e rest = rest

not_there : (view : View) (home : ℕ) (rs : List Record) → AllByRecursion (λ (r : Record). IsThere view r → ⊥) rs
    → AllByRecursion (λ (r : Record). found_at home (records_at view.records home) r.num ≡ Some r → ⊥) (records_of home rs)
not_there view home [] h = tt
not_there view home (r ∷ rs) h = by (r.home == home) refl (not_there view home rs h.1)
  where
    by : (b : Bool) → (r.home == home) ≡ b → AllByRecursion (λ (x : Record). found_at home (records_at view.records home) x.num ≡ Some x → ⊥) (records_of home rs)
        → AllByRecursion (λ (x : Record). found_at home (records_at view.records home) x.num ≡ Some x → ⊥) (cond b (r ∷ records_of home rs) (records_of home rs))
    by true e rest = (λ at. h.0 (subst (λ (k : ℕ). found_at k (records_at view.records k) r.num ≡ Some r) (sym (equal_from r.home home e)) at), rest)
    by false e rest = rest

puts : (view : View) (rs : List Record) → IsAscending rs → AllByRecursion (λ (r : Record). IsThere view r → ⊥) rs
    → (home : ℕ) → AreOnlyChanges home (records_at view.records home) [] (records_of home rs)
puts view rs ascends new home =
    let none = no_changes home (records_at view.records home) in
    record {
      order = record { homes = of_home home rs; ascending = ascending_kept (λ r. r.home == home) rs ascends };
      others = not_there view home rs new;
      homes = none.homes;
      rising = none.rising;
      there = none.there;
      apart = tt;
    }

-- A record that is new

-- the LRA of a node's next fact has no record
fresh_new : (S : List Fact) (view : View) (me : ℕ) (next : Record) → StandsFor S view → 1 ≤ me → next.home ≡ me → next.num ≡ count view.front me + 1 → IsThere view next → ⊥
fresh_new S view me next stands one home num at =
    let found = found_record S view (id_of next) next stands (omega (arith, one, home)) at in
    let begin = any_gives (begins (id_of next)) S (held_begun S (id_of next) found.held) in
    let is = begins_at (id_of next) begin.0 begin.2 in
    let counted = stands.front.counted begin.0 begin.1 in
    let same : count view.front begin.0.origin ≡ count view.front me = ap (count view.front) (is.0 ∙ home) in
    omega (arith, counted, same, is.1, num)

-- and no record has that fact's number as a stamp
stamped_new : (S : List Fact) (view : View) (me : ℕ) (l : Id) (old next : Record) → IsSettled S → StandsFor S view → 1 ≤ me → me ≤ length view.front → 1 ≤ l.home → record_at view l ≡ Some old
    → id_of next ≡ id_of old → next.stamps ≡ stamped me (count view.front me + 1) old.stamps → IsThere view next → ⊥
stamped_new S view me l old next settled stands one within some at id stamps there =
    let found = found_record S view l old stands some at in
    let named : id_of old ≡ l = ap id_of found.is in
    let same : old ≡ next = some_same old next (sym there ∙ ap (record_at view) (id ∙ named) ∙ at) in
    let below = (record_in_place S view settled stands l old some at).stamps me in
    let long : length old.stamps ≡ length view.front =
    ap (λ (r : Record). length r.stamps) found.is ∙ length-map (nodes_to (length view.front)) (stamp S l) ∙ length_nodes (length view.front) in
    let new : count next.stamps me ≡ count view.front me + 1 =
    ap (λ (v : List ℕ). count v me) stamps ∙ get_or-set_same old.stamps (me - 1) (count view.front me + 1) 0 (omega (arith, one, within, long)) in
    let is : count old.stamps me ≡ count next.stamps me = ap (λ (r : Record). count r.stamps me) same in
    omega (arith, below, new, is)

-- What a command changes

module _ (S : List Fact) (view : View) (me : ℕ) (settled : IsSettled S) (stands : StandsFor S view) (one : 1 ≤ me) (within : me ≤ length view.front) where
  -- one record is changed
  one_only : (c : Command) (l : Id) → 1 ≤ l.home → HoldsOnlyChanges view (change_record view me c l)
  one_only c l some = by (record_at view l) refl
    where
      by : (o : Option Record) → record_at view l ≡ o → HoldsOnlyChanges view (option_map_or (λ (r : Record). one_change view me (record_after (next_fact_on view me c) r)) o (no_change view))
      by None e = puts view [] tt tt
      by (Some r) e = puts view (record_after (next_fact_on view me c) r ∷ []) (tt, tt) (stamped_new S view me l r (record_after (next_fact_on view me c) r) settled stands one within some e refl refl, tt)

  -- the parent's record is changed, and one is put for the LRA that is begun
  two_only : (p : Id) (deadline : ℕ) → 1 ≤ p.home → p.home ≡ me → HoldsOnlyChanges view (change_on view me (Begin (Some p) deadline))
  two_only p deadline some own = by (record_at view p) refl
    where
      c : Command
      c = Begin (Some p) deadline

      fresh : Record
      fresh = fresh_record view.front me (Some (record { number = p.num; slot = (by_view view).numbers p + 1 })) deadline

      lesser : (r : Record) → record_at view p ≡ Some r → r.num < count view.front me + 1
      lesser r e =
          let found = found_record S view p r stands some e in
          let number : r.num ≡ p.num = ap (λ (x : Record). x.num) found.is in
          let begin = any_gives (begins p) S (held_begun S p found.held) in
          let is = begins_at p begin.0 begin.2 in
          let counted = stands.front.counted begin.0 begin.1 in
          let same : count view.front begin.0.origin ≡ count view.front me = ap (count view.front) (is.0 ∙ own) in
          omega (arith, counted, same, is.1, number)

      by : (o : Option Record) → record_at view p ≡ o → HoldsOnlyChanges view (option_map_or (λ (r : Record). two_changes view me (record_after (next_fact_on view me c) r) fresh) o (no_change view))
      by None e = puts view [] tt tt
      by (Some r) e =
          puts view (record_after (next_fact_on view me c) r ∷ fresh ∷ []) ((lesser r e, tt), (tt, tt))
          (stamped_new S view me p r (record_after (next_fact_on view me c) r) settled stands one within some e refl refl, (fresh_new S view me fresh stands one refl refl, tt))

  -- the LRAs under a root are removed
  removed_only : (root : Id) → 1 ≤ root.home → root.home ≤ length view.front → HoldsOnlyChanges view (change_on view me (Purge root))
  removed_only root some there home = by (root.home == home) refl
    where
      own : List Record
      own = records_at view.records root.home

      ids : List Id
      ids = ids_below (at_home view root.home) root.num own

      alone : AreOnlyChanges root.home own ids []
      alone = ids_alone root.home (is_below (at_home view root.home) root.num) own (stands.records root.home some there).order

      by : (b : Bool) → (root.home == home) ≡ b → AreOnlyChanges home (records_at view.records home) (ids_of home ids) []
      by true e =
          subst (λ (k : ℕ). AreOnlyChanges k (records_at view.records k) (ids_of k ids) []) (equal_from root.home home e)
          (subst (λ (ls : List Id). AreOnlyChanges root.home own ls []) (sym (home_all (λ (l : Id). l.home) root.home ids alone.homes)) alone)
      by false e =
          let other : root.home ≡ home → ⊥ = λ s. (let clash : true ≡ false = sym (ap (λ (n : ℕ). n == home) s ∙ equal_itself home) ∙ e in cc) in
          subst (λ (ls : List Id). AreOnlyChanges home (records_at view.records home) ls [])
          (sym (home_none (λ (l : Id). l.home) home ids (all_weaker (λ (l : Id). l.home ≡ root.home) (λ (l : Id). l.home ≡ home → ⊥) ids (λ l f s. other (sym f ∙ s)) alone.homes)))
          (no_changes home (records_at view.records home))

  by_set : (c : Command) → judge S view.front me c ≡ Accepted → HoldsOnlyChanges view (change_on view me c)
  by_set (Begin None deadline) taken = let fresh = fresh_record view.front me None deadline in puts view (fresh ∷ []) (tt, tt) (fresh_new S view me fresh stands one refl refl, tt)
  by_set (Begin (Some p) deadline) taken = let given = (lawful_gives S view.front me (Begin (Some p) deadline) taken).0 in two_only p deadline (held_home S view p stands given.held) given.home
  by_set (Join l links) taken = one_only (Join l links) l (held_home S view l stands (lawful_gives S view.front me (Join l links) taken).0.held)
  by_set (Leave l m) taken = one_only (Leave l m) l (held_home S view l stands (lawful_gives S view.front me (Leave l m) taken).0.held)
  by_set (Decide l verdict) taken = one_only (Decide l verdict) l (held_home S view l stands (lawful_gives S view.front me (Decide l verdict) taken).held)
  by_set (Report l m act outcome) taken = one_only (Report l m act outcome) l (held_home S view l stands (lawful_gives S view.front me (Report l m act outcome) taken).0.held)
  by_set (Forgot l m) taken = one_only (Forgot l m) l (held_home S view l stands (lawful_gives S view.front me (Forgot l m) taken).0.held)
  by_set (Told l m) taken = one_only (Told l m) l (held_home S view l stands (lawful_gives S view.front me (Told l m) taken).0.held)
  by_set (Purge root) taken =
      let held = (lawful_gives S view.front me (Purge root) taken).0.held in
      removed_only root (held_home S view root stands held) (held_within S view root stands held)

pub command_only : (S : List Fact) (view : View) (me : ℕ) (c : Command) → 1 ≤ me → me ≤ length view.front → IsSettled S → StandsFor S view → judge_on view me c ≡ Accepted
    → HoldsOnlyChanges view (change_on view me c)
command_only S view me c one within settled stands taken =
    by_set S view me settled stands one within c (sym (judge_view S view me c (is_plain (length view.front) me c one within) settled stands) ∙ taken)
