-- A journal whose openings were stopped still has its one view.
use Rattle.std.proofs.Common.{◌≡◌, ◌⊎◌, inl, inr, ◌∙◌, ℕ, List, [], ◌∷◌, IsTrue, ap, subst, sym}
use Rattle.sqlite.specs.Effect.{Database}
use Rattle.sqlite.specs.Held.{state}
use Rattle.sqlite.specs.Tree.{Trees}
use Rattle.sqlite_trees.specs.declared.store.Store.{Ghosts}
use Rattle.theory_history.specs.Views.{View}
use Rattle.wire_frames.specs.declared.version.Version.{Version}
use Rattle.wire_frames.specs.declared.version.Version.TheVariants.{One, Two}
use Rattle.state_journal.specs.NewStores.{IsRewritten, MayLeaveOpened}
use Rattle.state_journal.specs.Ruled.{KeepsRulesAs}
use Rattle.state_journal.specs.Stands.{Stands, StandsAs}
use Rattle.state_journal.proofs.KeptRules.{rules_of_two}
use Rattle.theory_trail.specs.Upgrades.{AreStopped, IsFoundIn, IsStopped, StoppedOpening}

module _
    (one_view : (v : Version) (me : ℕ) (db : Trees) (a b : View) → StandsAs v me db a → StandsAs v me db b → KeepsRulesAs v a → KeepsRulesAs v b → a ≡ b)
    (one_version : (v w : Version) (me : ℕ) (db : Trees) (a b : View) → StandsAs v me db a → StandsAs w me db b → v ≡ w) where
  -- rows have only one view
  one_found : (me : ℕ) (db : Trees) (a b : View) → IsFoundIn me db a → IsFoundIn me db b → a ≡ b
  one_found me db a b one other =
      let same = one_version one.version other.version me db a b one.stands other.stands in
      one_view other.version me db a b (subst (λ (v : Version). StandsAs v me db a) same one.stands) other.stands (subst (λ (v : Version). KeepsRulesAs v a) same one.rules) other.rules

  module _ (rewritten : (me : ℕ) (old new : Trees) (view : View) → StandsAs One me old view → KeepsRulesAs One view → IsRewritten me old new → Stands me new view)
      {S : Type 0} (g : Ghosts S) (settled : (s : S) (db : Trees) → IsTrue (g.view s).is_open → g.recovers s db → db ≡ (g.view s).committed) (me nodes : ℕ) where
    -- rows that were written anew have the same view
    found_anew : (old new : Trees) (view : View) → IsFoundIn me old view → IsRewritten me old new → IsFoundIn me new view
    found_anew old new view found did =
        let first = one_version found.version One me old view did.view found.stands did.before in
        record {
          version = Two;
          stands = rewritten me old new view (subst (λ (v : Version). StandsAs v me old view) first found.stands) (subst (λ (v : Version). KeepsRulesAs v view) first found.rules) did;
          rules = rules_of_two found.version view found.rules;
        }

    -- the view is the same after one stop
    found_once : (before : Trees) (opening : StoppedOpening S) (view : View) → IsStopped g me nodes before opening → IsFoundIn me before view → IsFoundIn me opening.rows view
    found_once before opening view stopped found = by (stopped.survives.crash stopped.clean opening.rows stopped.may)
      where
        by : (state g opening.taken).may_leave opening.rows ⊎ MayLeaveOpened (state g opening.taken) me nodes opening.rows → IsFoundIn me opening.rows view
        by (inl may) =
            let same : opening.rows ≡ before =
            settled opening.taken.store opening.rows stopped.was.is_open may ∙ sym (ap (λ (d : Database). d.trees) stopped.was.settled) ∙ stopped.shows in
            subst (λ (db : Trees). IsFoundIn me db view) (sym same) found
        by (inr opened) = found_anew before opening.rows view found (subst (λ (db : Trees). IsRewritten me db opening.rows) stopped.shows (opened.1 stopped.was))

    pub found_still : (before after : Trees) (openings : List (StoppedOpening S)) (view : View) → AreStopped g me nodes before openings after → IsFoundIn me before view → IsFoundIn me after view
    found_still before after [] view same found = subst (λ (db : Trees). IsFoundIn me db view) (sym same) found
    found_still before after (opening ∷ openings) view (stopped, rest) found =
        found_still opening.rows after openings view rest (found_once before opening view stopped found)

    pub found_same : (before after : Trees) (openings : List (StoppedOpening S)) (view next : View) → AreStopped g me nodes before openings after → IsFoundIn me before view → IsFoundIn me after next → next ≡ view
    found_same before after openings view next stopped found later = one_found me after next view later (found_still before after openings view stopped found)
