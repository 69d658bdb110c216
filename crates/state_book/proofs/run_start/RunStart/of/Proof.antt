-- `of` makes a value of no bytes, whose ghost field is the view of what the reference shows.
use Rattle.std.proofs.Common.{[], ◌∷◌, refl}
use Rattle.std.proofs.raw_atomic.Walks.{proved}
use base.Fml.{Fml}
use contract.Running.{tables}
use denote.Builtin.{RefOf}
use denote.Exit.{yes}
use denote.RattleType.{owns}
use denote.Ref.{shr_Tells, shr_vals}
use denote.Shadow.{makes_shadow}
use denote.Signature.{plain, types_at}
use denote.Steps.{nothing}
use denote.Triple.Entry.{alive}
use denote.Triple.Walked.{Goes-dropped, Stays, ends_at, says, stay_dropped, walk_of}
use mir.Syntax.{named}
use mir.Val.{Val, vnil, vstruct}
use types.ByLocal.{alloc_all, free_all, look_at, pass_all, sets}
use types.Kit.{‵, raw, ◌⊛◌, ◌$◌, ◌∵◌, !, qed, move, keep, split, join, fjoin, use0, suffices, done}
use types.Part.{agg}
use types.Run.{enter, no_more, returns}
use Rattle.state_replica.specs.Replicas.{view_of}
use Rattle.state_replica.specs.contracts.replica.Replica.{the_row as R}
use Rattle.state_book.specs.contracts.run_start.RunStart.{the_row as made}
use Rattle.state_book.specs.contracts.run_start.RunStart.of as f
use Rattle.state_book.proofs.run_start.RunStart.of.Code as code
use Rattle.state_book.proofs.run_start.RunStart.of.Statement.{statement}

abbrev stayed : Stays f.ended.signature.params f.ended.kept
stayed = (stay_dropped (RefOf (0 ∷ []) tt (plain (λ _. R)) (λ _. tt)) yes, tt)

pub of_spec : {M : Type 1} → statement M
of_spec 𝓤 𝓛 𝓜 𝓡 wired =
    let c = f.clauses 𝓛 𝓜.mem 𝓡.returns in let W = walk_of 𝓛 f.ended stayed c in let 𝓣 = tables 𝓤 𝓛.H 𝓜 𝓡 𝓡.env in
    proved 𝓛 f.ended stayed c 𝓜 𝓡 (Goes-dropped 𝓛 1 (RefOf (0 ∷ []) tt (plain (λ _. R)) (λ _. tt)) yes (λ κs x w. refl), tt)
    f.Key.name code.function (code.unfolded 𝓤 𝓛.H 𝓜 𝓡 wired)
    (λ κs. (shr_vals, tt)) (λ κs. (shr_Tells (named 0) κs.0 R, tt)) (λ κs qs bounds a gh are.
    let y : W.Ghost = ((κs, qs, bounds, a, (shr_vals a.0, tt)), gh) in let v : Val = vstruct vnil in let r : made.Denot = record { held = view_of a.0.now } in
    let O : Fml = made.own_val r (v ∷ []) in
    qed 𝓛 ((raw (alive 𝓛 f.signature κs qs) ⊛ ‵ (owns (types_at f.signature.params κs) a y.0.4)) ∷ raw ((c κs a).requires gh) ∷ []) ∵
    split ! $ keep ! (0 ∷ []) $ enter ! _ _ _ _ _ $ alloc_all ! (λ l. pass_all ! refl ((tt, tt), tt) $
    sets ! (agg ! (no_more !)) refl (tt, tt) $ returns ! (look_at ! 0 refl) $ free_all ! refl $
    use0 𝓛 (‵ O) (makes_shadow 𝓛 O ((λ vss. (tt, tt)), tt) ((tt, (refl, tt)), tt)) $
    suffices ! _ (ends_at 𝓛 f.ended stayed c y v r (tt, tt) (tt, tt)) $ says ! refl $
    nothing ! $ nothing ! $ fjoin ! $ join ! $ move ! (1 ∷ 0 ∷ []) $ join ! $ done !))
