-- Nothing of the node's own is stored before the others are heard from.
use Rattle.std.proofs.Common.{◌≡◌, ◌&&◌, ◌∙◌, Bool, true, false, MatchBool, Option, None, Some, ap, not, refl, subst, sym}
use Rattle.std.proofs.lemmas.Bool.{and_left}
use Rattle.std.specs.declared.time.Duration.{Duration}
use Rattle.node_agenda.specs.Mail.{Mail, is_wanted, with_hurry}
use Rattle.node_agenda.specs.Moments.{is_by}
use Rattle.node_agenda.specs.Tasks.{DoesIf, Does, IsNextKind, IsNextTask, StoresNothing, has, may_enter}
use Rattle.node_agenda.specs.declared.task.Task.{Task}
use Rattle.node_agenda.specs.declared.task.Task.TheVariants.{Count, Errand, Rest, Take}
use Rattle.node_agenda.specs.declared.task.OperatorWant.{OperatorWant}
use Rattle.node_agenda.specs.declared.task.OperatorWant.TheVariants.{Command, Nothing, Question}
use Rattle.node_agenda.specs.declared.turn.Turn.{Turn}
use Rattle.node_agenda.specs.declared.turn.Turn.TheVariants.{OfChores, OfCount, OfDeadlines, OfDuties, OfErrand, OfLetters, OfTelling}

neither : (may b : Bool) → may ≡ false → (may && b) ≡ true → ⊥
neither true b m e = absurd cc
neither false b m e = absurd cc

asked : (may : Bool) (wanted : OperatorWant) → may ≡ false → is_wanted may wanted ≡ true → wanted ≡ Question
asked may Nothing m e = absurd cc
asked may Question m e = refl
asked true Command m e = absurd cc
asked false Command m e = absurd cc

by_kind : (now : Duration) (old new : Mail) (task : Task) (kind : Turn) → may_enter now old ≡ false → has now old kind ≡ true → Does now kind old new task → StoresNothing task
by_kind now old new task OfDeadlines may there does = absurd (neither (may_enter now old) _ may there)
by_kind now old new task OfCount may there does = subst StoresNothing (sym does.is) tt
by_kind now old new task OfLetters may there does = absurd (neither (may_enter now old) _ may there)
by_kind now old new task OfTelling may there does = subst StoresNothing (sym does.is) tt
by_kind now old new task OfDuties may there does = absurd (neither (may_enter now old) _ may there)
by_kind now old new task OfChores may there does = absurd (neither (may_enter now old) _ may there)
by_kind now old new task OfErrand may there does = subst StoresNothing (sym does.0) (asked (may_enter now old) old.wanted may there)

by_turn : (now : Duration) (old new : Mail) (task : Task) (kind : Option Turn) → may_enter now old ≡ false → IsNextKind old.last (has now old) kind → DoesIf now kind old new task → StoresNothing task
by_turn now old new task None may next does = subst StoresNothing (sym does.0) tt
by_turn now old new task (Some kind) may next does = by_kind now old new task kind may next.there does

by_hurry : (now : Duration) (old new : Mail) (task : Task) (hurried : Bool) → may_enter now old ≡ false
    → MatchBool hurried ((task ≡ Rest) × (new ≡ with_hurry false old)) ((kind : Option Turn) × IsNextKind old.last (has now old) kind × DoesIf now kind old new task) → StoresNothing task
by_hurry now old new task true may is = subst StoresNothing (sym is.0) tt
by_hurry now old new task false may is = by_turn now old new task is.0 may is.1 is.2

pub nothing_stored : (now : Duration) (old new : Mail) (task : Task) → may_enter now old ≡ false → IsNextTask now old new task → StoresNothing task
nothing_stored now old new task may is = by_hurry now old new task old.is_hurried may is
