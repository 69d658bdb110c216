-- the members of an LRA in a union, from those in the two sets
use Rattle.std.proofs.Common.{◌≡◌, inl, inr, ◌≤◌, ◌<◌, ◌+◌, ◌==◌, ◌||◌, ◌&&◌, ℕ, List, [], ◌∷◌, ◌++◌, refl, sym, ap, subst, ◌∙◌, Bool, true, false, cond, arith, Option, Some, None, filter, map, length, is_some, nat_lt}
use Rattle.std.proofs.lemmas.Bool.Decides.{nat_tests}
use Rattle.std.proofs.lemmas.List.{length-append}
use Rattle.state_ids.specs.Ids.{Id, same_id}
use Rattle.state_ids.specs.States.{greater, same_act}
use Rattle.state_ids.specs.declared.outcome.Act.{Act}
use Rattle.state_ids.specs.declared.outcome.Act.TheVariants.{Complete, Compensate}
use Rattle.state_ids.specs.declared.outcome.Outcome.{Outcome}
use Rattle.state_facts.specs.declared.fact.Body.{Body}
use Rattle.state_facts.specs.declared.fact.Body.TheVariants.{Begin, Join, Leave, Decide, Report, Forgot, Told, Purge}
use Rattle.state_facts.specs.declared.fact.Fact.{Fact}
use Rattle.state_facts.specs.Links.{Links}
use Rattle.state_facts.specs.Duties.{has_forgot, is_forgot, has_told, is_told_of}
use Rattle.state_facts.specs.Lists.{In}
use Rattle.state_facts.specs.Sets.{gives_number, has_left, heard, is_leave, member_number, numbers_given, reported}
use Rattle.state_facts.proofs.Heard.{heard_union}
use Rattle.state_facts.proofs.Membership.{any_inside, any_union}
use Rattle.state_forest.specs.declared.record.Participant.{Participant as ParticipantRecord}
use Rattle.state_forest.specs.declared.record.Member.{Member}
use Rattle.state_forest.specs.declared.record.Member.TheVariants.{Participant, Left}
use Rattle.state_forest.specs.Participants.{joined_as}
use Rattle.state_forest.specs.Records.{givers, member_by, members_of, stamp}
use Rattle.state_forest.proofs.GiversOfNumbers.{giver_in, number_is}
use Rattle.state_forest.proofs.NumberedMembers.{same_is}
use Rattle.state_forest.specs.RecordMerges.{merged_member, merged_members}
use Rattle.theory_history.specs.Growth.{names_member}
use Rattle.theory_history.proofs.SettledFacts.{givers_length}
use Rattle.theory_history.proofs.ListsWithOneMore.{filter_all, filter_append, none_found}
use Rattle.theory_history.proofs.Prefixes.{IsLonger}
use Rattle.theory_history.proofs.TwoClosedSets.{AreTogether, givers_longer, givers_union, left_union, link_for}
use Rattle.theory_history.proofs.Basics.{false_from, greater_none}

-- Facts that say nothing of a participant

unnamed_report : (l : Id) (m : ℕ) (a : Act) (body : Body) → names_member l m body ≡ false → reported l m a body ≡ None
unnamed_report l m a (Report id n act outcome) e = by (same_id id l) (n == m) (same_act act a) e
  where
    by : (b c d : Bool) → (b && c) ≡ false → cond (b && (c && d)) (Some outcome) None ≡ None
    by true true d e = absurd cc
    by true false d e = refl
    by false c d e = refl
unnamed_report l m a (Begin parent deadline) e = refl
unnamed_report l m a (Join id n links) e = refl
unnamed_report l m a (Leave id n) e = refl
unnamed_report l m a (Decide id v) e = refl
unnamed_report l m a (Forgot id n) e = refl
unnamed_report l m a (Told id n) e = refl
unnamed_report l m a (Purge root) e = refl

unnamed_forgot : (l : Id) (m : ℕ) (body : Body) → names_member l m body ≡ false → is_forgot l m body ≡ false
unnamed_forgot l m (Forgot id n) e = e
unnamed_forgot l m (Begin parent deadline) e = refl
unnamed_forgot l m (Join id n links) e = refl
unnamed_forgot l m (Leave id n) e = refl
unnamed_forgot l m (Decide id v) e = refl
unnamed_forgot l m (Report id n act outcome) e = refl
unnamed_forgot l m (Told id n) e = refl
unnamed_forgot l m (Purge root) e = refl

unnamed_told : (l : Id) (m : ℕ) (body : Body) → names_member l m body ≡ false → is_told_of l m body ≡ false
unnamed_told l m (Told id n) e = e
unnamed_told l m (Begin parent deadline) e = refl
unnamed_told l m (Join id n links) e = refl
unnamed_told l m (Leave id n) e = refl
unnamed_told l m (Decide id v) e = refl
unnamed_told l m (Report id n act outcome) e = refl
unnamed_told l m (Forgot id n) e = refl
unnamed_told l m (Purge root) e = refl

-- nothing is heard if nothing is reported
heard_none : (S : List Fact) (l : Id) (m : ℕ) (a : Act) → ((f : Fact) → In f S → reported l m a f.body ≡ None) → heard S l m a ≡ None
heard_none [] l m a none = refl
heard_none (f ∷ S) l m a none =
    let here = none f (inl refl) in
    let rest = heard_none S l m a (λ g k. none g (inr k)) in
    rw (here, rest) refl

none_or : (b : Bool) → (b || false) ≡ b
none_or true = refl
none_or false = refl

-- Members one by one

same_left : (u s t : Bool) (r p q : ParticipantRecord) → u ≡ s → (t ≡ true → s ≡ true) → Participant r ≡ merged_member (Participant p) (Some (Participant q)) → cond u Left (Participant r) ≡ merged_member (cond s Left (Participant p)) (Some (cond t Left (Participant q)))
same_left true true t r p q e f g = refl
same_left true false t r p q e f g = absurd cc
same_left false true t r p q e f g = absurd cc
same_left false false true r p q e f g = absurd (let clash : false ≡ true = f refl in cc)
same_left false false false r p q e f g = g

same_alone : (u s : Bool) (r p : ParticipantRecord) → u ≡ s → Participant r ≡ merged_member (Participant p) None → cond u Left (Participant r) ≡ merged_member (cond s Left (Participant p)) None
same_alone true true r p e g = refl
same_alone true false r p e g = absurd cc
same_alone false true r p e g = absurd cc
same_alone false false r p e g = g

masked : (b : Bool) (o : Option Outcome) → (b ≡ false → o ≡ None) → cond b o None ≡ o
masked true o h = refl
masked false o h = sym (h refl)

masked_and : (b c : Bool) → (b ≡ false → c ≡ false) → (b && c) ≡ c
masked_and true c h = refl
masked_and false c h = sym (h refl)

-- each member of the first list is merged with what the other list has at its place
merge_maps : (f g k : Fact → Member) (xs rest : List Fact) → ((x : Fact) → In x xs → k x ≡ merged_member (f x) (Some (g x))) → ((x : Fact) → In x rest → k x ≡ merged_member (f x) None) → map k (xs ++ rest) ≡ merged_members (map f (xs ++ rest)) (map g xs)
merge_maps f g k [] [] a b = refl
merge_maps f g k [] (x ∷ rest) a b =
    ap (λ y. y ∷ map k rest) (b x (inl refl)) ∙ ap (λ ys. merged_member (f x) None ∷ ys) (merge_maps f g k [] rest a (λ y m. b y (inr m)))
merge_maps f g k (x ∷ xs) rest a b =
    ap (λ y. y ∷ map k (xs ++ rest)) (a x (inl refl)) ∙ ap (λ ys. merged_member (f x) (Some (g x)) ∷ ys) (merge_maps f g k xs rest (λ y m. a y (inr m)) b)

module _ (S T U : List Fact) (v w : List ℕ) (t : AreTogether S T U v w) (l : Id) (le : stamp T l l.home ≤ stamp S l l.home) where
  -- for an act that a participant has no link for, nothing was heard or marked
  unheard : (f : Fact) (m : ℕ) (links : Links) (act : Act) → In f U → f.body ≡ Join l m links → is_some (link_for act links) ≡ false → heard U l m act ≡ None
  unheard f m links act k joins off = heard_none U l m act (λ g n. by g n (reported l m act g.body) refl)
    where
      by : (g : Fact) → In g U → (o : Option Outcome) → reported l m act g.body ≡ o → o ≡ None
      by g n None e = refl
      by g n (Some o) e = let on = t.proper.reports g f l m links act o n e k joins in absurd cc

  unmarked : (f : Fact) (m : ℕ) (links : Links) → In f U → f.body ≡ Join l m links → is_some links.forget ≡ false → has_forgot U l m ≡ false
  unmarked f m links k joins off = none_found (λ g. is_forgot l m g.body) U (λ g n. false_from (is_forgot l m g.body) (λ e. let on = t.proper.forgets g f l m links n e k joins in absurd cc))

  untold : (f : Fact) (m : ℕ) (links : Links) → In f U → f.body ≡ Join l m links → is_some links.after ≡ false → has_told U l m ≡ false
  untold f m links k joins off = none_found (λ g. is_told_of l m g.body) U (λ g n. false_from (is_told_of l m g.body) (λ e. let on = t.proper.tells g f l m links n e k joins in absurd cc))

  left_there : (m : ℕ) → has_left T l m ≡ true → has_left S l m ≡ true
  left_there m e = sym (left_union S T U v w t l le m) ∙ any_inside (λ f. is_leave l m f.body) T U t.union.right e

  -- the member for a participant that joined in both sets
  participant_both : (f : Fact) (m : ℕ) (links : Links) → In f U → f.body ≡ Join l m links → member_by U l f.num (Join l m links) ≡ merged_member (member_by S l f.num (Join l m links)) (Some (member_by T l f.num (Join l m links)))
  participant_both f m links k joins =
      let complete = heard_union S T U t.union l m Complete in
      let compensate = heard_union S T U t.union l m Compensate in
      let forgotten : has_forgot U l m ≡ (has_forgot S l m || has_forgot T l m) = any_union (λ g. is_forgot l m g.body) S T U t.union in
      let told : has_told U l m ≡ (has_told S l m || has_told T l m) = any_union (λ g. is_told_of l m g.body) S T U t.union in
      let kept : cond (is_some links.complete) (greater (heard S l m Complete) (heard T l m Complete)) None ≡ greater (heard S l m Complete) (heard T l m Complete) =
      masked (is_some links.complete) (greater (heard S l m Complete) (heard T l m Complete)) (λ none. sym complete ∙ unheard f m links Complete k joins none) in
      let held : cond (is_some links.compensate) (greater (heard S l m Compensate) (heard T l m Compensate)) None ≡ greater (heard S l m Compensate) (heard T l m Compensate) =
      masked (is_some links.compensate) (greater (heard S l m Compensate) (heard T l m Compensate)) (λ none. sym compensate ∙ unheard f m links Compensate k joins none) in
      let marked : (is_some links.forget && (has_forgot S l m || has_forgot T l m)) ≡ (has_forgot S l m || has_forgot T l m) =
      masked_and (is_some links.forget) (has_forgot S l m || has_forgot T l m) (λ none. sym forgotten ∙ unmarked f m links k joins none) in
      let noted : (is_some links.after && (has_told S l m || has_told T l m)) ≡ (has_told S l m || has_told T l m) =
      masked_and (is_some links.after) (has_told S l m || has_told T l m) (λ none. sym told ∙ untold f m links k joins none) in
      same_left (has_left U l m) (has_left S l m) (has_left T l m) (joined_as U l m links) (joined_as S l m links) (joined_as T l m links)
      (left_union S T U v w t l le m) (left_there m) (rw (complete, compensate, forgotten, told, kept, held, marked, noted) refl)

  -- the member for a participant of which the second set says nothing
  participant_alone : (f : Fact) (m : ℕ) (links : Links) → In f U → f.body ≡ Join l m links → ((g : Fact) → In g T → names_member l m g.body ≡ false) → member_by U l f.num (Join l m links) ≡ merged_member (member_by S l f.num (Join l m links)) None
  participant_alone f m links k joins silent =
      let no_complete = heard_none T l m Complete (λ g k. unnamed_report l m Complete g.body (silent g k)) in
      let no_compensate = heard_none T l m Compensate (λ g k. unnamed_report l m Compensate g.body (silent g k)) in
      let no_mark : has_forgot T l m ≡ false = none_found (λ g. is_forgot l m g.body) T (λ g k. unnamed_forgot l m g.body (silent g k)) in
      let no_note : has_told T l m ≡ false = none_found (λ g. is_told_of l m g.body) T (λ g k. unnamed_told l m g.body (silent g k)) in
      let complete : heard U l m Complete ≡ heard S l m Complete = heard_union S T U t.union l m Complete ∙ ap (greater (heard S l m Complete)) no_complete ∙ greater_none (heard S l m Complete) in
      let compensate : heard U l m Compensate ≡ heard S l m Compensate = heard_union S T U t.union l m Compensate ∙ ap (greater (heard S l m Compensate)) no_compensate ∙ greater_none (heard S l m Compensate) in
      let mark : has_forgot U l m ≡ has_forgot S l m = any_union (λ g. is_forgot l m g.body) S T U t.union ∙ ap (λ b. has_forgot S l m || b) no_mark ∙ none_or (has_forgot S l m) in
      let note : has_told U l m ≡ has_told S l m = any_union (λ g. is_told_of l m g.body) S T U t.union ∙ ap (λ b. has_told S l m || b) no_note ∙ none_or (has_told S l m) in
      let kept : cond (is_some links.complete) (heard S l m Complete) None ≡ heard S l m Complete =
      masked (is_some links.complete) (heard S l m Complete) (λ none. sym complete ∙ unheard f m links Complete k joins none) in
      let held : cond (is_some links.compensate) (heard S l m Compensate) None ≡ heard S l m Compensate =
      masked (is_some links.compensate) (heard S l m Compensate) (λ none. sym compensate ∙ unheard f m links Compensate k joins none) in
      let marked : (is_some links.forget && has_forgot S l m) ≡ has_forgot S l m =
      masked_and (is_some links.forget) (has_forgot S l m) (λ none. sym mark ∙ unmarked f m links k joins none) in
      let noted : (is_some links.after && has_told S l m) ≡ has_told S l m =
      masked_and (is_some links.after) (has_told S l m) (λ none. sym note ∙ untold f m links k joins none) in
      same_alone (has_left U l m) (has_left S l m) (joined_as U l m links) (joined_as S l m links)
      (left_union S T U v w t l le m) (rw (complete, compensate, mark, note, kept, held, marked, noted) refl)

  -- the member numbers that a set gave before a fact are less than that fact's
  beyond_number : (longer : IsLonger (givers S l) (givers T l)) (f : Fact) → In f longer.rest → numbers_given T l < member_number S l f.num
  beyond_number longer f m =
      let less : Fact → Bool = λ g. nat_lt g.num f.num in
      let all : filter less (givers T l) ≡ givers T l = filter_all less (givers T l) (λ g k. lesser g.num f.num ((longer.others f m).1 g k)) in
      let parts : filter less (givers S l) ≡ givers T l ++ filter less longer.rest =
      ap (filter less) longer.is ∙ filter_append less (givers T l) longer.rest ∙ ap (λ xs. xs ++ filter less longer.rest) all in
      let size : length (filter less (givers S l)) ≡ length (givers T l) + length (filter less longer.rest) = ap (λ (xs : List Fact). length xs) parts ∙ length-append (givers T l) (filter less longer.rest) in
      omega (arith, number_is S l f.num, size, givers_length T l)
    where
      lesser : (a b : ℕ) → a < b → nat_lt a b ≡ true
      lesser a b h = grind (arith, nat_tests)

  silent : (longer : IsLonger (givers S l) (givers T l)) (f : Fact) (m : ℕ) (links : Links) → In f longer.rest → f.body ≡ Join l m links → (g : Fact) → In g T → names_member l m g.body ≡ false
  silent longer f m links k joins g n = false_from (names_member l m g.body) (λ e.
      let there = giver_in S l f (longer.others f k).0 in
      omega (arith, beyond_number longer f k, t.first.seated.numbers f l m links there.0 joins, (t.second.members g l m n e).1))

  -- what a giver makes a member of depends on its body
  by_giver : (P : Body → Type 0) (body : Body) → gives_number l body ≡ true → ((p : Option Id) (d : ℕ) → P (Begin p d)) → ((m : ℕ) (links : Links) → body ≡ Join l m links → P (Join l m links)) → P body
  by_giver P (Begin p d) e begins joins = begins p d
  by_giver P (Join id m links) e begins joins =
      let same : id ≡ l = same_is id l e in
      subst (λ (x : Id). P (Join x m links)) (sym same) (joins m links (ap (λ (x : Id). Join x m links) same))
  by_giver P (Leave id m) e begins joins = absurd cc
  by_giver P (Decide id u) e begins joins = absurd cc
  by_giver P (Report id m act outcome) e begins joins = absurd cc
  by_giver P (Forgot id m) e begins joins = absurd cc
  by_giver P (Told id m) e begins joins = absurd cc
  by_giver P (Purge root) e begins joins = absurd cc

  -- if the first set has the greater home stamp, its members are kept
  pub members_union : members_of U l ≡ merged_members (members_of S l) (members_of T l)
  members_union =
      let by_set : List Fact → Fact → Member = λ X f. member_by X l f.num f.body in
      let longer = givers_longer S T U v w t l le in
      ap (map (by_set U)) (givers_union S T U v w t l le ∙ longer.is)
      ∙ merge_maps (by_set S) (by_set T) (by_set U) (givers T l) longer.rest
      (λ f m.
      let there = giver_in T l f m in
      by_giver (λ body. member_by U l f.num body ≡ merged_member (member_by S l f.num body) (Some (member_by T l f.num body))) f.body there.1
      (λ p d. refl)
      (λ n links joins. participant_both f n links (t.union.right f there.0) joins))
      (λ f m.
      let there = giver_in S l f (longer.others f m).0 in
      by_giver (λ body. member_by U l f.num body ≡ merged_member (member_by S l f.num body) None) f.body there.1
      (λ p d. refl)
      (λ n links joins. participant_alone f n links (t.union.left f there.0) joins (silent longer f n links m joins)))
      ∙ ap (λ xs. merged_members (map (by_set S) xs) (map (by_set T) (givers T l))) (sym longer.is)
