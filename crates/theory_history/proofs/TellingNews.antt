-- taking what is news of a view is the same as merging it
use Rattle.std.proofs.Common.{◌≡◌, ◌≤◌, ◌==◌, ◌&&◌, ◌||◌, ℕ, List, [], ◌∷◌, inl, inr, refl, sym, ap, ◌∙◌, Bool, true, false, cond, not, arith, Option, Some, None, length, map, find, is_some}
use Rattle.std.proofs.lemmas.Bool.Decides.{nat_tests}
use Rattle.std.specs.List.{AllByRecursion, list_any}
use Rattle.state_ids.specs.Fronts.{count, is_covered, join_fronts}
use Rattle.state_ids.specs.Ids.{Id, is_fact_number}
use Rattle.state_forest.specs.declared.record.Record.{Record}
use Rattle.state_forest.specs.Forests.{is_of}
use Rattle.state_forest.specs.RecordMerges.{is_gone, absorbed, brought, merged_record}
use Rattle.state_forest.specs.OnlyChanges.{IsTold}
use Rattle.theory_history.specs.Merging.{IsAbsorbed, IsMerged, TellsNews, Telling, absorbed_of, merged_of, told_held, told_records}
use Rattle.theory_history.specs.Views.{View, record_at, records_at}
use Rattle.theory_history.proofs.JoinedFronts.{length_join}

-- What is absorbed of an LRA

-- whether the other view purged an LRA matters only if it has no record of it
gone_same : (covered gone past : Bool) (o p : Option Record) → (p ≡ None → gone ≡ past) → absorbed covered gone o p ≡ absorbed covered past o p
gone_same covered gone past None None same = refl
gone_same covered gone past None (Some t) same = refl
gone_same covered gone past (Some r) None same = ap (λ (g : Bool). cond g None (Some r)) (same refl)
gone_same covered gone past (Some r) (Some t) same = refl

-- if no record of an LRA is found among those of its home, none of them has its number
unlisted : (l : Id) (rs : List Record) → AllByRecursion (λ (r : Record). r.home ≡ l.home) rs → find (is_of l) rs ≡ None → list_any (λ n. n == l.num) (map (λ (r : Record). r.num) rs) ≡ false
unlisted l [] own none = refl
unlisted l (r ∷ rs) own none = by (unlisted l rs own.1) (r.home == l.home) (r.num == l.num) (grind (arith, nat_tests, own.0)) none
  where
    by : (find (is_of l) rs ≡ None → list_any (λ n. n == l.num) (map (λ (q : Record). q.num) rs) ≡ false) → (home num : Bool) → home ≡ true → cond (home && num) (Some r) (find (is_of l) rs) ≡ None → (num || list_any (λ n. n == l.num) (map (λ (q : Record). q.num) rs)) ≡ false
    by rest true true e none = absurd cc
    by rest true false e none = rest none
    by rest false num e none = absurd cc

not_listed : (b listed : Bool) → listed ≡ false → (b && not listed) ≡ b
not_listed true listed e = ap not e
not_listed false listed e = refl

-- if a record is found, one of them has its number
listed : (l : Id) (rs : List Record) → is_some (find (is_of l) rs) ≡ true → list_any (λ n. n == l.num) (map (λ (r : Record). r.num) rs) ≡ true
listed l [] some = absurd cc
listed l (r ∷ rs) some = by (listed l rs) (r.home == l.home) (r.num == l.num) some
  where
    by : (is_some (find (is_of l) rs) ≡ true → list_any (λ n. n == l.num) (map (λ (q : Record). q.num) rs) ≡ true) → (home num : Bool) → is_some (cond (home && num) (Some r) (find (is_of l) rs)) ≡ true → (num || list_any (λ n. n == l.num) (map (λ (q : Record). q.num) rs)) ≡ true
    by rest home true some = refl
    by rest true false some = rest some
    by rest false false some = rest some

is_listed : (b listed : Bool) → listed ≡ true → (b && not listed) ≡ false
is_listed true listed e = ap not e
is_listed false listed e = refl

-- what is not told of an LRA that is held would change nothing
told_same : (covered gone : Bool) (o p t : Option Record) → IsTold o p t → (is_some p ≡ true → gone ≡ false) → absorbed covered gone o t ≡ absorbed covered gone o p
told_same covered gone o p t (inl same) held = ap (absorbed covered gone o) same
told_same covered gone o None t (inr known) held = ap (absorbed covered gone o) known.0
told_same covered gone None (Some p) t (inr known) held = absurd (let no = known.1 in cc)
told_same covered gone (Some r) (Some p) t (inr known) held = ap (absorbed covered gone (Some r)) known.0 ∙ ap (λ (g : Bool). cond g None (Some r)) (held refl) ∙ sym known.1

-- the same is absorbed of each LRA as from the view that is told
taken_told : (a b : View) (telling : Telling) (l : Id) → TellsNews a telling b → 1 ≤ l.home → l.home ≤ length b.front → absorbed_of a telling l ≡ merged_of a b l
taken_told a b telling l all low high =
    let rs = records_at b.records l.home in
    let nums = map (λ (r : Record). r.num) rs in
    let covered = is_covered a.front l in
    ap (λ (front : List ℕ). absorbed covered (is_gone (count front l.home) (told_held telling l.home) l.num) (record_at a l) (find (is_of l) (told_records telling l.home))) all.front
    ∙ ap (λ (held : Option (List ℕ)). absorbed covered (is_gone (count b.front l.home) held l.num) (record_at a l) (find (is_of l) (told_records telling l.home))) (all.held l.home low high)
    ∙ told_same covered (is_gone (count b.front l.home) (Some nums) l.num) (record_at a l) (record_at b l) (find (is_of l) (told_records telling l.home)) (all.records l low high)
    (λ some. is_listed (is_fact_number l.num && is_covered b.front l) (list_any (λ n. n == l.num) nums) (listed l rs some))
    ∙ gone_same covered (is_gone (count b.front l.home) (Some nums) l.num) (is_fact_number l.num && is_covered b.front l) (record_at a l) (record_at b l)
    (λ none. not_listed (is_fact_number l.num && is_covered b.front l) (list_any (λ n. n == l.num) nums) (unlisted l rs (all.order l.home low high).homes none))

-- Taking what is news of a view is merging with it

-- the front that results counts as many nodes
same_nodes : (a b : View) (front : List ℕ) → length a.front ≡ length b.front → front ≡ join_fronts a.front b.front → length front ≡ length b.front
same_nodes a b front nodes is = ap (λ (v : List ℕ). length v) is ∙ length_join a.front b.front nodes ∙ nodes

pub merged_from : (a b c : View) (telling : Telling) → TellsNews a telling b → IsAbsorbed a telling c → IsMerged a b c
merged_from a b c telling all is =
    let nodes : length a.front ≡ length b.front = is.nodes ∙ ap (λ (v : List ℕ). length v) all.front in
    let front : c.front ≡ join_fronts a.front b.front = is.front ∙ ap (join_fronts a.front) all.front in record {
      nodes = nodes;
      front = front;
      purges = is.purges ∙ ap (join_fronts a.purges) all.purges;
      homes = is.homes;
      order = is.order;
      records = λ l low high. is.records l low high ∙ taken_told a b telling l all low (omega (arith, high, same_nodes a b c.front nodes front));
    }

pub absorbed_from : (a b c : View) (telling : Telling) → TellsNews a telling b → IsMerged a b c → IsAbsorbed a telling c
absorbed_from a b c telling all is = record {
  nodes = is.nodes ∙ sym (ap (λ (v : List ℕ). length v) all.front);
  front = is.front ∙ sym (ap (join_fronts a.front) all.front);
  purges = is.purges ∙ sym (ap (join_fronts a.purges) all.purges);
  homes = is.homes;
  order = is.order;
  records = λ l low high. is.records l low high ∙ sym (taken_told a b telling l all low (omega (arith, high, same_nodes a b c.front is.nodes is.front)));
}
