-- The nodes at which a pull is misdirected.
use Rattle.std.specs.Prelude.{IfSome, is_some, nat_le, nat_lt, not}
use Rattle.std.proofs.Common.{◌≡◌, ◌≢◌, ◌⊎◌, ◌∙◌, ℕ, ◌+◌, ◌≤◌, Bool, true, false, ◌&&◌, ◌||◌, ◌==◌, List, [], ◌∷◌, ◌++◌, length, codes, Option, Some, None, IsTrue, ap, arith, inl, inr, refl, sym}
use Rattle.std.specs.Fmt.{decimal}
use Rattle.std.specs.Str.{bytes_eq}
use Rattle.std.proofs.lemmas.Bool.{cases_eq, lt-ltb}
use Rattle.std.proofs.lemmas.Bool.Decides.{nat_tests}
use Rattle.std.proofs.lemmas.Fmt.{decimal_digit}
use Rattle.state_ids.specs.Ids.{IsNodeNumber}
use Rattle.wire_http.specs.declared.message.Request.{Request}
use Rattle.wire_pulls.specs.Texts.{pull_target}
use Rattle.wire_api.specs.Paths as paths
use Rattle.node_worker.specs.Addressees.{are_other, asks_other, group_in, is_misdirected, is_number, is_other_group, is_other_number, is_pull, names_other, number_in, past_asker, query_by}
use Rattle.node_worker.specs.Groups.{is_group_name}
use Rattle.node_worker.specs.declared.addressee.NodeName.{NodeName}

-- the digit of a number
abbrev digit : ℕ → ℕ
digit n = 48 + n

no_ampersand : (n : ℕ) → (digit n == 38) ≡ false
no_ampersand n = grind (arith, nat_tests)

is_a_number : (n : ℕ) → 1 ≤ n → n ≤ 8 → is_number (digit n ∷ []) ≡ true
is_a_number n some few =
    let low : nat_le 49 (digit n) ≡ true = grind (arith, nat_tests) in
    let high : nat_le (digit n) 57 ≡ true = grind (arith, nat_tests) in
    rw (low, high) refl

shifted : (n me : ℕ) → (digit n == digit me) ≡ (n == me)
shifted n me = settle (cases_eq n me)
  where
    settle : (n ≡ me) ⊎ (n ≢ me) → (digit n == digit me) ≡ (n == me)
    settle (inl is) =
        let one : (digit n == digit me) ≡ true = grind (arith, nat_tests) in
        let two : (n == me) ≡ true = grind (arith, nat_tests) in
        one ∙ sym two
    settle (inr not_) =
        let one : (digit n == digit me) ≡ false = grind (arith, nat_tests) in
        let two : (n == me) ≡ false = grind (arith, nat_tests) in
        one ∙ sym two

and_true : (b : Bool) → (b && true) ≡ b
and_true true = refl
and_true false = refl

same_digit : (n me : ℕ) → bytes_eq (digit n ∷ []) (digit me ∷ []) ≡ (n == me)
same_digit n me = and_true (digit n == digit me) ∙ shifted n me

-- the number of another node
pub other_number : (me read : ℕ) (number own : List ℕ) → read ≡ me → me ≤ 8 → own ≡ digit read ∷ [] → not (bytes_eq number own) ≡ is_other_number me number
other_number me read number own same few is =
    ap (λ (t : List ℕ). not (bytes_eq number t)) (is ∙ ap (λ (n : ℕ). digit n ∷ []) same ∙ sym (decimal_digit me (omega (arith, few))))

numbered : (n : ℕ) → 1 ≤ n → n ≤ 8 → number_in (codes "to=" ++ digit n ∷ []) ≡ Some (digit n ∷ [])
numbered n some few = let is = is_a_number n some few in rw is refl

grouped : (name : List ℕ) → IsTrue (is_group_name name) → group_in (codes "group=" ++ name) ≡ Some name
grouped name is = rw is refl

alone : (node : NodeName) (n : ℕ) → names_other node (codes "to=" ++ digit n ∷ []) ≡ are_other node (number_in (codes "to=" ++ digit n ∷ [])) None
alone node n = let no_amp = no_ampersand n in rw no_amp refl

both : (node : NodeName) (n : ℕ) (name : List ℕ)
    → names_other node (codes "to=" ++ (digit n ∷ (codes "&group=" ++ name))) ≡ are_other node (number_in (codes "to=" ++ digit n ∷ [])) (group_in (codes "group=" ++ name))
both node n name =
    let no_amp = no_ampersand n in
    let size : ℕ = length (codes "to=" ++ (digit n ∷ (codes "&group=" ++ name))) in
    let long : nat_lt 4 size ≡ true = lt-ltb 4 size (omega arith) in
    rw (no_amp, long) refl

-- which query names another node
asks_alone : (node : NodeName) (to : ℕ) → node.me ≤ 8 → 1 ≤ to → to ≤ 8 → names_other node (codes "to=" ++ decimal to) ≡ (not (to == node.me) || is_other_group node.group None)
asks_alone node to me some few =
    let own : decimal node.me ≡ digit node.me ∷ [] = decimal_digit node.me (omega (arith, me)) in
    let text : decimal to ≡ digit to ∷ [] = decimal_digit to (omega (arith, few)) in
    ap (λ (t : List ℕ). names_other node (codes "to=" ++ t)) text
    ∙ alone node to
    ∙ ap (λ (o : Option (List ℕ)). are_other node o None) (numbered to some few)
    ∙ ap (λ (t : List ℕ). not (bytes_eq (digit to ∷ []) t) || is_other_group node.group None) own
    ∙ ap (λ (b : Bool). not b || is_other_group node.group None) (same_digit to node.me)

asks_both : (node : NodeName) (to : ℕ) (name : List ℕ) → node.me ≤ 8 → 1 ≤ to → to ≤ 8 → IsTrue (is_group_name name)
    → names_other node (codes "to=" ++ (decimal to ++ (codes "&group=" ++ name))) ≡ (not (to == node.me) || is_other_group node.group (Some name))
asks_both node to name me some few is =
    let own : decimal node.me ≡ digit node.me ∷ [] = decimal_digit node.me (omega (arith, me)) in
    let text : decimal to ≡ digit to ∷ [] = decimal_digit to (omega (arith, few)) in
    ap (λ (t : List ℕ). names_other node (codes "to=" ++ (t ++ (codes "&group=" ++ name)))) text
    ∙ both node to name
    ∙ ap (λ (o : Option (List ℕ)). are_other node o (group_in (codes "group=" ++ name))) (numbered to some few)
    ∙ ap (are_other node (Some (digit to ∷ []))) (grouped name is)
    ∙ ap (λ (t : List ℕ). not (bytes_eq (digit to ∷ []) t) || is_other_group node.group (Some name)) own
    ∙ ap (λ (b : Bool). not b || is_other_group node.group (Some name)) (same_digit to node.me)

query_behind : (rest : List ℕ) → paths.query_of (codes "/peer/pull?" ++ rest) ≡ Some rest
query_behind rest =
    let size : ℕ = length (codes "/peer/pull?" ++ rest) in
    let long : nat_lt 10 size ≡ true = lt-ltb 10 size (omega arith) in
    rw long refl

-- what comes before the number of the asking node: its pull waits, or it doesn't
abbrev key_of : Bool → List ℕ
key_of true = codes "wait="
key_of false = codes "from="

behind : (waits : Bool) (from : ℕ) (rest : List ℕ) → past_asker (key_of waits ++ (digit from ∷ (codes "&" ++ rest))) ≡ rest
behind true from rest =
    let no_amp = no_ampersand from in
    let size : ℕ = length (codes "wait=" ++ (digit from ∷ (codes "&" ++ rest))) in
    let long : nat_lt 6 size ≡ true = lt-ltb 6 size (omega arith) in
    rw (no_amp, long) refl
behind false from rest =
    let no_amp = no_ampersand from in
    let size : ℕ = length (codes "from=" ++ (digit from ∷ (codes "&" ++ rest))) in
    let long : nat_lt 6 size ≡ true = lt-ltb 6 size (omega arith) in
    rw (no_amp, long) refl

asks_behind : (waits : Bool) (node : NodeName) (from : ℕ) (rest : List ℕ) → from ≤ 8
    → asks_other node (paths.query_of (codes "/peer/pull?" ++ (key_of waits ++ (decimal from ++ (codes "&" ++ rest))))) ≡ names_other node rest
asks_behind waits node from rest few =
    let text : decimal from ≡ digit from ∷ [] = decimal_digit from (omega (arith, few)) in
    ap (λ (t : List ℕ). asks_other node (paths.query_of (codes "/peer/pull?" ++ (key_of waits ++ (t ++ (codes "&" ++ rest)))))) text
    ∙ ap (asks_other node) (query_behind (key_of waits ++ (digit from ∷ (codes "&" ++ rest))))
    ∙ ap (names_other node) (behind waits from rest)

asks : (waits : Bool) (node : NodeName) (from to : ℕ) (group : Option (List ℕ)) → IsNodeNumber node.me → IsNodeNumber from → IsNodeNumber to → IfSome group (λ name. IsTrue (is_group_name name))
    → asks_other node (paths.query_of (pull_target (query_by waits from to group))) ≡ (not (to == node.me) || is_other_group node.group group)
asks true node from to None me asker number names =
    asks_behind true node from (codes "to=" ++ decimal to) asker.1 ∙ asks_alone node to me.1 number.0 number.1
asks false node from to None me asker number names =
    asks_behind false node from (codes "to=" ++ decimal to) asker.1 ∙ asks_alone node to me.1 number.0 number.1
asks true node from to (Some name) me asker number names =
    asks_behind true node from (codes "to=" ++ (decimal to ++ (codes "&group=" ++ name))) asker.1 ∙ asks_both node to name me.1 number.0 number.1 names
asks false node from to (Some name) me asker number names =
    asks_behind false node from (codes "to=" ++ (decimal to ++ (codes "&group=" ++ name))) asker.1 ∙ asks_both node to name me.1 number.0 number.1 names

-- Requests

-- with the method and the path of a pull
abbrev pull_with : (target : List ℕ) → Request → Request
pull_with target request = record { method = codes "POST"; target = target; fields = request.fields; body = request.body }

pulls : (node : NodeName) (waits : Bool) (from to : ℕ) (group : Option (List ℕ)) (request : Request)
    → is_misdirected node (pull_with (pull_target (query_by waits from to group)) request) ≡ asks_other node (paths.query_of (pull_target (query_by waits from to group)))
pulls node true from to None request = refl
pulls node false from to None request = refl
pulls node true from to (Some name) request = refl
pulls node false from to (Some name) request = refl

pub misdirected : (node : NodeName) (waits : Bool) (from to : ℕ) (group : Option (List ℕ)) (request : Request) → IsNodeNumber node.me → IsNodeNumber from → IsNodeNumber to → IfSome group (λ name. IsTrue (is_group_name name))
    → request.method ≡ codes "POST" → request.target ≡ pull_target (query_by waits from to group)
    → is_misdirected node request ≡ (not (to == node.me) || is_other_group node.group group)
misdirected node waits from to group request me asker number names method target =
    ap (λ (m : List ℕ). is_misdirected node (record { method = m; target = request.target; fields = request.fields; body = request.body })) method
    ∙ ap (λ (t : List ℕ). is_misdirected node (pull_with t request)) target
    ∙ pulls node waits from to group request
    ∙ asks waits node from to group me asker number names

-- a pull that doesn't say which node it is meant for
pub unnamed : (node : NodeName) (request : Request) → is_pull request ≡ true → paths.query_of request.target ≡ None → is_misdirected node request ≡ is_some node.group
unnamed node request pull none = found (is_pull request) (paths.query_of request.target) pull none
  where
    found : (is_pull : Bool) (query : Option (List ℕ)) → is_pull ≡ true → query ≡ None → (is_pull && asks_other node query) ≡ is_some node.group
    found true None e f = refl
    found true (Some query) e f = absurd cc
    found false query e f = absurd cc
