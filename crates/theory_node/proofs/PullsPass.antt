-- What other nodes' pulls say, and what they send, passes.
use Rattle.std.proofs.Common.{◌⊎◌, inl, inr, ◌≡◌, ◌-◌, ◌∙◌, ℕ, Bool, true, false, List, Option, None, Some, ap, arith, if◌then◌else◌, length, refl, subst, sym}
use Rattle.std.specs.Prelude.{◌==◌, ◌&&◌, MatchBool, MatchOption, Result, Ok, Err, is_some, max, nat_le, nat_lt, not}
use Rattle.std.specs.declared.time.Duration.{Duration}
use Rattle.std.proofs.lemmas.Bool.{and_parts, eqb-true, or_left}
use Rattle.std.proofs.lemmas.List.{length-set}
use Rattle.state_ids.specs.Fronts.{count}
use Rattle.state_ids.specs.declared.TheConstants.{LAST_NUMBER}
use Rattle.theory_history.proofs.JoinedFronts.{length_join}
use Rattle.wire_callbacks.specs.declared.duty.Duty.{Duty}
use Rattle.node_inbox.specs.Tellings.{Told}
use Rattle.node_replication.specs.Followers.{Followed, counts, hearing, wants_any, with_spread}
use Rattle.node_replication.specs.Spreads.{counted, heard as spread_heard}
use Rattle.node_replication.specs.declared.standing.PullDecision.{PullDecision}
use Rattle.node_replication.specs.declared.standing.PullDecision.TheVariants.{Later, Serve}
use Rattle.node_agenda.specs.Asks.{asked_by as counted_by}
use Rattle.node_agenda.specs.Backlogs.{after_put, ended_of}
use Rattle.node_agenda.specs.Hearing.{IsPutIn}
use Rattle.node_agenda.specs.Mail.{Mail, with_backlog, with_end_of as mail_after, with_opening}
use Rattle.node_agenda.specs.Starts.{claimed_by, count_at, heard_by, heard_now}
use Rattle.node_agenda.specs.declared.start_state.StartState.{StartState}
use Rattle.node_core.specs.Doubts.{IsBarred}
use Rattle.node_core.specs.Nodes.{as_stored, with_count, with_mail}
use Rattle.node_core.specs.Peers.{asked_by as alive}
use Rattle.node_core.specs.Pulls.{IsHeard, IsJudged, IsPutBy, IsReceived, IsWeighed, after_told, after_verdict, as_news, asked_by, casts_doubt, heard_asking, heard_of, in_doubt, is_claim, is_newer_than, meaning, owes, refused_as, taken_back, with_end_of}
use Rattle.node_core.specs.declared.node_state.NodeState.{NodeState}
use Rattle.node_core.specs.declared.pulling.AskedPull.{AskedPull}
use Rattle.node_core.specs.declared.pulling.Receipt.{Receipt}
use Rattle.node_core.specs.declared.pulling.Receipt.TheVariants.{Newer}
use Rattle.theory_node.specs.Steps.{IsCast}
use Rattle.theory_node.proofs.CallsPass.{learns}
use Rattle.theory_node.proofs.Passing.{MailSame, Passes, StepPasses, step_then, without_doubt, and_then, mail_moved, mail_passes, moved, opening_passes, same, untouched}

-- ---- a pull
-- what another claims bars no less
claimed_me : (b : Bool) (o p : StartState) → p.me ≡ o.me → (if b then o else p).me ≡ o.me
claimed_me true o p is = refl
claimed_me false o p is = is

claimed_long : (b : Bool) (o p : StartState) → p.awaited ≡ o.awaited → length (if b then o else p).awaited ≡ length o.awaited
claimed_long true o p is = refl
claimed_long false o p is = ap (λ (v : List ℕ). length v) is

claimed_barred : (b : Bool) (o p : StartState) → IsBarred o → IsBarred p → IsBarred (if b then o else p)
claimed_barred true o p x y = x
claimed_barred false o p x y = y

claims : (other more : ℕ) (old new : NodeState) → new.mail.opening ≡ claimed_by other more old.mail.opening → new.mail.known.front ≡ old.mail.known.front
    → new.followers.is_doubted ≡ old.followers.is_doubted → Passes old new
claims other more old new is known doubted =
    let o : StartState = old.mail.opening in
    let p : StartState = record o { claimed = count_at other (max (count o.claimed other) more) o.claimed } in
    opening_passes old new known doubted (ap (λ (x : StartState). x.me) is ∙ claimed_me o.is_open o p refl)
    (ap (λ (x : StartState). length x.awaited) is ∙ claimed_long o.is_open o p refl)
    (λ barred few. subst (λ (x : StartState). IsBarred x) (sym is) (claimed_barred o.is_open o p barred barred))

claims_if : (b : Bool) (other more : ℕ) (n m : NodeState) → m.mail.opening ≡ claimed_by other more n.mail.opening → m.mail.known.front ≡ n.mail.known.front
    → m.followers.is_doubted ≡ n.followers.is_doubted → Passes n (if b then m else n)
claims_if true other more n m is known doubted = claims other more n m is known doubted
claims_if false other more n m is known doubted = same n

hears_same : (b : Bool) (f g : Followed (List Duty)) → f.is_doubted ≡ g.is_doubted → (if b then f else g).is_doubted ≡ g.is_doubted
hears_same true f g is = is
hears_same false f g is = refl

-- what is known of the asker, before it is looked at what it claims
abbrev asker_heard : AskedPull → Duration → NodeState → NodeState
asker_heard pull now n = record n {
  peers = alive pull.from pull.waits n.peers;
  followers = hearing pull.from (count pull.front n.me) (count n.mail.known.front n.me) (not n.mail.opening.is_open) now n.followers;
  asks = counted_by pull.from (count pull.front pull.from) n.asks;
}

hears_asker : (pull : AskedPull) (now : Duration) (n : NodeState) → Passes n (asker_heard pull now n)
hears_asker pull now n =
    let ours : ℕ = count n.mail.known.front n.me in
    let theirs : ℕ = count pull.front n.me in
    untouched n (asker_heard pull now n) (record {
      opening = refl;
      known = refl;
      doubted =
          hears_same (counts theirs ours (not n.mail.opening.is_open))
          (with_spread (spread_heard pull.from theirs now (counted ours n.followers.spread)) n.followers) n.followers refl;
    })

asks_of : (pull : AskedPull) (now : Duration) (n : NodeState) → Passes n (heard_asking pull now n)
asks_of pull now n =
    let m : NodeState = asker_heard pull now n in
    let more : ℕ = count pull.front m.me in
    and_then n m (heard_asking pull now n) (hears_asker pull now n)
    (claims_if (is_claim more (count m.mail.known.front m.me)) pull.from more m (with_mail (with_opening (claimed_by pull.from more m.mail.opening) m.mail) m) refl refl refl)

asks_if : (is_held : Bool) (n m : NodeState) → Passes n m → Passes n (if is_held then n else m)
asks_if true n m passes = same n
asks_if false n m passes = passes

judges : (owed waits : Bool) (A B : Type 0) (pull : AskedPull) (now : Duration) (old new : NodeState) (decision : PullDecision)
    → MatchBool owed (A × (new ≡ old)) (MatchBool waits (IsWeighed pull now old new decision) (B × (new ≡ old))) → Passes old new
judges true waits A B pull now old new decision is = moved old old new is.1 (same old)
judges false true A B pull now old new decision is =
    moved old (after_verdict pull is.lacks now old) new is.paced (untouched old (after_verdict pull is.lacks now old) (record { opening = refl; known = refl; doubted = refl }))
judges false false A B pull now old new decision is = moved old old new is.1 (same old)

pub hearing_a_pull : (pull : AskedPull) (now : Duration) (old new : NodeState) (decision : PullDecision) → IsJudged pull now (asked_by pull now old) new decision → Passes old new
hearing_a_pull pull now old new decision is =
    let asked : NodeState = asked_by pull now old in
    and_then old asked new (asks_if (is_some pull.since) old (heard_asking pull now old) (asks_of pull now old))
    (judges (owes pull asked) pull.waits (decision ≡ Later) (decision ≡ Serve) pull now asked new decision is)

-- ---- a telling
-- who is barred stays so, whatever others send
abbrev pub HeardStays : Type 0
HeardStays = (other : ℕ) → (told known : List ℕ) → (o : StartState) → IsBarred o → IsBarred (heard_by other told known o)

heard_me : (other : ℕ) (told known : List ℕ) (o : StartState) (here : Bool) → (if here then heard_now other told known o else o).me ≡ o.me
heard_me other told known o true = refl
heard_me other told known o false = refl

heard_long : (other : ℕ) (told known : List ℕ) (o : StartState) (here : Bool) → (length told == length o.awaited) ≡ here
    → length (if here then heard_now other told known o else o).awaited ≡ length o.awaited
heard_long other told known o true is = length_join o.awaited told (sym (eqb-true (length told) (length o.awaited) is))
heard_long other told known o false is = refl

hears_of : HeardStays → (told : Told) (n : NodeState) → Passes n (heard_of told n)
hears_of heard told n =
    let o : StartState = n.mail.opening in
    let here : Bool = length told.frame.front == length o.awaited in
    opening_passes n (heard_of told n) refl refl (heard_me told.from told.frame.front n.mail.known.front o here)
    (heard_long told.from told.frame.front n.mail.known.front o here refl) (λ barred few. heard told.from told.frame.front n.mail.known.front o barred)

at_long : (node number : ℕ) (v : List ℕ) (here : Bool) → nat_le node (length v) ≡ here → length (count_at node number v) ≡ length v
at_long node number v true is = rw is (length-set v (node - 1) number)
at_long node number v false is = rw is refl

-- a telling casts no doubt on a node whose opening is closed
shut : (wants entered newer : Bool) → ((wants && entered) && (newer && false)) ≡ true → ⊥
shut true true true casts = absurd cc
shut true true false casts = absurd cc
shut true false newer casts = absurd cc
shut false entered newer casts = absurd cc

shut_by : (wants entered newer opens : Bool) → opens ≡ false → ((wants && entered) && (newer && opens)) ≡ true → ⊥
shut_by wants entered newer opens is casts =
    shut wants entered newer (subst (λ (b : Bool). ((wants && entered) && (newer && b)) ≡ true) is casts)

doubts : (told : Told) (n : NodeState) → casts_doubt told n ≡ true → StepPasses (casts_doubt told n ≡ true) n (in_doubt (heard_of told n))
doubts told n casts =
    let o : StartState = n.mail.opening in
    let h : StartState = heard_by told.from told.frame.front n.mail.known.front o in
    let here : Bool = length told.frame.front == length o.awaited in
    record {
      keeps = record {
        me = heard_me told.from told.frame.front n.mail.known.front o here;
        long =
            at_long h.me (max (count h.awaited h.me) LAST_NUMBER) h.awaited (nat_le h.me (length h.awaited)) refl
            ∙ heard_long told.from told.frame.front n.mail.known.front o here refl;
        sizes = refl;
        known = λ node. omega arith;
        barred = λ barred few. absurd (shut_by (wants_any n.followers) n.has_entered (is_newer_than told n) o.is_open barred.0 casts);
      };
      doubted = λ doubted. or_left n.followers.is_doubted (wants_any n.followers) doubted;
      cause = λ doubted. inr casts;
    }

tells_if : HeardStays → (told : Told) (n : NodeState) (casts : Bool) → casts_doubt told n ≡ casts
    → StepPasses (casts_doubt told n ≡ true) n (if casts then in_doubt (heard_of told n) else heard_of told n)
tells_if heard told n true is = doubts told n is
tells_if heard told n false is = without_doubt (casts_doubt told n ≡ true) n (heard_of told n) (hears_of heard told n)

pub put_same : (told : Told) (old new : Mail) (put : Result (Option Told) Told) → IsPutIn told old new put → MailSame old new
put_same told old new (Ok left) is = mail_moved old (with_backlog (after_put told old.backlog) old) new is.2 (refl, refl)
put_same told old new (Err back) is = mail_moved old old new is.2 (refl, refl)

puts : (told : Told) (old new : NodeState) (is_new : Bool) (left : Option Told) → IsPutBy told old new is_new left → Passes old new
puts told old new is_new left is =
    moved old (with_mail new.mail old) new is.rest (mail_passes old (with_mail new.mail old) (put_same told old.mail new.mail is.put is.is) refl)

-- what casts doubt has more facts of the node, and says so
newer_of : (told : Told) (n : NodeState) → casts_doubt told n ≡ true → is_newer_than told n ≡ true
newer_of told n casts =
    (and_parts (is_newer_than told n) n.mail.opening.is_open
    (and_parts (wants_any n.followers && n.has_entered) (is_newer_than told n && n.mail.opening.is_open) casts).1).0

means_newer : (is_newer is_older is_new : Bool) (ended : ℕ) → is_newer ≡ true → meaning is_newer is_older is_new ended ≡ Newer
means_newer true is_older is_new ended is = refl
means_newer false is_older is_new ended is = absurd cc

heard_casts : (asked : List ℕ) (told : Told) (old new : NodeState) (receipt : Receipt) (left : Option Told) → IsHeard asked told old new receipt left → casts_doubt told old ≡ true
    → receipt ≡ Newer
heard_casts asked told old new receipt left is casts =
    is.means
    ∙ means_newer (is_newer_than told old) (nat_lt (count told.frame.front told.from) (count asked told.from)) is.is_new (ended_of told.from old.mail.backlog)
    (newer_of told old casts)

abbrev Casts : Told → (old : NodeState) → Receipt → Type 0
Casts told old receipt = (casts_doubt told old ≡ true) × (receipt ≡ Newer)

for_newer : (told : Told) (old new : NodeState) (receipt : Receipt) → (casts_doubt told old ≡ true → receipt ≡ Newer) → StepPasses (casts_doubt told old ≡ true) old new
    → StepPasses (Casts told old receipt) old new
for_newer told old new receipt newer passes = record { keeps = passes.keeps; doubted = passes.doubted; cause = λ doubted. by (passes.cause doubted) }
  where
    by : (old.followers.is_doubted ≡ true) ⊎ (casts_doubt told old ≡ true) → (old.followers.is_doubted ≡ true) ⊎ Casts told old receipt
    by (inl before) = inl before
    by (inr casts) = inr (casts, newer casts)

receives : HeardStays → (refusal : Option Receipt) (asked : List ℕ) (told : Told) (old new : NodeState) (receipt : Receipt) (left : Option Told)
    → MatchOption refusal (IsHeard asked told old new receipt left) (λ (refused : Receipt). (receipt ≡ refused) × (left ≡ Some told) × (new ≡ old))
    → StepPasses (Casts told old receipt) old new
receives heard None asked told old new receipt left is =
    for_newer told old new receipt (heard_casts asked told old new receipt left is)
    (step_then (casts_doubt told old ≡ true) old (after_told told old) new (tells_if heard told old (casts_doubt told old) refl)
    (puts told (after_told told old) new is.is_new left is.put))
receives heard (Some refused) asked told old new receipt left is = without_doubt (Casts told old receipt) old new (moved old old new is.2 (same old))

pub receiving : HeardStays → (asked : List ℕ) (seen : ℕ) (told : Told) (old new : NodeState) (receipt : Receipt) (left : Option Told)
    → IsReceived asked seen told old new receipt left → StepPasses (IsCast old new) old new
receiving heard asked seen told old new receipt left is =
    let passes : StepPasses (Casts told old receipt) old new = receives heard (refused_as asked seen told old) asked told old new receipt left is in
    record { keeps = passes.keeps; doubted = passes.doubted; cause = λ doubted. by (passes.cause doubted) }
  where
    by : (old.followers.is_doubted ≡ true) ⊎ Casts told old receipt → (old.followers.is_doubted ≡ true) ⊎ IsCast old new
    by (inl before) = inl before
    by (inr casts) =
        inr (record {
          asked = asked;
          seen = seen;
          told = told;
          left = left;
          casts = casts.0;
          received = subst (λ (r : Receipt). IsReceived asked seen told old new r left) casts.1 is;
        })

-- ---- the end of a telling
learns_if : (is_taken : Bool) (front : List ℕ) (n : NodeState) → Passes n (with_mail (mail_after is_taken front n.mail) n)
learns_if true front n = learns front n (with_mail (mail_after true front n.mail) n) refl refl refl
learns_if false front n = mail_passes n (with_mail (mail_after false front n.mail) n) (refl, refl) refl

takes_back : (wants : Bool) (own : ℕ) (n : NodeState) → Passes n (if wants then as_news (as_stored (with_count own n)) else with_count own n)
takes_back true own n = untouched n (as_news (as_stored (with_count own n))) (record { opening = refl; known = refl; doubted = refl })
takes_back false own n = untouched n (with_count own n) (record { opening = refl; known = refl; doubted = refl })

ends_if : (has_more : Bool) (n m : NodeState) → Passes n m → Passes n (if has_more then m else n)
ends_if true n m passes = passes
ends_if false n m passes = same n

pub ending_a_telling : (is_taken : Bool) (front : List ℕ) (known : ℕ) (n : NodeState) → Passes n (with_end_of is_taken front known n)
ending_a_telling is_taken front known n =
    let m : NodeState = with_mail (mail_after is_taken front n.mail) n in
    and_then n m (with_end_of is_taken front known n) (learns_if is_taken front n)
    (ends_if (is_taken && nat_lt known (count front n.me)) m (taken_back (count front n.me) m) (takes_back (wants_any n.followers) (count front n.me) m))
