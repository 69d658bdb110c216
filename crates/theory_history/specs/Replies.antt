-- A node's reply to a command, over the set of facts that it holds and the front that counts them:
-- the first refusal, that the command is already known, or the reply to the fact that is entered.
use Rattle.std.specs.Prelude.{◌+◌, ◌||◌, ℕ, Bool, false, Option, Some, None, List, [], ◌∷◌, is_none, nat_lt, ◌≡◌, ◌++◌, true, Result, Ok, Err}
use Rattle.std.specs.Option.{option_map_or}
use Rattle.state_ids.specs.Ids.{Id}
use Rattle.state_ids.specs.Fronts.{count}
use Rattle.state_ids.specs.declared.outcome.Act.{Act}
use Rattle.state_ids.specs.declared.outcome.Outcome.{Outcome}
use Rattle.state_ids.specs.declared.outcome.Verdict.{Verdict}
use Rattle.state_ids.specs.declared.status.LraStatus.{LraStatus}
use Rattle.state_ids.specs.declared.status.MemberStatus.{MemberStatus}
use Rattle.state_facts.specs.declared.fact.Body.{Body}
use Rattle.state_facts.specs.declared.fact.Body.TheVariants.{Begin, Join, Leave, Decide, Report, Forgot, Told, Purge}
use Rattle.state_facts.specs.declared.fact.Fact.{Fact}
use Rattle.state_facts.specs.declared.refusal.Refusal.{Refusal}
use Rattle.state_facts.specs.declared.refusal.Refusal.TheVariants.{DepthFull, LrasFull, MembersFull, NotActive, NotDue, NotEnded, NotHeld, NotRoot, StillToForget, StillToTell, UnknownMember}
use Rattle.state_facts.specs.Duties.{has_forgot, has_told, is_after_duty, is_forget_duty, is_untold}
use Rattle.state_facts.specs.Refusals.{unless, first, unknown, away, spent}
use Rattle.state_facts.specs.Sets.{begun_by, depth, held_at, is_demanded, is_ended, is_heard, is_held, is_participant, is_root, member_status, numbers_given, shows_now, want}
use Rattle.state_forest.specs.declared.forest.TheConstants.{MAX_DEPTH}
use Rattle.state_forest.specs.declared.record.TheConstants.{MAX_MEMBERS}
use Rattle.state_forest.specs.declared.shape.TheConstants.{MAX_HELD}
use Rattle.state_forest.specs.declared.duties.Due.{Due}
use Rattle.state_forest.specs.Dues.{least_due}
use Rattle.state_facts.specs.declared.command.Command.{Command}
use Rattle.state_facts.specs.declared.command.Command.TheVariants.{Begin as BeginAsked, Join as JoinAsked, Leave as LeaveAsked, Decide as DecideAsked, Report as ReportAsked, Forgot as ForgotAsked, Told as ToldAsked, Purge as PurgeAsked}
use Rattle.state_facts.specs.declared.command.CommandReply.{CommandReply}
use Rattle.state_facts.specs.declared.command.CommandReply.TheVariants.{Began, Joined, Left as LeftReply, Decided, Reported, Forgotten, Told as ToldReply, Purged, Known, Refused}

-- Readings

-- what is known of LRAs and their participants (there is one definition over two readings, by a set
-- or by a view, which keeps one order of refusals: code meets it over the view almost without an
-- answer, and one law ties the two)
pub record Reading : Type 0 where
  pub held : Id → Bool
  pub want : Id → Option Verdict
  pub shows : Id → LraStatus
  pub member : Id → ℕ → Option MemberStatus
  pub depth : Id → ℕ
  pub numbers : Id → ℕ
  pub held_at : ℕ → ℕ
  pub participant : Id → ℕ → Bool
  pub demanded : Id → ℕ → Act → Bool
  pub heard : Id → ℕ → Act → Outcome → Bool
  pub root : Id → Bool
  pub ended : Id → Bool
  pub owed : Id → ℕ → Bool
  pub forgot : Id → ℕ → Bool
  pub least_owed : Id → Option Due
  pub to_hear : Id → ℕ → Bool
  pub told : Id → ℕ → Bool
  pub least_untold : Id → Option Due

-- what a set of facts says
abbrev pub by_facts : List Fact → Reading
by_facts S =
    record {
      held = is_held S;
      want = want S;
      shows = shows_now S;
      member = member_status S;
      depth = depth S;
      numbers = numbers_given S;
      held_at = held_at S;
      participant = is_participant S;
      demanded = is_demanded S;
      heard = is_heard S;
      root = is_root S;
      ended = is_ended S;
      owed = is_forget_duty S;
      forgot = has_forgot S;
      least_owed = least_due is_forget_duty S S;
      to_hear = is_after_duty S;
      told = has_told S;
      least_untold = least_due is_untold S S;
    }

-- Refusals

-- the LRA is not held
abbrev pub gone_by : Reading → Id → Option Refusal
gone_by t l = unless (t.held l) NotHeld

-- no participant joined with this number, or it left
abbrev pub stranger_by : Reading → Id → ℕ → Option Refusal
stranger_by t l m = unless (t.participant l m) UnknownMember

-- the LRA already wants something
abbrev pub inactive_by : Reading → Id → Option Refusal
inactive_by t l = unless (is_none (t.want l)) (NotActive (t.shows l))

-- what the LRA wants does not demand this act of the participant
abbrev pub unasked_by : Reading → Id → ℕ → Act → Option Refusal
unasked_by t l m act = unless (t.demanded l m act) (NotDue (t.shows l))

-- the LRA has given its last member number
abbrev pub full_by : Reading → Id → Option Refusal
full_by t l = unless (nat_lt (t.numbers l) MAX_MEMBERS) MembersFull

-- the LRA is so deep that nothing may be nested in it
abbrev pub deep_by : Reading → Id → Option Refusal
deep_by t l = unless (nat_lt (t.depth l) MAX_DEPTH) DepthFull

-- the node holds as many LRAs of its own as it may
abbrev pub crowded_by : Reading → ℕ → Option Refusal
crowded_by t node = unless (nat_lt (t.held_at node) MAX_HELD) LrasFull

-- the participant is not to be told to forget, and was not told
abbrev pub unowed_by : Reading → Id → ℕ → Option Refusal
unowed_by t l m = unless (t.owed l m || t.forgot l m) (NotDue (t.shows l))

-- the participant is not to be told that its LRA has ended, and was not told
abbrev pub early_by : Reading → Id → ℕ → Option Refusal
early_by t l m = unless (t.to_hear l m || t.told l m) (NotDue (t.shows l))

-- the LRA is nested in another
abbrev pub nested_by : Reading → Id → Option Refusal
nested_by t l = unless (t.root l) NotRoot

-- the LRA is not ended
abbrev pub running_by : Reading → Id → Option Refusal
running_by t l = unless (t.ended l) (NotEnded (t.shows l))

-- a participant under the LRA must still be told to forget; the least of these is named
abbrev pub unforgotten_by : Reading → Id → Option Refusal
unforgotten_by t l = option_map_or (λ due. Some (StillToForget due.lra due.member)) (t.least_owed l) None

-- a participant under the LRA has a link for the end of its LRA, and was not told of the end; the
-- least of these is named
abbrev pub untold_by : Reading → Id → Option Refusal
untold_by t l = option_map_or (λ due. Some (StillToTell due.lra due.member)) (t.least_untold l) None

-- the refusals that a command may meet at a node, in their order, except for the one of spent
-- numbers
abbrev pub refusal_by : Reading → List ℕ → ℕ → Command → Option Refusal
refusal_by t v node (BeginAsked None deadline) = first (crowded_by t node ∷ [])
refusal_by t v node (BeginAsked (Some p) deadline) =
    first (unknown v p ∷ gone_by t p ∷ away node p ∷ inactive_by t p ∷ full_by t p ∷ deep_by t p ∷ crowded_by t node ∷ [])
refusal_by t v node (JoinAsked l links) = first (unknown v l ∷ gone_by t l ∷ away node l ∷ inactive_by t l ∷ full_by t l ∷ [])
refusal_by t v node (LeaveAsked l m) = first (unknown v l ∷ gone_by t l ∷ away node l ∷ stranger_by t l m ∷ inactive_by t l ∷ [])
refusal_by t v node (DecideAsked l verdict) = first (unknown v l ∷ gone_by t l ∷ away node l ∷ inactive_by t l ∷ [])
refusal_by t v node (ReportAsked l m act outcome) = first (unknown v l ∷ gone_by t l ∷ stranger_by t l m ∷ unasked_by t l m act ∷ [])
refusal_by t v node (ForgotAsked l m) = first (unknown v l ∷ gone_by t l ∷ stranger_by t l m ∷ unowed_by t l m ∷ [])
refusal_by t v node (ToldAsked l m) = first (unknown v l ∷ gone_by t l ∷ stranger_by t l m ∷ early_by t l m ∷ [])
refusal_by t v node (PurgeAsked l) =
    first (unknown v l ∷ gone_by t l ∷ away node l ∷ nested_by t l ∷ running_by t l ∷ unforgotten_by t l ∷ untold_by t l ∷ [])

-- the command brings nothing new
abbrev pub is_known_by : Reading → Command → Bool
is_known_by t (ReportAsked l m act outcome) = t.heard l m act outcome
is_known_by t (ForgotAsked l m) = t.forgot l m
is_known_by t (ToldAsked l m) = t.told l m
is_known_by t _ = false

-- The fact

-- the body that is entered for a command, where a participant joins with the next member number
abbrev pub body_by : Reading → Command → Body
body_by t (BeginAsked parent deadline) = Begin parent deadline
body_by t (JoinAsked l links) = Join l (t.numbers l + 1) links
body_by t (LeaveAsked l m) = Leave l m
body_by t (DecideAsked l verdict) = Decide l verdict
body_by t (ReportAsked l m act outcome) = Report l m act outcome
body_by t (ForgotAsked l m) = Forgot l m
body_by t (ToldAsked l m) = Told l m
body_by t (PurgeAsked l) = Purge l

-- that body as the node's next fact
abbrev pub fact_by : Reading → List ℕ → ℕ → Command → Fact
fact_by t v node c = record { origin = node; num = count v node + 1; body = body_by t c }

-- the reply to a command that is entered, by the readings before its fact and with it
abbrev pub accepted_by : (before after : Reading) → List ℕ → ℕ → Command → CommandReply
accepted_by t u v node (BeginAsked parent deadline) =
    Began (begun_by (fact_by t v node (BeginAsked parent deadline))) (option_map_or (λ p. t.numbers p + 1) parent 0)
accepted_by t u v node (JoinAsked l links) = Joined l (t.numbers l + 1)
accepted_by t u v node (LeaveAsked l m) = LeftReply
accepted_by t u v node (DecideAsked l verdict) = Decided l (u.shows l)
accepted_by t u v node (ReportAsked l m act outcome) = Reported
accepted_by t u v node (ForgotAsked l m) = Forgotten
accepted_by t u v node (ToldAsked l m) = ToldReply
accepted_by t u v node (PurgeAsked l) = Purged

-- By a set of facts

abbrev pub refusal_of : List Fact → List ℕ → ℕ → Command → Option Refusal
refusal_of S v node c = refusal_by (by_facts S) v node c

abbrev pub is_known : List Fact → Command → Bool
is_known S c = is_known_by (by_facts S) c

abbrev pub body_for : List Fact → Command → Body
body_for S c = body_by (by_facts S) c

abbrev pub next_fact : List Fact → List ℕ → ℕ → Command → Fact
next_fact S v node c = fact_by (by_facts S) v node c

-- the set with that fact
abbrev pub entered : List Fact → List ℕ → ℕ → Command → List Fact
entered S v node c = S ++ next_fact S v node c ∷ []

abbrev pub accepted : List Fact → List ℕ → ℕ → Command → CommandReply
accepted S v node c = accepted_by (by_facts S) (by_facts (entered S v node c)) v node c

-- a command is refused, already known, or accepted
pub data Judgement : Type 0 where
  Denied : Refusal → Judgement
  AlreadyKnown : Judgement
  Accepted : Judgement

-- decided by the first refusal, by whether the command is known, and by whether numbers are left,
-- in this order
abbrev pub judged : Option Refusal → Bool → Option Refusal → Judgement
judged (Some r) known limit = Denied r
judged None true limit = AlreadyKnown
judged None false (Some r) = Denied r
judged None false None = Accepted

abbrev pub judge_by : Reading → List ℕ → ℕ → Command → Judgement
judge_by t v node c = judged (refusal_by t v node c) (is_known_by t c) (spent v node)

abbrev pub judge : List Fact → List ℕ → ℕ → Command → Judgement
judge S v node c = judge_by (by_facts S) v node c

abbrev pub reply_by : Judgement → CommandReply → CommandReply
reply_by (Denied r) reply = Refused r
reply_by AlreadyKnown reply = Known
reply_by Accepted reply = reply

-- a node's reply to a command
abbrev pub reply_of : List Fact → List ℕ → ℕ → Command → CommandReply
reply_of S v node c = reply_by (judge S v node c) (accepted S v node c)

-- only an accepted command enters something
abbrev pub after_by : Judgement → (before with_it : List Fact) → List Fact
after_by (Denied r) before with_it = before
after_by AlreadyKnown before with_it = before
after_by Accepted before with_it = with_it

abbrev pub after : List Fact → List ℕ → ℕ → Command → List Fact
after S v node c = after_by (judge S v node c) S (entered S v node c)

-- Questions

-- what an LRA shows, or the refusal
abbrev pub shown_of : List Fact → List ℕ → Id → Result LraStatus Refusal
shown_of S v l = option_map_or (λ r. Err r) (first (unknown v l ∷ gone_by (by_facts S) l ∷ [])) (Ok (shows_now S l))

-- what a participant shows, or the refusal
abbrev pub member_shown : List Fact → List ℕ → Id → ℕ → Result MemberStatus Refusal
member_shown S v l m =
    option_map_or (λ r. Err r) (first (unknown v l ∷ gone_by (by_facts S) l ∷ []))
    (option_map_or (λ s. Ok s) (member_status S l m) (Err UnknownMember))

-- Lawful bodies

-- the command to which a body belongs
abbrev pub command_of : Body → Command
command_of (Begin parent deadline) = BeginAsked parent deadline
command_of (Join l m links) = JoinAsked l links
command_of (Leave l m) = LeaveAsked l m
command_of (Decide l verdict) = DecideAsked l verdict
command_of (Report l m act outcome) = ReportAsked l m act outcome
command_of (Forgot l m) = ForgotAsked l m
command_of (Told l m) = ToldAsked l m
command_of (Purge l) = PurgeAsked l

-- the body is what the node would enter
pub record IsLawfulBody (S : List Fact) (v : List ℕ) (node : ℕ) (body : Body) : Type 0 where
  pub accepted : judge S v node (command_of body) ≡ Accepted
  pub made : body_for S (command_of body) ≡ body
