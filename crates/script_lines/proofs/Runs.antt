-- How far a script has come, and how it goes on.
use Rattle.std.proofs.Common.{◌≡◌, ℕ, ◌+◌, ◌<◌, ◌≤◌, ◌⊎◌, inl, inr, Bool, true, false, List, [], ◌∷◌, ◌++◌, length, take, refl, ap, sym, subst, ◌∙◌, append_assoc, arith}
use Rattle.std.proofs.lemmas.List.{append-nil, length-append, length-replicate, take_all, length-take-le}
use Rattle.wire_http.specs.Streams.{Calls, GivenBytes, Gives, IsFlushed, TakenBytes, Takes, TakesPart}
use Rattle.wire_http.proofs.Known.{gives_more, gives_none, takes_more, takes_none}
use Rattle.state_facts.specs.declared.refusal.Refusal.TheVariants.{NoMemory}
use Rattle.script_lines.specs.LineParts.{HasNone, lines_of}
use Rattle.script_world.specs.Machines.{IsWorldOf, Machine}
use Rattle.script_world.specs.Worlds.{State, nodes_of, start as beginning}
use Rattle.script_lines.specs.ScriptEnds.{AnswersWhole, HasRun, IsPut, ReadsLine, ReadsPart, WentWell, WritesPart}
use Rattle.script_lines.specs.Scripts.{refused, Answers, Prints}
use Rattle.script_lines.proofs.OneRun.{HasText, answers_keep, plays}
use Rattle.script_lines.proofs.Splits.{parts_whole, parts_last}

-- any lines have a text: each may run out of memory
pub some_text : (n : ℕ) (s : State) (lines : List (List ℕ)) → (out : List ℕ) × HasText n s lines out
some_text n s [] = ([], ([], refl))
some_text n s ([] ∷ lines) = let r = some_text n s lines in (r.0, (s ∷ r.1.0, ([], r.0, refl, (refl, refl), r.1.1)))
some_text n s ((b ∷ bs) ∷ lines) = let r = some_text n s lines in (refused NoMemory ++ r.0, (s ∷ r.1.0, (refused NoMemory, r.0, refl, inl (refl, refl), r.1.1)))

-- a line that is too long is answered as its kept part is
long_answers : (n : ℕ) (s : State) (kept line out : List ℕ) (t : State) → 4096 < length kept → 4096 < length line → Answers n s kept out t → Answers n s line out t
long_answers n s [] line out t long_kept long h = absurd (omega arith)
long_answers n s (a ∷ kept) [] out t long_kept long h = absurd (omega arith)
long_answers n s (a ∷ kept) (b ∷ bs) out t long_kept long (inl h) = inl h
long_answers n s (a ∷ kept) (b ∷ bs) out t long_kept long (inr (inl h)) = inr (inl (inl long, h.1, h.2))
long_answers n s (a ∷ kept) (b ∷ bs) out t long_kept long (inr (inr h)) = absurd (let short = h.1 in omega arith)

at_most_or_more : (m n : ℕ) → (m ≤ n) ⊎ (n < m)
at_most_or_more m n = grind arith

pub kept_answers : (n : ℕ) (s : State) (kept line out : List ℕ) (t : State) → kept ≡ take 4097 line → Answers n s kept out t → Answers n s line out t
kept_answers n s kept line out t e h = elim (at_most_or_more (length line) 4097) [
  | inl short ↦ let P : List ℕ → Type 0 = λ l. Answers n s l out t in subst P (e ∙ take_all 4097 line short) h
  | inr long ↦ let k : length kept ≡ 4097 = ap length e ∙ length-take-le 4097 line (omega arith) in long_answers n s kept line out t (omega arith) (omega arith) h
]

-- from state s on, more lines can be answered after these, which were answered so
abbrev pub GoesOn : ℕ → State → List (List ℕ) → List ℕ → Type 0
GoesOn n s whole out = (lines : List (List ℕ)) (tail : List ℕ) → HasText n s lines tail → HasText n (beginning n) (whole ++ lines) (out ++ tail)

-- a text of a line and of those after it
text_on : (n : ℕ) (s t : State) (kept line : List ℕ) (lines : List (List ℕ)) (first tail : List ℕ) → kept ≡ take 4097 line
    → Answers n s kept first t → HasText n t lines tail → HasText n s (line ∷ lines) (first ++ tail)
text_on n s t kept line lines first tail is answers h = (t ∷ h.0, (first, tail, refl, kept_answers n s kept line first t is answers, h.1))

goes_on : (n : ℕ) (s t : State) (kept line : List ℕ) (whole : List (List ℕ)) (out first : List ℕ) → GoesOn n s whole out → kept ≡ take 4097 line
    → Answers n s kept first t → GoesOn n t (whole ++ line ∷ []) (out ++ first)
goes_on n s t kept line whole out first goes is answers = λ lines tail h.
    let P : List (List ℕ) → Type 0 = λ l. HasText n (beginning n) l ((out ++ first) ++ tail) in
    let Q : List ℕ → Type 0 = λ l. HasText n (beginning n) (whole ++ (line ∷ lines)) l in
    subst P (sym (append_assoc whole (line ∷ []) lines))
    (subst Q (sym (append_assoc out first tail)) (goes (line ∷ lines) (first ++ tail) (text_on n s t kept line lines first tail is answers h)))

-- ---- calls

well_none : (before : Calls) → WentWell 0 before before
well_none before = record { none_failed = refl; counted = omega arith; few = omega arith }

well_more : (lines : ℕ) (before mid after : Calls) → WentWell lines before mid → WentWell 1 mid after → WentWell (lines + 1) before after
well_more lines before mid after p q = record {
  none_failed = q.none_failed ∙ p.none_failed;
  counted = let a = p.counted in let b = q.counted in omega (arith, a, b);
  few = let a = p.few in let b = q.few in omega (arith, a, b);
}

-- ---- what was given and taken

-- these lines were given, whole, and answered
pub record IsRunning (n : ℕ) (s : State) (first now : GivenBytes) (old new : TakenBytes) : Type 0 where
  pub given : List ℕ
  pub whole : List (List ℕ)
  pub out : List ℕ
  pub gives : Gives first now given
  pub lines : (bs : List ℕ) → lines_of (given ++ bs) ≡ whole ++ lines_of bs
  pub takes : Takes old new out
  pub flushed : IsFlushed old → IsFlushed new
  pub goes : GoesOn n s whole out

running_start : (n : ℕ) (first : GivenBytes) (old : TakenBytes) → IsRunning n (beginning n) first first old old
running_start n first old = record {
  given = [];
  whole = [];
  out = [];
  gives = gives_none first;
  lines = λ bs. refl;
  takes = takes_none old;
  flushed = λ e. e;
  goes = λ lines tail h. h;
}

-- one more line after whole lines
line_more : (given line : List ℕ) (whole : List (List ℕ)) → ((bs : List ℕ) → lines_of (given ++ bs) ≡ whole ++ lines_of bs) → HasNone 10 line
    → (bs : List ℕ) → lines_of ((given ++ (line ++ 10 ∷ [])) ++ bs) ≡ (whole ++ line ∷ []) ++ lines_of bs
line_more given line whole lines none bs =
    ap lines_of (append_assoc given (line ++ 10 ∷ []) bs ∙ ap (λ (l : List ℕ). given ++ l) (append_assoc line (10 ∷ []) bs))
    ∙ lines (line ++ 10 ∷ bs)
    ∙ ap (λ (l : List (List ℕ)). whole ++ l) (parts_whole 10 line bs none)
    ∙ sym (append_assoc whole (line ∷ []) (lines_of bs))

-- the last line after whole lines
line_last : (given line : List ℕ) (whole : List (List ℕ)) → ((bs : List ℕ) → lines_of (given ++ bs) ≡ whole ++ lines_of bs) → HasNone 10 line
    → lines_of (given ++ line) ≡ whole ++ line ∷ []
line_last given line whole lines none = lines line ∙ ap (λ (l : List (List ℕ)). whole ++ l) (parts_last 10 line none)

-- a line in state s leaves state t, and what it prints was written so
abbrev Leaves : ℕ → State → List ℕ → State → (List ℕ → Type 0) → Type 0
Leaves n s line t was_written = (out : List ℕ) × Answers n s line out t × was_written out

running_line : (n : ℕ) (s t : State) (kept : List ℕ) (first now next : GivenBytes) (old mid new : TakenBytes) → IsRunning n s first now old mid
    → ReadsLine true kept now next → Leaves n s kept t (IsPut mid new) → IsRunning n t first next old new
running_line n s t kept first now next old mid new r (bytes, gave, (line, is, none, split)) (text, answers, (took, passed)) = record {
  given = r.given ++ (line ++ 10 ∷ []);
  whole = r.whole ++ line ∷ [];
  out = r.out ++ text;
  gives = gives_more first now next r.given (line ++ 10 ∷ []) r.gives (subst (λ (l : List ℕ). Gives now next l) split gave);
  lines = line_more r.given line r.whole r.lines none;
  takes = takes_more old mid new r.out text r.takes took;
  flushed = λ _. passed;
  goes = goes_on n s t kept line r.whole r.out text r.goes is answers;
}

-- the text of the last line
text_end : (n : ℕ) (s t : State) (kept line text out given : List ℕ) (whole : List (List ℕ)) → GoesOn n s whole out → kept ≡ take 4097 line → Answers n s kept text t
    → lines_of (given ++ line) ≡ whole ++ line ∷ [] → HasText n (beginning n) (lines_of (given ++ line)) (out ++ text)
text_end n s t kept line text out given whole goes is answers lines =
    let P : List (List ℕ) → Type 0 = λ l. HasText n (beginning n) l (out ++ text) in
    let Q : List ℕ → Type 0 = λ l. HasText n (beginning n) (whole ++ line ∷ []) (out ++ l) in
    subst P (sym lines) (subst Q (append-nil text) (goes (line ∷ []) (text ++ []) (text_on n s t kept line [] text [] is answers ([], refl))))

-- a part of what comes after out
part_on : (old mid new : TakenBytes) (out text tail : List ℕ) → Takes old mid out → TakesPart mid new text → TakesPart old new ((out ++ text) ++ tail)
part_on old mid new out text tail grew (front, rest, is, wrote) = (
  out ++ front,
  rest ++ tail,
  ap (λ (l : List ℕ). (out ++ l) ++ tail) is
      ∙ ap (λ (l : List ℕ). l ++ tail) (sym (append_assoc out front rest))
      ∙ append_assoc (out ++ front) rest tail,
  takes_more old mid new out front grew wrote,
)

-- a line that a line feed ended: its text goes on, whatever follows
part_more : (n : ℕ) → 1 ≤ n → (s t : State) (kept : List ℕ) (first now next : GivenBytes) (old mid new : TakenBytes) → IsRunning n s first now old mid
    → ReadsLine true kept now next → Leaves n s kept t (TakesPart mid new) → WritesPart n first next old new
part_more n some s t kept first now next old mid new r (bytes, gave, (line, is, none, split)) (text, answers, part) = (
  r.given ++ (line ++ 10 ∷ []),
  gives_more first now next r.given (line ++ 10 ∷ []) r.gives (subst (λ (l : List ℕ). Gives now next l) split gave),
  λ more _.
      let tail = some_text n t (lines_of more) in
      let P : List (List ℕ) → Type 0 = λ l. HasText n (beginning n) l ((r.out ++ text) ++ tail.0) in (
        (r.out ++ text) ++ tail.0,
        plays n (lines_of ((r.given ++ (line ++ 10 ∷ [])) ++ more)) ((r.out ++ text) ++ tail.0) some
            (subst P (sym (line_more r.given line r.whole r.lines none more)) (goes_on n s t kept line r.whole r.out text r.goes is answers (lines_of more) tail.0 tail.1)),
        part_on old mid new r.out text tail.0 r.takes part,
      ),
)

-- the last line: nothing follows
part_last : (n : ℕ) → 1 ≤ n → (s t : State) (kept : List ℕ) (first now next : GivenBytes) (old mid new : TakenBytes) → IsRunning n s first now old mid
    → ReadsLine false kept now next → Leaves n s kept t (TakesPart mid new) → WritesPart n first next old new
part_last n some s t kept first now next old mid new r ((line, gave, (is, none)), ended) (text, answers, part) = (
  r.given ++ line,
  gives_more first now next r.given line r.gives gave,
  λ more nothing.
      let P : List ℕ → Type 0 = λ l. HasText n (beginning n) (lines_of l) (r.out ++ text) in
      let same : r.given ++ line ≡ (r.given ++ line) ++ more = sym (append-nil (r.given ++ line)) ∙ ap (λ (l : List ℕ). (r.given ++ line) ++ l) (sym (nothing ended)) in
      let Q : List ℕ → Type 0 = λ l. TakesPart old new l in (
        r.out ++ text,
        plays n (lines_of ((r.given ++ line) ++ more)) (r.out ++ text) some
            (subst P same (text_end n s t kept line text r.out r.given r.whole r.goes is answers (line_last r.given line r.whole r.lines none))),
        subst Q (append-nil (r.out ++ text)) (part_on old mid new r.out text [] r.takes part),
      ),
)

-- a read failed within a line
part_fault : (n : ℕ) → 1 ≤ n → (s : State) (first now next : GivenBytes) (old new : TakenBytes) → IsRunning n s first now old new → ReadsPart now next → WritesPart n first next old new
part_fault n some s first now next old new r (part, gave, none) = (
  r.given ++ part,
  gives_more first now next r.given part r.gives gave,
  λ more _.
      let tail = some_text n s (lines_of (part ++ more)) in
      let P : List (List ℕ) → Type 0 = λ l. HasText n (beginning n) l (r.out ++ tail.0) in (
        r.out ++ tail.0,
        plays n (lines_of ((r.given ++ part) ++ more)) (r.out ++ tail.0) some
            (subst P (sym (ap lines_of (append_assoc r.given part more) ∙ r.lines (part ++ more))) (r.goes (lines_of (part ++ more)) tail.0 tail.1)),
        (r.out, tail.0, refl, r.takes),
      ),
)

-- and all lines before it are answered
whole_fault : (n : ℕ) → 1 ≤ n → (s : State) (first now next : GivenBytes) (old new : TakenBytes) → IsRunning n s first now old new → ReadsPart now next → AnswersWhole n first next old new
whole_fault n some s first now next old new r (part, gave, none) = (
  r.given ++ part,
  gives_more first now next r.given part r.gives gave,
  (
    part,
    r.out,
    r.whole,
    line_last r.given part r.whole r.lines none,
    (
        let P : List (List ℕ) → Type 0 = λ l. HasText n (beginning n) l r.out in
        let Q : List ℕ → Type 0 = λ l. HasText n (beginning n) (r.whole ++ []) l in
        plays n r.whole r.out some (subst P (append-nil r.whole) (subst Q (append-nil r.out) (r.goes [] [] ([], refl))))
        ),
    r.takes,
    r.flushed,
  ),
)

-- ---- a script

-- this many lines were given whole and answered, and the world stands for the state that they left
pub record Runs (n : ℕ) (world : Machine) (first now : GivenBytes) (old new : TakenBytes) (reads_before reads writes_before writes : Calls) : Type 0 where
  pub some : 1 ≤ n
  pub state : State
  pub stands : IsWorldOf state world
  pub nodes : nodes_of state ≡ n
  pub running : IsRunning n state first now old new
  pub reads_well : WentWell (length running.whole) reads_before reads
  pub writes_well : WentWell (length running.whole) writes_before writes

-- the number of nodes stays the same
pub runs_nodes : (n : ℕ) (world : Machine) (first now : GivenBytes) (old new : TakenBytes) (rb r wb w : Calls) → Runs n world first now old new rb r wb w
    → length world.replicas ≡ n
runs_nodes n world first now old new rb r wb w run = run.stands.nodes ∙ run.nodes

-- what a line prints in a world was written so, whatever state the world stands for
abbrev pub PrintsIn : ℕ → (before after : Machine) → List ℕ → (List ℕ → Type 0) → Type 0
PrintsIn n before after kept was_written = (s : State) → IsWorldOf s before → Prints n s kept after was_written

pub runs_start : (n : ℕ) (world : Machine) (first : GivenBytes) (old : TakenBytes) (rb wb : Calls) → 1 ≤ n → IsWorldOf (beginning n) world
    → Runs n world first first old old rb rb wb wb
unfolding running_start
runs_start n world first old rb wb some stands = record {
  some = some;
  state = beginning n;
  stands = stands;
  nodes = length-replicate n [];
  running = running_start n first old;
  reads_well = well_none rb;
  writes_well = well_none wb;
}

-- nothing was given or written
pub part_none : (n : ℕ) → 1 ≤ n → (first : GivenBytes) (old : TakenBytes) → WritesPart n first first old old
part_none n some first old = part_fault n some (beginning n) first first first old old (running_start n first old) ([], gives_none first, tt)

one_more : (whole : List (List ℕ)) (line : List ℕ) (before mid after : Calls) → WentWell (length whole) before mid → WentWell 1 mid after → WentWell (length (whole ++ line ∷ [])) before after
one_more whole line before mid after p q =
    subst (λ (count : ℕ). WentWell count before after) (sym (length-append whole (line ∷ []))) (well_more (length whole) before mid after p q)

pub runs_line : (n : ℕ) (before after : Machine) (kept : List ℕ) (first now next : GivenBytes) (old mid new : TakenBytes) (rb rm r wb wm w : Calls)
    → Runs n before first now old mid rb rm wb wm → ReadsLine true kept now next → WentWell 1 rm r → PrintsIn n before after kept (IsPut mid new) → WentWell 1 wm w
    → Runs n after first next old new rb r wb w
unfolding running_line
runs_line n before after kept first now next old mid new rb rm r wb wm w run read reads prints writes =
    let p = prints run.state run.stands in
    record {
      some = run.some;
      state = p.1.0;
      stands = p.1.2;
      nodes = answers_keep n run.state kept p.0 p.1.0 run.stands.world run.nodes p.1.1;
      running = running_line n run.state p.1.0 kept first now next old mid new run.running read (p.0, p.1.1, p.2);
      reads_well = one_more run.running.whole read.2.0 rb rm r run.reads_well reads;
      writes_well = one_more run.running.whole read.2.0 wb wm w run.writes_well writes;
    }

-- the last line was given and answered
last_well : (given line : List ℕ) (whole : List (List ℕ)) (before mid after : Calls) → lines_of (given ++ line) ≡ whole ++ line ∷ [] → WentWell (length whole) before mid → WentWell 1 mid after
    → WentWell (length (lines_of (given ++ line))) before after
last_well given line whole before mid after lines p q =
    subst (λ (l : List (List ℕ)). WentWell (length l) before after) (sym lines) (one_more whole line before mid after p q)

pub runs_end : (n : ℕ) (before after : Machine) (kept : List ℕ) (first now next : GivenBytes) (old mid new : TakenBytes) (rb rm r wb wm w : Calls)
    → Runs n before first now old mid rb rm wb wm → ReadsLine false kept now next → WentWell 1 rm r → PrintsIn n before after kept (IsPut mid new) → WentWell 1 wm w
    → HasRun n first next old new rb r wb w
runs_end n before after kept first now next old mid new rb rm r wb wm w run ((line, gave, (is, none)), ended) reads prints writes =
    let p = prints run.state run.stands in
    let run_so = run.running in
    let lines = line_last run_so.given line run_so.whole run_so.lines none in
    record {
      bytes = run_so.given ++ line;
      gives = gives_more first now next run_so.given line run_so.gives gave;
      ended = ended;
      out = run_so.out ++ p.0;
      plays = plays n (lines_of (run_so.given ++ line)) (run_so.out ++ p.0) run.some
          (text_end n run.state p.1.0 kept line p.0 run_so.out run_so.given run_so.whole run_so.goes is p.1.1 lines);
      put = (takes_more old mid new run_so.out p.0 run_so.takes p.2.0, p.2.1);
      reads_well = last_well run_so.given line run_so.whole rb rm r lines run.reads_well reads;
      writes_well = last_well run_so.given line run_so.whole wb wm w lines run.writes_well writes;
    }

pub runs_part : (n : ℕ) (before after : Machine) (more : Bool) (kept : List ℕ) (first now next : GivenBytes) (old mid new : TakenBytes) (rb rm wb wm : Calls)
    → Runs n before first now old mid rb rm wb wm → ReadsLine more kept now next → PrintsIn n before after kept (TakesPart mid new) → WritesPart n first next old new
runs_part n before after true kept first now next old mid new rb rm wb wm run read prints =
    let p = prints run.state run.stands in
    part_more n run.some run.state p.1.0 kept first now next old mid new run.running read (p.0, p.1.1, p.2)
runs_part n before after false kept first now next old mid new rb rm wb wm run read prints =
    let p = prints run.state run.stands in
    part_last n run.some run.state p.1.0 kept first now next old mid new run.running read (p.0, p.1.1, p.2)

pub runs_fault : (n : ℕ) (world : Machine) (first now next : GivenBytes) (old new : TakenBytes) (rb r wb w : Calls) → Runs n world first now old new rb r wb w
    → ReadsPart now next → WritesPart n first next old new
runs_fault n world first now next old new rb r wb w run cut = part_fault n run.some run.state first now next old new run.running cut

pub runs_whole : (n : ℕ) (world : Machine) (first now next : GivenBytes) (old new : TakenBytes) (rb r wb w : Calls) → Runs n world first now old new rb r wb w
    → ReadsPart now next → AnswersWhole n first next old new
runs_whole n world first now next old new rb r wb w run cut = whole_fault n run.some run.state first now next old new run.running cut
