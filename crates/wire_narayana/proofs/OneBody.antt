-- A text begins with at most one body in chunks.
use Rattle.std.proofs.Common.{◌≡◌, ◌≢◌, ℕ, arith, List, [], ◌∷◌, ◌++◌, length, ap, refl, sym, ◌∙◌, append_assoc, append-nil, Option, Some, None}
use Rattle.std.specs.Io.KnownBytes.{Consumes}
use Rattle.std.specs.List.{AllByRecursion, flat_map}
use Rattle.httparse.specs.Grammar.{ChunkLine, IsChunkLine, chunk_size, print_chunk_line}
use Rattle.httparse.proofs.ChunkLemmas.{chunk_line_unique}
use Rattle.wire_http.specs.Streams.{GivenBytes, GivesWhat}
use Rattle.wire_narayana.specs.Chunks.{Body, Chunk, IsBody, IsChunk, IsChunked, IsLast, IsTrailer, body_bytes, body_text, chunk_text, crlf, section_text, trailer_text}

-- ---- parts

-- beginnings of the same length
pub same_front : (a b x y : List ℕ) → length a ≡ length b → a ++ x ≡ b ++ y → (a ≡ b) × (x ≡ y)
same_front [] [] x y long e = (refl, e)
same_front [] (b ∷ more_b) x y long e = absurd (omega (arith, long))
same_front (a ∷ more_a) [] x y long e = absurd (omega (arith, long))
same_front (a ∷ more_a) (b ∷ more_b) x y long e =
    let tail : more_a ++ x ≡ more_b ++ y = cc in
    let same = same_front more_a more_b x y (omega (arith, long)) tail in
    let first = same.0 in
    (cc, same.1)

-- texts up to the first LF
pub same_line : (t u x y : List ℕ) → AllByRecursion (λ b. b ≢ 10) t → AllByRecursion (λ b. b ≢ 10) u → t ++ 10 ∷ x ≡ u ++ 10 ∷ y → (t ≡ u) × (x ≡ y)
same_line [] [] x y one two e = (refl, cc)
same_line [] (b ∷ more_b) x y one two e = let first : b ≡ 10 = cc in absurd (two.0 first)
same_line (a ∷ more_a) [] x y one two e = let first : a ≡ 10 = cc in absurd (one.0 first)
same_line (a ∷ more_a) (b ∷ more_b) x y one two e =
    let tail : more_a ++ 10 ∷ x ≡ more_b ++ 10 ∷ y = cc in
    let same = same_line more_a more_b x y one.1 two.1 tail in
    let first = same.0 in
    (cc, same.1)

same_trailer : (t u x y : List ℕ) → IsTrailer t → IsTrailer u → trailer_text t ++ x ≡ trailer_text u ++ y → (t ≡ u) × (x ≡ y)
same_trailer t u x y one two e = same_line t u x y one.one two.one (sym (append_assoc t (10 ∷ []) x) ∙ e ∙ append_assoc u (10 ∷ []) y)

-- a trailer isn't the empty line
no_end : (u x y : List ℕ) → IsTrailer u → crlf ++ x ≡ trailer_text u ++ y → ⊥
no_end u x y so e =
    let same = same_line (13 ∷ []) u x y ((λ (k : 13 ≡ 10). omega (arith, k)), tt) so.one (e ∙ append_assoc u (10 ∷ []) y) in
    so.some (ap (λ (l : List ℕ). l ++ 10 ∷ []) (sym same.0))

pub same_section : (ts us : List (List ℕ)) (x y : List ℕ) → AllByRecursion IsTrailer ts → AllByRecursion IsTrailer us → section_text ts ++ x ≡ section_text us ++ y → (ts ≡ us) × (x ≡ y)
same_section [] [] x y one two e = (refl, cc)
same_section [] (u ∷ us) x y one two e =
    absurd (no_end u x (section_text us ++ y) two.0 (e ∙ behind (trailer_text u) (flat_map trailer_text us) crlf y))
  where
    behind : (a b c d : List ℕ) → ((a ++ b) ++ c) ++ d ≡ a ++ ((b ++ c) ++ d)
    behind a b c d = ap (λ (l : List ℕ). l ++ d) (append_assoc a b c) ∙ append_assoc a (b ++ c) d
same_section (t ∷ ts) [] x y one two e =
    absurd (no_end t y (section_text ts ++ x) one.0 (sym e ∙ behind (trailer_text t) (flat_map trailer_text ts) crlf x))
  where
    behind : (a b c d : List ℕ) → ((a ++ b) ++ c) ++ d ≡ a ++ ((b ++ c) ++ d)
    behind a b c d = ap (λ (l : List ℕ). l ++ d) (append_assoc a b c) ∙ append_assoc a (b ++ c) d
same_section (t ∷ ts) (u ∷ us) x y one two e =
    let first = same_trailer t u (section_text ts ++ x) (section_text us ++ y) one.0 two.0
    (sym (behind (trailer_text t) (flat_map trailer_text ts) crlf x) ∙ e ∙ behind (trailer_text u) (flat_map trailer_text us) crlf y) in
    let same = same_section ts us x y one.1 two.1 first.1 in
    let head = first.0 in let tail = same.0 in
    (cc, same.1)
  where
    behind : (a b c d : List ℕ) → ((a ++ b) ++ c) ++ d ≡ a ++ ((b ++ c) ++ d)
    behind a b c d = ap (λ (l : List ℕ). l ++ d) (append_assoc a b c) ∙ append_assoc a (b ++ c) d

-- ---- chunks

pub same_size_line : (l k : ChunkLine) (x y : List ℕ) → IsChunkLine l → IsChunkLine k → print_chunk_line l ++ x ≡ print_chunk_line k ++ y → (l ≡ k) × (x ≡ y)
same_size_line l k x y one two e = chunk_line_unique (print_chunk_line l ++ x) l k x y (one, refl) (two, e)

regroup : (a b c d : List ℕ) → (a ++ (b ++ c)) ++ d ≡ a ++ (b ++ (c ++ d))
regroup a b c d = append_assoc a (b ++ c) d ∙ ap (λ (l : List ℕ). a ++ l) (append_assoc b c d)

pub same_chunk : (c d : Chunk) (x y : List ℕ) → IsChunk c → IsChunk d → chunk_text c ++ x ≡ chunk_text d ++ y → (c ≡ d) × (x ≡ y)
same_chunk c d x y one two e =
    let lines = same_size_line c.line d.line (c.bytes ++ (crlf ++ x)) (d.bytes ++ (crlf ++ y)) one.line two.line
    (sym (regroup (print_chunk_line c.line) c.bytes crlf x) ∙ e ∙ regroup (print_chunk_line d.line) d.bytes crlf y) in
    let long : length c.bytes ≡ length d.bytes = sym one.size ∙ ap chunk_size lines.0 ∙ two.size in
    let bytes = same_front c.bytes d.bytes (crlf ++ x) (crlf ++ y) long lines.1 in
    let ends = bytes.1 in
    (λ i. record { line = lines.0 i; bytes = bytes.0 i }, cc)

-- no chunk is the last one
no_last : (c : Chunk) (l : ChunkLine) (x y : List ℕ) → IsChunk c → IsLast l → chunk_text c ++ x ≡ print_chunk_line l ++ y → ⊥
no_last c l x y one last e =
    let lines = same_size_line c.line l (c.bytes ++ (crlf ++ x)) y one.line last.0 (sym (regroup (print_chunk_line c.line) c.bytes crlf x) ∙ e) in
    let none : length c.bytes ≡ 0 = sym one.size ∙ ap chunk_size lines.0 ∙ last.1 in
    let some = one.some in
    omega (arith, none, some)

-- what follows some chunks of a body
pub behind_chunks : (done cs : List Chunk) (l : ChunkLine) (z y : List ℕ) → AllByRecursion IsChunk done → AllByRecursion IsChunk cs → IsLast l
    → flat_map chunk_text done ++ z ≡ flat_map chunk_text cs ++ (print_chunk_line l ++ y)
    → (rest : List Chunk) × (cs ≡ done ++ rest) × AllByRecursion IsChunk rest × (z ≡ flat_map chunk_text rest ++ (print_chunk_line l ++ y))
behind_chunks [] cs l z y one two last e = (cs, refl, two, e)
behind_chunks (d ∷ ds) [] l z y one two last e =
    absurd (no_last d l (flat_map chunk_text ds ++ z) y one.0 last (sym (append_assoc (chunk_text d) (flat_map chunk_text ds) z) ∙ e))
behind_chunks (d ∷ ds) (c ∷ cs) l z y one two last e =
    let end = print_chunk_line l ++ y in
    let first = same_chunk d c (flat_map chunk_text ds ++ z) (flat_map chunk_text cs ++ end) one.0 two.0
    (sym (append_assoc (chunk_text d) (flat_map chunk_text ds) z) ∙ e ∙ append_assoc (chunk_text c) (flat_map chunk_text cs) end) in
    let more = behind_chunks ds cs l z y one.1 two.1 last first.1 in
    let head = first.0 in let tail = more.1 in
    (more.0, cc, more.2, more.3)

-- ---- bodies

apart : (b : Body) (x : List ℕ) → body_text b ++ x ≡ flat_map chunk_text b.chunks ++ (print_chunk_line b.last ++ (section_text b.trailers ++ x))
apart b x = regroup (flat_map chunk_text b.chunks) (print_chunk_line b.last) (section_text b.trailers) x

no_more : (rest : List Chunk) (l k : ChunkLine) (x y : List ℕ) → AllByRecursion IsChunk rest → IsLast l → print_chunk_line l ++ x ≡ flat_map chunk_text rest ++ (print_chunk_line k ++ y)
    → (rest ≡ []) × (print_chunk_line l ++ x ≡ print_chunk_line k ++ y)
no_more [] l k x y all last e = (refl, e)
no_more (c ∷ cs) l k x y all last e =
    absurd (no_last c l (flat_map chunk_text cs ++ (print_chunk_line k ++ y)) x all.0 last (sym (e ∙ append_assoc (chunk_text c) (flat_map chunk_text cs) (print_chunk_line k ++ y))))

pub same_body : (a b : Body) (x y : List ℕ) → IsBody a → IsBody b → body_text a ++ x ≡ body_text b ++ y → (a ≡ b) × (x ≡ y)
same_body a b x y one two e =
    let more = behind_chunks a.chunks b.chunks b.last (print_chunk_line a.last ++ (section_text a.trailers ++ x)) (section_text b.trailers ++ y) one.chunks two.chunks two.last
    (sym (apart a x) ∙ e ∙ apart b y) in
    let none = no_more more.0 a.last b.last (section_text a.trailers ++ x) (section_text b.trailers ++ y) more.2 one.last more.3 in
    let lasts = same_size_line a.last b.last (section_text a.trailers ++ x) (section_text b.trailers ++ y) one.last.0 two.last.0 none.1 in
    let ends = same_section a.trailers b.trailers x y one.trailers two.trailers lasts.1 in
    let chunks : a.chunks ≡ b.chunks = sym (more.1 ∙ ap (λ (l : List Chunk). a.chunks ++ l) none.0 ∙ append-nil a.chunks) in
    (λ i. record { chunks = chunks i; last = lasts.0 i; trailers = ends.0 i }, ends.1)

-- a text begins with at most one body
pub one_body : (a b s t x y : List ℕ) → IsChunked a s → IsChunked b t → s ++ x ≡ t ++ y → (a ≡ b) × (s ≡ t) × (x ≡ y)
one_body a b s t x y (c, one, says, are) (d, two, tells, hold) e =
    let same = same_body c d x y one two (ap (λ (l : List ℕ). l ++ x) (sym says) ∙ e ∙ ap (λ (l : List ℕ). l ++ y) tells) in
    (are ∙ ap body_bytes same.0 ∙ sym hold, says ∙ ap body_text same.0 ∙ sym tells, same.1)

-- ---- what is read, if it is known what was left

pub known : (old new : Option (List ℕ)) (bytes input : List ℕ) → Consumes old new bytes → old ≡ Some input → (rest : List ℕ) × (new ≡ Some rest) × (input ≡ bytes ++ rest)
known None new bytes input took e = absurd (cc)
known (Some had) None bytes input took e = absurd took
known (Some had) (Some rest) bytes input took e = let same : input ≡ had = cc in (rest, refl, same ∙ took)

pub read_exactly : (old new : GivenBytes) (body bytes text rest : List ℕ) → GivesWhat old new (IsChunked body) → IsChunked bytes text → old.left ≡ Some (text ++ rest)
    → (body ≡ bytes) × (new.left ≡ Some rest)
read_exactly old new body bytes text rest (given, gave, is) so left =
    let k = known old.left new.left given (text ++ rest) gave.left left in
    let same = one_body body bytes given text k.0 rest is so (sym k.2) in
    (same.0, k.1 ∙ ap Some same.2)

pub nothing_more : (a b : List ℕ) → a ++ b ≡ [] → b ≡ []
nothing_more [] b e = e
nothing_more (x ∷ a) b e = absurd (cc)

pub none_of_cut : (old new : GivenBytes) (body bytes text more : List ℕ) → GivesWhat old new (IsChunked body) → IsChunked bytes (text ++ more) → old.left ≡ Some text
    → more ≡ []
none_of_cut old new body bytes text more (given, gave, is) so left =
    let k = known old.left new.left given text gave.left left in
    let whole : given ++ (k.0 ++ more) ≡ (text ++ more) ++ [] = sym (append_assoc given k.0 more) ∙ ap (λ (l : List ℕ). l ++ more) (sym k.2) ∙ sym (append-nil (text ++ more)) in
    nothing_more k.0 more (one_body body bytes given (text ++ more) (k.0 ++ more) [] is so whole).2
