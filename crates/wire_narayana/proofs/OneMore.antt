-- Chunks, trailers and heads one after another.
use Rattle.std.proofs.Common.{◌≡◌, ◌≢◌, ℕ, ◌<◌, arith, List, [], ◌∷◌, ◌++◌, length, ap, refl, sym, ◌∙◌, append_assoc, append-nil}
use Rattle.std.specs.List.{AllByRecursion, flat_map}
use Rattle.httparse.specs.Grammar.{print_response}
use Rattle.wire_http.specs.Streams.{GivenBytes, Gives, GivesWhat}
use Rattle.wire_http.proofs.Known.{gives_more}
use Rattle.wire_narayana.specs.Chunks.{AreChunks, AreTrailers, Chunk, IsChunk, IsChunked, IsLine, IsSection, IsSizeLine, IsTrailer, chunk_bytes, chunk_text, crlf, trailer_text}
use Rattle.wire_narayana.specs.Framings.{AreInterim, IsHeadText, IsInterim}
use Rattle.wire_narayana.specs.declared.fields.Framing.{Framing}

all_more : {A : Type 0} (P : A → Type 0) (xs : List A) (x : A) → AllByRecursion P xs → P x → AllByRecursion P (xs ++ x ∷ [])
all_more P [] x all so = (so, tt)
all_more P (y ∷ ys) x all so = (all.0, all_more P ys x all.1 so)

text_more : {A : Type 0} (f : A → List ℕ) (xs : List A) (x : A) → flat_map f (xs ++ x ∷ []) ≡ flat_map f xs ++ f x
text_more f [] x = append-nil (f x)
text_more f (y ∷ ys) x = ap (λ (l : List ℕ). f y ++ l) (text_more f ys x) ∙ sym (append_assoc (f y) (flat_map f ys) (f x))

-- one more chunk was given
pub chunk_more : (old mid after new : GivenBytes) (body bytes out : List ℕ) (size : ℕ) → GivesWhat old mid (AreChunks body)
    → GivesWhat mid after (IsSizeLine size) → Gives after new (bytes ++ crlf) → length bytes ≡ size → 0 < size → out ≡ body ++ bytes
    → GivesWhat old new (AreChunks out)
chunk_more old mid after new body bytes out size (text, gave, (chunks, all, is, are)) (line, lined, (l, good, says, spells)) came long some e =
    let c : Chunk = record { line = l; bytes = bytes } in (
      text ++ (line ++ (bytes ++ crlf)),
      gives_more old mid new text (line ++ (bytes ++ crlf)) gave (gives_more mid after new line (bytes ++ crlf) lined came),
      (
        chunks ++ c ∷ [],
        all_more IsChunk chunks c all (record { line = good; size = says ∙ sym long; some = omega (arith, long, some) }),
        rw is (rw spells (sym (text_more chunk_text chunks c))),
        rw e (rw are (sym (text_more chunk_bytes chunks c))),
      ),
    )

-- the last one and the trailers were given
pub chunks_end : (old mid after new : GivenBytes) (body : List ℕ) (size : ℕ) → GivesWhat old mid (AreChunks body)
    → GivesWhat mid after (IsSizeLine size) → GivesWhat after new IsSection → size ≡ 0 → GivesWhat old new (IsChunked body)
chunks_end old mid after new body size (text, gave, (chunks, all, is, are)) (line, lined, (l, good, says, spells)) (tail, ended, (trailers, each, ends)) none = (
  text ++ (line ++ tail),
  gives_more old mid new text (line ++ tail) gave (gives_more mid after new line tail lined ended),
  (
    record { chunks = chunks; last = l; trailers = trailers },
    record { chunks = all; last = (good, says ∙ none); trailers = each },
    rw is (rw spells (rw ends refl)),
    are,
  ),
)

-- one more trailer was given
pub trailer_more : (old mid new : GivenBytes) (line : List ℕ) → GivesWhat old mid AreTrailers → Gives mid new line → IsLine line → line ≢ crlf
    → GivesWhat old new AreTrailers
trailer_more old mid new line (text, gave, (trailers, all, is)) lined (t, one, spells) not = (
  text ++ line,
  gives_more old mid new text line gave lined,
  (
    trailers ++ t ∷ [],
    all_more IsTrailer trailers t all (record { one = one; some = λ e. not (spells ∙ e) }),
    rw is (rw spells (sym (text_more trailer_text trailers t))),
  ),
)

-- one more interim head was given
pub interim_more : (old mid new : GivenBytes) (head : List ℕ) (code : ℕ) (framing : Framing) → GivesWhat old mid AreInterim → Gives mid new head
    → IsHeadText code framing head → code < 200 → GivesWhat old new AreInterim
interim_more old mid new head code framing (text, gave, (heads, all, is)) came (h, said) low = (
  text ++ head,
  gives_more old mid new text head gave came,
  (
    heads ++ h ∷ [],
    all_more IsInterim heads h all (record { head = said.head; code = let e = said.code_is in omega (arith, e, low) }),
    rw is (rw said.text_is (sym (text_more print_response heads h))),
  ),
)
