-- A body in chunks (RFC 9112, section 7.1): chunked-body = *chunk last-chunk trailer-section CRLF.
use Rattle.std.specs.Prelude.{◌≡◌, ◌≢◌, ℕ, ◌<◌, List, [], ◌∷◌, ◌++◌, length}
use Rattle.std.specs.List.{AllByRecursion, flat_map}
use Rattle.httparse.specs.Grammar.{ChunkLine, IsChunkLine, chunk_size, print_chunk_line}

-- the end of a line
abbrev pub crlf : List ℕ
crlf = 13 ∷ 10 ∷ []

-- a line that states a size, and the bytes of that size behind it
pub record Chunk : Type 0 where
  pub line : ChunkLine
  pub bytes : List ℕ

-- chunk = chunk-size [ chunk-ext ] CRLF chunk-data CRLF, with at least one byte of data
pub record IsChunk (c : Chunk) : Type 0 where
  pub line : IsChunkLine c.line
  pub size : chunk_size c.line ≡ length c.bytes
  pub some : 0 < length c.bytes

abbrev pub chunk_text : Chunk → List ℕ
chunk_text c = print_chunk_line c.line ++ (c.bytes ++ crlf)

abbrev pub chunk_bytes : Chunk → List ℕ
chunk_bytes c = c.bytes

-- last-chunk = 1*"0" [ chunk-ext ] CRLF
abbrev pub IsLast : ChunkLine → Type 0
IsLast l = IsChunkLine l × (chunk_size l ≡ 0)

-- a line up to its LF, which is not empty: nothing else is required of a trailer
pub record IsTrailer (t : List ℕ) : Type 0 where
  pub one : AllByRecursion (λ b. b ≢ 10) t
  pub some : t ++ 10 ∷ [] ≢ crlf

abbrev pub trailer_text : List ℕ → List ℕ
trailer_text t = t ++ 10 ∷ []

-- the trailers, and an empty line
abbrev pub section_text : List (List ℕ) → List ℕ
section_text trailers = flat_map trailer_text trailers ++ crlf

-- a body: its chunks, the last chunk, and the trailers
pub record Body : Type 0 where
  pub chunks : List Chunk
  pub last : ChunkLine
  pub trailers : List (List ℕ)

pub record IsBody (b : Body) : Type 0 where
  pub chunks : AllByRecursion IsChunk b.chunks
  pub last : IsLast b.last
  pub trailers : AllByRecursion IsTrailer b.trailers

-- the body as a text
abbrev pub body_text : Body → List ℕ
body_text b = flat_map chunk_text b.chunks ++ (print_chunk_line b.last ++ section_text b.trailers)

-- the bytes of its chunks
abbrev pub body_bytes : Body → List ℕ
body_bytes b = flat_map chunk_bytes b.chunks

-- the text is a body in chunks, and these are the bytes of its chunks
abbrev pub IsChunked : List ℕ → List ℕ → Type 0
IsChunked bytes text = (b : Body) × IsBody b × (text ≡ body_text b) × (bytes ≡ body_bytes b)

-- The parts in the order in which they are read

-- a line, including its end
abbrev pub IsLine : List ℕ → Type 0
IsLine line = (t : List ℕ) × AllByRecursion (λ b. b ≢ 10) t × (line ≡ t ++ 10 ∷ [])

-- the line before a chunk of this size
abbrev pub IsSizeLine : ℕ → List ℕ → Type 0
IsSizeLine size line = (l : ChunkLine) × IsChunkLine l × (chunk_size l ≡ size) × (line ≡ print_chunk_line l)

-- chunks with these bytes
abbrev pub AreChunks : List ℕ → List ℕ → Type 0
AreChunks bytes text = (chunks : List Chunk) × AllByRecursion IsChunk chunks × (text ≡ flat_map chunk_text chunks) × (bytes ≡ flat_map chunk_bytes chunks)

-- trailers without the empty line that ends them
abbrev pub AreTrailers : List ℕ → Type 0
AreTrailers text = (trailers : List (List ℕ)) × AllByRecursion IsTrailer trailers × (text ≡ flat_map trailer_text trailers)

abbrev pub IsSection : List ℕ → Type 0
IsSection text = (trailers : List (List ℕ)) × AllByRecursion IsTrailer trailers × (text ≡ section_text trailers)
