-- The request of a pull, byte by byte.
use Rattle.std.specs.Prelude.{◌+◌, ◌*◌, ◌++◌, ◌∷◌, ◌≤◌, [], ℕ, List, IsUtf8, codes, length}
use Rattle.std.specs.Fmt.{decimal}
use Rattle.httparse.specs.Grammar.{AllPass, is_uri_byte}
use Rattle.wire_http.specs.declared.message.CallRequest.{CallRequest}
use Rattle.wire_http.specs.declared.message.Field.{Field}
use Rattle.wire_http.specs.MessageTexts.{line_end}
use Rattle.wire_pulls.specs.PullBodies.{pull_body}

-- the target of a pull with a query, which is empty or begins with its question mark
abbrev pub pull_target : (query : List ℕ) → List ℕ
pull_target query = codes "/peer/pull" ++ query

-- a text that may stand behind the path of a target, and that leaves room for the rest of the head
pub record IsQuery (query : List ℕ) : Type 0 where
  pub text : IsUtf8 query
  pub bytes : AllPass is_uri_byte query
  pub short : length query ≤ 16000

-- the request for what a front lacks, with a query: a head of five lines, an empty line and the
-- body
abbrev pub pull_text : (query front : List ℕ) → List ℕ
pull_text query front =
    codes "POST /peer/pull" ++ (query ++ (codes " HTTP/1.1" ++ (line_end
    ++ (codes "Host: peer" ++ (line_end
    ++ (codes "Content-Type: application/octet-stream" ++ (line_end
    ++ (codes "Content-Length: " ++ (decimal (1 + 8 * length front) ++ (line_end
    ++ (codes "Connection: close" ++ (line_end
    ++ (line_end
    ++ pull_body front)))))))))))))

-- the parts of the request

abbrev pub field : (name value : List ℕ) → Field
field name value = record { name = name; value = value }

-- the fields for a body of this size
abbrev pub pull_fields : ℕ → List Field
pull_fields size =
    field (codes "Content-Type") (codes "application/octet-stream")
    ∷ field (codes "Content-Length") (decimal size)
    ∷ field (codes "Connection") (codes "close") ∷ []

abbrev pub pull_request : (query front : List ℕ) → CallRequest
pull_request query front =
    record {
      method = codes "POST";
      target = pull_target query;
      host = codes "peer";
      fields = pull_fields (1 + 8 * length front);
      body = pull_body front;
    }
