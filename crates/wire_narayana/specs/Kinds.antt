-- The names and HTTP methods of a participant's calls, and the letters for them in a carried link.
use Rattle.std.specs.Prelude.{ℕ, List, [], ◌++◌, codes}
use Rattle.wire_narayana.specs.declared.link_kind.LinkKind.{LinkKind}
use Rattle.wire_narayana.specs.declared.link_kind.LinkKind.TheVariants.{Compensate, Complete, Status, Forget, After}
use Rattle.wire_narayana.specs.declared.link_kind.Query.{Query}
use Rattle.wire_narayana.specs.declared.link_kind.Query.TheVariants.{Own, Jakarta, Javax}

-- a kind's name, as in `rel` of a link
abbrev pub kind_name : LinkKind → List ℕ
kind_name Compensate = codes "compensate"
kind_name Complete = codes "complete"
kind_name Status = codes "status"
kind_name Forget = codes "forget"
kind_name After = codes "after"

-- the HTTP method with which a participant is called
abbrev pub kind_method : LinkKind → List ℕ
kind_method Compensate = codes "PUT"
kind_method Complete = codes "PUT"
kind_method Status = codes "GET"
kind_method Forget = codes "DELETE"
kind_method After = codes "PUT"

-- the text that a form of query adds to a link: nothing, or the method's annotation
unfoldable pub query_text : LinkKind → Query → List ℕ
query_text kind Own = []
query_text kind Jakarta = codes "?method=jakarta.ws.rs." ++ kind_method kind
query_text kind Javax = codes "?method=javax.ws.rs." ++ kind_method kind

-- one letter for a kind and a form of query
abbrev pub letter_of : LinkKind → Query → ℕ
letter_of Compensate Own = 99
letter_of Compensate Jakarta = 67
letter_of Compensate Javax = 68
letter_of Complete Own = 107
letter_of Complete Jakarta = 75
letter_of Complete Javax = 76
letter_of Status Own = 115
letter_of Status Jakarta = 83
letter_of Status Javax = 84
letter_of Forget Own = 102
letter_of Forget Jakarta = 70
letter_of Forget Javax = 71
letter_of After Own = 97
letter_of After Jakarta = 65
letter_of After Javax = 66
