-- Where a link stands in a text.
use Rattle.std.proofs.Common.{◌≡◌, ◌++◌, ℕ, List, [], ◌∷◌, take, drop, string_bytes, sym, ap, ◌∙◌, lit<, append_assoc, take-append-drop}
use Rattle.std.proofs.lemmas.Str.Pattern.{drop_at_char}
use Rattle.std.specs.Str.Pattern.{FindsChar, SplitsAroundMatch}
use Rattle.wire_narayana.specs.declared.given_link.GivenLink.{GivenLink}
use Rattle.wire_narayana.specs.Links.{AreGiven, IsEnd, IsGiven}

-- what std's search for `>` returns
pub parted_at : (bs front back : List ℕ) → SplitsAroundMatch (FindsChar 62) bs front back → bs ≡ front ++ 62 ∷ back
parted_at bs front back (i, j, (_, at), is, rest, _, _, _) =
    sym (take-append-drop i bs) ∙ ap (λ l. take i bs ++ l) (drop_at_char 62 bs i j at (lit< tt)) ∙ ap (λ l. l ++ 62 ∷ drop j bs) (sym is) ∙ ap (λ l. front ++ 62 ∷ l) (sym rest)

-- after some blanks a link is between `<` and `>`
pub given_at : (text trimmed tail url behind : List ℕ) (n : ℕ) → trimmed ≡ drop n text → trimmed ≡ 60 ∷ tail → tail ≡ url ++ 62 ∷ behind → text ≡ take n text ++ (60 ∷ (url ++ (62 ∷ behind)))
given_at text trimmed tail url behind n e f g =
    sym (take-append-drop n text) ∙ ap (λ l. take n text ++ l) (sym e ∙ f ∙ ap (λ (l : List ℕ). 60 ∷ l) g)

-- and what follows it ends the text
pub ends_at : (text front url behind rest : List ℕ) (i : ℕ) → text ≡ front ++ (60 ∷ (url ++ (62 ∷ behind))) → rest ≡ drop i behind → IsEnd text rest
ends_at text front url behind rest i e f = (
  front ++ (60 ∷ (url ++ (62 ∷ take i behind))),
  e ∙ ap (λ l. front ++ (60 ∷ (url ++ (62 ∷ l)))) (sym (take-append-drop i behind) ∙ ap (λ l. take i behind ++ l) (sym f))
      ∙ ap (λ l. front ++ (60 ∷ l)) (sym (append_assoc url (62 ∷ take i behind) rest)) ∙ sym (append_assoc front (60 ∷ (url ++ (62 ∷ take i behind))) rest),
)

-- an end of an end is an end
pub end_of_end : (text end last : List ℕ) → IsEnd text end → IsEnd end last → IsEnd text last
end_of_end text end last (front, e) (more, f) = (front ++ more, e ∙ ap (λ l. front ++ l) f ∙ sym (append_assoc front more last))

-- a link that an end of a text gives is given by the whole text
pub given_in_end : (text end url : List ℕ) → IsEnd text end → IsGiven end url → IsGiven text url
given_in_end text end url (front, e) (more, back, f) = (front ++ more, back, e ∙ ap (λ l. front ++ l) f ∙ sym (append_assoc front more (60 ∷ (url ++ (62 ∷ back)))))

-- one more link
pub given_more : (text : List ℕ) (links : List GivenLink) (link : GivenLink) → AreGiven text links → IsGiven text (string_bytes link.url) → AreGiven text (links ++ link ∷ [])
given_more text [] link all one = (one, tt)
given_more text (l ∷ links) link (first, all) one = (first, given_more text links link all one)
