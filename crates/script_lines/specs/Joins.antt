-- The links that a join gives: words of a name, `=` and a text.
use Rattle.std.specs.Prelude.{◌≡◌, ◌||◌, ◌&&◌, ℕ, Bool, true, Option, Some, None, List, [], ◌∷◌, if◌then◌else◌, length, drop, nat_eq, codes, IfSome, IsUtf8}
use mathlib.Core.Bool.{not}
use Rattle.std.specs.List.{list_all, list_any, starts_with}
use Rattle.state_facts.specs.Links.{Links, kept_links}
use Rattle.script_lines.specs.declared.asking.joins.LinkName.{LinkName}
use Rattle.script_lines.specs.declared.asking.joins.LinkName.TheVariants.{Complete, Compensate, Status, Forget, After}

-- the beginning of a word that gives the link of this name
abbrev pub mark_of : LinkName → List ℕ
mark_of Complete = codes "complete="
mark_of Compensate = codes "compensate="
mark_of Status = codes "status="
mark_of Forget = codes "forget="
mark_of After = codes "after="

abbrev pub gives : LinkName → List ℕ → Bool
gives name word = starts_with nat_eq word (mark_of name)

abbrev pub is_link_word : List ℕ → Bool
is_link_word word = gives Complete word || (gives Compensate word || (gives Status word || (gives Forget word || gives After word)))

-- at most one word gives the link of this name
abbrev pub is_once : LinkName → List (List ℕ) → Bool
is_once name [] = true
is_once name (word ∷ words) = if gives name word then not (list_any (gives name) words) else is_once name words

-- each word gives a link, and none is given twice
abbrev pub are_link_words : List (List ℕ) → Bool
are_link_words words =
    list_all is_link_word words
    && (is_once Complete words && (is_once Compensate words && (is_once Status words && (is_once Forget words && is_once After words))))

-- the text that is given under this name
abbrev pub text_under : LinkName → List (List ℕ) → Option (List ℕ)
text_under name [] = None
text_under name (word ∷ words) = if gives name word then Some (drop (length (mark_of name)) word) else text_under name words

-- the text under this name is UTF-8, if it is given
abbrev pub IsTextUnder : LinkName → List (List ℕ) → Type 0
IsTextUnder name words = IfSome (text_under name words) IsUtf8

-- the words give these links, in any order
pub record GivesLinks (words : List (List ℕ)) (links : Links) : Type 0 where
  pub named : are_link_words words ≡ true
  pub complete : IsTextUnder Complete words
  pub compensate : IsTextUnder Compensate words
  pub status : IsTextUnder Status words
  pub forget : IsTextUnder Forget words
  pub after : IsTextUnder After words
  pub kept : kept_links (text_under Complete words) (text_under Compensate words) (text_under Status words) (text_under Forget words) (text_under After words) ≡ Some links
