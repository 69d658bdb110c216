use denote.Shadow.{shadow}
use denote.Text.{Utf8}
use Rattle.wire_narayana.specs.Links.{AreGiven, IsEnd}
use Rattle.wire_narayana.proofs.given_link.listed.Given as goal

-- the rest ends the text, and the links so far were given
abbrev pub invariant-loop-turn : goal.invariant-loop-turn
invariant-loop-turn l = IsEnd l.text l.rest × AreGiven l.text l.links.items × shadow (Utf8 l.rest)
