use Rattle.std.proofs.Common.{◌∙◌, sym, subst, arith, take-take}
use Rattle.std.proofs.lemmas.List.{length-take}
use Rattle.std.specs.Io.{StopsAt}
use Rattle.std.specs.Io.KnownBytes.{Consumes}
use Rattle.std.specs.Io.BufRead.{FillKeeps}
use Rattle.std.proofs.BufReadLemmas.{Consumes_shown}
use Rattle.httparse.specs.Ascii.{line_feed}
use Rattle.wire_http.proofs.Lines.{copied, within}
use Rattle.wire_http.proofs.over.take_in_line.Goals as goal

pub returns-clause-bytes : goal.returns-clause-bytes
returns-clause-bytes g c =
    let count = c.length_of_line-count.result in
    let lent = c.in-Ok.lent.now in
    let rested = c.fill_buf.follows.lender-at-none in
    let filled = subst (FillKeeps _ (g.R.Read.remaining rested) (g.R.BufRead.consumable_len rested)) c.in-Ok.is c.fill_buf.follows.holds-at-none in
    let moved = Consumes_shown _ _ _ _ lent count (within _ count lent c.length_of_line-count.ensures.bound) c.in-Ok.ensures.front c.in-Ok.ensures.end
    filled.0 filled.1 c.consume.ensures.bytes in
    subst (Consumes _ _) (sym (copied count lent _ _ (within _ count lent c.length_of_line-count.ensures.bound) c.copy_from_slice.ensures.after)) moved.0

pub returns-clause-line : goal.returns-clause-line
returns-clause-line g c =
    let count = c.length_of_line-count.result in
    let lent = c.in-Ok.lent.now in
    let fits = within _ count lent c.length_of_line-count.ensures.bound in
    subst (λ bs. StopsAt bs line_feed)
    (take-take count _ lent (omega (arith, c.length_of_line-count.ensures.bound, length-take c.min-most.result lent)) ∙ sym (copied count lent _ _ fits c.copy_from_slice.ensures.after))
    c.length_of_line-count.ensures.line
