-- A book whose run has just begun.
use Rattle.std.specs.Prelude.{◌≡◌, [], Some}
use Rattle.state_book.specs.Books.{BookState}

-- a run is on, with no call yet, and its opening is the view
abbrev pub IsFresh : {S : Type 0} → BookState S → Type 0
IsFresh book = (book.opening ≡ Some book.records) × (book.trail ≡ [])
