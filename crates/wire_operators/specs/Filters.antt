-- Which LRAs a list shows.
use Rattle.std.specs.Prelude.{◌&&◌, ◌==◌, ◌||◌, ℕ, Bool, true, List, codes, drop, length, not, nat_lt, take, Option, Some, None, if◌then◌else◌, is_none}
use Rattle.std.specs.List.{before_first, after_first, position_or_len}
use Rattle.std.specs.Str.{bytes_eq}
use Rattle.state_ids.specs.Ids.{Id}
use Rattle.state_ids.specs.declared.status.LraStatus.{LraStatus}
use Rattle.state_ids.specs.declared.status.LraStatus.TheVariants as status
use Rattle.state_ids.specs.contracts.status.LraStatusPartialEq.TheImpl as of_statuses
use Rattle.wire_api.specs.Names.{id_of}
use Rattle.state_book.specs.declared.holdings.Summary.{Summary}
use Rattle.wire_operators.specs.declared.filter.Filter.{Filter}

-- the status that has this name
abbrev pub status_named : List ℕ → Option LraStatus
status_named name =
    if bytes_eq name (codes "Active") then Some status.Active
    else if bytes_eq name (codes "Closing") then Some status.Closing
    else if bytes_eq name (codes "Closed") then Some status.Closed
    else if bytes_eq name (codes "FailedToClose") then Some status.FailedToClose
    else if bytes_eq name (codes "Cancelling") then Some status.Cancelling
    else if bytes_eq name (codes "Cancelled") then Some status.Cancelled
    else if bytes_eq name (codes "FailedToCancel") then Some status.FailedToCancel
    else None

-- `after=` and an id; `status=` and a status
abbrev pub after_at : List ℕ → Option Id
after_at text = if bytes_eq (take 6 text) (codes "after=") then id_of (drop 6 text) else None

abbrev pub status_at : List ℕ → Option LraStatus
status_at text = if bytes_eq (take 7 text) (codes "status=") then status_named (drop 7 text) else None

abbrev pub filter_of : Option Id → Option LraStatus → Bool → Filter
filter_of after_ shown roots = record { after = after_; status = shown; is_of_roots = roots }

-- one of the two
abbrev pub one_by : Option Id → Option LraStatus → Bool → Option Filter
one_by (Some id) shown roots = Some (filter_of (Some id) None roots)
one_by None (Some shown) roots = Some (filter_of None (Some shown) roots)
one_by None None roots = None

abbrev pub one_of : List ℕ → Bool → Option Filter
one_of text roots = one_by (after_at text) (status_at text) roots

-- first an id, and then a status
abbrev pub both_by : Option Id → Option LraStatus → Bool → Option Filter
both_by (Some id) (Some shown) roots = Some (filter_of (Some id) (Some shown) roots)
both_by (Some id) None roots = None
both_by None shown roots = None

abbrev pub both_of : (first second : List ℕ) → Bool → Option Filter
both_of first second roots = both_by (after_at first) (status_at second) roots

abbrev pub is_ampersand : ℕ → Bool
is_ampersand b = b == 38

abbrev pub filter_by : List ℕ → Bool → Option Filter
filter_by query roots =
    if nat_lt (position_or_len is_ampersand query) (length query)
    then both_of (before_first is_ampersand query) (after_first is_ampersand query) roots
    else one_of query roots

-- what a query asks for: all, `after=ID`, `status=S`, or both, separated by `&`, in this order
abbrev pub filter_in : Option (List ℕ) → Bool → Option Filter
filter_in (Some query) roots = filter_by query roots
filter_in None roots = Some (filter_of None None roots)

-- it has the status that is asked for, if one is, and is a root if only roots are asked for
abbrev pub has_status : Option LraStatus → LraStatus → Bool
has_status (Some s) shown = of_statuses.ghosts.eq s shown
has_status None shown = true

abbrev pub shows : Filter → Summary → Bool
shows f s = has_status f.status s.status && (not f.is_of_roots || is_none s.parent)
