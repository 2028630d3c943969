-- The order of a group's postings: parts of a transaction on a day.
use Rattle.std.specs.Prelude.{ℕ, ◌==◌, Bool, true, not, ◌&&◌, List, [], ◌++◌, filter, Option, Some, None, is_none, if◌then◌else◌}
use Rattle.std.specs.List.{list_any}
use Rattle.book.specs.declared.transaction.Posting.{Posting}
use Rattle.book.specs.declared.transaction.Txn.{Txn}
use Rattle.book.specs.SumsBefore.{is_assigned}
use Rattle.entry_balance.specs.Entry.{settled}
use Rattle.balancing.specs.declared.groups.Part.{Part}
use Rattle.balancing.specs.declared.groups.Part.TheVariants as part
use Rattle.balancing.specs.Groups.{day_of}

-- Parts of a transaction: all postings, all but those whose missing amount was found, or those alone.
abbrev pub is_found : Posting → Bool
is_found p = p.filled && is_none p.wanted

abbrev pub is_in : Part → Posting → Bool
is_in part.All p = true
is_in part.ButFound p = not (is_found p)
is_in part.Found p = is_found p

-- a posting is of a day and of a part
abbrev pub is_chosen : Part → ℕ → Txn → Posting → Bool
is_chosen part day t p = (day_of t p == day) && is_in part p

-- the postings of a part on a day
abbrev pub part_on : Part → ℕ → Txn → List Posting
part_on part day t = filter (is_chosen part day t) t.postings

-- the postings of a transaction's group on a day: where amounts were assigned, those that were missing come last
abbrev pub postings_on : ℕ → Txn → List Posting
postings_on day t =
    if list_any is_assigned t.postings then part_on part.ButFound day t ++ part_on part.Found day t
    else part_on part.All day t

-- the postings of a group, with what balancing finds
abbrev pub postings_of_group : ℕ → Option Txn → List Posting
postings_of_group day None = []
postings_of_group day (Some t) = postings_on day (settled t)
