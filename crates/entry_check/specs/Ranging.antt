-- Postings of one transaction whose sums stay within the bound.
use Rattle.std.specs.Prelude.{Bool, ◌&&◌, List}
use Rattle.book.specs.declared.transaction.Posting.{Posting}
use Rattle.entry_balance.specs.Tally.{turnover_fits}
use Rattle.entry_balance.specs.Entry.{moved}
use Rattle.entry_check.specs.Checked.{Told, asked_fit}

-- what some postings move stays within the bound, by itself and beside each sum that one of them asks for
abbrev pub are_in_range : Told → List Posting → Bool
are_in_range told ps = turnover_fits (moved ps) && asked_fit told ps ps
