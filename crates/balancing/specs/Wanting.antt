-- Whether there are assertions.
use Rattle.std.specs.Prelude.{Bool, List, is_some}
use Rattle.std.specs.List.{list_any}
use Rattle.book.specs.declared.transaction.Posting.{Posting}
use Rattle.book.specs.declared.transaction.Txn.{Txn}

-- a posting has one
abbrev pub wants : Posting → Bool
wants p = is_some p.wanted

-- one of some postings has one
abbrev pub has_wanted : List Posting → Bool
has_wanted ps = list_any wants ps

-- a posting of some transactions has one
abbrev pub any_wanted : List Txn → Bool
any_wanted txns = list_any (λ t. has_wanted t.postings) txns
