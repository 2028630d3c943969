use Rattle.std.proofs.Common.{cond, List, ap, ◌∙◌}
use Rattle.std.specs.List.{list_any}
use Rattle.book.specs.declared.transaction.Posting.{Posting}
use Rattle.placed_sums.specs.Numbers.{is_on}
use Rattle.shared_days.specs.Days.{numbers_now}
use Rattle.shared_days.specs.Places.{with_number}
use Rattle.shared_days.proofs.changing.put_txn.Goals as goal

pub returns : goal.returns
returns c = λ day.
    c.in_ok-put_postings.ensures day
    ∙ ap (λ (ps : List Posting). cond (list_any (is_on day.0 c.args.txn.now) ps) (with_number c.args.number (numbers_now day c.args.days.now)) (numbers_now day c.args.days.now)) c.as_slice.ensures
