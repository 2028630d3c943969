use Rattle.kept_books.proofs.Sets.{posting_all}
use Rattle.kept_books.proofs.gathering.put_posting.Goals as goal

pub returns : goal.returns
returns c =
    posting_all c.args.found.now.keys c.put_wanted.new.found.keys c.put_cost.new.found.keys c.put_amount.new.found.keys c.args.posting.now c.in_ok-put_wanted.ensures c.in_ok-put_cost.ensures c.in_ok-put_amount.ensures
