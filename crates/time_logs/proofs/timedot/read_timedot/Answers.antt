use Rattle.std.proofs.Common.{List, None, ap, ◌∙◌, arith}
use Rattle.entry_reader.specs.Lines.{contents_of}
use Rattle.book.specs.declared.transaction.Txn.{Txn}
use Rattle.time_logs.specs.DotSteps.{after_content, finished}
use Rattle.time_logs.specs.Faults.{◌>>=◌}
use Rattle.time_logs.specs.Walks.{walk}
use Rattle.time_logs.proofs.Noting.{entries_are}
use Rattle.time_logs.proofs.timedot.read_timedot.Goals as goal

pub loop-rest-init : goal.loop-rest-init
loop-rest-init c = record {
  so_far =
      ap (λ (done : List Txn). walk after_content (record { done = done; head = None }) 1 (contents_of c.args.text.now) >>= finished) c.new.ensures.items
      ∙ entries_are (contents_of c.args.text.now);
  room = omega arith;
}
