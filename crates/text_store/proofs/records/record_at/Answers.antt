use Rattle.std.proofs.Common.{arith}
use Rattle.text_store.proofs.Reading.{short_end, shut_end, cut_end, next_entry, next_front}
use Rattle.text_store.proofs.records.record_at.Goals as goal

pub returns-then-saturating_sub-lt11 : goal.returns-then-saturating_sub-lt11
returns-then-saturating_sub-lt11 c = short_end c.args.file.now c.args.at (omega arith)

pub returns-then-file-at-ne1 : goal.returns-then-file-at-ne1
returns-then-file-at-ne1 c = shut_end c.args.file.now c.args.at (omega arith) c.if-file-at-ne1.true

pub returns-then-len-file : goal.returns-then-len-file
returns-then-len-file c = cut_end c.args.file.now c.args.at (omega arith) c.if-file-at-ne1.false c.number_at-len.result c.number_at-len.ensures (omega arith)

pub returns : goal.returns
returns c = (
  next_entry c.args.file.now c.args.at (omega arith) c.if-file-at-ne1.false c.number_at-len.result c.number_at-len.ensures (omega arith),
  omega arith,
  omega arith,
  next_front c.args.file.now c.args.at (omega arith) c.if-file-at-ne1.false c.number_at-len.result c.number_at-len.ensures (omega arith),
)
