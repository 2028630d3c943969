use Rattle.std.proofs.Common.{length, arith, sym, ap, ◌∙◌}
use Rattle.entry_reader.specs.Lines.{contents_of}
use Rattle.entry_reader.specs.Postings.{each_of, posting_of}
use Rattle.entry_reader.proofs.Entries.{one_more}
use Rattle.entry_reader.proofs.posting.read_each.Goals as goal

pub loop-rest-preserved : goal.loop-rest-preserved
loop-rest-preserved c = record {
  so_far =
      one_more (posting_of c.args.holder c.args.context.now) c.loop-rest.next c.loop-rest.rest.now c.cut_line.result.0.now c.cut_line.result.1.now c.loop-rest.postings.items c.push.new.self.items c.in_ok-posting.posting
      (each_of (posting_of c.args.holder c.args.context.now) c.args.line (contents_of c.args.text.now)) c.cut_line.ensures.cut (sym c.is_comment.ensures ∙ c.if-is_comment.false) c.in_ok-posting.ensures c.in_ok-push.ensures.items c.loop-rest.invariant.so_far;
  room = omega (arith, ap length c.cut_line.ensures.cut);
  utf8 = (c.cut_line.ensures.utf8 c.loop-rest.invariant.utf8).1;
}
