use Rattle.std.proofs.Common.{lit<}
use Rattle.entry_reader.proofs.Lines.{contents_cut}
use Rattle.entry_reader.proofs.Texts.{before_byte, after_byte}
use Rattle.entry_reader.proofs.scan.cut_line.Goals as goal

pub returns-clause-cut : goal.returns-clause-cut
returns-clause-cut c =
    rw (c.behind.ensures, c.before_white.ensures.value, c.split_at.ensures.front, c.place_of-end.ensures.place) (contents_cut c.args.text.now c.requires)

pub returns-clause-utf8 : goal.returns-clause-utf8
returns-clause-utf8 c = λ e. (
  c.before_white.ensures.utf8 (rw (c.split_at.ensures.front, c.place_of-end.ensures.place) (before_byte c.args.text.now 10 (lit< tt) e)),
  rw (c.behind.ensures, c.place_of-end.ensures.place) (after_byte c.args.text.now 10 (lit< tt) e),
)
