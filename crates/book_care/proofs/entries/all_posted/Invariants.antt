use Rattle.std.proofs.Common.{◌≡◌, ◌+◌, ◌++◌, drop}
use Rattle.book.specs.Styles.{style_in}
use Rattle.book_care.specs.Entries.{posted_from}
use Rattle.book_care.proofs.entries.all_posted.Given as goal

abbrev pub invariant-loop-line : goal.invariant-loop-line
invariant-loop-line l = record {
  number : l.number ≡ l.line-index + 2;
  whole : posted_from (style_in l.styles) 2 l.lines ≡ l.postings.items ++ posted_from (style_in l.styles) l.number (drop l.line-index l.lines);
}
