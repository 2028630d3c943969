use Rattle.kept_texts.proofs.Lineless.{book_asks, changed_kept, moved_kept}
use Rattle.kept_texts.proofs.laws.no_line_is_looked_at.Goals as goal

pub returns-clause-items : goal.returns-clause-items
returns-clause-items c items book edited n by h = record { styles = moved_kept n by items edited.styles h.styles; asked = h.asked }

pub returns-clause-book : goal.returns-clause-book
returns-clause-book c items book edited t by h = record { styles = h.styles; asked = book_asks t by book edited.asked h.asked }

pub returns-clause-changed : goal.returns-clause-changed
returns-clause-changed c items book edited n t change few h = record {
  styles = changed_kept n change.by change.placed items edited.styles few h.styles;
  asked = book_asks t change.by.lines book edited.asked h.asked;
}
