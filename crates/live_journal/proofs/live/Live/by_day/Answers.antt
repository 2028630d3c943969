use Rattle.std.proofs.Common.{◌≡◌, Ok, sym, ap, ◌∙◌}
use Rattle.live_journal.specs.Loading.{book_from, book_of, txns_from}
use Rattle.live_journal.proofs.live.Live.by_day.Goals as goal

pub new-requires-clause-fits : goal.new-requires-clause-fits
new-requires-clause-fits c = rw c.as_slice.ensures c.self.invariant.fits

pub new-requires-clause-told : goal.new-requires-clause-told
new-requires-clause-told c = rw c.as_slice.ensures c.self.invariant.of_book.walks.kept.stand.told

pub returns : goal.returns
returns c =
    let s = c.self.inside in
    let book : book_of s.year s.text ≡ Ok s.loaded.book = ap book_from c.self.invariant.read ∙ c.self.invariant.loads in
    rw (← c.self.view_is) (c.new.ensures ∙ c.as_slice.ensures ∙ sym (ap txns_from book))
