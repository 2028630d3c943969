use Rattle.std.proofs.Common.{◌≡◌, ◌∙◌, ◌+◌, ◌<◌, ◌++◌, List, [], length, drop, sym, ap, arith, rules}
use Rattle.std.proofs.lemmas.List.{append-nil, drop_all}
use Rattle.book.specs.declared.transaction.Txn.{Txn}
use Rattle.placed_sums.specs.Placing.{text_places}
use Rattle.placed_sums.proofs.Daily.{text_more}
use Rattle.placed_sums.proofs.days.places_of.Goals as goal

pub loop-number-preserved : goal.loop-number-preserved
loop-number-preserved c =
    text_more (text_places 0 c.args.book.now) c.loop-number.places.items c.push_txn.new.places.items c.args.book.now c.loop-number.number c.index-book-number.result (search rules) c.index-book-number.is c.loop-number.invariant c.in_ok-push_txn.ensures

pub returns : goal.returns
returns c =
    sym (append-nil c.loop-number.places.items)
    ∙ sym (ap (λ (ts : List Txn). c.loop-number.places.items ++ text_places c.loop-number.number ts) (drop_all c.loop-number.number c.args.book.now (omega arith)))
    ∙ c.loop-number.invariant
