use Rattle.std.proofs.Common.{◌∙◌, sym, ap}
use Rattle.std.specs.Option.{option_copied}
use Rattle.placed_sums.proofs.Adding.{none_of_book, told_of_book}
use Rattle.placed_sums.proofs.Bounding.{txn_fits}
use Rattle.placed_sums.proofs.today.number_sum.Goals as goal

pub txn_sum-requires : goal.txn_sum-requires
txn_sum-requires g c =
    txn_fits (g.B.ByNumber.txns c.args.book.now) c.args.number c.in-Some.txn.now (sym c.txn.ensures ∙ ap option_copied c.in-Some.is) c.requires

pub returns-in-Some : goal.returns-in-Some
returns-in-Some g c =
    told_of_book (g.B.ByNumber.txns c.args.book.now) c.args.account.now c.args.symbol.now c.args.below c.args.day.0 c.args.number c.in-Some.txn.now c.txn_sum.result (sym c.txn.ensures ∙ ap option_copied c.in-Some.is) c.txn_sum.ensures

pub returns-in-None : goal.returns-in-None
returns-in-None g c =
    none_of_book (g.B.ByNumber.txns c.args.book.now) c.args.account.now c.args.symbol.now c.args.below c.args.day.0 c.args.number c.zero.result (sym c.txn.ensures ∙ ap option_copied c.in-None.is) c.zero.ensures
