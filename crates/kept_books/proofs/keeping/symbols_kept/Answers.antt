use Rattle.std.proofs.Common.{ap, sym, ◌∙◌, arith}
use Rattle.std.specs.Option.{option_copied}
use Rattle.reached_walk.proofs.Entries.{got-inside}
use Rattle.kept_books.specs.Beginning.{lent}
use Rattle.kept_books.proofs.Gathered.{over_nothing}
use Rattle.kept_books.proofs.Renewing.{lent_size}
use Rattle.kept_books.proofs.keeping.symbols_kept.Goals as goal

pub symbols_over-requires-clause-there : goal.symbols_over-requires-clause-there
symbols_over-requires-clause-there c = sym c.txn.ensures ∙ ap option_copied c.in-Some.is

pub symbols_over-requires-clause-alone : goal.symbols_over-requires-clause-alone
symbols_over-requires-clause-alone c =
    let inside = got-inside (lent c.args.renewal.now.former) c.args.renewal.now.first c.in-Some.old.now (sym c.txn.ensures ∙ ap option_copied c.in-Some.is) in
    let size = lent_size c.args.renewal.now.former.txns.items in
    c.requires.alone (omega (arith, inside, size))

pub returns-in-None : goal.returns-in-None
returns-in-None c = over_nothing c.args.renewal.now c.args.symbols (sym c.txn.ensures ∙ ap option_copied c.in-None.is) c.requires.both
