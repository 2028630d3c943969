use Rattle.std.proofs.Common.{sym, subst}
use Rattle.generated.specs.Asking.{AreQueries}
use Rattle.generated.proofs.Readable.{are_queries}
use Rattle.generated.proofs.Stopping.{autos_whole, unread}
use Rattle.generated.proofs.auto.with_auto.Goals as goal

pub book_with-requires : goal.book_with-requires
book_with-requires g c =
    subst AreQueries (sym c.as_slice-rules.ensures)
    (are_queries c.args.day.0 c.in-Ok.reads c.means_its_terms.ensures.posting (c.in-Ok.ensures.0).queries)

pub returns-in-Err : goal.returns-in-Err
returns-in-Err g c =
    unread c.args.day.0 c.args.items.now c.args.book.now.txns (g.M.Maker.refusals c.args.maker.now) (g.M.Maker.refusals c.read_rules.new.maker) (g.M.Maker.last_refused c.args.maker.now) (g.M.Maker.last_refused c.read_rules.new.maker) c.in-Err.fault c.in-Err.ensures

pub returns-in-Ok : goal.returns-in-Ok
returns-in-Ok g c =
    autos_whole c.args.day.0 c.args.items.now c.args.book.now.txns c.in-Ok.reads (g.M.Maker.refusals c.args.maker.now) (g.M.Maker.refusals c.read_rules.new.maker)
    (g.M.Maker.last_refused c.args.maker.now) (g.M.Maker.last_refused c.read_rules.new.maker) c.book_with.result c.as_slice-txns.result.now c.as_slice-rules.result.now
    c.as_slice-txns.ensures c.as_slice-rules.ensures c.in-Ok.ensures.0 c.in-Ok.ensures.1 c.book_with.ensures
