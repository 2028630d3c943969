use Rattle.std.proofs.Common.{refl, ap, arith}
use Rattle.kept_books.specs.Beginning.{lent}
use Rattle.kept_books.proofs.Renewing.{lent_of, lent_size, watches_here}
use Rattle.kept_books.proofs.Sets.{both_lent}
use Rattle.kept_books.proofs.beginning.begun_by.Goals as goal

pub spots_of-requires : goal.spots_of-requires
spots_of-requires c = let first = c.requires.first in omega (arith, first)

pub watches_renewed-requires : goal.watches_renewed-requires
watches_renewed-requires c = let first = c.requires.first in omega (arith, first)

pub returns : goal.returns
returns c =
    let x = c.args.renewal in
    record {
      renewal = refl;
      rise = c.in_ok-spots.ensures.rise;
      spots = c.in_ok-spots.ensures.same;
      watched = watches_here c.in_ok-watchers.watchers (lent x.former) _ (lent x.forms) _ c.args.walks.now.watchers x.first (ap lent_of c.as_slice.ensures.value) (ap lent_of c.as_slice-2.ensures.value) (let first = c.requires.first in let size = lent_size x.former.txns.items in omega (arith, first, size)) c.requires.watched c.in_ok-watchers.ensures;
      symbols = both_lent x.first (lent x.former) (lent x.forms) _ c.args.walks.now.symbols _ c.in_ok-symbols.symbols (ap lent_of c.as_slice-4.ensures.value) c.as_slice-3.ensures c.requires.symbols c.in_ok-symbols.ensures;
    }
