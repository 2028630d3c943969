use Rattle.std.proofs.Common.{List, sym, subst}
use Rattle.book.specs.Postings.{txns_of}
use Rattle.book.specs.declared.transaction.Txn.{Txn}
use Rattle.reached_walk.proofs.Running.{ok-map}
use Rattle.watchers.specs.Watches.{AreOf, numbered_from}
use Rattle.book_laws.specs.Writing.{AreSymbolsOf}
use Rattle.kept_books.specs.Beginning.{BegunBy, IsBegun}
use Rattle.kept_books.specs.Rewriting.{meant}
use Rattle.kept_books.proofs.Edits.{begun_is, renewal_inside}
use Rattle.kept_books.proofs.beginning.walk_begun.Goals as goal

pub begun_by-requires-clause-first : goal.begun_by-requires-clause-first
begun_by-requires-clause-first c = renewal_inside (txns_of c.args.items.now) (meant c.args.rewriting.now) c.in_ok-renewal.renewal c.in_ok-renewal.ensures c.requires.may

pub begun_by-requires-clause-watched : goal.begun_by-requires-clause-watched
begun_by-requires-clause-watched c = subst (λ (ts : List Txn). AreOf (numbered_from 0 ts) c.args.walks.now.watchers) (sym c.in_ok-renewal.ensures.former) c.requires.watched

pub begun_by-requires-clause-symbols : goal.begun_by-requires-clause-symbols
begun_by-requires-clause-symbols c = subst (λ (ts : List Txn). AreSymbolsOf ts c.args.walks.now.symbols) (sym c.in_ok-renewal.ensures.former) c.requires.symbols

pub returns : goal.returns
returns c =
    ok-map (BegunBy c.in_ok-renewal.renewal) (IsBegun (txns_of c.args.items.now) (meant c.args.rewriting.now))
    (λ b h. begun_is (txns_of c.args.items.now) (meant c.args.rewriting.now) c.in_ok-renewal.renewal b c.in_ok-renewal.ensures c.requires.may h) c.begun_by.result c.begun_by.ensures
