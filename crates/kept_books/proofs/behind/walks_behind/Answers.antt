use Rattle.std.proofs.Common.{◌++◌, List, ap, subst, ◌∙◌, arith}
use Rattle.book.specs.Postings.{txns_of}
use Rattle.book.specs.declared.transaction.Txn.{Txn}
use Rattle.watchers.specs.Watches.{AreOf, numbered_from}
use Rattle.kept_books.proofs.Renewing.{lent_of, watches_behind}
use Rattle.kept_books.proofs.Sets.{behind_lent}
use Rattle.kept_books.proofs.behind.walks_behind.Goals as goal

pub kept_behind-requires-clause-kept : goal.kept_behind-requires-clause-kept
kept_behind-requires-clause-kept c = c.requires.walks.kept

pub returns : goal.returns
returns c =
    let written = txns_of c.args.items.now in
    record {
      kept = c.in_ok-kept.ensures;
      watched =
          subst (λ (ts : List Txn). AreOf (numbered_from 0 (written ++ ts)) c.in_ok-watchers.watchers) (ap lent_of c.as_slice-2.ensures.value ∙ c.in_ok-forms.ensures)
          (watches_behind c.in_ok-watchers.watchers (lent_of c.as_slice.result.now) (lent_of c.as_slice-2.result.now) written c.args.walks.now.watchers _ (ap lent_of (c.as_slice.ensures.value ∙ c.no_entries-nothing.ensures))
          (let size = c.requires.size in omega (arith, size)) c.requires.walks.watched c.in_ok-watchers.ensures);
      symbols = behind_lent written (txns_of c.args.more.now) _ c.args.walks.now.symbols _ c.in_ok-symbols.symbols (ap lent_of c.as_slice-4.ensures.value ∙ c.in_ok-forms.ensures) c.as_slice-3.ensures c.requires.walks.symbols c.in_ok-symbols.ensures;
    }
