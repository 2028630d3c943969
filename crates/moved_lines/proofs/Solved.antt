-- A book solves what is written under any lines.
use Rattle.std.proofs.Common.{ℕ, List, sym, ap, ◌∙◌}
use Rattle.book.specs.declared.transaction.Txn.{Txn}
use Rattle.entry_balance.specs.Tally.{turnover_fits}
use Rattle.balancing.specs.Solves.{Solves}
use Rattle.moved_lines.specs.Relined.{relined}
use Rattle.moved_lines.proofs.Placing.{asserted-all, assigned-all}
use Rattle.moved_lines.proofs.Settles.{allowed-all, balanced-all, made-all, moved-all, settled-all, unmarked-all}

pub solves-relined : (f : ℕ → ℕ → ℕ) (written book : List Txn) → Solves written book → Solves (relined f written) (relined f book)
solves-relined f written book s = record {
  unmarked = unmarked-all f 0 written ∙ s.unmarked;
  allowed = allowed-all f 0 written ∙ s.allowed;
  made = relined f s.made;
  kept = made-all f 0 written s.made s.kept;
  balanced = balanced-all f 0 s.made s.balanced;
  found = ap (relined f) s.found ∙ sym (settled-all f 0 s.made);
  assigned = assigned-all f book s.assigned;
  asserted = asserted-all f book s.asserted;
  fits = ap turnover_fits (moved-all f 0 book) ∙ s.fits;
}
