use Rattle.std.proofs.Common.{IfOk, sym, subst}
use Rattle.kept_books.specs.Beginning.{IsRenewal}
use Rattle.kept_books.specs.Rewriting.{meant}
use Rattle.kept_books.specs.declared.rewriting.Rewriting.{Rewriting}
use Rattle.kept_books.proofs.Renewing.{lent_of}
use Rattle.kept_books.proofs.written.renewal_by.Goals as goal

pub returns-in-Behind : goal.returns-in-Behind
returns-in-Behind c = subst (λ (r : Rewriting). IfOk c.renewal_behind.result (IsRenewal (lent_of c.args.former.txns.items) (meant r))) (sym c.in-Behind.is) c.renewal_behind.ensures

pub returns-in-At : goal.returns-in-At
returns-in-At c = subst (λ (r : Rewriting). IfOk c.renewal_at.result (IsRenewal (lent_of c.args.former.txns.items) (meant r))) (sym c.in-At.is) c.renewal_at.ensures
