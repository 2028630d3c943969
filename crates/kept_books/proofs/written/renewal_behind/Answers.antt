use Rattle.std.proofs.Common.{refl, arith}
use Rattle.kept_books.proofs.Renewing.{lent_size}
use Rattle.kept_books.proofs.written.renewal_behind.Goals as goal

pub returns : goal.returns
returns c =
    let size = lent_size c.args.former.txns.items in
    record { former = refl; first = omega (arith, size); forms = c.in_ok-forms.ensures }
