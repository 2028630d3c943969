use Rattle.std.proofs.Common.{refl}
use Rattle.kept_books.proofs.written.renewal_at.Goals as goal

pub returns : goal.returns
returns c = record { former = refl; first = refl; forms = c.in_ok-forms.ensures }
