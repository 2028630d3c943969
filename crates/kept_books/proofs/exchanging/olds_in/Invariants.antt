use Rattle.std.proofs.Common.{◌≡◌, take}
use Rattle.kept_books.specs.Exchanging.{olds_in}
use Rattle.kept_books.proofs.exchanging.olds_in.Given as goal

abbrev pub invariant-loop-form : goal.invariant-loop-form
invariant-loop-form l = l.olds.items ≡ olds_in l.book (take l.form-index l.forms)
