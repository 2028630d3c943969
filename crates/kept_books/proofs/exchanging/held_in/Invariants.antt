use Rattle.std.proofs.Common.{◌≡◌, take}
use Rattle.std.specs.List.{flat_map}
use Rattle.kept_books.specs.Exchanging.{held_form}
use Rattle.kept_books.proofs.exchanging.held_in.Given as goal

abbrev pub invariant-loop-form : goal.invariant-loop-form
invariant-loop-form l = l.txns.items ≡ flat_map (held_form l.book) (take l.form-index l.forms)
