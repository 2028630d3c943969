use Rattle.std.proofs.Common.{◌≡◌, ◌++◌, take}
use Rattle.std.specs.List.{flat_map}
use Rattle.kept_books.specs.Exchanging.{free_form}
use Rattle.kept_books.proofs.exchanging.push_all_free.Given as goal

abbrev pub invariant-loop-form : goal.invariant-loop-form
invariant-loop-form l = l.txns.items ≡ l.fn.txns.items ++ flat_map (free_form l.book) (take l.form-index l.forms)
