use Rattle.std.proofs.Common.{◌≡◌, take}
use Rattle.walked_edits.specs.Forms.{with_forms}
use Rattle.walked_edits.proofs.tests.put_all.Given as goal

abbrev pub invariant-loop-form : goal.invariant-loop-form
invariant-loop-form l = l.book.items ≡ with_forms l.fn.book.items (take l.form-index l.forms)
