use Rattle.std.proofs.Common.{◌++◌, drop}
use Rattle.walked_texts.proofs.Exchanged.{GoesOn}
use Rattle.walked_texts.proofs.exchanging.exchange_all.Given as goal

-- the forms before one were taken in
abbrev pub invariant-loop-form : goal.invariant-loop-form
invariant-loop-form l = GoesOn (l.book ++ l.behind) l.forms (drop l.form-index l.forms) l.initial.edited l.edited
