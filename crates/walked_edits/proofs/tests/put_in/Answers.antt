use Rattle.std.proofs.Common.{List, sym, ap, subst, ◌∙◌, arith}
use Rattle.book.specs.declared.transaction.Txn.{Txn}
use Rattle.balancing.specs.Solves.{Solves}
use Rattle.placed_sums.specs.Accounts.{HasSymbols}
use Rattle.walked_edits.specs.Forms.{with_form, with_forms}
use Rattle.walked_edits.specs.Keeping.{IsKept}
use Rattle.walked_edits.specs.declared.replaced.Replaced.{Replaced}
use Rattle.walked_edits.proofs.tests.put_in.Goals as goal

pub walk_to-requires-clause-place : goal.walk_to-requires-clause-place
walk_to-requires-clause-place g c = omega (arith, c.if-len-form.false, c.len.ensures)

pub walk_to-requires-clause-written : goal.walk_to-requires-clause-written
walk_to-requires-clause-written g c = c.in_ok-written.ensures ∙ ap (λ (ts : List Txn). with_form ts c.args.form.now) c.as_slice.ensures.value

pub returns : goal.returns
returns g c =
    subst (λ (ts : List Txn). (Solves c.in_ok-written.written.items ts × IsKept ts c.in_ok-all.all.kept) × HasSymbols c.args.symbols.now ts)
    (sym (c.in_ok-put_all.ensures
    ∙ ap (λ (rs : List Replaced). with_forms c.walk_to.new.told.book.items rs) c.as_slice-2.ensures.value
    ∙ ap (λ (ts : List Txn). with_forms ts c.in_ok-all.all.forms.items) c.walk_to.ensures.stays))
    c.in_ok-all.ensures.walked
