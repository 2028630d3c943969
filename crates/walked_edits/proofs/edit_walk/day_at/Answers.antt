use Rattle.std.proofs.Common.{sym, ap, ◌∙◌}
use Rattle.std.specs.Option.{option_copied, option_map}
use Rattle.book.specs.declared.transaction.Txn.{Txn}
use Rattle.walked_edits.proofs.edit_walk.day_at.Goals as goal

pub returns-in-Some : goal.returns-in-Some
returns-in-Some g c = sym (ap (option_map (λ (t : Txn). t.day)) (sym c.written_form.ensures ∙ ap option_copied c.in-Some.is))

pub returns-in-None : goal.returns-in-None
returns-in-None g c = sym (ap (option_map (λ (t : Txn). t.day)) (sym c.written_form.ensures ∙ ap option_copied c.in-None.is))
