use Rattle.std.proofs.Common.{sym, ap, ◌∙◌}
use Rattle.std.specs.Option.{option_copied, option_to_list}
use Rattle.walked_texts.proofs.Numbered.{found_txn, never_none}
use Rattle.walked_texts.proofs.walking.txn_of.Goals as goal

pub returns : goal.returns
returns c = found_txn c.args.item.now c.in-Some.txn.now (sym (ap (λ o. option_to_list (option_copied o)) c.in-Some.is) ∙ c.entry.ensures)

pub unreachable-requires : goal.unreachable-requires
unreachable-requires c = never_none c.args.item.now c.requires (sym (ap (λ o. option_to_list (option_copied o)) c.in-None.is) ∙ c.entry.ensures)
