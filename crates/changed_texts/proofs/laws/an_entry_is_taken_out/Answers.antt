use Rattle.changed_texts.proofs.Anew.{read_gone_is}
use Rattle.changed_texts.proofs.Leaving.{cut_gone_is}
use Rattle.changed_texts.proofs.laws.an_entry_is_taken_out.Goals as goal

pub returns-clause-cut : goal.returns-clause-cut
returns-clause-cut c text n p of apart = cut_gone_is text n p of apart

pub returns-clause-read : goal.returns-clause-read
returns-clause-read c year text items n p of apart read = read_gone_is year text items n p of apart read
