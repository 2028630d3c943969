use Rattle.std.proofs.Common.{refl}
use Rattle.command_line.proofs.bank_faults.explain_bytes.Goals as goal

pub returns-clause-explains : goal.returns-clause-explains
returns-clause-explains g c = record {
  found = c.explain_file-found.result;
  finds = c.explain_file-found.ensures;
  told = c.answer_explained.ensures.told;
  rest = refl;
}
