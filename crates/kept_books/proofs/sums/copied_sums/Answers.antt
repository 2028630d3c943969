use Rattle.std.proofs.Common.{◌∙◌}
use Rattle.kept_books.proofs.sums.copied_sums.Goals as goal

pub returns : goal.returns
returns c = λ i. record {
  sums = c.in_ok-sums.ensures i;
  accounts = (c.in_ok-accounts.ensures ∙ c.as_slice.ensures) i;
  symbols = (c.in_ok-symbols.ensures ∙ c.as_slice-2.ensures) i;
}
