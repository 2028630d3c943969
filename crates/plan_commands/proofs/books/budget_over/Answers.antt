use Rattle.std.proofs.Common.{refl}
use Rattle.plan_commands.proofs.books.budget_over.Goals as goal

pub budget_of-requires-clause-valid : goal.budget_of-requires-clause-valid
budget_of-requires-clause-valid c = c.requires.valid.bounds

pub budget_of-requires-clause-made : goal.budget_of-requires-clause-made
budget_of-requires-clause-made c =
    record { options = refl; query = c.requires.query; letters = c.requires.letters; styles = c.requires.styles; quotes = c.requires.quotes }
