use Rattle.std.proofs.Common.{ℕ, Option, map, ap}
use Rattle.balance_layouts.specs.TableRows.{named_seen}
use Rattle.budget_layout.specs.Grouped.{cells_at}
use Rattle.budget_layout.proofs.goals.GoalCells.none.Goals as goal

pub returns : goal.returns
returns c = λ account. ap (λ (o : Option ℕ). cells_at o (map named_seen c.new.result)) (c.none.ensures account)
