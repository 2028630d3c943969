use Rattle.std.proofs.Common.{◌≡◌, ℕ, List, find, None}
use Rattle.report_cells.specs.Turned.{is_full}
use Rattle.report_cells.proofs.turnover.first_full.Given as goal

abbrev pub invariant-loop-key : goal.invariant-loop-key
invariant-loop-key l = find (λ (e : List ℕ × (ℕ × ℕ)). is_full e.1) l.yielded ≡ None
