use Rattle.std.proofs.Common.{Bor, ℕ, ◌+◌, ◌/◌, ◌<◌, ◌≤◌, length, inl, inr, arith}
use Rattle.std.proofs.lemmas.Bool.{cases_lt}
use Rattle.std.proofs.lemmas.List.{length-map}
use Rattle.live_index.specs.declared.row.Row.{Row}
use Rattle.live_index.proofs.SeriesLaws.{lent}
use Rattle.live_index.proofs.series.cut.Goals as goal

pub returns-clause-series : goal.returns-clause-series
returns-clause-series c = λ whole at d some inside.
    let long = length-map c.args.rows.now (λ (r : Bor Row). r.now) in
    let within : at < length c.args.rows.now = omega (arith, long, inside) in
    elim (cases_lt (length c.args.rows.now / 2) at) [
      | inl lt ↦ c.break_from.ensures.goes_on at (omega arith) (omega arith) d some inside
      | inr ge ↦ c.break_upto-start.ensures.goes_on at (omega arith) ge d some inside
    ]
