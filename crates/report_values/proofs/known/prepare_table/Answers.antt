use Rattle.std.proofs.Common.{◌≡◌, ℕ, List, true, cond, Option, Some, sym, ap, subst, ◌∙◌}
use Rattle.std.specs.Prelude.{is_some}
use Rattle.std.specs.Ordering.{is_eq}
use Rattle.std.specs.BTreeMap.{is_at}
use Rattle.std.specs.Map.{lookup}
use Rattle.prices.specs.Chains.{priced_on}
use Rattle.prices.specs.Tables.{AreRates}
use Rattle.prices.specs.declared.table.Table.{Table}
use Rattle.report_values.specs.DayKeys.{day_cmp}
use Rattle.report_values.specs.Known.{kept_at}
use Rattle.report_values.proofs.Keeping.{kept_more, kept_new}
use Rattle.report_values.proofs.known.prepare_table.Goals as goal

pub returns-then-contains_key-clause-there : goal.returns-then-contains_key-clause-there
returns-then-contains_key-clause-there c =
    subst (λ (k : ℕ × List ℕ). is_some (lookup (is_at (day_cmp k)) c.args.tables.now.entries) ≡ true) c.new.ensures (sym c.contains_key.ensures ∙ c.if-contains_key.true)

pub returns-clause-right : goal.returns-clause-right
returns-clause-right c =
    let old : ℕ → List ℕ → Option Table = λ d s. kept_at c.args.tables.now.entries d s in
    let new : ℕ → List ℕ → Option Table = λ d s. kept_at c.insert.new.self.entries d s in
    kept_more old new c.args.day.0 c.args.target.now c.in_ok-table.table
    (λ d s. c.in_ok-insert.ensures.updates.0 (d, s) ∙ ap (λ (k : ℕ × List ℕ). cond (is_eq (day_cmp k (d, s))) (Some c.in_ok-table.table) (old d s)) c.new-2.ensures)
    (λ d t table. AreRates (priced_on c.args.market.now.prices.now d) t table) c.in_ok-table.ensures c.requires

pub returns-clause-there : goal.returns-clause-there
returns-clause-there c =
    let old : ℕ → List ℕ → Option Table = λ d s. kept_at c.args.tables.now.entries d s in
    let new : ℕ → List ℕ → Option Table = λ d s. kept_at c.insert.new.self.entries d s in
    ap is_some (kept_new old new c.args.day.0 c.args.target.now c.in_ok-table.table
    (λ d s. c.in_ok-insert.ensures.updates.0 (d, s) ∙ ap (λ (k : ℕ × List ℕ). cond (is_eq (day_cmp k (d, s))) (Some c.in_ok-table.table) (old d s)) c.new-2.ensures))
