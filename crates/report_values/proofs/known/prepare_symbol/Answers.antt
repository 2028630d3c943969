use Rattle.std.proofs.Common.{◌≡◌, ℕ, List, true, sym, subst, ◌∙◌}
use Rattle.std.specs.Prelude.{is_some}
use Rattle.std.specs.BTreeMap.{is_at}
use Rattle.std.specs.Map.{lookup}
use Rattle.report_values.specs.DayKeys.{day_cmp}
use Rattle.report_values.specs.Known.{kept_at}
use Rattle.report_values.specs.Worth.{exchange_on, priced_of}
use Rattle.report_values.proofs.Keeping.{known_is}
use Rattle.report_values.proofs.known.prepare_symbol.Goals as goal

pub returns-then-contains_key-clause-there : goal.returns-then-contains_key-clause-there
returns-then-contains_key-clause-there c =
    let there = subst (λ (k : ℕ × List ℕ). is_some (lookup (is_at (day_cmp k)) c.args.known.now.exchanges.entries) ≡ true) c.new.ensures (sym c.contains_key.ensures ∙ c.if-contains_key.true) in
    known_is (kept_at c.args.known.now.exchanges.entries c.args.day.0 c.args.symbol.now) (exchange_on (priced_of c.args.market.now) c.args.day.0 c.args.symbol.now) (c.requires.exchanges c.args.day.0 c.args.symbol.now) there
