use Rattle.plan_commands.proofs.reporting.report.Goals as goal

pub report_of-requires-clause-made : goal.report_of-requires-clause-made
report_of-requires-clause-made g c = record { letters = c.in_ok-types.ensures; styles = c.requires.styles; quotes = c.in_ok-prices.ensures }
