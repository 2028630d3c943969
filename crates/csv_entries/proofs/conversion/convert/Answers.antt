use Rattle.std.proofs.Common.{sym, ap, ◌∙◌, map}
use Rattle.csv.specs.Records.{fields_of}
use Rattle.query_terms.specs.Finders.{known_in}
use Rattle.query_terms.specs.Sought.{known_of}
use Rattle.csv_entries.specs.Numbered.{entries_from}
use Rattle.csv_entries.proofs.Composed.{converted}
use Rattle.csv_entries.proofs.EntryLaws.{order_days, few_entries}
use Rattle.csv_entries.proofs.conversion.convert.Goals as goal

pub returns-clause-ordered : goal.returns-clause-ordered
returns-clause-ordered c =
    order_days c.args.rules.now.sheet.settings c.in_ok-txns.txns.items c.from_vec.result (c.from_vec.ensures ∙ c.in_ok-put_in_order.ensures)

pub returns-clause-few : goal.returns-clause-few
returns-clause-few c =
    few_entries (known_of c.args.rules.now.regexes.items) c.args.rules.now.sheet c.args.text.now c.from_vec.result
    (converted c.args.rules.now c.args.text.now c.text_after-rest.result.now (known_in c.in_ok-finder.finder) c.in_ok-rows.rows.items c.in_ok-txns.txns.items c.from_vec.result
    c.text_after-rest.ensures c.in_ok-rows.ensures (c.in_ok-finder.ensures.known ∙ ap known_of c.as_slice.ensures.value)
    (ap (λ rows. entries_from (known_in c.in_ok-finder.finder) c.args.rules.now.sheet 1 (map fields_of rows)) (sym c.as_slice-2.ensures.value) ∙ c.in_ok-txns.ensures)
    (c.from_vec.ensures ∙ c.in_ok-put_in_order.ensures))
