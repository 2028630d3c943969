use Rattle.std.proofs.Common.{sym, ◌∙◌, map}
use Rattle.std.proofs.lemmas.Result.{err_from_is_err_and}
use Rattle.csv.specs.Records.{fields_of}
use Rattle.query_terms.specs.Finders.{known_in}
use Rattle.csv_entries.specs.Conversion.{cause_in}
use Rattle.csv_entries.specs.Numbered.{entries_from}
use Rattle.csv_entries.proofs.Numbers.{next_outcome, next_fault, end_fault}
use Rattle.csv_entries.proofs.conversion.convert_rows.Goals as goal

pub returns-in_err-outcome : goal.returns-in_err-outcome
returns-in_err-outcome c =
    let p = err_from_is_err_and c.from_residual.result c.from_residual.ensures.1 in
    rw (p.1, p.2)
    (next_fault (known_in c.args.finder.now) (known_in c.loop-i.finder) c.args.sheet.now (entries_from (known_in c.args.finder.now) c.args.sheet.now 1 (map fields_of c.args.rows.now))
    c.loop-i.txns.items c.args.rows.now c.loop-i.i c.index-rows-i.result (cause_in c.in_err-outcome.field-0.0)
    c.loop-i.invariant.so_far c.loop-i.invariant.same c.loop-i-test.true c.index-rows-i.is c.in_err-outcome.ensures.outcome)

pub returns-in_err-check_from : goal.returns-in_err-check_from
returns-in_err-check_from c =
    let p = err_from_is_err_and c.from_residual-in_err-check_from.result c.from_residual-in_err-check_from.ensures.1 in
    rw (p.1, p.2)
    (end_fault (known_in c.args.finder.now) (known_in c.loop-i.finder) c.args.sheet.now (entries_from (known_in c.args.finder.now) c.args.sheet.now 1 (map fields_of c.args.rows.now))
    c.loop-i.txns.items c.args.rows.now c.loop-i.i c.index-rows-i.result c.in_ok-outcome.outcome (cause_in c.in_err-check_from.field-0.0)
    c.loop-i.invariant.so_far c.loop-i.invariant.same c.loop-i-test.true c.index-rows-i.is (sym c.in_ok-outcome.ensures.outcome)
    (sym c.is_end.ensures ∙ c.if-is_end.true) c.in_err-check_from.ensures)

pub loop-i-preserved : goal.loop-i-preserved
loop-i-preserved c = record {
  same = c.judge_row.ensures.same ∙ c.loop-i.invariant.same;
  so_far = next_outcome (known_in c.args.finder.now) (known_in c.loop-i.finder) c.args.sheet.now (entries_from (known_in c.args.finder.now) c.args.sheet.now 1 (map fields_of c.args.rows.now))
      c.loop-i.txns.items c.push_entry.new.txns.items c.args.rows.now c.loop-i.i c.index-rows-i.result c.in_ok-outcome.outcome
      c.loop-i.invariant.so_far c.loop-i.invariant.same c.loop-i-test.true c.index-rows-i.is (sym c.in_ok-outcome.ensures.outcome)
      (sym c.is_end.ensures ∙ c.if-is_end.false) c.in_ok-push_entry.ensures.pushed;
}
