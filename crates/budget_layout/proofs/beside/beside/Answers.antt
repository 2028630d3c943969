use Rattle.std.proofs.Common.{◌<◌, length, map, arith}
use Rattle.book.specs.Styles.{style_in}
use Rattle.report_cells.specs.Report.{seen}
use Rattle.budget_layout.proofs.Alike.{seen_here}
use Rattle.budget_layout.proofs.Lining.{outs_more, texts_more}
use Rattle.budget_layout.proofs.beside.beside.Goals as goal

pub loop-at-preserved : goal.loop-at-preserved
loop-at-preserved c =
    let style = style_in c.args.styles.now in
    let actual = map seen c.args.actual.now in
    let goals = map seen c.args.goals.now in
    let within : c.loop-at.at < length c.args.actual.now = omega arith in
    let here = seen_here c.args.actual.now c.loop-at.at c.index-actual-at.result within c.index-actual-at.is in
    record {
      texts = texts_more style actual goals c.loop-at.at c.loop-at.texts.items c.push.new.self.items (seen c.index-actual-at.result) c.in_ok-budget_cell.field-0 here
          c.loop-at.invariant.texts c.in_ok-budget_cell.ensures.text c.in_ok-push.ensures.items;
      least = outs_more style actual goals c.loop-at.at c.args.least.now c.loop-at.least c.budget_cell.new.least (seen c.index-actual-at.result) here
          c.loop-at.invariant.least c.in_ok-budget_cell.ensures.least;
    }
