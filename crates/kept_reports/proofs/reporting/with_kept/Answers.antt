use Rattle.std.proofs.Common.{◌≡◌, Bool, true, false, refl, sym, subst, ◌∙◌}
use Rattle.index_cells.specs.Asks.{nodes_shown}
use Rattle.kept_reports.specs.Nodes.{AsksWhere, bare_columns}
use Rattle.kept_reports.specs.Served.{is_from_kept}
use Rattle.kept_reports.proofs.reporting.with_kept.Goals as goal

pub widened-requires-clause-served : goal.widened-requires-clause-served
widened-requires-clause-served g c = sym c.is_from_kept-served.ensures ∙ c.if-served.true

pub returns-then-served-clause-asked : goal.returns-then-served-clause-asked
returns-then-served-clause-asked g c =
    let loaded = c.args.loaded.now in
    let most = nodes_shown c.args.kept.now (bare_columns c.args.asked.now loaded.day.0 loaded.items.now loaded.book.now) in
    let is : is_from_kept c.args.asked.now ≡ true = sym c.is_from_kept-served.ensures ∙ c.if-served.true in
    subst (λ (b : Bool). AsksWhere b most c.args.steps.now c.widened.new.steps) (sym is) c.widened.ensures.asked

pub returns-clause-asked : goal.returns-clause-asked
returns-clause-asked g c =
    let loaded = c.args.loaded.now in
    let most = nodes_shown c.args.kept.now (bare_columns c.args.asked.now loaded.day.0 loaded.items.now loaded.book.now) in
    let is : is_from_kept c.args.asked.now ≡ false = sym c.is_from_kept-served.ensures ∙ c.if-served.false in
    subst (λ (b : Bool). AsksWhere b most c.args.steps.now c.args.steps.now) (sym is) refl
