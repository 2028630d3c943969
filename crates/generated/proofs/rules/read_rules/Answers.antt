use Rattle.std.proofs.Common.{Err, refl, sym, subst, List, [], ◌++◌, take}
use Rattle.book.specs.declared.item.Placed.{Placed}
use Rattle.book.specs.declared.rules.AutoRule.{AutoRule}
use Rattle.rule_entries.proofs.Totals.{flat_all, flat_more}
use Rattle.generated.specs.Queries.{AreRead, Reads}
use Rattle.generated.specs.Reading.{ReadsMore}
use Rattle.generated.specs.Rules.{auto_in, autos_of}
use Rattle.generated.specs.declared.rules.RuleQuery.{RuleQuery}
use Rattle.generated.proofs.Stopping.{stopped, then_stays}
use Rattle.generated.proofs.rules.read_rules.Goals as goal

pub loop-placed-init : goal.loop-placed-init
loop-placed-init g c = record {
  read = subst (λ (reads : List RuleQuery). AreRead c.args.day.0 [] reads) (sym c.new-reads.ensures.items) (record { kept = refl; queries = tt });
  stays = record { count = refl; told = refl };
}

pub loop-placed-preserved : goal.loop-placed-preserved
loop-placed-preserved g c =
    let items = c.as_slice-placed-items.result.now in
    let at = c.loop-placed.placed-index in
    record {
      read = subst (λ (rules : List AutoRule). AreRead c.args.day.0 rules c.read_item.new.reads.items)
          (sym (flat_more (λ (placed : Placed). auto_in placed.item) items at c.placed-item.result c.loop-placed-test.true))
          (subst (λ (placed : Placed). AreRead c.args.day.0 (autos_of (take at items) ++ auto_in placed.item) c.read_item.new.reads.items) c.placed-item.is
          (c.in-Ok.ensures.0 (autos_of (take at items)) c.loop-placed.invariant.read));
      stays = then_stays _ _ _ _ _ _ c.loop-placed.invariant.stays c.in-Ok.ensures.1;
    }

pub returns-in-Err : goal.returns-in-Err
returns-in-Err g c =
    subst (λ (items : List Placed). Reads c.args.day.0 (autos_of items) (g.M.Maker.refusals c.args.maker.now) (g.M.Maker.refusals c.read_item.new.maker)
    (g.M.Maker.last_refused c.args.maker.now) (g.M.Maker.last_refused c.read_item.new.maker) (Err c.in-Err.fault)) c.as_slice-placed-items.ensures
    (stopped c.args.day.0 c.as_slice-placed-items.result.now c.loop-placed.placed-index c.placed-item.result c.loop-placed.reads.items c.read_item.new.reads.items
    (g.M.Maker.refusals c.args.maker.now) (g.M.Maker.refusals c.loop-placed.maker) (g.M.Maker.refusals c.read_item.new.maker)
    (g.M.Maker.last_refused c.args.maker.now) (g.M.Maker.last_refused c.loop-placed.maker) (g.M.Maker.last_refused c.read_item.new.maker)
    c.in-Err.fault c.loop-placed-test.true c.loop-placed.invariant.read c.loop-placed.invariant.stays
    (subst (λ (placed : Placed). ReadsMore c.args.day.0 (auto_in placed.item) c.loop-placed.reads.items (g.M.Maker.refusals c.loop-placed.maker) (g.M.Maker.refusals c.read_item.new.maker)
    (g.M.Maker.last_refused c.loop-placed.maker) (g.M.Maker.last_refused c.read_item.new.maker) c.read_item.new.reads.items (Err c.in-Err.fault)) c.placed-item.is c.in-Err.ensures))

pub returns : goal.returns
returns g c = (
  subst (λ (reads : List RuleQuery). AreRead c.args.day.0 (autos_of c.args.items.now) reads) (sym c.from_vec.ensures)
      (subst (λ (rules : List AutoRule). AreRead c.args.day.0 rules c.loop-placed.reads.items)
      (flat_all (λ (placed : Placed). auto_in placed.item) c.as_slice-placed-items.result.now c.args.items.now c.loop-placed.placed-index c.loop-placed-test.false c.as_slice-placed-items.ensures)
      c.loop-placed.invariant.read),
  c.loop-placed.invariant.stays,
)
