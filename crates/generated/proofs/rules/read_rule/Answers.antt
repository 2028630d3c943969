use Rattle.generated.proofs.Ones.{kept_read, read_fault}
use Rattle.generated.proofs.rules.read_rule.Goals as goal

pub returns-in-Ok : goal.returns-in-Ok
returns-in-Ok g c =
    kept_read c.args.day.0 c.args.rule.now (g.M.Maker.refusals c.args.maker.now) (g.M.Maker.refusals c.make_query.new.maker) (g.M.Maker.last_refused c.args.maker.now) (g.M.Maker.last_refused c.make_query.new.maker)
    c.kept_query.result c.in-Ok.query c.as_slice.result.now c.as_slice.ensures
    c.kept_query.ensures.query c.kept_query.ensures.rule c.kept_query.ensures.alone c.kept_query.ensures.err c.in-Ok.ensures

pub returns-in-Err : goal.returns-in-Err
returns-in-Err g c =
    read_fault c.args.day.0 c.args.rule.now (g.M.Maker.refusals c.args.maker.now) (g.M.Maker.refusals c.make_query.new.maker) (g.M.Maker.last_refused c.args.maker.now) (g.M.Maker.last_refused c.make_query.new.maker)
    c.in-Err.fault c.fault_at.result c.as_slice.result.now c.as_slice.ensures c.fault_at.ensures c.in-Err.ensures
