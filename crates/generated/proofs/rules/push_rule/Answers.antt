use Rattle.generated.proofs.Ones.{more_fault, more_pushed}
use Rattle.generated.proofs.rules.push_rule.Goals as goal

pub returns-in-Ok : goal.returns-in-Ok
returns-in-Ok g c =
    more_pushed c.args.day.0 c.args.rule.now (g.M.Maker.refusals c.args.maker.now) (g.M.Maker.refusals c.read_rule.new.maker) (g.M.Maker.last_refused c.args.maker.now) (g.M.Maker.last_refused c.read_rule.new.maker)
    c.args.reads.now.items c.in-Ok.read c.push_read.new.reads.items c.push_read.result c.in-Ok.ensures c.push_read.ensures.ok c.push_read.ensures.err

pub returns-in-Err : goal.returns-in-Err
returns-in-Err g c =
    more_fault c.args.day.0 c.args.rule.now (g.M.Maker.refusals c.args.maker.now) (g.M.Maker.refusals c.read_rule.new.maker) (g.M.Maker.last_refused c.args.maker.now) (g.M.Maker.last_refused c.read_rule.new.maker)
    c.args.reads.now.items c.args.reads.now.items c.in-Err.fault c.in-Err.ensures
