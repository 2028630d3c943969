use Rattle.bank_explanations.proofs.FileEnds.{read_so, unread_so}
use Rattle.bank_explanations.proofs.files.explain_file.Goals as goal

pub returns-in-Ok : goal.returns-in-Ok
returns-in-Ok g c =
    let maker = g.M.Maker in
    read_so c.args.rules.now c.args.csv.now (maker.refusals c.args.maker.now) (maker.refusals c.read.new.maker) (maker.last_refused c.args.maker.now) (maker.last_refused c.read.new.maker)
    c.in-Ok.parsed c.first_refused_by.result c.in-Ok.ensures c.first_refused_by.ensures

pub returns-in-Err : goal.returns-in-Err
returns-in-Err g c =
    let maker = g.M.Maker in
    unread_so c.args.rules.now c.args.csv.now (maker.refusals c.args.maker.now) (maker.refusals c.read.new.maker) (maker.last_refused c.args.maker.now) (maker.last_refused c.read.new.maker)
    c.in-Err.fault c.refused_rules.result c.in-Err.ensures c.refused_rules.ensures
