use Rattle.bank_explanations.proofs.FileEnds.{unconverted}
use Rattle.bank_explanations.proofs.files.first_refused.Goals as goal

pub returns-in-Ok : goal.returns-in-Ok
returns-in-Ok c = (c.in-Ok.txns, c.in-Ok.ensures.gives)

pub returns-in-Err : goal.returns-in-Err
returns-in-Err c =
    unconverted c.args.rules.now c.args.csv.now c.in-Err.fault c.refused_record.result c.in-Err.ensures.gives c.refused_record.ensures
