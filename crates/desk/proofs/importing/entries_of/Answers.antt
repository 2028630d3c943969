use Rattle.std.proofs.Common.{sym, subst}
use Rattle.desk.specs.declared.reply.Reply.{Reply}
use Rattle.desk.specs.Files.{TellsUnmade, Unmade}
use Rattle.desk.proofs.Converted.{converted, unconverted, unread}
use Rattle.desk.proofs.importing.entries_of.Goals as goal

pub returns-in-Err-clause-file : goal.returns-in-Err-clause-file
returns-in-Err-clause-file g c =
    let maker = g.M.Maker in
    let before = maker.refusals c.args.maker.now in
    let now = maker.refusals c.read.new.maker in
    let last_before = maker.last_refused c.args.maker.now in
    let last_now = maker.last_refused c.read.new.maker in
    let F : Reply → Type 0 = λ r. Unmade c.args.rules.now c.args.csv.now r × TellsUnmade c.args.rules.now before now last_before last_now r in
    subst F (sym c.rules_reply.ensures) (unread c.args.rules.now c.args.csv.now before now last_before last_now c.in-Err.fault c.in-Err.ensures)

pub returns-in-Ok-convert-clause-file : goal.returns-in-Ok-convert-clause-file
returns-in-Ok-convert-clause-file g c =
    (converted c.args.rules.now c.args.csv.now c.in-Ok.rules c.in-Ok-convert.txns c.in-Ok.ensures.0 c.in-Ok-convert.ensures.gives, c.in-Ok.ensures.1)

pub returns-clause-file : goal.returns-clause-file
returns-clause-file g c =
    let maker = g.M.Maker in
    let before = maker.refusals c.args.maker.now in
    let now = maker.refusals c.read.new.maker in
    let last_before = maker.last_refused c.args.maker.now in
    let last_now = maker.last_refused c.read.new.maker in
    let F : Reply → Type 0 = λ r. Unmade c.args.rules.now c.args.csv.now r × TellsUnmade c.args.rules.now before now last_before last_now r in
    subst F (sym c.convert_reply.ensures) (unconverted c.args.rules.now c.args.csv.now c.in-Ok.rules before now last_before last_now c.in-Err-convert.fault c.in-Ok.ensures c.in-Err-convert.ensures.gives)
