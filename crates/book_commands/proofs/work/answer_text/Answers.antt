use Rattle.book_commands.specs.Answers.{WorkRule, told_by}
use Rattle.book_commands.specs.Works.{words_of}
use Rattle.book_commands.proofs.Answering.{quiet_maker, words_close}
use Rattle.book_commands.proofs.Loading.{unasked}
use Rattle.book_commands.proofs.work.answer_text.Goals as goal

pub returns-in-Text-clause-maker : goal.returns-in-Text-clause-maker
returns-in-Text-clause-maker g c =
    let maker = g.M.Maker in
    let now = c.args.maker.now in
    let t = told_by maker now now in
    quiet_maker c.args.today.day.0 (words_of c.args.work.now) (WorkRule c.args.today.day.0 c.args.today.year c.args.work.now c.args.text.now t) t
    c.text_on.result c.text_on.ensures.quiet (unasked (maker.refusals now) (maker.last_refused now))

pub returns-in-Hours-clause-maker : goal.returns-in-Hours-clause-maker
returns-in-Hours-clause-maker g c =
    let maker = g.M.Maker in
    let now = c.args.maker.now in
    let t = told_by maker now now in
    quiet_maker c.args.today.day.0 (words_of c.args.work.now) (WorkRule c.args.today.day.0 c.args.today.year c.args.work.now c.args.text.now t) t
    c.hours_on.result c.hours_on.ensures.quiet (unasked (maker.refusals now) (maker.last_refused now))

pub returns-in-Strict-clause-maker : goal.returns-in-Strict-clause-maker
returns-in-Strict-clause-maker g c =
    let maker = g.M.Maker in
    let now = c.args.maker.now in
    let t = told_by maker now now in
    quiet_maker c.args.today.day.0 (words_of c.args.work.now) (WorkRule c.args.today.day.0 c.args.today.year c.args.work.now c.args.text.now t) t
    c.strict_on.result c.strict_on.ensures.quiet (unasked (maker.refusals now) (maker.last_refused now))

pub returns-in-Close-clause-maker : goal.returns-in-Close-clause-maker
returns-in-Close-clause-maker g c =
    words_close c.args.work.now c.in-Close.asked c.args.today.day.0 c.args.today.year c.args.text.now
    (told_by g.M.Maker c.args.maker.now c.close_on.new.maker) c.close_on.result c.in-Close.is c.close_on.ensures.maker

pub returns-in-Explain-clause-maker : goal.returns-in-Explain-clause-maker
returns-in-Explain-clause-maker g c =
    let maker = g.M.Maker in
    let now = c.args.maker.now in
    let t = told_by maker now now in
    quiet_maker c.args.today.day.0 (words_of c.args.work.now) (WorkRule c.args.today.day.0 c.args.today.year c.args.work.now c.args.text.now t) t
    c.explain_on.result c.explain_on.ensures.quiet (unasked (maker.refusals now) (maker.last_refused now))

pub returns-in-Items-clause-maker : goal.returns-in-Items-clause-maker
returns-in-Items-clause-maker g c =
    let maker = g.M.Maker in
    let now = c.args.maker.now in
    let t = told_by maker now now in
    quiet_maker c.args.today.day.0 (words_of c.args.work.now) (WorkRule c.args.today.day.0 c.args.today.year c.args.work.now c.args.text.now t) t
    c.items_on.result c.items_on.ensures.quiet (unasked (maker.refusals now) (maker.last_refused now))
