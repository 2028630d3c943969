use Rattle.std.proofs.Common.{◌≡◌, false, length, sym, ap, ◌∙◌, arith}
use Rattle.std.proofs.lemmas.List.{nil_from_length}
use Rattle.std.proofs.lemmas.Result.{err_from_is_err_and}
use Rattle.report_options.specs.Items.{fault_cause, is_end, items_in}
use Rattle.report_options.proofs.Cutting.{bad_told, left_shorter, read_all}
use Rattle.report_options.proofs.items.cut.Goals as goal

pub loop-word-smaller : goal.loop-word-smaller
loop-word-smaller c =
    let shown = ap length c.left_behind-left.ensures in
    let shorter = left_shorter c.in-Some.word.now c.loop-word.left.now c.in-Some.rest.now c.in-Some.ensures.cases.0 in
    omega (arith, shown, shorter)

pub returns-in_err-item-clause-answer : goal.returns-in_err-item-clause-answer
returns-in_err-item-clause-answer c =
    let p = err_from_is_err_and c.from_residual-in_err-item.result c.from_residual-in_err-item.ensures.1 in
    let goes : is_end c.in-Some.word.now ≡ false = sym c.is_end.ensures ∙ c.if-is_end.false in
    rw (p.1, p.2)
    (bad_told c.args.place c.args.command c.args.day.0 (items_in c.args.place c.args.command c.args.day.0 c.args.words.now) c.loop-word.items.items c.loop-word.left.now
    c.loop-word.invariant.read c.in-Some.word.now c.in-Some.rest.now c.in-Some.ensures.cases.0 goes (fault_cause c.in_err-item.field-0.0) c.in_err-item.ensures.answer)

pub returns-clause-answer : goal.returns-clause-answer
returns-clause-answer c =
    read_all c.args.place c.args.command c.args.day.0 (items_in c.args.place c.args.command c.args.day.0 c.args.words.now) c.loop-word.items.items c.loop-word.left.now
    c.loop-word.invariant.read (nil_from_length c.loop-word.left.now c.in_default.ensures.cases)
