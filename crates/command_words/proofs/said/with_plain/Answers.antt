use Rattle.std.proofs.lemmas.List.{nil_from_length}
use Rattle.std.proofs.lemmas.Result.{err_from_is_err_and}
use Rattle.command_words.specs.Said.{onto, plain_items}
use Rattle.command_words.specs.Usage.{usage_cause}
use Rattle.command_words.proofs.Saying.{plain_none, plain_told}
use Rattle.command_words.proofs.said.with_plain.Goals as goal

pub returns-in_err-item : goal.returns-in_err-item
returns-in_err-item c =
    let p = err_from_is_err_and c.from_residual.result c.from_residual.ensures.1 in
    rw (p.1, p.2)
    (plain_told c.args.chore (onto c.args.said (plain_items c.args.chore c.args.rest.now)) c.loop-word.all c.loop-word.left.now
    c.loop-word.invariant c.in-Some.word.now c.in-Some.later.now c.in-Some.ensures.cases.0 (usage_cause c.in_err-item.field-0.0) c.in_err-item.ensures)

pub returns : goal.returns
returns c =
    plain_none c.args.chore (onto c.args.said (plain_items c.args.chore c.args.rest.now)) c.loop-word.all c.loop-word.left.now
    c.loop-word.invariant (nil_from_length c.loop-word.left.now c.in_default.ensures.cases)
