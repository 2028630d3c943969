use Rattle.std.proofs.Common.{◌≡◌, ℕ, List, true, false, length, sym, ap, ◌∙◌, arith}
use Rattle.std.proofs.lemmas.List.{nil_from_length}
use Rattle.std.proofs.lemmas.Result.{err_from_is_err_and}
use Rattle.report_options.specs.Items.{is_end}
use Rattle.command_words.specs.Said.{items_in, onto, said_by}
use Rattle.command_words.specs.Usage.{usage_cause}
use Rattle.command_words.proofs.Saying.{left_shorter, read_end, read_more, read_none, read_told}
use Rattle.command_words.proofs.said.read_said.Goals as goal

pub loop-word-smaller : goal.loop-word-smaller
loop-word-smaller c =
    let shown = ap length c.left_behind-left.ensures in
    let shorter = left_shorter c.in-Some.word.now c.loop-word.left.now c.in-Some.rest.now c.in-Some.ensures.cases.0 in
    omega (arith, shown, shorter)

pub loop-word-preserved : goal.loop-word-preserved
loop-word-preserved c =
    let goes : is_end c.in-Some.word.now ≡ false = sym c.is_end.ensures ∙ c.if-is_end.false in
    let more =
    read_more c.args.chore (said_by c.args.chore c.args.words.now) c.loop-word.said c.loop-word.left.now
    c.loop-word.invariant c.in-Some.word.now c.in-Some.rest.now c.in_ok-item.item c.in_ok-said.said
    c.in-Some.ensures.cases.0 goes c.in_ok-item.ensures c.in_ok-said.ensures in
    more ∙ ap (λ (l : List (List ℕ)). onto c.in_ok-said.said (items_in c.args.chore l)) (sym c.left_behind-left.ensures)

pub returns-then-is_end : goal.returns-then-is_end
returns-then-is_end c =
    let ends : is_end c.in-Some.word.now ≡ true = sym c.is_end.ensures ∙ c.if-is_end.true in
    read_end c.args.chore (said_by c.args.chore c.args.words.now) c.loop-word.said c.loop-word.left.now
    c.loop-word.invariant c.in-Some.word.now c.in-Some.rest.now c.with_plain.result c.in-Some.ensures.cases.0 ends c.with_plain.ensures

pub returns-in_err-item : goal.returns-in_err-item
returns-in_err-item c =
    let p = err_from_is_err_and c.from_residual.result c.from_residual.ensures.1 in
    let goes : is_end c.in-Some.word.now ≡ false = sym c.is_end.ensures ∙ c.if-is_end.false in
    rw (p.1, p.2)
    (read_told c.args.chore (said_by c.args.chore c.args.words.now) c.loop-word.said c.loop-word.left.now
    c.loop-word.invariant c.in-Some.word.now c.in-Some.rest.now c.in-Some.ensures.cases.0 goes (usage_cause c.in_err-item.field-0.0) c.in_err-item.ensures)

pub returns : goal.returns
returns c =
    read_none c.args.chore (said_by c.args.chore c.args.words.now) c.loop-word.said c.loop-word.left.now
    c.loop-word.invariant (nil_from_length c.loop-word.left.now c.in_default.ensures.cases)
