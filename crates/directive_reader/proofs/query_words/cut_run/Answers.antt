use Rattle.std.proofs.Common.{◌≡◌, drop, sym, ap, ◌∙◌}
use Rattle.entry_reader.specs.Lines.{has_byte}
use Rattle.directive_reader.proofs.QueryWords.{quoted_run}
use Rattle.directive_reader.proofs.query_words.cut_run.Goals as goal

pub returns-then-has-clause-words : goal.returns-then-has-clause-words
returns-then-has-clause-words c =
    let same : has_byte 34 (drop 1 c.args.text.now) ≡ has_byte 34 c.past_first-inside.result.now = ap (has_byte 34) (sym c.past_first-inside.ensures.value) in
    rw (c.before-then-has.ensures.value, c.after.ensures.value, c.past_first-inside.ensures.value)
    (quoted_run c.args.text.now (sym c.begins.ensures.value ∙ c.if-not-begins.false) (same ∙ sym c.has.ensures ∙ c.if-has.true))
