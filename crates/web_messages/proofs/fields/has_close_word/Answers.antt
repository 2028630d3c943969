use Rattle.std.proofs.Common.{◌≡◌, ◌<◌, length, rules, sym, ap, ◌∙◌, true, false}
use Rattle.web_messages.specs.Fields.{has_close}
use Rattle.web_messages.proofs.FieldLemmas.{close_now, close_never, close_later, found_of}
use Rattle.web_messages.proofs.fields.has_close_word.Goals as goal

pub returns-then-is_same_word : goal.returns-then-is_same_word
returns-then-is_same_word c =
    let n = c.word_length-length in
    let found = found_of _ _ _ true c.split_at.ensures.front c.is_same_word.ensures c.if-is_same_word.true in
    sym (c.loop-rest.invariant ∙ close_now c.loop-rest.rest.now n.result n.ensures.value n.ensures.within found)

pub returns-then-length-rest : goal.returns-then-length-rest
returns-then-length-rest c =
    let n = c.word_length-length in
    let found = found_of _ _ _ false c.split_at.ensures.front c.is_same_word.ensures c.if-is_same_word.false in
    let whole : n.result ≡ length c.loop-rest.rest.now = search rules in
    sym (c.loop-rest.invariant ∙ close_never c.loop-rest.rest.now n.result n.ensures.value whole found)

pub loop-rest-preserved : goal.loop-rest-preserved
loop-rest-preserved c =
    let n = c.word_length-length in
    let found = found_of _ _ _ false c.split_at.ensures.front c.is_same_word.ensures c.if-is_same_word.false in
    let below : n.result < length c.loop-rest.rest.now = search rules in
    let later = close_later c.loop-rest.rest.now n.result n.ensures.value below found in
    c.loop-rest.invariant ∙ (later ∙ ap has_close (sym c.split_at-in-loop-rest.ensures.back))
