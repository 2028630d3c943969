use Rattle.std.proofs.Common.{◌≡◌, ◌+◌, ◌-◌, ap, ◌∙◌, sym, arith}
use Rattle.hl_time.specs.Words.{place_of, word_start, word_stop}
use Rattle.hl_time.proofs.TextLaws.{place_next, place_none}
use Rattle.hl_time.proofs.words.place_of.Goals as goal

pub loop-left-preserved : goal.loop-left-preserved
loop-left-preserved c =
    let text = c.args.text.now in
    let left = c.loop-left.left in
    let back : left - 1 + 1 ≡ left = omega arith in
    let next = rw back at (place_next (left - 1) text c.loop-left.at) in
    let stop : c.word_stop-at.result ≡ word_stop text (word_start text c.loop-left.at) = cc (c.word_stop-at.ensures.stop, c.word_start.ensures.start) in
    record {
      within = c.word_stop-at.ensures.within;
      same = ap (place_of (left - 1) text) stop ∙ sym next ∙ c.loop-left.invariant.same;
    }

pub returns : goal.returns
returns c =
    let none : c.loop-left.left ≡ 0 = omega arith in
    c.word_start-2.ensures.start ∙ sym (place_none c.args.text.now c.loop-left.at) ∙ ap (λ n. place_of n c.args.text.now c.loop-left.at) (sym none) ∙ c.loop-left.invariant.same
