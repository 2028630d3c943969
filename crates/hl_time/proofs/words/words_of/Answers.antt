use Rattle.std.proofs.Common.{◌≡◌, ◌+◌, ◌-◌, ◌<◌, [], ◌∷◌, ◌++◌, length, take, set, append_assoc, refl, ap, ◌∙◌, sym, arith}
use Rattle.std.proofs.lemmas.Grind.{take-set_at}
use Rattle.std.proofs.lemmas.List.{append-nil}
use Rattle.std.proofs.Math.Seq.{take-length}
use Rattle.std.proofs.Math.ListN.{length-set}
use Rattle.hl_time.specs.Words.{words}
use Rattle.hl_time.proofs.TextLaws.{words_next, words_none}
use Rattle.hl_time.proofs.words.words_of.Goals as goal

pub loop-i-preserved : goal.loop-i-preserved
loop-i-preserved c =
    let text = c.args.text.now in
    let i = c.loop-i.i in
    let ws = c.loop-i.words in
    let word = c.word_of.result in
    let inside : i < length ws = omega (arith, c.loop-i.invariant.size) in
    let cut : take (i + 1) (set ws i word) ≡ take i ws ++ word ∷ [] = take-set_at ws i (i + 1) word refl inside in
    let left : 10 - (i + 1) + 1 ≡ 10 - i = omega arith in
    let next = rw left at (words_next (10 - (i + 1)) text c.loop-i.at) in
    let here : words (10 - i) text c.loop-i.at ≡ word ∷ words (10 - (i + 1)) text c.word_stop-stop.result = cc (next, c.word_of.ensures, c.word_stop-stop.ensures.stop, c.word_start-start.ensures.start) in
    record {
      size = length-set ws i word ∙ c.loop-i.invariant.size;
      within = c.word_stop-stop.ensures.within;
      same = rw cut (append_assoc (take i ws) (word ∷ []) _ ∙ ap (λ rest. take i ws ++ rest) (sym here) ∙ c.loop-i.invariant.same);
    }

pub returns : goal.returns
returns c =
    let i = c.loop-i.i in
    let text = c.args.text.now in
    let ws = c.loop-i.words in
    let all : i ≡ length ws = omega (arith, c.loop-i.invariant.size) in
    let none : 10 - i ≡ 0 = omega arith in
    let rest : words (10 - i) text c.loop-i.at ≡ [] = ap (λ n. words n text c.loop-i.at) none ∙ words_none text c.loop-i.at in
    sym (take-length ws) ∙ ap (λ n. take n ws) (sym all) ∙ sym (append-nil (take i ws)) ∙ ap (λ r. take i ws ++ r) (sym rest) ∙ c.loop-i.invariant.same
