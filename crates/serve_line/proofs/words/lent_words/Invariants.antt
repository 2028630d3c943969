use Rattle.std.specs.Prelude.{◌≡◌, take}
use Rattle.serve_line.specs.Words.{lent_texts}
use Rattle.serve_line.proofs.words.lent_words.Given as goal

abbrev pub invariant-loop-word : goal.invariant-loop-word
invariant-loop-word l = lent_texts l.lent.items ≡ take l.word-index l.words
