use Rattle.std.proofs.Common.{◌≡◌, ◌++◌, map, take, All}
use Rattle.report_options.specs.Items.{query_word, IsDated}
use Rattle.report_options.proofs.items.push_words.Given as goal

abbrev pub invariant-loop-word : goal.invariant-loop-word
invariant-loop-word l = record {
  pushed : l.items.items ≡ l.fn.items.items ++ map query_word (take l.word-index l.words);
  days : All IsDated l.items.items;
}
