use Rattle.std.proofs.Common.{◌≡◌, take}
use Rattle.report_options.specs.Options.{query_words}
use Rattle.report_options.proofs.reading.query_words.Given as goal

abbrev pub invariant-loop-item : goal.invariant-loop-item
invariant-loop-item l = l.words.items ≡ query_words (take l.item-index l.items)
