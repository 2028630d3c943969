use Rattle.std.proofs.Common.{◌≡◌, length, All}
use Rattle.report_options.specs.Items.{items_in, IsDated}
use Rattle.report_options.proofs.Cutting.{behind}
use Rattle.report_options.proofs.items.cut.Given as goal

abbrev pub invariant-loop-word : goal.invariant-loop-word
invariant-loop-word l = record {
  read : items_in l.place l.command l.day.0 l.words ≡ behind l.items.items (items_in l.place l.command l.day.0 l.left);
  days : All IsDated l.items.items;
}

abbrev pub decreases-loop-word : goal.decreases-loop-word
decreases-loop-word l = length l.left
