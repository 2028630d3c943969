use Rattle.std.proofs.Common.{ℕ, List, ap, ◌∙◌}
use Rattle.std.specs.Ordering.{nat_cmp}
use Rattle.std.specs.Cmp.Lexicographic.{slice_cmp}
use Rattle.std.specs.FinMap.Entries.{put}
use Rattle.assertions.specs.Texts.{values_in}
use Rattle.assertions.proofs.Texts.{values-insert}
use Rattle.assertions.proofs.totals.insert_named.Goals as goal

pub returns : goal.returns
returns c =
    ap values_in c.in_ok-insert.ensures.entries ∙ values-insert c.args.sums.now.entries c.in_ok-name.name c.args.sum
    ∙ ap (λ (n : List ℕ). put (slice_cmp nat_cmp) n c.args.sum (values_in c.args.sums.now.entries)) c.in_ok-name.ensures.ok
