use Rattle.std.proofs.Common.{ℕ, List, ◌++◌, string_bytes, ap, ◌∙◌}
use Rattle.book.specs.Styles.{style_in}
use Rattle.budget_layout.proofs.Alike.{same_cell}
use Rattle.budget_layout.proofs.amounts.push_sums.Goals as goal

pub returns : goal.returns
returns c =
    c.in_ok-push_cell_text.ensures
    ∙ ap (λ (text : List ℕ). string_bytes c.args.out.now ++ text) (same_cell (style_in c.args.styles.now) c.args.sums.now)
