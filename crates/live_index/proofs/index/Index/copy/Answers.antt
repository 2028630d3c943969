use Rattle.std.proofs.Common.{◌≡◌, List, [], ap, subst, ◌∙◌, sym}
use Rattle.std.proofs.lemmas.List.{append-nil}
use Rattle.live_index.specs.declared.row.Row.{Row}
use Rattle.live_index.specs.Cells.{Cell}
use Rattle.live_index.specs.Kept.{IsKept}
use Rattle.live_index.specs.Puts.{rows_put}
use Rattle.live_index.specs.Trees.{cells_of}
use Rattle.live_index.proofs.KeptLaws.{rows_put-append}
use Rattle.live_index.proofs.index.Index.copy.Goals as goal

pub invariant_of-result : goal.invariant_of-result
invariant_of-result c =
    let old : List Row = rows_put c.self.inside.puts in
    let same : rows_put c.same.result ≡ rows_put c.self.inside.puts = ap rows_put c.same.ensures ∙ rows_put-append c.self.inside.puts [] ∙ append-nil old in
    let P : List Cell → Type 0 = λ cells. IsKept (rows_put c.same.result) cells in
    let Q : List Row → Type 0 = λ rows. IsKept rows (cells_of c.self.inside.cells) in
    subst P (sym c.in_ok-cells.ensures) (subst Q (sym same) c.self.invariant)

pub returns : goal.returns
returns c = ap rows_put c.same.ensures ∙ rows_put-append c.self.inside.puts [] ∙ append-nil (rows_put c.self.inside.puts) ∙ c.self.view_is
