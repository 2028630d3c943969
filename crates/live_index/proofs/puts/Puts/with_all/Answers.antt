use Rattle.std.proofs.Common.{◌++◌, ◌∷◌, ◌<◌, [], List, length, take, append_assoc, ap, ◌∙◌, sym, rules}
use Rattle.std.proofs.lemmas.List.{take_more}
use Rattle.live_index.specs.declared.row.Row.{Row}
use Rattle.live_index.specs.Puts.{rows_put}
use Rattle.live_index.proofs.KeptLaws.{rows_put-append}
use Rattle.live_index.proofs.puts.Puts.with_all.Goals as goal

pub loop-row-init : goal.loop-row-init
loop-row-init c = ap rows_put c.same-puts.ensures ∙ rows_put-append c.args.self.now []

pub loop-row-preserved : goal.loop-row-preserved
loop-row-preserved c =
    let i = c.loop-row.row-index in
    let rows : List Row = c.args.rows.now in
    let row : Row = c.row-item.result in
    let inside : c.loop-row.row-index < length c.args.rows.now = search rules in
    ap rows_put c.with-puts.ensures
    ∙ rows_put-append c.loop-row.puts (row ∷ [])
    ∙ ap (λ (t : List Row). t ++ row ∷ []) c.loop-row.invariant
    ∙ append_assoc (rows_put c.args.self.now) (take i rows) (row ∷ [])
    ∙ ap (λ (t : List Row). rows_put c.args.self.now ++ t) (ap (λ (r : Row). take i rows ++ r ∷ []) c.row-item.is ∙ sym (take_more rows i row inside))
