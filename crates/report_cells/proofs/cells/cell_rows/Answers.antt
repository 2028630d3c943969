use Rattle.std.proofs.Common.{◌≡◌, ℕ, List, ◌∷◌, ◌++◌, subst}
use Rattle.std.specs.List.{AllByRecursion}
use Rattle.std.proofs.lemmas.Map.Iter.{rest_more, rest_so_far}
use Rattle.report_cells.specs.Kept.{Cell, FinishFits}
use Rattle.report_cells.proofs.Walking.{whole, all-at}
use Rattle.report_cells.proofs.cells.cell_rows.Goals as goal

pub finished-requires : goal.finished-requires
finished-requires c =
    let all = c.args.rows.entries in
    let e : List ℕ × List Cell = (c.in-Some.key, c.in-Some.row) in
    let so_far = rest_so_far (λ (p : List ℕ × List Cell). p) c.loop-key.yielded c.into_iter-key-iterator.result c.loop-key.key-iterator c.loop-key.yielded_by in
    let next = rest_more (λ (p : List ℕ × List Cell). p) c.loop-key.key-iterator c.next.new.self c.next.result e c.in-Some.is c.next.ensures.steps in
    let is : all ≡ c.loop-key.yielded ++ e ∷ c.next.new.self = whole all c.into_iter-key-iterator.result c.loop-key.yielded c.loop-key.key-iterator e c.next.new.self c.into_iter-key-iterator.ensures.into_iter_gives.0 so_far next in
    all-at (λ (e : List ℕ × List Cell). FinishFits c.args.reach e.1) c.loop-key.yielded e c.next.new.self
    (subst (AllByRecursion (λ (e : List ℕ × List Cell). FinishFits c.args.reach e.1)) is c.requires)
