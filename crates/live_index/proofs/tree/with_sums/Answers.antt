use Rattle.std.proofs.Common.{◌≡◌, List, [], ◌∷◌, ap, subst, sym, ◌∙◌}
use Rattle.std.specs.Arc.{arc_value}
use Rattle.std.specs.FinMap.Entries.{put}
use Rattle.live_index.specs.declared.runs.Run.{Run}
use Rattle.live_index.specs.Cells.{Cell, Key, key_cmp, sums_of, AreSummed, AreJoined}
use Rattle.live_index.specs.Trees.{cells_of}
use Rattle.live_index.proofs.Answered.{if-ok}
use Rattle.live_index.proofs.TreeLaws.{sum-alike, sum-alone, put-joined, gone-joined, without_key}
use Rattle.live_index.proofs.tree.with_sums.Goals as goal

pub returns-in_ok-try_clone-in-None : goal.returns-in_ok-try_clone-in-None
returns-in_ok-try_clone-in-None c =
    let cells : List Cell = cells_of c.args.tree.now in
    let cell : Cell = arc_value c.args.cell.now in
    let none : sums_of (arc_value c.args.cell.now).0 (cells_of c.args.tree.now) ≡ [] = sym (c.in-None.ensures.sums c.requires.tree.ordered ∙ ap (λ (e : Cell). sums_of e.0 cells) c.deref.ensures) in
    let own : arc_value c.in_ok-try_clone-in-None.field-0 ≡ arc_value c.args.cell.now = c.in_ok-try_clone-in-None.ensures in
    let joined = put-joined cell.0 cells cell.1 cell.1 c.requires.tree c.requires.cell (sum-alone (sums_of cell.0 cells) cell.1 none) in
    let P : List Cell → Type 0 = λ t. AreJoined cells (cell ∷ []) t in
    if-ok c.put_in.result _ _ (λ new e. subst P (sym (e ∙ ap (λ (k : Cell). put key_cmp k.0 k.1 cells) own)) joined) (c.put_in.ensures c.requires.tree.ordered)

pub returns-in_ok-new-in-Some : goal.returns-in_ok-new-in-Some
returns-in_ok-new-in-Some c =
    let cells : List Cell = cells_of c.args.tree.now in
    let cell : Cell = arc_value c.args.cell.now in
    let both : Cell = c.in_ok-both-in-Some.both in
    let key : c.in_ok-both-in-Some.both.0 ≡ (arc_value c.args.cell.now).0 = c.in_ok-both-in-Some.ensures.key ∙ c.in-Some.ensures.key ∙ ap (λ (e : Cell). e.0) c.deref.ensures in
    let old : c.in-Some.old.now.1 ≡ sums_of (arc_value c.args.cell.now).0 (cells_of c.args.tree.now) = c.in-Some.ensures.sums c.requires.tree.ordered ∙ ap (λ (e : Cell). sums_of e.0 cells) c.deref.ensures in
    let P : List (List Run) → Type 0 = λ s. AreSummed s c.deref-in-Some.result.now.1 both.1 in
    let Q : Cell → Type 0 = λ e. AreSummed (sums_of cell.0 cells) e.1 both.1 in
    let summed : AreSummed (sums_of (arc_value c.args.cell.now).0 (cells_of c.args.tree.now)) (arc_value c.args.cell.now).1 c.in_ok-both-in-Some.both.1 = subst Q c.deref-in-Some.ensures (subst P old c.in_ok-both-in-Some.ensures.sums) in
    let joined = put-joined cell.0 cells cell.1 both.1 c.requires.tree c.if-has_days.ensures.some (sum-alike (sums_of cell.0 cells) cell.1 both.1 summed) in
    let R : List Cell → Type 0 = λ t. AreJoined cells (cell ∷ []) t in
    if-ok c.put_in-then-has_days.result _ _ (λ new e. subst R (sym (e ∙ ap (λ (k : Cell). put key_cmp k.0 k.1 cells) c.in_ok-new-in-Some.ensures.ok ∙ ap (λ (k : Key). put key_cmp k both.1 cells) key)) joined) (c.put_in-then-has_days.ensures c.requires.tree.ordered)

pub returns-else-has_days : goal.returns-else-has_days
returns-else-has_days c =
    let cells : List Cell = cells_of c.args.tree.now in
    let cell : Cell = arc_value c.args.cell.now in
    let both : Cell = c.in_ok-both-in-Some.both in
    let old : c.in-Some.old.now.1 ≡ sums_of (arc_value c.args.cell.now).0 (cells_of c.args.tree.now) = c.in-Some.ensures.sums c.requires.tree.ordered ∙ ap (λ (e : Cell). sums_of e.0 cells) c.deref.ensures in
    let P : List (List Run) → Type 0 = λ s. AreSummed s c.deref-in-Some.result.now.1 both.1 in
    let Q : Cell → Type 0 = λ e. AreSummed (sums_of cell.0 cells) e.1 both.1 in
    let summed : AreSummed (sums_of (arc_value c.args.cell.now).0 (cells_of c.args.tree.now)) (arc_value c.args.cell.now).1 c.in_ok-both-in-Some.both.1 = subst Q c.deref-in-Some.ensures (subst P old c.in_ok-both-in-Some.ensures.sums) in
    let gone : AreSummed (sums_of (arc_value c.args.cell.now).0 (cells_of c.args.tree.now)) (arc_value c.args.cell.now).1 [] = subst (λ (s : List (List Run)). AreSummed (sums_of cell.0 cells) cell.1 s) c.if-has_days.ensures.none summed in
    let joined = gone-joined cell.0 cells cell.1 c.requires.tree (sum-alike (sums_of cell.0 cells) cell.1 [] gone) in
    let R : List Cell → Type 0 = λ t. AreJoined cells (cell ∷ []) t in
    if-ok c.without.result _ _ (λ new e. subst R (sym (e ∙ ap (λ (k : Cell). without_key k.0 cells) c.deref-else-has_days.ensures)) joined) (c.without.ensures c.requires.tree.ordered)
