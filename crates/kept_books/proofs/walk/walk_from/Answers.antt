use Rattle.std.proofs.Common.{◌+◌, ◌≤◌, List, ℕ, IfOk, IfErr, sym, ap, subst, ◌∙◌}
use Rattle.placed_sums.specs.Accounts.{HasSymbols}
use Rattle.walked_edits.specs.Causes.{CanNot, IsCause}
use Rattle.walked_edits.specs.Counting.{ChecksFew, nodes_on}
use Rattle.walked_edits.specs.Forms.{spots_of}
use Rattle.walked_edits.specs.Scenes.{IsEdited, Scene}
use Rattle.walked_edits.specs.Walking.{IsWalked}
use Rattle.kept_books.proofs.Edits.{scene_by}
use Rattle.kept_books.proofs.walk.walk_from.Goals as goal

pub walk-requires-clause-edited : goal.walk-requires-clause-edited
walk-requires-clause-edited g c =
    let is = scene_by c.args.begun.now c.new-edit.result c.as_slice.result.now c.as_slice-2.result.now c.new-edit.ensures c.as_slice.ensures.value c.as_slice-2.ensures in
    subst (λ (s : Scene). IsEdited s c.args.book.now.items) (sym is) c.requires.edited

pub walk-requires-clause-kept : goal.walk-requires-clause-kept
walk-requires-clause-kept g c = c.requires.kept

pub walk-requires-clause-symbols : goal.walk-requires-clause-symbols
walk-requires-clause-symbols g c =
    subst (λ (symbols : List (List ℕ)). HasSymbols symbols c.args.book.now.items) (sym (ap (λ (s : Scene). s.symbols) c.new-edit.ensures ∙ c.as_slice-2.ensures)) c.requires.symbols

pub returns-clause-walked : goal.returns-clause-walked
returns-clause-walked g c =
    let is = scene_by c.args.begun.now c.new-edit.result c.as_slice.result.now c.as_slice-2.result.now c.new-edit.ensures c.as_slice.ensures.value c.as_slice-2.ensures in
    subst (λ (s : Scene). IfOk c.walk.result (IsWalked s c.args.book.now.items)) is c.walk.ensures.walked

pub returns-clause-few : goal.returns-clause-few
returns-clause-few g c =
    let is = scene_by c.args.begun.now c.new-edit.result c.as_slice.result.now c.as_slice-2.result.now c.new-edit.ensures c.as_slice.ensures.value c.as_slice-2.ensures in
    subst (λ (s : Scene). IfOk c.walk.result (λ w. c.walk.new.steps.nodes ≤ c.args.steps.now.nodes + nodes_on s (spots_of w.forms.items))) is c.walk.ensures.few

pub returns-clause-load : goal.returns-clause-load
returns-clause-load g c =
    let is = scene_by c.args.begun.now c.new-edit.result c.as_slice.result.now c.as_slice-2.result.now c.new-edit.ensures c.as_slice.ensures.value c.as_slice-2.ensures in
    subst (λ (s : Scene). IfErr c.walk.result (λ fault. IsCause fault (CanNot s))) is c.walk.ensures.load

pub returns-clause-most : goal.returns-clause-most
returns-clause-most g c =
    let is = scene_by c.args.begun.now c.new-edit.result c.as_slice.result.now c.as_slice-2.result.now c.new-edit.ensures c.as_slice.ensures.value c.as_slice-2.ensures in
    subst (λ (s : Scene). ChecksFew s c.args.steps.now c.walk.new.steps) is c.walk.ensures.most
