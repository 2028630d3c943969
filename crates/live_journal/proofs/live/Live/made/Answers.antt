use Rattle.std.proofs.Common.{◌≡◌, ℕ, List, Option, None, refl, sym, ap, subst, ◌∙◌}
use Rattle.hl_base.specs.Items.{items_of}
use Rattle.hl_base.specs.declared.change.Splice.{Splice}
use Rattle.loaded_texts.specs.Keeping.{IsLoaded}
use Rattle.loaded_texts.specs.declared.loaded.Loaded.{Loaded}
use Rattle.live_journal.specs.declared.edit.Edit.{Edit}
use Rattle.live_journal.specs.Edits.{applied, splice_of}
use Rattle.live_journal.specs.Journals.{Journal}
use Rattle.live_journal.specs.Placing.{IsChange}
use Rattle.live_journal.specs.Refusals.{no_such_item, not_transactions}
use Rattle.live_journal.specs.Trying.{ComesOf, IsAdd}
use Rattle.live_journal.specs.Walking.{is_plain_edit}
use Rattle.live_journal.proofs.Trying.{comes_of}
use Rattle.live_journal.proofs.live.Live.made.Goals as goal

pub add-requires-clause-editing : goal.add-requires-clause-editing
add-requires-clause-editing g c =
    let text = c.as_slice.ensures ∙ ap (λ (x : Journal). x.text) c.self.view_is in
    record {
      put = c.as_slice-2.ensures ∙ ap (λ (s : Splice). s.inserted) c.requires.splice ∙ ap (λ (t : List ℕ). (splice_of t c.args.edit.now).inserted) (sym text);
      makes = c.requires.new ∙ ap (λ (t : List ℕ). applied t c.args.edit.now) (sym text);
    }

pub add-requires-clause-loaded : goal.add-requires-clause-loaded
add-requires-clause-loaded g c = subst (λ (t : List ℕ). IsLoaded c.self.inside.year t c.self.inside.loaded) (sym c.as_slice.ensures) c.self.invariant

pub add-requires-clause-add : goal.add-requires-clause-add
add-requires-clause-add g c = subst IsAdd (sym c.in-Add.is) tt

pub add-requires-clause-entries : goal.add-requires-clause-entries
add-requires-clause-entries g c =
    ap (λ (t : List ℕ). not_transactions (items_of t) c.args.edit.now) (c.as_slice.ensures ∙ ap (λ (x : Journal). x.text) c.self.view_is) ∙ c.requires.entries

pub change-requires-clause-editing : goal.change-requires-clause-editing
change-requires-clause-editing g c =
    let text = c.as_slice.ensures ∙ ap (λ (x : Journal). x.text) c.self.view_is in
    record {
      put = c.as_slice-2.ensures ∙ ap (λ (s : Splice). s.inserted) c.requires.splice ∙ ap (λ (t : List ℕ). (splice_of t c.args.edit.now).inserted) (sym text);
      makes = c.requires.new ∙ ap (λ (t : List ℕ). applied t c.args.edit.now) (sym text);
    }

pub change-requires-clause-loaded : goal.change-requires-clause-loaded
change-requires-clause-loaded g c = subst (λ (t : List ℕ). IsLoaded c.self.inside.year t c.self.inside.loaded) (sym c.as_slice.ensures) c.self.invariant

pub change-requires-clause-change : goal.change-requires-clause-change
change-requires-clause-change g c = subst (λ (d : Edit). IsChange d c.in-Change.item) (sym c.in-Change.is) refl

pub change-requires-clause-there : goal.change-requires-clause-there
change-requires-clause-there g c =
    ap (λ (t : List ℕ). no_such_item (items_of t) c.args.edit.now) (c.as_slice.ensures ∙ ap (λ (x : Journal). x.text) c.self.view_is) ∙ c.requires.item

pub change-requires-clause-entries : goal.change-requires-clause-entries
change-requires-clause-entries g c =
    ap (λ (t : List ℕ). not_transactions (items_of t) c.args.edit.now) (c.as_slice.ensures ∙ ap (λ (x : Journal). x.text) c.self.view_is) ∙ c.requires.entries

pub unwalked-requires-clause-editing : goal.unwalked-requires-clause-editing
unwalked-requires-clause-editing g c =
    let text = c.as_slice.ensures ∙ ap (λ (x : Journal). x.text) c.self.view_is in
    record {
      put = c.as_slice-2.ensures ∙ ap (λ (s : Splice). s.inserted) c.requires.splice ∙ ap (λ (t : List ℕ). (splice_of t c.args.edit.now).inserted) (sym text);
      makes = c.requires.new ∙ ap (λ (t : List ℕ). applied t c.args.edit.now) (sym text);
    }

pub unwalked-requires-clause-other : goal.unwalked-requires-clause-other
unwalked-requires-clause-other g c = ap is_plain_edit c.in-Replace.is

pub invariant_of-self : goal.invariant_of-self
invariant_of-self g c = subst (λ (l : Loaded). IsLoaded c.self.inside.year c.self.inside.text l) (sym c.add.ensures.stays) c.self.invariant

pub invariant_of-self-in-Change : goal.invariant_of-self-in-Change
invariant_of-self-in-Change g c = subst (λ (l : Loaded). IsLoaded c.self.inside.year c.self.inside.text l) (sym c.change.ensures.stays) c.self.invariant

pub returns-in-Add-clause-comes : goal.returns-in-Add-clause-comes
returns-in-Add-clause-comes g c =
    subst (λ (b : List ℕ). ComesOf c.args.self.now c.args.edit.now b c.args.new.now c.add.result c.args.steps.now c.add.new.steps) c.as_slice-2.ensures
    (comes_of c.args.self.now _ c.add.result c.args.steps.now c.add.new.steps (ap (λ (x : Journal). x.year) c.self.view_is) (c.as_slice.ensures ∙ ap (λ (x : Journal). x.text) c.self.view_is) c.add.ensures.comes)

pub returns-in-Change-clause-comes : goal.returns-in-Change-clause-comes
returns-in-Change-clause-comes g c =
    subst (λ (b : List ℕ). ComesOf c.args.self.now c.args.edit.now b c.args.new.now c.change.result c.args.steps.now c.change.new.steps) c.as_slice-2.ensures
    (comes_of c.args.self.now _ c.change.result c.args.steps.now c.change.new.steps (ap (λ (x : Journal). x.year) c.self.view_is) (c.as_slice.ensures ∙ ap (λ (x : Journal). x.text) c.self.view_is) c.change.ensures.comes)

pub returns-in-Replace-clause-comes : goal.returns-in-Replace-clause-comes
returns-in-Replace-clause-comes g c =
    subst (λ (b : List ℕ). ComesOf c.args.self.now c.args.edit.now b c.args.new.now c.unwalked.result c.args.steps.now c.unwalked.new.steps) c.as_slice-2.ensures
    (comes_of c.args.self.now _ c.unwalked.result c.args.steps.now c.unwalked.new.steps (ap (λ (x : Journal). x.year) c.self.view_is) (c.as_slice.ensures ∙ ap (λ (x : Journal). x.text) c.self.view_is) c.unwalked.ensures)

pub returns-in-Add-clause-stays : goal.returns-in-Add-clause-stays
returns-in-Add-clause-stays g c = c.self.view_is

pub returns-in-Change-clause-stays : goal.returns-in-Change-clause-stays
returns-in-Change-clause-stays g c = c.self.view_is

pub returns-in-Replace-clause-stays : goal.returns-in-Replace-clause-stays
returns-in-Replace-clause-stays g c = refl
