use Rattle.std.proofs.Common.{◌≡◌, sym, ap, subst, ◌∙◌}
use Rattle.loaded_texts.specs.Keeping.{IsLoaded}
use Rattle.loaded_texts.specs.Ways.{CanTake, CanTakeIn, IsAdded, IsMadeFrom}
use Rattle.loaded_texts.specs.declared.adding.Addition.{Addition}
use Rattle.loaded_texts.specs.declared.loaded.Loaded.{Loaded}
use Rattle.loaded_texts.specs.Changing.{CanTakeChange, Changes}
use Rattle.loaded_texts.proofs.Loads.{added_whole}
use Rattle.loaded_texts.proofs.Putting.{changed_here}
use Rattle.loaded_texts.proofs.made.put_made.Goals as goal

pub take_addition-requires : goal.take_addition-requires
take_addition-requires c =
    subst (CanTakeIn c.args.bytes.now c.args.loaded.now) (sym c.into_inner-in-Added.ensures) (subst (CanTake c.args.bytes.now c.args.loaded.now) c.in-Added.is c.requires)

pub returns-in-Loaded : goal.returns-in-Loaded
returns-in-Loaded c = λ year old new h made.
    subst (IsLoaded year new) (sym c.into_inner.ensures) (subst (IsMadeFrom year old c.args.bytes.now new) c.in-Loaded.is made)

pub returns-in-Added : goal.returns-in-Added
returns-in-Added c = λ year old new h made.
    added_whole year old c.args.bytes.now new c.args.loaded.now c.take_addition.new.loaded c.into_inner-in-Added.result h
    (subst (IsAdded year old c.args.bytes.now new) (sym c.into_inner-in-Added.ensures) (subst (IsMadeFrom year old c.args.bytes.now new) c.in-Added.is made))
    (c.take_addition.ensures year old h)

pub take_change-requires : goal.take_change-requires
take_change-requires c =
    subst (CanTakeChange c.args.loaded.now) (sym c.into_inner-in-Changed.ensures) (subst (CanTake c.args.bytes.now c.args.loaded.now) c.in-Changed.is c.requires)

pub returns-in-Changed : goal.returns-in-Changed
returns-in-Changed c = λ year old new h made.
    c.take_change.ensures year old c.args.bytes.now new h
    (subst (Changes year old c.args.bytes.now new c.args.loaded.now.items c.args.loaded.now.book.txns) (sym c.into_inner-in-Changed.ensures)
    (changed_here year old c.args.bytes.now new c.args.loaded.now c.in-Changed.changed h (subst (IsMadeFrom year old c.args.bytes.now new) c.in-Changed.is made)))
