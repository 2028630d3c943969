use Rattle.std.proofs.Common.{◌≡◌, ◌++◌, [], Option, take, sym, subst}
use Rattle.std.specs.Option.{option_to_list}
use Rattle.book.specs.declared.item.Placed.{Placed}
use Rattle.changed_texts.specs.Meeting.{meeting_items}
use Rattle.changed_texts.proofs.Joints.{stands_next}
use Rattle.changed_texts.proofs.beside.joined_behind.Goals as goal

pub returns-in-None-clause-joined : goal.returns-in-None-clause-joined
returns-in-None-clause-joined c = λ more h.
    let front = take c.args.number c.args.items.now in
    subst (λ (o : Option Placed). meeting_items front (option_to_list o ++ more) ≡ front ++ ([] ++ more)) (sym c.in-None.is) (stands_next c.args.number c.args.items.now more h)
