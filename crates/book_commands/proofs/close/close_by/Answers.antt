use Rattle.std.proofs.Common.{refl}
use Rattle.book_commands.proofs.close.close_by.Goals as goal

pub returns-clause-found : goal.returns-clause-found
returns-clause-found c =
    let kept = c.args.kept.now in
    c.answer_closing.ensures.found c.args.asked.now c.args.day.0 kept.items kept.book refl
    (record { items_are = refl; book_is = refl; on_is = c.day.ensures.value; into_is = refl; query = c.requires.query; letters = c.in_ok-types.ensures })
