use Rattle.std.proofs.Common.{◌++◌, ◌∷◌, [], List, subst}
use Rattle.book.specs.declared.item.Placed.{Placed}
use Rattle.counted_styles.specs.Texts.{IsOf}
use Rattle.kept_texts.proofs.around.styles_behind.Goals as goal

pub returns : goal.returns
returns c = λ items h.
    let entry : IsOf (items ++ (c.args.entry.now ∷ [])) c.in_ok-with_entry.with_entry =
    subst (λ (xs : List Placed). IsOf (items ++ xs) c.in_ok-with_entry.with_entry) c.from_ref.ensures.value (c.in_ok-with_entry.ensures items h) in
    c.in_ok-all.ensures ((items ++ (c.args.entry.now ∷ [])) ++ c.args.after.now) (c.in_ok-with_after.ensures (items ++ (c.args.entry.now ∷ [])) entry)
