use Rattle.std.proofs.Common.{◌++◌, List, subst}
use Rattle.book.specs.declared.item.Placed.{Placed}
use Rattle.counted_styles.specs.Texts.{IsOf}
use Rattle.text_ends.specs.Going.{items_behind}
use Rattle.kept_texts.proofs.Alikes.{behind-same, kept-same}
use Rattle.kept_texts.proofs.kept.KeptText.with_added.Goals as goal

pub returns : goal.returns
returns c = λ items book h.
    let grown = c.args.grown.now in
    let added : IsOf (items ++ c.args.grown.now.items) c.in_ok-styles.styles =
    subst (λ (l : List Placed). IsOf (items ++ l) c.in_ok-styles.styles) c.as_slice.ensures (c.in_ok-styles.ensures items h.styles) in
    record {
      styles = kept-same (items ++ grown.items) (items_behind items grown) c.in_ok-styles.styles (behind-same items grown) added;
      asked = c.in_ok-asked.ensures book h.asked;
    }
