use Rattle.std.proofs.Common.{◌≡◌, ℕ, List, Option, IfOk, Result, Ok, sym, ap, subst, ◌∙◌}
use Rattle.book.specs.declared.fault.Fault.{Fault}
use Rattle.book.specs.declared.item.Placed.{Placed}
use Rattle.book.specs.Style.{style_of}
use Rattle.book.specs.Styles.{style_in}
use Rattle.live_journal.proofs.live.Live.styles.Goals as goal

pub returns : goal.returns
returns c =
    rw (← c.self.view_is)
    (subst (λ (r : Result (List Placed) Fault). IfOk r (λ items. (symbol : List ℕ) → style_in c.styles.result.now symbol ≡ style_of items symbol)) (sym c.self.invariant.read)
    (c.styles.ensures c.self.inside.loaded.items c.self.invariant.of_text.styles))
