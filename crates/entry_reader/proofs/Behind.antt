-- The context behind items, one after another.
use Rattle.std.proofs.Common.{◌≡◌, ℕ, ◌+◌, ◌<◌, [], ◌∷◌, ◌++◌, List, length, take, get_or, Option, sym, ap, ◌∙◌}
use Rattle.std.proofs.lemmas.List.{map_more}
use Rattle.book.specs.declared.item.Item.{Item}
use Rattle.book.specs.declared.item.Placed.{Placed}
use Rattle.entry_reader.specs.Contexts.{Context, context_of, items_at}

-- the context after one more item
pub context_more : (year : Option ℕ) (items : List Placed) (i : ℕ) (placed : Placed) (context : Context) → i < length items → placed ≡ get_or items i placed
    → context ≡ context_of year (items_at (take i items) ++ placed.item ∷ []) → context ≡ context_of year (items_at (take (i + 1) items))
context_more year items i placed context lt is e =
    e ∙ ap (λ (x : Item). context_of year (items_at (take i items) ++ x ∷ [])) (ap (λ (p : Placed). p.item) is)
    ∙ ap (context_of year) (sym (map_more (λ (p : Placed). p.item) items i placed lt))
