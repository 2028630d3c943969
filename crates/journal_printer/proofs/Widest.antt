-- The widest of some fields, one after another.
use Rattle.std.proofs.Common.{◌≡◌, ℕ, ◌+◌, ◌<◌, List, map, max, length, drop, get_or, sym, ◌∙◌, arith}
use Rattle.std.proofs.lemmas.List.{at_drop_more}
use Rattle.journal_printer.specs.Columns.{width_of, widest}
use Rattle.journal_printer.specs.Layout.{Fields}

max-turn : (a b c : ℕ) → max (max a b) c ≡ max b (max a c)
max-turn a b c = omega arith

-- one posting on
pub widest_next : (part : Fields → List ℕ) (fields : List Fields) (i : ℕ) (d : Fields) (columns : ℕ) → i < length fields
    → max (max (width_of (part (get_or fields i d))) columns) (widest (map part (drop (i + 1) fields))) ≡ max columns (widest (map part (drop i fields)))
widest_next part fields i d columns h =
    max-turn (width_of (part (get_or fields i d))) columns (widest (map part (drop (i + 1) fields)))
    ∙ sym (at_drop_more (λ rest. max columns (widest (map part rest))) fields i d h)
