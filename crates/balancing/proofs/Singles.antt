-- A sum that is the only one goes on, or moves beside that of another symbol.
use Rattle.std.proofs.Common.{◌≡◌, ℕ, Bool, true, false, ◌&&◌, List, [], ◌∷◌, Option, Some, None, sym, ap, ◌∙◌}
use Rattle.std.proofs.lemmas.Bool.{false≢true}
use Rattle.hl_num.specs.Decimal.{Decimal}
use Rattle.book.specs.Entries.{held}
use Rattle.book.specs.Mixed.{plus, fits_with}
use Rattle.entry_balance.specs.Values.{Value}
use Rattle.entry_balance.specs.Tally.{added_to, is_within, are_within}
use Rattle.entry_balance.proofs.Only.{held_same, same_only}
use Rattle.balancing.specs.Single.{single, takes}

module _ (only : Option Value) (name : List ℕ) (sum value : Decimal) (symbol : List ℕ) (is : Some (name, sum) ≡ only) where
  -- a number of its symbol
  pub further : takes only symbol ≡ true → (new : Decimal) → new ≡ plus sum value → (name, new) ∷ [] ≡ added_to (single only) symbol value
  further goes new more =
      ap (λ (d : Decimal). (name, d) ∷ []) more
      ∙ same_only symbol name sum value (ap (λ (o : Option Value). takes o symbol) is ∙ goes)
      ∙ ap (λ (o : Option Value). added_to (single o) symbol value) is

  pub further_range : takes only symbol ≡ true → fits_with (Some sum) value ≡ false → fits_with (held symbol (single only)) value ≡ false
  further_range goes over =
      ap (λ (o : Option Value). fits_with (held symbol (single o)) value) (sym is)
      ∙ ap (λ (o : Option Decimal). fits_with o value) (held_same symbol name sum (ap (λ (o : Option Value). takes o symbol) is ∙ goes))
      ∙ over

  -- one of another symbol
  pub beside : (first all : List Value) → first ≡ added_to [] name sum → all ≡ added_to first symbol value → all ≡ added_to (single only) symbol value
  beside first all one both =
      both ∙ ap (λ (vs : List Value). added_to vs symbol value) one ∙ ap (λ (o : Option Value). added_to (single o) symbol value) is

  pub beside_range : (first : List Value) → first ≡ added_to [] name sum → fits_with (held symbol first) value ≡ false → fits_with (held symbol (single only)) value ≡ false
  beside_range first one over =
      ap (λ (o : Option Value). fits_with (held symbol (single o)) value) (sym is)
      ∙ ap (λ (vs : List Value). fits_with (held symbol vs) value) (sym one) ∙ over

-- the first number
pub begun : (only : Option Value) (symbol : List ℕ) (value new : Decimal) → only ≡ None → new ≡ value → (symbol, new) ∷ [] ≡ added_to (single only) symbol value
begun only symbol value new none is =
    ap (λ (d : Decimal). (symbol, d) ∷ []) is ∙ ap (λ (o : Option Value). added_to (single o) symbol value) (sym none)

pub one_within : (name : List ℕ) (sum : Decimal) → is_within sum ≡ true → are_within ((name, sum) ∷ []) ≡ true
one_within name sum small = ap (λ (b : Bool). b && true) small

-- a first sum is never out of range
pub never_over : (name : List ℕ) (sum : Decimal) (old : List Value) → old ≡ [] → fits_with (held name old) sum ≡ false → ⊥
never_over name sum old none over = false≢true (sym over ∙ ap (λ (vs : List Value). fits_with (held name vs) sum) none)
