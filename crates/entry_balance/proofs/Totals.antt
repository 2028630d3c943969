-- The sum of one symbol among sums.
use Rattle.std.proofs.Common.{◌≡◌, ℕ, Bool, true, false, cond, List, [], ◌∷◌, map, filter, Option, Some, None, refl, sym, ap, ◌∙◌}
use Rattle.std.specs.List.{fold}
use Rattle.std.specs.Str.{bytes_eq}
use Rattle.std.specs.Ordering.{nat_cmp, eq_by_cmp}
use Rattle.std.specs.Cmp.Lexicographic.{slice_cmp}
use Rattle.std.proofs.lemmas.Bool.{or_parts}
use Rattle.hl_num.specs.Decimal.{Decimal}
use Rattle.book.specs.Entries.{held}
use Rattle.book.specs.Mixed.{plus}
use Rattle.book.proofs.Entries.{tie-bytes_eq}
use Rattle.entry_balance.specs.Values.{Value}
use Rattle.entry_balance.specs.Tally.{numbers_of, no_sum, total_of, sums_of}
use Rattle.entry_balance.proofs.Turnover.{has_value, held-sums}

none_there : (q : List ℕ) (vs : List Value) → has_value q vs ≡ false → numbers_of q vs ≡ []
none_there q [] h = refl
none_there q (x ∷ xs) h =
    let parts = or_parts (eq_by_cmp (slice_cmp nat_cmp) q x.0) (has_value q xs) h in
    ap (λ (b : Bool). map (λ (v : Value). v.1) (cond b (x ∷ filter (λ (v : Value). bytes_eq v.0 q) xs) (filter (λ (v : Value). bytes_eq v.0 q) xs))) (sym (tie-bytes_eq q x.0) ∙ parts.0)
    ∙ none_there q xs parts.1

module _ (q : List ℕ) (vs : List Value) where
  some_by : (b : Bool) (d : Decimal) → cond b (Some (total_of q vs)) None ≡ Some d → d ≡ total_of q vs
  some_by true d h = let same : total_of q vs ≡ d = cc in sym same
  some_by false d h = absurd (let no : ⊥ = cc in no)

  none_by : (b : Bool) → has_value q vs ≡ b → cond {A = Option Decimal} b (Some (total_of q vs)) None ≡ None → no_sum ≡ total_of q vs
  none_by true e h = absurd (let no : ⊥ = cc in no)
  none_by false e h = ap (fold plus no_sum) (sym (none_there q vs e))

  pub total-some : (d : Decimal) (sums : List Value) → sums ≡ sums_of vs → held q sums ≡ Some d → d ≡ total_of q vs
  total-some d sums is h = some_by (has_value q vs) d (sym (held-sums q vs) ∙ ap (held q) (sym is) ∙ h)

  pub total-none : (sums : List Value) → sums ≡ sums_of vs → held q sums ≡ None → no_sum ≡ total_of q vs
  total-none sums is h = none_by (has_value q vs) refl (sym (held-sums q vs) ∙ ap (held q) (sym is) ∙ h)
