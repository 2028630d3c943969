-- A sum that is the only one, and what is put beside it.
use Rattle.std.proofs.Common.{◌≡◌, ℕ, Bool, true, false, cond, List, [], ◌∷◌, Option, Some, None, refl, sym, ap, ◌∙◌}
use Rattle.std.specs.declared.cmp.Ordering.{Ordering}
use Rattle.std.specs.declared.cmp.Ordering.TheVariants.{Less, Equal, Greater}
use Rattle.std.specs.Ordering.{nat_cmp}
use Rattle.std.specs.Cmp.{Equal-is}
use Rattle.std.specs.Cmp.Lexicographic.{slice_cmp}
use Rattle.std.specs.Str.{bytes_eq}
use Rattle.std.specs.FinMap.Entries.{by_order, put}
use Rattle.std.proofs.lemmas.Map.Text.{is_eq-slice_cmp}
use Rattle.hl_num.specs.Decimal.{Decimal}
use Rattle.book.specs.Entries.{held}
use Rattle.book.specs.Mixed.{plus, sum_with}
use Rattle.entry_balance.specs.Values.{Value}
use Rattle.entry_balance.specs.Tally.{named, only_sum, all_sums, added_to}
use Rattle.entry_balance.proofs.Named.{Entry}

abbrev order : List ℕ → List ℕ → Ordering
order = slice_cmp nat_cmp

put_some : (k : List ℕ) (v : Decimal) (es : List Value) → put order k v es ≡ [] → ⊥
put_some k v [] h = let no : ⊥ = cc in no
put_some k v (e ∷ es) h =
    elim (order k e.0) as (λ o. by_order o ((k, v) ∷ e ∷ es) ((e.0, v) ∷ es) (e ∷ put order k v es) ≡ [] → ⊥) [
      | Less ↦ λ h. let no : ⊥ = cc in no
      | Equal ↦ λ h. let no : ⊥ = cc in no
      | Greater ↦ λ h. let no : ⊥ = cc in no
    ] h

-- a map that something was put into has all sums
pub after_put : (only : Option Entry) (es : List Entry) (k : List ℕ) (v : Decimal) (xs : List Value) → named es ≡ put order k v xs → all_sums only es ≡ put order k v xs
after_put only [] k v xs h = absurd (put_some k v xs (sym h))
after_put only (e ∷ es) k v xs h = h

pub all-named : (only : Option Entry) (es : List Entry) → (es ≡ [] → ⊥) → all_sums only es ≡ named es
all-named only [] h = absurd (h refl)
all-named only (e ∷ es) h = refl

pub only-none : (only : Option Entry) (es : List Entry) → es ≡ [] → all_sums only es ≡ only_sum only
only-none only es h = ap (all_sums only) h

order_of : (k s : List ℕ) → bytes_eq k s ≡ true → order k s ≡ Equal
order_of k s h = (Equal-is (order k s)).0 (is_eq-slice_cmp k s ∙ h)

-- the sum at one symbol
held_one : (k s : List ℕ) (d : Decimal) → held k ((s, d) ∷ []) ≡ cond (bytes_eq k s) (Some d) None
held_one k s d = ap (λ (b : Bool). cond {A = Option Decimal} b (Some d) None) (is_eq-slice_cmp k s)

pub held_same : (k s : List ℕ) (d : Decimal) → bytes_eq k s ≡ true → held k ((s, d) ∷ []) ≡ Some d
held_same k s d h = held_one k s d ∙ ap (λ (b : Bool). cond {A = Option Decimal} b (Some d) None) h

pub held_other : (k s : List ℕ) (d : Decimal) → bytes_eq k s ≡ false → held k ((s, d) ∷ []) ≡ None
held_other k s d h = held_one k s d ∙ ap (λ (b : Bool). cond {A = Option Decimal} b (Some d) None) h

-- the only sum goes on
pub same_only : (k s : List ℕ) (d v : Decimal) → bytes_eq k s ≡ true → (s, plus d v) ∷ [] ≡ added_to ((s, d) ∷ []) k v
same_only k s d v h = sym
    (ap (λ (o : Ordering). by_order o ((k, sum_with (held k ((s, d) ∷ [])) v) ∷ (s, d) ∷ []) ((s, sum_with (held k ((s, d) ∷ [])) v) ∷ []) ((s, d) ∷ (k, sum_with (held k ((s, d) ∷ [])) v) ∷ [])) (order_of k s h)
    ∙ ap (λ (o : Option Decimal). (s, sum_with o v) ∷ []) (held_same k s d h))

-- another symbol stands beside it
pub other_only : (k s : List ℕ) (d v : Decimal) → bytes_eq k s ≡ false → put order k v ((s, d) ∷ []) ≡ added_to ((s, d) ∷ []) k v
other_only k s d v h = ap (λ (o : Option Decimal). put order k (sum_with o v) ((s, d) ∷ [])) (sym (held_other k s d h))
