-- Maps whose keys are texts, by their bytes.
use Rattle.std.proofs.Common.{◌≡◌, ℕ, cond, List, [], ◌∷◌, Option, Some, None, refl, sym, ap, ◌∙◌}
use Rattle.std.specs.Prelude.{String, string_bytes}
use Rattle.std.specs.Global.{Global}
use Rattle.std.specs.declared.cmp.Ordering.{Ordering}
use Rattle.std.specs.declared.cmp.Ordering.TheVariants.{Less, Equal, Greater}
use Rattle.std.specs.Ordering.{nat_cmp, is_eq, match_ordering, ordering_reverse}
use Rattle.std.specs.Cmp.Lexicographic.{slice_cmp, nat_list_cmp_total}
use Rattle.std.specs.List.{AllByRecursion}
use Rattle.std.specs.List.Sorted.{IsStrictlySortedBy}
use Rattle.std.specs.Map.{lookup, set_value, keys_of}
use Rattle.std.specs.String.{string_cmp}
use Rattle.std.specs.BTreeMap.{insert_entry, is_at}
use Rattle.std.specs.FinMap.Entries.{by_order, put}
use Rattle.hl_num.specs.Decimal.{Decimal}
use Rattle.book.specs.Entries.{held}
use Rattle.assertions.specs.Texts.{values_in}

abbrev pub Entry : Type 0
Entry = String Global × Decimal

abbrev at : List ℕ → String Global → Ordering
at q k = slice_cmp nat_cmp q (string_bytes k)

pub values-insert : (es : List Entry) (k : String Global) (v : Decimal) → values_in (insert_entry string_cmp es k v) ≡ put (slice_cmp nat_cmp) (string_bytes k) v (values_in es)
values-insert [] k v = refl
values-insert (e ∷ es) k v =
    elim (string_cmp k e.0) as (λ o. values_in (match_ordering o ((k, v) ∷ e ∷ es) ((e.0, v) ∷ es) (e ∷ insert_entry string_cmp es k v)) ≡ by_order o ((string_bytes k, v) ∷ values_in (e ∷ es)) ((string_bytes e.0, v) ∷ values_in es) ((string_bytes e.0, e.1) ∷ put (slice_cmp nat_cmp) (string_bytes k) v (values_in es))) [
      | Less ↦ refl
      | Equal ↦ refl
      | Greater ↦ ap (λ t. (string_bytes e.0, e.1) ∷ t) (values-insert es k v)
    ]

pub held-values : (es : List Entry) (q : List ℕ) → lookup (is_at (at q)) es ≡ held q (values_in es)
held-values [] q = refl
held-values (e ∷ es) q = ap (λ (o : Option Decimal). cond (is_eq (at q e.0)) (Some e.1) o) (held-values es q)

apart : (q a b : List ℕ) → slice_cmp nat_cmp q a ≡ Less → slice_cmp nat_cmp a b ≡ Less → slice_cmp nat_cmp q b ≡ Equal → ⊥
apart q a b first second same =
    let turned : slice_cmp nat_cmp b a ≡ Less = sym (nat_list_cmp_total.congr q b a same) ∙ first in
    let greater : slice_cmp nat_cmp a b ≡ Greater = nat_list_cmp_total.antisymm a b ∙ ap ordering_reverse turned in
    let never : ⊥ = cc in never

-- nothing stands at a text below all keys
none-above : (es : List Entry) (q : List ℕ) (k : String Global) → at q k ≡ Less → AllByRecursion (λ y. string_cmp k y ≡ Less) (keys_of es) → lookup (is_at (at q)) es ≡ None
none-above [] q k less h = refl
none-above (e ∷ es) q k less h =
    let rest = none-above es q k less h.1 in
    elim (at q e.0) as (λ o. at q e.0 ≡ o → cond (is_eq o) (Some e.1) (lookup (is_at (at q)) es) ≡ None) [
      | Less ↦ λ is. rest
      | Equal ↦ λ is. absurd (apart q (string_bytes k) (string_bytes e.0) less h.0 is)
      | Greater ↦ λ is. rest
    ] refl

some-none : {X : Type 0} (o : Option X) (x : X) → o ≡ Some x → o ≡ None → ⊥
some-none o x h k = let never : ⊥ = cc in never

module _ (e : Entry) (es : List Entry) (q : List ℕ) (v w : Decimal) where
  abbrev made : Ordering → Type 0
  made o = values_in (cond (is_eq o) ((e.0, w) ∷ es) (e ∷ set_value (is_at (at q)) es w)) ≡ by_order o ((q, w) ∷ values_in (e ∷ es)) ((string_bytes e.0, w) ∷ values_in es) ((string_bytes e.0, e.1) ∷ put (slice_cmp nat_cmp) q w (values_in es))

  abbrev left : Ordering → Type 0
  left o = cond (is_eq o) (Some e.1) (lookup (is_at (at q)) es) ≡ Some v

-- a new number at a text that has one
pub values-set : (es : List Entry) (q : List ℕ) (v w : Decimal) → IsStrictlySortedBy string_cmp (keys_of es) → lookup (is_at (at q)) es ≡ Some v → values_in (set_value (is_at (at q)) es w) ≡ put (slice_cmp nat_cmp) q w (values_in es)
unfolding IsStrictlySortedBy
values-set [] q v w sorted there = absurd (let never : ⊥ = cc in never)
values-set (e ∷ es) q v w sorted there =
    elim (at q e.0) as (λ o. at q e.0 ≡ o → left e es q v w o → made e es q v w o) [
      | Less ↦ λ is here. absurd (some-none (lookup (is_at (at q)) es) v here (none-above es q e.0 is sorted.0))
      | Equal ↦ λ is here. refl
      | Greater ↦ λ is here. ap (λ t. (string_bytes e.0, e.1) ∷ t) (values-set es q v w sorted.1 here)
    ] refl there
