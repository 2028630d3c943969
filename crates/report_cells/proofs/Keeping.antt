-- Entries that are kept by name: what is found, and what is written.
use Rattle.std.proofs.Common.{◌≡◌, List, [], ◌∷◌, cond, T, Option, Some, None, unwrap_or, refl, sym, ap, ◌∙◌}
use Rattle.std.specs.declared.cmp.Ordering.{Ordering}
use Rattle.std.specs.declared.cmp.Ordering.TheVariants.{Less, Equal, Greater}
use Rattle.std.specs.Ordering.{is_eq, match_ordering}
use Rattle.std.specs.Cmp.{IsTotalOrder}
use Rattle.std.specs.BTreeMap.{insert_entry, is_at}
use Rattle.std.specs.Map.{lookup, set_value}
use Rattle.std.specs.FinMap.Entries.{by_order, find, put, below_all, is_sorted}
use Rattle.book.proofs.Places.{first, second, less}

module _ {K V : Type 0} {R : K → K → Ordering} (total : IsTotalOrder R) where
  -- a look-up finds what `find` finds
  found : (k : K) (es : List (K × V)) → lookup (is_at (R k)) es ≡ find R k es
  found k [] = refl
  found k (e ∷ es) = ap (λ (o : Option V). cond (is_eq (R k e.0)) (Some e.1) o) (found k es)

  -- an insertion puts
  inserted : (k : K) (v : V) (es : List (K × V)) → insert_entry R es k v ≡ put R k v es
  inserted k v [] = refl
  inserted k v (e ∷ es) =
      elim (R k e.0) as (λ r. match_ordering r ((k, v) ∷ e ∷ es) ((e.0, v) ∷ es) (e ∷ insert_entry R es k v) ≡ by_order r ((k, v) ∷ e ∷ es) ((e.0, v) ∷ es) (e ∷ put R k v es)) [
        | Less ↦ refl
        | Equal ↦ refl
        | Greater ↦ ap (λ t. e ∷ t) (inserted k v es)
      ]

  -- nothing is found before smaller names
  none_below : (k m : K) (es : List (K × V)) → R k m ≡ Less → T (below_all R m es) → find R k es ≡ None
  none_below k m [] lt h = refl
  none_below k m (e ∷ es) lt h =
      ap (λ r. cond (is_eq r) (Some e.1) (find R k es)) (total.trans k m e.0 lt (less _ (first _ _ h)))
      ∙ none_below k m es lt (second _ _ h)

  -- a value that is written where one is found is put
  written : (k : K) (old v : V) (es : List (K × V)) → T (is_sorted R es) → find R k es ≡ Some old → set_value (is_at (R k)) es v ≡ put R k v es
  written k old v [] h is = cc
  written k old v (e ∷ es) h is =
      elim (R k e.0) as (λ r. R k e.0 ≡ r → cond (is_eq r) (Some e.1) (find R k es) ≡ Some old → cond (is_eq r) ((e.0, v) ∷ es) (e ∷ set_value (is_at (R k)) es v) ≡ by_order r ((k, v) ∷ e ∷ es) ((e.0, v) ∷ es) (e ∷ put R k v es)) [
        | Less ↦ λ r f. let none = none_below k e.0 es r (first _ _ h) in cc (none, f)
        | Equal ↦ λ r f. refl
        | Greater ↦ λ r f. ap (λ t. e ∷ t) (written k old v es (second _ _ h) f)
      ] refl is

  module _ (k : K) (es : List (K × V)) (d : V) where
    module _ (old : V) (is : Some old ≡ lookup (is_at (R k)) es) where
      there : find R k es ≡ Some old
      there = sym (is ∙ found k es)

      pub value_here : unwrap_or (find R k es) d ≡ old
      value_here = ap (λ (o : Option V). unwrap_or o d) there

      pub put_here : T (is_sorted R es) → (v new : V) → v ≡ new → set_value (is_at (R k)) es v ≡ put R k new es
      put_here ordered v new same = written k old v es ordered there ∙ ap (λ (x : V). put R k x es) same

    pub value_none : None ≡ lookup (is_at (R k)) es → unwrap_or (find R k es) d ≡ d
    value_none is = ap (λ (o : Option V). unwrap_or o d) (sym (is ∙ found k es))

    pub put_new : (v new : V) → v ≡ new → insert_entry R es k v ≡ put R k new es
    put_new v new same = inserted k v es ∙ ap (λ (x : V). put R k x es) same
