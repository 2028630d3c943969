-- The nearest account above one.
use Rattle.std.proofs.Common.{◌≡◌, ℕ, ◌+◌, ◌<◌, Bool, true, false, cond, List, [], ◌∷◌, ◌++◌, map, filter, take, length, Option, Some, None, IfSome, is_some, refl, sym, ap, ◌∙◌}
use Rattle.std.specs.List.{range_with_len}
use Rattle.std.specs.Option.{option_or}
use Rattle.std.proofs.lemmas.Bool.{false≢true}
use Rattle.std.proofs.lemmas.List.{map-append}
use Rattle.balance_rows.specs.Trees.{is_colon_at, lineage, parents}
use Rattle.balance_rows.proofs.RowsLaws.{colons-push}
use Rattle.budget_layout.specs.Grouped.{fronts, last_place, place_above, place_for}

pub none_from : (o : Option ℕ) → is_some o ≡ false → o ≡ None
none_from None e = refl
none_from (Some p) e = absurd (false≢true (sym e))

pub first_some : (a b : Option ℕ) → is_some a ≡ true → option_or a b ≡ a
first_some None b e = absurd (false≢true e)
first_some (Some p) b e = refl

or_none : (o : Option ℕ) → option_or o None ≡ o
or_none None = refl
or_none (Some x) = refl

or_assoc : (a b c : Option ℕ) → option_or (option_or a b) c ≡ option_or a (option_or b c)
or_assoc None b c = refl
or_assoc (Some x) b c = refl

fronts-push : (account : List ℕ) (n : ℕ) → fronts account (n + 1) ≡ fronts account n ++ cond (is_colon_at account n) (take n account ∷ []) []
fronts-push account n =
    ap (map (λ (at : ℕ). take at account)) (colons-push account n)
    ∙ map-append (λ (at : ℕ). take at account) (filter (is_colon_at account) (range_with_len 0 n)) (cond (is_colon_at account n) (n ∷ []) [])
    ∙ ap (λ (t : List (List ℕ)). fronts account n ++ t)
    (elim (is_colon_at account n) as (λ b. map (λ (at : ℕ). take at account) (cond b (n ∷ []) []) ≡ cond b (take n account ∷ []) []) [ true ↦ refl | false ↦ refl ])

module _ (place : List ℕ → Option ℕ) where
  pub last-append : (xs ys : List (List ℕ)) → last_place place (xs ++ ys) ≡ option_or (last_place place ys) (last_place place xs)
  last-append [] ys = sym (or_none (last_place place ys))
  last-append (x ∷ xs) ys =
      ap (λ (o : Option ℕ). option_or o (place x)) (last-append xs ys) ∙ or_assoc (last_place place ys) (last_place place xs) (place x)

  above_one : (account : List ℕ) (b : Bool) → last_place place (cond b (account ∷ []) []) ≡ cond b (place account) None
  above_one account true = refl
  above_one account false = refl

  -- one place on the way to the front
  pub above_step : (account : List ℕ) (n k : ℕ) → n ≡ k + 1
      → last_place place (fronts account n) ≡ option_or (place_above place account k) (last_place place (fronts account k))
  above_step account n k e =
      ap (λ (m : ℕ). last_place place (fronts account m)) e
      ∙ ap (last_place place) (fronts-push account k)
      ∙ last-append (fronts account k) (cond (is_colon_at account k) (take k account ∷ []) [])
      ∙ ap (λ (o : Option ℕ). option_or o (last_place place (fronts account k))) (above_one (take k account) (is_colon_at account k))

  -- an account and those above it are its lineage
  pub lineage-place : (account : List ℕ) → place_for place account ≡ last_place place (lineage account)
  lineage-place account = sym (last-append (parents account) (account ∷ []))

-- a bound of all places
module _ (place : List ℕ → Option ℕ) (count : ℕ) (within : (name : List ℕ) → IfSome (place name) (λ at. at < count)) where
  or_within : (a b : Option ℕ) → IfSome a (λ at. at < count) → IfSome b (λ at. at < count) → IfSome (option_or a b) (λ at. at < count)
  or_within None b f g = g
  or_within (Some x) b f g = f

  last_within : (names : List (List ℕ)) → IfSome (last_place place names) (λ at. at < count)
  last_within [] = tt
  last_within (name ∷ names) = or_within (last_place place names) (place name) (last_within names) (within name)

  pub for_within : (account : List ℕ) → IfSome (place_for place account) (λ at. at < count)
  for_within account =
      or_within (place account) (last_place place (fronts account (length account))) (within account) (last_within (fronts account (length account)))
