-- The last of some items, longer.
use Rattle.std.proofs.Common.{ℕ, zero, suc, ◌≡◌, ◌-◌, ◌≤◌, List, [], ◌∷◌, ◌++◌, length, map, take, drop, refl, sym, ap, ◌∙◌, arith}
use Rattle.std.specs.Prelude.{IfSome}
use Rattle.std.specs.List.{slice_get, AllByRecursion}
use Rattle.book.specs.declared.item.Placed.{Placed}
use Rattle.text_ends.specs.Ends.{front_of, last_of}
use Rattle.text_ends.specs.Going.{grown_item}
use Rattle.loaded_texts.specs.Growing.{lengthened}

tail_at : (more k : ℕ) (xs : List Placed) → suc k ≡ length xs → map (lengthened more) (drop k xs) ≡ grown_item more (slice_get xs k)
tail_at more k [] e = absurd (omega arith)
tail_at more zero (x ∷ []) e = refl
tail_at more zero (x ∷ y ∷ xs) e = absurd (omega arith)
tail_at more (suc k) (x ∷ xs) e = tail_at more k xs (omega arith)

grown_tail : (more : ℕ) (xs : List Placed) → map (lengthened more) (drop (length xs - 1) xs) ≡ grown_item more (last_of xs)
grown_tail more [] = refl
grown_tail more (x ∷ xs) =
    let here : length (x ∷ xs) - 1 ≡ length xs = omega arith in
    ap (λ (k : ℕ). map (lengthened more) (drop k (x ∷ xs))) here
    ∙ tail_at more (length xs) (x ∷ xs) refl
    ∙ ap (λ (k : ℕ). grown_item more (slice_get (x ∷ xs) k)) (sym here)

-- with the last one longer they are those before it and this one
pub lengthened_is : (more from : ℕ) (xs new : List Placed) → from ≡ length xs - 1 → new ≡ take from xs ++ map (lengthened more) (drop from xs) → new ≡ front_of xs ++ grown_item more (last_of xs)
lengthened_is more from xs new e h =
    h ∙ ap (λ (k : ℕ). take k xs ++ map (lengthened more) (drop k xs)) e ∙ ap (λ (ys : List Placed). front_of xs ++ ys) (grown_tail more xs)

module _ (P : Placed → Type 0) where
  all_at : (k : ℕ) (xs : List Placed) → suc k ≡ length xs → IfSome (slice_get xs k) P → AllByRecursion P (drop k xs)
  all_at k [] e h = absurd (omega arith)
  all_at zero (x ∷ []) e h = (h, tt)
  all_at zero (x ∷ y ∷ xs) e h = absurd (omega arith)
  all_at (suc k) (x ∷ xs) e h = all_at k xs (omega arith) h

  -- what is so of the last one is so of all from it on
  pub tail_all : (from : ℕ) (xs : List Placed) → from ≡ length xs - 1 → IfSome (last_of xs) P → AllByRecursion P (drop from xs)
  tail_all zero [] e h = tt
  tail_all (suc from) [] e h = tt
  tail_all from (x ∷ xs) e h = all_at from (x ∷ xs) (omega (arith, e)) (subst_last h)
    where
      subst_last : IfSome (last_of (x ∷ xs)) P → IfSome (slice_get (x ∷ xs) from) P
      subst_last k = rw e k

count_at : (more k : ℕ) (xs : List Placed) → suc k ≡ length xs → length (take k xs ++ grown_item more (slice_get xs k)) ≡ length xs
count_at more k [] e = absurd (omega arith)
count_at more zero (x ∷ []) e = refl
count_at more zero (x ∷ y ∷ xs) e = absurd (omega arith)
count_at more (suc k) (x ∷ xs) e = ap suc (count_at more k xs (omega arith))

-- they are as many
pub grown_count : (more : ℕ) (xs : List Placed) → length (front_of xs ++ grown_item more (last_of xs)) ≡ length xs
grown_count more [] = refl
grown_count more (x ∷ xs) =
    let here : length (x ∷ xs) - 1 ≡ length xs = omega arith in
    ap (λ (k : ℕ). length (take k (x ∷ xs) ++ grown_item more (slice_get (x ∷ xs) k))) here ∙ count_at more (length xs) (x ∷ xs) refl
