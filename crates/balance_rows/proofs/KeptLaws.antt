-- Sums while entries and cells are added, one after another.
use Rattle.std.proofs.Common.{◌≡◌, ℕ, true, ◌+◌, ◌<◌, List, [], ◌∷◌, ◌++◌, length, map, get_or, take, drop, refl, sym, ap, subst, ◌∙◌, add-one, drop-cons, append_assoc, append-nil, arith}
use Rattle.std.proofs.lemmas.List.{get_or-map, length-map, take_more}
use Rattle.std.proofs.lemmas.List.Concat.{flat_map-append}
use Rattle.hl_num.specs.Decimal.{Decimal, units_of}
use Rattle.book.specs.Entries.{held}
use Rattle.book.specs.Mixed.{added, fits_with}
use Rattle.hl_num.specs.Shortest.{shortest}
use Rattle.balance_rows.specs.Kept.{KeptSums, EachFits, added_all, all_entries}

pub added-append : (sums xs ys : KeptSums) → added_all sums (xs ++ ys) ≡ added_all (added_all sums xs) ys
added-append sums [] ys = refl
added-append sums (x ∷ xs) ys = added-append (added x.0 (shortest (units_of x.1)) sums) xs ys

fits-first : (sums xs ys : KeptSums) → EachFits sums (xs ++ ys) → EachFits sums xs
fits-first sums [] ys h = tt
fits-first sums (x ∷ xs) ys h = (h.0, fits-first (added x.0 (shortest (units_of x.1)) sums) xs ys h.1)

fits-rest : (sums xs ys : KeptSums) → EachFits sums (xs ++ ys) → EachFits (added_all sums xs) ys
fits-rest sums [] ys h = h
fits-rest sums (x ∷ xs) ys h = fits-rest (added x.0 (shortest (units_of x.1)) sums) xs ys h.1

-- what is being added, and what is left of it
pub record IsAdding (old now done left : KeptSums) : Type 0 where
  pub is : now ≡ added_all old done
  pub fits : EachFits now left

pub adding-none : (old left : KeptSums) → EachFits old left → IsAdding old old [] left
adding-none old left fits = record { is = refl; fits = fits }

module _ {X : Type 0} (xs : List X) (i : ℕ) (x : X) (within : i < length xs) (read : x ≡ get_or xs i x) where
  pub left_here : drop i xs ≡ x ∷ drop (i + 1) xs
  left_here = let cut : drop i xs ≡ get_or xs i x ∷ drop (i + 1) xs = rw (add-one, drop-cons xs i x) refl in cut ∙ ap (λ y. y ∷ drop (i + 1) xs) (sym read)

  done_here : take (i + 1) xs ≡ take i xs ++ x ∷ []
  done_here = take_more xs i x within ∙ ap (λ y. take i xs ++ y ∷ []) (sym read)

module _ (old now : KeptSums) (es : KeptSums) (i : ℕ) (e : List ℕ × Decimal) (within : i < length es) (read : e ≡ get_or es i e) where
  -- the entry at hand
  pub entry_fits : IsAdding old now (take i es) (drop i es) → fits_with (held e.0 now) (shortest (units_of e.1)) ≡ true
  entry_fits h = let both = subst (EachFits now) (left_here es i e within read) h.fits in both.0

  pub entry_added : (new : KeptSums) → new ≡ added e.0 (shortest (units_of e.1)) now → IsAdding old now (take i es) (drop i es) → IsAdding old new (take (i + 1) es) (drop (i + 1) es)
  entry_added new is h =
      let both = subst (EachFits now) (left_here es i e within read) h.fits in
      record {
        is = is ∙ ap (λ (sums : KeptSums). added e.0 (shortest (units_of e.1)) sums) h.is ∙ sym (added-append old (take i es) (e ∷ [])) ∙ ap (added_all old) (sym (done_here es i e within read));
        fits = subst (λ (sums : KeptSums). EachFits sums (drop (i + 1) es)) (sym is) both.1;
      }

module _ (old now : KeptSums) (cells : List KeptSums) (i : ℕ) (cell : KeptSums) (within : i < length cells) (read : cell ≡ get_or cells i cell) where
  rest_here : all_entries (drop i cells) ≡ cell ++ all_entries (drop (i + 1) cells)
  rest_here = ap all_entries (left_here cells i cell within read)

  front_here : all_entries (take (i + 1) cells) ≡ all_entries (take i cells) ++ cell
  front_here =
      ap all_entries (done_here cells i cell within read) ∙ flat_map-append (λ (c : KeptSums). c) (take i cells) (cell ∷ [])
      ∙ ap (λ (c : KeptSums). all_entries (take i cells) ++ c) (append-nil cell)

  -- the cell at hand
  pub cell_fits : IsAdding old now (all_entries (take i cells)) (all_entries (drop i cells)) → EachFits now cell
  cell_fits h = fits-first now cell (all_entries (drop (i + 1) cells)) (subst (EachFits now) rest_here h.fits)

  pub cell_added : (new : KeptSums) → new ≡ added_all now cell → IsAdding old now (all_entries (take i cells)) (all_entries (drop i cells)) → IsAdding old new (all_entries (take (i + 1) cells)) (all_entries (drop (i + 1) cells))
  cell_added new is h = record {
    is = is ∙ ap (λ (sums : KeptSums). added_all sums cell) h.is ∙ sym (added-append old (all_entries (take i cells)) cell) ∙ ap (added_all old) (sym front_here);
    fits = subst (λ (sums : KeptSums). EachFits sums (all_entries (drop (i + 1) cells))) (sym is) (fits-rest now cell (all_entries (drop (i + 1) cells)) (subst (EachFits now) rest_here h.fits));
  }

-- the same of cells that are read from items
module _ {X : Type 0} (f : X → KeptSums) (old now : KeptSums) (xs : List X) (i : ℕ) (x : X) (within : i < length xs) (read : x ≡ get_or xs i x) where
  within_mapped : i < length (map f xs)
  within_mapped = omega (arith, length-map xs f)

  read_mapped : f x ≡ get_or (map f xs) i (f x)
  read_mapped = ap f read ∙ sym (get_or-map f xs i x (f x) within)

  pub mapped_fits : IsAdding old now (all_entries (take i (map f xs))) (all_entries (drop i (map f xs))) → EachFits now (f x)
  mapped_fits h = cell_fits old now (map f xs) i (f x) within_mapped read_mapped h

  pub mapped_added : (new : KeptSums) → new ≡ added_all now (f x) → IsAdding old now (all_entries (take i (map f xs))) (all_entries (drop i (map f xs)))
      → IsAdding old new (all_entries (take (i + 1) (map f xs))) (all_entries (drop (i + 1) (map f xs)))
  mapped_added new is h = cell_added old now (map f xs) i (f x) within_mapped read_mapped new is h
