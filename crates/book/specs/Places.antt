-- Where a key stands in a list of entries, or where it would go.
use Rattle.std.specs.Prelude.{◌≡◌, ℕ, ◌<◌, ◌≤◌, List, length, slice_index_or}
use Rattle.std.specs.declared.cmp.Ordering.{Ordering}
use Rattle.std.specs.declared.cmp.Ordering.TheVariants.{Less, Greater}

-- the entry at i has the key
pub record IsPlace {K X : Type 0} (entries : List (K × X)) (key : K) (i : ℕ) : Type 0 where
  pub within : i < length entries
  pub is : (d : K × X) → (slice_index_or entries i d).0 ≡ key

-- smaller keys stand before i, and greater ones from it on
pub record IsGap {K X : Type 0} (R : K → K → Ordering) (entries : List (K × X)) (key : K) (i : ℕ) : Type 0 where
  pub within : i ≤ length entries
  pub smaller : (j : ℕ) (d : K × X) → j < i → R (slice_index_or entries j d).0 key ≡ Less
  pub greater : (j : ℕ) (d : K × X) → i ≤ j → j < length entries → R (slice_index_or entries j d).0 key ≡ Greater

-- smaller keys stand before low, and greater ones from high on
pub record IsSplit {K X : Type 0} (R : K → K → Ordering) (entries : List (K × X)) (key : K) (low high : ℕ) : Type 0 where
  pub ordered : low ≤ high
  pub within : high ≤ length entries
  pub smaller : (j : ℕ) (d : K × X) → j < low → R (slice_index_or entries j d).0 key ≡ Less
  pub greater : (j : ℕ) (d : K × X) → high ≤ j → j < length entries → R (slice_index_or entries j d).0 key ≡ Greater
