-- What a reader keeps of the groups of digits that it passed.
use Rattle.std.specs.Prelude.{ℕ, ◌≡◌, ◌+◌, Bool, nat_lt, List, length, drop, slice_index}
use Rattle.std.specs.List.{list_all}

-- of the sizes of groups, the rightmost first: how many marks stand between them, the first two, and whether all but
-- the first have digits
pub record IsSummary (sizes : List ℕ) (marks last previous : ℕ) (full : Bool) : Type 0 where
  pub count : marks + 1 ≡ length sizes
  pub rightmost : last ≡ slice_index sizes 0
  pub next : previous ≡ slice_index sizes 1
  pub others : full ≡ list_all (λ size. nat_lt 0 size) (drop 1 sizes)
