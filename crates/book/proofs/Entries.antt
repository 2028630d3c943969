-- What stands at a symbol in lists of entries.
use Rattle.std.proofs.Common.{◌≡◌, ℕ, List, ◌∙◌}
use Rattle.std.specs.Ordering.{nat_cmp, eq_by_cmp}
use Rattle.std.specs.Cmp.Lexicographic.{slice_cmp}
use Rattle.std.specs.Str.{bytes_eq}
use Rattle.std.specs.FinMap.{IsAntisymmetric, slice_cmp-IsAntisymmetric, nat_cmp-IsAntisymmetric}
use Rattle.std.proofs.lemmas.Cmp.{nat_list_eq_equiv}
use Rattle.std.proofs.lemmas.Map.Text.{is_eq-slice_cmp}

-- only equal texts tie
pub text_ties : IsAntisymmetric (slice_cmp nat_cmp)
text_ties = slice_cmp-IsAntisymmetric nat_cmp-IsAntisymmetric

-- a tie of texts, the other way round
pub tie-bytes_eq : (a b : List ℕ) → eq_by_cmp (slice_cmp nat_cmp) a b ≡ bytes_eq b a
tie-bytes_eq a b = is_eq-slice_cmp a b ∙ nat_list_eq_equiv.symm a b
