-- How many line feeds a text has.
use Rattle.std.proofs.Common.{◌≡◌, ℕ, ◌+◌, ◌==◌, ◌≤◌, Bool, true, false, List, [], ◌∷◌, length, refl, arith}
use Rattle.bank_explanations.specs.Places.{line_ends}

few_by : (b : ℕ) (bs : List ℕ) (t : Bool) → (b == 10) ≡ t → line_ends bs ≤ length bs → line_ends (b ∷ bs) ≤ 1 + length bs
few_by b bs true e more = rw e (omega (arith, more))
few_by b bs false e more = rw e (omega (arith, more))

few : (text : List ℕ) → line_ends text ≤ length text
few [] = omega arith
few (b ∷ bs) = omega (arith, few_by b bs (b == 10) refl (few bs))

pub few_ends : (count : ℕ) (text : List ℕ) → count ≡ line_ends text → count ≤ length text
few_ends count text e = omega (arith, e, few text)
