-- Line ends among some bytes.
use Rattle.std.proofs.Common.{◌≡◌, ℕ, zero, suc, ◌+◌, ◌≤◌, Bool, true, false, cond, List, [], ◌∷◌, length, take, ◌==◌, count_by, arith}
use Rattle.std.proofs.lemmas.List.{length-map}
use Rattle.std.proofs.lemmas.List.Sums.{sum_by-cons}
use Rattle.hl_base.specs.Lines.{onto, lines_of}
use Rattle.entry_reader.specs.Lines.{content_of, contents_of}

ends_onto : (b n : ℕ) (ls : List (List ℕ)) → n ≤ length ls → n ≤ length (onto b ls)
ends_onto b n [] h = omega (arith, h)
ends_onto b n (l ∷ ls) h = omega (arith, h)

ends_more : (t : Bool) (b n : ℕ) (ls : List (List ℕ)) → n ≤ length ls → cond t 1 0 + n ≤ length (cond t ((b ∷ []) ∷ ls) (onto b ls))
ends_more true b n ls h = omega (arith, h)
ends_more false b n ls h = omega (arith, ends_onto b n ls h)

ends_of_front : (n : ℕ) (bytes : List ℕ) → count_by (λ b. b == 10) (take n bytes) ≤ length (lines_of bytes)
ends_of_front zero bytes = omega arith
ends_of_front (suc n) [] = omega arith
ends_of_front (suc n) (b ∷ bs) =
    omega (arith, sum_by-cons (λ c. cond (c == 10) 1 0) b (take n bs), ends_more (b == 10) b (count_by (λ c. c == 10) (take n bs)) (lines_of bs) (ends_of_front n bs))

-- a front of some bytes has no more line ends than they have lines
pub few_ends : (front bytes : List ℕ) (n : ℕ) → front ≡ take n bytes → count_by (λ b. b == 10) front ≤ length (contents_of bytes)
few_ends front bytes n e = rw e (omega (arith, length-map (lines_of bytes) content_of, ends_of_front n bytes))
