-- Bytes, and the numbers that are read of them.
use Rattle.std.proofs.Common.{◌≡◌, ◌⊎◌, inl, inr, ℕ, ◌+◌, ◌^◌, ◌<◌, ◌≤◌, List, ◌++◌, length, get_or, take, drop, refl, sym, arith, length-take}
use Rattle.std.specs.Int.{w32, w64, to_le_bytes, from_le_bytes}
use Rattle.std.proofs.lemmas.Bool.{cases_lt}
use Rattle.std.proofs.lemmas.List.{get_or_append_left, get_or-append-add, get_or_past, get_or-take, get_or-drop}
use Rattle.std.proofs.lemmas.Nat.{le_bytes_4, le_bytes_8}
use Rattle.text_store.specs.Image.{number_4, number_8}

abbrev pub AreBytes : List ℕ → Type 0
AreBytes l = (i : ℕ) → get_or l i 0 < 256

zero_below : (n : ℕ) → n ≡ 0 → n < 256
zero_below n is = omega (arith, is)

same_below : (a b : ℕ) → a ≡ b → b < 256 → a < 256
same_below a b is less = omega (arith, is, less)

pub of_take : (n : ℕ) (l : List ℕ) → AreBytes l → AreBytes (take n l)
of_take n l are i = by_place (cases_lt i n)
  where
    by_place : (i < n) ⊎ (n ≤ i) → get_or (take n l) i 0 < 256
    by_place (inl less) = same_below (get_or (take n l) i 0) (get_or l i 0) (get_or-take n l i 0 less) (are i)
    by_place (inr past) = zero_below (get_or (take n l) i 0) (get_or_past (take n l) i 0 (omega (arith, length-take n l, past)))

pub of_drop : (n : ℕ) (l : List ℕ) → AreBytes l → AreBytes (drop n l)
of_drop n l are i = same_below (get_or (drop n l) i 0) (get_or l (n + i) 0) (get_or-drop n l i 0) (are (n + i))

pub of_left : (a b : List ℕ) → AreBytes (a ++ b) → AreBytes a
of_left a b are i = by_place (cases_lt i (length a))
  where
    by_place : (i < length a) ⊎ (length a ≤ i) → get_or a i 0 < 256
    by_place (inl less) = same_below (get_or a i 0) (get_or (a ++ b) i 0) (sym (get_or_append_left a b 0 i less)) (are i)
    by_place (inr past) = zero_below (get_or a i 0) (get_or_past a i 0 past)

pub of_right : (a b : List ℕ) → AreBytes (a ++ b) → AreBytes b
of_right a b are i = same_below (get_or b i 0) (get_or (a ++ b) (length a + i) 0) (sym (get_or-append-add a b i 0)) (are (length a + i))

-- a number that was read is written as it stood
pub back_4 : (l : List ℕ) → AreBytes l → 4 ≤ length l → to_le_bytes w32 (number_4 l) ≡ take 4 l
back_4 l are long = le_bytes_4 (take 4 l) (number_4 l) (omega (arith, length-take 4 l, long)) (of_take 4 l are) refl

pub back_8 : (l : List ℕ) → AreBytes l → 8 ≤ length l → to_le_bytes w64 (number_8 l) ≡ take 8 l
back_8 l are long = le_bytes_8 (take 8 l) (number_8 l) (omega (arith, length-take 8 l, long)) (of_take 8 l are) refl

-- and fits its bytes
below_4 : (l : List ℕ) → AreBytes l → from_le_bytes w32 l < 2 ^ 32
below_4 l are = omega (arith, are 0, are 1, are 2, are 3)

below_8 : (l : List ℕ) → AreBytes l → from_le_bytes w64 l < 2 ^ 64
below_8 l are = omega (arith, are 0, are 1, are 2, are 3, are 4, are 5, are 6, are 7)

pub small_4 : (l : List ℕ) → AreBytes l → number_4 l < 2 ^ 32
small_4 l are = below_4 (take 4 l) (of_take 4 l are)

pub small_8 : (l : List ℕ) → AreBytes l → number_8 l < 2 ^ 64
small_8 l are = below_8 (take 8 l) (of_take 8 l are)
