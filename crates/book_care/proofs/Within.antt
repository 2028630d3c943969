-- The amounts of some of a book's postings stay within the bounds of all.
use Rattle.std.proofs.Common.{◌≡◌, ℕ, ◌+◌, ◌-◌, ◌*◌, ◌^◌, ◌<◌, ◌≤◌, max, unsigned_abs, Bool, true, false, nat_le, cond, List, [], ◌∷◌, map, filter, Option, Some, None, refl, ap, ◌∙◌, arith, lit<}
use Rattle.std.specs.List.{find}
use Rattle.std.specs.Option.{option_map}
use Rattle.std.proofs.lemmas.Bool.Decides.{nat_tests}
use Rattle.std.proofs.Math.Nat.{pow-le-pow_right, mul-le-mul_left}
use Rattle.book.specs.Bounds as whole
use Rattle.book.specs.Sums.{share}
use Rattle.book.specs.declared.amount.Amount.{Amount}
use Rattle.book.specs.declared.transaction.Posting.{Posting}
use Rattle.report_cells.specs.Bounds.{turnover_in, places_at, places_in, is_out, first_out}
use Rattle.report_cells.specs.Follows.{Follow}
use Rattle.report_cells.specs.Taken.{share_in, symbols_in}
use Rattle.book_care.specs.Kept.{taken, one_day}

pub share-taken : (q : List ℕ) (amount : Option Amount) → share_in q (option_map (λ (a : Amount). (a.symbol, a.value)) amount) ≡ share q amount
share-taken q None = refl
share-taken q (Some a) = refl

places-taken : (q : List ℕ) (amount : Option Amount) → places_at q (option_map (λ (a : Amount). (a.symbol, a.value)) amount) ≡ whole.places_in q amount
places-taken q None = refl
places-taken q (Some a) = refl

module _ (test : Posting → Bool) (q : List ℕ) where
  turned_less : (ps : List Posting) → turnover_in q (map taken (filter test ps)) ≤ whole.turnover q ps
  turned_less [] = omega arith
  turned_less (p ∷ ps) =
      let rest = turned_less ps in
      let same : unsigned_abs (share_in q (taken p).amount) ≡ unsigned_abs (share q p.amount) = ap unsigned_abs (share-taken q p.amount) in
      elim (test p) as (λ b. turnover_in q (map taken (cond b (p ∷ filter test ps) (filter test ps))) ≤ unsigned_abs (share q p.amount) + whole.turnover q ps) [
        | true ↦ omega (arith, rest, same)
        | false ↦ omega (arith, rest)
      ]

  placed_less : (ps : List Posting) → places_in q (map taken (filter test ps)) ≤ whole.places_of q ps
  placed_less [] = omega arith
  placed_less (p ∷ ps) =
      let rest = placed_less ps in
      let same : places_at q (taken p).amount ≡ whole.places_in q p.amount = places-taken q p.amount in
      elim (test p) as (λ b. places_in q (map taken (cond b (p ∷ filter test ps) (filter test ps))) ≤ max (whole.places_in q p.amount) (whole.places_of q ps)) [
        | true ↦ omega (arith, rest, same)
        | false ↦ omega (arith, rest)
      ]

is_above : (a b : ℕ) → b < a → nat_le a b ≡ false
is_above a b lt = grind (arith, nat_tests)

-- fewer decimals have a greater bound
not_out : (l t u a b : ℕ) → t ≤ u → b ≤ a → u < l * 10 ^ (36 - a) → nat_le (l * 10 ^ (36 - b)) t ≡ false
not_out l t u a b less few fits =
    let more : 36 - a ≤ 36 - b = omega arith in
    let power : 10 ^ (36 - a) ≤ 10 ^ (36 - b) = pow-le-pow_right {n = 10} (lit< tt) more in
    is_above (l * 10 ^ (36 - b)) t (omega (arith, mul-le-mul_left l power, less, fits))

find-none : {A : Type 0} (p : A → Bool) → ((a : A) → p a ≡ false) → (xs : List A) → find p xs ≡ None
find-none p none [] = refl
find-none p none (x ∷ xs) = ap (λ b. cond b (Some x) (find p xs)) (none x) ∙ find-none p none xs

pub none_out : (test : Posting → Bool) (ps : List Posting) → whole.TurnoverFits ps → first_out (map taken (filter test ps)) ≡ None
none_out test ps fits =
    find-none (is_out (map taken (filter test ps)))
    (λ q. not_out (2 ^ 127) (turnover_in q (map taken (filter test ps))) (whole.turnover q ps) (whole.places_of q ps) (places_in q (map taken (filter test ps))) (turned_less test q ps) (placed_less test q ps) (fits q))
    (symbols_in (map taken (filter test ps)))

-- one column follows nothing
pub follows : Follow (one_day ∷ [])
follows = record {
  some = omega arith;
  joined = λ at below. absurd (omega arith);
  rising = λ at below. absurd (omega arith);
}
