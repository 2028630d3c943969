-- The amounts of a book have at most 36 decimals where all that its groups move has.
use Rattle.std.proofs.Common.{◌≡◌, ℕ, ◌≤◌, Bool, true, false, cond, ltb, List, [], ◌∷◌, map, Option, Some, None, refl, ap, arith}
use Rattle.std.specs.List.{AllByRecursion}
use Rattle.std.proofs.lemmas.Bool.Decides.{nat_tests}
use Rattle.book.specs.declared.amount.Amount.{Amount}
use Rattle.book.specs.declared.transaction.Posting.{Posting}
use Rattle.book.specs.declared.transaction.Txn.{Txn}
use Rattle.book.specs.Postings.{postings_of}
use Rattle.entry_balance.specs.Values.{Value, value_of, cost_values}
use Rattle.entry_balance.specs.Entry.{from_amount, moved, moved_by, settled}
use Rattle.balancing.specs.Groups.{groups_of}
use Rattle.balancing.specs.Solves.{HasFew, HaveFew}
use Rattle.balancing.specs.Walk.{moved_before}
use Rattle.balancing.proofs.Turned.{measure, measure-append, book-counts}

-- one where a value has more decimals
abbrev many : Value → ℕ
many v = cond (ltb 36 v.1.places) 1 0

few_is : (k : ℕ) → k ≤ 36 → cond {A = ℕ} (ltb 36 k) 1 0 ≡ 0
few_is k h = ap (λ (b : Bool). cond {A = ℕ} b 1 0) (no k h)
  where
    no : (k : ℕ) → k ≤ 36 → ltb 36 k ≡ false
    no k h = grind (arith, nat_tests)

is_few : (k : ℕ) → cond {A = ℕ} (ltb 36 k) 1 0 ≡ 0 → k ≤ 36
is_few k = by (ltb 36 k) refl
  where
    by : (b : Bool) → ltb 36 k ≡ b → cond {A = ℕ} b 1 0 ≡ 0 → k ≤ 36
    by true e h = absurd (omega (arith, h))
    by false e h = grind (arith, nat_tests)

none_many : (vs : List Value) → AllByRecursion (λ v. v.1.places ≤ 36) vs → measure many vs ≡ 0
none_many [] h = refl
none_many (v ∷ vs) h = omega (arith, few_is v.1.places h.0, none_many vs h.1)

amount_few : (p : Posting) (amount : Option Amount) → measure many (from_amount (λ a. value_of a ∷ cost_values a p.cost) amount) ≡ 0 → HasFew amount
amount_few p None h = tt
amount_few p (Some a) h = is_few a.value.places (omega (arith, h))

all_few : (ps : List Posting) → measure many (moved ps) ≡ 0 → AllByRecursion (λ p. HasFew p.amount) ps
all_few [] h = tt
all_few (p ∷ ps) h =
    let split = measure-append many (moved_by p) (moved ps) in
    (amount_few p p.amount (omega (arith, h, split)), all_few ps (omega (arith, h, split)))

pub book-few : (written : List Txn) → AllByRecursion (λ v. v.1.places ≤ 36) (moved_before written [] (groups_of written)) → HaveFew (map settled written)
book-few written few = all_few (postings_of (map settled written)) (omega (arith, book-counts many written, none_many (moved_before written [] (groups_of written)) few))
