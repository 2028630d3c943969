-- When a store is written anew, and how large it is then.
use Rattle.std.proofs.Common.{◌≡◌, ◌⊎◌, inl, inr, ℕ, ◌+◌, ◌*◌, ◌-◌, ◌^◌, ◌<◌, ◌≤◌, min, Bool, true, false, IsTrue, ◌||◌, ltb, if◌then◌else◌, refl, ap, sym, ◌∙◌, arith}
use Rattle.std.proofs.lemmas.Bool.{false≢true, cases_lt}
use Rattle.std.proofs.lemmas.Bool.Decides.{nat_tests}
use borrow.Author.Tests.{ltb-true}
use Rattle.follower.specs.Keeping.{due_at, room_size}

first_due : (size limit r whole : ℕ) → limit < size + r → true ≡ due_at size limit r whole
first_due size limit r whole h = grind (arith, nat_tests)

second_due : (size limit r whole : ℕ) → 2 * whole + 65536 < size → true ≡ due_at size limit r whole
second_due size limit r whole h = grind (arith, nat_tests)

neither_due : (size limit r whole : ℕ) (p q : Bool) → ltb limit (size + r) ≡ p → ltb (2 * whole + 65536) size ≡ q → (limit < size + r → ⊥) → (2 * whole + 65536 < size → ⊥) → false ≡ (p || q)
neither_due size limit r whole true q e f a b = absurd (a (ltb-true limit (size + r) e))
neither_due size limit r whole false true e f a b = absurd (b (ltb-true (2 * whole + 65536) size f))
neither_due size limit r whole false false e f a b = refl

-- the test of a store says that it is due
pub due_same : (size limit r whole counted : ℕ) (b : Bool) → size < 2 ^ 64 → counted ≡ min whole (2 ^ 64 - 1)
    → (IsTrue b → (limit < size + r) ⊎ (2 * counted + 65536 < size)) → ((limit < size + r) ⊎ (2 * counted + 65536 < size) → IsTrue b) → b ≡ due_at size limit r whole
due_same size limit r whole counted true few is to from = tested (to refl)
  where
    tested : (limit < size + r) ⊎ (2 * counted + 65536 < size) → true ≡ due_at size limit r whole
    tested (inl h) = first_due size limit r whole h
    tested (inr h) = second_due size limit r whole (omega arith)
due_same size limit r whole counted false few is to from =
    neither_due size limit r whole (ltb limit (size + r)) (ltb (2 * whole + 65536) size) refl refl (λ h. false≢true (from (inl h))) (λ h. false≢true (from (inr (below h))))
  where
    below : 2 * whole + 65536 < size → 2 * counted + 65536 < size
    below h = omega arith

-- where a store isn't written anew, a record fits as it is
pub not_due_fits : (size limit r whole : ℕ) → due_at size limit r whole ≡ false → room_size size limit r whole + r ≤ limit
not_due_fits size limit r whole none = by_first (ltb limit (size + r)) refl
  where
    by_first : (p : Bool) → ltb limit (size + r) ≡ p → room_size size limit r whole + r ≤ limit
    by_first true is = absurd (false≢true (sym none ∙ ap (λ (b : Bool). b || ltb (2 * whole + 65536) size) is))
    by_first false is =
        let here : room_size size limit r whole ≡ size = ap (λ (b : Bool). if b then whole else size) none in
        let fits : size + r ≤ limit = within limit (size + r) is in
        omega (arith, here, fits)
      where
        within : (a b : ℕ) → ltb a b ≡ false → b ≤ a
        within a b is = grind (arith, nat_tests)

pub due_room : (size limit r whole : ℕ) → due_at size limit r whole ≡ true → room_size size limit r whole ≡ whole
due_room size limit r whole due = ap (λ (b : Bool). if b then whole else size) due

-- what a test says is not past a limit
pub not_past : (limit size : ℕ) (b : Bool) → b ≡ false → (limit < size → IsTrue b) → size ≤ limit
not_past limit size b is from = elim (cases_lt limit size) [
  | inl past ↦ absurd (false≢true (sym is ∙ from past))
  | inr within ↦ within
]
