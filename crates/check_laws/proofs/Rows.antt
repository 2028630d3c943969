-- Worked rows: amounts that are one by value, and amounts that aren't.
use Rattle.std.proofs.Common.{ℕ, ℤ, pos, refl, codes, arith}
use Rattle.std.proofs.lemmas.Int.{ints}
use Rattle.book.specs.declared.amount.Amount.{Amount}
use Rattle.entry_balance.specs.Entry.{plain_amount}
use Rattle.check_laws.specs.Valued.{AreOneAmount}

abbrev euros : ℤ → ℕ → Amount
euros mantissa places = plain_amount (codes "EUR", record { mantissa = mantissa; places = places })

-- 100 EUR and 100.00 EUR
with_cents : AreOneAmount (euros (pos 100) 0) (euros (pos 10000) 2)
with_cents = record { symbol = refl; value = refl }

-- 100 EUR and 100.01 EUR
one_cent_more : AreOneAmount (euros (pos 100) 0) (euros (pos 10001) 2) → ⊥
one_cent_more h = omega (arith, ints, h.value)
