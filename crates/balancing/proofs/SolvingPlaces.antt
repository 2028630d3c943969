-- The order of places.
use Rattle.std.proofs.Common.{◌≡◌, ℕ, ◌<◌, Bool, true, false, ◌&&◌, ◌||◌, eqb, ltb, arith}
use Rattle.std.proofs.lemmas.Bool.Decides.{nat_tests}
use Rattle.book.specs.SumsBefore.{Place, is_before}
use Rattle.balancing.specs.Solves.{just_after}

comes : ℕ → ℕ → ℕ → ℕ → ℕ → ℕ → Bool
comes a b d e f g = ltb a e || (eqb a e && (ltb b f || (eqb b f && ltb d g)))

pub not_before_itself : (a : Place) → is_before a a ≡ false
not_before_itself a = grind (arith, nat_tests)

pub not_before_back : (a b : Place) → is_before a b ≡ true → is_before b a ≡ false
not_before_back a b h = grind (arith, nat_tests)

pub before_after : (a b : Place) → is_before a b ≡ true → is_before a (just_after b) ≡ true
before_after a b h = grind (arith, nat_tests)

pub itself_after : (a : Place) → is_before a (just_after a) ≡ true
itself_after a = grind (arith, nat_tests)

pub not_after : (a b : Place) → is_before a b ≡ true → is_before b (just_after a) ≡ false
not_after a b h = grind (arith, nat_tests)

pub earlier_day : (a b : Place) → a.day < b.day → is_before a b ≡ true
earlier_day a b h = grind (arith, nat_tests)

pub earlier_txn : (a b : Place) → a.day ≡ b.day → a.txn < b.txn → is_before a b ≡ true
earlier_txn a b h k = grind (arith, nat_tests)

pub earlier_posting : (a b : Place) → a.day ≡ b.day → a.txn ≡ b.txn → a.posting < b.posting → is_before a b ≡ true
earlier_posting a b h k l = grind (arith, nat_tests)
