-- The first place of a byte.
use Rattle.std.proofs.Common.{◌≡◌, ℕ, ◌==◌, List, length, sym, arith}
use Rattle.std.specs.List.{position_or_len}
use Rattle.std.proofs.lemmas.Bool.{false_from_ne_true}
use Rattle.std.proofs.lemmas.List.Sums.{position_or_len_is}
use Rattle.memchr.specs.Find.{NoneBefore, Nowhere, Passes, is_byte}

pub first_place : (byte k : ℕ) (text : List ℕ) → NoneBefore (Passes (is_byte byte) text) 0 (length text) k → Passes (is_byte byte) text k
    → k ≡ position_or_len (λ b. b == byte) text
first_place byte k text none here =
    sym (position_or_len_is (λ b. b == byte) text k 0 (omega (arith, none.high))
    (λ m lt. false_from_ne_true _ (none.before m (omega arith) lt)) (λ lt. here))

pub no_place : (byte : ℕ) (text : List ℕ) → Nowhere (Passes (is_byte byte) text) 0 (length text) → length text ≡ position_or_len (λ b. b == byte) text
no_place byte text none =
    sym (position_or_len_is (λ b. b == byte) text (length text) 0 (omega arith)
    (λ m lt. false_from_ne_true _ (none m (omega arith) lt)) (λ lt. absurd (omega (arith, lt))))
