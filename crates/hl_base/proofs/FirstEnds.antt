-- How many bytes stand before the first LF, by a search for it.
use Rattle.std.proofs.Common.{◌≡◌, ℕ, ◌==◌, min, not, List, length, take, arith, length-take}
use Rattle.std.specs.List.{position_or_len, take_while}
use Rattle.std.proofs.lemmas.Bool.{false_from_ne_true}
use Rattle.std.proofs.lemmas.List.Sums.{position_or_len_is}
use Rattle.memchr.specs.Find.{NoneBefore, Nowhere, Passes, is_byte}

pub first_end : (k : ℕ) (text : List ℕ) → NoneBefore (Passes (is_byte 10) text) 0 (length text) k → Passes (is_byte 10) text k
    → k ≡ length (take_while (λ b. not (b == 10)) text)
first_end k text none here =
    let first : position_or_len (λ b. b == 10) text ≡ k =
    position_or_len_is (λ b. b == 10) text k 0 (omega (arith, none.high))
    (λ m lt. false_from_ne_true _ (none.before m (omega arith) lt)) (λ lt. here) in
    let taken : length (take (position_or_len (λ b. b == 10) text) text) ≡ min (position_or_len (λ b. b == 10) text) (length text) =
    length-take (position_or_len (λ b. b == 10) text) text in
    omega (arith, first, taken, none.high)

pub no_end : (text : List ℕ) → Nowhere (Passes (is_byte 10) text) 0 (length text) → length text ≡ length (take_while (λ b. not (b == 10)) text)
no_end text none =
    let first : position_or_len (λ b. b == 10) text ≡ length text =
    position_or_len_is (λ b. b == 10) text (length text) 0 (omega arith)
    (λ m lt. false_from_ne_true _ (none m (omega arith) lt)) (λ lt. absurd (omega (arith, lt))) in
    let taken : length (take (position_or_len (λ b. b == 10) text) text) ≡ min (position_or_len (λ b. b == 10) text) (length text) =
    length-take (position_or_len (λ b. b == 10) text) text in
    omega (arith, first, taken)
