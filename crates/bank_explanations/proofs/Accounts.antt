-- The account that a text begins with.
use Rattle.std.proofs.Common.{◌≡◌, ℕ, suc, ◌+◌, ◌-◌, ◌==◌, ◌≤◌, Bool, true, false, cond, List, [], ◌∷◌, length, drop, ap, ◌∙◌, arith, length-drop}
use Rattle.std.proofs.lemmas.Bool.Decides.{nat_tests}
use Rattle.entry_reader.specs.Accounts.{account_len, ends_name}

at_most : (ends : Bool) (n m : ℕ) → n ≤ m → cond ends 0 (n + 1) ≤ suc m
at_most true n m few = omega arith
at_most false n m few = omega arith

-- it has no more bytes than the text
few_bytes : (text : List ℕ) → account_len text ≤ length text
few_bytes [] = omega arith
few_bytes (b ∷ bs) = at_most (ends_name b bs) (account_len bs) (length bs) (few_bytes bs)

none_left : (left n m : ℕ) → left ≡ m - n → n ≤ m → (left == 0) ≡ (n == m)
none_left left n m is few = grind (arith, nat_tests)

-- nothing follows it where it is the whole text
pub all_of_it : (text more : List ℕ) (none : Bool) → more ≡ drop (account_len text) text → none ≡ (length more == 0) → none ≡ (account_len text == length text)
all_of_it text more none cut is =
    is ∙ none_left (length more) (account_len text) (length text) (omega (arith, ap length cut, length-drop (account_len text) text)) (few_bytes text)
