-- Which transactions can be checked alone, worked out by hand.
use Rattle.std.proofs.Common.{◌≡◌, ℕ, ℤ, pos, negsuc, Bool, true, false, List, [], ◌∷◌, Some, refl}
use Rattle.std.specs.Prelude.{codes}
use Rattle.book.specs.Postings.{plain_posting}
use Rattle.book.specs.Style.{default_style}
use Rattle.book.specs.declared.amount.Amount.{Amount}
use Rattle.book.specs.declared.transaction.Mark.TheVariants.{Unmarked}
use Rattle.book.specs.declared.transaction.Posting.{Posting}
use Rattle.book.specs.declared.transaction.Side.TheVariants.{Real}
use Rattle.book.specs.declared.transaction.Txn.{Txn}
use Rattle.placed_checks.specs.Unmixed.{is_unmixed}

abbrev of : List ℕ → ℤ → Amount
of symbol mantissa = record { symbol = symbol; value = record { mantissa = mantissa; places = 0 }; shape = default_style.shape }

abbrev moves : List ℕ → Amount → Posting
moves account amount = record (plain_posting 1 Real account) { amount = Some amount }

abbrev asks : Posting → Bool → Bool → Posting
asks p only below = record p { wanted = Some (record { amount = of (codes "E") (pos 5); only = only; below = below }) }

abbrev on : ℕ → Posting → Posting
on day p = record p { day = Some (record { 0 = day }) }

abbrev entry : List Posting → Txn
entry postings = record { line = 1; day = record { 0 = 5 }; mark = Unmarked; code = []; description = []; comment = []; tags = []; postings = postings }

a_plain_one : is_unmixed (entry (asks (moves (codes "bank") (of (codes "E") (pos 2))) false false ∷ moves (codes "bank") (of (codes "F") (negsuc 1)) ∷ [])) ≡ true
a_plain_one = refl

-- a posting on the transaction's own day, and one on another
on_its_day : is_unmixed (entry (on 5 (moves (codes "bank") (of (codes "E") (pos 2))) ∷ [])) ≡ true
on_its_day = refl

on_another : is_unmixed (entry (on 6 (moves (codes "bank") (of (codes "E") (pos 2))) ∷ [])) ≡ false
on_another = refl

-- what wants its symbol only, beside another symbol of another account, of the same one and of one below it
another_account : is_unmixed (entry (asks (moves (codes "bank") (of (codes "E") (pos 2))) true true ∷ moves (codes "banks") (of (codes "F") (negsuc 1)) ∷ [])) ≡ true
another_account = refl

the_same_account : is_unmixed (entry (asks (moves (codes "bank") (of (codes "E") (pos 2))) true false ∷ moves (codes "bank") (of (codes "F") (negsuc 1)) ∷ [])) ≡ false
the_same_account = refl

one_below_it : is_unmixed (entry (asks (moves (codes "bank") (of (codes "E") (pos 2))) true true ∷ moves (codes "bank:cash") (of (codes "F") (negsuc 1)) ∷ [])) ≡ false
one_below_it = refl

one_that_does_not_count : is_unmixed (entry (asks (moves (codes "bank") (of (codes "E") (pos 2))) true false ∷ moves (codes "bank:cash") (of (codes "F") (negsuc 1)) ∷ [])) ≡ true
one_that_does_not_count = refl
