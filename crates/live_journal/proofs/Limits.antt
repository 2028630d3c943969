-- Why a text makes no journal, by its limits and by its fault.
use Rattle.std.proofs.Common.{◌≡◌, ℕ, ◌<◌, ◌≤◌, Bool, true, false, cond, List, [], ◌∷◌, length, Option, Some, None, Result, Ok, Err, nat_lt, refl, sym, ap, subst, ◌∙◌, arith}
use Rattle.std.proofs.lemmas.Bool.Decides.{nat_tests}
use Rattle.hl_base.specs.Items.{items_of}
use Rattle.hl_base.specs.Limits.{item_limit, text_limit}
use Rattle.book.specs.declared.fault.Fault.{Fault}
use Rattle.book.specs.declared.item.Book.{Book}
use Rattle.book.specs.declared.item.Placed.{Placed}
use Rattle.entry_reader.specs.Causes.{◌>>=◌}
use Rattle.balancing.specs.Load.{load}
use Rattle.live_journal.specs.declared.fault.EditFault.{EditFault}
use Rattle.live_journal.specs.declared.fault.EditFault.TheVariants as refused
use Rattle.live_journal.specs.Loading.{book_from, book_of, fault_of, first_of, limit_fault, past_limit, reading_in, text_fault}
use Rattle.live_journal.specs.Refusals.{TellsRefusal, refusal_in}

-- ---- a text past a limit

refused_past : (past : Option (ℕ × ℕ)) (limit size : ℕ) (book : Result Book Fault) → past ≡ Some (limit, size) → refusal_in (first_of (limit_fault past ∷ text_fault book ∷ [])) ≡ Some (refused.TooLarge limit size)
refused_past past limit size book is = ap (λ (p : Option (ℕ × ℕ)). refusal_in (first_of (limit_fault p ∷ text_fault book ∷ []))) is

-- that of its bytes
pub long_text : (year : Option ℕ) (text : List ℕ) (size : ℕ) → size ≡ length text → nat_lt text_limit size ≡ true → TellsRefusal (refused.TooLarge text_limit size) (fault_of year text)
long_text year text size is past =
    let over : nat_lt text_limit (length text) ≡ true = subst (λ (n : ℕ). nat_lt text_limit n ≡ true) is past in
    refused_past (past_limit text) text_limit size (book_of year text)
    (ap (λ (b : Bool). cond b (Some (text_limit, length text)) (cond (nat_lt item_limit (length (items_of text))) (Some (item_limit, length (items_of text))) None)) over ∙ ap (λ (n : ℕ). let o : Option (ℕ × ℕ) = Some (text_limit, n) in o) (sym is))

-- that of its items
pub many_items : (year : Option ℕ) (text : List ℕ) (size : ℕ) → size ≡ length (items_of text) → length text ≤ text_limit → nat_lt item_limit size ≡ true → TellsRefusal (refused.TooLarge item_limit size) (fault_of year text)
many_items year text size is few past =
    let short : nat_lt text_limit (length text) ≡ false = grind (arith, nat_tests) in
    let over : nat_lt item_limit (length (items_of text)) ≡ true = subst (λ (n : ℕ). nat_lt item_limit n ≡ true) is past in
    refused_past (past_limit text) item_limit size (book_of year text)
    (ap (λ (b : Bool). cond b (Some (text_limit, length text)) (cond (nat_lt item_limit (length (items_of text))) (Some (item_limit, length (items_of text))) None)) short
    ∙ ap (λ (b : Bool). cond b (Some (item_limit, length (items_of text))) None) over
    ∙ ap (λ (n : ℕ). let o : Option (ℕ × ℕ) = Some (item_limit, n) in o) (sym is))

-- a size that isn't past a limit
pub not_past : (limit size : ℕ) → nat_lt limit size ≡ false → size ≤ limit
not_past limit size h = grind (arith, nat_tests)

-- ---- a text within its limits

pub within : (text : List ℕ) → length text ≤ text_limit → length (items_of text) ≤ item_limit → past_limit text ≡ None
within text few many = grind (arith, nat_tests)

-- it has the fault of its book
pub faulty : (year : Option ℕ) (text : List ℕ) (fault : Fault) → length text ≤ text_limit → length (items_of text) ≤ item_limit → book_of year text ≡ Err fault → TellsRefusal (refused.Load fault) (fault_of year text)
faulty year text fault few many is = (λ i. refusal_in (first_of (limit_fault (within text few many i) ∷ text_fault (is i) ∷ [])))

-- and none where it has a book
pub sound_text : (year : Option ℕ) (text : List ℕ) (book : Book) → length text ≤ text_limit → length (items_of text) ≤ item_limit → book_of year text ≡ Ok book → fault_of year text ≡ None
sound_text year text book few many is = (λ i. first_of (limit_fault (within text few many i) ∷ text_fault (is i) ∷ []))

-- what is read and loaded is its book
pub book_load : (r : Result (List Placed) Fault) → (r >>= load) ≡ book_from r
book_load (Ok items) = refl
book_load (Err fault) = refl
