-- What the steps of a load tell of a text.
use Rattle.std.proofs.Common.{◌≡◌, ℕ, List, [], ◌∷◌, Option, Some, None, Result, Ok, Err, sym, ap, subst, ◌∙◌, arith}
use Rattle.std.proofs.lemmas.Bool.Decides.{nat_tests}
use Rattle.hl_base.specs.declared.items.Piece.{Piece}
use Rattle.book.specs.declared.fault.Fault.{Fault}
use Rattle.book.specs.declared.item.Book.{Book}
use Rattle.book.specs.declared.item.Placed.{Placed}
use Rattle.balancing.specs.Load.{load}
use Rattle.live_journal.specs.Loading.{IsCut, Tells, book_from, book_of, fault_of, first_of, limit_fault, past_limit, reading_in, text_fault}
use Rattle.live_journal.specs.declared.fault.OpenFault.{OpenFault}
use Rattle.live_journal.specs.declared.fault.OpenFault.TheVariants as unopened

none_tells : (e : OpenFault) → Tells e None → (fault : Option OpenFault) → Tells e fault
none_tells unopened.Memory h fault = tt
none_tells (unopened.Load f) h fault = absurd (let is : None ≡ Some (unopened.Load f) = h in let never : ⊥ = cc in never)
none_tells (unopened.TooLarge l s) h fault = absurd (let is : None ≡ Some (unopened.TooLarge l s) = h in let never : ⊥ = cc in never)

unread_so : (r : Result (List Placed) Fault) (e : OpenFault) → Tells e (text_fault r) → Tells e (text_fault (book_from r))
unread_so (Ok items) e h = none_tells e h (text_fault (book_from (Ok items)))
unread_so (Err fault) e h = h

unbooked_so : (r : Result (List Placed) Fault) (items : List Placed) (e : OpenFault) → r ≡ Ok items → Tells e (text_fault (load items)) → Tells e (text_fault (book_from r))
unbooked_so r items e is h = subst (λ (x : Result (List Placed) Fault). Tells e (text_fault (book_from x))) (sym is) h

-- a text past a limit tells the limit
limit_tells : (past : Option (ℕ × ℕ)) (book : Result Book Fault) (e : OpenFault) → Tells e (limit_fault past) → Tells e (first_of (limit_fault past ∷ text_fault book ∷ []))
limit_tells None book e h = none_tells e h (first_of (limit_fault None ∷ text_fault book ∷ []))
limit_tells (Some p) book e h = h

-- one within its limits tells the fault of its book
within_tells : (past : Option (ℕ × ℕ)) (book : Result Book Fault) (e : OpenFault) → past ≡ None → Tells e (text_fault book) → Tells e (first_of (limit_fault past ∷ text_fault book ∷ []))
within_tells None (Ok b) e is h = h
within_tells None (Err f) e is h = h
within_tells (Some p) book e is h = absurd (let never : ⊥ = cc in never)

-- and none where it has a book
within_good : (past : Option (ℕ × ℕ)) (book : Result Book Fault) (b : Book) → past ≡ None → book ≡ Ok b → first_of (limit_fault past ∷ text_fault book ∷ []) ≡ None
within_good past book b is loads = (λ i. first_of (limit_fault (is i) ∷ text_fault (loads i) ∷ []))

-- what was cut is within the limits
cut_within : (text : List ℕ) (pieces : List Piece) → IsCut text pieces → past_limit text ≡ None
cut_within text pieces h =
    let few = h.few_bytes in
    let many = h.few_items in
    grind (arith, nat_tests)

-- ---- what a load tells after each of its steps

pub uncut_tells : (year : Option ℕ) (text : List ℕ) (e : OpenFault) → Tells e (limit_fault (past_limit text)) → Tells e (fault_of year text)
uncut_tells year text e h = limit_tells (past_limit text) (book_of year text) e h

pub unread_tells : (year : Option ℕ) (text : List ℕ) (pieces : List Piece) (e : OpenFault) → IsCut text pieces → Tells e (text_fault (reading_in year text)) → Tells e (fault_of year text)
unread_tells year text pieces e cut h = within_tells (past_limit text) (book_of year text) e (cut_within text pieces cut) (unread_so (reading_in year text) e h)

pub unbooked_tells : (year : Option ℕ) (text : List ℕ) (pieces : List Piece) (items seen : List Placed) (e : OpenFault) → IsCut text pieces → reading_in year text ≡ Ok items → seen ≡ items → Tells e (text_fault (load seen)) → Tells e (fault_of year text)
unbooked_tells year text pieces items seen e cut read same h =
    within_tells (past_limit text) (book_of year text) e (cut_within text pieces cut)
    (unbooked_so (reading_in year text) items e read (subst (λ (ps : List Placed). Tells e (text_fault (load ps))) same h))

pub booked : (year : Option ℕ) (text : List ℕ) (items : List Placed) (book : Book) → reading_in year text ≡ Ok items → load items ≡ Ok book → book_of year text ≡ Ok book
booked year text items book read loads = ap book_from read ∙ loads

pub booked_good : (year : Option ℕ) (text : List ℕ) (pieces : List Piece) (items : List Placed) (book : Book) → IsCut text pieces → reading_in year text ≡ Ok items → load items ≡ Ok book → fault_of year text ≡ None
booked_good year text pieces items book cut read loads =
    within_good (past_limit text) (book_of year text) book (cut_within text pieces cut) (booked year text items book read loads)
