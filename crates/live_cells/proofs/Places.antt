-- The postings before the start of a day are those of earlier days.
use Rattle.std.proofs.Common.{◌≡◌, ℕ, suc, Bool, true, false, ◌&&◌, ◌||◌, cond, eqb, ltb, List, [], ◌∷◌, ◌++◌, map, filter, refl, sym, ap, ◌∙◌, arith}
use Rattle.std.specs.Prelude.{unwrap_or}
use Rattle.std.proofs.lemmas.Bool.Decides.{nat_tests}
use Rattle.std.proofs.lemmas.List.{map-append}
use Rattle.std.proofs.lemmas.List.Elements.{filter-append}
use Rattle.hl_time.specs.declared.day.Day.{Day}
use Rattle.book.specs.Sums.{sum_of}
use Rattle.book.specs.SumsBefore.{Place, is_before, is_of, number_in, placed_from, placed_in, start_of, sum_before}
use Rattle.book.specs.declared.transaction.Posting.{Posting}
use Rattle.book.specs.declared.transaction.Txn.{Txn}
use Rattle.live_cells.specs.Earlier.{earlier_of, is_earlier}

abbrev Entry : Type 0
Entry = Place × Posting

pub never_below : (n : ℕ) → ltb n 0 ≡ false
never_below n = grind (arith, nat_tests)

or_none : (a b : Bool) → (a || (b && false)) ≡ a
or_none true b = refl
or_none false true = refl
or_none false false = refl

module _ (account : List ℕ) (below : Bool) (end : Day) where
  abbrev counted : Entry → Bool
  counted e = is_before e.0 (start_of end) && is_of account below e.1.account

  abbrev of_entries : List Entry → List Posting
  of_entries es = map (λ (e : Entry). e.1) (filter counted es)

  -- a place comes before the day's start where its day does
  before_is : (f : Place) → is_before f (start_of end) ≡ ltb f.day end.0
  before_is f =
      ap (λ (t : Bool). ltb f.day end.0 || (eqb f.day end.0 && (ltb f.txn 0 || (eqb f.txn 0 && t)))) (never_below f.posting)
      ∙ ap (λ (t : Bool). ltb f.day end.0 || (eqb f.day end.0 && t)) (or_none (ltb f.txn 0) (eqb f.txn 0))
      ∙ ap (λ (t : Bool). ltb f.day end.0 || (eqb f.day end.0 && t)) (never_below f.txn)
      ∙ or_none (ltb f.day end.0) (eqb f.day end.0)

  one_more : (at : Place) (p : Posting) (es : List Entry) (ps : List Posting) (b : Bool) → of_entries es ≡ ps
      → map (λ (e : Entry). e.1) (cond b ((at, p) ∷ filter counted es) (filter counted es)) ≡ cond b (p ∷ ps) ps
  one_more at p es ps true h = ap (λ (qs : List Posting). p ∷ qs) h
  one_more at p es ps false h = h

  in_txn : (t : Txn) (number n : ℕ) (ps : List Posting) → of_entries (placed_in t number n ps) ≡ filter (is_earlier account below end.0 t) ps
  in_txn t number n [] = refl
  in_txn t number n (p ∷ ps) =
      let at : Place = record { day = (unwrap_or p.day t.day).0; txn = number; posting = number_in t n p } in
      let es = placed_in t number (suc n) ps in
      let o = is_of account below p.account in
      ap (λ (b : Bool). map (λ (e : Entry). e.1) (cond (b && o) ((at, p) ∷ filter counted es) (filter counted es))) (before_is at)
      ∙ one_more at p es (filter (is_earlier account below end.0 t) ps) (ltb at.day end.0 && o) (in_txn t number (suc n) ps)

  in_book : (number : ℕ) (book : List Txn) → of_entries (placed_from number book) ≡ earlier_of account below end.0 book
  in_book number [] = refl
  in_book number (t ∷ ts) =
      let first = placed_in t number 0 t.postings in
      let rest = placed_from (suc number) ts in
      ap (map (λ (e : Entry). e.1)) (filter-append counted first rest)
      ∙ map-append (λ (e : Entry). e.1) (filter counted first) (filter counted rest)
      ∙ (λ i. in_txn t number 0 t.postings i ++ in_book (suc number) ts i)

-- what is summed over a book's earlier postings
pub book_tells : (book : List Txn) (account symbol : List ℕ) (below : Bool) (end : Day) → sum_of symbol (earlier_of account below end.0 book) ≡ sum_before book account symbol below (start_of end)
book_tells book account symbol below end = sym (ap (sum_of symbol) (in_book account below end 0 book))
