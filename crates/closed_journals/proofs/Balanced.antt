-- What accounts hold behind the entries as they are read.
use Rattle.std.proofs.Common.{ℕ, ℤ, pos, suc, ◌≡◌, ◌+◌, ◌+ℤ◌, true, false, cond, List, [], ◌∷◌, ◌++◌, refl, sym, ap, ◌∙◌, arith, append-nil}
use Rattle.std.specs.Str.{bytes_eq}
use Rattle.std.proofs.lemmas.Int.{ints}
use Rattle.std.proofs.lemmas.List.Concat.{flat_map-append}
use Rattle.std.proofs.lemmas.List.Elements.{filter-append}
use Rattle.book.specs.Postings.{postings_of}
use Rattle.book.specs.Sums.{of_account, share, sum_of}
use Rattle.book.specs.declared.transaction.Posting.{Posting}
use Rattle.book.specs.declared.transaction.Txn.{Txn}
use Rattle.book_care.specs.Asked.{Asked}
use Rattle.book_care.specs.Balances.{AreEmpty, Close, IsKept, balance}
use Rattle.book_care.specs.Entries.{Writing, entry_on}
use Rattle.book_care.specs.Lines.{Moved}
use Rattle.book_care.proofs.Summing.{lines_at, moved_in, posted_at}
use Rattle.book_care.proofs.Totals.{picked, zero_left}
use Rattle.closed_journals.specs.Added.{Carries, Shaped, entry_at, posting_in, postings_from}

sum_of-append : (s : List ℕ) (xs ys : List Posting) → sum_of s (xs ++ ys) ≡ sum_of s xs +ℤ sum_of s ys
sum_of-append s [] ys = sym (zero_left (sum_of s ys))
sum_of-append s (p ∷ xs) ys =
    ap (λ z. share s p.amount +ℤ z) (sum_of-append s xs ys) ∙ grouped (share s p.amount) (sum_of s xs) (sum_of s ys)
  where
    grouped : (x y z : ℤ) → x +ℤ (y +ℤ z) ≡ (x +ℤ y) +ℤ z
    grouped x y z = omega (arith, ints)

abbrev held : List ℕ → List ℕ → List Posting → ℤ
held a s ps = sum_of s (of_account a ps)

held_append : (a s : List ℕ) (xs ys : List Posting) → held a s (xs ++ ys) ≡ held a s xs +ℤ held a s ys
held_append a s xs ys =
    ap (sum_of s) (filter-append (λ (p : Posting). bytes_eq p.account a) xs ys)
    ∙ sum_of-append s (of_account a xs) (of_account a ys)

balance_with : (a s : List ℕ) (txns more : List Txn) → balance a s (txns ++ more) ≡ balance a s txns +ℤ held a s (postings_of more)
balance_with a s txns more =
    ap (held a s) (flat_map-append (λ (t : Txn). t.postings) txns more)
    ∙ held_append a s (postings_of txns) (postings_of more)

read_at : (shape : Shaped) (a s : List ℕ) (n : ℕ) (ms : List Moved) → held a s (postings_from shape n ms) ≡ lines_at a s ms
read_at shape a s n [] = refl
read_at shape a s n (m ∷ ms) =
    elim (bytes_eq m.account a) as (λ b. sum_of s (cond b (posting_in (shape m) n m ∷ of_account a (postings_from shape (suc n) ms)) (of_account a (postings_from shape (suc n) ms))) ≡ picked b (moved_in s m) +ℤ lines_at a s ms) [
      | true ↦ ap (λ z. moved_in s m +ℤ z) (read_at shape a s (suc n) ms)
      | false ↦ read_at shape a s (suc n) ms ∙ sym (zero_left (lines_at a s ms))
    ]

-- an entry as it is read holds what it holds as it is written
same_held : (shape : Shaped) (styles : Writing) (number day : ℕ) (d : List ℕ) (ms : List Moved) (a s : List ℕ)
    → held a s (entry_at shape number day d ms).postings ≡ held a s (entry_on styles day d ms).postings
same_held shape styles number day d ms a s = read_at shape a s (suc number) ms ∙ sym (posted_at styles a s 2 ms)

module _ (asked : Asked) (shape : Shaped) (styles : Writing) (first second : ℕ) (ms ns : List Moved) (c d : List ℕ) where
  abbrev closing : Txn
  closing = entry_at shape first asked.on c ms

  abbrev opening : Txn
  opening = entry_at shape second (asked.on + 1) d ns

  abbrev closing_written : Txn
  closing_written = entry_on styles asked.on c ms

  abbrev opening_written : Txn
  opening_written = entry_on styles (asked.on + 1) d ns

  alone : (a s : List ℕ) → held a s (postings_of (closing ∷ [])) ≡ held a s (postings_of (closing_written ∷ []))
  alone a s =
      ap (held a s) (append-nil closing.postings) ∙ same_held shape styles first asked.on c ms a s ∙ sym (ap (held a s) (append-nil closing_written.postings))

  both : (a s : List ℕ) → held a s (postings_of (closing ∷ opening ∷ [])) ≡ held a s (postings_of (closing_written ∷ opening_written ∷ []))
  both a s =
      held_append a s closing.postings (opening.postings ++ [])
      ∙ (λ i. same_held shape styles first asked.on c ms a s i +ℤ (ap (held a s) (append-nil opening.postings) ∙ same_held shape styles second (asked.on + 1) d ns a s ∙ sym (ap (held a s) (append-nil opening_written.postings))) i)
      ∙ sym (held_append a s closing_written.postings (opening_written.postings ++ []))

  pub emptied : Close asked (closing_written, opening_written) → AreEmpty asked (asked.txns ++ closing ∷ [])
  emptied close = λ a s named.
      balance_with a s asked.txns (closing ∷ [])
      ∙ ap (λ z. balance a s asked.txns +ℤ z) (alone a s)
      ∙ sym (balance_with a s asked.txns (closing_written ∷ []))
      ∙ close.emptied a s named

  pub restored : Close asked (closing_written, opening_written) → IsKept asked.txns (closing ∷ opening ∷ [])
  restored close = λ a s.
      balance_with a s asked.txns (closing ∷ opening ∷ [])
      ∙ ap (λ z. balance a s asked.txns +ℤ z) (both a s)
      ∙ sym (balance_with a s asked.txns (closing_written ∷ opening_written ∷ []))
      ∙ close.restored a s

-- ---- the opening entry alone

carry : (b x y : ℤ) → b +ℤ x ≡ pos 0 → b +ℤ (x +ℤ y) ≡ b → y ≡ b
carry b x y empty kept = omega (arith, ints, empty, kept)

pub carried : (asked : Asked) (first second : Txn) → Close asked (first, second) → Carries asked second
carried asked first second close = λ a s named.
    let before = balance a s asked.txns in
    carry before (held a s first.postings) (balance a s (second ∷ []))
    (ap (λ (ps : List Posting). before +ℤ held a s ps) (sym (append-nil first.postings))
    ∙ sym (balance_with a s asked.txns (first ∷ [])) ∙ close.emptied a s named)
    (ap (λ (z : ℤ). before +ℤ z) (sym (held_append a s first.postings (second.postings ++ [])))
    ∙ sym (balance_with a s asked.txns (first ∷ second ∷ [])) ∙ close.restored a s)

-- the same as it is read
pub opening_carried : (asked : Asked) (shape : Shaped) (styles : Writing) (number : ℕ) (c d : List ℕ) (ms ns : List Moved)
    → Close asked (entry_on styles asked.on c ms, entry_on styles (asked.on + 1) d ns) → Carries asked (entry_at shape number (asked.on + 1) d ns)
opening_carried asked shape styles number c d ms ns close = λ a s named.
    ap (held a s) (append-nil (entry_at shape number (asked.on + 1) d ns).postings)
    ∙ same_held shape styles number (asked.on + 1) d ns a s
    ∙ sym (ap (held a s) (append-nil (entry_on styles (asked.on + 1) d ns).postings))
    ∙ carried asked (entry_on styles asked.on c ms) (entry_on styles (asked.on + 1) d ns) close a s named
