-- The rows of a book are in range where its amounts are.
use Rattle.std.proofs.Common.{◌≡◌, ℕ, pos, ◌+◌, ◌-◌, ◌*◌, ◌^◌, ◌<◌, max, unsigned_abs, true, false, cond, List, [], ◌∷◌, ◌++◌, Option, Some, None, refl, sym, ap, ◌∙◌, subst, arith}
use Rattle.std.specs.List.{flat_map}
use Rattle.std.specs.Str.{bytes_eq}
use Rattle.std.proofs.lemmas.List.{append_assoc}
use Rattle.hl_num.specs.Decimal.{units_of}
use Rattle.book.specs.Bounds as amounts
use Rattle.book.specs.Postings.{postings_of}
use Rattle.book.specs.Sums.{share}
use Rattle.book.specs.declared.amount.Amount.{Amount}
use Rattle.book.specs.declared.transaction.Posting.{Posting}
use Rattle.book.specs.declared.transaction.Txn.{Txn}
use Rattle.entry_balance.specs.Entry.{from_amount}
use Rattle.live_index.specs.Rows as rows
use Rattle.live_index.specs.Standing.{standing}
use Rattle.live_index.specs.declared.row.Row.{Row}
use Rattle.live_index.proofs.NetLaws.{fits-by}
use Rattle.placed_sums.specs.Rows.{row_of, rows_of, rows_of_posting}

none_more : (a b : ℕ) → a ≡ b → a ≡ 0 + b
none_more a b h = omega (arith, h)

none_above : (a b : ℕ) → a ≡ b → a ≡ max 0 b
none_above a b h = omega (arith, h)

module _ (symbol : List ℕ) where
  one_turns : (t : Txn) (p : Posting) (o : Option Amount) (rs : List Row) (qs : List Posting) → rows.turnover symbol rs ≡ amounts.turnover symbol qs → rows.turnover symbol (from_amount (λ a. row_of t p a ∷ []) o ++ rs) ≡ unsigned_abs (share symbol o) + amounts.turnover symbol qs
  one_turns t p None rs qs h = none_more (rows.turnover symbol rs) (amounts.turnover symbol qs) h
  one_turns t p (Some a) rs qs h =
      elim (bytes_eq a.symbol symbol) as (λ b. cond b (unsigned_abs (units_of a.value)) 0 + rows.turnover symbol rs ≡ unsigned_abs (cond b (units_of a.value) (pos 0)) + amounts.turnover symbol qs) [
        | true ↦ ap (λ (n : ℕ). unsigned_abs (units_of a.value) + n) h
        | false ↦ ap (λ (n : ℕ). 0 + n) h
      ]

  txn_turns : (t : Txn) (ps : List Posting) (rs : List Row) (qs : List Posting) → rows.turnover symbol rs ≡ amounts.turnover symbol qs → rows.turnover symbol (flat_map (rows_of_posting t) ps ++ rs) ≡ amounts.turnover symbol (ps ++ qs)
  txn_turns t [] rs qs h = h
  txn_turns t (p ∷ ps) rs qs h =
      ap (rows.turnover symbol) (append_assoc (rows_of_posting t p) (flat_map (rows_of_posting t) ps) rs)
      ∙ one_turns t p p.amount (flat_map (rows_of_posting t) ps ++ rs) (ps ++ qs) (txn_turns t ps rs qs h)

  pub book_turns : (book : List Txn) → rows.turnover symbol (rows_of book) ≡ amounts.turnover symbol (postings_of book)
  book_turns [] = refl
  book_turns (t ∷ ts) = txn_turns t t.postings (rows_of ts) (postings_of ts) (book_turns ts)

  one_places : (t : Txn) (p : Posting) (o : Option Amount) (rs : List Row) (qs : List Posting) → rows.places_of symbol rs ≡ amounts.places_of symbol qs → rows.places_of symbol (from_amount (λ a. row_of t p a ∷ []) o ++ rs) ≡ max (amounts.places_in symbol o) (amounts.places_of symbol qs)
  one_places t p None rs qs h = none_above (rows.places_of symbol rs) (amounts.places_of symbol qs) h
  one_places t p (Some a) rs qs h = ap (max (cond (bytes_eq a.symbol symbol) a.value.places 0)) h

  txn_places : (t : Txn) (ps : List Posting) (rs : List Row) (qs : List Posting) → rows.places_of symbol rs ≡ amounts.places_of symbol qs → rows.places_of symbol (flat_map (rows_of_posting t) ps ++ rs) ≡ amounts.places_of symbol (ps ++ qs)
  txn_places t [] rs qs h = h
  txn_places t (p ∷ ps) rs qs h =
      ap (rows.places_of symbol) (append_assoc (rows_of_posting t p) (flat_map (rows_of_posting t) ps) rs)
      ∙ one_places t p p.amount (flat_map (rows_of_posting t) ps ++ rs) (ps ++ qs) (txn_places t ps rs qs h)

  pub book_places : (book : List Txn) → rows.places_of symbol (rows_of book) ≡ amounts.places_of symbol (postings_of book)
  book_places [] = refl
  book_places (t ∷ ts) = txn_places t t.postings (rows_of ts) (postings_of ts) (book_places ts)

pub rows_fit : (book : List Txn) → amounts.TurnoverFits (postings_of book) → rows.TurnoverFits (rows_of book)
rows_fit book h symbol =
    let turns = book_turns symbol book in
    let P : ℕ → Type 0 = λ n. rows.turnover symbol (rows_of book) < 2 ^ 127 * 10 ^ (36 - n) in
    let Q : ℕ → Type 0 = λ n. n < 2 ^ 127 * 10 ^ (36 - amounts.places_of symbol (postings_of book)) in
    subst P (sym (book_places symbol book)) (subst Q (sym turns) (h symbol))

-- so are those that stand
pub standing_fit : (book : List Txn) → amounts.TurnoverFits (postings_of book) → rows.TurnoverFits (standing (rows_of book))
standing_fit book h = fits-by (rows_of book) (rows_of book) (λ row. refl) (rows_fit book h)
