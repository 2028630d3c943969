-- Sums over a book's earlier postings, one after another, and why they are in range.
use Rattle.std.proofs.Common.{◌≡◌, ℕ, zero, suc, pos, ◌+◌, ◌<◌, ◌≤◌, ◌+ℤ◌, max, Bool, true, cond, List, [], ◌∷◌, ◌++◌, length, get_or, take, drop, filter, slice_get, Some, sym, ap, subst, ◌∙◌, arith}
use Rattle.std.specs.List.{flat_map}
use Rattle.std.proofs.lemmas.Grind.{flat_map-append}
use Rattle.std.proofs.lemmas.List.{append-nil, take-append-drop, take_all, take_more}
use Rattle.hl_num.specs.Decimal.{Decimal, add_fits, units_of}
use Rattle.book.specs.Bounds.{TurnoverFits, places_in, turnover}
use Rattle.book.specs.Postings.{postings_of}
use Rattle.book.specs.Sums.{share, sum_of}
use Rattle.book.specs.declared.transaction.Posting.{Posting}
use Rattle.book.specs.declared.transaction.Txn.{Txn}
use Rattle.placed_sums.specs.Own.{IsSumIn}
use Rattle.placed_sums.proofs.Adding.{added, can_add, chosen, chosen_more, chosen_turn, part_in}
use Rattle.placed_sums.proofs.Bounding.{turn_both, turn_part, txn_fits, txn_in}
use Rattle.live_cells.specs.Earlier.{earlier_in, earlier_of, is_earlier}

got : (xs : List Txn) (i : ℕ) (x : Txn) → i < length xs → x ≡ get_or xs i x → slice_get xs i ≡ Some x
got [] i x less is = absurd (omega (arith, less))
got (y ∷ ys) zero x less is = ap Some (sym is)
got (y ∷ ys) (suc i) x less is = got ys i x (omega (arith, less)) is

-- the amounts of one of a book's transactions are in range where the book's are
pub one_fits : (book : List Txn) (i : ℕ) (t : Txn) → i < length book → t ≡ get_or book i t → TurnoverFits (postings_of book) → TurnoverFits t.postings
one_fits book i t less is fits = txn_fits book i t (got book i t less is) fits

-- ---- the postings of a transaction

module _ (account symbol : List ℕ) (below : Bool) (end : ℕ) (t : Txn) where
  abbrev test : Posting → Bool
  test = is_earlier account below end t

  -- the sum of the first postings
  abbrev pub IsSumTo : ℕ → Decimal → Type 0
  IsSumTo i d = IsSumIn t.postings symbol (sum_of symbol (filter (is_earlier account below end t) (take i t.postings))) d

  pub can_add_posting : (i : ℕ) (p : Posting) (a b : Decimal) → i < length t.postings → p ≡ get_or t.postings i p → TurnoverFits t.postings → IsSumTo i a → units_of b ≡ cond (is_earlier account below end t p) (share symbol p.amount) (pos 0) → b.places ≤ places_in symbol p.amount → a.places ≤ 36 → b.places ≤ 36 → add_fits a b ≡ true
  can_add_posting i p a b less is fits of_a value few few_a few_b =
      can_add t.postings (filter test (take i t.postings)) (chosen test symbol p) symbol a b fits (chosen_turn test symbol t.postings i p less is) of_a (part_in test symbol t.postings i p b less is value few) few_a few_b

  pub posting_added : (i : ℕ) (p : Posting) (a b r : Decimal) → i < length t.postings → p ≡ get_or t.postings i p → IsSumTo i a → units_of b ≡ cond (is_earlier account below end t p) (share symbol p.amount) (pos 0) → b.places ≤ places_in symbol p.amount → units_of r ≡ units_of a +ℤ units_of b → r.places ≡ max a.places b.places → IsSumTo (i + 1) r
  posting_added i p a b r less is of_a value few sum places =
      added t.postings (filter test (take i t.postings)) (chosen test symbol p) symbol a b (filter test (take (i + 1) t.postings)) r (chosen_more test symbol t.postings i p less is) of_a (part_in test symbol t.postings i p b less is value few) sum places

  pub postings_done : (i : ℕ) (a : Decimal) → length t.postings ≤ i → IsSumTo i a → IsSumIn t.postings symbol (sum_of symbol (earlier_in account below end t)) a
  postings_done i a all h = subst (λ (ps : List Posting). IsSumIn t.postings symbol (sum_of symbol (filter (is_earlier account below end t) ps)) a) (take_all i t.postings all) h

-- ---- the transactions of a book

module _ (account symbol : List ℕ) (below : Bool) (end : ℕ) (book : List Txn) where
  abbrev own : Txn → List Posting
  own = earlier_in account below end

  -- the sum of the first transactions
  abbrev pub IsSumThrough : ℕ → Decimal → Type 0
  IsSumThrough i d = IsSumIn (postings_of book) symbol (sum_of symbol (earlier_of account below end (take i book))) d

  -- the sum of one
  abbrev pub IsSumOf : Txn → Decimal → Type 0
  IsSumOf t d = IsSumIn t.postings symbol (sum_of symbol (earlier_in account below end t)) d

  one_more : (i : ℕ) (t : Txn) → i < length book → t ≡ get_or book i t → flat_map own (take (i + 1) book) ≡ flat_map own (take i book) ++ own t
  one_more i t less is =
      ap (flat_map own) (take_more book i t less ∙ ap (λ (u : Txn). take i book ++ u ∷ []) (sym is))
      ∙ flat_map-append own (take i book) (t ∷ [])
      ∙ ap (λ (ps : List Posting). flat_map own (take i book) ++ ps) (append-nil (own t))

  -- they move no more than all postings of these transactions do
  own_turn : (ts : List Txn) → turnover symbol (flat_map own ts) ≤ turnover symbol (postings_of ts)
  own_turn [] = omega arith
  own_turn (t ∷ ts) =
      omega (arith, turn_both symbol (own t) (flat_map own ts), turn_both symbol t.postings (postings_of ts), turn_part symbol (is_earlier account below end t) t.postings, own_turn ts)

  -- nor than the book does
  first_turn : (i : ℕ) → turnover symbol (flat_map own (take i book)) ≤ turnover symbol (postings_of book)
  first_turn i =
      let all : Txn → List Posting = λ t. t.postings in
      omega (arith, own_turn (take i book), turn_both symbol (postings_of (take i book)) (postings_of (drop i book)), ap (turnover symbol) (flat_map-append all (take i book) (drop i book)), ap (λ (ts : List Txn). turnover symbol (postings_of ts)) (take-append-drop i book))

  step_turn : (i : ℕ) (t : Txn) → i < length book → t ≡ get_or book i t → turnover symbol (flat_map own (take i book) ++ own t) ≤ turnover symbol (postings_of book)
  step_turn i t less is = omega (arith, ap (turnover symbol) (one_more i t less is), first_turn (i + 1))

  -- what one transaction has is told of the book
  one_in : (i : ℕ) (t : Txn) (d : Decimal) → i < length book → t ≡ get_or book i t → IsSumOf t d → IsSumIn (postings_of book) symbol (sum_of symbol (own t)) d
  one_in i t d less is h = record {
    value = h.value;
    places = omega (arith, h.places, (txn_in symbol book i t (got book i t less is)).places);
  }

  pub can_add_txn : (i : ℕ) (t : Txn) (a b : Decimal) → i < length book → t ≡ get_or book i t → TurnoverFits (postings_of book) → IsSumThrough i a → IsSumOf t b → a.places ≤ 36 → b.places ≤ 36 → add_fits a b ≡ true
  can_add_txn i t a b less is fits of_a of_b few_a few_b =
      can_add (postings_of book) (flat_map own (take i book)) (own t) symbol a b fits (step_turn i t less is) of_a (one_in i t b less is of_b) few_a few_b

  pub txn_added : (i : ℕ) (t : Txn) (a b r : Decimal) → i < length book → t ≡ get_or book i t → IsSumThrough i a → IsSumOf t b → units_of r ≡ units_of a +ℤ units_of b → r.places ≡ max a.places b.places → IsSumThrough (i + 1) r
  txn_added i t a b r less is of_a of_b sum few =
      added (postings_of book) (flat_map own (take i book)) (own t) symbol a b (flat_map own (take (i + 1) book)) r (one_more i t less is) of_a (one_in i t b less is of_b) sum few

  pub txns_done : (i : ℕ) (a : Decimal) → length book ≤ i → IsSumThrough i a → IsSumIn (postings_of book) symbol (sum_of symbol (earlier_of account below end book)) a
  txns_done i a all h = subst (λ (ts : List Txn). IsSumIn (postings_of book) symbol (sum_of symbol (earlier_of account below end ts)) a) (take_all i book all) h
