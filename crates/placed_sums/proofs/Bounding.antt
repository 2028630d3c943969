-- How large sums over a part of a book's postings get.
use Rattle.std.proofs.Common.{◌≡◌, ℕ, ℤ, pos, zero, suc, ◌+◌, ◌-◌, ◌*◌, ◌^◌, ◌<◌, ◌≤◌, ◌+ℤ◌, max, unsigned_abs, Bool, true, false, ◌&&◌, cond, ltb, List, [], ◌∷◌, ◌++◌, map, filter, slice_get, Some, None, refl, sym, ap, subst, ◌∙◌, lit<, arith}
use Rattle.std.specs.List.{flat_map}
use Rattle.std.proofs.Math.Nat.{pow-le-pow_right, mul-le-mul_left}
use Rattle.std.proofs.lemmas.Int.{ints}
use Rattle.std.proofs.lemmas.List.{map-append}
use Rattle.std.proofs.lemmas.Option.{none-some, same_Some}
use Rattle.hl_num.proofs.DecimalLaws.{unsigned_abs-add}
use Rattle.book.specs.Bounds.{TurnoverFits, places_in, places_of, turnover}
use Rattle.book.specs.Postings.{postings_of}
use Rattle.book.specs.Sums.{share, sum_of}
use Rattle.book.specs.SumsBefore.{Place, is_before, is_of, placed_from, placed_in, sum_before}
use Rattle.book.specs.declared.transaction.Posting.{Posting}
use Rattle.book.specs.declared.transaction.Txn.{Txn}
use Rattle.live_index.proofs.InRange.{before-within}
use Rattle.live_index.specs.Rows as rows
use Rattle.placed_sums.specs.Numbers.{earlier_on, has_on, numbered_from, numbers_from}
use Rattle.placed_sums.specs.Own.{is_posted, own_at, own_under}
use Rattle.placed_sums.specs.Rows.{rows_of}
use Rattle.placed_sums.proofs.Fitting.{book_places, book_turns}
use Rattle.placed_sums.proofs.Telling.{AllStand, Entry, stand_all}

-- ---- of any postings

pub sum_within : (symbol : List ℕ) (ps : List Posting) → unsigned_abs (sum_of symbol ps) ≤ turnover symbol ps
sum_within symbol [] = omega arith
sum_within symbol (p ∷ ps) = omega (arith, unsigned_abs-add (share symbol p.amount) (sum_of symbol ps), sum_within symbol ps)

pub turn_both : (symbol : List ℕ) (ps qs : List Posting) → turnover symbol (ps ++ qs) ≡ turnover symbol ps + turnover symbol qs
turn_both symbol [] qs = omega arith
turn_both symbol (p ∷ ps) qs = omega (arith, turn_both symbol ps qs)

part_more : (a b c : ℕ) → b ≤ c → b ≤ a + c
part_more a b c h = omega (arith, h)

both_more : (a b c : ℕ) → b ≤ c → a + b ≤ a + c
both_more a b c h = omega (arith, h)

pub turn_part : (symbol : List ℕ) (test : Posting → Bool) (ps : List Posting) → turnover symbol (filter test ps) ≤ turnover symbol ps
turn_part symbol test [] = omega arith
turn_part symbol test (p ∷ ps) =
    let first = unsigned_abs (share symbol p.amount) in
    let some = turnover symbol (filter test ps) in
    let rest = turn_part symbol test ps in
    elim (test p) as (λ b. turnover symbol (cond b (p ∷ filter test ps) (filter test ps)) ≤ first + turnover symbol ps) [
      | true ↦ both_more first some (turnover symbol ps) rest
      | false ↦ part_more first some (turnover symbol ps) rest
    ]

pub places_both : (symbol : List ℕ) (ps qs : List Posting) → places_of symbol (ps ++ qs) ≡ max (places_of symbol ps) (places_of symbol qs)
places_both symbol [] qs = omega arith
places_both symbol (p ∷ ps) qs = omega (arith, places_both symbol ps qs)

-- ---- of places

entries_part : (symbol : List ℕ) (test : Entry → Bool) (es : List Entry) → turnover symbol (map (λ (e : Entry). e.1) (filter test es)) ≤ turnover symbol (map (λ (e : Entry). e.1) es)
entries_part symbol test [] = omega arith
entries_part symbol test (e ∷ es) =
    let first = unsigned_abs (share symbol e.1.amount) in
    let some = turnover symbol (map (λ (e : Entry). e.1) (filter test es)) in
    let all = turnover symbol (map (λ (e : Entry). e.1) es) in
    let rest = entries_part symbol test es in
    elim (test e) as (λ b. turnover symbol (map (λ (e : Entry). e.1) (cond b (e ∷ filter test es) (filter test es))) ≤ first + all) [
      | true ↦ both_more first some all rest
      | false ↦ part_more first some all rest
    ]

placed_names : (t : Txn) (n k : ℕ) (ps : List Posting) → map (λ (e : Entry). e.1) (placed_in t n k ps) ≡ ps
placed_names t n k [] = refl
placed_names t n k (p ∷ ps) = ap (λ (qs : List Posting). p ∷ qs) (placed_names t n (suc k) ps)

pub text_names : (n : ℕ) (book : List Txn) → map (λ (e : Entry). e.1) (placed_from n book) ≡ postings_of book
text_names n [] = refl
text_names n (t ∷ ts) =
    map-append (λ (e : Entry). e.1) (placed_in t n 0 t.postings) (placed_from (suc n) ts)
    ∙ (λ i. placed_names t n 0 t.postings i ++ text_names (suc n) ts i)

-- the sum before a place is at most what the book moves
pub before_bounded : (book : List Txn) (account symbol : List ℕ) (below : Bool) (place : Place) → unsigned_abs (sum_before book account symbol below place) ≤ turnover symbol (postings_of book)
before_bounded book account symbol below place =
    let part = map (λ (e : Entry). e.1) (filter (λ e. is_before e.0 place && is_of account below e.1.account) (placed_from 0 book)) in
    let some : turnover symbol part ≤ turnover symbol (map (λ (e : Entry). e.1) (placed_from 0 book)) = entries_part symbol (λ e. is_before e.0 place && is_of account below e.1.account) (placed_from 0 book) in
    omega (arith, sum_within symbol part, some, ap (turnover symbol) (text_names 0 book))

-- and so is that of its rows before a day
pub rows_bounded : (book : List Txn) (account symbol : List ℕ) (below : Bool) (end : ℕ) → unsigned_abs (rows.sum_before (rows_of book) account symbol below end) ≤ turnover symbol (postings_of book)
rows_bounded book account symbol below end = omega (arith, before-within (rows_of book) account symbol below end, book_turns symbol book)

-- ---- of the transactions of a day

module _ (symbol account : List ℕ) (below : Bool) (day n : ℕ) (f : ℕ → List Posting) where
  abbrev turn : List ℕ → ℕ
  turn ks = turnover symbol (flat_map f (filter (λ k. ltb k n) ks))

  number_turn : (m : ℕ) (ks : List ℕ) → turn (m ∷ ks) ≤ turnover symbol (f m) + turn ks
  number_turn m ks =
      elim (ltb m n) as (λ b. turnover symbol (flat_map f (cond b (m ∷ filter (λ k. ltb k n) ks) (filter (λ k. ltb k n) ks))) ≤ turnover symbol (f m) + turn ks) [
        | true ↦ omega (arith, turn_both symbol (f m) (flat_map f (filter (λ k. ltb k n) ks)))
        | false ↦ part_more (turnover symbol (f m)) (turn ks) (turn ks) (omega arith)
      ]

  first_turn : (m : ℕ) (t : Txn) (ts : List Txn) → turn (numbers_from day m (t ∷ ts)) ≤ turnover symbol (f m) + turn (numbers_from day (suc m) ts)
  first_turn m t ts =
      elim (has_on day t) as (λ b. turn (map (λ (e : ℕ × Txn). e.0) (cond b ((m, t) ∷ filter (λ e. has_on day e.1) (numbered_from (suc m) ts)) (filter (λ e. has_on day e.1) (numbered_from (suc m) ts)))) ≤ turnover symbol (f m) + turn (numbers_from day (suc m) ts)) [
        | true ↦ number_turn m (numbers_from day (suc m) ts)
        | false ↦ part_more (turnover symbol (f m)) (turn (numbers_from day (suc m) ts)) (turn (numbers_from day (suc m) ts)) (omega arith)
      ]

  in_turn : (m : ℕ) (ts : List Txn) → AllStand account below day f m ts → turn (numbers_from day m ts) ≤ turnover symbol (postings_of ts)
  in_turn m [] h = omega arith
  in_turn m (t ∷ ts) h =
      omega (arith, first_turn m t ts, ap (turnover symbol) h.0, turn_part symbol (is_posted account below day t) t.postings, in_turn (suc m) ts h.1, turn_both symbol t.postings (postings_of ts))

-- the earlier transactions of a day move no more than the book does
pub earlier_bounded : (book : List Txn) (account symbol : List ℕ) (below : Bool) (day n : ℕ) → turnover symbol (own_under book account below day (earlier_on day n book)) ≤ turnover symbol (postings_of book)
earlier_bounded book account symbol below day n = in_turn symbol account below day n (λ k. own_at account below day (slice_get book k)) 0 book (stand_all account below day book)

-- ---- of one transaction

-- its amounts are among the book's
pub record IsIn (symbol : List ℕ) (ps all : List Posting) : Type 0 where
  pub turns : turnover symbol ps ≤ turnover symbol all
  pub places : places_of symbol ps ≤ places_of symbol all

pub txn_in : (symbol : List ℕ) (book : List Txn) (k : ℕ) (t : Txn) → slice_get book k ≡ Some t → IsIn symbol t.postings (postings_of book)
txn_in symbol [] k t h = absurd (none-some t h)
txn_in symbol (u ∷ us) zero t h =
    let same = same_Some u t h in
    record {
      turns = omega (arith, turn_both symbol u.postings (postings_of us), ap (λ (x : Txn). turnover symbol x.postings) same);
      places = omega (arith, places_both symbol u.postings (postings_of us), ap (λ (x : Txn). places_of symbol x.postings) same);
    }
txn_in symbol (u ∷ us) (suc k) t h =
    let rest = txn_in symbol us k t h in
    record {
      turns = omega (arith, rest.turns, turn_both symbol u.postings (postings_of us));
      places = omega (arith, rest.places, places_both symbol u.postings (postings_of us));
    }

within_bound : (n m p q : ℕ) → n ≤ m → p ≤ q → m < 2 ^ 127 * 10 ^ (36 - q) → n < 2 ^ 127 * 10 ^ (36 - p)
within_bound n m p q less few fits =
    let powers : 10 ^ (36 - q) ≤ 10 ^ (36 - p) = pow-le-pow_right {n = 10} (lit< tt) (omega arith) in
    omega (arith, less, fits, mul-le-mul_left (2 ^ 127) powers)

-- and are in range where these are
pub txn_fits : (book : List Txn) (k : ℕ) (t : Txn) → slice_get book k ≡ Some t → TurnoverFits (postings_of book) → TurnoverFits t.postings
txn_fits book k t h fits symbol =
    let i = txn_in symbol book k t h in
    within_bound (turnover symbol t.postings) (turnover symbol (postings_of book)) (places_of symbol t.postings) (places_of symbol (postings_of book)) i.turns i.places (fits symbol)
