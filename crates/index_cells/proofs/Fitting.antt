-- The bound on turnovers that a book keeps is kept by what a plain report takes of it.
use Rattle.std.proofs.Common.{◌≡◌, ℕ, ℤ, pos, ◌+◌, ◌-◌, ◌*ℤ◌, ◌^◌, ◌≤◌, unsigned_abs, Bool, true, false, cond, List, [], ◌∷◌, ◌++◌, map, Option, Some, None, inl, inr, lit<, refl, sym, ap, subst, ◌∙◌, arith}
use Rattle.std.specs.Str.{bytes_eq}
use Rattle.std.proofs.lemmas.Bool.{cases_lt}
use Rattle.std.proofs.lemmas.Int.{ints}
use Rattle.std.proofs.Math.Nat.{pow-le-pow_right, mul-le-mul_left}
use Rattle.hl_num.specs.Decimal.{Decimal, units_of}
use Rattle.book.specs.Bounds as books
use Rattle.book.specs.Postings.{postings_of}
use Rattle.book.specs.Sums.{share}
use Rattle.book.specs.declared.amount.Amount.{Amount}
use Rattle.book.specs.declared.transaction.Posting.{Posting}
use Rattle.book.specs.declared.transaction.Txn.{Txn}
use Rattle.entry_balance.specs.Values.{trimmed, value_of}
use Rattle.hl_num.proofs.Trimmed.{same_trimmed, trimmed-is, trimmed-places, trimmed-units}
use Rattle.report_cells.specs.Bounds.{TurnoverFits, places_at, places_in, turnover_in}
use Rattle.report_cells.specs.Taken.{Shared, share_in}
use Rattle.report_takings.specs.Costs.{moved, told_as}
use Rattle.report_takings.specs.Entries.{Entry, entries_of}
use Rattle.index_cells.specs.Posted.{posted, posted_in}

-- ---- as few decimals as a number needs

by_one : (z : ℤ) → z *ℤ pos (10 ^ (36 - 36)) ≡ z
by_one z = omega (arith, ints)

trimmed_is : (z : ℤ) → units_of (trimmed z 36) ≡ z
trimmed_is z = trimmed-units z 36 (omega arith) ∙ by_one z

fewest : (d : Decimal) → d.places ≤ 36 → trimmed d.mantissa d.places ≡ trimmed (units_of d) 36
fewest d few =
    same_trimmed (trimmed d.mantissa d.places) (trimmed (units_of d) 36) (omega (arith, trimmed-places d.mantissa d.places, few)) (trimmed-places (units_of d) 36) (trimmed-is d.mantissa d.places) (trimmed-is (units_of d) 36)
    (trimmed-units d.mantissa d.places few ∙ sym (trimmed_is (units_of d)))

fewest-places : (d : Decimal) → (trimmed (units_of d) 36).places ≤ d.places
fewest-places d = elim (cases_lt 36 d.places) [
  | inl more ↦ omega (arith, more, trimmed-places (units_of d) 36)
  | inr few ↦ subst (λ (e : Decimal). e.places ≤ d.places) (fewest d few) (trimmed-places d.mantissa d.places)
]

-- ---- what a posting moves

found_units : (symbol its : List ℕ) (found : Bool) (d : Decimal) → cond (bytes_eq (told_as found (its, d)).0 symbol) (units_of (told_as found (its, d)).1) (pos 0) ≡ cond (bytes_eq its symbol) (units_of d) (pos 0)
found_units symbol its true d = ap (λ (z : ℤ). cond (bytes_eq its symbol) z (pos 0)) (trimmed_is (units_of d))
found_units symbol its false d = refl

found_places : (symbol its : List ℕ) (found : Bool) (d : Decimal) → cond (bytes_eq (told_as found (its, d)).0 symbol) (told_as found (its, d)).1.places 0 ≤ cond (bytes_eq its symbol) d.places 0
found_places symbol its true d =
    let fewer = fewest-places d in
    elim (bytes_eq its symbol) as (λ b. cond b (trimmed (units_of d) 36).places 0 ≤ cond b d.places 0) [ true ↦ fewer | false ↦ omega arith ]
found_places symbol its false d = omega arith

-- an amount, and whether balancing found it
abbrev told : Bool → Option Amount → Option Shared
told found None = None
told found (Some a) = Some (told_as found (value_of a))

told_units : (symbol : List ℕ) (found : Bool) (o : Option Amount) → share_in symbol (told found o) ≡ share symbol o
told_units symbol found None = refl
told_units symbol found (Some a) = found_units symbol a.symbol found a.value

told_places : (symbol : List ℕ) (found : Bool) (o : Option Amount) → places_at symbol (told found o) ≤ books.places_in symbol o
told_places symbol found None = omega arith
told_places symbol found (Some a) = found_places symbol a.symbol found a.value

moved_told : (p : Posting) → moved false p ≡ told p.filled p.amount
moved_told p = by p.amount
  where
    by : (o : Option Amount) → moved false (record p { amount = o }) ≡ told p.filled o
    by None = refl
    by (Some a) = refl

-- ---- all postings

same_turnover : (symbol : List ℕ) (es : List Entry) → turnover_in symbol (map posted es) ≡ books.turnover symbol (map (λ (e : Entry). e.0) es)
same_turnover symbol [] = refl
same_turnover symbol (e ∷ es) =
    (λ i. unsigned_abs ((ap (share_in symbol) (moved_told e.0) ∙ told_units symbol e.0.filled e.0.amount) i) + same_turnover symbol es i)

fewer_places : (symbol : List ℕ) (es : List Entry) → places_in symbol (map posted es) ≤ books.places_of symbol (map (λ (e : Entry). e.0) es)
fewer_places symbol [] = omega arith
fewer_places symbol (e ∷ es) =
    let first : places_at symbol (moved false e.0) ≤ books.places_in symbol e.0.amount =
    subst (λ (o : Option Shared). places_at symbol o ≤ books.places_in symbol e.0.amount) (sym (moved_told e.0)) (told_places symbol e.0.filled e.0.amount) in
    omega (arith, first, fewer_places symbol es)

in_txn : (txn : Txn) (ps : List Posting) (rest : List Entry) → map (λ (e : Entry). e.0) (map (λ (p : Posting). (p, txn)) ps ++ rest) ≡ ps ++ map (λ (e : Entry). e.0) rest
in_txn txn [] rest = refl
in_txn txn (p ∷ ps) rest = ap (λ (t : List Posting). p ∷ t) (in_txn txn ps rest)

entries_post : (txns : List Txn) → map (λ (e : Entry). e.0) (entries_of txns) ≡ postings_of txns
entries_post [] = refl
entries_post (t ∷ txns) = in_txn t t.postings (entries_of txns) ∙ ap (λ (ps : List Posting). t.postings ++ ps) (entries_post txns)

pub posted_fit : (txns : List Txn) → books.TurnoverFits (postings_of txns) → TurnoverFits (posted_in txns)
posted_fit txns fits = λ symbol.
    let turned : turnover_in symbol (posted_in txns) ≡ books.turnover symbol (postings_of txns) = same_turnover symbol (entries_of txns) ∙ ap (books.turnover symbol) (entries_post txns) in
    let fewer : places_in symbol (posted_in txns) ≤ books.places_of symbol (postings_of txns) = subst (λ (ps : List Posting). places_in symbol (posted_in txns) ≤ books.places_of symbol ps) (entries_post txns) (fewer_places symbol (entries_of txns)) in
    let powers : 10 ^ (36 - books.places_of symbol (postings_of txns)) ≤ 10 ^ (36 - places_in symbol (posted_in txns)) = pow-le-pow_right {n = 10} (lit< tt) (omega (arith, fewer)) in
    omega (arith, turned, mul-le-mul_left (2 ^ 127) powers, fits symbol)
