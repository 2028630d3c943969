-- A cell is summed symbol by symbol.
use Rattle.std.proofs.Common.{◌≡◌, ℕ, ℤ, pos, ◌+◌, ◌-◌, ◌*◌, ◌^◌, ◌<◌, ◌≤◌, ◌+ℤ◌, unsigned_abs, Bool, true, false, cond, ◌||◌, List, [], ◌∷◌, ◌++◌, length, take, get_or, Some, inl, inr, zero, suc, refl, sym, ap, subst, ◌∙◌, arith}
use Rattle.std.specs.List.{list_any}
use Rattle.std.specs.Str.{bytes_eq}
use Rattle.std.proofs.lemmas.Bool.{or_parts}
use Rattle.std.proofs.lemmas.List.{take_more}
use Rattle.std.proofs.Math.IntN.{+ℤ_idl, +ℤ_idr}
use Rattle.hl_num.specs.Decimal.{Decimal, units_of}
use Rattle.hl_time.specs.declared.spans.Span.{Span}
use Rattle.live_index.specs.Standing.{standing}
use Rattle.live_index.specs.Told.{IsSum}
use Rattle.report_cells.specs.Bounds.{places_at}
use Rattle.report_cells.specs.Kept.{Cell, ShareFits, with_share}
use Rattle.report_cells.specs.Taken.{share_in}
use Rattle.report_cells.proofs.Holding.{Holds, alike, bytes_eq-itself, holds_none, holds_more, share_fits, told}
use Rattle.index_cells.specs.Held.{HoldsSums, most_of, summed}
use Rattle.index_cells.specs.Keys.{is_in, EachOnce}
use Rattle.index_cells.specs.Over.{sum_over}
use Rattle.index_cells.specs.Tells.{IsReady}
use Rattle.index_cells.specs.declared.kept.Kept.{Kept}
use Rattle.index_cells.proofs.Overs.{over-within}
use Rattle.index_cells.proofs.Summing.{sums_of}

pub sym_text : (a b : List ℕ) → bytes_eq a b ≡ bytes_eq b a
sym_text a b = elim (alike a b) [
  | inl same ↦ subst (λ (x : List ℕ). bytes_eq a x ≡ bytes_eq x a) same refl
  | inr differ ↦ elim (alike b a) [
    | inl same ↦ subst (λ (x : List ℕ). bytes_eq x b ≡ bytes_eq b x) same refl
    | inr other ↦ differ ∙ sym other
  ]
]

any-push : (p : List ℕ → Bool) (xs : List (List ℕ)) (x : List ℕ) → list_any p (xs ++ x ∷ []) ≡ (list_any p xs || p x)
any-push p [] x = alone (p x)
  where
    alone : (b : Bool) → (b || false) ≡ b
    alone true = refl
    alone false = refl
any-push p (y ∷ xs) x = ap (λ b. p y || b) (any-push p xs x) ∙ nested (p y) (list_any p xs) (p x)
  where
    nested : (a b c : Bool) → (a || (b || c)) ≡ ((a || b) || c)
    nested true b c = refl
    nested false b c = refl

-- an item isn't among those before it
pub not_before : (texts : List (List ℕ)) (i : ℕ) (text : List ℕ) → EachOnce texts → i < length texts → text ≡ get_or texts i text → is_in text (take i texts) ≡ false
not_before [] i text h lt is = absurd (omega (arith, lt))
not_before (first ∷ texts) zero text h lt is = refl
not_before (first ∷ texts) (suc i) text h lt is =
    let later : i < length texts = omega (arith, lt) in
    ap (λ b. b || is_in text (take i texts)) (sym_text text first ∙ apart texts i text later is h.0) ∙ not_before texts i text h.1 later is
  where
    apart : (texts : List (List ℕ)) (i : ℕ) (text : List ℕ) → i < length texts → text ≡ get_or texts i text → is_in first texts ≡ false → bytes_eq first text ≡ false
    apart [] i text lt is h = absurd (omega (arith, lt))
    apart (next ∷ texts) zero text lt is h = ap (bytes_eq first) is ∙ (or_parts (bytes_eq first next) (is_in first texts) h).0
    apart (next ∷ texts) (suc i) text lt is h = apart texts i text (omega (arith, lt)) is (or_parts (bytes_eq first next) (is_in first texts) h).1

-- ---- one more symbol

module _ (exact : List ℕ → ℤ) (bound : List ℕ → ℕ) (done : List (List ℕ)) (symbol : List ℕ) (value : Decimal) (absent : is_in symbol done ≡ false) (units : units_of value ≡ exact symbol) (small : (q : List ℕ) → unsigned_abs (exact q) < bound q) where
  abbrev so_far : List ℕ → ℤ
  so_far q = cond (is_in q done) (exact q) (pos 0)

  picked : (b : Bool) (z : ℤ) (n : ℕ) → unsigned_abs z < n → unsigned_abs (cond b z (pos 0)) + 0 < n
  picked true z n h = omega (arith, h)
  picked false z n h = omega (arith, h)

  stays_small : (q : List ℕ) → unsigned_abs (so_far q) + unsigned_abs (share_in q (Some (symbol, value))) < bound q
  stays_small q = elim (alike symbol q) [
    | inl same ↦ subst (λ (x : List ℕ). unsigned_abs (so_far x) + unsigned_abs (share_in x (Some (symbol, value))) < bound x) same here
    | inr differ ↦ subst (λ (b : Bool). unsigned_abs (so_far q) + unsigned_abs (cond b (units_of value) (pos 0)) < bound q) (sym differ) (picked (is_in q done) (exact q) (bound q) (small q))
  ]
    where
      here : unsigned_abs (so_far symbol) + unsigned_abs (share_in symbol (Some (symbol, value))) < bound symbol
      here =
          let none : unsigned_abs (so_far symbol) ≡ 0 = ap (λ (b : Bool). unsigned_abs (cond b (exact symbol) (pos 0))) absent in
          let own : unsigned_abs (share_in symbol (Some (symbol, value))) ≡ unsigned_abs (exact symbol) = ap (λ (b : Bool). unsigned_abs (cond b (units_of value) (pos 0))) (bytes_eq-itself symbol) ∙ ap unsigned_abs units in
          omega (arith, small symbol, none, own)

  next_told : (q : List ℕ) → cond (is_in q (done ++ symbol ∷ [])) (exact q) (pos 0) ≡ so_far q +ℤ share_in q (Some (symbol, value))
  next_told q =
      ap (λ (b : Bool). cond b (exact q) (pos 0)) (any-push (λ other. bytes_eq q other) done symbol)
      ∙ elim (alike symbol q) [
        | inl same ↦ subst (λ (x : List ℕ). cond (is_in x done || bytes_eq x symbol) (exact x) (pos 0) ≡ so_far x +ℤ share_in x (Some (symbol, value))) same here
        | inr differ ↦ by (is_in q done) (bytes_eq q symbol) (bytes_eq symbol q) (sym_text q symbol ∙ differ) differ
      ]
    where
      here : cond (is_in symbol done || bytes_eq symbol symbol) (exact symbol) (pos 0) ≡ so_far symbol +ℤ share_in symbol (Some (symbol, value))
      here =
          (λ i. cond (absent i || bytes_eq-itself symbol i) (exact symbol) (pos 0))
          ∙ sym units ∙ sym (+ℤ_idl (units_of value))
          ∙ sym (λ i. cond (absent i) (exact symbol) (pos 0) +ℤ cond (bytes_eq-itself symbol i) (units_of value) (pos 0))

      by : (a b c : Bool) → b ≡ false → c ≡ false → cond (a || b) (exact q) (pos 0) ≡ cond a (exact q) (pos 0) +ℤ cond c (units_of value) (pos 0)
      by true b c e f = sym (ap (λ (t : Bool). exact q +ℤ cond t (units_of value) (pos 0)) f ∙ +ℤ_idr (exact q))
      by false b c e f =
          ap (λ (t : Bool). cond t (exact q) (pos 0)) e
          ∙ sym (ap (λ (t : Bool). pos 0 +ℤ cond t (units_of value) (pos 0)) f ∙ +ℤ_idl (pos 0))

-- ---- the cell so far

pub record Celled (kept : Kept) (account : List ℕ) (days : Span) (sums : Cell) (i : ℕ) : Type 0 where
  pub holds : Holds sums (λ q. cond (is_in q (take i kept.symbols)) (sum_over (standing kept.sums) account q days) (pos 0)) (most_of kept)

pub celled_none : (kept : Kept) (account : List ℕ) (days : Span) (sums : Cell) → sums ≡ [] → Celled kept account days sums 0
celled_none kept account days sums is = record { holds = subst (λ (m : Cell). Holds m (λ q. pos 0) (most_of kept)) (sym is) (holds_none (most_of kept)) }

module _ (kept : Kept) (account : List ℕ) (days : Span) (sums : Cell) (i : ℕ) (symbol : List ℕ) (value : Decimal) (ready : IsReady kept) (lt : i < length kept.symbols) (read : symbol ≡ get_or kept.symbols i symbol)
    (is : IsSum (standing kept.sums) symbol (sum_over (standing kept.sums) account symbol days) value) (few : value.places ≤ 36) (h : Celled kept account days sums i) where
  abbrev all : List ℕ → ℤ
  all q = sum_over (standing kept.sums) account q days

  absent_yet : is_in symbol (take i kept.symbols) ≡ false
  absent_yet = not_before kept.symbols i symbol ready.once lt read

  all_small : (q : List ℕ) → unsigned_abs (all q) < 2 ^ 127 * 10 ^ (36 - most_of kept q)
  all_small q = omega (arith, over-within (standing kept.sums) account q days, ready.sums_fit q)

  within : (q : List ℕ) → places_at q (Some (symbol, value)) ≤ most_of kept q
  within q = elim (alike symbol q) [
    | inl same ↦ subst (λ (x : List ℕ). places_at x (Some (symbol, value)) ≤ most_of kept x) same (subst (λ (b : Bool). cond b value.places 0 ≤ most_of kept symbol) (sym (bytes_eq-itself symbol)) is.places)
    | inr differ ↦ subst (λ (b : Bool). cond b value.places 0 ≤ most_of kept q) (sym differ) (omega arith)
  ]

  pub symbol_fits : ShareFits (Some (symbol, value)) sums
  symbol_fits =
      share_fits sums (λ q. cond (is_in q (take i kept.symbols)) (all q) (pos 0)) (most_of kept) (Some (symbol, value)) h.holds few
      (stays_small all (λ q. 2 ^ 127 * 10 ^ (36 - most_of kept q)) (take i kept.symbols) symbol value absent_yet is.value all_small) within

  pub celled_more : (new : Cell) → new ≡ with_share (Some (symbol, value)) sums → Celled kept account days new (i + 1)
  celled_more new same =
      let before = λ (q : List ℕ). cond (is_in q (take i kept.symbols)) (all q) (pos 0) in
      let more = holds_more sums before (most_of kept) h.holds (Some (symbol, value)) few within in
      let done : take (i + 1) kept.symbols ≡ take i kept.symbols ++ symbol ∷ [] = take_more kept.symbols i symbol lt ∙ ap (λ x. take i kept.symbols ++ x ∷ []) (sym read) in
      record {
        holds = subst (λ (m : Cell). Holds m (λ q. cond (is_in q (take (i + 1) kept.symbols)) (all q) (pos 0)) (most_of kept)) (sym same)
            (told (with_share (Some (symbol, value)) sums) (λ q. before q +ℤ share_in q (Some (symbol, value))) (λ q. cond (is_in q (take (i + 1) kept.symbols)) (all q) (pos 0)) (most_of kept) more
            (λ q. ap (λ (texts : List (List ℕ)). cond (is_in q texts) (all q) (pos 0)) done
            ∙ next_told all (λ q. 2 ^ 127 * 10 ^ (36 - most_of kept q)) (take i kept.symbols) symbol value absent_yet is.value all_small q));
      }

pub celled_done : (kept : Kept) (account : List ℕ) (days : Span) (sums : Cell) (i : ℕ) → take i kept.symbols ≡ kept.symbols → Celled kept account days sums i → HoldsSums sums (summed kept account days) (most_of kept)
celled_done kept account days sums i whole h =
    sums_of sums (summed kept account days) (most_of kept)
    (told sums (λ q. cond (is_in q (take i kept.symbols)) (sum_over (standing kept.sums) account q days) (pos 0)) (summed kept account days) (most_of kept) h.holds
    (λ q. ap (λ (texts : List (List ℕ)). cond (is_in q texts) (sum_over (standing kept.sums) account q days) (pos 0)) (sym whole)))
