-- The absolute amounts of each symbol, with a bound on their sums.
use Rattle.std.proofs.Common.{◌≡◌, ℕ, pos, ◌+◌, ◌-◌, ◌*◌, ◌^◌, ◌<◌, ◌≤◌, min, max, unsigned_abs, Bool, true, false, nat_le, cond, ◌||◌, List, [], ◌∷◌, ◌++◌, map, find, Option, Some, None, unwrap_or, is_some, inl, inr, T, refl, sym, ap, subst, ◌∙◌, arith}
use Rattle.std.specs.Option.{option_map}
use Rattle.std.specs.Ordering.{nat_cmp, eq_by_cmp}
use Rattle.std.specs.Cmp.Lexicographic.{slice_cmp, nat_list_cmp_total}
use Rattle.std.specs.List.{flat_map, list_any}
use Rattle.std.specs.Str.{bytes_eq}
use Rattle.std.specs.FinMap.Entries as entries
use Rattle.std.proofs.lemmas.Bool.{cases_order, false≢true, or_parts}
use Rattle.std.proofs.lemmas.Bool.Decides.{nat_tests}
use Rattle.std.proofs.lemmas.Grind.{flat_map-append}
use Rattle.std.proofs.lemmas.List.{append-nil}
use Rattle.std.proofs.lemmas.Int.{unsigned_abs-mul}
use Rattle.std.proofs.lemmas.Nat.{pow-add}
use Rattle.std.proofs.Math.Nat.{add-mul, mul-le-mul_left, mul-lt-mul_of_pos_right, mul_assoc}
use Rattle.hl_num.specs.Decimal.{Decimal, units_of}
use Rattle.hl_num.proofs.RoundingLemmas.{pow_ten_positive}
use Rattle.book.proofs.Entries.{text_ties, tie-bytes_eq}
use Rattle.book.proofs.Order.{AllFound, mapped_option, contains-each_once, sorted-each_once, sorted-mapped, find-mapped, find-made}
use Rattle.report_cells.specs.Taken.{Shared, Taken, share_in, symbol_of, symbols_in}
use Rattle.report_cells.specs.Bounds.{turnover_in, places_at, places_in, is_out, first_out, TurnoverFits}
use Rattle.report_cells.specs.Kept.{HasFewPlaces}
use Rattle.report_cells.specs.Turned.{scaled, turned, is_full, Turnovers, turned_with}
use Rattle.report_cells.proofs.Choosing.{turnover-append, places-append}
use Rattle.report_cells.proofs.Holding.{alike, bytes_eq-itself}

-- ---- one symbol

-- a number of decimals and a sum in units of it, or 2 ^ 127 where that is less
pub record IsTurnover (t : ℕ × ℕ) (turnover places : ℕ) : Type 0 where
  pub sum : ℕ
  pub exact : sum * 10 ^ (36 - places) ≡ turnover
  pub most : t.0 ≡ places
  pub kept : t.1 ≡ min (2 ^ 127) sum
  pub few : places ≤ 36

more_times : (n k : ℕ) → 1 ≤ k → n ≤ n * k
more_times n k h = omega (arith, mul-le-mul_left n h)

min_times : (l n k : ℕ) → 1 ≤ k → min l (min l n * k) ≡ min l (n * k)
min_times l n k h = elim (cases_order n l) [
  | inl same ↦ ap (λ m. min l (m * k)) (omega (arith, same))
  | inr (inl below) ↦ ap (λ m. min l (m * k)) (omega (arith, below))
  | inr (inr above) ↦
      let least : min l n ≡ l = omega (arith, above) in
      ap (λ m. min l (m * k)) least ∙ omega (arith, above, more_times l k h, more_times n k h)
]

min_sum : (l a b : ℕ) → min l (min l a + min l b) ≡ min l (a + b)
min_sum l a b = omega arith

-- more decimals, and then those that are left
more_places : (n a p : ℕ) → a ≤ p → p ≤ 36 → (n * 10 ^ (p - a)) * 10 ^ (36 - p) ≡ n * 10 ^ (36 - a)
more_places n a p le few =
    let is : (p - a) + (36 - p) ≡ 36 - a = omega arith in
    mul_assoc n (10 ^ (p - a)) (10 ^ (36 - p)) ∙ ap (λ k. n * k) (sym (pow-add 10 (p - a) (36 - p)) ∙ ap (λ e. 10 ^ e) is)

pub turned-is : (t : ℕ × ℕ) (turnover places : ℕ) (d : Decimal) → IsTurnover t turnover places → d.places ≤ 36 → IsTurnover (turned t d) (turnover + unsigned_abs (units_of d)) (max places d.places)
turned-is t turnover places d h few =
    let p : ℕ = max places d.places in
    let old : ℕ = h.sum * 10 ^ (max places d.places - places) in
    let more : ℕ = unsigned_abs d.mantissa * 10 ^ (max places d.places - d.places) in
    let places_in_all : max places d.places ≤ 36 = omega (arith, h.few) in
    let of_old : old * 10 ^ (36 - max places d.places) ≡ turnover = more_places h.sum places (max places d.places) (omega arith) places_in_all ∙ h.exact in
    let of_more : more * 10 ^ (36 - max places d.places) ≡ unsigned_abs (units_of d) =
    more_places (unsigned_abs d.mantissa) d.places (max places d.places) (omega arith) places_in_all ∙ sym (unsigned_abs-mul d.mantissa (pos (10 ^ (36 - d.places)))) in
    let by_places : (turned t d).1 ≡ min (2 ^ 127) (scaled t.1 (max places d.places - places) + scaled (unsigned_abs d.mantissa) (max places d.places - d.places)) =
    ap (λ x. min (2 ^ 127) (scaled t.1 (max x d.places - x) + scaled (unsigned_abs d.mantissa) (max x d.places - d.places))) h.most in
    let by_sum : scaled t.1 (max places d.places - places) ≡ min (2 ^ 127) old =
    ap (λ x. scaled x (max places d.places - places)) h.kept ∙ min_times (2 ^ 127) h.sum (10 ^ (max places d.places - places)) (pow_ten_positive (max places d.places - places)) in
    record {
      sum = old + more;
      exact = add-mul old more (10 ^ (36 - max places d.places)) ∙ omega (arith, of_old, of_more);
      most = ap (λ x. max x d.places) h.most;
      kept = by_places ∙ ap (λ x. min (2 ^ 127) (x + scaled (unsigned_abs d.mantissa) (max places d.places - d.places))) by_sum ∙ min_sum (2 ^ 127) old more;
      few = places_in_all;
    }

-- the bound is reached in units of any size alike
full_times : (l n k : ℕ) → 1 ≤ k → nat_le l (min l n) ≡ nat_le (l * k) (n * k)
full_times l n k h = elim (cases_order n l) [
  | inl same ↦
      let products : n * k ≡ l * k = ap (λ x. x * k) same in
      grind (arith, nat_tests, same, products)
  | inr (inl below) ↦
      let products : n * k < l * k = mul-lt-mul_of_pos_right below h in
      grind (arith, nat_tests, below, products)
  | inr (inr above) ↦
      let products : l * k < n * k = mul-lt-mul_of_pos_right above h in
      grind (arith, nat_tests, above, products)
]

pub full-is : (t : ℕ × ℕ) (turnover places : ℕ) → IsTurnover t turnover places → is_full t ≡ nat_le (2 ^ 127 * 10 ^ (36 - places)) turnover
full-is t turnover places h =
    ap (nat_le (2 ^ 127)) h.kept
    ∙ full_times (2 ^ 127) h.sum (10 ^ (36 - places)) (pow_ten_positive (36 - places))
    ∙ ap (nat_le (2 ^ 127 * 10 ^ (36 - places))) h.exact

size_as : (t : ℕ × ℕ) (a b p r : ℕ) → IsTurnover t a p → b ≡ a → r ≡ p → IsTurnover t b r
size_as t a b p r h same agree = subst (λ x. IsTurnover t x r) (sym same) (subst (λ y. IsTurnover t a y) (sym agree) h)

-- ---- all symbols

-- an amount in a symbol is there
abbrev pub has_symbol : List ℕ → List Taken → Bool
has_symbol q ts = list_any (eq_by_cmp (slice_cmp nat_cmp) q) (flat_map (λ t. symbol_of t.amount) ts)

any-append : (p : List ℕ → Bool) (xs ys : List (List ℕ)) → list_any p (xs ++ ys) ≡ (list_any p xs || list_any p ys)
any-append p [] ys = refl
any-append p (x ∷ xs) ys = elim (p x) as (λ b. (b || list_any p (xs ++ ys)) ≡ ((b || list_any p xs) || list_any p ys)) [ true ↦ refl | false ↦ any-append p xs ys ]

symbol-push : (q : List ℕ) (ts : List Taken) (t : Taken) → has_symbol q (ts ++ t ∷ []) ≡ (has_symbol q ts || list_any (eq_by_cmp (slice_cmp nat_cmp) q) (symbol_of t.amount))
symbol-push q ts t =
    ap (list_any (eq_by_cmp (slice_cmp nat_cmp) q)) (flat_map-append (λ (t : Taken). symbol_of t.amount) ts (t ∷ []))
    ∙ any-append (eq_by_cmp (slice_cmp nat_cmp) q) (flat_map (λ (t : Taken). symbol_of t.amount) ts) (symbol_of t.amount ++ [])
    ∙ ap (λ (ys : List (List ℕ)). has_symbol q ts || list_any (eq_by_cmp (slice_cmp nat_cmp) q) ys) (append-nil (symbol_of t.amount))

-- what is kept for a symbol of that turnover
abbrev pub HoldsSize : Option (ℕ × ℕ) → ℕ → ℕ → Bool → Type 0
HoldsSize None turnover places has = has ≡ false
HoldsSize (Some t) turnover places has = IsTurnover t turnover places × (has ≡ true)

pub record Sized (kept : Turnovers) (ts : List Taken) : Type 0 where
  pub rising : T (entries.is_sorted (slice_cmp nat_cmp) kept)
  pub each : (q : List ℕ) → HoldsSize (entries.find (slice_cmp nat_cmp) q kept) (turnover_in q ts) (places_in q ts) (has_symbol q ts)

pub sized_none : Sized [] []
sized_none = record { rising = tt; each = λ q. refl }

-- no amount, no turnover
record Nothing (q : List ℕ) (ts : List Taken) : Type 0 where
  turnover : turnover_in q ts ≡ 0
  places : places_in q ts ≡ 0

no_amount : (q : List ℕ) (amount : Option Shared) (more : List (List ℕ)) → list_any (eq_by_cmp (slice_cmp nat_cmp) q) (symbol_of amount ++ more) ≡ false → (unsigned_abs (share_in q amount) ≡ 0) × (places_at q amount ≡ 0) × (list_any (eq_by_cmp (slice_cmp nat_cmp) q) more ≡ false)
no_amount q None more h = (refl, refl, h)
no_amount q (Some a) more h =
    let parts = or_parts (eq_by_cmp (slice_cmp nat_cmp) q a.0) (list_any (eq_by_cmp (slice_cmp nat_cmp) q) more) h in
    let differ = sym (tie-bytes_eq q a.0) ∙ parts.0 in
    (ap (λ (b : Bool). unsigned_abs (cond b (units_of a.1) (pos 0))) differ, ap (λ (b : Bool). cond b a.1.places 0) differ, parts.1)

nothing_in : (q : List ℕ) (ts : List Taken) → has_symbol q ts ≡ false → Nothing q ts
nothing_in q [] h = record { turnover = refl; places = refl }
nothing_in q (t ∷ ts) h =
    let here = no_amount q t.amount (flat_map (λ (t : Taken). symbol_of t.amount) ts) h in
    let rest = nothing_in q ts here.2 in
    record { turnover = omega (arith, here.0, rest.turnover); places = omega (arith, here.1, rest.places) }

pub started : (o : Option (ℕ × ℕ)) (q : List ℕ) (ts : List Taken) → HoldsSize o (turnover_in q ts) (places_in q ts) (has_symbol q ts) → IsTurnover (unwrap_or o (0, 0)) (turnover_in q ts) (places_in q ts)
started None q ts h =
    let none = nothing_in q ts h in
    size_as (0, 0) 0 (turnover_in q ts) 0 (places_in q ts) (record { sum = 0; exact = refl; most = refl; kept = refl; few = omega arith }) none.turnover none.places
started (Some t) q ts h = h.0

or_true : (a b : Bool) → b ≡ true → (a || b) ≡ true
or_true true b e = refl
or_true false b e = e

or_false : (a b : Bool) → b ≡ false → (a || b) ≡ a
or_false true b e = refl
or_false false b e = e

holds_again : (o : Option (ℕ × ℕ)) (a b p r : ℕ) (c d : Bool) → HoldsSize o a p c → b ≡ a → r ≡ p → d ≡ c → HoldsSize o b r d
holds_again None a b p r c d h same agree has = has ∙ h
holds_again (Some t) a b p r c d h same agree has = (size_as t a b p r h.0 same agree, has ∙ h.1)

module _ (kept : Turnovers) (ts : List Taken) (h : Sized kept ts) where
  -- after one more amount
  more_sized : (amount : Option Shared) → HasFewPlaces amount → (q : List ℕ) → HoldsSize (entries.find (slice_cmp nat_cmp) q (turned_with amount kept)) (turnover_in q ts + unsigned_abs (share_in q amount)) (max (places_in q ts) (places_at q amount)) (has_symbol q ts || list_any (eq_by_cmp (slice_cmp nat_cmp) q) (symbol_of amount))
  more_sized None few q = holds_again (entries.find (slice_cmp nat_cmp) q kept) (turnover_in q ts) _ (places_in q ts) _ (has_symbol q ts) _ (h.each q) (omega arith) (omega arith) (or_false (has_symbol q ts) false refl)
  more_sized (Some a) few q =
      let new = turned (unwrap_or (entries.find (slice_cmp nat_cmp) a.0 kept) (0, 0)) a.1 in
      let found : (q : List ℕ) (b : Bool) → bytes_eq a.0 q ≡ b → entries.find (slice_cmp nat_cmp) q (turned_with (Some a) kept) ≡ cond b (Some new) (entries.find (slice_cmp nat_cmp) q kept) = λ q b e.
      entries.find-put (slice_cmp nat_cmp) nat_list_cmp_total q a.0 new kept ∙ ap (λ (b : Bool). cond b (Some new) (entries.find (slice_cmp nat_cmp) q kept)) (tie-bytes_eq q a.0 ∙ e) in
      elim (alike a.0 q) [
        | inl same ↦
            let itself = bytes_eq-itself a.0 in
            let old = started (entries.find (slice_cmp nat_cmp) a.0 kept) a.0 ts (h.each a.0) in
            let grown = turned-is (unwrap_or (entries.find (slice_cmp nat_cmp) a.0 kept) (0, 0)) (turnover_in a.0 ts) (places_in a.0 ts) a.1 old few in
            let told = size_as new _ (turnover_in a.0 ts + unsigned_abs (share_in a.0 (Some a))) _ (max (places_in a.0 ts) (places_at a.0 (Some a))) grown
            (ap (λ (b : Bool). turnover_in a.0 ts + unsigned_abs (cond b (units_of a.1) (pos 0))) itself)
            (ap (λ (b : Bool). max (places_in a.0 ts) (cond b a.1.places 0)) itself) in
            let has : (has_symbol a.0 ts || (eq_by_cmp (slice_cmp nat_cmp) a.0 a.0 || false)) ≡ true =
            or_true (has_symbol a.0 ts) (eq_by_cmp (slice_cmp nat_cmp) a.0 a.0 || false) (ap (λ (b : Bool). b || false) (tie-bytes_eq a.0 a.0 ∙ itself)) in
            subst (λ (x : List ℕ). HoldsSize (entries.find (slice_cmp nat_cmp) x (turned_with (Some a) kept)) (turnover_in x ts + unsigned_abs (share_in x (Some a))) (max (places_in x ts) (places_at x (Some a))) (has_symbol x ts || list_any (eq_by_cmp (slice_cmp nat_cmp) x) (symbol_of (Some a)))) same
            (subst (λ (o : Option (ℕ × ℕ)). HoldsSize o (turnover_in a.0 ts + unsigned_abs (share_in a.0 (Some a))) (max (places_in a.0 ts) (places_at a.0 (Some a))) (has_symbol a.0 ts || (eq_by_cmp (slice_cmp nat_cmp) a.0 a.0 || false))) (sym (found a.0 true itself)) (told, has))
        | inr differ ↦
            subst (λ (o : Option (ℕ × ℕ)). HoldsSize o (turnover_in q ts + unsigned_abs (share_in q (Some a))) (max (places_in q ts) (places_at q (Some a))) (has_symbol q ts || (eq_by_cmp (slice_cmp nat_cmp) q a.0 || false))) (sym (found q false differ))
            (holds_again (entries.find (slice_cmp nat_cmp) q kept) (turnover_in q ts) _ (places_in q ts) _ (has_symbol q ts) _ (h.each q)
            (ap (λ (b : Bool). turnover_in q ts + unsigned_abs (cond b (units_of a.1) (pos 0))) differ ∙ omega arith)
            (ap (λ (b : Bool). max (places_in q ts) (cond b a.1.places 0)) differ ∙ omega arith)
            (or_false (has_symbol q ts) (eq_by_cmp (slice_cmp nat_cmp) q a.0 || false) (ap (λ (b : Bool). b || false) (tie-bytes_eq q a.0 ∙ differ))))
      ]

  rises : (amount : Option Shared) → T (entries.is_sorted (slice_cmp nat_cmp) (turned_with amount kept))
  rises None = h.rising
  rises (Some a) = entries.is_sorted-put (slice_cmp nat_cmp) nat_list_cmp_total a.0 (turned (unwrap_or (entries.find (slice_cmp nat_cmp) a.0 kept) (0, 0)) a.1) kept h.rising

  -- one more taking
  pub sized_more : (t : Taken) → HasFewPlaces t.amount → Sized (turned_with t.amount kept) (ts ++ t ∷ [])
  sized_more t few = record {
    rising = rises t.amount;
    each = λ q. holds_again (entries.find (slice_cmp nat_cmp) q (turned_with t.amount kept)) _ _ _ _ _ _ (more_sized t.amount few q)
        (turnover-append q ts (t ∷ []) ∙ omega arith) (places-append q ts (t ∷ []) ∙ omega arith) (symbol-push q ts t);
  }

  -- ---- which are too large

  out-is : (o : Option (ℕ × ℕ)) (q : List ℕ) → HoldsSize o (turnover_in q ts) (places_in q ts) (has_symbol q ts) → mapped_option is_full o ≡ cond (has_symbol q ts) (Some (is_out ts q)) None
  out-is None q found = sym (ap (λ (b : Bool). cond b (Some (is_out ts q)) None) found)
  out-is (Some t) q found = ap (λ (b : Bool). Some b) (full-is t (turnover_in q ts) (places_in q ts) found.0) ∙ sym (ap (λ (b : Bool). cond b (Some (is_out ts q)) None) found.1)

  -- each symbol with whether it is too large
  marked : map {B = List ℕ × Bool} (λ (e : List ℕ × (ℕ × ℕ)). (e.0, is_full e.1)) kept ≡ map (λ (symbol : List ℕ). (symbol, is_out ts symbol)) (symbols_in ts)
  marked =
      let keys = flat_map (λ (t : Taken). symbol_of t.amount) ts in
      entries.same_entries (slice_cmp nat_cmp) nat_list_cmp_total text_ties (map {B = List ℕ × Bool} (λ (e : List ℕ × (ℕ × ℕ)). (e.0, is_full e.1)) kept) (map {B = List ℕ × Bool} (λ (symbol : List ℕ). (symbol, is_out ts symbol)) (symbols_in ts))
      (sorted-mapped (slice_cmp nat_cmp) is_full kept h.rising)
      (sorted-each_once text_ties (is_out ts) nat_list_cmp_total keys)
      (λ q.
      find-mapped (slice_cmp nat_cmp) is_full kept q
      ∙ out-is (entries.find (slice_cmp nat_cmp) q kept) q (h.each q)
      ∙ sym (find-made text_ties (is_out ts) (symbols_in ts) q ∙ ap (λ (b : Bool). cond b (Some (is_out ts q)) None) (contains-each_once text_ties keys q)))

first_marked : (es : Turnovers) → option_map (λ (e : List ℕ × Bool). e.0) (find (λ (e : List ℕ × Bool). e.1) (map (λ (e : List ℕ × (ℕ × ℕ)). (e.0, is_full e.1)) es)) ≡ option_map (λ (e : List ℕ × (ℕ × ℕ)). e.0) (find (λ (e : List ℕ × (ℕ × ℕ)). is_full e.1) es)
first_marked [] = refl
first_marked (e ∷ es) =
    elim (is_full e.1) as (λ b. option_map (λ (e : List ℕ × Bool). e.0) (cond b (Some (e.0, b)) (find (λ (e : List ℕ × Bool). e.1) (map (λ (e : List ℕ × (ℕ × ℕ)). (e.0, is_full e.1)) es))) ≡ option_map (λ (e : List ℕ × (ℕ × ℕ)). e.0) (cond b (Some e) (find (λ (e : List ℕ × (ℕ × ℕ)). is_full e.1) es))) [ true ↦ refl | false ↦ first_marked es ]

first_passing : (p : List ℕ → Bool) (ks : List (List ℕ)) → option_map (λ (e : List ℕ × Bool). e.0) (find (λ (e : List ℕ × Bool). e.1) (map (λ k. (k, p k)) ks)) ≡ find p ks
first_passing p [] = refl
first_passing p (k ∷ ks) =
    elim (p k) as (λ b. option_map (λ (e : List ℕ × Bool). e.0) (cond b (Some (k, b)) (find (λ (e : List ℕ × Bool). e.1) (map (λ k. (k, p k)) ks))) ≡ cond b (Some k) (find p ks)) [ true ↦ refl | false ↦ first_passing p ks ]

none_full : (es : Turnovers) (q : List ℕ) → option_map (λ (e : List ℕ × (ℕ × ℕ)). e.0) (find (λ (e : List ℕ × (ℕ × ℕ)). is_full e.1) es) ≡ None → AllFound (λ (t : ℕ × ℕ). is_full t ≡ false) (entries.find (slice_cmp nat_cmp) q es)
none_full [] q h = tt
none_full (e ∷ es) q h =
    elim (is_full e.1) as (λ b. is_full e.1 ≡ b → option_map (λ (e : List ℕ × (ℕ × ℕ)). e.0) (cond b (Some e) (find (λ (e : List ℕ × (ℕ × ℕ)). is_full e.1) es)) ≡ None → AllFound (λ (t : ℕ × ℕ). is_full t ≡ false) (cond (eq_by_cmp (slice_cmp nat_cmp) q e.0) (Some e.1) (entries.find (slice_cmp nat_cmp) q es))) [
      | true ↦ λ t g. absurd (false≢true (sym (ap is_some g)))
      | false ↦ λ t g. elim (eq_by_cmp (slice_cmp nat_cmp) q e.0) as (λ c. AllFound (λ (t : ℕ × ℕ). is_full t ≡ false) (cond c (Some e.1) (entries.find (slice_cmp nat_cmp) q es))) [ true ↦ t | false ↦ none_full es q g ]
    ] refl h

not_le : (a b : ℕ) → nat_le a b ≡ false → b < a
not_le a b h = grind (arith, nat_tests, h)

module _ (kept : Turnovers) (ts : List Taken) (h : Sized kept ts) where
  -- the least symbol that is too large
  pub first-is : first_out ts ≡ option_map (λ (e : List ℕ × (ℕ × ℕ)). e.0) (find (λ (e : List ℕ × (ℕ × ℕ)). is_full e.1) kept)
  first-is =
      sym (first_passing (is_out ts) (symbols_in ts))
      ∙ ap (λ (es : List (List ℕ × Bool)). option_map (λ (e : List ℕ × Bool). e.0) (find (λ (e : List ℕ × Bool). e.1) es)) (sym (marked kept ts h))
      ∙ first_marked kept

  found_small : (o : Option (ℕ × ℕ)) (q : List ℕ) → HoldsSize o (turnover_in q ts) (places_in q ts) (has_symbol q ts) → AllFound (λ (t : ℕ × ℕ). is_full t ≡ false) o → turnover_in q ts < 2 ^ 127 * 10 ^ (36 - places_in q ts)
  found_small None q found small =
      let none = nothing_in q ts found in
      let all : 2 ^ 127 * 10 ^ (36 - places_in q ts) ≡ 2 ^ 127 * 10 ^ 36 = ap (λ p. 2 ^ 127 * 10 ^ (36 - p)) none.places in
      omega (arith, none.turnover, all)
  found_small (Some t) q found small = not_le (2 ^ 127 * 10 ^ (36 - places_in q ts)) (turnover_in q ts) (sym (full-is t (turnover_in q ts) (places_in q ts) found.0) ∙ small)

  -- where none is, all sums stay below the bound
  pub small_from : option_map (λ (e : List ℕ × (ℕ × ℕ)). e.0) (find (λ (e : List ℕ × (ℕ × ℕ)). is_full e.1) kept) ≡ None → TurnoverFits ts
  small_from none q = found_small (entries.find (slice_cmp nat_cmp) q kept) q (h.each q) (none_full kept q none)

-- ---- a number of the same decimals

pub scaled_once : (n : ℕ) → min n (2 ^ 127) ≡ scaled n 0
scaled_once n = omega arith
