-- Whether all that is kept fits.
use Rattle.std.proofs.Common.{◌≡◌, ℕ, zero, suc, ◌+◌, ◌*◌, ◌^◌, ◌<◌, ◌≤◌, nat_lt, Bool, true, false, cond, List, [], ◌∷◌, map, length, fold, Option, Some, None, Vec, String, Global, Ordering, Less, Equal, Greater, is_eq, nat_cmp, string_bytes, string_cmp, vec_len, inl, inr, refl, sym, ap, subst, ◌∙◌, arith, lt-ltb, ltb-true}
use Rattle.std.specs.Option.{option_map_or}
use Rattle.std.specs.List.{AllByRecursion, AllZip, list_all}
use Rattle.std.specs.List.Sorted.{IsStrictlySortedBy}
use Rattle.std.specs.Cmp.Lexicographic.{slice_cmp, nat_list_cmp_total}
use Rattle.std.specs.Map.{keys_of, lookup}
use Rattle.std.specs.BTreeMap.{IsOrdered, get_by_text, is_at}
use Rattle.std.proofs.lemmas.Bool.{cases_order}
use Rattle.hl_num.specs.Decimal.{Decimal}
use Rattle.book.specs.Mixed.{plus}
use Rattle.book.proofs.Entries.{tie-bytes_eq}
use Rattle.entry_balance.specs.Tally.{is_within, no_sum, numbers_of, turnover_fits}
use Rattle.entry_balance.specs.Values.{Value, absolute}
use Rattle.entry_balance.proofs.Named.{both_true, left_true, right_true}
use Rattle.entry_balance.proofs.Turnover.{AllAtMost, bytes_eq-itself, fits-from_each, total_within}
use Rattle.kept_turnover.specs.Moved.{AreFew, count_of, in_units, sum_of, whole, with_places}
use Rattle.kept_turnover.specs.Keeping.{AreOf, Symbols, is_fit, no_part, part_at, part_of, parts_of, sum_in}
use Rattle.kept_turnover.specs.declared.part.Part.{Part}
use Rattle.kept_turnover.proofs.Holding.{part-count, part-sum}
use Rattle.kept_turnover.proofs.Placing.{counts, part_past, sums}
use Rattle.kept_turnover.proofs.Units.{few_numbers, none_past, within-is}

-- ---- one symbol

-- numbers of decimals at which nothing is change nothing
whole_past : (c s : ℕ → ℕ) (m : ℕ) → ((n : ℕ) → m ≤ n → c n ≡ 0) → (k : ℕ) → m ≤ k → whole c s k ≡ whole c s m
whole_past c s m none zero h = let e : zero ≡ m = omega (arith, h) in ap (λ (n : ℕ). whole c s n) e
whole_past c s m none (suc k) h = elim (cases_order m (suc k)) [
  | inl same ↦ ap (λ (n : ℕ). whole c s n) (sym same)
  | inr (inl below) ↦
      let least : m ≤ k = omega (arith, below) in
      ap (λ (n : ℕ). cond (nat_lt 0 n) (in_units s (suc k)) (whole c s k)) (none k least) ∙ whole_past c s m none k least
  | inr (inr above) ↦ absurd (omega (arith, h, above))
]

-- nothing is kept, and it fits
fit_none : is_fit [] ≡ true
fit_none = lt-ltb 0 (2 ^ 127) (omega arith)

module _ (t : Symbols) (vs : List Value) (h : AreOf t vs) (s : List ℕ) where
  abbrev ds : List Decimal
  ds = numbers_of s vs

  abbrev ps : List Part
  ps = parts_of t s

  count_is : (n : ℕ) → counts ps n ≡ count_of ds n
  count_is n = ap (λ (p : Part). p.count) (h.is s n) ∙ part-count (with_places n ds)

  sum_is : (n : ℕ) → sums ps n ≡ sum_of ds n
  sum_is n = ap sum_in (h.is s n) ∙ part-sum (with_places n ds)

  whole_same : (k : ℕ) → whole (counts ps) (sums ps) k ≡ whole (count_of ds) (sum_of ds) k
  whole_same k = λ i. whole (λ n. count_is n i) (λ n. sum_is n i) k

  none_behind : (n : ℕ) → length ps ≤ n → count_of ds n ≡ 0
  none_behind n past = sym (count_is n) ∙ ap (λ (p : Part). p.count) (part_past ps n past)

  none_above : (n : ℕ) → 37 ≤ n → count_of ds n ≡ 0
  none_above n past = none_past 36 n ds (few_numbers s vs h.few) (omega (arith, past))

  whole_at : (k : ℕ) → ((n : ℕ) → k ≤ n → count_of ds n ≡ 0) → (l : ℕ) → ((n : ℕ) → l ≤ n → count_of ds n ≡ 0) → whole (count_of ds) (sum_of ds) k ≡ whole (count_of ds) (sum_of ds) l
  whole_at k none l none_too = elim (cases_order k l) [
    | inl same ↦ ap (λ (n : ℕ). whole (count_of ds) (sum_of ds) n) same
    | inr (inl below) ↦ sym (whole_past (count_of ds) (sum_of ds) k none l (omega (arith, below)))
    | inr (inr above) ↦ whole_past (count_of ds) (sum_of ds) l none_too k (omega (arith, above))
  ]

  pub fit-is : is_fit ps ≡ is_within (fold plus no_sum (map absolute ds))
  fit-is =
      ap (λ (n : ℕ). nat_lt n (2 ^ 127)) (whole_same (length ps) ∙ whole_at (length ps) none_behind 37 none_above) ∙ sym (within-is s vs h.few)

-- ---- all symbols

abbrev pub Entry : Type 0
Entry = String Global × Vec Part Global

abbrev text_at : List ℕ → String Global → Ordering
text_at q k = slice_cmp nat_cmp q (string_bytes k)

abbrev held : List ℕ → List Entry → List Part
held q es = option_map_or (λ (v : Vec Part Global). v.items) (lookup (is_at (text_at q)) es) []

abbrev pub all_fits : List Entry → Bool
all_fits es = list_all (λ (e : Entry). is_fit e.1.items) es

all_held : (es : List Entry) (q : List ℕ) → all_fits es ≡ true → is_fit (held q es) ≡ true
all_held [] q h = fit_none
all_held (e ∷ es) q h =
    elim (is_eq (text_at q e.0)) as (λ b. is_fit (option_map_or (λ (v : Vec Part Global). v.items) (cond b (Some e.1) (lookup (is_at (text_at q)) es)) []) ≡ true) [
      | true ↦ left_true (is_fit e.1.items) (all_fits es) h
      | false ↦ all_held es q (right_true (is_fit e.1.items) (all_fits es) h)
    ]

ties : (k : List ℕ) → is_eq (slice_cmp nat_cmp k k) ≡ true
ties k = tie-bytes_eq k k ∙ bytes_eq-itself k

-- a key stands once
none_again : (es : List Entry) (q : List ℕ) (k : String Global) → text_at q k ≡ Equal → AllByRecursion (λ y. string_cmp k y ≡ Less) (keys_of es) → lookup (is_at (text_at q)) es ≡ None
none_again [] q k same h = refl
none_again (e ∷ es) q k same h =
    let less : text_at q e.0 ≡ Less = nat_list_cmp_total.congr q (string_bytes k) (string_bytes e.0) same ∙ h.0 in
    ap (λ (o : Ordering). cond (is_eq o) (Some e.1) (lookup (is_at (text_at q)) es)) less ∙ none_again es q k same h.1

-- behind the first entry each is found as before
fit_behind : (e : Entry) (es : List Entry) (q : List ℕ) → AllByRecursion (λ y. string_cmp e.0 y ≡ Less) (keys_of es) → is_fit (held q (e ∷ es)) ≡ true → is_fit (held q es) ≡ true
fit_behind e es q above h =
    elim (text_at q e.0) as (λ o. text_at q e.0 ≡ o → is_fit (option_map_or (λ (v : Vec Part Global). v.items) (cond (is_eq o) (Some e.1) (lookup (is_at (text_at q)) es)) []) ≡ true → is_fit (held q es) ≡ true) [
      | Less ↦ λ is k. k
      | Equal ↦ λ is k. ap (λ (o : Option (Vec Part Global)). is_fit (option_map_or (λ (v : Vec Part Global). v.items) o [])) (none_again es q e.0 is above) ∙ fit_none
      | Greater ↦ λ is k. k
    ] refl h

fit_first : (e : Entry) (es : List Entry) → is_fit (held (string_bytes e.0) (e ∷ es)) ≡ true → is_fit e.1.items ≡ true
fit_first e es h =
    ap (λ (b : Bool). is_fit (option_map_or (λ (v : Vec Part Global). v.items) (cond b (Some e.1) (lookup (is_at (text_at (string_bytes e.0))) es)) [])) (sym (ties (string_bytes e.0))) ∙ h

all_found : (es : List Entry) → IsStrictlySortedBy string_cmp (keys_of es) → ((q : List ℕ) → is_fit (held q es) ≡ true) → all_fits es ≡ true
unfolding IsStrictlySortedBy
all_found [] sorted h = refl
all_found (e ∷ es) sorted h =
    both_true (is_fit e.1.items) (all_fits es) (fit_first e es (h (string_bytes e.0)))
    (all_found es sorted.1 (λ q. fit_behind e es q sorted.0 (h q)))

same_tests : (a b : Bool) → (a ≡ true → b ≡ true) → (b ≡ true → a ≡ true) → a ≡ b
same_tests true b f g = sym (f refl)
same_tests false true f g = g refl
same_tests false false f g = refl

pub fits-is : (t : Symbols) (vs : List Value) → IsOrdered string_cmp t → AreOf t vs → list_all (λ (e : Entry). is_fit e.1.items) t.entries ≡ turnover_fits vs
fits-is t vs ordered h =
    same_tests (all_fits t.entries) (turnover_fits vs)
    (λ all. fits-from_each vs (λ s. sym (fit-is t vs h s) ∙ all_held t.entries s all))
    (λ fits. all_found t.entries ordered (λ s. fit-is t vs h s ∙ total_within s vs fits))

-- ---- copies

items_same : (xs ys : List Part) → AllZip (λ (x y : Part). y ≡ x) xs ys → ys ≡ xs
items_same [] [] h = refl
items_same [] (y ∷ ys) h = absurd h
items_same (x ∷ xs) [] h = absurd h
items_same (x ∷ xs) (y ∷ ys) h = λ i. h.0 i ∷ items_same xs ys h.1 i

abbrev AreClones : List Entry → List Entry → Type 0
AreClones es fs = AllZip (λ (p q : Entry). (string_bytes q.0 ≡ string_bytes p.0) × (AllZip (λ (x y : Part). y ≡ x) p.1.items q.1.items × (vec_len q.1 ≡ vec_len p.1))) es fs

held_first : (q : List ℕ) (e f : Entry) (es fs : List Entry) → AllZip (λ (x y : Part). y ≡ x) e.1.items f.1.items → held q fs ≡ held q es → (b : Bool)
    → option_map_or (λ (v : Vec Part Global). v.items) (cond b (Some f.1) (lookup (is_at (text_at q)) fs)) [] ≡ option_map_or (λ (v : Vec Part Global). v.items) (cond b (Some e.1) (lookup (is_at (text_at q)) es)) []
held_first q e f es fs items rest true = items_same e.1.items f.1.items items
held_first q e f es fs items rest false = rest

held_same : (q : List ℕ) (es fs : List Entry) → AreClones es fs → held q fs ≡ held q es
held_same q [] [] h = refl
held_same q [] (f ∷ fs) h = absurd h
held_same q (e ∷ es) [] h = absurd h
held_same q (e ∷ es) (f ∷ fs) h =
    held_first q e f es fs h.0.1.0 (held_same q es fs h.1) (is_eq (text_at q f.0)) ∙ ap (λ (k : List ℕ). option_map_or (λ (v : Vec Part Global). v.items) (cond (is_eq (slice_cmp nat_cmp q k)) (Some e.1) (lookup (is_at (text_at q)) es)) []) h.0.0

pub copy_of : (old new : Symbols) → AreClones old.entries new.entries → (vs : List Value) → AreOf old vs → AreOf new vs
copy_of old new h vs is = record {
  is = λ s n. ap (λ (ps : List Part). part_at ps n) (held_same s old.entries new.entries h) ∙ is.is s n;
  few = is.few;
}
