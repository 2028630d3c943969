-- Tables of styles keep what the items that stand under numbers say.
use Rattle.std.proofs.Common.{◌≡◌, ℕ, zero, suc, ◌+◌, ◌<◌, ◌≤◌, Bool, true, false, ◌&&◌, not, cond, List, [], ◌∷◌, ◌++◌, map, length, get_or, take, Option, Some, None, unwrap_or, eq-eqb, length-take, refl, sym, ap, ◌∙◌, subst, arith}
use Rattle.std.specs.Prelude.{nat_lt, ◌==◌}
use Rattle.std.specs.declared.cmp.Ordering.{Ordering}
use Rattle.std.specs.declared.cmp.Ordering.TheVariants.{Less, Equal, Greater}
use Rattle.std.specs.Ordering.{nat_cmp, is_eq, eq_by_cmp}
use Rattle.std.specs.Cmp.Lexicographic.{slice_cmp, nat_list_cmp_total}
use Rattle.std.specs.List.{fold, filter}
use Rattle.std.specs.Str.{bytes_eq}
use Rattle.std.specs.FinMap.Entries.{find-put, find_tied}
use Rattle.std.proofs.lemmas.Bool.{false≢true, le-ltb, ltb-true, ltb-false, eqb-true}
use Rattle.std.proofs.lemmas.List.{map-append}
use Rattle.std.proofs.lemmas.List.Elements.{filter-append}
use Rattle.book.specs.declared.item.Item.{Item}
use Rattle.book.specs.declared.item.Placed.{Placed}
use Rattle.book.specs.declared.style.Style.{Style}
use Rattle.book.specs.declared.style.Styles.{Styles}
use Rattle.book.specs.Entries.{held}
use Rattle.book.specs.Style.{of_symbol, said_in, commodity_styles, default_styles, first_class, second_class, style_of, last_else, first_else, default_style}
use Rattle.book.specs.Standing.{Numbered, Table, Keeps, Rise, all_greater, is_free, with_number, without_number, places_from, kept_of, said_under, noted, noted_all, forgotten, styles_only, last_kept, first_kept}
use Rattle.book.specs.Styles.{AreOf, style_in, style_standing, said_standing, after_item}
use Rattle.book.proofs.Entries.{tie-bytes_eq}

equal_from : (r : Ordering) → is_eq r ≡ true → r ≡ Equal
equal_from Less h = absurd (false≢true h)
equal_from Equal h = refl
equal_from Greater h = absurd (false≢true h)

-- what is kept of a symbol after one more style
pub kept-noted : (n : ℕ) (t : Table) (said : List ℕ × Style) (q : List ℕ) → kept_of (noted n t said) q ≡ cond (bytes_eq said.0 q) (with_number n said.1 (kept_of t q)) (kept_of t q)
kept-noted n t said q =
    ap (λ (o : Option (Numbered Style)). unwrap_or o []) (find-put (slice_cmp nat_cmp) nat_list_cmp_total q said.0 (with_number n said.1 (kept_of t said.0)) t)
    ∙ (elim (bytes_eq said.0 q) as (λ b. eq_by_cmp (slice_cmp nat_cmp) q said.0 ≡ b → unwrap_or (cond (eq_by_cmp (slice_cmp nat_cmp) q said.0) (Some (with_number n said.1 (kept_of t said.0))) (held q t)) [] ≡ cond b (with_number n said.1 (kept_of t q)) (kept_of t q)) [
      | true ↦ λ e. ap (λ b. unwrap_or (cond b (Some (with_number n said.1 (kept_of t said.0))) (held q t)) []) e
          ∙ ap (λ (o : Option (Numbered Style)). with_number n said.1 (unwrap_or o [])) (find_tied (slice_cmp nat_cmp) nat_list_cmp_total q said.0 (equal_from (slice_cmp nat_cmp q said.0) e) t)
      | false ↦ λ e. ap (λ b. unwrap_or (cond b (Some (with_number n said.1 (kept_of t said.0))) (held q t)) []) e
    ] (tie-bytes_eq q said.0))

-- some styles that are put under a number
abbrev with_all : ℕ → List Style → Numbered Style → Numbered Style
with_all n ss kept = fold (λ k s. with_number n s k) kept ss

kept-all : (n : ℕ) (t : Table) (said : List (List ℕ × Style)) (q : List ℕ) → kept_of (noted_all n t said) q ≡ with_all n (of_symbol q said) (kept_of t q)
kept-all n t [] q = refl
kept-all n t (s ∷ said) q =
    kept-all n (noted n t s) said q
    ∙ ap (with_all n (of_symbol q said)) (kept-noted n t s q)
    ∙ (elim (bytes_eq s.0 q) as (λ b. with_all n (of_symbol q said) (cond b (with_number n s.1 (kept_of t q)) (kept_of t q)) ≡ with_all n (map (λ (x : List ℕ × Style). x.1) (cond b (s ∷ filter (λ x. bytes_eq x.0 q) said) (filter (λ x. bytes_eq x.0 q) said))) (kept_of t q)) [ true ↦ refl | false ↦ refl ])

-- a lower number or the same is not greater
not_greater : (n m : ℕ) → m ≤ n → nat_lt n m ≡ false
not_greater n m le = le-ltb n m le

-- past one that isn't greater
with-past : {X : Type 0} (n : ℕ) (x : X) (m : ℕ × X) (ms : Numbered X) → nat_lt n m.0 ≡ false → with_number n x (m ∷ ms) ≡ m ∷ with_number n x ms
with-past n x m ms low = ap (λ b. cond (b && all_greater n ms) ((n, x) ∷ m ∷ ms) (m ∷ with_number n x ms)) low

-- before all that are greater
with-before : {X : Type 0} (n : ℕ) (x : X) (ms : Numbered X) → all_greater n ms ≡ true → with_number n x ms ≡ (n, x) ∷ ms
with-before n x [] high = refl
with-before n x (m ∷ ms) high = ap (λ b. cond b ((n, x) ∷ m ∷ ms) (m ∷ with_number n x ms)) high

all-past : (n : ℕ) (ss : List Style) (m : ℕ × Style) (ms : Numbered Style) → nat_lt n m.0 ≡ false → with_all n ss (m ∷ ms) ≡ m ∷ with_all n ss ms
all-past n [] m ms low = refl
all-past n (s ∷ ss) m ms low = ap (with_all n ss) (with-past n s m ms low) ∙ all-past n ss m (with_number n s ms) low

all-before : (n : ℕ) (ss : List Style) (ms : Numbered Style) → all_greater n ms ≡ true → with_all n ss ms ≡ map (λ s. (n, s)) ss ++ ms
all-before n [] ms high = refl
all-before n (s ∷ ss) ms high =
    ap (with_all n ss) (with-before n s ms high)
    ∙ all-past n ss (n, s) ms (not_greater n n (omega arith))
    ∙ ap (λ (t : Numbered Style). (n, s) ∷ t) (all-before n ss ms high)

all-past_said : (n k : ℕ) (ss more : List Style) (ms : Numbered Style) → nat_lt n k ≡ false → with_all n ss (map (λ s. (k, s)) more ++ ms) ≡ map (λ s. (k, s)) more ++ with_all n ss ms
all-past_said n k ss [] ms low = refl
all-past_said n k ss (s ∷ more) ms low =
    all-past n ss (k, s) (map (λ s. (k, s)) more ++ ms) low
    ∙ ap (λ (t : Numbered Style). (k, s) ∷ t) (all-past_said n k ss more ms low)

both : (a b : Bool) → a ≡ true → b ≡ true → (a && b) ≡ true
both true true p q = refl
both true false p q = q
both false b p q = absurd (false≢true p)

first_of : (a b : Bool) → (a && b) ≡ true → a ≡ true
first_of true b h = refl
first_of false b h = h

second_of : (a b : Bool) → (a && b) ≡ true → b ≡ true
second_of true b h = h
second_of false b h = absurd (false≢true h)

greater-map : (n k : ℕ) (ss : List Style) (ms : Numbered Style) → nat_lt n k ≡ true → all_greater n ms ≡ true → all_greater n (map (λ s. (k, s)) ss ++ ms) ≡ true
greater-map n k [] ms lt h = h
greater-map n k (s ∷ ss) ms lt h = both (nat_lt n k) _ lt (greater-map n k ss ms lt h)

-- what items under greater numbers say has greater numbers
greater-said : (saying : Item → List (List ℕ × Style)) (n : ℕ) (es : Numbered Item) (q : List ℕ) → all_greater n es ≡ true → all_greater n (said_under saying es q) ≡ true
greater-said saying n [] q h = refl
greater-said saying n (e ∷ es) q h = greater-map n e.0 (of_symbol q (saying e.1)) (said_under saying es q) (first_of _ _ h) (greater-said saying n es q (second_of _ _ h))

lt_ltb : (a b : ℕ) → a < b → nat_lt a b ≡ true
lt_ltb a b lt = elim (nat_lt a b) as (λ t. nat_lt a b ≡ t → t ≡ true) [ true ↦ λ e. refl | false ↦ λ e. absurd (let le : b ≤ a = ltb-false a b e in omega arith) ] refl

apart_from : {a b : ℕ} → not (a == b) ≡ true → a ≡ b → ⊥
apart_from {a = a} {b = b} h same = false≢true (sym (ap not (eq-eqb a b same)) ∙ h)

-- numbers above a greater one are greater
greater-more : {X : Type 0} (n m : ℕ) (es : Numbered X) → n ≤ m → all_greater m es ≡ true → all_greater n es ≡ true
greater-more n m [] le h = refl
greater-more n m (e ∷ es) le h =
    both (nat_lt n e.0) _ (let lt : m < e.0 = ltb-true m e.0 (first_of _ _ h) in lt_ltb n e.0 (omega arith)) (greater-more n m es le (second_of _ _ h))

-- where numbers rise, what is said of one more item is put in its place
said-with : (saying : Item → List (List ℕ × Style)) (n : ℕ) (i : Item) (es : Numbered Item) (q : List ℕ) → Rise es → with_all n (of_symbol q (saying i)) (said_under saying es q) ≡ said_under saying (with_number n i es) q
said-with saying n i [] q rise = all-before n (of_symbol q (saying i)) [] refl
said-with saying n i (e ∷ es) q rise =
    elim (all_greater n (e ∷ es)) as (λ b. all_greater n (e ∷ es) ≡ b → with_all n (of_symbol q (saying i)) (said_under saying (e ∷ es) q) ≡ said_under saying (cond b ((n, i) ∷ e ∷ es) (e ∷ with_number n i es)) q) [
      | true ↦ λ h. all-before n (of_symbol q (saying i)) (said_under saying (e ∷ es) q) (greater-said saying n (e ∷ es) q h)
      | false ↦ λ h.
          all-past_said n e.0 (of_symbol q (saying i)) (of_symbol q (saying e.1)) (said_under saying es q) (low h)
          ∙ ap (λ (t : Numbered Style). map (λ s. (e.0, s)) (of_symbol q (saying e.1)) ++ t) (said-with saying n i es q rise.1)
    ] refl
  where
    low : all_greater n (e ∷ es) ≡ false → nat_lt n e.0 ≡ false
    low h = elim (nat_lt n e.0) as (λ b. nat_lt n e.0 ≡ b → b ≡ false) [
      | true ↦ λ lt. absurd (false≢true (sym h ∙ both (nat_lt n e.0) _ lt (greater-more n e.0 es (let l : n < e.0 = ltb-true n e.0 lt in omega arith) rise.0)))
      | false ↦ λ lt. refl
    ] refl

-- numbers go on to rise where a free one is put in
rise-with : {X : Type 0} (n : ℕ) (x : X) (es : Numbered X) → Rise es → is_free n es ≡ true → Rise (with_number n x es)
rise-with n x [] rise free = (refl, tt)
rise-with {X = X} n x (e ∷ es) rise free =
    elim (all_greater n (e ∷ es)) as (λ b. all_greater n (e ∷ es) ≡ b → Rise (cond b ((n, x) ∷ e ∷ es) (e ∷ with_number n x es))) [
      | true ↦ λ h. (h, rise)
      | false ↦ λ h. (among es rise.0 (below h), rise-with n x es rise.1 (second_of _ _ free))
    ] refl
  where
    among : (ms : Numbered X) → all_greater e.0 ms ≡ true → nat_lt e.0 n ≡ true → all_greater e.0 (with_number n x ms) ≡ true
    among [] h lt = both (nat_lt e.0 n) true lt refl
    among (m ∷ ms) h lt =
        elim (all_greater n (m ∷ ms)) as (λ b. all_greater e.0 (cond b ((n, x) ∷ m ∷ ms) (m ∷ with_number n x ms)) ≡ true) [
          | true ↦ both (nat_lt e.0 n) _ lt h
          | false ↦ both (nat_lt e.0 m.0) _ (first_of _ _ h) (among ms (second_of _ _ h) lt)
        ]

    below : all_greater n (e ∷ es) ≡ false → nat_lt e.0 n ≡ true
    below h = elim (nat_lt e.0 n) as (λ b. nat_lt e.0 n ≡ b → b ≡ true) [
      | true ↦ λ t. refl
      | false ↦ λ t.
          let ge : n ≤ e.0 = ltb-false e.0 n t in
          let apart : (e.0 ≡ n → ⊥) = λ (same : e.0 ≡ n). apart_from (first_of _ _ free) same in
          let above : n < e.0 = omega arith in
          absurd (false≢true (sym h ∙ both (nat_lt n e.0) _ (lt_ltb n e.0 above) (greater-more n e.0 es (omega arith) rise.0)))
    ] refl

pub AreOf-with : (n : ℕ) (i : Item) (es : Numbered Item) (styles : Styles) → AreOf es styles → is_free n es ≡ true → AreOf (with_number n i es) (after_item n styles i)
AreOf-with n i es styles h free = record {
  rise = rise-with n i es h.rise free;
  commodities = keeps commodity_styles styles.commodities h.commodities;
  defaults = keeps default_styles styles.defaults h.defaults;
  first = keeps first_class styles.first h.first;
  second = keeps second_class styles.second h.second;
}
  where
    keeps : (saying : Item → List (List ℕ × Style)) (t : Table) → Keeps saying es t → Keeps saying (with_number n i es) (noted_all n t (saying i))
    keeps saying t k q = kept-all n t (saying i) q ∙ ap (with_all n (of_symbol q (saying i))) (k q) ∙ said-with saying n i es q h.rise

-- what is kept of a symbol without what stands under a number
pub kept-forgotten : (n : ℕ) (t : Table) (q : List ℕ) → kept_of (forgotten n t) q ≡ without_number n (kept_of t q)
kept-forgotten n [] q = refl
kept-forgotten n (e ∷ t) q =
    elim (eq_by_cmp (slice_cmp nat_cmp) q e.0) as (λ b. unwrap_or (cond b (Some (without_number n e.1)) (held q (forgotten n t))) [] ≡ without_number n (unwrap_or (cond b (Some e.1) (held q t)) [])) [
      | true ↦ refl
      | false ↦ kept-forgotten n t q
    ]

-- some styles under one number
abbrev under : ℕ → List Style → Numbered Style
under k ss = map (λ s. (k, s)) ss

abbrev one_more : ℕ → Style → Numbered Style → Numbered Style
one_more k s more = (k, s) ∷ more

without-said : (n k : ℕ) (ss : List Style) → without_number n (under k ss) ≡ cond (not (k == n)) (under k ss) []
without-said n k [] = nothing (k == n)
  where
    nothing : (b : Bool) → ◌≡◌ {A = Numbered Style} [] (cond (not b) [] [])
    nothing true = refl
    nothing false = refl
without-said n k (s ∷ ss) =
    ap (λ (t : Numbered Style). cond (not (k == n)) (one_more k s t) t) (without-said n k ss)
    ∙ twice (k == n)
  where
    twice : (b : Bool) → cond (not b) (one_more k s (cond (not b) (under k ss) [])) (cond (not b) (under k ss) []) ≡ cond (not b) (under k (s ∷ ss)) []
    twice true = refl
    twice false = refl

pub said-without : (saying : Item → List (List ℕ × Style)) (n : ℕ) (es : Numbered Item) (q : List ℕ) → without_number n (said_under saying es q) ≡ said_under saying (without_number n es) q
said-without saying n [] q = refl
said-without saying n (e ∷ es) q =
    filter-append (λ (x : ℕ × Style). not (x.0 == n)) (map (λ s. (e.0, s)) (of_symbol q (saying e.1))) (said_under saying es q)
    ∙ ap (λ (t : Numbered Style). t ++ without_number n (said_under saying es q)) (without-said n e.0 (of_symbol q (saying e.1)))
    ∙ ap (λ (t : Numbered Style). cond (not (e.0 == n)) (map (λ s. (e.0, s)) (of_symbol q (saying e.1))) [] ++ t) (said-without saying n es q)
    ∙ (elim (e.0 == n) as (λ b. cond (not b) (map (λ s. (e.0, s)) (of_symbol q (saying e.1))) [] ++ said_under saying (without_number n es) q ≡ said_under saying (cond (not b) (e ∷ without_number n es) (without_number n es)) q) [ true ↦ refl | false ↦ refl ])

greater-without : {X : Type 0} (m n : ℕ) (es : Numbered X) → all_greater m es ≡ true → all_greater m (without_number n es) ≡ true
greater-without m n [] h = refl
greater-without m n (e ∷ es) h =
    elim (e.0 == n) as (λ b. all_greater m (cond (not b) (e ∷ without_number n es) (without_number n es)) ≡ true) [
      | true ↦ greater-without m n es (second_of _ _ h)
      | false ↦ both (nat_lt m e.0) _ (first_of _ _ h) (greater-without m n es (second_of _ _ h))
    ]

rise-without : {X : Type 0} (n : ℕ) (es : Numbered X) → Rise es → Rise (without_number n es)
rise-without n [] h = tt
rise-without n (e ∷ es) h =
    elim (e.0 == n) as (λ b. Rise (cond (not b) (e ∷ without_number n es) (without_number n es))) [
      | true ↦ rise-without n es h.1
      | false ↦ (greater-without e.0 n es h.0, rise-without n es h.1)
    ]

pub Keeps-without : (saying : Item → List (List ℕ × Style)) (n : ℕ) (es : Numbered Item) (t new : Table) → new ≡ forgotten n t → Keeps saying es t → Keeps saying (without_number n es) new
Keeps-without saying n es t new is k q = ap (λ (x : Table). kept_of x q) is ∙ kept-forgotten n t q ∙ ap (without_number n) (k q) ∙ said-without saying n es q

pub Rise-without : (n : ℕ) (es : Numbered Item) → Rise es → Rise (without_number n es)
Rise-without n es h = rise-without n es h

-- one more place
places-more : (m i n : ℕ) (items : List Placed) (d : Placed) → n ≡ m + i → i < length items → with_number n (get_or items i d).item (places_from m (take i items)) ≡ places_from m (take (suc i) items)
places-more m i n [] d is lt = absurd (omega arith)
places-more m zero n (p ∷ items) d is lt = let same : n ≡ m = omega arith in ap (λ (k : ℕ). (k, p.item) ∷ []) same
places-more m (suc i) n (p ∷ items) d is lt =
    with-past n (get_or items i d).item (m, p.item) (places_from (suc m) (take i items)) (not_greater n m (omega arith))
    ∙ ap (λ (t : Numbered Item). (m, p.item) ∷ t) (places-more (suc m) i n items d (omega arith) (omega arith))

free-places : (m n : ℕ) (items : List Placed) → m + length items ≤ n → is_free n (places_from m items) ≡ true
free-places m n [] le = refl
free-places m n (p ∷ items) le = both (not (m == n)) _ (apart m n (omega arith)) (free-places (suc m) n items (omega arith))
  where
    apart : (a b : ℕ) → a < b → not (a == b) ≡ true
    apart a b lt = elim (a == b) as (λ t. (a == b) ≡ t → not t ≡ true) [ true ↦ λ e. absurd (let same : a ≡ b = eqb-true a b e in omega arith) | false ↦ λ e. refl ] refl

-- the styles of the items up to the next place
pub AreOf-place : (i : ℕ) (items : List Placed) (d : Placed) (styles : Styles) → i < length items → AreOf (places_from 0 (take i items)) styles → AreOf (places_from 0 (take (suc i) items)) (after_item i styles (get_or items i d).item)
AreOf-place i items d styles lt h =
    subst (λ (es : Numbered Item). AreOf es (after_item i styles (get_or items i d).item)) (places-more 0 i i items d (omega arith) lt)
    (AreOf-with i (get_or items i d).item (places_from 0 (take i items)) styles h (free-places 0 i (take i items) (omega (arith, length-take i items))))

-- what is kept is what the items that stand say
said-standing : (saying : Item → List (List ℕ × Style)) (es : Numbered Item) (q : List ℕ) → styles_only (said_under saying es q) ≡ said_standing saying es q
said-standing saying [] q = refl
said-standing saying (e ∷ es) q =
    map-append (λ (s : ℕ × Style). s.1) (map (λ s. (e.0, s)) (of_symbol q (saying e.1))) (said_under saying es q)
    ∙ ap (λ (t : List Style). t ++ styles_only (said_under saying es q)) (only e.0 (of_symbol q (saying e.1)))
    ∙ ap (λ (t : List Style). of_symbol q (saying e.1) ++ t) (said-standing saying es q)
  where
    only : (n : ℕ) (ss : List Style) → styles_only (map (λ s. (n, s)) ss) ≡ ss
    only n [] = refl
    only n (s ∷ ss) = ap (λ (t : List Style). s ∷ t) (only n ss)

-- the styles of the items that stand are as they are defined over them
pub style_in-standing : (es : Numbered Item) (styles : Styles) → AreOf es styles → (q : List ℕ) → style_in styles q ≡ style_standing es q
style_in-standing es styles h q =
    let said = λ (saying : Item → List (List ℕ × Style)) (t : Table) (k : Keeps saying es t). ap styles_only (k q) ∙ said-standing saying es q in
    let a = said commodity_styles styles.commodities h.commodities in
    let b = said default_styles styles.defaults h.defaults in
    let c = said first_class styles.first h.first in
    let d = said second_class styles.second h.second in
    cc (a, b, c, d)

-- what is said under places is what is said in the text
said-places : (saying : Item → List (List ℕ × Style)) (m : ℕ) (items : List Placed) (q : List ℕ) → said_standing saying (places_from m items) q ≡ said_in saying items q
said-places saying m [] q = refl
said-places saying m (p ∷ items) q = ap (λ (t : List Style). of_symbol q (saying p.item) ++ t) (said-places saying (suc m) items q)

-- the styles of a text's items are those of the text
pub style_in-places : (items : List Placed) (styles : Styles) → AreOf (places_from 0 items) styles → (q : List ℕ) → style_in styles q ≡ style_of items q
style_in-places items styles h q =
    let a = said-places commodity_styles 0 items q in
    let b = said-places default_styles 0 items q in
    let c = said-places first_class 0 items q in
    let d = said-places second_class 0 items q in
    style_in-standing (places_from 0 items) styles h q ∙ cc (a, b, c, d)

last-found : (ms : Numbered Style) (other : Style) → last_else (styles_only ms) other ≡ unwrap_or (last_kept ms) other
last-found [] other = refl
last-found (m ∷ []) other = refl
last-found (m ∷ k ∷ ms) other = last-found (k ∷ ms) m.1 ∙ found k ms m.1 other
  where
    found : (k : ℕ × Style) (ms : Numbered Style) (a b : Style) → unwrap_or (last_kept (k ∷ ms)) a ≡ unwrap_or (last_kept (k ∷ ms)) b
    found k [] a b = refl
    found k (m ∷ ms) a b = found m ms a b

first-found : (ms : Numbered Style) (other : Style) → first_else (styles_only ms) other ≡ unwrap_or (first_kept ms) other
first-found [] other = refl
first-found (m ∷ ms) other = refl

-- the style that is found in the tables, one after another
pub style_in-found : (styles : Styles) (q : List ℕ) → style_in styles q ≡ unwrap_or (last_kept (kept_of styles.commodities q)) (unwrap_or (last_kept (kept_of styles.defaults q)) (unwrap_or (first_kept (kept_of styles.first q)) (unwrap_or (first_kept (kept_of styles.second q)) default_style)))
style_in-found styles q =
    let a = last-found (kept_of styles.commodities q) in
    let b = last-found (kept_of styles.defaults q) in
    let c = first-found (kept_of styles.first q) in
    let d = first-found (kept_of styles.second q) default_style in
    a _ ∙ ap (λ (s : Style). unwrap_or (last_kept (kept_of styles.commodities q)) s) (b _ ∙ ap (λ (s : Style). unwrap_or (last_kept (kept_of styles.defaults q)) s) (c _ ∙ ap (λ (s : Style). unwrap_or (first_kept (kept_of styles.first q)) s) d))

some_found : (o : Option Style) (s other : Style) → o ≡ Some s → unwrap_or o other ≡ s
some_found o s other is = ap (λ (o : Option Style). unwrap_or o other) is

none_found : (o : Option Style) (other : Style) → o ≡ None → unwrap_or o other ≡ other
none_found o other is = ap (λ (o : Option Style). unwrap_or o other) is

module _ (styles : Styles) (q : List ℕ) (s : Style) where
  pub by_commodity : last_kept (kept_of styles.commodities q) ≡ Some s → s ≡ style_in styles q
  by_commodity a = sym (style_in-found styles q ∙ some_found _ s _ a)

  pub by_default : last_kept (kept_of styles.commodities q) ≡ None → last_kept (kept_of styles.defaults q) ≡ Some s → s ≡ style_in styles q
  by_default a b = sym (style_in-found styles q ∙ none_found _ _ a ∙ some_found _ s _ b)

  pub by_first : last_kept (kept_of styles.commodities q) ≡ None → last_kept (kept_of styles.defaults q) ≡ None → first_kept (kept_of styles.first q) ≡ Some s → s ≡ style_in styles q
  by_first a b d = sym (style_in-found styles q ∙ none_found _ _ a ∙ none_found _ _ b ∙ some_found _ s _ d)

  pub by_second : last_kept (kept_of styles.commodities q) ≡ None → last_kept (kept_of styles.defaults q) ≡ None → first_kept (kept_of styles.first q) ≡ None → first_kept (kept_of styles.second q) ≡ Some s → s ≡ style_in styles q
  by_second a b d e = sym (style_in-found styles q ∙ none_found _ _ a ∙ none_found _ _ b ∙ none_found _ _ d ∙ some_found _ s _ e)

  pub by_none : last_kept (kept_of styles.commodities q) ≡ None → last_kept (kept_of styles.defaults q) ≡ None → first_kept (kept_of styles.first q) ≡ None → first_kept (kept_of styles.second q) ≡ None → s ≡ default_style → s ≡ style_in styles q
  by_none a b d e is = is ∙ sym (style_in-found styles q ∙ none_found _ _ a ∙ none_found _ _ b ∙ none_found _ _ d ∙ none_found _ _ e)
