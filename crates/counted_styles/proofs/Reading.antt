-- The style of a symbol by what is kept of it.
use Rattle.std.proofs.Common.{◌≡◌, ℕ, ◌+◌, ◌<◌, ◌≤◌, ◌==◌, max, Bool, true, false, ◌&&◌, cond, List, [], ◌∷◌, ◌++◌, map, find, Option, Some, None, refl, sym, ap, subst, ◌∙◌, arith}
use Rattle.std.specs.Prelude.{nat_lt}
use Rattle.std.specs.Ordering.{is_gt, is_lt}
use Rattle.std.specs.Str.{bytes_eq}
use Rattle.std.proofs.lemmas.Bool.{false≢true, ltb-false}
use Rattle.std.proofs.lemmas.Bool.Decides.{nat_tests}
use Rattle.shared_set.specs.Sorted.{Rises, find_last, or_other}
use Rattle.book.specs.declared.directive.Directive.{Directive}
use Rattle.book.specs.declared.directive.Directive.TheVariants as directive
use Rattle.book.specs.declared.item.Item.{Item}
use Rattle.book.specs.declared.item.Item.TheVariants as item
use Rattle.book.specs.declared.style.Style.{Style}
use Rattle.book.specs.Standing.{Numbered, Rise, all_greater}
use Rattle.book.specs.Style.{commodity_said, commodity_styles, default_said, default_styles, first_class, first_else, last_else, most_places, of_symbol, second_class, default_style}
use Rattle.book.specs.Styles.{said_standing, style_standing}
use Rattle.counted_styles.specs.declared.mark.Mark.{Mark}
use Rattle.counted_styles.specs.declared.styles.CountedStyles.{CountedStyles}
use Rattle.counted_styles.specs.Kept.{AreOf, IsKept, at_number, chosen, first_style, how_many, most_said}
use Rattle.counted_styles.specs.Marks.{count_at, count_of, edge_cmp, first_of, first_with, last_in, mark_at, mark_cmp, style_at, style_of, with_places}
use Rattle.counted_styles.proofs.Ends.{IsLeast, IsMost, least-is, most-is, own, style-own}
use Rattle.counted_styles.proofs.Keys.{eq-of, eq-self}

some≢none : (s : Style) → ◌≡◌ {A = Option Style} (Some s) None → ⊥
some≢none s e = cc

none≢some : (s : Style) → ◌≡◌ {A = Option Style} None (Some s) → ⊥
none≢some s e = cc

first_part : (a b : Bool) → (a && b) ≡ true → a ≡ true
first_part true b h = refl
first_part false b h = h

second_part : (a b : Bool) → (a && b) ≡ true → b ≡ true
second_part true b h = h
second_part false b h = absurd (false≢true h)

-- the last of some styles
abbrev pub last_style : List Style → Option Style
last_style [] = None
last_style (s ∷ ss) = or_other (last_style ss) (Some s)

or-none : (o : Option Style) → or_other o None ≡ o
or-none None = refl
or-none (Some x) = refl

or-assoc : (a b c : Option Style) → or_other (or_other a b) c ≡ or_other a (or_other b c)
or-assoc None b c = refl
or-assoc (Some x) b c = refl

last-append : (xs ys : List Style) → last_style (xs ++ ys) ≡ or_other (last_style ys) (last_style xs)
last-append [] ys = sym (or-none (last_style ys))
last-append (x ∷ xs) ys = ap (λ (o : Option Style). or_other o (Some x)) (last-append xs ys) ∙ or-assoc (last_style ys) (last_style xs) (Some x)

append-nil : (ss : List Style) → ss ++ [] ≡ ss
append-nil [] = refl
append-nil (s ∷ ss) = ap (λ (l : List Style). s ∷ l) (append-nil ss)

no-first : (xs ys : List Style) → first_style (xs ++ ys) ≡ None → xs ≡ []
no-first [] ys h = refl
no-first (x ∷ xs) ys h = absurd (some≢none x h)

-- no number up to one that is less than all stands
pub at-below : (n k : ℕ) (es : Numbered Item) → n ≤ k → all_greater k es ≡ true → at_number n es ≡ []
at-below n k [] le h = refl
at-below n k (e ∷ es) le h =
    ap (λ (b : Bool). cond b (e ∷ at_number n es) (at_number n es)) (differ n k e.0 le (first_part (nat_lt k e.0) (all_greater k es) h))
    ∙ at-below n k es le (second_part (nat_lt k e.0) (all_greater k es) h)
  where
    differ : (n k m : ℕ) → n ≤ k → nat_lt k m ≡ true → (m == n) ≡ false
    differ n k m le h = grind (arith, nat_tests)

module _ (saying : Item → List (List ℕ × Style)) (q : List ℕ) where
  -- what stands under the first number
  at-first : (e : ℕ × Item) (es : Numbered Item) → at_number e.0 (e ∷ es) ≡ e ∷ at_number e.0 es
  at-first e es = ap (λ (b : Bool). cond b (e ∷ at_number e.0 es) (at_number e.0 es)) (eq-self e.0)

  pub none-said : (es : Numbered Item) → ((n : ℕ) → first_style (said_standing saying (at_number n es) q) ≡ None) → said_standing saying es q ≡ []
  none-said [] f = refl
  none-said (e ∷ es) f =
      let nothing : of_symbol q (saying e.1) ≡ [] = no-first (of_symbol q (saying e.1)) (said_standing saying (at_number e.0 es) q) (ap (λ (l : Numbered Item). first_style (said_standing saying l q)) (sym (at-first e es)) ∙ f e.0) in
      (λ i. nothing i ++ none-said es (λ n. rest nothing n) i)
    where
      rest : of_symbol q (saying e.1) ≡ [] → (n : ℕ) → first_style (said_standing saying (at_number n es) q) ≡ None
      rest nothing n =
          elim (e.0 == n) as (λ b. first_style (said_standing saying (cond b (e ∷ at_number n es) (at_number n es)) q) ≡ None → first_style (said_standing saying (at_number n es) q) ≡ None) [
            | true ↦ λ k. ap (λ (l : List Style). first_style (l ++ said_standing saying (at_number n es) q)) (sym nothing) ∙ k
            | false ↦ λ k. k
          ] (f n)

  -- what is said under a number, past one that says nothing
  past-nothing : (e : ℕ × Item) (es : Numbered Item) (n : ℕ) → of_symbol q (saying e.1) ≡ [] → first_style (said_standing saying (at_number n (e ∷ es)) q) ≡ first_style (said_standing saying (at_number n es) q)
  past-nothing e es n nothing =
      elim (e.0 == n) as (λ b. first_style (said_standing saying (cond b (e ∷ at_number n es) (at_number n es)) q) ≡ first_style (said_standing saying (at_number n es) q)) [
        | true ↦ ap (λ (l : List Style). first_style (l ++ said_standing saying (at_number n es) q)) nothing
        | false ↦ refl
      ]

  -- the first that is said of a symbol is said under the least number
  first-said : (es : Numbered Item) (at : ℕ) (s : Style) → Rise es → first_style (said_standing saying (at_number at es) q) ≡ Some s → ((n : ℕ) → nat_lt n at ≡ true → first_style (said_standing saying (at_number n es) q) ≡ None) → first_style (said_standing saying es q) ≡ Some s
  first-said [] at s rise h f = absurd (none≢some s h)
  first-said (e ∷ es) at s rise h f =
      elim (of_symbol q (saying e.1)) as (λ l. of_symbol q (saying e.1) ≡ l → first_style (l ++ said_standing saying es q) ≡ Some s) [
        | [] ↦ λ nothing. first-said es at s rise.1 (sym (past-nothing e es at nothing) ∙ h) (λ n lt. sym (past-nothing e es n nothing) ∙ f n lt)
        | x ∷ xs ↦ λ is. sym (own-first is) ∙ here is (nat_lt e.0 at) (nat_lt at e.0) refl refl
      ] refl
    where
      own-first : {x : Style} {xs : List Style} → of_symbol q (saying e.1) ≡ x ∷ xs → first_style (said_standing saying (at_number e.0 (e ∷ es)) q) ≡ Some x
      own-first {x = x} {xs = xs} is =
          ap (λ (l : Numbered Item). first_style (said_standing saying l q)) (at-first e es)
          ∙ ap (λ (l : List Style). first_style (l ++ said_standing saying (at_number e.0 es) q)) is

      same : (n k : ℕ) → nat_lt n k ≡ false → nat_lt k n ≡ false → n ≡ k
      same n k h g = grind (arith, nat_tests)

      up-to : (n k : ℕ) → nat_lt n k ≡ true → n ≤ k
      up-to n k h = grind (arith, nat_tests)

      differ : (n k : ℕ) → nat_lt k n ≡ true → (n == k) ≡ false
      differ n k h = grind (arith, nat_tests)

      here : {x : Style} {xs : List Style} → of_symbol q (saying e.1) ≡ x ∷ xs → (a b : Bool) → nat_lt e.0 at ≡ a → nat_lt at e.0 ≡ b → first_style (said_standing saying (at_number e.0 (e ∷ es)) q) ≡ Some s
      here {x = x} {xs = xs} is true b p r = absurd (some≢none x (sym (own-first is) ∙ f e.0 p))
      here is false true p r =
          absurd (none≢some s (sym (ap (λ (b : Bool). first_style (said_standing saying (cond b (e ∷ at_number at es) (at_number at es)) q)) (differ e.0 at r)
          ∙ ap (λ (l : Numbered Item). first_style (said_standing saying l q)) (at-below at e.0 es (up-to at e.0 r) rise.0)) ∙ h))
      here is false false p r = ap (λ (n : ℕ). first_style (said_standing saying (at_number n (e ∷ es)) q)) (same e.0 at p r) ∙ h

  -- where an item says at most one thing of a symbol, the last that is said is said under the greatest number
  last-said : ((i : Item) → last_style (of_symbol q (saying i)) ≡ first_style (of_symbol q (saying i))) → (es : Numbered Item) (at : ℕ) (s : Style) → Rise es → first_style (said_standing saying (at_number at es) q) ≡ Some s → ((n : ℕ) → nat_lt at n ≡ true → first_style (said_standing saying (at_number n es) q) ≡ None) → last_style (said_standing saying es q) ≡ Some s
  last-said one [] at s rise h f = absurd (none≢some s h)
  last-said one (e ∷ es) at s rise h f =
      elim (e.0 == at) as (λ b. (e.0 == at) ≡ b → first_style (said_standing saying (cond b (e ∷ at_number at es) (at_number at es)) q) ≡ Some s → last_style (of_symbol q (saying e.1) ++ said_standing saying es q) ≡ Some s) [
        | true ↦ λ r k. own-last (eq-of e.0 at r) k
        | false ↦ λ r k.
            last-append (of_symbol q (saying e.1)) (said_standing saying es q)
            ∙ ap (λ (o : Option Style). or_other o (last_style (of_symbol q (saying e.1)))) (last-said one es at s rise.1 k (λ n lt. later n lt))
      ] refl h
    where
      later : (n : ℕ) → nat_lt at n ≡ true → first_style (said_standing saying (at_number n es) q) ≡ None
      later n lt =
          elim (e.0 == n) as (λ b. (e.0 == n) ≡ b → first_style (said_standing saying (cond b (e ∷ at_number n es) (at_number n es)) q) ≡ None → first_style (said_standing saying (at_number n es) q) ≡ None) [
            | true ↦ λ r k. ap (λ (l : Numbered Item). first_style (said_standing saying l q)) (at-below n e.0 es (no-more e.0 n r) rise.0)
            | false ↦ λ r k. k
          ] refl (f n lt)
        where
          no-more : (m n : ℕ) → (m == n) ≡ true → n ≤ m
          no-more m n r = grind (arith, nat_tests)

      own-last : e.0 ≡ at → first_style (of_symbol q (saying e.1) ++ said_standing saying (at_number at es) q) ≡ Some s → last_style (of_symbol q (saying e.1) ++ said_standing saying es q) ≡ Some s
      own-last same k =
          let none : said_standing saying es q ≡ [] = none-said es (λ n. others n (nat_lt at n) refl) in
          let alone : said_standing saying (at_number at es) q ≡ [] = ap (λ (l : Numbered Item). said_standing saying l q) (at-below at e.0 es (equal-up e.0 at same) rise.0) in
          ap (λ (l : List Style). last_style (of_symbol q (saying e.1) ++ l)) none
          ∙ ap last_style (append-nil (of_symbol q (saying e.1)))
          ∙ one e.1
          ∙ ap first_style (sym (append-nil (of_symbol q (saying e.1))))
          ∙ ap (λ (l : List Style). first_style (of_symbol q (saying e.1) ++ l)) (sym alone)
          ∙ k
        where
          equal-up : (m n : ℕ) → m ≡ n → n ≤ m
          equal-up m n r = omega arith

          low : (n : ℕ) → nat_lt at n ≡ false → n ≤ e.0
          low n r = let le : n ≤ at = ltb-false at n r in subst (λ (m : ℕ). n ≤ m) (sym same) le

          others : (n : ℕ) (b : Bool) → nat_lt at n ≡ b → first_style (said_standing saying (at_number n es) q) ≡ None
          others n true r = later n r
          others n false r = ap (λ (l : Numbered Item). first_style (said_standing saying l q)) (at-below n e.0 es (low n r) rise.0)

-- ---- decimals

most-up-to : (m : ℕ) (ss : List Style) → ((d : ℕ) → nat_lt m d ≡ true → how_many d ss ≡ 0) → most_places ss ≤ m
most-up-to m [] f = omega arith
most-up-to m (s ∷ ss) f =
    let rest = most-up-to m ss (λ d lt. fewer (cond (s.places == d) 1 0) (how_many d ss) (f d lt)) in
    let first = within s.places (nat_lt m s.places) refl in
    omega arith
  where
    fewer : (a b : ℕ) → a + b ≡ 0 → b ≡ 0
    fewer a b h = omega arith

    some : (b : ℕ) → 1 + b ≡ 0 → ⊥
    some b h = omega arith

    within : (d : ℕ) (b : Bool) → nat_lt m s.places ≡ b → s.places ≤ m
    within d true r = absurd (some (how_many s.places ss) (ap (λ (b : Bool). cond b 1 0 + how_many s.places ss) (sym (eq-self s.places)) ∙ f s.places r))
    within d false r = ltb-false m s.places r

most-from : (m : ℕ) (ss : List Style) → 0 < how_many m ss → m ≤ most_places ss
most-from m [] h = absurd (never h)
  where
    never : 0 < 0 → ⊥
    never h = omega arith
most-from m (s ∷ ss) h = by (λ k. most-from m ss k) (s.places == m) refl h
  where
    by : (0 < how_many m ss → m ≤ most_places ss) → (b : Bool) → (s.places == m) ≡ b → 0 < cond b 1 0 + how_many m ss → m ≤ max s.places (most_places ss)
    by rest true r k = let same : s.places ≡ m = eq-of s.places m r in omega arith
    by rest false r k =
        let more : 0 < how_many m ss = omega arith in
        let up : m ≤ most_places ss = rest more in
        omega arith

most-is-at : (m : ℕ) (ss : List Style) → 0 < how_many m ss → ((d : ℕ) → nat_lt m d ≡ true → how_many d ss ≡ 0) → most_places ss ≡ m
most-is-at m ss h f =
    let low : most_places ss ≤ m = most-up-to m ss f in
    let high : m ≤ most_places ss = most-from m ss h in
    omega arith

-- ---- a class

-- the first of some styles, with the greatest number of decimals
abbrev pub kept_of : List Style → Option Style
kept_of [] = None
kept_of (s ∷ ss) = Some (record { shape = s.shape; places = most_places (s ∷ ss) })

abbrev pub places_of : Option Style → Option ℕ
places_of None = None
places_of (Some s) = Some s.places

none-styled : (q : List ℕ) (n : ℕ) (ws : List Mark) → mark_at q n ws ≡ None → style_at q n ws ≡ None
none-styled q n ws h = ap style_of h

module _ (saying : Item → List (List ℕ × Style)) (es : Numbered Item) (heads counts : List Mark) (kept : IsKept saying es heads counts) (rise : Rise es) (q : List ℕ) where
  first-styled : (o : Option Mark) → IsLeast q heads o → style_of o ≡ first_style (said_standing saying es q)
  first-styled None h = sym (ap first_style (none-said saying q es (λ n. sym (kept.heads q n) ∙ none-styled q n heads (h n))))
  first-styled (Some m) h = sym (first-said saying q es m.at m.style rise (sym (kept.heads q m.at) ∙ ap style_of h.0) (λ n lt. sym (kept.heads q n) ∙ none-styled q n heads (h.1 n lt)))

  last-styled : ((i : Item) → last_style (of_symbol q (saying i)) ≡ first_style (of_symbol q (saying i))) → (o : Option Mark) → IsMost q heads o → style_of o ≡ last_style (said_standing saying es q)
  last-styled one None h = sym (ap last_style (none-said saying q es (λ n. sym (kept.heads q n) ∙ none-styled q n heads (h n))))
  last-styled one (Some m) h = sym (last-said saying q one es m.at m.style rise (sym (kept.heads q m.at) ∙ ap style_of h.0) (λ n lt. sym (kept.heads q n) ∙ none-styled q n heads (h.1 n lt)))

  none-counted : (d : ℕ) → mark_at q d counts ≡ None → how_many d (said_standing saying es q) ≡ 0
  none-counted d h = sym (kept.counts q d) ∙ ap count_of h

  -- with a first style, the last count has the greatest number of decimals
  most-styled : (s : Style) (o : Option Mark) → IsMost q counts o → first_style (said_standing saying es q) ≡ Some s → with_places s (style_of o) ≡ kept_of (said_standing saying es q)
  most-styled s o h e = by (said_standing saying es q) refl o h
    where
      inner : (a b : Style) → Some a ≡ Some b → a ≡ b
      inner a b e = cc

      by : (l : List Style) → said_standing saying es q ≡ l → (o : Option Mark) → IsMost q counts o → with_places s (style_of o) ≡ kept_of l
      by [] k o h = absurd (none≢some s (sym (ap first_style k) ∙ e))
      by (x ∷ xs) k None h = absurd (never (how_many x.places xs) (ap (λ (b : Bool). cond b 1 0 + how_many x.places xs) (sym (eq-self x.places)) ∙ ap (how_many x.places) (sym k) ∙ none-counted x.places (h x.places)))
        where
          never : (n : ℕ) → 1 + n ≡ 0 → ⊥
          never n h = omega arith
      by (x ∷ xs) k (Some m) h =
          let head : x ≡ s = inner x s (sym (ap first_style k) ∙ e) in
          let there : count_at q m.at counts ≡ m.count = ap count_of h.0 in
          let count : how_many m.at (said_standing saying es q) ≡ m.count = sym (kept.counts q m.at) ∙ there in
          let above : 0 < m.count = kept.some q m.at m h.0 in
          let more : 0 < how_many m.at (said_standing saying es q) = subst (λ (n : ℕ). 0 < n) (sym count) above in
          let most : most_places (said_standing saying es q) ≡ m.at = most-is-at m.at (said_standing saying es q) more (λ d lt. none-counted d (h.1 d lt)) in
          let places : m.style.places ≡ most_places (x ∷ xs) = kept.decimals q m.at m h.0 ∙ sym most ∙ ap most_places k in
          λ i. Some (record { shape = (sym head i).shape; places = places i })

  first-class : Rises mark_cmp heads → Rises mark_cmp counts → first_of q heads counts ≡ kept_of (said_standing saying es q)
  first-class rh rc =
      let least = first-styled (own q (find (λ m. is_lt (edge_cmp q false m)) heads)) (least-is q heads rh) in
      (λ i. first_with ((style-own q (find (λ m. is_lt (edge_cmp q false m)) heads) ∙ least) i) (style-own q (find_last (λ m. is_gt (edge_cmp q true m)) counts) i))
      ∙ by (first_style (said_standing saying es q)) refl
    where
      nothing : (l : List Style) → first_style l ≡ None → None ≡ kept_of l
      nothing [] h = refl
      nothing (x ∷ xs) h = absurd (some≢none x h)

      by : (o : Option Style) → first_style (said_standing saying es q) ≡ o → first_with (first_style (said_standing saying es q)) (style_of (own q (find_last (λ m. is_gt (edge_cmp q true m)) counts))) ≡ kept_of (said_standing saying es q)
      by None e = ap (λ (o : Option Style). first_with o (style_of (own q (find_last (λ m. is_gt (edge_cmp q true m)) counts)))) e ∙ nothing (said_standing saying es q) e
      by (Some s) e =
          ap (λ (o : Option Style). first_with o (style_of (own q (find_last (λ m. is_gt (edge_cmp q true m)) counts)))) e
          ∙ most-styled s (own q (find_last (λ m. is_gt (edge_cmp q true m)) counts)) (most-is q counts rc) e

  decimals-styled : (o : Option Mark) → IsMost q counts o → places_of (style_of o) ≡ most_said (said_standing saying es q)
  decimals-styled o h = by (said_standing saying es q) refl o h
    where
      never : (n : ℕ) → 1 + n ≡ 0 → ⊥
      never n h = omega arith

      nothing : (n : ℕ) → 0 < n → n ≡ 0 → ⊥
      nothing n lt e = omega arith

      by : (l : List Style) → said_standing saying es q ≡ l → (o : Option Mark) → IsMost q counts o → places_of (style_of o) ≡ most_said l
      by [] k None h = refl
      by [] k (Some m) h = absurd (nothing m.count (kept.some q m.at m h.0) (sym (ap count_of h.0) ∙ kept.counts q m.at ∙ ap (how_many m.at) k))
      by (x ∷ xs) k None h = absurd (never (how_many x.places xs) (ap (λ (b : Bool). cond b 1 0 + how_many x.places xs) (sym (eq-self x.places)) ∙ ap (how_many x.places) (sym k) ∙ none-counted x.places (h x.places)))
      by (x ∷ xs) k (Some m) h =
          let there : count_at q m.at counts ≡ m.count = ap count_of h.0 in
          let count : how_many m.at (said_standing saying es q) ≡ m.count = sym (kept.counts q m.at) ∙ there in
          let above : 0 < m.count = kept.some q m.at m h.0 in
          let more : 0 < how_many m.at (said_standing saying es q) = subst (λ (n : ℕ). 0 < n) (sym count) above in
          let most : most_places (said_standing saying es q) ≡ m.at = most-is-at m.at (said_standing saying es q) more (λ d lt. none-counted d (h.1 d lt)) in
          let places : m.style.places ≡ most_places (x ∷ xs) = kept.decimals q m.at m h.0 ∙ sym most ∙ ap most_places k in
          λ i. Some (places i)

  -- the last count has the greatest number of decimals
  decimals-class : Rises mark_cmp counts → places_of (last_in q counts) ≡ most_said (said_standing saying es q)
  decimals-class rc =
      ap places_of (style-own q (find_last (λ m. is_gt (edge_cmp q true m)) counts))
      ∙ decimals-styled (own q (find_last (λ m. is_gt (edge_cmp q true m)) counts)) (most-is q counts rc)

  last-class : Rises mark_cmp heads → ((i : Item) → last_style (of_symbol q (saying i)) ≡ first_style (of_symbol q (saying i))) → last_in q heads ≡ last_style (said_standing saying es q)
  last-class rh one =
      style-own q (find_last (λ m. is_gt (edge_cmp q true m)) heads)
      ∙ last-styled one (own q (find_last (λ m. is_gt (edge_cmp q true m)) heads)) (most-is q heads rh)

-- ---- a directive says at most one thing of a symbol

one-said : (q : List ℕ) (x : List ℕ × Style) → last_style (of_symbol q (x ∷ [])) ≡ first_style (of_symbol q (x ∷ []))
one-said q x =
    elim (bytes_eq x.0 q) as (λ b. last_style (map (λ (y : List ℕ × Style). y.1) (cond b (x ∷ []) [])) ≡ first_style (map (λ (y : List ℕ × Style). y.1) (cond b (x ∷ []) []))) [ true ↦ refl | false ↦ refl ]

commodity-one : (q : List ℕ) (d : Directive) → last_style (of_symbol q (commodity_said d)) ≡ first_style (of_symbol q (commodity_said d))
commodity-one q (directive.Commodity symbol (Some a)) = one-said q _
commodity-one q _ = refl

default-one : (q : List ℕ) (d : Directive) → last_style (of_symbol q (default_said d)) ≡ first_style (of_symbol q (default_said d))
default-one q (directive.Default a) = one-said q _
default-one q _ = refl

commodities-one : (q : List ℕ) (i : Item) → last_style (of_symbol q (commodity_styles i)) ≡ first_style (of_symbol q (commodity_styles i))
commodities-one q (item.Directive d) = commodity-one q d
commodities-one q _ = refl

defaults-one : (q : List ℕ) (i : Item) → last_style (of_symbol q (default_styles i)) ≡ first_style (of_symbol q (default_styles i))
defaults-one q (item.Directive d) = default-one q d
defaults-one q _ = refl

-- ---- the style

chosen-last : (ss : List Style) (other : Style) → chosen (last_style ss) other ≡ last_else ss other
chosen-last [] other = refl
chosen-last (s ∷ ss) other = either (last_style ss) ∙ chosen-last ss s
  where
    either : (o : Option Style) → chosen (or_other o (Some s)) other ≡ chosen o s
    either None = refl
    either (Some x) = refl

chosen-first : (ss : List Style) (other : Style) → chosen (kept_of ss) other ≡ first_else ss other
chosen-first [] other = refl
chosen-first (s ∷ ss) other = refl

-- each list that is kept rises
pub record AllRise (styles : CountedStyles) : Type 0 where
  pub commodities : Rises mark_cmp styles.commodities.heads
  pub defaults : Rises mark_cmp styles.defaults.heads
  pub first : Rises mark_cmp styles.first.heads
  pub first_counts : Rises mark_cmp styles.first.counts
  pub second : Rises mark_cmp styles.second.heads
  pub second_counts : Rises mark_cmp styles.second.counts

pub style-is : (es : Numbered Item) (styles : CountedStyles) (q : List ℕ) → AllRise styles → AreOf es styles → chosen (last_in q styles.commodities.heads) (chosen (last_in q styles.defaults.heads) (chosen (first_of q styles.first.heads styles.first.counts) (chosen (first_of q styles.second.heads styles.second.counts) default_style))) ≡ style_standing es q
style-is es styles q up are =
    let c = last-class commodity_styles es styles.commodities.heads styles.commodities.counts are.commodities are.rise q up.commodities (commodities-one q) in
    let d = last-class default_styles es styles.defaults.heads styles.defaults.counts are.defaults are.rise q up.defaults (defaults-one q) in
    let f = first-class first_class es styles.first.heads styles.first.counts are.first are.rise q up.first up.first_counts in
    let s = first-class second_class es styles.second.heads styles.second.counts are.second are.rise q up.second up.second_counts in
    (λ i. chosen (c i) (chosen (d i) (chosen (f i) (chosen (s i) default_style))))
    ∙ (λ i. chosen (last_style (said_standing commodity_styles es q)) (chosen (last_style (said_standing default_styles es q)) (chosen (kept_of (said_standing first_class es q)) (chosen-first (said_standing second_class es q) default_style i))))
    ∙ (λ i. chosen (last_style (said_standing commodity_styles es q)) (chosen (last_style (said_standing default_styles es q)) (chosen-first (said_standing first_class es q) (first_else (said_standing second_class es q) default_style) i)))
    ∙ (λ i. chosen (last_style (said_standing commodity_styles es q)) (chosen-last (said_standing default_styles es q) (first_else (said_standing first_class es q) (first_else (said_standing second_class es q) default_style)) i))
    ∙ chosen-last (said_standing commodity_styles es q) (last_else (said_standing default_styles es q) (first_else (said_standing first_class es q) (first_else (said_standing second_class es q) default_style)))

pub decimals-are : (es : Numbered Item) (styles : CountedStyles) (q : List ℕ) → Rises mark_cmp styles.first.counts → AreOf es styles → places_of (last_in q styles.first.counts) ≡ most_said (said_standing first_class es q)
decimals-are es styles q up are = decimals-class first_class es styles.first.heads styles.first.counts are.first are.rise q up
