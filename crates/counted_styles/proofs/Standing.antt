-- What items that stand under numbers say, with one more and without one.
use Rattle.std.proofs.Common.{◌≡◌, ℕ, ◌+◌, ◌-◌, ◌<◌, ◌≤◌, ◌==◌, Bool, true, false, ◌&&◌, cond, not, List, [], ◌∷◌, ◌++◌, Option, refl, sym, ap, subst, ◌∙◌, arith}
use Rattle.std.specs.Prelude.{nat_lt}
use Rattle.std.specs.List.{fold}
use Rattle.std.proofs.lemmas.Bool.{false≢true, ltb-true, ltb-false}
use Rattle.std.proofs.lemmas.Bool.Decides.{nat_tests}
use Rattle.book.specs.declared.item.Item.{Item}
use Rattle.book.specs.declared.style.Style.{Style}
use Rattle.book.specs.Standing.{Numbered, Rise, all_greater, is_free, with_number, without_number}
use Rattle.book.specs.Style.{of_symbol}
use Rattle.book.specs.Styles.{said_standing}
use Rattle.counted_styles.specs.declared.mark.Mark.{Mark}
use Rattle.counted_styles.specs.Kept.{IsKept, Stands, at_number, first_style, how_many}
use Rattle.counted_styles.specs.Marks.{count_at, counted, headed, style_at, uncounted, unheaded}
use Rattle.counted_styles.proofs.Folding.{AreCounts, counted-are, counts-fewer, counts-more, gone-other, gone-own, heads-other, heads-own, uncounted-are}
use Rattle.counted_styles.proofs.Keys.{eq-of, eq-self, eq-turn}
use Rattle.shared_set.specs.Sorted.{or_other}

first_of : (a b : Bool) → (a && b) ≡ true → a ≡ true
first_of true b h = refl
first_of false b h = h

second_of : (a b : Bool) → (a && b) ≡ true → b ≡ true
second_of true b h = h
second_of false b h = absurd (false≢true h)

both : (a b : Bool) → a ≡ true → b ≡ true → (a && b) ≡ true
both true b p q = q
both false b p q = absurd (false≢true p)

not-is : (b : Bool) → not b ≡ true → b ≡ false
not-is true h = absurd (false≢true h)
not-is false h = refl

-- ---- under one number

at-free : (n : ℕ) (es : Numbered Item) → is_free n es ≡ true → at_number n es ≡ []
at-free n [] h = refl
at-free n (e ∷ es) h =
    ap (λ (b : Bool). cond b (e ∷ at_number n es) (at_number n es)) (not-is (e.0 == n) (first_of (not (e.0 == n)) (is_free n es) h))
    ∙ at-free n es (second_of (not (e.0 == n)) (is_free n es) h)

one-item : (n : ℕ) (i : Item) (es : Numbered Item) → at_number n es ≡ [] → cond (n == n) ((n, i) ∷ at_number n es) (at_number n es) ≡ (n, i) ∷ []
one-item n i es h = (λ k. cond (eq-self n k) ((n, i) ∷ at_number n es) (at_number n es)) ∙ ap (λ (l : Numbered Item). (n, i) ∷ l) h

at-with-own : (n : ℕ) (i : Item) (es : Numbered Item) → is_free n es ≡ true → at_number n (with_number n i es) ≡ (n, i) ∷ []
at-with-own n i [] h = one-item n i [] refl
at-with-own n i (e ∷ es) h =
    let rest = at-with-own n i es (second_of (not (e.0 == n)) (is_free n es) h) in
    elim (all_greater n (e ∷ es)) as (λ b. at_number n (cond b ((n, i) ∷ e ∷ es) (e ∷ with_number n i es)) ≡ (n, i) ∷ []) [
      | true ↦ one-item n i (e ∷ es) (at-free n (e ∷ es) h)
      | false ↦
          ap (λ (b : Bool). cond b (e ∷ at_number n (with_number n i es)) (at_number n (with_number n i es))) (not-is (e.0 == n) (first_of (not (e.0 == n)) (is_free n es) h))
          ∙ rest
    ]

at-with-other : (m n : ℕ) (i : Item) (es : Numbered Item) → (m == n) ≡ false → at_number m (with_number n i es) ≡ at_number m es
at-with-other m n i [] h = ap (λ (b : Bool). cond b ((n, i) ∷ at_number m []) (at_number m [])) (eq-turn m n h)
at-with-other m n i (e ∷ es) h =
    let rest = at-with-other m n i es h in
    elim (all_greater n (e ∷ es)) as (λ b. at_number m (cond b ((n, i) ∷ e ∷ es) (e ∷ with_number n i es)) ≡ at_number m (e ∷ es)) [
      | true ↦ ap (λ (b : Bool). cond b ((n, i) ∷ at_number m (e ∷ es)) (at_number m (e ∷ es))) (eq-turn m n h)
      | false ↦ ap (λ (l : Numbered Item). cond (e.0 == m) (e ∷ l) l) rest
    ]

at-without-own : (n : ℕ) (es : Numbered Item) → at_number n (without_number n es) ≡ []
at-without-own n [] = refl
at-without-own n (e ∷ es) =
    let rest = at-without-own n es in
    elim (e.0 == n) as (λ b. (e.0 == n) ≡ b → at_number n (cond (not b) (e ∷ without_number n es) (without_number n es)) ≡ []) [
      | true ↦ λ q. rest
      | false ↦ λ q. ap (λ (b : Bool). cond b (e ∷ at_number n (without_number n es)) (at_number n (without_number n es))) q ∙ rest
    ] refl

at-without-other : (m n : ℕ) (es : Numbered Item) → (m == n) ≡ false → at_number m (without_number n es) ≡ at_number m es
at-without-other m n [] h = refl
at-without-other m n (e ∷ es) h =
    let rest = at-without-other m n es h in
    elim (e.0 == n) as (λ b. (e.0 == n) ≡ b → at_number m (cond (not b) (e ∷ without_number n es) (without_number n es)) ≡ at_number m (e ∷ es)) [
      | true ↦ λ q.
          let own : e.0 ≡ n = eq-of e.0 n q in
          rest ∙ sym (ap (λ (b : Bool). cond b (e ∷ at_number m es) (at_number m es)) (ap (λ (k : ℕ). k == m) own ∙ eq-turn m n h))
      | false ↦ λ q. ap (λ (l : Numbered Item). cond (e.0 == m) (e ∷ l) l) rest
    ] refl

-- ---- how many

many-append : (d : ℕ) (xs ys : List Style) → how_many d (xs ++ ys) ≡ how_many d xs + how_many d ys
many-append d [] ys = none (how_many d ys)
  where
    none : (n : ℕ) → n ≡ 0 + n
    none n = omega arith
many-append d (x ∷ xs) ys = ap (λ (n : ℕ). cond (x.places == d) 1 0 + n) (many-append d xs ys) ∙ turned (cond (x.places == d) 1 0) (how_many d xs) (how_many d ys)
  where
    turned : (a b c : ℕ) → a + (b + c) ≡ (a + b) + c
    turned a b c = omega arith

module _ (saying : Item → List (List ℕ × Style)) (q : List ℕ) (d : ℕ) where
  many-first : (e : ℕ × Item) (es : Numbered Item) → how_many d (said_standing saying (e ∷ es) q) ≡ how_many d (of_symbol q (saying e.1)) + how_many d (said_standing saying es q)
  many-first e es = many-append d (of_symbol q (saying e.1)) (said_standing saying es q)

  many-with : (n : ℕ) (i : Item) (es : Numbered Item) → how_many d (said_standing saying (with_number n i es) q) ≡ how_many d (of_symbol q (saying i)) + how_many d (said_standing saying es q)
  many-with n i [] = many-first (n, i) []
  many-with n i (e ∷ es) =
      let rest = many-with n i es in
      elim (all_greater n (e ∷ es)) as (λ b. how_many d (said_standing saying (cond b ((n, i) ∷ e ∷ es) (e ∷ with_number n i es)) q) ≡ how_many d (of_symbol q (saying i)) + how_many d (said_standing saying (e ∷ es) q)) [
        | true ↦ many-first (n, i) (e ∷ es)
        | false ↦
            many-first e (with_number n i es)
            ∙ ap (λ (k : ℕ). how_many d (of_symbol q (saying e.1)) + k) rest
            ∙ turned (how_many d (of_symbol q (saying e.1))) (how_many d (of_symbol q (saying i))) (how_many d (said_standing saying es q))
            ∙ ap (λ (k : ℕ). how_many d (of_symbol q (saying i)) + k) (sym (many-first e es))
      ]
    where
      turned : (a b c : ℕ) → a + (b + c) ≡ b + (a + c)
      turned a b c = omega arith

  many-parts : (n : ℕ) (es : Numbered Item) → how_many d (said_standing saying es q) ≡ how_many d (said_standing saying (at_number n es) q) + how_many d (said_standing saying (without_number n es) q)
  many-parts n [] = refl
  many-parts n (e ∷ es) =
      let rest = many-parts n es in
      many-first e es
      ∙ ap (λ (k : ℕ). how_many d (of_symbol q (saying e.1)) + k) rest
      ∙ (elim (e.0 == n) as (λ b. how_many d (of_symbol q (saying e.1)) + (how_many d (said_standing saying (at_number n es) q) + how_many d (said_standing saying (without_number n es) q)) ≡ how_many d (said_standing saying (cond b (e ∷ at_number n es) (at_number n es)) q) + how_many d (said_standing saying (cond (not b) (e ∷ without_number n es) (without_number n es)) q)) [
        | true ↦
            join (how_many d (of_symbol q (saying e.1))) (how_many d (said_standing saying (at_number n es) q)) (how_many d (said_standing saying (without_number n es) q))
            ∙ ap (λ (k : ℕ). k + how_many d (said_standing saying (without_number n es) q)) (sym (many-first e (at_number n es)))
        | false ↦
            turned (how_many d (of_symbol q (saying e.1))) (how_many d (said_standing saying (at_number n es) q)) (how_many d (said_standing saying (without_number n es) q))
            ∙ ap (λ (k : ℕ). how_many d (said_standing saying (at_number n es) q) + k) (sym (many-first e (without_number n es)))
      ])
    where
      join : (a b c : ℕ) → a + (b + c) ≡ (a + b) + c
      join a b c = omega arith

      turned : (a b c : ℕ) → a + (b + c) ≡ b + (a + c)
      turned a b c = omega arith

-- ---- a class with one more item, and without one

append-nil : (ss : List Style) → ss ++ [] ≡ ss
append-nil [] = refl
append-nil (s ∷ ss) = ap (λ (l : List Style). s ∷ l) (append-nil ss)

abbrev says : (Item → List (List ℕ × Style)) → Numbered Item → List ℕ → Option Style
says saying es q = first_style (said_standing saying es q)

pub kept-with : (saying : Item → List (List ℕ × Style)) (n : ℕ) (i : Item) (es : Numbered Item) (heads counts heads' counts' : List Mark) → heads' ≡ fold (headed n) heads (saying i) → counts' ≡ fold counted counts (saying i) → is_free n es ≡ true → IsKept saying es heads counts → IsKept saying (with_number n i es) heads' counts'
kept-with saying n i es heads counts heads' counts' p c free h =
    let are = counted-are counts (saying i) (record { some = h.some; decimals = h.decimals }) in
    let now : AreCounts counts' = subst AreCounts (sym c) are in
    record {
      heads = λ q m. ap (style_at q m) p ∙ first q m (m == n) refl;
      counts = λ q d. ap (λ (l : List Mark). count_at q d l) c ∙ counts-more q d counts (saying i) ∙ ap (λ (k : ℕ). how_many d (of_symbol q (saying i)) + k) (h.counts q d) ∙ sym (many-with saying q d n i es);
      some = now.some;
      decimals = now.decimals;
    }
  where
    first : (q : List ℕ) (m : ℕ) (b : Bool) → (m == n) ≡ b → style_at q m (fold (headed n) heads (saying i)) ≡ says saying (at_number m (with_number n i es)) q
    first q m true e =
        let same : m ≡ n = eq-of m n e in
        let P : ℕ → Type 0 = λ k. style_at q k (fold (headed n) heads (saying i)) ≡ says saying (at_number k (with_number n i es)) q in
        subst P (sym same)
        (heads-own q n heads (saying i)
        ∙ ap (λ (o : Option Style). or_other o (first_style (of_symbol q (saying i)))) (h.heads q n ∙ ap (λ (l : Numbered Item). says saying l q) (at-free n es free))
        ∙ ap first_style (sym (append-nil (of_symbol q (saying i))))
        ∙ ap (λ (l : Numbered Item). says saying l q) (sym (at-with-own n i es free)))
    first q m false e =
        heads-other q m n heads (saying i) e ∙ h.heads q m ∙ ap (λ (l : Numbered Item). says saying l q) (sym (at-with-other m n i es e))

pub kept-without : (saying : Item → List (List ℕ × Style)) (n : ℕ) (i : Item) (es : Numbered Item) (heads counts heads' counts' : List Mark) → heads' ≡ fold (unheaded n) heads (saying i) → counts' ≡ fold uncounted counts (saying i) → Stands n i es → IsKept saying es heads counts → IsKept saying (without_number n es) heads' counts'
kept-without saying n i es heads counts heads' counts' p c stands h =
    let are = uncounted-are counts (saying i) (record { some = h.some; decimals = h.decimals }) in
    let now : AreCounts counts' = subst AreCounts (sym c) are in
    record {
      heads = λ q m. ap (style_at q m) p ∙ first q m (m == n) refl;
      counts = λ q d.
          ap (λ (l : List Mark). count_at q d l) c
          ∙ counts-fewer q d counts (saying i)
          ∙ ap (λ (k : ℕ). k - how_many d (of_symbol q (saying i))) (h.counts q d ∙ many-parts saying q d n es ∙ ap (λ (l : Numbered Item). how_many d (said_standing saying l q) + how_many d (said_standing saying (without_number n es) q)) stands ∙ ap (λ (l : List Style). how_many d l + how_many d (said_standing saying (without_number n es) q)) (append-nil (of_symbol q (saying i))))
          ∙ left (how_many d (of_symbol q (saying i))) (how_many d (said_standing saying (without_number n es) q));
      some = now.some;
      decimals = now.decimals;
    }
  where
    left : (a b : ℕ) → (a + b) - a ≡ b
    left a b = omega arith

    first : (q : List ℕ) (m : ℕ) (b : Bool) → (m == n) ≡ b → style_at q m (fold (unheaded n) heads (saying i)) ≡ says saying (at_number m (without_number n es)) q
    first q m true e =
        let same : m ≡ n = eq-of m n e in
        let P : ℕ → Type 0 = λ k. style_at q k (fold (unheaded n) heads (saying i)) ≡ says saying (at_number k (without_number n es)) q in
        subst P (sym same)
        (gone-own q n heads (saying i) (h.heads q n ∙ ap (λ (l : Numbered Item). says saying l q) stands ∙ ap first_style (append-nil (of_symbol q (saying i))))
        ∙ ap (λ (l : Numbered Item). says saying l q) (sym (at-without-own n es)))
    first q m false e =
        gone-other q m n heads (saying i) e ∙ h.heads q m ∙ ap (λ (l : Numbered Item). says saying l q) (sym (at-without-other m n es e))

-- ---- numbers go on to rise

greater-more : (n m : ℕ) (es : Numbered Item) → n ≤ m → all_greater m es ≡ true → all_greater n es ≡ true
greater-more n m [] le h = refl
greater-more n m (e ∷ es) le h =
    both (nat_lt n e.0) _ (let lt : m < e.0 = ltb-true m e.0 (first_of _ _ h) in lt_ltb n e.0 (omega arith)) (greater-more n m es le (second_of _ _ h))
  where
    lt_ltb : (a b : ℕ) → a < b → nat_lt a b ≡ true
    lt_ltb a b lt = grind (arith, nat_tests)

differ : (n k : ℕ) → not (k == n) ≡ true → k ≡ n → ⊥
differ n k h e = false≢true (sym (ap not (ap (λ (m : ℕ). m == n) e ∙ eq-self n)) ∙ h)

pub rise-with : (n : ℕ) (x : Item) (es : Numbered Item) → Rise es → is_free n es ≡ true → Rise (with_number n x es)
rise-with n x [] rise free = (refl, tt)
rise-with n x (e ∷ es) rise free =
    elim (all_greater n (e ∷ es)) as (λ b. all_greater n (e ∷ es) ≡ b → Rise (cond b ((n, x) ∷ e ∷ es) (e ∷ with_number n x es))) [
      | true ↦ λ h. (h, rise)
      | false ↦ λ h. (among es rise.0 (below h), rise-with n x es rise.1 (second_of _ _ free))
    ] refl
  where
    lt_ltb : (a b : ℕ) → a < b → nat_lt a b ≡ true
    lt_ltb a b lt = grind (arith, nat_tests)

    among : (ms : Numbered Item) → all_greater e.0 ms ≡ true → nat_lt e.0 n ≡ true → all_greater e.0 (with_number n x ms) ≡ true
    among [] h lt = both (nat_lt e.0 n) true lt refl
    among (m ∷ ms) h lt =
        elim (all_greater n (m ∷ ms)) as (λ b. all_greater e.0 (cond b ((n, x) ∷ m ∷ ms) (m ∷ with_number n x ms)) ≡ true) [
          | true ↦ both (nat_lt e.0 n) _ lt h
          | false ↦ both (nat_lt e.0 m.0) _ (first_of _ _ h) (among ms (second_of _ _ h) lt)
        ]

    below : all_greater n (e ∷ es) ≡ false → nat_lt e.0 n ≡ true
    below h = elim (nat_lt e.0 n) as (λ b. nat_lt e.0 n ≡ b → b ≡ true) [
      | true ↦ λ t. refl
      | false ↦ λ t.
          let ge : n ≤ e.0 = ltb-false e.0 n t in
          let apart : (e.0 ≡ n → ⊥) = λ (same : e.0 ≡ n). differ n e.0 (first_of _ _ free) same in
          let above : n < e.0 = omega arith in
          absurd (false≢true (sym h ∙ both (nat_lt n e.0) _ (lt_ltb n e.0 above) (greater-more n e.0 es (omega arith) rise.0)))
    ] refl
