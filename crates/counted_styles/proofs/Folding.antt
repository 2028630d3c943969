-- What is kept after all that an item says was noted, or forgotten.
use Rattle.std.proofs.Common.{◌≡◌, ℕ, ◌+◌, ◌-◌, ◌<◌, ◌==◌, Bool, true, false, ◌&&◌, cond, List, [], ◌∷◌, map, filter, Option, Some, None, is_some, refl, sym, ap, subst, ◌∙◌, arith}
use Rattle.std.specs.Prelude.{nat_lt}
use Rattle.std.specs.Ordering.{is_eq}
use Rattle.std.specs.List.{fold}
use Rattle.std.specs.Str.{bytes_eq}
use Rattle.std.specs.BTreeSet.{replace_key}
use Rattle.std.proofs.lemmas.Bool.Decides.{nat_tests}
use Rattle.shared_set.specs.Sorted.{or_other, without_key}
use Rattle.book.specs.declared.style.Style.{Style}
use Rattle.book.specs.Style.{of_symbol}
use Rattle.counted_styles.specs.declared.mark.Mark.{Mark}
use Rattle.counted_styles.specs.Kept.{first_style, how_many}
use Rattle.counted_styles.specs.Marks.{count_at, count_of, counted, headed, key_cmp, mark_at, mark_cmp, mark_of, style_at, style_of, uncounted, unheaded}
use Rattle.counted_styles.proofs.Keys.{eq-self, found-gone, found-put, key-is, own-key, same-number, same-symbol}

abbrev Said : Type 0
Said = List ℕ × Style

-- ---- keys that differ

other-symbol : (q : List ℕ) (a : ℕ) (s : Said) (n c : ℕ) → bytes_eq s.0 q ≡ false → is_eq (key_cmp q a (mark_of s n c)) ≡ false
other-symbol q a s n c h = key-is q a (mark_of s n c) ∙ ap (λ (b : Bool). b && (a == n)) h

other-number : (q : List ℕ) (a : ℕ) (s : Said) (n c : ℕ) → (a == n) ≡ false → is_eq (key_cmp q a (mark_of s n c)) ≡ false
other-number q a s n c h = key-is q a (mark_of s n c) ∙ ap (λ (b : Bool). bytes_eq s.0 q && b) h ∙ off (bytes_eq s.0 q)
  where
    off : (b : Bool) → (b && false) ≡ false
    off true = refl
    off false = refl

same-key : (q : List ℕ) (a : ℕ) (s : Said) (n c : ℕ) → bytes_eq s.0 q ≡ true → (a == n) ≡ true → is_eq (key_cmp q a (mark_of s n c)) ≡ true
same-key q a s n c h k = key-is q a (mark_of s n c) ∙ (λ i. h i && k i)

-- ---- the first that is said

headed-there : (q : List ℕ) (a n : ℕ) (ws : List Mark) (s : Said) → is_eq (key_cmp q a (mark_of s n 1)) ≡ false → style_at q a (headed n ws s) ≡ style_at q a ws
headed-there q a n ws s h =
    elim (is_some (mark_at s.0 n ws)) as (λ b. style_at q a (cond b ws (replace_key mark_cmp ws (mark_of s n 1))) ≡ style_at q a ws) [
      | true ↦ refl
      | false ↦ ap style_of (found-put q a (mark_of s n 1) ws ∙ ap (λ (b : Bool). cond b (Some (mark_of s n 1)) (mark_at q a ws)) h)
    ]

headed-here : (n : ℕ) (ws : List Mark) (s : Said) → style_at s.0 n (headed n ws s) ≡ or_other (style_at s.0 n ws) (Some s.1)
headed-here n ws s =
    elim (mark_at s.0 n ws) as (λ o. mark_at s.0 n ws ≡ o → style_at s.0 n (cond (is_some o) ws (replace_key mark_cmp ws (mark_of s n 1))) ≡ or_other (style_of o) (Some s.1)) [
      | None ↦ λ e. ap style_of (found-put s.0 n (mark_of s n 1) ws ∙ ap (λ (b : Bool). cond b (Some (mark_of s n 1)) (mark_at s.0 n ws)) (own-key (mark_of s n 1)))
      | Some m ↦ λ e. ap style_of e
    ] refl

headed-of : (q : List ℕ) (n : ℕ) (ws : List Mark) (s : Said) → bytes_eq s.0 q ≡ true → style_at q n (headed n ws s) ≡ or_other (style_at q n ws) (Some s.1)
headed-of q n ws s h =
    let same : q ≡ s.0 = same-symbol q n (mark_of s n 1) (same-key q n s n 1 h (eq-self n)) in
    let P : List ℕ → Type 0 = λ t. style_at t n (headed n ws s) ≡ or_other (style_at t n ws) (Some s.1) in
    subst P (sym same) (headed-here n ws s)

settled : (o : Option Style) (s : Style) (other : Option Style) → or_other (or_other o (Some s)) other ≡ or_other o (Some s)
settled None s other = refl
settled (Some x) s other = refl

none-more : (o : Option Style) → o ≡ or_other o None
none-more None = refl
none-more (Some x) = refl

pub heads-own : (q : List ℕ) (n : ℕ) (ws : List Mark) (said : List Said) → style_at q n (fold (headed n) ws said) ≡ or_other (style_at q n ws) (first_style (of_symbol q said))
heads-own q n ws [] = none-more (style_at q n ws)
heads-own q n ws (s ∷ said) =
    let rest = heads-own q n (headed n ws s) said in
    elim (bytes_eq s.0 q) as (λ b. bytes_eq s.0 q ≡ b → style_at q n (fold (headed n) (headed n ws s) said) ≡ or_other (style_at q n ws) (first_style (map (λ (x : Said). x.1) (cond b (s ∷ filter (λ x. bytes_eq x.0 q) said) (filter (λ x. bytes_eq x.0 q) said))))) [
      | true ↦ λ e.
          rest ∙ ap (λ (o : Option Style). or_other o (first_style (of_symbol q said))) (headed-of q n ws s e)
          ∙ settled (style_at q n ws) s.1 (first_style (of_symbol q said))
      | false ↦ λ e. rest ∙ ap (λ (o : Option Style). or_other o (first_style (of_symbol q said))) (headed-there q n n ws s (other-symbol q n s n 1 e))
    ] refl

pub heads-other : (q : List ℕ) (a n : ℕ) (ws : List Mark) (said : List Said) → (a == n) ≡ false → style_at q a (fold (headed n) ws said) ≡ style_at q a ws
heads-other q a n ws [] h = refl
heads-other q a n ws (s ∷ said) h = heads-other q a n (headed n ws s) said h ∙ headed-there q a n ws s (other-number q a s n 1 h)

-- ---- and forgotten

pub gone-other : (q : List ℕ) (a n : ℕ) (ws : List Mark) (said : List Said) → (a == n) ≡ false → style_at q a (fold (unheaded n) ws said) ≡ style_at q a ws
gone-other q a n ws [] h = refl
gone-other q a n ws (s ∷ said) h =
    gone-other q a n (unheaded n ws s) said h
    ∙ ap style_of (found-gone q a (mark_of s n 1) ws ∙ ap (λ (b : Bool). cond b None (mark_at q a ws)) (other-number q a s n 1 h))

gone-stays : (q : List ℕ) (n : ℕ) (ws : List Mark) (said : List Said) → style_at q n ws ≡ None → style_at q n (fold (unheaded n) ws said) ≡ None
gone-stays q n ws [] h = h
gone-stays q n ws (s ∷ said) h = gone-stays q n (unheaded n ws s) said (still (is_eq (key_cmp q n (mark_of s n 1))) refl)
  where
    still : (b : Bool) → is_eq (key_cmp q n (mark_of s n 1)) ≡ b → style_at q n (unheaded n ws s) ≡ None
    still true e = ap style_of (found-gone q n (mark_of s n 1) ws ∙ ap (λ (b : Bool). cond b None (mark_at q n ws)) e)
    still false e = ap style_of (found-gone q n (mark_of s n 1) ws ∙ ap (λ (b : Bool). cond b None (mark_at q n ws)) e) ∙ h

-- nothing is left of what the item said first
pub gone-own : (q : List ℕ) (n : ℕ) (ws : List Mark) (said : List Said) → style_at q n ws ≡ first_style (of_symbol q said) → style_at q n (fold (unheaded n) ws said) ≡ None
gone-own q n ws [] h = h
gone-own q n ws (s ∷ said) h =
    elim (bytes_eq s.0 q) as (λ b. bytes_eq s.0 q ≡ b → style_at q n ws ≡ first_style (map (λ (x : Said). x.1) (cond b (s ∷ filter (λ x. bytes_eq x.0 q) said) (filter (λ x. bytes_eq x.0 q) said))) → style_at q n (fold (unheaded n) (unheaded n ws s) said) ≡ None) [
      | true ↦ λ e k. gone-stays q n (unheaded n ws s) said (ap style_of (found-gone q n (mark_of s n 1) ws ∙ ap (λ (b : Bool). cond b None (mark_at q n ws)) (same-key q n s n 1 e (eq-self n))))
      | false ↦ λ e k. gone-own q n (unheaded n ws s) said (ap style_of (found-gone q n (mark_of s n 1) ws ∙ ap (λ (b : Bool). cond b None (mark_at q n ws)) (other-symbol q n s n 1 e)) ∙ k)
    ] refl h

-- ---- counts

abbrev one_if : Bool → ℕ
one_if b = cond b 1 0

-- the mark with one more, and with one less
abbrev next : List Mark → Said → Mark
next ws s = mark_of s s.1.places (count_at s.0 s.1.places ws + 1)

abbrev less : List Mark → Said → Mark
less ws s = mark_of s s.1.places (count_at s.0 s.1.places ws - 1)

counted-one : (q : List ℕ) (d : ℕ) (ws : List Mark) (s : Said) → count_at q d (counted ws s) ≡ one_if (bytes_eq s.0 q && (d == s.1.places)) + count_at q d ws
counted-one q d ws s =
    elim (is_eq (key_cmp q d (next ws s))) as (λ b. is_eq (key_cmp q d (next ws s)) ≡ b → count_at q d (counted ws s) ≡ one_if (bytes_eq s.0 q && (d == s.1.places)) + count_at q d ws) [
      | true ↦ λ e.
          let symbol : q ≡ s.0 = same-symbol q d (next ws s) e in
          let number : d ≡ s.1.places = same-number q d (next ws s) e in
          let P : List ℕ → ℕ → Type 0 = λ t n. count_at t n (counted ws s) ≡ 1 + count_at t n ws in
          let here : P s.0 s.1.places = ap count_of (found-put s.0 s.1.places (next ws s) ws ∙ ap (λ (b : Bool). cond b (Some (next ws s)) (mark_at s.0 s.1.places ws)) (own-key (next ws s))) ∙ turned (count_at s.0 s.1.places ws) in
          subst (λ (t : List ℕ). P t d) (sym symbol) (subst (λ (n : ℕ). P s.0 n) (sym number) here)
          ∙ ap (λ (b : Bool). one_if b + count_at q d ws) (sym (sym (key-is q d (next ws s)) ∙ e))
      | false ↦ λ e.
          ap count_of (found-put q d (next ws s) ws ∙ ap (λ (b : Bool). cond b (Some (next ws s)) (mark_at q d ws)) e)
          ∙ none (count_at q d ws)
          ∙ ap (λ (b : Bool). one_if b + count_at q d ws) (sym (sym (key-is q d (next ws s)) ∙ e))
    ] refl
  where
    turned : (n : ℕ) → n + 1 ≡ 1 + n
    turned n = omega arith

    none : (n : ℕ) → n ≡ 0 + n
    none n = omega arith

more : (q : List ℕ) (d : ℕ) (s : Said) (said : List Said) → how_many d (of_symbol q (s ∷ said)) ≡ one_if (bytes_eq s.0 q && (d == s.1.places)) + how_many d (of_symbol q said)
more q d s said =
    elim (bytes_eq s.0 q) as (λ b. how_many d (map (λ (x : Said). x.1) (cond b (s ∷ filter (λ x. bytes_eq x.0 q) said) (filter (λ x. bytes_eq x.0 q) said))) ≡ one_if (b && (d == s.1.places)) + how_many d (of_symbol q said)) [
      | true ↦ ap (λ (b : Bool). one_if b + how_many d (of_symbol q said)) (eq-swap s.1.places d)
      | false ↦ none (how_many d (of_symbol q said))
    ]
  where
    eq-swap : (m n : ℕ) → (m == n) ≡ (n == m)
    eq-swap m n = grind (arith, nat_tests)

    none : (n : ℕ) → n ≡ 0 + n
    none n = omega arith

pub counts-more : (q : List ℕ) (d : ℕ) (ws : List Mark) (said : List Said) → count_at q d (fold counted ws said) ≡ how_many d (of_symbol q said) + count_at q d ws
counts-more q d ws [] = none (count_at q d ws)
  where
    none : (n : ℕ) → n ≡ 0 + n
    none n = omega arith
counts-more q d ws (s ∷ said) =
    counts-more q d (counted ws s) said
    ∙ ap (λ (n : ℕ). how_many d (of_symbol q said) + n) (counted-one q d ws s)
    ∙ turned (how_many d (of_symbol q said)) (one_if (bytes_eq s.0 q && (d == s.1.places))) (count_at q d ws)
    ∙ ap (λ (n : ℕ). n + count_at q d ws) (sym (more q d s said))
  where
    turned : (a b c : ℕ) → a + (b + c) ≡ (b + a) + c
    turned a b c = omega arith

uncounted-one : (q : List ℕ) (d : ℕ) (ws : List Mark) (s : Said) → count_at q d (uncounted ws s) ≡ count_at q d ws - one_if (bytes_eq s.0 q && (d == s.1.places))
uncounted-one q d ws s =
    elim (is_eq (key_cmp q d (less ws s))) as (λ b. is_eq (key_cmp q d (less ws s)) ≡ b → count_at q d (uncounted ws s) ≡ count_at q d ws - one_if (bytes_eq s.0 q && (d == s.1.places))) [
      | true ↦ λ e.
          let symbol : q ≡ s.0 = same-symbol q d (less ws s) e in
          let number : d ≡ s.1.places = same-number q d (less ws s) e in
          let P : List ℕ → ℕ → Type 0 = λ t n. count_at t n (uncounted ws s) ≡ count_at t n ws - 1 in
          subst (λ (t : List ℕ). P t d) (sym symbol) (subst (λ (n : ℕ). P s.0 n) (sym number) here)
          ∙ ap (λ (b : Bool). count_at q d ws - one_if b) (sym (sym (key-is q d (less ws s)) ∙ e))
      | false ↦ λ e.
          there e
          ∙ none (count_at q d ws)
          ∙ ap (λ (b : Bool). count_at q d ws - one_if b) (sym (sym (key-is q d (less ws s)) ∙ e))
    ] refl
  where
    none : (n : ℕ) → n ≡ n - 0
    none n = omega arith

    few : (n : ℕ) → nat_lt 1 n ≡ false → 0 ≡ n - 1
    few n h = grind (arith, nat_tests)

    here : count_at s.0 s.1.places (uncounted ws s) ≡ count_at s.0 s.1.places ws - 1
    here =
        elim (nat_lt 1 (count_at s.0 s.1.places ws)) as (λ b. nat_lt 1 (count_at s.0 s.1.places ws) ≡ b → count_at s.0 s.1.places (cond b (replace_key mark_cmp ws (less ws s)) (without_key mark_cmp (mark_of s s.1.places 1) ws)) ≡ count_at s.0 s.1.places ws - 1) [
          | true ↦ λ e. ap count_of (found-put s.0 s.1.places (less ws s) ws ∙ ap (λ (b : Bool). cond b (Some (less ws s)) (mark_at s.0 s.1.places ws)) (own-key (less ws s)))
          | false ↦ λ e. ap count_of (found-gone s.0 s.1.places (mark_of s s.1.places 1) ws ∙ ap (λ (b : Bool). cond b None (mark_at s.0 s.1.places ws)) (own-key (mark_of s s.1.places 1))) ∙ few (count_at s.0 s.1.places ws) e
        ] refl

    there : is_eq (key_cmp q d (less ws s)) ≡ false → count_at q d (uncounted ws s) ≡ count_at q d ws
    there e =
        elim (nat_lt 1 (count_at s.0 s.1.places ws)) as (λ b. count_at q d (cond b (replace_key mark_cmp ws (less ws s)) (without_key mark_cmp (mark_of s s.1.places 1) ws)) ≡ count_at q d ws) [
          | true ↦ ap count_of (found-put q d (less ws s) ws ∙ ap (λ (b : Bool). cond b (Some (less ws s)) (mark_at q d ws)) e)
          | false ↦ ap count_of (found-gone q d (mark_of s s.1.places 1) ws ∙ ap (λ (b : Bool). cond b None (mark_at q d ws)) e)
        ]

pub counts-fewer : (q : List ℕ) (d : ℕ) (ws : List Mark) (said : List Said) → count_at q d (fold uncounted ws said) ≡ count_at q d ws - how_many d (of_symbol q said)
counts-fewer q d ws [] = none (count_at q d ws)
  where
    none : (n : ℕ) → n ≡ n - 0
    none n = omega arith
counts-fewer q d ws (s ∷ said) =
    counts-fewer q d (uncounted ws s) said
    ∙ ap (λ (n : ℕ). n - how_many d (of_symbol q said)) (uncounted-one q d ws s)
    ∙ turned (how_many d (of_symbol q said)) (one_if (bytes_eq s.0 q && (d == s.1.places))) (count_at q d ws)
    ∙ ap (λ (n : ℕ). count_at q d ws - n) (sym (more q d s said))
  where
    turned : (a b c : ℕ) → (c - b) - a ≡ c - (b + a)
    turned a b c = omega arith

-- ---- what is counted is there, and has its decimals

-- each count that is kept is above zero, under its number of decimals
pub record AreCounts (ws : List Mark) : Type 0 where
  pub some : (q : List ℕ) (d : ℕ) (m : Mark) → mark_at q d ws ≡ Some m → 0 < m.count
  pub decimals : (q : List ℕ) (d : ℕ) (m : Mark) → mark_at q d ws ≡ Some m → m.style.places ≡ d

put-counts : (ws : List Mark) (s : Said) (n : ℕ) → 0 < n → AreCounts ws → AreCounts (replace_key mark_cmp ws (mark_of s s.1.places n))
put-counts ws s n lt h = record {
  some = λ q d m e. some q d m (is_eq (key_cmp q d (mark_of s s.1.places n))) (sym (found-put q d (mark_of s s.1.places n) ws) ∙ e);
  decimals = λ q d m e. decimals q d m (is_eq (key_cmp q d (mark_of s s.1.places n))) refl (sym (found-put q d (mark_of s s.1.places n) ws) ∙ e);
}
  where
    inner : (a b : Mark) → Some a ≡ Some b → a ≡ b
    inner a b e = cc

    some : (q : List ℕ) (d : ℕ) (m : Mark) (b : Bool) → cond b (Some (mark_of s s.1.places n)) (mark_at q d ws) ≡ Some m → 0 < m.count
    some q d m true e = subst (λ (x : Mark). 0 < x.count) (inner (mark_of s s.1.places n) m e) lt
    some q d m false e = h.some q d m e

    decimals : (q : List ℕ) (d : ℕ) (m : Mark) (b : Bool) → is_eq (key_cmp q d (mark_of s s.1.places n)) ≡ b → cond b (Some (mark_of s s.1.places n)) (mark_at q d ws) ≡ Some m → m.style.places ≡ d
    decimals q d m true k e = subst (λ (x : Mark). x.style.places ≡ d) (inner (mark_of s s.1.places n) m e) (sym (same-number q d (mark_of s s.1.places n) k))
    decimals q d m false k e = h.decimals q d m e

gone-counts : (ws : List Mark) (k : Mark) → AreCounts ws → AreCounts (without_key mark_cmp k ws)
gone-counts ws k h = record {
  some = λ q d m e. h.some q d m (left q d m (is_eq (key_cmp q d k)) (sym (found-gone q d k ws) ∙ e));
  decimals = λ q d m e. h.decimals q d m (left q d m (is_eq (key_cmp q d k)) (sym (found-gone q d k ws) ∙ e));
}
  where
    left : (q : List ℕ) (d : ℕ) (m : Mark) (b : Bool) → cond b None (mark_at q d ws) ≡ Some m → mark_at q d ws ≡ Some m
    left q d m true e = absurd (differs m e)
      where
        differs : (m : Mark) → ◌≡◌ {A = Option Mark} None (Some m) → ⊥
        differs m e = cc
    left q d m false e = e

pub counted-are : (ws : List Mark) (said : List Said) → AreCounts ws → AreCounts (fold counted ws said)
counted-are ws [] h = h
counted-are ws (s ∷ said) h = counted-are (counted ws s) said (put-counts ws s (count_at s.0 s.1.places ws + 1) (above (count_at s.0 s.1.places ws)) h)
  where
    above : (n : ℕ) → 0 < n + 1
    above n = omega arith

pub uncounted-are : (ws : List Mark) (said : List Said) → AreCounts ws → AreCounts (fold uncounted ws said)
uncounted-are ws [] h = h
uncounted-are ws (s ∷ said) h = uncounted-are (uncounted ws s) said one
  where
    above : (n : ℕ) → nat_lt 1 n ≡ true → 0 < n - 1
    above n e = let lt : 1 < n = lt-of n e in omega arith
      where
        lt-of : (n : ℕ) → nat_lt 1 n ≡ true → 1 < n
        lt-of n e = grind (arith, nat_tests)

    one : AreCounts (uncounted ws s)
    one =
        elim (nat_lt 1 (count_at s.0 s.1.places ws)) as (λ b. nat_lt 1 (count_at s.0 s.1.places ws) ≡ b → AreCounts (cond b (replace_key mark_cmp ws (less ws s)) (without_key mark_cmp (mark_of s s.1.places 1) ws))) [
          | true ↦ λ e. put-counts ws s (count_at s.0 s.1.places ws - 1) (above (count_at s.0 s.1.places ws) e) h
          | false ↦ λ e. gone-counts ws (mark_of s s.1.places 1) h
        ] refl
