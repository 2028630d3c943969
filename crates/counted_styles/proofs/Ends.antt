-- The first and the last that is kept of a symbol.
use Rattle.std.proofs.Common.{◌≡◌, ℕ, ◌==◌, Bool, true, false, cond, List, [], ◌∷◌, find, Option, Some, None, refl, sym, ap, subst, ◌∙◌, arith}
use Rattle.std.specs.Prelude.{nat_lt}
use Rattle.std.specs.declared.cmp.Ordering.{Ordering}
use Rattle.std.specs.declared.cmp.Ordering.TheVariants.{Less, Equal, Greater}
use Rattle.std.specs.Ordering.{nat_cmp, ordering_then, is_eq, is_lt, is_gt}
use Rattle.std.specs.Cmp.Lexicographic.{slice_cmp}
use Rattle.std.specs.List.{AllByRecursion}
use Rattle.std.proofs.lemmas.Bool.{false≢true}
use Rattle.std.proofs.lemmas.Bool.Decides.{nat_tests}
use Rattle.std.proofs.lemmas.Cmp.{nat_cmp_total, tied_itself}
use Rattle.shared_set.specs.Sorted.{Rises, find_last, or_other}
use Rattle.counted_styles.specs.declared.mark.Mark.{Mark}
use Rattle.counted_styles.specs.Marks.{edge_cmp, key_cmp, mark_at, mark_cmp, style_if, style_of}
use Rattle.counted_styles.specs.Totals.{mark_total}
use Rattle.counted_styles.proofs.Keys.{is-equal}

abbrev Above : Mark → List Mark → Type 0
Above x ws = AllByRecursion (λ y. mark_cmp x y ≡ Less) ws

abbrev probe : List ℕ → ℕ → Mark → Mark
probe q a m = record m { symbol = q; at = a }

-- what was found, if it is of the symbol
abbrev pub own : List ℕ → Option Mark → Option Mark
own q None = None
own q (Some m) = cond (is_eq (slice_cmp nat_cmp q m.symbol)) (Some m) None

pub style-own : (q : List ℕ) (o : Option Mark) → style_if q o ≡ style_of (own q o)
style-own q None = refl
style-own q (Some m) =
    elim (is_eq (slice_cmp nat_cmp q m.symbol)) as (λ b. cond b (Some m.style) None ≡ style_of (cond b (Some m) None)) [ true ↦ refl | false ↦ refl ]

-- the first that is kept of a symbol: nothing is kept at a lesser number
abbrev pub IsLeast : List ℕ → List Mark → Option Mark → Type 0
IsLeast q ws None = (n : ℕ) → mark_at q n ws ≡ None
IsLeast q ws (Some m) = (mark_at q m.at ws ≡ Some m) × ((n : ℕ) → nat_lt n m.at ≡ true → mark_at q n ws ≡ None)

-- the last: nothing is kept at a greater one
abbrev pub IsMost : List ℕ → List Mark → Option Mark → Type 0
IsMost q ws None = (n : ℕ) → mark_at q n ws ≡ None
IsMost q ws (Some m) = (mark_at q m.at ws ≡ Some m) × ((n : ℕ) → nat_lt m.at n ≡ true → mark_at q n ws ≡ None)

-- ---- one mark

past : (q : List ℕ) (n : ℕ) (x : Mark) (ws : List Mark) → is_eq (key_cmp q n x) ≡ false → mark_at q n (x ∷ ws) ≡ mark_at q n ws
past q n x ws h = ap (λ (b : Bool). cond b (Some x) (mark_at q n ws)) h

other-key : (q : List ℕ) (n : ℕ) (x : Mark) (r : Ordering) → slice_cmp nat_cmp q x.symbol ≡ r → is_eq r ≡ false → is_eq (key_cmp q n x) ≡ false
other-key q n x r e h = ap (λ (s : Ordering). is_eq (ordering_then s (nat_cmp n x.at))) e ∙ off r h
  where
    off : (s : Ordering) → is_eq s ≡ false → is_eq (ordering_then s (nat_cmp n x.at)) ≡ false
    off Less k = refl
    off Equal k = absurd (false≢true (sym k))
    off Greater k = refl

here : (q : List ℕ) (x : Mark) (ws : List Mark) → slice_cmp nat_cmp q x.symbol ≡ Equal → mark_at q x.at (x ∷ ws) ≡ Some x
here q x ws e =
    ap (λ (b : Bool). cond b (Some x) (mark_at q x.at ws))
    (ap (λ (s : Ordering). is_eq (ordering_then s (nat_cmp x.at x.at))) e ∙ ap is_eq (tied_itself nat_cmp_total x.at))

number-key : (q : List ℕ) (n : ℕ) (x : Mark) → slice_cmp nat_cmp q x.symbol ≡ Equal → key_cmp q n x ≡ nat_cmp n x.at
number-key q n x e = ap (λ (s : Ordering). ordering_then s (nat_cmp n x.at)) e

less-number : (n k : ℕ) → nat_lt n k ≡ true → nat_cmp n k ≡ Less
less-number n k h = ap (λ (b : Bool). cond b Less (cond (n == k) Equal Greater)) h

greater-number : (n k : ℕ) → nat_lt k n ≡ true → nat_cmp n k ≡ Greater
greater-number n k h =
    ap (λ (b : Bool). cond b Less (cond (n == k) Equal Greater)) (not-less n k h)
    ∙ ap (λ (b : Bool). cond b Equal Greater) (differ n k h)
  where
    not-less : (n k : ℕ) → nat_lt k n ≡ true → nat_lt n k ≡ false
    not-less n k h = grind (arith, nat_tests)

    differ : (n k : ℕ) → nat_lt k n ≡ true → (n == k) ≡ false
    differ n k h = grind (arith, nat_tests)

-- nothing of a symbol stands behind a mark of a greater symbol
none-behind : (q : List ℕ) (n : ℕ) (x : Mark) (ws : List Mark) → key_cmp q n x ≡ Less → Above x ws → mark_at q n ws ≡ None
none-behind q n x [] e h = refl
none-behind q n x (y ∷ ws) e h =
    past q n y ws (ap is_eq (mark_total.trans (probe q n x) x y e h.0))
    ∙ none-behind q n x ws e h.1

-- ---- the first

skip-least : (q : List ℕ) (x : Mark) (ws : List Mark) (o : Option Mark) → ((n : ℕ) → is_eq (key_cmp q n x) ≡ false) → IsLeast q ws o → IsLeast q (x ∷ ws) o
skip-least q x ws None f h = λ n. past q n x ws (f n) ∙ h n
skip-least q x ws (Some m) f h = (past q m.at x ws (f m.at) ∙ h.0, λ n lt. past q n x ws (f n) ∙ h.1 n lt)

pub least-is : (q : List ℕ) (ws : List Mark) → Rises mark_cmp ws → IsLeast q ws (own q (find (λ m. is_lt (edge_cmp q false m)) ws))
least-is q [] h = λ n. refl
least-is q (x ∷ ws) h =
    let rest = least-is q ws h.1 in
    elim (slice_cmp nat_cmp q x.symbol) as (λ r. slice_cmp nat_cmp q x.symbol ≡ r → IsLeast q (x ∷ ws) (own q (cond (is_lt (ordering_then r Less)) (Some x) (find (λ m. is_lt (edge_cmp q false m)) ws)))) [
      | Less ↦ λ e.
          let P : Option Mark → Type 0 = λ o. IsLeast q (x ∷ ws) o in
          subst P (sym (ap (λ (r : Ordering). cond (is_eq r) (Some x) None) e))
          (λ n. past q n x ws (other-key q n x Less e refl) ∙ none-behind q n x ws (ap (λ (r : Ordering). ordering_then r (nat_cmp n x.at)) e) h.0)
      | Equal ↦ λ e.
          let P : Option Mark → Type 0 = λ o. IsLeast q (x ∷ ws) o in
          subst P (sym (ap (λ (r : Ordering). cond (is_eq r) (Some x) None) e)) (
            here q x ws e,
            λ n lt.
                let less : key_cmp q n x ≡ Less = number-key q n x e ∙ less-number n x.at lt in
                past q n x ws (ap is_eq less) ∙ none-behind q n x ws less h.0,
          )
      | Greater ↦ λ e. skip-least q x ws (own q (find (λ m. is_lt (edge_cmp q false m)) ws)) (λ n. other-key q n x Greater e refl) rest
    ] refl

-- ---- the last

passes : (t : Mark → Bool) (x m : Mark) (ws : List Mark) → Above x ws → find_last t ws ≡ Some m → (t m ≡ true) × (mark_cmp x m ≡ Less)
passes t x m [] h e = absurd (differs e)
  where
    differs : ◌≡◌ {A = Option Mark} None (Some m) → ⊥
    differs e = cc
passes t x m (y ∷ ws) h e =
    elim (find_last t ws) as (λ o. find_last t ws ≡ o → or_other o (cond (t y) (Some y) None) ≡ Some m → (t m ≡ true) × (mark_cmp x m ≡ Less)) [
      | Some z ↦ λ k f. passes t x m ws h.1 (k ∙ f)
      | None ↦ λ k f. only (t y) refl f
    ] refl e
  where
    inner : (a b : Mark) → Some a ≡ Some b → a ≡ b
    inner a b e = cc

    only : (b : Bool) → t y ≡ b → cond b (Some y) None ≡ Some m → (t m ≡ true) × (mark_cmp x m ≡ Less)
    only true k f = let same : y ≡ m = inner y m f in (subst (λ (w : Mark). t w ≡ true) same k, subst (λ (w : Mark). mark_cmp x w ≡ Less) same h.0)
    only false k f = absurd (differs f)
      where
        differs : ◌≡◌ {A = Option Mark} None (Some m) → ⊥
        differs e = cc

-- a mark before one of the symbol isn't at its number, nor at a greater one
before-own : (q : List ℕ) (a : ℕ) (x m : Mark) → mark_cmp x m ≡ Less → slice_cmp nat_cmp q m.symbol ≡ Equal → nat_lt a m.at ≡ false → is_eq (key_cmp q a x) ≡ false
before-own q a x m lt e low =
    elim (is_eq (key_cmp q a x)) as (λ b. is_eq (key_cmp q a x) ≡ b → b ≡ false) [
      | true ↦ λ k.
          let less : key_cmp q a m ≡ Less = mark_total.congr (probe q a x) x m (is-equal (key_cmp q a x) k) ∙ lt in
          absurd (false≢true (sym low ∙ below (sym (number-key q a m e) ∙ less)))
      | false ↦ λ k. refl
    ] refl
  where
    below : nat_cmp a m.at ≡ Less → nat_lt a m.at ≡ true
    below k =
        elim (nat_lt a m.at) as (λ b. cond b Less (cond (a == m.at) Equal Greater) ≡ Less → b ≡ true) [
          | true ↦ λ f. refl
          | false ↦ λ f. absurd (never (a == m.at) f)
        ] k
      where
        never : (c : Bool) → cond c Equal Greater ≡ Less → ⊥
        never true f = cc
        never false f = cc

-- a mark before one of a lesser symbol isn't of the symbol
before-lesser : (q : List ℕ) (a : ℕ) (x m : Mark) → mark_cmp x m ≡ Less → slice_cmp nat_cmp q m.symbol ≡ Greater → is_eq (key_cmp q a x) ≡ false
before-lesser q a x m lt e =
    elim (is_eq (key_cmp q a x)) as (λ b. is_eq (key_cmp q a x) ≡ b → b ≡ false) [
      | true ↦ λ k.
          let less : key_cmp q a m ≡ Less = mark_total.congr (probe q a x) x m (is-equal (key_cmp q a x) k) ∙ lt in
          absurd (never (sym (ap (λ (r : Ordering). ordering_then r (nat_cmp a m.at)) e) ∙ less))
      | false ↦ λ k. refl
    ] refl
  where
    never : Greater ≡ Less → ⊥
    never f = cc

self-low : (n : ℕ) → nat_lt n n ≡ false
self-low n = grind (arith, nat_tests)

not-less : (n k : ℕ) → nat_lt k n ≡ true → nat_lt n k ≡ false
not-less n k h = grind (arith, nat_tests)

abbrev behind : List ℕ → Mark → Bool
behind q m = is_gt (edge_cmp q true m)

-- the last of the others, and a mark before them
after-more : (q : List ℕ) (x m : Mark) (ws : List Mark) → Above x ws → find_last (behind q) ws ≡ Some m → IsMost q ws (own q (Some m)) → IsMost q (x ∷ ws) (own q (Some m))
after-more q x m ws h found =
    let is = passes (behind q) x m ws h found in
    elim (slice_cmp nat_cmp q m.symbol) as (λ r. slice_cmp nat_cmp q m.symbol ≡ r → is_gt (ordering_then r Greater) ≡ true → IsMost q ws (cond (is_eq r) (Some m) None) → IsMost q (x ∷ ws) (cond (is_eq r) (Some m) None)) [
      | Less ↦ λ e t k. absurd (false≢true t)
      | Equal ↦ λ e t k. (
        past q m.at x ws (before-own q m.at x m is.1 e (self-low m.at)) ∙ k.0,
        λ n lt. past q n x ws (before-own q n x m is.1 e (not-less n m.at lt)) ∙ k.1 n lt,
      )
      | Greater ↦ λ e t k. λ n. past q n x ws (before-lesser q n x m is.1 e) ∙ k n
    ] refl is.0

-- a mark before none that counts
alone : (q : List ℕ) (x : Mark) (ws : List Mark) → ((n : ℕ) → mark_at q n ws ≡ None) → IsMost q (x ∷ ws) (own q (cond (behind q x) (Some x) None))
alone q x ws h =
    elim (slice_cmp nat_cmp q x.symbol) as (λ r. slice_cmp nat_cmp q x.symbol ≡ r → IsMost q (x ∷ ws) (own q (cond (is_gt (ordering_then r Greater)) (Some x) None))) [
      | Less ↦ λ e. λ n. past q n x ws (other-key q n x Less e refl) ∙ h n
      | Equal ↦ λ e.
          let P : Option Mark → Type 0 = λ o. IsMost q (x ∷ ws) o in
          subst P (sym (ap (λ (r : Ordering). cond (is_eq r) (Some x) None) e))
          (here q x ws e, λ n lt. past q n x ws (ap is_eq (number-key q n x e ∙ greater-number n x.at lt)) ∙ h n)
      | Greater ↦ λ e.
          let P : Option Mark → Type 0 = λ o. IsMost q (x ∷ ws) o in
          subst P (sym (ap (λ (r : Ordering). cond (is_eq r) (Some x) None) e))
          (λ n. past q n x ws (other-key q n x Greater e refl) ∙ h n)
    ] refl

pub most-is : (q : List ℕ) (ws : List Mark) → Rises mark_cmp ws → IsMost q ws (own q (find_last (λ m. is_gt (edge_cmp q true m)) ws))
most-is q [] h = λ n. refl
most-is q (x ∷ ws) h =
    elim (find_last (behind q) ws) as (λ o. find_last (behind q) ws ≡ o → IsMost q ws (own q o) → IsMost q (x ∷ ws) (own q (or_other o (cond (behind q x) (Some x) None)))) [
      | Some m ↦ λ e k. after-more q x m ws h.0 e k
      | None ↦ λ e k. alone q x ws k
    ] refl (most-is q ws h.1)
