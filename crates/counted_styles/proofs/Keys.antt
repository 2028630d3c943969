-- What is found at a symbol and a number, after something is put in or taken out.
use Rattle.std.proofs.Common.{◌≡◌, ℕ, ◌==◌, Bool, true, false, ◌&&◌, cond, not, List, [], ◌∷◌, Option, Some, None, refl, sym, ap, ◌∙◌, arith}
use Rattle.std.specs.Prelude.{nat_lt}
use Rattle.std.specs.declared.cmp.Ordering.{Ordering}
use Rattle.std.specs.declared.cmp.Ordering.TheVariants.{Less, Equal, Greater}
use Rattle.std.specs.Ordering.{nat_cmp, ordering_then, is_eq, eq_by_cmp, match_ordering}
use Rattle.std.specs.Cmp.Lexicographic.{slice_cmp}
use Rattle.std.specs.Str.{bytes_eq}
use Rattle.std.specs.BTreeSet.{replace_key}
use Rattle.std.specs.FinMap.{slice_cmp-IsAntisymmetric, nat_cmp-IsAntisymmetric}
use Rattle.std.proofs.lemmas.Bool.{false≢true}
use Rattle.std.proofs.lemmas.Bool.Decides.{nat_tests}
use Rattle.std.proofs.lemmas.Cmp.{alike_right, tied_itself}
use Rattle.shared_set.specs.Sorted.{without_key}
use Rattle.book.proofs.Entries.{tie-bytes_eq}
use Rattle.counted_styles.specs.declared.mark.Mark.{Mark}
use Rattle.counted_styles.specs.Marks.{key_cmp, mark_at, mark_cmp}
use Rattle.counted_styles.specs.Totals.{mark_total}

pub is-equal : (r : Ordering) → is_eq r ≡ true → r ≡ Equal
is-equal Less q = absurd (false≢true q)
is-equal Equal q = refl
is-equal Greater q = absurd (false≢true q)

-- ---- keys

then-eq : (r s : Ordering) → is_eq (ordering_then r s) ≡ (is_eq r && is_eq s)
then-eq Less s = refl
then-eq Equal s = refl
then-eq Greater s = refl

lt-differs : (m n : ℕ) → nat_lt m n ≡ true → (m == n) ≡ false
lt-differs m n h = grind (arith, nat_tests)

nat-eq-is : (m n : ℕ) → is_eq (nat_cmp m n) ≡ (m == n)
nat-eq-is m n =
    elim (nat_lt m n) as (λ b. nat_lt m n ≡ b → is_eq (cond b Less (cond (m == n) Equal Greater)) ≡ (m == n)) [
      | true ↦ λ e. sym (lt-differs m n e)
      | false ↦ λ e. turn (m == n)
    ] refl
  where
    turn : (c : Bool) → is_eq (cond c Equal Greater) ≡ c
    turn true = refl
    turn false = refl

-- a key is that of a mark where its symbol and its number are
pub key-is : (q : List ℕ) (a : ℕ) (m : Mark) → is_eq (key_cmp q a m) ≡ (bytes_eq m.symbol q && (a == m.at))
key-is q a m =
    then-eq (slice_cmp nat_cmp q m.symbol) (nat_cmp a m.at)
    ∙ (λ i. tie-bytes_eq q m.symbol i && nat-eq-is a m.at i)

then_first : (r s : Ordering) → ordering_then r s ≡ Equal → r ≡ Equal
then_first Less s e = e
then_first Equal s e = refl
then_first Greater s e = e

then_second : (r s : Ordering) → ordering_then r s ≡ Equal → s ≡ Equal
then_second Less s e = absurd (differs e)
  where
    differs : Less ≡ Equal → ⊥
    differs e = cc
then_second Equal s e = e
then_second Greater s e = absurd (differs e)
  where
    differs : Greater ≡ Equal → ⊥
    differs e = cc

pub same-symbol : (q : List ℕ) (a : ℕ) (m : Mark) → is_eq (key_cmp q a m) ≡ true → q ≡ m.symbol
same-symbol q a m h = slice_cmp-IsAntisymmetric nat_cmp-IsAntisymmetric q m.symbol (then_first _ _ (is-equal (key_cmp q a m) h))

pub same-number : (q : List ℕ) (a : ℕ) (m : Mark) → is_eq (key_cmp q a m) ≡ true → a ≡ m.at
same-number q a m h = nat_cmp-IsAntisymmetric a m.at (then_second (slice_cmp nat_cmp q m.symbol) _ (is-equal (key_cmp q a m) h))

pub own-key : (m : Mark) → is_eq (key_cmp m.symbol m.at m) ≡ true
own-key m = ap is_eq (tied_itself mark_total m)

pub eq-self : (n : ℕ) → (n == n) ≡ true
eq-self n = grind (arith, nat_tests)

pub eq-of : (n k : ℕ) → (n == k) ≡ true → n ≡ k
eq-of n k h = grind (arith, nat_tests)

pub eq-turn : (n k : ℕ) → (n == k) ≡ false → (k == n) ≡ false
eq-turn n k h = grind (arith, nat_tests)

-- ---- what is found

abbrev probe : List ℕ → ℕ → Mark → Mark
probe q a k = record k { symbol = q; at = a }

same-if : {A : Type 0} (b c : Bool) (x y z : A) → c ≡ b → cond b x y ≡ cond b x (cond c z y)
same-if true c x y z e = refl
same-if false c x y z e = ap (λ (d : Bool). cond d z y) (sym e)

cross : {A : Type 0} (b c : Bool) (x y z : A) → (c ≡ true → b ≡ false) → cond b x (cond c y z) ≡ cond c y (cond b x z)
cross b true x y z f = ap (λ (d : Bool). cond d x y) (f refl)
cross b false x y z f = refl

pub found-put : (q : List ℕ) (a : ℕ) (k : Mark) (ws : List Mark) → mark_at q a (replace_key mark_cmp ws k) ≡ cond (is_eq (key_cmp q a k)) (Some k) (mark_at q a ws)
found-put q a k [] = refl
found-put q a k (x ∷ ws) =
    let rest = found-put q a k ws in
    elim (mark_cmp k x) as (λ r. mark_cmp k x ≡ r → mark_at q a (match_ordering r (k ∷ x ∷ ws) (k ∷ ws) (x ∷ replace_key mark_cmp ws k)) ≡ cond (is_eq (key_cmp q a k)) (Some k) (cond (is_eq (key_cmp q a x)) (Some x) (mark_at q a ws))) [
      | Less ↦ λ e. refl
      | Equal ↦ λ e. same-if (is_eq (key_cmp q a k)) (is_eq (key_cmp q a x)) (Some k) (mark_at q a ws) (Some x) (sym (ap is_eq (alike_right mark_total k x (probe q a k) e)))
      | Greater ↦ λ e.
          ap (cond (is_eq (key_cmp q a x)) (Some x)) rest
          ∙ cross (is_eq (key_cmp q a x)) (is_eq (key_cmp q a k)) (Some x) (Some k) (mark_at q a ws) (apart e)
    ] refl
  where
    apart : mark_cmp k x ≡ Greater → is_eq (key_cmp q a k) ≡ true → is_eq (key_cmp q a x) ≡ false
    apart e h = ap is_eq (mark_total.congr (probe q a k) k x (is-equal (key_cmp q a k) h) ∙ e)

pub found-gone : (q : List ℕ) (a : ℕ) (k : Mark) (ws : List Mark) → mark_at q a (without_key mark_cmp k ws) ≡ cond (is_eq (key_cmp q a k)) None (mark_at q a ws)
found-gone q a k [] = nothing (is_eq (key_cmp q a k))
  where
    nothing : (b : Bool) → ◌≡◌ {A = Option Mark} None (cond b None None)
    nothing true = refl
    nothing false = refl
found-gone q a k (x ∷ ws) =
    let rest = found-gone q a k ws in
    elim (eq_by_cmp mark_cmp k x) as (λ b. eq_by_cmp mark_cmp k x ≡ b → mark_at q a (cond (not b) (x ∷ without_key mark_cmp k ws) (without_key mark_cmp k ws)) ≡ cond (is_eq (key_cmp q a k)) None (cond (is_eq (key_cmp q a x)) (Some x) (mark_at q a ws))) [
      | true ↦ λ e.
          rest ∙ same-if (is_eq (key_cmp q a k)) (is_eq (key_cmp q a x)) None (mark_at q a ws) (Some x) (sym (ap is_eq (alike_right mark_total k x (probe q a k) (is-equal (mark_cmp k x) e))))
      | false ↦ λ e.
          ap (cond (is_eq (key_cmp q a x)) (Some x)) rest
          ∙ cross (is_eq (key_cmp q a x)) (is_eq (key_cmp q a k)) (Some x) None (mark_at q a ws) (apart e)
    ] refl
  where
    apart : eq_by_cmp mark_cmp k x ≡ false → is_eq (key_cmp q a k) ≡ true → is_eq (key_cmp q a x) ≡ false
    apart e h = ap is_eq (mark_total.congr (probe q a k) k x (is-equal (key_cmp q a k) h)) ∙ e
