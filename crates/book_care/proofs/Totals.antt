-- Sums over keys, each of which stands once.
use Rattle.std.proofs.Common.{◌≡◌, ℕ, ℤ, pos, ◌+ℤ◌, Bool, true, false, ◌||◌, cond, T, List, [], ◌∷◌, map, refl, sym, ap, subst, ◌∙◌, arith}
use Rattle.std.specs.declared.cmp.Ordering.{Ordering}
use Rattle.std.specs.Ordering.{is_lt, is_eq, eq_by_cmp, nat_cmp}
use Rattle.std.specs.Cmp.{IsTotalOrder}
use Rattle.std.specs.Cmp.Lexicographic.{slice_cmp, nat_list_cmp_total}
use Rattle.std.specs.List.{list_any}
use Rattle.std.specs.Str.{bytes_eq}
use Rattle.std.specs.FinMap.Entries.{below_all, is_sorted}
use Rattle.std.proofs.lemmas.Bool.{false≢true, or_parts}
use Rattle.std.proofs.lemmas.Cmp.{tied_itself}
use Rattle.std.proofs.lemmas.Int.{ints}
use Rattle.std.proofs.lemmas.Slice.Eq.{bytes_eq-Decides}
use Rattle.book.specs.Accounts.{account_cmp}
use Rattle.book.specs.Order.{each_once}
use Rattle.book.proofs.Accounts.{account_total, account_ties}
use Rattle.book.proofs.Entries.{text_ties, tie-bytes_eq}
use Rattle.book.proofs.Order.{is_equal, contains-each_once, sorted-each_once}
use Rattle.book.proofs.Places.{first, second}

-- a number where a test passes, else nothing
abbrev pub picked : Bool → ℤ → ℤ
picked b z = cond b z (pos 0)

-- the numbers of those keys that are this one
abbrev pub total_at : (List ℕ → ℤ) → List ℕ → List (List ℕ) → ℤ
total_at value a [] = pos 0
total_at value a (k ∷ ks) = picked (bytes_eq k a) (value k) +ℤ total_at value a ks

-- a key is among some
abbrev pub is_in : List ℕ → List (List ℕ) → Bool
is_in a ks = list_any (λ k. bytes_eq k a) ks

pub itself : (a : List ℕ) → bytes_eq a a ≡ true
itself a = (bytes_eq-Decides a a).1 refl

pub same_text : (a b : List ℕ) → bytes_eq a b ≡ true → a ≡ b
same_text a b e = (bytes_eq-Decides a b).0 e

pub zero_left : (z : ℤ) → pos 0 +ℤ z ≡ z
zero_left z = omega (arith, ints)

pub zero_right : (z : ℤ) → z +ℤ pos 0 ≡ z
zero_right z = omega (arith, ints)

-- no key is this one
pub none_at : (value : List ℕ → ℤ) (a : List ℕ) (ks : List (List ℕ)) → is_in a ks ≡ false → total_at value a ks ≡ pos 0
none_at value a [] h = refl
none_at value a (k ∷ ks) h =
    let parts = or_parts (bytes_eq k a) (is_in a ks) h in
    ap (λ b. picked b (value k) +ℤ total_at value a ks) parts.0
    ∙ zero_left (total_at value a ks)
    ∙ none_at value a ks parts.1

module _ {R : List ℕ → List ℕ → Ordering} (o : IsTotalOrder R) where
  no_less : (x k : List ℕ) → k ≡ x → T (is_lt (R x k)) → ⊥
  no_less x k same lt =
      let tied = ap (R x) same ∙ tied_itself o x in
      subst (λ (r : Ordering). T (is_lt r)) tied lt

  apart : (x k : List ℕ) → T (is_lt (R x k)) → bytes_eq k x ≡ false
  apart x k lt = by (bytes_eq k x) refl
    where
      by : (b : Bool) → bytes_eq k x ≡ b → b ≡ false
      by true e = absurd (no_less x k (same_text k x e) lt)
      by false e = refl

  below_none : (x : List ℕ) (ks : List (List ℕ)) → T (below_all R x (map (λ (k : List ℕ). (k, k)) ks)) → is_in x ks ≡ false
  below_none x [] h = refl
  below_none x (k ∷ ks) h =
      ap (λ b. b || is_in x ks) (apart x k (first _ _ h)) ∙ below_none x ks (second _ _ h)

  -- of keys that rise at most one is this one
  once : (value : List ℕ → ℤ) (a : List ℕ) (ks : List (List ℕ)) → T (is_sorted R (map (λ (k : List ℕ). (k, k)) ks)) → total_at value a ks ≡ picked (is_in a ks) (value a)
  once value a [] h = refl
  once value a (k ∷ ks) h =
      elim (bytes_eq k a) as (λ b. bytes_eq k a ≡ b → picked b (value k) +ℤ total_at value a ks ≡ picked (b || is_in a ks) (value a)) [
        | true ↦ λ e.
            (let same = same_text k a e in
            let rest : is_in a ks ≡ false = subst (λ (x : List ℕ). is_in x ks ≡ false) same (below_none k ks (first _ _ h)) in
            ap (λ z. value k +ℤ z) (none_at value a ks rest) ∙ zero_right (value k) ∙ ap value same)
        | false ↦ λ e. zero_left (total_at value a ks) ∙ once value a ks (second _ _ h)
      ] refl

-- accounts tie where their bytes are equal
tie-account : (q k : List ℕ) → eq_by_cmp account_cmp q k ≡ bytes_eq k q
tie-account q k = by (eq_by_cmp account_cmp q k) refl
  where
    differs : (b : Bool) → bytes_eq k q ≡ b → eq_by_cmp account_cmp q k ≡ false → b ≡ false
    differs true e untied =
        absurd (false≢true (sym untied ∙ subst (λ (x : List ℕ). eq_by_cmp account_cmp x k ≡ true) (same_text k q e) (ap is_eq (tied_itself account_total k))))
    differs false e untied = refl

    by : (b : Bool) → eq_by_cmp account_cmp q k ≡ b → b ≡ bytes_eq k q
    by true e = sym (subst (λ (x : List ℕ). bytes_eq x q ≡ true) (account_ties q k (is_equal _ e)) (itself q))
    by false e = sym (differs (bytes_eq k q) refl e)

-- keys in their order are those of the list
pub account_in : (a : List ℕ) (ks : List (List ℕ)) → is_in a (each_once account_cmp ks) ≡ is_in a ks
account_in a ks =
    (λ i. list_any (λ (k : List ℕ). sym (tie-account a k) i) (each_once account_cmp ks))
    ∙ contains-each_once account_ties ks a
    ∙ (λ i. list_any (λ (k : List ℕ). tie-account a k i) ks)

pub symbol_in : (a : List ℕ) (ks : List (List ℕ)) → is_in a (each_once (slice_cmp nat_cmp) ks) ≡ is_in a ks
symbol_in a ks =
    (λ i. list_any (λ (k : List ℕ). sym (tie-bytes_eq a k) i) (each_once (slice_cmp nat_cmp) ks))
    ∙ contains-each_once text_ties ks a
    ∙ (λ i. list_any (λ (k : List ℕ). tie-bytes_eq a k i) ks)

-- the total over accounts in their order, and over symbols
pub account_total_at : (value : List ℕ → ℤ) (a : List ℕ) (ks : List (List ℕ)) → total_at value a (each_once account_cmp ks) ≡ picked (is_in a ks) (value a)
account_total_at value a ks =
    once account_total value a (each_once account_cmp ks) (sorted-each_once account_ties (λ (k : List ℕ). k) account_total ks)
    ∙ ap (λ b. picked b (value a)) (account_in a ks)

pub symbol_total_at : (value : List ℕ → ℤ) (a : List ℕ) (ks : List (List ℕ)) → total_at value a (each_once (slice_cmp nat_cmp) ks) ≡ picked (is_in a ks) (value a)
symbol_total_at value a ks =
    once nat_list_cmp_total value a (each_once (slice_cmp nat_cmp) ks) (sorted-each_once text_ties (λ (k : List ℕ). k) nat_list_cmp_total ks)
    ∙ ap (λ b. picked b (value a)) (symbol_in a ks)
