-- The order of amounts: the least symbol in which two differ decides it, and it is total.
use Rattle.std.proofs.Common.{◌≡◌, ◌≢◌, ℕ, ℤ, pos, ◌+ℤ◌, Bool, true, false, ◌||◌, not, cond, T, List, [], ◌∷◌, ◌++◌, map, filter, ◌⊎◌, inl, inr, refl, sym, ap, subst, ◌∙◌}
use Rattle.std.specs.declared.cmp.Ordering.{Ordering}
use Rattle.std.specs.declared.cmp.Ordering.TheVariants.{Less, Equal, Greater}
use Rattle.std.specs.Ordering.{nat_cmp, int_cmp, int_eq, is_eq, eq_by_cmp, ordering_reverse, ordering_then}
use Rattle.std.specs.Cmp.{IsTotalOrder}
use Rattle.std.specs.Cmp.Lexicographic.{slice_cmp, nat_list_cmp_total}
use Rattle.std.specs.FinMap.{int_cmp-IsAntisymmetric}
use Rattle.std.specs.FinMap.Entries.{below_all, is_sorted}
use Rattle.std.specs.List.{list_any}
use Rattle.std.proofs.Math.IntN.{+ℤ_idl}
use Rattle.std.proofs.lemmas.Bool.{false≢true, or_parts}
use Rattle.std.proofs.lemmas.Cmp.{int_cmp_total, on_total, then_total, tied_itself}
use Rattle.book.specs.Accounts.{account_cmp}
use Rattle.book.specs.Order.{each_once}
use Rattle.book.proofs.Accounts.{account_total}
use Rattle.book.proofs.Entries.{text_ties, tie-bytes_eq}
use Rattle.book.proofs.Order.{contains-each_once, is_equal, sorted-each_once}
use Rattle.book.proofs.Places.{first, second, less}
use Rattle.report_cells.specs.Report.{Sums}
use Rattle.balance_rows.specs.Orders.{amount_cmp, by_first, differing}
use Rattle.balance_rows.specs.Sums.{share, sum_of, symbols_of}
use Rattle.balance_rows.proofs.Final.{no_sum}

-- ---- values by symbols

abbrev pub Values : Type 0
Values = List ℕ → ℤ

abbrev pub text_cmp : List ℕ → List ℕ → Ordering
text_cmp = slice_cmp nat_cmp

-- the least symbol in which they differ
pub record Splits (f g : Values) (symbol : List ℕ) : Type 0 where
  pub before : (q : List ℕ) → text_cmp q symbol ≡ Less → f q ≡ g q
  pub here : f symbol ≢ g symbol

pub record Apart (f g : Values) (r : Ordering) : Type 0 where
  pub symbol : List ℕ
  pub splits : Splits f g symbol
  pub is : r ≡ int_cmp (g symbol) (f symbol)

pub record Alike (f g : Values) (r : Ordering) : Type 0 where
  pub each : (q : List ℕ) → f q ≡ g q
  pub is : r ≡ Equal

-- how two compare, the greater first
abbrev pub Outcome : Values → Values → Ordering → Type 0
Outcome f g r = Alike f g r ⊎ Apart f g r

one_split : (f g : Values) (s t : List ℕ) → Splits f g s → Splits f g t → s ≡ t
one_split f g s t a b =
    elim (text_cmp s t) as (λ r. text_cmp s t ≡ r → s ≡ t) [
      | Less ↦ λ e. absurd (a.here (b.before s e))
      | Equal ↦ λ e. text_ties s t e
      | Greater ↦ λ e. absurd (b.here (a.before t (nat_list_cmp_total.antisymm t s ∙ ap ordering_reverse e)))
    ] refl

-- two answers are the same
pub one_outcome : (f g : Values) (r s : Ordering) → Outcome f g r → Outcome f g s → r ≡ s
one_outcome f g r s (inl a) (inl b) = a.is ∙ sym b.is
one_outcome f g r s (inl a) (inr b) = absurd (b.splits.here (a.each b.symbol))
one_outcome f g r s (inr a) (inl b) = absurd (a.splits.here (b.each a.symbol))
one_outcome f g r s (inr a) (inr b) =
    a.is ∙ ap (λ (q : List ℕ). int_cmp (g q) (f q)) (one_split f g a.symbol b.symbol a.splits b.splits) ∙ sym b.is

pub flipped : (f g : Values) (r : Ordering) → Outcome f g r → Outcome g f (ordering_reverse r)
flipped f g r (inl a) = inl (record { each = λ q. sym (a.each q); is = ap ordering_reverse a.is })
flipped f g r (inr a) = inr (record {
  symbol = a.symbol;
  splits = record { before = λ q lt. sym (a.splits.before q lt); here = λ e. a.splits.here (sym e) };
  is = ap ordering_reverse a.is ∙ sym (int_cmp_total.antisymm (f a.symbol) (g a.symbol));
})

carried : (f g h : Values) (r : Ordering) → ((q : List ℕ) → f q ≡ g q) → Outcome g h r → Outcome f h r
carried f g h r same (inl a) = inl (record { each = λ q. same q ∙ a.each q; is = a.is })
carried f g h r same (inr a) = inr (record {
  symbol = a.symbol;
  splits = record { before = λ q lt. same q ∙ a.splits.before q lt; here = λ e. a.splits.here (sym (same a.symbol) ∙ e) };
  is = a.is ∙ ap (int_cmp (h a.symbol)) (sym (same a.symbol));
})

int_itself : (x y : ℤ) → x ≡ y → int_cmp y x ≡ Equal
int_itself x y e = ap (λ (z : ℤ). int_cmp y z) e ∙ tied_itself int_cmp_total y

not_apart : (f g : Values) → Apart f g Equal → ⊥
not_apart f g a = a.splits.here (sym (int_cmp-IsAntisymmetric (g a.symbol) (f a.symbol) (sym a.is)))

must_split : (f g : Values) → Outcome f g Less → Apart f g Less
must_split f g (inl a) = absurd (let e : Less ≡ Equal = a.is in cc e)
must_split f g (inr a) = a

must_be_alike : (f g : Values) → Outcome f g Equal → (q : List ℕ) → f q ≡ g q
must_be_alike f g (inl a) = a.each
must_be_alike f g (inr a) = absurd (not_apart f g a)

module _ (f g h : Values) (a : Apart f g Less) (b : Apart g h Less) where
  -- the first one splits earlier
  by_one : text_cmp a.symbol b.symbol ≡ Less → Apart f h Less
  by_one e =
      let same : g a.symbol ≡ h a.symbol = b.splits.before a.symbol e in
      record {
        symbol = a.symbol;
        splits = record {
          before = λ q lt. a.splits.before q lt ∙ b.splits.before q (nat_list_cmp_total.trans q a.symbol b.symbol lt e);
          here = λ k. a.splits.here (k ∙ sym same);
        };
        is = a.is ∙ ap (λ (z : ℤ). int_cmp z (f a.symbol)) same;
      }

  -- the second one does
  by_other : text_cmp b.symbol a.symbol ≡ Less → Apart f h Less
  by_other e =
      let same : f b.symbol ≡ g b.symbol = a.splits.before b.symbol e in
      record {
        symbol = b.symbol;
        splits = record {
          before = λ q lt. a.splits.before q (nat_list_cmp_total.trans q b.symbol a.symbol lt e) ∙ b.splits.before q lt;
          here = λ k. b.splits.here (sym same ∙ k);
        };
        is = b.is ∙ ap (int_cmp (h b.symbol)) (sym same);
      }

  -- both split at one symbol
  by_both : a.symbol ≡ b.symbol → Apart f h Less
  by_both e =
      let later : Splits g h a.symbol = subst (Splits g h) (sym e) b.splits in
      let down : Less ≡ int_cmp (h a.symbol) (g a.symbol) = b.is ∙ ap (λ (q : List ℕ). int_cmp (h q) (g q)) (sym e) in
      let both : int_cmp (h a.symbol) (f a.symbol) ≡ Less = int_cmp_total.trans (h a.symbol) (g a.symbol) (f a.symbol) (sym down) (sym a.is) in
      record {
        symbol = a.symbol;
        splits = record {
          before = λ q lt. a.splits.before q lt ∙ later.before q lt;
          here = λ k. let no : Less ≡ Equal = sym both ∙ int_itself (f a.symbol) (h a.symbol) k in cc no;
        };
        is = sym both;
      }

  through : Apart f h Less
  through =
      elim (text_cmp a.symbol b.symbol) as (λ r. text_cmp a.symbol b.symbol ≡ r → Apart f h Less) [
        | Less ↦ λ e. by_one e
        | Equal ↦ λ e. by_both (text_ties a.symbol b.symbol e)
        | Greater ↦ λ e. by_other (nat_list_cmp_total.antisymm b.symbol a.symbol ∙ ap ordering_reverse e)
      ] refl

-- ---- the first symbol of a list in which two differ

abbrev member : List ℕ → List (List ℕ) → Bool
member q ks = list_any (eq_by_cmp text_cmp q) ks

abbrev in_pairs : List (List ℕ) → List (List ℕ × List ℕ)
in_pairs ks = map (λ (k : List ℕ). (k, k)) ks

is_this : (q k : List ℕ) → eq_by_cmp text_cmp q k ≡ true → q ≡ k
is_this q k e = text_ties q k (is_equal (text_cmp q k) e)

above_all : (k q : List ℕ) (ks : List (List ℕ)) → T (below_all text_cmp k (in_pairs ks)) → member q ks ≡ true → text_cmp k q ≡ Less
above_all k q [] h there = absurd (false≢true there)
above_all k q (x ∷ ks) h there =
    elim (eq_by_cmp text_cmp q x) as (λ b. eq_by_cmp text_cmp q x ≡ b → (b || member q ks) ≡ true → text_cmp k q ≡ Less) [
      | true ↦ λ e m. ap (text_cmp k) (is_this q x e) ∙ less _ (first _ _ h)
      | false ↦ λ e m. above_all k q ks (second _ _ h) m
    ] refl there

module _ (f g : Values) where
  abbrev differs : List ℕ → Bool
  differs q = not (int_eq (f q) (g q))

  record Found (ks : List (List ℕ)) : Type 0 where
    symbol : List ℕ
    others : List (List ℕ)
    is : filter differs ks ≡ symbol ∷ others
    here : f symbol ≢ g symbol
    before : (q : List ℕ) → member q ks ≡ true → text_cmp q symbol ≡ Less → f q ≡ g q

  record Nothing (ks : List (List ℕ)) : Type 0 where
    is : filter differs ks ≡ []
    each : (q : List ℕ) → member q ks ≡ true → f q ≡ g q

  same_by : (k q : List ℕ) (ks : List (List ℕ)) → f k ≡ g k → (member q ks ≡ true → f q ≡ g q) → member q (k ∷ ks) ≡ true → f q ≡ g q
  same_by k q ks same more there =
      elim (eq_by_cmp text_cmp q k) as (λ b. eq_by_cmp text_cmp q k ≡ b → (b || member q ks) ≡ true → f q ≡ g q) [
        | true ↦ λ e m. ap f (is_this q k e) ∙ same ∙ ap g (sym (is_this q k e))
        | false ↦ λ e m. more m
      ] refl there

  none_before : (k q : List ℕ) (ks : List (List ℕ)) → T (below_all text_cmp k (in_pairs ks)) → member q (k ∷ ks) ≡ true → text_cmp q k ≡ Less → ⊥
  none_before k q ks h there lt =
      elim (eq_by_cmp text_cmp q k) as (λ b. eq_by_cmp text_cmp q k ≡ b → (b || member q ks) ≡ true → ⊥) [
        | true ↦ λ e m. let no : Less ≡ Equal = sym lt ∙ is_equal (text_cmp q k) e in cc no
        | false ↦ λ e m.
            let no : Less ≡ Greater = sym lt ∙ nat_list_cmp_total.antisymm q k ∙ ap ordering_reverse (above_all k q ks h m) in
            cc no
      ] refl there

  scan-same : (k : List ℕ) (ks : List (List ℕ)) → int_eq (f k) (g k) ≡ true → Nothing ks ⊎ Found ks → Nothing (k ∷ ks) ⊎ Found (k ∷ ks)
  scan-same k ks e rest =
      let same : f k ≡ g k = int_cmp-IsAntisymmetric (f k) (g k) (is_equal (int_cmp (f k) (g k)) e) in
      let skip : filter differs (k ∷ ks) ≡ filter differs ks = ap (λ (b : Bool). cond (not b) (k ∷ filter differs ks) (filter differs ks)) e in
      elim rest [
        | inl none ↦ inl (record { is = skip ∙ none.is; each = λ q. same_by k q ks same (none.each q) })
        | inr found ↦ inr (record {
          symbol = found.symbol;
          others = found.others;
          is = skip ∙ found.is;
          here = found.here;
          before = λ q there lt. same_by k q ks same (λ m. found.before q m lt) there;
        })
      ]

  scan-apart : (k : List ℕ) (ks : List (List ℕ)) → int_eq (f k) (g k) ≡ false → T (below_all text_cmp k (in_pairs ks)) → Found (k ∷ ks)
  scan-apart k ks e h = record {
    symbol = k;
    others = filter differs ks;
    is = ap (λ (b : Bool). cond (not b) (k ∷ filter differs ks) (filter differs ks)) e;
    here = λ same. false≢true (sym e ∙ ap is_eq (int_itself (g k) (f k) (sym same)));
    before = λ q there lt. absurd (none_before k q ks h there lt);
  }

  scan : (ks : List (List ℕ)) → T (is_sorted text_cmp (in_pairs ks)) → Nothing ks ⊎ Found ks
  scan [] h = inl (record { is = refl; each = λ q there. absurd (false≢true there) })
  scan (k ∷ ks) h =
      elim (int_eq (f k) (g k)) as (λ b. int_eq (f k) (g k) ≡ b → Nothing (k ∷ ks) ⊎ Found (k ∷ ks)) [
        | true ↦ λ e. scan-same k ks e (scan ks (second _ _ h))
        | false ↦ λ e. inr (scan-apart k ks e (first _ _ h))
      ] refl

-- ---- the order of amounts

abbrev pub values : Sums → Values
values a q = sum_of q a

abbrev symbols : Sums → List (List ℕ)
symbols a = map (λ (e : List ℕ × ℤ). e.0) a

no_sum_left : (q : List ℕ) (a b : Sums) → member q (symbols (a ++ b)) ≡ false → sum_of q a ≡ pos 0
no_sum_left q [] b h = refl
no_sum_left q (e ∷ a) b h =
    let parts = or_parts (eq_by_cmp text_cmp q e.0) (member q (symbols (a ++ b))) h in
    ap (λ (z : ℤ). z +ℤ sum_of q a) (ap (λ (t : Bool). cond t e.1 (pos 0)) (sym (tie-bytes_eq q e.0) ∙ parts.0)) ∙ +ℤ_idl (sum_of q a) ∙ no_sum_left q a b parts.1

no_sum_right : (q : List ℕ) (a b : Sums) → member q (symbols (a ++ b)) ≡ false → sum_of q b ≡ pos 0
no_sum_right q [] b h = no_sum q b h
no_sum_right q (e ∷ a) b h = no_sum_right q a b (or_parts (eq_by_cmp text_cmp q e.0) (member q (symbols (a ++ b))) h).1

module _ (a b : Sums) where
  -- what holds of the symbols of both holds of all
  by_member : (q : List ℕ) → (member q (symbols_of (a ++ b)) ≡ true → values a q ≡ values b q) → values a q ≡ values b q
  by_member q there =
      elim (member q (symbols_of (a ++ b))) as (λ t. member q (symbols_of (a ++ b)) ≡ t → values a q ≡ values b q) [
        | true ↦ λ e. there e
        | false ↦ λ e.
            let none : member q (symbols (a ++ b)) ≡ false = sym (contains-each_once text_ties (symbols (a ++ b)) q) ∙ e in
            no_sum_left q a b none ∙ sym (no_sum_right q a b none)
      ] refl

  pub decided : Outcome (values a) (values b) (amount_cmp a b)
  decided =
      elim (scan (values a) (values b) (symbols_of (a ++ b)) (sorted-each_once text_ties (λ (k : List ℕ). k) nat_list_cmp_total (symbols (a ++ b)))) [
        | inl none ↦ inl (record { each = λ q. by_member q (none.each q); is = ap (by_first a b) none.is })
        | inr found ↦ inr (record {
          symbol = found.symbol;
          splits = record { before = λ q lt. by_member q (λ there. found.before q there lt); here = found.here };
          is = ap (by_first a b) found.is;
        })
      ]

-- what decides two amounts is their order
pub decided-is : (a b : Sums) (r : Ordering) → Outcome (values a) (values b) r → r ≡ amount_cmp a b
decided-is a b r o = one_outcome (values a) (values b) r (amount_cmp a b) o (decided a b)

pub amount_total : IsTotalOrder amount_cmp
amount_total = record {
  antisymm = λ a b. one_outcome (values a) (values b) (amount_cmp a b) (ordering_reverse (amount_cmp b a)) (decided a b) (flipped (values b) (values a) (amount_cmp b a) (decided b a));
  trans = λ a b c e k. one_outcome (values a) (values c) (amount_cmp a c) Less (decided a c)
      (inr (through (values a) (values b) (values c)
      (must_split (values a) (values b) (subst (Outcome (values a) (values b)) e (decided a b)))
      (must_split (values b) (values c) (subst (Outcome (values b) (values c)) k (decided b c)))));
  congr = λ a b c e. one_outcome (values a) (values c) (amount_cmp a c) (amount_cmp b c) (decided a c)
      (carried (values a) (values b) (values c) (amount_cmp b c) (must_be_alike (values a) (values b) (subst (Outcome (values a) (values b)) e (decided a b))) (decided b c));
}
