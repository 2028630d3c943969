-- What is kept under other numbers stays while an item is noted.
use Rattle.std.proofs.Common.{◌≡◌, ℕ, true, false, ◌&&◌, not, cond, List, [], ◌∷◌, Result, Ok, Err, eq-eqb, refl, sym, ap, ◌∙◌, subst}
use Rattle.std.specs.Prelude.{◌==◌, OnOk, OnErr}
use Rattle.std.specs.Str.{bytes_eq}
use Rattle.std.proofs.lemmas.Bool.{false≢true}
use Rattle.book.specs.declared.item.Item.{Item}
use Rattle.book.specs.declared.style.Style.{Style}
use Rattle.book.specs.declared.style.Styles.{Styles}
use Rattle.book.specs.Standing.{Numbered, Table, Keeps, IsSameBut, all_greater, is_free, with_number, without_number, kept_of, said_under, noted, forgotten}
use Rattle.book.specs.Style.{commodity_styles, default_styles, first_class, second_class}
use Rattle.book.specs.Styles.{AreOf, AreSameBut, without_item}
use Rattle.book.proofs.Kept.{kept-noted, kept-forgotten, said-without}

-- what is put under a number isn't there without it
without-with : {X : Type 0} (n : ℕ) (x : X) (ys : Numbered X) → without_number n (with_number n x ys) ≡ without_number n ys
without-with n x [] = ap (λ b. cond (not b) ((n, x) ∷ []) []) (eq-eqb n n refl)
without-with n x (y ∷ ys) =
    elim (all_greater n (y ∷ ys)) as (λ b. without_number n (cond b ((n, x) ∷ y ∷ ys) (y ∷ with_number n x ys)) ≡ without_number n (y ∷ ys)) [
      | true ↦ ap (λ b. cond (not b) ((n, x) ∷ without_number n (y ∷ ys)) (without_number n (y ∷ ys))) (eq-eqb n n refl)
      | false ↦ ap (λ t. cond (not (y.0 == n)) (y ∷ t) t) (without-with n x ys)
    ]

-- nothing goes where nothing stands under the number
without-free : {X : Type 0} (n : ℕ) (ys : Numbered X) → is_free n ys ≡ true → without_number n ys ≡ ys
without-free n [] free = refl
without-free n (y ∷ ys) free =
    elim (not (y.0 == n)) as (λ b. (b && is_free n ys) ≡ true → cond b (y ∷ without_number n ys) (without_number n ys) ≡ y ∷ ys) [
      | true ↦ λ h. ap (λ t. y ∷ t) (without-free n ys h)
      | false ↦ λ h. absurd (false≢true h)
    ] free

pub same-refl : (n : ℕ) (t : Table) → IsSameBut n t t
same-refl n t = record { kept = λ q. refl }

pub same-then : {n : ℕ} {a b c : Table} → IsSameBut n a b → IsSameBut n b c → IsSameBut n a c
same-then h k = record { kept = λ q. k.kept q ∙ h.kept q }

pub same-noted : (n : ℕ) (t : Table) (said : List ℕ × Style) → IsSameBut n t (noted n t said)
same-noted n t said = record {
  kept = λ q.
      ap (without_number n) (kept-noted n t said q)
      ∙ (elim (bytes_eq said.0 q) as (λ b. without_number n (cond b (with_number n said.1 (kept_of t q)) (kept_of t q)) ≡ without_number n (kept_of t q)) [
        | true ↦ without-with n said.1 (kept_of t q)
        | false ↦ refl
      ]);
}

-- whatever the noting answered
pub same-either : {X E : Type 0} (r : Result X E) (n : ℕ) (old new : Table) (said : List ℕ × Style) → OnOk r (new ≡ noted n old said) → OnErr r (new ≡ old) → IsSameBut n old new
same-either (Ok x) n old new said ok err = subst (λ (t : Table). IsSameBut n old t) (sym ok) (same-noted n old said)
same-either (Err e) n old new said ok err = subst (λ (t : Table). IsSameBut n old t) (sym err) (same-refl n old)

pub styles-same-refl : (n : ℕ) (styles : Styles) → AreSameBut n styles styles
styles-same-refl n styles = record {
  commodities = same-refl n styles.commodities;
  defaults = same-refl n styles.defaults;
  first = same-refl n styles.first;
  second = same-refl n styles.second;
}

-- without what was noted under a free number, the styles are those of the items before
pub AreOf-undone : (n : ℕ) (es : Numbered Item) (old new : Styles) → AreSameBut n old new → AreOf es old → is_free n es ≡ true → AreOf es (without_item n new)
AreOf-undone n es old new same h free = record {
  rise = h.rise;
  commodities = keeps commodity_styles old.commodities new.commodities same.commodities h.commodities;
  defaults = keeps default_styles old.defaults new.defaults same.defaults h.defaults;
  first = keeps first_class old.first new.first same.first h.first;
  second = keeps second_class old.second new.second same.second h.second;
}
  where
    keeps : (saying : Item → List (List ℕ × Style)) (a b : Table) → IsSameBut n a b → Keeps saying es a → Keeps saying es (forgotten n b)
    keeps saying a b s k q =
        kept-forgotten n b q
        ∙ s.kept q
        ∙ ap (without_number n) (k q)
        ∙ said-without saying n es q
        ∙ ap (λ (t : Numbered Item). said_under saying t q) (without-free n es free)
