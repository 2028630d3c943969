-- Sums and turnovers after one more value.
use Rattle.std.proofs.Common.{◌≡◌, ℕ, ◌<◌, ◌≤◌, ◌+◌, Bool, true, false, zero, suc, List, [], ◌∷◌, ◌++◌, map, length, get_or, take, drop, Result, Ok, Err, OnOk, IfErr, refl, sym, ap, ◌∙◌, subst, arith}
use Rattle.std.specs.List.{flat_map, list_all, AllByRecursion}
use Rattle.std.proofs.lemmas.Bool.{false≢true}
use Rattle.std.proofs.lemmas.List.{append_assoc, append-nil, take_more}
use Rattle.std.proofs.lemmas.Grind.{flat_map-append}
use Rattle.hl_num.specs.Decimal.{Decimal}
use Rattle.book.specs.Entries.{held}
use Rattle.book.specs.Mixed.{fits_with}
use Rattle.entry_balance.specs.Values.{Value, absolute, absolute_value}
use Rattle.entry_balance.specs.Tally.{sums_of, are_within, turnover_fits, added_to}
use Rattle.entry_balance.specs.Turnover.{IsTurnover}
use Rattle.entry_balance.proofs.Named.{left_true, right_true}
use Rattle.entry_balance.proofs.Turnover.{sums-push, can_add_at, fits-first}

pub false-from : (b : Bool) → (b ≡ true → ⊥) → b ≡ false
false-from true h = absurd (h refl)
false-from false h = refl

abs_abs : (vs : List Value) → map absolute_value (map absolute_value vs) ≡ map absolute_value vs
abs_abs [] = refl
abs_abs (v ∷ vs) = ap (λ t. absolute_value v ∷ t) (abs_abs vs)

abs-append : (xs ys : List Value) → map absolute_value (xs ++ ys) ≡ map absolute_value xs ++ map absolute_value ys
abs-append [] ys = refl
abs-append (x ∷ xs) ys = ap (λ t. absolute_value x ∷ t) (abs-append xs ys)

-- a sum that can't be added: the turnover is out of range
pub share_range : (before : List Value) (s : List ℕ) (v : Decimal) (old : List Value) → old ≡ sums_of before → fits_with (held s old) v ≡ false → turnover_fits (before ++ (s, v) ∷ []) ≡ false
share_range before s v old is differs =
    false-from _ (λ h. false≢true (sym differs ∙ ap (λ (es : List Value). fits_with (held s es) v) is ∙ can_add_at before s v [] h))

pub share_more : (before : List Value) (s : List ℕ) (v : Decimal) (old new : List Value) → old ≡ sums_of before → new ≡ added_to old s v → new ≡ sums_of (before ++ (s, v) ∷ [])
share_more before s v old new is added = added ∙ ap (λ (es : List Value). added_to es s v) is ∙ sym (sums-push before s v)

pub moved_range : (before : List Value) (s : List ℕ) (v : Decimal) (old : List Value) → IsTurnover before old → fits_with (held s old) (absolute v) ≡ false → turnover_fits (before ++ (s, v) ∷ []) ≡ false
moved_range before s v old h differs =
    let same : map absolute_value (map absolute_value before ++ (s, absolute v) ∷ []) ≡ map absolute_value (before ++ (s, v) ∷ []) =
    abs-append (map absolute_value before) ((s, absolute v) ∷ []) ∙ ap (λ (vs : List Value). vs ++ (s, absolute v) ∷ []) (abs_abs before) ∙ sym (abs-append before ((s, v) ∷ [])) in
    ap (λ (vs : List Value). are_within (sums_of vs)) (sym same) ∙ share_range (map absolute_value before) s (absolute v) old h.is differs

few-push : (before : List Value) (v : Value) → AllByRecursion (λ v. v.1.places ≤ 36) before → v.1.places ≤ 36 → AllByRecursion (λ v. v.1.places ≤ 36) (before ++ v ∷ [])
few-push [] v h k = (k, tt)
few-push (x ∷ before) v h k = (h.0, few-push before v h.1 k)

pub moved_more : (before : List Value) (s : List ℕ) (v : Decimal) (old new : List Value) → v.places ≤ 36 → (are_within old ≡ true → are_within new ≡ true) → new ≡ added_to old s (absolute v) → IsTurnover before old → IsTurnover (before ++ (s, v) ∷ []) new
moved_more before s v old new few within added h = record {
  is = share_more (map absolute_value before) s (absolute v) old new h.is added ∙ ap sums_of (sym (abs-append before ((s, v) ∷ [])));
  within = within h.within;
  few = few-push before (s, v) h.few few;
}

pub turnover_none : IsTurnover [] []
turnover_none = record { is = refl; within = refl; few = tt }

-- all that was moved fits
pub turnover_within : (before sums : List Value) → IsTurnover before sums → turnover_fits before ≡ true
turnover_within before sums h = ap are_within (sym h.is) ∙ h.within

module _ {X Y : Type 0} (f : X → List Y) where
  pub made-more : (xs : List X) (i : ℕ) (x : X) → i < length xs → x ≡ get_or xs i x → flat_map f (take (i + 1) xs) ≡ flat_map f (take i xs) ++ f x
  made-more xs i x h is =
      ap (flat_map f) (take_more xs i x h ∙ ap (λ (y : X). take i xs ++ y ∷ []) (sym is)) ∙ flat_map-append f (take i xs) (x ∷ []) ∙ ap (λ (ys : List Y). flat_map f (take i xs) ++ ys) (append-nil (f x))

  pub made-split : (xs : List X) (i : ℕ) → flat_map f xs ≡ flat_map f (take i xs) ++ flat_map f (drop i xs)
  made-split xs zero = refl
  made-split [] (suc i) = refl
  made-split (x ∷ xs) (suc i) = ap (λ (ys : List Y). f x ++ ys) (made-split xs i) ∙ sym (append_assoc (f x) (flat_map f (take i xs)) (flat_map f (drop i xs)))

-- what is read so far is out of range, so all is
pub whole_range : {X : Type 0} (f : X → List Value) (xs : List X) (i : ℕ) (x : X) → i < length xs → x ≡ get_or xs i x → turnover_fits (flat_map f (take i xs) ++ f x) ≡ false → turnover_fits (flat_map f xs) ≡ false
whole_range f xs i x h is differs =
    false-from _ (λ yes. false≢true (sym differs ∙ ap turnover_fits (sym (made-more f xs i x h is)) ∙ fits-first (flat_map f (take (i + 1) xs)) (flat_map f (drop (i + 1) xs)) (ap turnover_fits (sym (made-split f xs (i + 1))) ∙ yes)))

pub list_all-at : {X : Type 0} (p : X → Bool) (xs : List X) (i : ℕ) (d : X) → i < length xs → d ≡ get_or xs i d → list_all p xs ≡ true → p d ≡ true
list_all-at p [] i d h is all = absurd (omega arith)
list_all-at p (x ∷ xs) zero d h is all = ap p is ∙ left_true (p x) (list_all p xs) all
list_all-at p (x ∷ xs) (suc i) d h is all = list_all-at p xs i d (omega arith) is (right_true (p x) (list_all p xs) all)

pub take_past : {X : Type 0} (xs : List X) (i : ℕ) → length xs ≤ i → take i xs ≡ xs
take_past [] zero h = refl
take_past [] (suc i) h = refl
take_past (x ∷ xs) zero h = absurd (omega arith)
take_past (x ∷ xs) (suc i) h = ap (λ ys. x ∷ ys) (take_past xs i (omega arith))

pub on_ok : {T E : Type 0} {P Q : Type 0} (r : Result T E) → (P → Q) → OnOk r P → OnOk r Q
on_ok (Ok u) f h = f h
on_ok (Err e) f h = tt

pub on_both : {T E : Type 0} {P Q S : Type 0} (r : Result T E) → (P → Q → S) → OnOk r P → OnOk r Q → OnOk r S
on_both (Ok u) f h k = f h k
on_both (Err e) f h k = tt

pub if_err : {T E : Type 0} (P Q : E → Type 0) (r : Result T E) → ((e : E) → P e → Q e) → IfErr r P → IfErr r Q
if_err P Q (Ok u) f h = tt
if_err P Q (Err e) f h = f e h

-- a first part that is out of range
pub more_range : (before xs ys : List Value) → turnover_fits (before ++ xs) ≡ false → turnover_fits (before ++ (xs ++ ys)) ≡ false
more_range before xs ys differs = false-from _ (λ yes. false≢true (sym differs ∙ fits-first (before ++ xs) ys (ap turnover_fits (append_assoc before xs ys) ∙ yes)))

-- what is read so far is out of range after others, so all is
pub group_range : {X : Type 0} (f : X → List Value) (before : List Value) (xs : List X) (i : ℕ) (x : X) → i < length xs → x ≡ get_or xs i x → turnover_fits ((before ++ flat_map f (take i xs)) ++ f x) ≡ false → turnover_fits (before ++ flat_map f xs) ≡ false
group_range f before xs i x h is differs =
    ap (λ (vs : List Value). turnover_fits (before ++ vs)) (made-split f xs (i + 1) ∙ ap (λ (vs : List Value). vs ++ flat_map f (drop (i + 1) xs)) (made-more f xs i x h is))
    ∙ more_range before (flat_map f (take i xs) ++ f x) (flat_map f (drop (i + 1) xs)) (ap turnover_fits (sym (append_assoc before (flat_map f (take i xs)) (f x))) ∙ differs)

-- one more part of a turnover
pub group_more : {X : Type 0} (f : X → List Value) (before : List Value) (xs : List X) (i : ℕ) (x : X) (new : List Value) → i < length xs → x ≡ get_or xs i x → IsTurnover ((before ++ flat_map f (take i xs)) ++ f x) new → IsTurnover (before ++ flat_map f (take (i + 1) xs)) new
group_more f before xs i x new h is turnover =
    subst (λ (vs : List Value). IsTurnover vs new) (append_assoc before (flat_map f (take i xs)) (f x) ∙ ap (λ (vs : List Value). before ++ vs) (sym (made-more f xs i x h is))) turnover
