-- Balances after one more posting, and what they ask for.
use Rattle.std.proofs.Common.{◌≡◌, ℕ, ◌+◌, ◌<◌, Bool, true, false, cond, List, [], ◌∷◌, ◌++◌, length, get_or, take, Option, Some, None, is_some, refl, sym, ap, ◌∙◌, subst}
use Rattle.std.specs.List.{list_all}
use Rattle.std.proofs.lemmas.Bool.{false≢true}
use Rattle.std.proofs.lemmas.Grind.{flat_map-append}
use Rattle.std.proofs.lemmas.List.{append-nil, take_more}
use Rattle.book.specs.Entries.{held}
use Rattle.book.specs.declared.amount.Amount.{Amount}
use Rattle.book.specs.declared.amount.Assertion.{Assertion}
use Rattle.book.specs.declared.transaction.Posting.{Posting}
use Rattle.book.specs.declared.transaction.Txn.{Txn}
use Rattle.entry_balance.specs.Values.{Value, value_of, cost_values}
use Rattle.entry_balance.specs.Tally.{turnover_fits}
use Rattle.entry_balance.specs.Entry.{from_amount, moved, moved_by}
use Rattle.entry_balance.proofs.Adding.{false-from}
use Rattle.entry_balance.proofs.Covers.{Covers, covered-fits, covers_none, covers_left, covers_both}
use Rattle.entry_balance.proofs.Named.{both_true, left_true, right_true}
use Rattle.assertions.specs.Assertions.{counts_for, held_by, held_in}
use Rattle.assertions.specs.Kept.{Keeping, IsKept, IsBalance, Stays, and_at, and_under, keeps, is_asked, is_asked_by, are_asked}
use Rattle.assertions.proofs.Keeping.{kept_same}

-- ---- one more posting

held-more : (below : Bool) (root : List ℕ) (seen : List Posting) (p : Posting) → held_in below root (seen ++ p ∷ []) ≡ held_in below root seen ++ held_by below root p
held-more below root seen p = flat_map-append (held_by below root) seen (p ∷ []) ∙ ap (λ (vs : List Value). held_in below root seen ++ vs) (append-nil (held_by below root p))

held-some : (below : Bool) (root : List ℕ) (p : Posting) (a : Amount) → p.amount ≡ Some a → held_by below root p ≡ cond (counts_for below root p.account) (value_of a ∷ []) []
held-some below root p a is = ap (λ (o : Option Amount). cond (counts_for below root p.account) (from_amount (λ a. value_of a ∷ []) o) []) is

pub balance_more : (seen : List Posting) (p : Posting) (a : Amount) (own below : Keeping) → p.amount ≡ Some a → IsKept (and_at (λ r. held_in false r seen) p.account (value_of a)) own → IsKept (and_under (λ r. held_in true r seen) p.account (value_of a)) below → IsBalance (seen ++ p ∷ []) own below
balance_more seen p a own below is alone under = record {
  alone = kept_same _ _ own (λ r. sym (held-more false r seen p ∙ ap (λ (vs : List Value). held_in false r seen ++ vs) (held-some false r p a is))) alone;
  under = kept_same _ _ below (λ r. sym (held-more true r seen p ∙ ap (λ (vs : List Value). held_in true r seen ++ vs) (held-some true r p a is))) under;
}

pub balance_none : (seen : List Posting) (p : Posting) (own below : Keeping) → p.amount ≡ None → IsBalance seen own below → IsBalance (seen ++ p ∷ []) own below
balance_none seen p own below is h = record {
  alone = kept_same _ _ own (λ r. sym (held-more false r seen p ∙ ap (λ (vs : List Value). held_in false r seen ++ vs) (nothing false r) ∙ append-nil (held_in false r seen))) h.alone;
  under = kept_same _ _ below (λ r. sym (held-more true r seen p ∙ ap (λ (vs : List Value). held_in true r seen ++ vs) (nothing true r) ∙ append-nil (held_in true r seen))) h.under;
}
  where
    none-of : (b : Bool) → cond {A = List Value} b [] [] ≡ []
    none-of true = refl
    none-of false = refl

    nothing : (b : Bool) (r : List ℕ) → held_by b r p ≡ []
    nothing b r = ap (λ (o : Option Amount). cond (counts_for b r p.account) (from_amount (λ a. value_of a ∷ []) o) []) is ∙ none-of (counts_for b r p.account)

covers_held_by : (below : Bool) (root : List ℕ) (p : Posting) → Covers (moved_by p) (held_by below root p)
covers_held_by below root p = by (counts_for below root p.account)
  where
    amount : (o : Option Amount) → Covers (from_amount (λ a. value_of a ∷ cost_values a p.cost) o) (from_amount (λ a. value_of a ∷ []) o)
    amount None = covers_none []
    amount (Some a) = covers_left (value_of a ∷ []) (cost_values a p.cost)

    by : (b : Bool) → Covers (moved_by p) (cond b (from_amount (λ a. value_of a ∷ []) p.amount) [])
    by true = amount p.amount
    by false = covers_none _

pub covers_held : (below : Bool) (root : List ℕ) (ps : List Posting) → Covers (moved ps) (held_in below root ps)
covers_held below root [] = covers_none []
covers_held below root (p ∷ ps) = covers_both (held_by below root p) (moved_by p) (held_in below root ps) (moved ps) (covers_held_by below root p) (covers_held below root ps)

-- a sum of an account is out of range, so what is moved is
pub balance_range : (below : Bool) (root : List ℕ) (seen : List Posting) (p : Posting) (a : Amount) → p.amount ≡ Some a → turnover_fits (held_in below root seen ++ value_of a ∷ []) ≡ false → turnover_fits (moved (seen ++ p ∷ [])) ≡ false
balance_range below root seen p a is range = false-from _ (λ fits. false≢true (sym range ∙ covered-fits (moved (seen ++ p ∷ [])) (held_in below root seen ++ value_of a ∷ [])
    (subst (λ (vs : List Value). Covers vs (held_in below root seen ++ value_of a ∷ [])) (sym (flat_map-append moved_by seen (p ∷ []) ∙ ap (λ (vs : List Value). moved seen ++ vs) (append-nil (moved_by p))))
    (covers_both (held_in below root seen) (moved seen) (value_of a ∷ []) (moved_by p) (covers_held below root seen)
    (subst (λ (o : Option Amount). Covers (from_amount (λ a. value_of a ∷ cost_values a p.cost) o) (value_of a ∷ [])) (sym is) (covers_left (value_of a ∷ []) (cost_values a p.cost))))) fits))

-- ---- what is asked for

pub stays_own : (own own' below : Keeping) → ((a : List ℕ) → keeps a own ≡ true → keeps a own' ≡ true) → Stays own below own' below
stays_own own own' below more = record { asked = λ p h. by p.account p.wanted h }
  where
    each : (a : List ℕ) (b : Bool) → cond b (keeps a below) (keeps a own) ≡ true → cond b (keeps a below) (keeps a own') ≡ true
    each a true h = h
    each a false h = more a h

    by : (a : List ℕ) (o : Option Assertion) → is_asked_by own below a o ≡ true → is_asked_by own' below a o ≡ true
    by a None h = refl
    by a (Some w) h = each a w.below h

pub stays_below : (own below below' : Keeping) → ((a : List ℕ) → keeps a below ≡ true → keeps a below' ≡ true) → Stays own below own below'
stays_below own below below' more = record { asked = λ p h. by p.account p.wanted h }
  where
    each : (a : List ℕ) (b : Bool) → cond b (keeps a below) (keeps a own) ≡ true → cond b (keeps a below') (keeps a own) ≡ true
    each a true h = more a h
    each a false h = h

    by : (a : List ℕ) (o : Option Assertion) → is_asked_by own below a o ≡ true → is_asked_by own below' a o ≡ true
    by a None h = refl
    by a (Some w) h = each a w.below h

pub stays_all : (own below own' below' own'' below'' : Keeping) → Stays own below own' below' → Stays own' below' own'' below'' → Stays own below own'' below''
stays_all own below own' below' own'' below'' h k = record { asked = λ p e. k.asked p (h.asked p e) }

pub stays_same : (own below : Keeping) → Stays own below own below
stays_same own below = record { asked = λ p e. e }

pub each-more : {X : Type 0} (f g : X → Bool) (xs : List X) (i : ℕ) (x : X) → i < length xs → x ≡ get_or xs i x → ((y : X) → f y ≡ true → g y ≡ true) → list_all f (take i xs) ≡ true → g x ≡ true → list_all g (take (i + 1) xs) ≡ true
each-more {X = X} f g xs i x less is more h here =
    ap (list_all g) (take_more xs i x less ∙ ap (λ y. take i xs ++ y ∷ []) (sym is)) ∙ joined (take i xs) (weaker (take i xs) h)
  where
    weaker : (ys : List X) → list_all f ys ≡ true → list_all g ys ≡ true
    weaker [] e = refl
    weaker (y ∷ ys) e = both_true _ _ (more y (left_true (f y) (list_all f ys) e)) (weaker ys (right_true (f y) (list_all f ys) e))

    joined : (ys : List X) → list_all g ys ≡ true → list_all g (ys ++ x ∷ []) ≡ true
    joined [] e = both_true _ _ here refl
    joined (y ∷ ys) e = both_true _ _ (left_true (g y) (list_all g ys) e) (joined ys (right_true (g y) (list_all g ys) e))

pub each-stays : (f g : Posting → Bool) (ps : List Posting) → ((p : Posting) → f p ≡ true → g p ≡ true) → list_all f ps ≡ true → list_all g ps ≡ true
each-stays f g [] more h = refl
each-stays f g (p ∷ ps) more h = both_true _ _ (more p (left_true (f p) (list_all f ps) h)) (each-stays f g ps more (right_true (f p) (list_all f ps) h))

pub asked_same : (own below own' below' : Keeping) (p : Posting) → own'.1 ≡ own.1 → below'.1 ≡ below.1 → is_asked own' below' p ≡ is_asked own below p
asked_same own below own' below' p same_own same_below = by p.account p.wanted
  where
    each : (a : List ℕ) (b : Bool) → cond b (keeps a below') (keeps a own') ≡ cond b (keeps a below) (keeps a own)
    each a true = ap (λ (es : List (List ℕ × ℕ)). is_some (held a es)) same_below
    each a false = ap (λ (es : List (List ℕ × ℕ)). is_some (held a es)) same_own

    by : (a : List ℕ) (o : Option Assertion) → is_asked_by own' below' a o ≡ is_asked_by own below a o
    by a None = refl
    by a (Some w) = each a w.below

pub are_asked_same : (own below own' below' : Keeping) (txns : List Txn) → own'.1 ≡ own.1 → below'.1 ≡ below.1 → are_asked own below txns ≡ true → are_asked own' below' txns ≡ true
are_asked_same own below own' below' [] same_own same_below h = refl
are_asked_same own below own' below' (t ∷ txns) same_own same_below h =
    both_true _ _ (each-stays _ _ t.postings (λ p e. asked_same own below own' below' p same_own same_below ∙ e) (left_true (list_all (is_asked own below) t.postings) (are_asked own below txns) h))
    (are_asked_same own below own' below' txns same_own same_below (right_true (list_all (is_asked own below) t.postings) (are_asked own below txns) h))
