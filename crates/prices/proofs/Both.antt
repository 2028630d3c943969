-- Each pair stands in both directions.
use Rattle.std.proofs.Common.{◌≡◌, ℕ, zero, suc, ◌+◌, ◌<◌, Bool, true, false, ◌||◌, not, List, [], ◌∷◌, ◌++◌, length, take, get_or, Option, Some, None, Result, Ok, Err, ◌⊎◌, inl, inr, refl, sym, ap, subst, ◌∙◌, arith, add-one}
use Rattle.std.specs.Prelude.{OnOk}
use Rattle.std.specs.List.Sorted.{IsPermutation}
use Rattle.std.proofs.lemmas.List.Folds.{list_any-append}
use Rattle.std.proofs.lemmas.List.Sorted.{list_any-IsPermutation}
use Rattle.prices.specs.declared.quote.Quote.{Quote}
use Rattle.prices.specs.Index.{is_pair, has_pair, HasBoth, Stands, is_new, turned_round, with_both}
use Rattle.prices.proofs.Texts.{true≢false}
use Rattle.prices.proofs.Keys.{pair_symbol, pair_target, pair_from}

or_first : (a b : Bool) → a ≡ true → (a || b) ≡ true
or_first a b h = ap (λ x. x || b) h

or_second : (a b : Bool) → b ≡ true → (a || b) ≡ true
or_second true b h = refl
or_second false b h = h

either_one : (a b : Bool) → (a || b) ≡ true → (a ≡ true) ⊎ (b ≡ true)
either_one true b h = inl refl
either_one false b h = inr h

has_left : (a b : List ℕ) (xs ys : List Quote) → has_pair a b xs ≡ true → has_pair a b (xs ++ ys) ≡ true
has_left a b xs ys h = list_any-append (is_pair a b) xs ys ∙ or_first _ _ h

has_right : (a b : List ℕ) (xs ys : List Quote) → has_pair a b ys ≡ true → has_pair a b (xs ++ ys) ≡ true
has_right a b xs ys h = list_any-append (is_pair a b) xs ys ∙ or_second _ _ h

has_last : (a b : List ℕ) (xs : List Quote) (q : Quote) → has_pair a b (xs ++ q ∷ []) ≡ true → (has_pair a b xs ≡ true) ⊎ (is_pair a b q ≡ true)
has_last a b xs q h = elim (either_one (has_pair a b xs) (is_pair a b q || false) (sym (list_any-append (is_pair a b) xs (q ∷ [])) ∙ h)) [
  | inl first ↦ inl first
  | inr last ↦ elim (either_one (is_pair a b q) false last) [ inl is ↦ inr is | inr isnt ↦ absurd (true≢false (sym isnt)) ]
]

-- a pair that is there already
pub both_old : (before : Option Quote) (q : Quote) (done pairs : List Quote) → is_new before q ≡ false → HasBoth done pairs → Stands before done → HasBoth (done ++ q ∷ []) pairs
both_old None q done pairs old both stands = absurd (true≢false old)
both_old (Some p) q done pairs old both stands = λ a b h. elim (has_last a b done q h) [
  | inl first ↦ both a b first
  | inr is ↦
      let like : is_pair q.symbol q.target p ≡ true = untold (is_pair q.symbol q.target p) old in
      let s : p.symbol ≡ a = pair_symbol q.symbol q.target p like ∙ pair_symbol a b q is in
      let t : p.target ≡ b = pair_target q.symbol q.target p like ∙ pair_target a b q is in
      both a b (subst (λ (x : List ℕ). has_pair x b done ≡ true) s (subst (λ (x : List ℕ). has_pair p.symbol x done ≡ true) t stands))
]
  where
    untold : (b : Bool) → not b ≡ false → b ≡ true
    untold true h = refl
    untold false h = absurd (true≢false h)

-- a new pair
pub both_new : (q : Quote) (done pairs : List Quote) → HasBoth done pairs → HasBoth (done ++ q ∷ []) (with_both q pairs)
both_new q done pairs both = λ a b h. elim (has_last a b done q h) [
  | inl first ↦ (has_left a b pairs _ (both a b first).0, has_left b a pairs _ (both a b first).1)
  | inr is ↦ (
    has_right a b pairs _ (or_first (is_pair a b q) _ is),
    has_right b a pairs _ (or_second (is_pair b a q) _ (or_first (is_pair b a (turned_round q)) false (pair_from b a (turned_round q) (pair_target a b q is) (pair_symbol a b q is)))),
  )
]

-- the price at hand stands
pub stands_last : (done : List Quote) (q : Quote) → has_pair q.symbol q.target (done ++ q ∷ []) ≡ true
stands_last done q = has_right q.symbol q.target done (q ∷ []) (or_first (is_pair q.symbol q.target q) false (pair_from q.symbol q.target q refl refl))

pub both_sorted : (quotes pairs sorted : List Quote) → IsPermutation pairs sorted → HasBoth quotes pairs → HasBoth quotes sorted
both_sorted quotes pairs sorted p both = λ a b h. (
  sym (list_any-IsPermutation (is_pair a b) pairs sorted p) ∙ (both a b h).0,
  sym (list_any-IsPermutation (is_pair b a) pairs sorted p) ∙ (both a b h).1,
)

take_push : {X : Type 0} (xs : List X) (i : ℕ) (x : X) → i < length xs → x ≡ get_or xs i x → take (suc i) xs ≡ take i xs ++ x ∷ []
take_push [] i x lt is = absurd (none i lt)
  where
    none : (i : ℕ) → i < 0 → ⊥
    none i h = omega arith
take_push (y ∷ ys) zero x lt is = ap (λ z. z ∷ []) (sym is)
take_push (y ∷ ys) (suc i) x lt is = ap (λ l. y ∷ l) (take_push ys i x (omega arith) is)

-- one more
pub take_more : {X : Type 0} (xs : List X) (i : ℕ) (x : X) → i < length xs → x ≡ get_or xs i x → take (i + 1) xs ≡ take i xs ++ x ∷ []
take_more xs i x lt is = ap (λ n. take n xs) (add-one i) ∙ take_push xs i x lt is

-- what follows after a call that answers Ok
pub on_ok : {T E P Q : Type 0} → (r : Result T E) → (P → Q) → OnOk r P → OnOk r Q
on_ok (Ok x) f h = f h
on_ok (Err e) f h = h
