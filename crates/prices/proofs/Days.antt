-- The latest price of a symbol, and the greatest day.
use Rattle.std.proofs.Common.{◌≡◌, ℕ, zero, suc, ◌+◌, ◌-◌, ◌<◌, ◌≤◌, max, Bool, true, false, ◌||◌, cond, List, [], ◌∷◌, ◌++◌, length, take, drop, get_or, filter, Option, Some, inl, inr, refl, sym, ap, subst, ◌∙◌, arith}
use Rattle.std.specs.Prelude.{nat_le, ◌==◌}
use Rattle.std.specs.List.{list_all, list_any}
use Rattle.std.proofs.lemmas.Bool.{cases_lt}
use Rattle.std.proofs.lemmas.Bool.Decides.{Decides-eqb}
use Rattle.prices.specs.declared.quote.Quote.{Quote}
use Rattle.prices.specs.Quotes.{newer, newest, is_of, with_quote}
use Rattle.prices.proofs.Texts.{both_first, both_second, both_true, le_from, le_to}
use Rattle.prices.proofs.Both.{take_more}

filter_cons : (p : Quote → Bool) (q : Quote) (qs : List Quote) (b : Bool) → newest (cond b (q ∷ filter p qs) (filter p qs)) ≡ cond b (Some (newer q (newest (filter p qs)))) (newest (filter p qs))
filter_cons p q qs true = refl
filter_cons p q qs false = refl

drop_at : (qs : List Quote) (i : ℕ) (q : Quote) → i < length qs → q ≡ get_or qs i q → drop i qs ≡ q ∷ drop (suc i) qs
drop_at [] i q lt is = absurd (none i lt)
  where
    none : (i : ℕ) → i < 0 → ⊥
    none i h = omega arith
drop_at (x ∷ xs) zero q lt is = ap (λ (y : Quote). y ∷ xs) (sym is)
drop_at (x ∷ xs) (suc i) q lt is = drop_at xs i q (omega arith) is

-- one more price from the end
pub newest_more : (symbol : List ℕ) (day : ℕ) (qs : List Quote) (n : ℕ) (q : Quote) (best : Option Quote) → 0 < n → n ≤ length qs → q ≡ get_or qs (n - 1) q
    → best ≡ newest (filter (is_of symbol day) (drop n qs)) → with_quote symbol day q best ≡ newest (filter (is_of symbol day) (drop (n - 1) qs))
newest_more symbol day qs n q best above within is e =
    let next : n ≡ suc (n - 1) = omega arith in
    ap (with_quote symbol day q) (e ∙ ap (λ (m : ℕ). newest (filter (is_of symbol day) (drop m qs))) next)
    ∙ sym (filter_cons (is_of symbol day) q (drop (suc (n - 1)) qs) (is_of symbol day q))
    ∙ sym (ap (λ (l : List Quote). newest (filter (is_of symbol day) l)) (drop_at qs (n - 1) q (omega arith) is))

all_rise : (m n : ℕ) (qs : List Quote) → m ≤ n → list_all (λ q. nat_le q.day.0 m) qs ≡ true → list_all (λ q. nat_le q.day.0 n) qs ≡ true
all_rise m n [] le h = refl
all_rise m n (q ∷ qs) le h =
    let own : q.day.0 ≤ m = le_from q.day.0 m (both_first _ _ h) in
    both_true _ _ (le_to q.day.0 n (omega arith)) (all_rise m n qs le (both_second _ _ h))

all_last : (m : ℕ) (qs : List Quote) (q : Quote) → list_all (λ q. nat_le q.day.0 m) qs ≡ true → q.day.0 ≤ m → list_all (λ q. nat_le q.day.0 m) (qs ++ q ∷ []) ≡ true
all_last m [] q h le = both_true _ _ (le_to q.day.0 m le) refl
all_last m (r ∷ qs) q h le = both_true _ _ (both_first _ _ h) (all_last m qs q (both_second _ _ h) le)

or_later : (a b : Bool) → b ≡ true → (a || b) ≡ true
or_later true b h = refl
or_later false b h = h

any_at : (qs : List Quote) (i : ℕ) (q : Quote) → i < length qs → q ≡ get_or qs i q → list_any (λ r. r.day.0 == q.day.0) qs ≡ true
any_at [] i q lt is = absurd (none i lt)
  where
    none : (i : ℕ) → i < 0 → ⊥
    none i h = omega arith
any_at (x ∷ xs) zero q lt is = ap (λ b. b || list_any (λ r. r.day.0 == q.day.0) xs) ((Decides-eqb x.day.0 q.day.0).1 (sym (ap (λ (r : Quote). r.day.0) is)))
any_at (x ∷ xs) (suc i) q lt is = or_later (x.day.0 == q.day.0) _ (any_at xs i q (omega arith) is)

-- a day that is the greatest so far
pub record IsGreatest (qs : List Quote) (i day : ℕ) : Type 0 where
  pub greatest : list_all (λ q. nat_le q.day.0 day) (take i qs) ≡ true
  pub among : list_any (λ q. q.day.0 == day) qs ≡ true

pub greatest_start : (qs : List Quote) (q : Quote) → 0 < length qs → q ≡ get_or qs 0 q → IsGreatest qs 0 q.day.0
greatest_start qs q lt is = record { greatest = refl; among = any_at qs 0 q lt is }

pub greatest_more : (qs : List Quote) (i day : ℕ) (q : Quote) → i < length qs → q ≡ get_or qs i q → IsGreatest qs i day → IsGreatest qs (i + 1) (max day q.day.0)
greatest_more qs i day q lt is so_far = record {
  greatest = ap (list_all (λ r. nat_le r.day.0 (max day q.day.0))) (take_more qs i q lt is)
      ∙ all_last (max day q.day.0) (take i qs) q (all_rise day (max day q.day.0) (take i qs) (omega arith) so_far.greatest) (omega arith);
  among = elim (cases_lt day q.day.0) [
    | inl less ↦ let same : q.day.0 ≡ max day q.day.0 = omega arith in subst (λ (d : ℕ). list_any (λ r. r.day.0 == d) qs ≡ true) same (any_at qs i q lt is)
    | inr ge ↦ let same : day ≡ max day q.day.0 = omega arith in subst (λ (d : ℕ). list_any (λ r. r.day.0 == d) qs ≡ true) same so_far.among
  ];
}
