-- Lists of parts, by their number of decimals.
use Rattle.std.proofs.Common.{◌≡◌, ◌≢◌, ℕ, zero, suc, ◌+◌, ◌-◌, ◌*◌, ◌^◌, ◌<◌, ◌≤◌, ◌==◌, min, nat_lt, Bool, true, false, cond, List, [], ◌∷◌, ◌++◌, length, get_or, set, take, replicate, inl, inr, refl, sym, ap, subst, ◌∙◌, arith, eqb-true, eq-eqb, get_or-set_same, get_or-set_other, le-ltb}
use Rattle.std.proofs.lemmas.Bool.{cases_order, false≢true}
use Rattle.kept_turnover.specs.Keeping.{less_at, more_at, no_part, part_at, part_with, part_without, sum_in}
use Rattle.kept_turnover.specs.Moved.{in_units, whole}
use Rattle.kept_turnover.specs.declared.part.Part.{Part}
use Rattle.kept_turnover.proofs.Holding.{less_nothing}

-- nothing stands behind all
pub part_past : (ps : List Part) (n : ℕ) → length ps ≤ n → part_at ps n ≡ no_part
part_past [] n h = refl
part_past (p ∷ ps) zero h = absurd (omega (arith, h))
part_past (p ∷ ps) (suc n) h = part_past ps n (omega (arith, h))

-- a list that was filled up
pub part_filled : (ps : List Part) (k n : ℕ) → part_at (ps ++ replicate k no_part) n ≡ part_at ps n
part_filled [] zero n = refl
part_filled [] (suc k) zero = refl
part_filled [] (suc k) (suc n) = part_filled [] k n
part_filled (p ∷ ps) k zero = refl
part_filled (p ∷ ps) k (suc n) = part_filled ps k n

-- one place of a list changes
module _ (f : Bool → Part → Part) (same : (p : Part) → f false p ≡ p) (ps : List Part) (at : ℕ) (new : Part) (within : at < length ps) (is : new ≡ f true (part_at ps at)) where
  set_here : (n : ℕ) → (at == n) ≡ true → part_at (set ps at new) n ≡ f true (part_at ps n)
  set_here n e =
      let one : at ≡ n = eqb-true at n e in
      subst (λ (k : ℕ). part_at (set ps at new) k ≡ f true (part_at ps k)) one (get_or-set_same ps at new no_part within ∙ is)

  set_other : (n : ℕ) → (at == n) ≡ false → part_at (set ps at new) n ≡ f false (part_at ps n)
  set_other n e =
      let other : n ≢ at = λ one. false≢true (sym e ∙ eq-eqb at n (sym one)) in
      get_or-set_other ps at n new no_part other ∙ sym (same (part_at ps n))

  pub set_at : (n : ℕ) → part_at (set ps at new) n ≡ f (at == n) (part_at ps n)
  set_at n = elim (at == n) as (λ b. (at == n) ≡ b → part_at (set ps at new) n ≡ f b (part_at ps n)) [
    | true ↦ set_here n
    | false ↦ set_other n
  ] refl

pub more_set : (ps : List Part) (at m : ℕ) (new : Part) → at < length ps → new ≡ part_with (part_at ps at) m → (n : ℕ) → part_at (set ps at new) n ≡ more_at (at == n) m (part_at ps n)
more_set ps at m new within is = set_at (λ b p. more_at b m p) (λ p. refl) ps at new within is

pub less_set : (ps : List Part) (at m : ℕ) (new : Part) → at < length ps → new ≡ part_without (part_at ps at) m → (n : ℕ) → part_at (set ps at new) n ≡ less_at (at == n) m (part_at ps n)
less_set ps at m new within is = set_at (λ b p. less_at b m p) (λ p. refl) ps at new within is

-- nothing stands at a number of decimals that is past all
pub less_past : (ps : List Part) (at m : ℕ) → length ps ≤ at → (n : ℕ) → part_at ps n ≡ less_at (at == n) m (part_at ps n)
less_past ps at m past n = elim (at == n) as (λ b. (at == n) ≡ b → part_at ps n ≡ less_at b m (part_at ps n)) [
  | true ↦ λ e.
      let one = eqb-true at n e in
      less_nothing true m (part_at ps n) (part_past ps n (omega (arith, past, one)))
  | false ↦ λ e. refl
] refl

-- ---- all of them

abbrev pub counts : List Part → ℕ → ℕ
counts ps n = (part_at ps n).count

abbrev pub sums : List Part → ℕ → ℕ
sums ps n = sum_in (part_at ps n)

-- the sums so far, each 2^127 where that is less
pub record IsSummed (ps : List Part) (n sum all : ℕ) : Type 0 where
  pub sum_is : sum ≡ min (in_units (sums ps) n) (2 ^ 127)
  pub all_is : all ≡ min (whole (counts ps) (sums ps) n) (2 ^ 127)

pub summed_none : (ps : List Part) → IsSummed ps 0 0 0
summed_none ps = record { sum_is = omega arith; all_is = omega arith }

bounded : (x s : ℕ) → min (min x (2 ^ 127) * 10 + s) (2 ^ 127) ≡ min (x * 10 + s) (2 ^ 127)
bounded x s = omega arith

pub summed_more : (ps : List Part) (n sum all next chosen : ℕ) (p : Part) → p ≡ part_at ps n → next ≡ min (sum * 10 + sum_in p) (2 ^ 127) → chosen ≡ (cond (nat_lt 0 p.count) next all)
    → IsSummed ps n sum all → IsSummed ps (suc n) next chosen
summed_more ps n sum all next chosen p here more choice h =
    let next_is : next ≡ min (in_units (sums ps) (suc n)) (2 ^ 127) =
    more ∙ ap (λ (x : ℕ). min (x * 10 + sum_in p) (2 ^ 127)) h.sum_is ∙ bounded (in_units (sums ps) n) (sum_in p)
    ∙ ap (λ (x : Part). min (in_units (sums ps) n * 10 + sum_in x) (2 ^ 127)) here in
    record {
      sum_is = next_is;
      all_is = choice ∙ ap (λ (x : Part). cond (nat_lt 0 x.count) next all) here
          ∙ elim (nat_lt 0 (counts ps n)) as (λ b. cond b next all ≡ min (cond b (in_units (sums ps) (suc n)) (whole (counts ps) (sums ps) n)) (2 ^ 127)) [
            | true ↦ next_is
            | false ↦ h.all_is
          ];
    }

pub summed_within : (ps : List Part) (sum all : ℕ) → IsSummed ps (length ps) sum all → nat_lt all (2 ^ 127) ≡ nat_lt (whole (counts ps) (sums ps) (length ps)) (2 ^ 127)
summed_within ps sum all h = ap (λ (x : ℕ). nat_lt x (2 ^ 127)) h.all_is ∙ least (whole (counts ps) (sums ps) (length ps)) (2 ^ 127)
  where
    least : (x l : ℕ) → nat_lt (min x l) l ≡ nat_lt x l
    least x l = elim (cases_order x l) [
      | inl same ↦ let e : min x l ≡ x = omega (arith, same) in ap (λ (k : ℕ). nat_lt k l) e
      | inr (inl below) ↦ let e : min x l ≡ x = omega (arith, below) in ap (λ (k : ℕ). nat_lt k l) e
      | inr (inr above) ↦
          let e : min x l ≡ l = omega (arith, above) in
          ap (λ (k : ℕ). nat_lt k l) e ∙ le-ltb l l (omega arith) ∙ sym (le-ltb x l (omega (arith, above)))
    ]
