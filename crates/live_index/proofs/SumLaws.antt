-- Lists of sums by number of decimals, where one is put last or taken away.
use Rattle.std.proofs.Common.{◌≡◌, ℕ, zero, suc, ◌+◌, ◌-◌, ◌<◌, ◌≤◌, ◌+ℤ◌, pos, ◌==◌, cond, true, false, List, [], ◌∷◌, ◌++◌, length, take, inl, inr, refl, sym, ap, ◌∙◌, lit<, arith}
use Rattle.std.proofs.lemmas.Bool.{cases_lt}
use Rattle.std.proofs.lemmas.Bool.Decides.{nat_tests}
use Rattle.std.proofs.lemmas.Int.{int_wrap_fits}
use Rattle.std.specs.Int.{int_wrap, w128}
use Rattle.live_index.specs.declared.runs.Run.{Run}
use Rattle.live_index.specs.Runs.{before, AreTogether}
use Rattle.live_index.specs.Cells.{runs_in, AreSummed}

pub in-last : (sums : List (List Run)) (runs : List Run) → runs_in (sums ++ runs ∷ []) (length sums) ≡ runs
in-last [] runs = refl
in-last (other ∷ sums) runs = in-last sums runs

pub in-front : (sums : List (List Run)) (runs : List Run) (places : ℕ) → places < length sums → runs_in (sums ++ runs ∷ []) places ≡ runs_in sums places
in-front [] runs places h = absurd (omega arith)
in-front (other ∷ sums) runs zero h = refl
in-front (other ∷ sums) runs (suc places) h = in-front sums runs places (omega arith)

pub in-none : (sums : List (List Run)) (places : ℕ) → length sums ≤ places → runs_in sums places ≡ []
in-none [] places h = refl
in-none (other ∷ sums) zero h = absurd (omega arith)
in-none (other ∷ sums) (suc places) h = in-none sums places (omega arith)

length-last : (sums : List (List Run)) (runs : List Run) → length (sums ++ runs ∷ []) ≡ length sums + 1
length-last [] runs = refl
length-last (other ∷ sums) runs = ap suc (length-last sums runs) ∙ next (length sums)
  where
    next : (n : ℕ) → suc (n + 1) ≡ suc n + 1
    next n = omega arith

-- ---- the last taken away

less-suc : (sums : List (List Run)) (n places : ℕ) → length sums ≡ suc n → runs_in sums n ≡ [] → runs_in (take n sums) places ≡ runs_in sums places
less-suc [] n places e h = absurd (omega (arith, e))
less-suc (runs ∷ []) zero zero e h = sym h
less-suc (runs ∷ []) zero (suc places) e h = refl
less-suc (runs ∷ []) (suc n) places e h = absurd (omega (arith, e))
less-suc (runs ∷ more ∷ sums) zero places e h = absurd (omega (arith, e))
less-suc (runs ∷ more ∷ sums) (suc n) zero e h = refl
less-suc (runs ∷ more ∷ sums) (suc n) (suc places) e h = less-suc (more ∷ sums) n places (omega (arith, e)) h

pub runs_in-less : (sums : List (List Run)) (places : ℕ) → 0 < length sums → runs_in sums (length sums - 1) ≡ [] → runs_in (take (length sums - 1) sums) places ≡ runs_in sums places
runs_in-less sums places h e = less-suc sums (length sums - 1) places (omega (arith, h)) e

-- ---- no sums

abbrev pub AllNone : List (List Run) → Type 0
AllNone sums = (places : ℕ) → runs_in sums places ≡ []

pub none-last : (sums : List (List Run)) → AllNone sums → AllNone (sums ++ [] ∷ [])
none-last sums h places =
    elim (cases_lt places (length sums)) [
      | inl lt ↦ in-front sums [] places lt ∙ h places
      | inr ge ↦ past places ge
    ]
  where
    last-or-none : (n : ℕ) → runs_in ([] ∷ []) n ≡ []
    last-or-none zero = refl
    last-or-none (suc n) = refl

    beyond : (sums : List (List Run)) (places : ℕ) → length sums ≤ places → runs_in (sums ++ [] ∷ []) places ≡ []
    beyond [] places ge = last-or-none places
    beyond (other ∷ sums) zero ge = absurd (omega arith)
    beyond (other ∷ sums) (suc places) ge = beyond sums places (omega arith)

    past : (places : ℕ) → length sums ≤ places → runs_in (sums ++ [] ∷ []) places ≡ []
    past places ge = beyond sums places ge

-- ---- the sums of two cells

abbrev pub SummedUpto : List (List Run) → List (List Run) → List (List Run) → ℕ → Type 0
SummedUpto one two sums n =
    (places end : ℕ) → places < n → before (runs_in sums places) end ≡ int_wrap w128 (before (runs_in one places) end +ℤ before (runs_in two places) end)

pub summed-start : (one two : List (List Run)) → SummedUpto one two [] 0
summed-start one two places end lt = absurd (omega arith)

pub summed-more : (one two sums : List (List Run)) (runs : List Run) (n : ℕ) → length sums ≡ n → AreTogether (runs_in one n) (runs_in two n) runs → SummedUpto one two sums n → SummedUpto one two (sums ++ runs ∷ []) (n + 1)
summed-more one two sums runs n long are h places end lt =
    elim (cases_lt places n) [
      | inl below ↦ ap (λ (t : List Run). before t end) (in-front sums runs places (omega (arith, long, below))) ∙ h places end below
      | inr ge ↦
          let at : length sums ≡ places = omega (arith, long, ge, lt) in
          let same : n ≡ places = omega (arith, ge, lt) in
          ap (λ (t : List Run). before t end) (ap (runs_in (sums ++ runs ∷ [])) (sym at) ∙ in-last sums runs)
          ∙ are end
          ∙ ap (λ (k : ℕ). int_wrap w128 (before (runs_in one k) end +ℤ before (runs_in two k) end)) same
    ]

pub summed-length : (sums : List (List Run)) (runs : List Run) (n : ℕ) → length sums ≡ n → length (sums ++ runs ∷ []) ≡ n + 1
summed-length sums runs n e = length-last sums runs ∙ ap (λ (k : ℕ). k + 1) e

zero-wrap : int_wrap w128 (pos 0) ≡ pos 0
zero-wrap = int_wrap_fits w128 (pos 0) (record { sfits = lit< tt })

pub summed-all : (one two sums new : List (List Run)) (n : ℕ) → length sums ≡ n → length one ≤ n → length two ≤ n → SummedUpto one two sums n → ((places : ℕ) → runs_in new places ≡ runs_in sums places) → AreSummed one two new
summed-all one two sums new n long le within h same places end =
    ap (λ (t : List Run). before t end) (same places)
    ∙ elim (cases_lt places n) [
      | inl below ↦ h places end below
      | inr ge ↦
          ap (λ (t : List Run). before t end) (in-none sums places (omega (arith, long, ge)))
          ∙ sym zero-wrap
          ∙ (λ i. int_wrap w128 (before (sym (in-none one places (omega (arith, le, ge))) i) end +ℤ before (sym (in-none two places (omega (arith, within, ge))) i) end))
    ]

-- ---- sums put last

same-places : (a b : ℕ) → (a == b) ≡ true → a ≡ b
same-places a b e = grind (arith, nat_tests)

other-places : (a b : ℕ) → (a == b) ≡ false → a ≡ b → ⊥
other-places a b e h = grind (arith, nat_tests)

elsewhere : (sums : List (List Run)) (runs : List Run) (places : ℕ) → (length sums ≡ places → ⊥) → runs_in (sums ++ runs ∷ []) places ≡ runs_in sums places
elsewhere [] runs zero apart = absurd (apart refl)
elsewhere [] runs (suc places) apart = refl
elsewhere (other ∷ sums) runs zero apart = refl
elsewhere (other ∷ sums) runs (suc places) apart = elsewhere sums runs places (λ h. apart (ap suc h))

-- after empty lists
pub last-at : (none : List (List Run)) (runs : List Run) (p places : ℕ) → length none ≡ p → AllNone none → runs_in (none ++ runs ∷ []) places ≡ cond (p == places) runs []
last-at none runs p places long empty =
    elim (p == places) as (λ b. (p == places) ≡ b → runs_in (none ++ runs ∷ []) places ≡ cond b runs []) [
      | true ↦ λ e. ap (runs_in (none ++ runs ∷ [])) (sym (long ∙ same-places p places e)) ∙ in-last none runs
      | false ↦ λ e. elsewhere none runs places (λ h. other-places p places e (sym long ∙ h)) ∙ empty places
    ] refl
