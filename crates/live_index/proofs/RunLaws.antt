-- Running sums by place, and days that are left out.
use Rattle.std.proofs.Common.{◌≡◌, ℕ, ℤ, zero, suc, ◌+◌, ◌-◌, ◌<◌, ◌≤◌, nat_lt, true, false, cond, List, [], ◌∷◌, length, get_or, refl, sym, ap, subst, ◌∙◌, arith}
use Rattle.std.proofs.lemmas.Bool.Decides.{nat_tests}
use Rattle.std.specs.Ordering.{int_eq}
use Rattle.std.specs.Cmp.{signed_Decides}
use Rattle.live_index.specs.declared.runs.Run.{Run}
use Rattle.live_index.specs.Runs.{IsRising, sum_from, place_in, sum_at, changed, EachChanges}

pub lt-true : (a b : ℕ) → a < b → nat_lt a b ≡ true
lt-true a b h = grind (arith, nat_tests)

pub lt-false : (a b : ℕ) → b ≤ a → nat_lt a b ≡ false
lt-false a b h = grind (arith, nat_tests)

pub lt-of : (a b : ℕ) → nat_lt a b ≡ true → a < b
lt-of a b h = grind (arith, nat_tests)

pub ge-of : (a b : ℕ) → nat_lt a b ≡ false → b ≤ a
ge-of a b h = grind (arith, nat_tests)

least-at : (runs : List Run) (least i : ℕ) (d : Run) → IsRising least runs → i < length runs → least ≤ (get_or runs i d).day.0
least-at [] least i d h lt = absurd (omega arith)
least-at (run ∷ runs) least zero d h lt = h.0
least-at (run ∷ runs) least (suc i) d h lt = omega (arith, h.0, least-at runs (run.day.0 + 1) i d h.1 (omega arith))

-- the days up to one before a day come before it
pub place-after : (runs : List Run) (least end i : ℕ) (d : Run) → IsRising least runs → i < length runs → (get_or runs i d).day.0 < end → i + 1 ≤ place_in runs end
place-after [] least end i d h lt k = absurd (omega arith)
place-after (run ∷ runs) least end zero d h lt k = rw (lt-true run.day.0 end k) (omega arith)
place-after (run ∷ runs) least end (suc i) d h lt k =
    let inside : i < length runs = omega arith in
    let rest = place-after runs (run.day.0 + 1) end i d h.1 inside k in
    let first : run.day.0 < end = omega (arith, least-at runs (run.day.0 + 1) i d h.1 inside, k) in
    rw (lt-true run.day.0 end first) (omega (arith, rest))

-- and those from one that doesn't come before it on don't
pub place-upto : (runs : List Run) (end i : ℕ) (d : Run) → i < length runs → end ≤ (get_or runs i d).day.0 → place_in runs end ≤ i
place-upto [] end i d lt k = absurd (omega arith)
place-upto (run ∷ runs) end zero d lt k = rw (lt-false run.day.0 end k) (omega arith)
place-upto (run ∷ runs) end (suc i) d lt k =
    let rest = place-upto runs end i d (omega arith) k in
    elim (nat_lt run.day.0 end) as (λ b. cond b (suc (place_in runs end)) 0 ≤ suc i) [ true ↦ omega (arith, rest) | false ↦ omega arith ]

pub place-within : (runs : List Run) (end : ℕ) → place_in runs end ≤ length runs
place-within [] end = omega arith
place-within (run ∷ runs) end =
    let rest = place-within runs end in
    elim (nat_lt run.day.0 end) as (λ b. cond b (suc (place_in runs end)) 0 ≤ suc (length runs)) [ true ↦ omega (arith, rest) | false ↦ omega arith ]

pub sum_at-suc : (earlier : ℤ) (runs : List Run) (i : ℕ) (d : Run) → i < length runs → sum_at earlier runs (suc i) ≡ (get_or runs i d).sum
sum_at-suc earlier [] i d lt = absurd (omega arith)
sum_at-suc earlier (run ∷ runs) zero d lt = refl
sum_at-suc earlier (run ∷ runs) (suc i) d lt = sum_at-suc run.sum runs i d (omega arith)

-- the last of the first days
pub sum_at-last : (earlier : ℤ) (runs : List Run) (place : ℕ) (d : Run) → 0 < place → place ≤ length runs → sum_at earlier runs place ≡ (get_or runs (place - 1) d).sum
sum_at-last earlier runs place d some within =
    let e : place ≡ suc (place - 1) = omega arith in
    ap (sum_at earlier runs) e ∙ sum_at-suc earlier runs (place - 1) d (omega arith)

-- the last sum before a day is the one at its place
pub sum_from-at : (earlier : ℤ) (runs : List Run) (end : ℕ) → sum_from earlier runs end ≡ sum_at earlier runs (place_in runs end)
sum_from-at earlier [] end = refl
sum_from-at earlier (run ∷ runs) end =
    let rest = sum_from-at run.sum runs end in
    elim (nat_lt run.day.0 end) as (λ b. cond b (sum_from run.sum runs end) earlier ≡ sum_at earlier (run ∷ runs) (cond b (suc (place_in runs end)) 0)) [ true ↦ rest | false ↦ refl ]

-- ---- days that are left out

-- before the first day there is only the earlier sum
pub sum_from-least : (earlier : ℤ) (runs : List Run) (least end : ℕ) → IsRising least runs → end ≤ least → sum_from earlier runs end ≡ earlier
sum_from-least earlier [] least end h le = refl
sum_from-least earlier (run ∷ runs) least end h le = rw (lt-false run.day.0 end (omega (arith, h.0, le))) refl

-- a day that is left out because its sum doesn't change tells nothing new
pub changed-law : (earlier : ℤ) (run : Run) (runs : List Run) (end : ℕ) → IsRising (run.day.0 + 1) runs → sum_from earlier (changed earlier run runs) end ≡ sum_from earlier (run ∷ runs) end
changed-law earlier run runs end h =
    elim (int_eq run.sum earlier) as (λ b. int_eq run.sum earlier ≡ b → sum_from earlier (cond b runs (run ∷ runs)) end ≡ sum_from earlier (run ∷ runs) end) [
      | true ↦ λ e.
          let same : run.sum ≡ earlier = (signed_Decides run.sum earlier).0 e in
          elim (nat_lt run.day.0 end) as (λ t. nat_lt run.day.0 end ≡ t → sum_from earlier runs end ≡ cond t (sum_from run.sum runs end) earlier) [
            | true ↦ λ _. ap (λ (z : ℤ). sum_from z runs end) (sym same)
            | false ↦ λ t. sum_from-least earlier runs (run.day.0 + 1) end h (omega (arith, ge-of run.day.0 end t))
          ] refl
      | false ↦ λ _. refl
    ] refl

pub changed-rising : (least : ℕ) (earlier : ℤ) (run : Run) (runs : List Run) → least ≤ run.day.0 → IsRising (run.day.0 + 1) runs → IsRising least (changed earlier run runs)
changed-rising least earlier run runs le h =
    elim (int_eq run.sum earlier) as (λ b. IsRising least (cond b runs (run ∷ runs))) [ true ↦ lower runs (run.day.0 + 1) least (omega (arith, le)) h | false ↦ (le, h) ]
  where
    lower : (runs : List Run) (more least : ℕ) → least ≤ more → IsRising more runs → IsRising least runs
    lower [] more least le h = tt
    lower (run ∷ runs) more least le h = (omega (arith, h.0, le), h.1)

pub changed-changes : (earlier : ℤ) (run : Run) (runs : List Run) → EachChanges run.sum runs → EachChanges earlier (changed earlier run runs)
changed-changes earlier run runs h =
    elim (int_eq run.sum earlier) as (λ b. int_eq run.sum earlier ≡ b → EachChanges earlier (cond b runs (run ∷ runs))) [
      | true ↦ λ e. subst (λ (z : ℤ). EachChanges z runs) ((signed_Decides run.sum earlier).0 e) h
      | false ↦ λ e. (e, h)
    ] refl
