-- The order of places by day and number.
use Rattle.std.proofs.Common.{◌≡◌, ℕ, ◌<◌, ◌≤◌, ◌==◌, nat_lt, Bool, true, false, ◌&&◌, ◌||◌, not, ◌⊎◌, inl, inr, refl, sym, ap, ◌∙◌, arith}
use Rattle.std.proofs.lemmas.Bool.{false≢true, cases_order, eq-eqb, eqb-true, lt-ltb, ltb-false, ltb-true, or_cases, true_from_ne_false}
use Rattle.book.specs.SumsBefore as sums
use Rattle.watchers.proofs.Tests.{and-both, and-first, and-second, not-true, or-first, or-left, or-right, or-second}
use Rattle.reached_walk.specs.declared.place.Spot.{Spot}
use Rattle.reached_walk.specs.Spots.{is_before, is_same}

abbrev lt2 : ℕ → ℕ → ℕ → ℕ → Bool
lt2 d n e m = nat_lt d e || ((d == e) && nat_lt n m)

abbrev Lt : ℕ → ℕ → ℕ → ℕ → Type 0
Lt d n e m = (d < e) ⊎ ((d ≡ e) × (n < m))

abbrev Ge : ℕ → ℕ → ℕ → ℕ → Type 0
Ge d n e m = (e < d) ⊎ ((d ≡ e) × (m ≤ n))

to-lt : (d n e m : ℕ) → lt2 d n e m ≡ true → Lt d n e m
to-lt d n e m h =
    elim (or_cases (nat_lt d e) ((d == e) && nat_lt n m) h) as (λ _. Lt d n e m) [
      | inl a ↦ inl (ltb-true d e a)
      | inr b ↦ inr (eqb-true d e (and-first (d == e) (nat_lt n m) b), ltb-true n m (and-second (d == e) (nat_lt n m) b))
    ]

from-lt : (d n e m : ℕ) → Lt d n e m → lt2 d n e m ≡ true
from-lt d n e m (inl a) = or-left (nat_lt d e) ((d == e) && nat_lt n m) (lt-ltb d e a)
from-lt d n e m (inr b) =
    or-right (nat_lt d e) ((d == e) && nat_lt n m) (and-both (d == e) (nat_lt n m) (eq-eqb d e b.0) (lt-ltb n m b.1))

pub and-rest : (a b : Bool) → a ≡ true → (a && b) ≡ false → b ≡ false
and-rest true b p h = h
and-rest false b p h = absurd (false≢true p)

to-ge : (d n e m : ℕ) → lt2 d n e m ≡ false → Ge d n e m
to-ge d n e m h =
    let late : e ≤ d = ltb-false d e (or-first (nat_lt d e) ((d == e) && nat_lt n m) h) in
    elim (cases_order d e) as (λ _. Ge d n e m) [
      | inl same ↦ inr (same, ltb-false n m (and-rest (d == e) (nat_lt n m) (eq-eqb d e same) (or-second (nat_lt d e) ((d == e) && nat_lt n m) h)))
      | inr other ↦ elim other as (λ _. Ge d n e m) [
        | inl less ↦ absurd (omega arith)
        | inr more ↦ inl more
      ]
    ]

clash : (d n e m : ℕ) → Lt d n e m → Ge d n e m → ⊥
clash d n e m (inl a) (inl b) = absurd (omega arith)
clash d n e m (inl a) (inr b) = let same = b.0 in absurd (omega arith)
clash d n e m (inr a) (inl b) = let same = a.0 in absurd (omega arith)
clash d n e m (inr a) (inr b) = let less = a.1 in let more = b.1 in absurd (omega arith)

from-ge : (d n e m : ℕ) → Ge d n e m → lt2 d n e m ≡ false
from-ge d n e m g = not-true (lt2 d n e m) (λ k. clash d n e m (to-lt d n e m k) g)

trans : (d n e m f k : ℕ) → Lt d n e m → Lt e m f k → Lt d n f k
trans d n e m f k (inl a) (inl b) = inl (omega arith)
trans d n e m f k (inl a) (inr b) = let same = b.0 in inl (omega arith)
trans d n e m f k (inr a) (inl b) = let same = a.0 in inl (omega arith)
trans d n e m f k (inr a) (inr b) = let less = a.1 in let more = b.1 in inr (a.0 ∙ b.0, omega arith)

lt-ge : (d n e m f k : ℕ) → Lt d n e m → Ge f k e m → Lt d n f k
lt-ge d n e m f k (inl a) (inl b) = inl (omega arith)
lt-ge d n e m f k (inl a) (inr b) = let same = b.0 in inl (omega arith)
lt-ge d n e m f k (inr a) (inl b) = let same = a.0 in inl (omega arith)
lt-ge d n e m f k (inr a) (inr b) = let less = a.1 in let more = b.1 in inr (a.0 ∙ sym b.0, omega arith)

ge-lt : (d n e m f k : ℕ) → Ge e m d n → Lt e m f k → Lt d n f k
ge-lt d n e m f k (inl a) (inl b) = inl (omega arith)
ge-lt d n e m f k (inl a) (inr b) = let same = b.0 in inl (omega arith)
ge-lt d n e m f k (inr a) (inl b) = let same = a.0 in inl (omega arith)
ge-lt d n e m f k (inr a) (inr b) = let less = a.1 in let more = b.1 in inr (sym a.0 ∙ b.0, omega arith)

ge-ge : (d n e m : ℕ) → Ge d n e m → Ge e m d n → (d ≡ e) × (n ≡ m)
ge-ge d n e m (inl a) (inl b) = absurd (omega arith)
ge-ge d n e m (inl a) (inr b) = let same = b.0 in absurd (omega arith)
ge-ge d n e m (inr a) (inl b) = let same = a.0 in absurd (omega arith)
ge-ge d n e m (inr a) (inr b) = let less = a.1 in let more = b.1 in (a.0, omega arith)

-- ---- places

pub through : (a b c : Spot) → is_before a b ≡ true → is_before b c ≡ true → is_before a c ≡ true
through a b c h k =
    from-lt a.day.0 a.number c.day.0 c.number
    (trans a.day.0 a.number b.day.0 b.number c.day.0 c.number (to-lt a.day.0 a.number b.day.0 b.number h) (to-lt b.day.0 b.number c.day.0 c.number k))

-- before one, which isn't after another
pub onto : (a b c : Spot) → is_before a b ≡ true → is_before c b ≡ false → is_before a c ≡ true
onto a b c h k =
    from-lt a.day.0 a.number c.day.0 c.number
    (lt-ge a.day.0 a.number b.day.0 b.number c.day.0 c.number (to-lt a.day.0 a.number b.day.0 b.number h) (to-ge c.day.0 c.number b.day.0 b.number k))

-- not after one, which is before another
pub under : (a b c : Spot) → is_before b a ≡ false → is_before b c ≡ true → is_before a c ≡ true
under a b c h k =
    from-lt a.day.0 a.number c.day.0 c.number
    (ge-lt a.day.0 a.number b.day.0 b.number c.day.0 c.number (to-ge b.day.0 b.number a.day.0 a.number h) (to-lt b.day.0 b.number c.day.0 c.number k))

pub never : (a : Spot) → is_before a a ≡ false
never a = from-ge a.day.0 a.number a.day.0 a.number (inr (refl, omega arith))

pub spot-is : (a b : Spot) → a.day.0 ≡ b.day.0 → a.number ≡ b.number → a ≡ b
spot-is a b d n = λ i. record { day = record { 0 = d i }; number = n i }

pub meets : (a b : Spot) → is_before a b ≡ false → is_before b a ≡ false → a ≡ b
meets a b h k =
    let both = ge-ge a.day.0 a.number b.day.0 b.number (to-ge a.day.0 a.number b.day.0 b.number h) (to-ge b.day.0 b.number a.day.0 a.number k) in
    spot-is a b both.0 both.1

pub same-is : (a b : Spot) → is_same a b ≡ true → a ≡ b
same-is a b h =
    spot-is a b (eqb-true a.day.0 b.day.0 (and-first (a.day.0 == b.day.0) (a.number == b.number) h))
    (eqb-true a.number b.number (and-second (a.day.0 == b.day.0) (a.number == b.number) h))

pub is-same : (a b : Spot) → a.day.0 ≡ b.day.0 → a.number ≡ b.number → is_same a b ≡ true
is-same a b d n = and-both (a.day.0 == b.day.0) (a.number == b.number) (eq-eqb a.day.0 b.day.0 d) (eq-eqb a.number b.number n)

-- not after another one, and not the same
pub apart : (a b : Spot) → is_before b a ≡ false → (a ≡ b → ⊥) → is_before a b ≡ true
apart a b h k = true_from_ne_false (is_before a b) (λ e. k (meets a b e h))

-- ---- places of postings

pub spot-place : (p q : sums.Place) → lt2 p.day p.txn q.day q.txn ≡ true → sums.is_before p q ≡ true
spot-place p q h =
    elim (to-lt p.day p.txn q.day q.txn h) as (λ _. sums.is_before p q ≡ true) [
      | inl a ↦ or-left (nat_lt p.day q.day) ((p.day == q.day) && (nat_lt p.txn q.txn || ((p.txn == q.txn) && nat_lt p.posting q.posting))) (lt-ltb p.day q.day a)
      | inr b ↦ or-right (nat_lt p.day q.day) ((p.day == q.day) && (nat_lt p.txn q.txn || ((p.txn == q.txn) && nat_lt p.posting q.posting)))
          (and-both (p.day == q.day) (nat_lt p.txn q.txn || ((p.txn == q.txn) && nat_lt p.posting q.posting)) (eq-eqb p.day q.day b.0)
          (or-left (nat_lt p.txn q.txn) ((p.txn == q.txn) && nat_lt p.posting q.posting) (lt-ltb p.txn q.txn b.1)))
    ]

-- a place is before another one, and not in the same transaction at an earlier posting
place-lt : (p q : sums.Place) → ((p.txn ≡ q.txn) → p.posting < q.posting → ⊥) → sums.is_before p q ≡ true → Lt p.day p.txn q.day q.txn
place-lt p q no-own h =
    elim (or_cases (nat_lt p.day q.day) ((p.day == q.day) && (nat_lt p.txn q.txn || ((p.txn == q.txn) && nat_lt p.posting q.posting))) h) as (λ _. Lt p.day p.txn q.day q.txn) [
      | inl a ↦ inl (ltb-true p.day q.day a)
      | inr b ↦
          let day = eqb-true p.day q.day (and-first (p.day == q.day) (nat_lt p.txn q.txn || ((p.txn == q.txn) && nat_lt p.posting q.posting)) b) in
          elim (or_cases (nat_lt p.txn q.txn) ((p.txn == q.txn) && nat_lt p.posting q.posting) (and-second (p.day == q.day) (nat_lt p.txn q.txn || ((p.txn == q.txn) && nat_lt p.posting q.posting)) b)) as (λ _. Lt p.day p.txn q.day q.txn) [
            | inl c ↦ inr (day, ltb-true p.txn q.txn c)
            | inr c ↦ absurd (no-own (eqb-true p.txn q.txn (and-first (p.txn == q.txn) (nat_lt p.posting q.posting) c)) (ltb-true p.posting q.posting (and-second (p.txn == q.txn) (nat_lt p.posting q.posting) c)))
          ]
    ]

-- behind the greatest number of a posting only later transactions stand
pub place-spot : (p q : sums.Place) → q.posting ≤ p.posting → sums.is_before p q ≡ true → lt2 p.day p.txn q.day q.txn ≡ true
place-spot p q most h = from-lt p.day p.txn q.day q.txn (place-lt p q (λ same less. absurd (omega arith)) h)

pub place-apart : (p q : sums.Place) → (p.txn ≡ q.txn → ⊥) → sums.is_before p q ≡ true → lt2 p.day p.txn q.day q.txn ≡ true
place-apart p q other h = from-lt p.day p.txn q.day q.txn (place-lt p q (λ same less. other same) h)
