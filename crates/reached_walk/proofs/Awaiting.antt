-- The first of some places from an index on.
use Rattle.std.proofs.Common.{◌≡◌, ℕ, zero, suc, ◌+◌, ◌≤◌, ◌==◌, Bool, true, false, cond, List, [], ◌∷◌, length, drop, slice_get, Option, Some, None, refl, sym, ap, ◌∙◌, arith}
use Rattle.std.proofs.lemmas.List.{drop_all}
use Rattle.reached_walk.specs.declared.place.Spot.{Spot}
use Rattle.reached_walk.specs.Spots.{first_of, waiting}
use Rattle.reached_walk.proofs.Entries.{some-same}

none-some : {X : Type 0} (x : X) → None ≡ Some x → ⊥
none-some x h = cc

drop-suc : (xs : List Spot) (n : ℕ) (t : Spot) → slice_get xs n ≡ Some t → drop n xs ≡ t ∷ drop (suc n) xs
drop-suc [] n t got = absurd (none-some t got)
drop-suc (x ∷ xs) zero t got = ap (λ (y : Spot). y ∷ xs) (some-same x t got)
drop-suc (x ∷ xs) (suc n) t got = drop-suc xs n t got

-- with the first of them
pub drop-at : (xs : List Spot) (n : ℕ) (t : Spot) → slice_get xs n ≡ Some t → drop n xs ≡ t ∷ drop (n + 1) xs
drop-at xs n t got =
    let next : suc n ≡ n + 1 = omega arith in
    drop-suc xs n t got ∙ ap (λ (m : ℕ). t ∷ drop m xs) next

pub first-is : (xs : List Spot) (n : ℕ) (t : Spot) → slice_get xs n ≡ Some t → Some t ≡ first_of (drop n xs)
first-is xs n t got = sym (ap first_of (drop-at xs n t got))

pub first-none : (xs : List Spot) (n : ℕ) → length xs ≤ n → None ≡ first_of (drop n xs)
first-none xs n past = sym (ap first_of (drop_all n xs past))

-- ---- once one was answered

pub behind-first : (xs : List Spot) (n : ℕ) (t s : Spot) → slice_get xs n ≡ Some t → (t.number == s.number) ≡ true → drop (n + 1) xs ≡ waiting (drop n xs) s
behind-first xs n t s got e =
    sym (ap (λ (ts : List Spot). waiting ts s) (drop-at xs n t got) ∙ ap (λ (b : Bool). cond b (drop (n + 1) xs) (t ∷ drop (n + 1) xs)) e)

pub before-first : (xs : List Spot) (n : ℕ) (t s : Spot) → slice_get xs n ≡ Some t → (t.number == s.number) ≡ false → drop n xs ≡ waiting (drop n xs) s
before-first xs n t s got e =
    sym (ap (λ (ts : List Spot). waiting ts s) (drop-at xs n t got) ∙ ap (λ (b : Bool). cond b (drop (n + 1) xs) (t ∷ drop (n + 1) xs)) e ∙ sym (drop-at xs n t got))

pub none-passed : (xs : List Spot) (n : ℕ) (s : Spot) → length xs ≤ n → drop n xs ≡ waiting (drop n xs) s
none-passed xs n s past = drop_all n xs past ∙ sym (ap (λ (ts : List Spot). waiting ts s) (drop_all n xs past))
