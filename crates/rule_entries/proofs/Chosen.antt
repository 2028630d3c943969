-- What a test chooses of the values of a function that rises.
use Rattle.std.proofs.Common.{◌≡◌, ℕ, zero, suc, ◌+◌, ◌-◌, ◌<◌, ◌≤◌, Bool, true, false, cond, List, [], ◌∷◌, ◌++◌, map, filter, refl, ap, ◌∙◌, arith}
use Rattle.std.specs.List.{range_with_len}
use Rattle.std.proofs.lemmas.List.{map-append, append-nil}
use Rattle.std.proofs.lemmas.List.Elements.{filter-append}

-- numbers in two parts
range_split : (i m n t : ℕ) → t ≡ m + n → range_with_len i t ≡ range_with_len i m ++ range_with_len (i + m) n
range_split i zero n t e =
    let here : i + 0 ≡ i = omega arith in
    let all : t ≡ n = omega (arith, e) in
    rw (here, all) refl
range_split i (suc m) n t e =
    let more : t ≡ suc (m + n) = omega (arith, e) in
    let on : i + 1 + m ≡ i + suc m = omega arith in
    rw more (ap (λ xs. i ∷ xs) (rw on at (range_split (i + 1) m n (m + n) refl)))

none_in : (p : ℕ → Bool) (f : ℕ → ℕ) (i n : ℕ) → ((k : ℕ) → i ≤ k → k < i + n → p (f k) ≡ false)
    → filter p (map f (range_with_len i n)) ≡ []
none_in p f i zero h = refl
none_in p f i (suc n) h =
    ap (λ b. cond b (f i ∷ filter p (map f (range_with_len (i + 1) n))) (filter p (map f (range_with_len (i + 1) n))))
    (h i (omega arith) (omega arith))
    ∙ none_in p f (i + 1) n (λ k from to. h k (omega (arith, from)) (omega (arith, to)))

all_in : (p : ℕ → Bool) (f : ℕ → ℕ) (i n : ℕ) → ((k : ℕ) → i ≤ k → k < i + n → p (f k) ≡ true)
    → filter p (map f (range_with_len i n)) ≡ map f (range_with_len i n)
all_in p f i zero h = refl
all_in p f i (suc n) h =
    ap (λ b. cond b (f i ∷ filter p (map f (range_with_len (i + 1) n))) (filter p (map f (range_with_len (i + 1) n))))
    (h i (omega arith) (omega arith))
    ∙ ap (λ xs. f i ∷ xs) (all_in p f (i + 1) n (λ k from to. h k (omega (arith, from)) (omega (arith, to))))

parted : (p : ℕ → Bool) (f : ℕ → ℕ) (xs ys : List ℕ) → filter p (map f (xs ++ ys)) ≡ filter p (map f xs) ++ filter p (map f ys)
parted p f xs ys = ap (filter p) (map-append f xs ys) ∙ filter-append p (map f xs) (map f ys)

-- of the values at the numbers below t a test chooses those from a up to b
pub chosen : (p : ℕ → Bool) (f : ℕ → ℕ) (a b t : ℕ) → a ≤ b → b ≤ t
    → ((k : ℕ) → k < a → p (f k) ≡ false)
    → ((k : ℕ) → a ≤ k → k < b → p (f k) ≡ true)
    → ((k : ℕ) → b ≤ k → k < t → p (f k) ≡ false)
    → filter p (map f (range_with_len 0 t)) ≡ map f (range_with_len a (b - a))
chosen p f a b t low high before within after =
    let here : 0 + a ≡ a = omega arith in
    let there : a + (b - a) ≡ b = omega (arith, low) in
    let first = rw here at (range_split 0 a (t - a) t (omega (arith, low, high))) in
    let second = rw there at (range_split a (b - a) (t - b) (t - a) (omega (arith, low, high))) in
    let none-below = none_in p f 0 a (λ k from to. before k (omega (arith, to))) in
    let all-within = all_in p f a (b - a) (λ k from to. within k from (omega (arith, to, low))) in
    let none-above = none_in p f b (t - b) (λ k from to. after k from (omega (arith, to, high))) in
    ap (λ xs. filter p (map f xs)) first
    ∙ parted p f (range_with_len 0 a) (range_with_len a (t - a))
    ∙ ap (λ xs. xs ++ filter p (map f (range_with_len a (t - a)))) none-below
    ∙ ap (λ xs. filter p (map f xs)) second
    ∙ parted p f (range_with_len a (b - a)) (range_with_len b (t - b))
    ∙ ap (λ xs. xs ++ filter p (map f (range_with_len b (t - b)))) all-within
    ∙ ap (λ xs. map f (range_with_len a (b - a)) ++ xs) none-above
    ∙ append-nil (map f (range_with_len a (b - a)))

-- a test that nothing passes
pub none_of : (p : ℕ → Bool) (xs : List ℕ) → ((x : ℕ) → p x ≡ false) → filter p xs ≡ []
none_of p [] h = refl
none_of p (x ∷ xs) h = ap (λ b. cond b (x ∷ filter p xs) (filter p xs)) (h x) ∙ none_of p xs h
