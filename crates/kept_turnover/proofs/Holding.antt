-- What is kept of some values, after one more and after one less.
use Rattle.std.proofs.Common.{◌≡◌, ℕ, zero, suc, ◌+◌, ◌-◌, ◌*◌, ◌/◌, ◌%◌, ◌^◌, ◌<◌, ◌≤◌, ◌==◌, unsigned_abs, Bool, true, false, cond, ◌&&◌, List, [], ◌∷◌, ◌++◌, map, filter, length, Option, Some, None, Vec, String, Global, inl, inr, refl, sym, ap, subst, ◌∙◌, arith, append_assoc, append-nil, add-mul}
use Rattle.std.specs.Bool.{OnTrue}
use Rattle.std.specs.Option.{option_map_or}
use Rattle.std.specs.Str.{bytes_eq}
use Rattle.std.specs.BTreeMap.{get_by_text}
use Rattle.std.proofs.lemmas.Nat.{div-add-mod'}
use Rattle.hl_num.specs.Decimal.{Decimal}
use Rattle.entry_balance.specs.Tally.{numbers_of}
use Rattle.entry_balance.specs.Values.{Value}
use Rattle.entry_balance.proofs.Turnover.{alike, bytes_eq-itself, numbers-append}
use Rattle.kept_turnover.specs.Moved.{AreFew, count_of, mantissas, sum_of, with_places}
use Rattle.kept_turnover.specs.Keeping.{AreOf, Gains, HasLess, HasMore, Loses, Same, Symbols, less_at, more_at, no_part, part_at, part_in, part_of, part_with, part_without, parts_of, sum_in}
use Rattle.kept_turnover.specs.declared.part.Part.{Part}

-- ---- parts

pub same_part : (p q : Part) → p.count ≡ q.count → p.low ≡ q.low → p.high ≡ q.high → p ≡ q
same_part p q c l h = λ i. record { count = c i; low = l i; high = h i }

swapped : (x y z : ℕ) → x + y + z ≡ x + z + y
swapped x y z = omega arith

taken_back : (x y : ℕ) → (x + y) - y ≡ x
taken_back x y = omega arith

none_off : (x : ℕ) → 0 - x ≡ 0
none_off x = omega arith

joined : (h l q r k m s : ℕ) → h * k + l ≡ s → q * k + r ≡ m → (h + q) * k + (l + r) ≡ m + s
joined h l q r k m s a b = let split = add-mul h q k in omega (arith, a, b, split)

part_with-swap : (p : Part) (a b : ℕ) → part_with (part_with p a) b ≡ part_with (part_with p b) a
part_with-swap p a b = same_part (part_with (part_with p a) b) (part_with (part_with p b) a) refl (swapped p.low (a % 2 ^ 64) (b % 2 ^ 64)) (swapped p.high (a / 2 ^ 64) (b / 2 ^ 64))

part_without-with : (p : Part) (m : ℕ) → part_without (part_with p m) m ≡ p
part_without-with p m = same_part (part_without (part_with p m) m) p (taken_back p.count 1) (taken_back p.low (m % 2 ^ 64)) (taken_back p.high (m / 2 ^ 64))

pub less-more : (b : Bool) (m : ℕ) (p : Part) → less_at b m (more_at b m p) ≡ p
less-more true m p = part_without-with p m
less-more false m p = refl

-- nothing can be taken off nothing
none_less : (m : ℕ) → part_without no_part m ≡ no_part
none_less m = same_part (part_without no_part m) no_part (none_off 1) (none_off (m % 2 ^ 64)) (none_off (m / 2 ^ 64))

pub less_nothing : (b : Bool) (m : ℕ) (p : Part) → p ≡ no_part → p ≡ less_at b m p
less_nothing true m p e = e ∙ sym (none_less m) ∙ ap (λ (x : Part). part_without x m) (sym e)
less_nothing false m p e = refl

part_of-into : (xs : List Decimal) (d : Decimal) (ys : List Decimal) → part_of (xs ++ d ∷ ys) ≡ part_with (part_of (xs ++ ys)) (unsigned_abs d.mantissa)
part_of-into [] d ys = refl
part_of-into (x ∷ xs) d ys =
    ap (λ (p : Part). part_with p (unsigned_abs x.mantissa)) (part_of-into xs d ys)
    ∙ part_with-swap (part_of (xs ++ ys)) (unsigned_abs d.mantissa) (unsigned_abs x.mantissa)

pub part-count : (ds : List Decimal) → (part_of ds).count ≡ length ds
part-count [] = refl
part-count (d ∷ ds) = let rest = part-count ds in omega (arith, rest)

pub part-sum : (ds : List Decimal) → sum_in (part_of ds) ≡ mantissas ds
part-sum [] = refl
part-sum (d ∷ ds) =
    let p = part_of ds in
    let m = unsigned_abs d.mantissa in
    joined p.high p.low (m / 2 ^ 64) (m % 2 ^ 64) (2 ^ 64) m (mantissas ds) (part-sum ds) (div-add-mod' m (2 ^ 64))

-- ---- values

places-append : (n : ℕ) (xs ys : List Decimal) → with_places n (xs ++ ys) ≡ with_places n xs ++ with_places n ys
places-append n [] ys = refl
places-append n (x ∷ xs) ys =
    elim (x.places == n) as (λ b. cond b (x ∷ with_places n (xs ++ ys)) (with_places n (xs ++ ys)) ≡ cond b (x ∷ with_places n xs) (with_places n xs) ++ with_places n ys) [
      | true ↦ ap (λ (ds : List Decimal). x ∷ ds) (places-append n xs ys)
      | false ↦ places-append n xs ys
    ]

abbrev at : List ℕ → ℕ → List Value → List Decimal
at s n vs = with_places n (numbers_of s vs)

at-append : (s : List ℕ) (n : ℕ) (xs ys : List Value) → at s n (xs ++ ys) ≡ at s n xs ++ at s n ys
at-append s n xs ys = ap (with_places n) (numbers-append s xs ys) ∙ places-append n (numbers_of s xs) (numbers_of s ys)

-- one more value, wherever it stands
module _ (q : List ℕ) (n : ℕ) (front : List Value) (s : List ℕ) (d : Decimal) (back : List Value) where
  abbrev rest : List Value
  rest = filter (λ (v : Value). bytes_eq v.0 q) back

  into_split : part_of (at q n front ++ at q n ((s, d) ∷ back)) ≡ more_at (bytes_eq s q && (d.places == n)) (unsigned_abs d.mantissa) (part_of (at q n front ++ at q n back))
  into_split =
      elim (bytes_eq s q) as (λ b. part_of (at q n front ++ with_places n (map (λ (v : Value). v.1) (cond b ((s, d) ∷ rest) rest))) ≡ more_at (b && (d.places == n)) (unsigned_abs d.mantissa) (part_of (at q n front ++ at q n back))) [
        | true ↦
            elim (d.places == n) as (λ e. part_of (at q n front ++ cond e (d ∷ at q n back) (at q n back)) ≡ more_at e (unsigned_abs d.mantissa) (part_of (at q n front ++ at q n back))) [
              | true ↦ part_of-into (at q n front) d (at q n back)
              | false ↦ refl
            ]
        | false ↦ refl
      ]

  into : part_of (at q n (front ++ (s, d) ∷ back)) ≡ more_at (bytes_eq s q && (d.places == n)) (unsigned_abs d.mantissa) (part_of (at q n (front ++ back)))
  into =
      ap part_of (at-append q n front ((s, d) ∷ back)) ∙ into_split
      ∙ ap (λ (ds : List Decimal). more_at (bytes_eq s q && (d.places == n)) (unsigned_abs d.mantissa) (part_of ds)) (sym (at-append q n front back))

few_into : (front : List Value) (v : Value) (back : List Value) → AreFew (front ++ back) → v.1.places ≤ 36 → AreFew (front ++ v ∷ back)
few_into [] v back h k = (k, h)
few_into (x ∷ front) v back h k = (h.0, few_into front v back h.1 k)

few_without : (front : List Value) (v : Value) (back : List Value) → AreFew (front ++ v ∷ back) → AreFew (front ++ back)
few_without [] v back h = h.1
few_without (x ∷ front) v back h = (h.0, few_without front v back h.1)

pub gains_one : (old new : Symbols) (s : List ℕ) (d : Decimal) → d.places ≤ 36 → HasMore s d old new → Gains old new ((s, d) ∷ [])
gains_one old new s d few more front back h = record {
  is = λ q n. more q n ∙ ap (more_at (bytes_eq s q && (d.places == n)) (unsigned_abs d.mantissa)) (h.is q n) ∙ sym (into q n front s d back);
  few = few_into front (s, d) back h.few few;
}

pub loses_one : (old new : Symbols) (s : List ℕ) (d : Decimal) → HasLess s d old new → Loses old new ((s, d) ∷ [])
loses_one old new s d less front back h = record {
  is = λ q n.
      let b = bytes_eq s q && (d.places == n) in
      let m = unsigned_abs d.mantissa in
      less q n ∙ ap (less_at b m) (h.is q n ∙ into q n front s d back) ∙ less-more b m (part_of (at q n (front ++ back)));
  few = few_without front (s, d) back h.few;
}

pub gains_none : (t : Symbols) → Gains t t []
gains_none t front back h = h

pub loses_none : (t : Symbols) → Loses t t []
loses_none t front back h = h

pub gains_both : (a b c : Symbols) (xs ys : List Value) → Gains a b xs → Gains b c ys → Gains a c (xs ++ ys)
gains_both a b c xs ys one two front back h =
    subst (AreOf c) (append_assoc front xs (ys ++ back) ∙ ap (λ (vs : List Value). front ++ vs) (sym (append_assoc xs ys back)))
    (two (front ++ xs) back (subst (AreOf b) (sym (append_assoc front xs back)) (one front back h)))

pub loses_both : (a b c : Symbols) (xs ys : List Value) → Loses a b xs → Loses b c ys → Loses a c (xs ++ ys)
loses_both a b c xs ys one two front back h =
    two front back (one front (ys ++ back) (subst (AreOf a) (ap (λ (vs : List Value). front ++ vs) (append_assoc xs ys back)) h))

-- ---- one symbol among all

module _ (old new : Symbols) (s : List ℕ) (v : Vec Part Global) (h : (q : List ℕ) → get_by_text new q ≡ cond (bytes_eq s q) (Some v) (get_by_text old q)) (d : Decimal) where
  parts_after : (q : List ℕ) → parts_of new q ≡ cond (bytes_eq s q) v.items (parts_of old q)
  parts_after q =
      ap (λ (o : Option (Vec Part Global)). option_map_or (λ (p : Vec Part Global). p.items) o []) (h q)
      ∙ elim (bytes_eq s q) as (λ b. option_map_or (λ (p : Vec Part Global). p.items) (cond b (Some v) (get_by_text old q)) [] ≡ cond b v.items (parts_of old q)) [
        | true ↦ refl
        | false ↦ refl
      ]

  here : (f : Bool → ℕ → Part → Part) (q : List ℕ) (n : ℕ) (b : Bool) → b ≡ true → part_at v.items n ≡ f (d.places == n) (unsigned_abs d.mantissa) (part_in old q n)
      → part_at (cond b v.items (parts_of old q)) n ≡ f (b && (d.places == n)) (unsigned_abs d.mantissa) (part_in old q n)
  here f q n true e is = is
  here f q n false e is = absurd (let never : ⊥ = cc in never)

  other : (f : Bool → ℕ → Part → Part) → ((m : ℕ) (p : Part) → f false m p ≡ p) → (q : List ℕ) (n : ℕ) (b : Bool) → b ≡ false
      → part_at (cond b v.items (parts_of old q)) n ≡ f (b && (d.places == n)) (unsigned_abs d.mantissa) (part_in old q n)
  other f same q n true e = absurd (let never : ⊥ = cc in never)
  other f same q n false e = sym (same (unsigned_abs d.mantissa) (part_in old q n))

  changed : (f : Bool → ℕ → Part → Part) → ((m : ℕ) (p : Part) → f false m p ≡ p) → ((n : ℕ) → part_at v.items n ≡ f (d.places == n) (unsigned_abs d.mantissa) (part_in old s n))
      → (q : List ℕ) (n : ℕ) → part_in new q n ≡ f (bytes_eq s q && (d.places == n)) (unsigned_abs d.mantissa) (part_in old q n)
  changed f same is q n =
      ap (λ (ps : List Part). part_at ps n) (parts_after q)
      ∙ elim (alike s q) [
        | inl one ↦
            here f q n (bytes_eq s q) (ap (bytes_eq s) (sym one) ∙ bytes_eq-itself s)
            (subst (λ (k : List ℕ). part_at v.items n ≡ f (d.places == n) (unsigned_abs d.mantissa) (part_in old k n)) one (is n))
        | inr differ ↦ other f same q n (bytes_eq s q) differ
      ]

  pub more_after : ((n : ℕ) → part_at v.items n ≡ more_at (d.places == n) (unsigned_abs d.mantissa) (part_in old s n)) → HasMore s d old new
  more_after is = changed more_at (λ m p. refl) is

  pub less_after : ((n : ℕ) → part_at v.items n ≡ less_at (d.places == n) (unsigned_abs d.mantissa) (part_in old s n)) → HasLess s d old new
  less_after is = changed less_at (λ m p. refl) is

-- a symbol goes that has nothing
pub cleared : (old new : Symbols) (s : List ℕ) → ((q : List ℕ) → get_by_text new q ≡ cond (bytes_eq s q) None (get_by_text old q)) → ((n : ℕ) → part_in old s n ≡ no_part) → Same old new
cleared old new s h none q n =
    ap (λ (o : Option (Vec Part Global)). part_at (option_map_or (λ (p : Vec Part Global). p.items) o []) n) (h q)
    ∙ elim (alike s q) [
      | inl one ↦ gone (bytes_eq s q) (subst (λ (k : List ℕ). part_in old k n ≡ no_part) one (none n))
      | inr differ ↦ stays (bytes_eq s q) differ
    ]
  where
    gone : (b : Bool) → part_in old q n ≡ no_part → part_at (option_map_or (λ (p : Vec Part Global). p.items) (cond b None (get_by_text old q)) []) n ≡ part_in old q n
    gone true is = sym is
    gone false is = refl

    stays : (b : Bool) → b ≡ false → part_at (option_map_or (λ (p : Vec Part Global). p.items) (cond b None (get_by_text old q)) []) n ≡ part_in old q n
    stays true e = absurd (let never : ⊥ = cc in never)
    stays false e = refl

pub on_true : {P Q : Type 0} (b : Bool) → (P → Q) → OnTrue b P → OnTrue b Q
on_true true f h = f h
on_true false f h = tt

-- what a symbol has that is there, and one that isn't
pub part_there : (t : Symbols) (s : List ℕ) (v : Vec Part Global) → Some v ≡ get_by_text t s → (n : ℕ) → part_in t s n ≡ part_at v.items n
part_there t s v e n = ap (λ (o : Option (Vec Part Global)). part_at (option_map_or (λ (p : Vec Part Global). p.items) o []) n) (sym e)

pub part_missing : (t : Symbols) (s : List ℕ) → None ≡ get_by_text t s → (n : ℕ) → part_in t s n ≡ no_part
part_missing t s e n = ap (λ (o : Option (Vec Part Global)). part_at (option_map_or (λ (p : Vec Part Global). p.items) o []) n) (sym e)

-- nothing is taken off where nothing is
pub less_missing : (old new : Symbols) (s : List ℕ) (d : Decimal) → new ≡ old → None ≡ get_by_text old s → HasLess s d old new
less_missing old new s d same none q n =
    ap (λ (t : Symbols). part_in t q n) same
    ∙ elim (alike s q) [
      | inl one ↦ less_nothing (bytes_eq s q && (d.places == n)) (unsigned_abs d.mantissa) (part_in old q n) (subst (λ (k : List ℕ). part_in old k n ≡ no_part) one (part_missing old s none n))
      | inr differ ↦ ap (λ (b : Bool). less_at (b && (d.places == n)) (unsigned_abs d.mantissa) (part_in old q n)) (sym differ)
    ]
