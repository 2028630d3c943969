-- Sums that are kept for accounts: one more account, and one more value.
use Rattle.std.proofs.Common.{◌≡◌, ℕ, zero, suc, ◌+◌, ◌<◌, Bool, true, false, cond, List, [], ◌∷◌, ◌++◌, map, length, get_or, set, Option, Some, None, is_some, inl, inr, refl, sym, ap, ◌∙◌, arith}
use Rattle.std.specs.Str.{bytes_eq}
use Rattle.std.specs.Prelude.{Vec}
use Rattle.std.specs.Global.{Global}
use Rattle.std.specs.declared.cmp.Ordering.TheVariants.{Less, Equal, Greater}
use Rattle.std.specs.Map.{lookup}
use Rattle.std.specs.BTreeMap.{insert_entry, is_at}
use Rattle.std.specs.Ordering.{nat_cmp, is_eq, match_ordering}
use Rattle.std.specs.Cmp.Lexicographic.{slice_cmp, nat_list_cmp_total}
use Rattle.std.specs.FinMap.Entries.{by_order, find-put, put}
use Rattle.std.proofs.lemmas.Bool.{cases_lt}
use Rattle.hl_num.specs.Decimal.{Decimal}
use Rattle.book.specs.Entries.{held}
use Rattle.book.proofs.Entries.{tie-bytes_eq}
use Rattle.entry_balance.specs.Values.{Value}
use Rattle.entry_balance.specs.Tally.{sums_of, added_to}
use Rattle.entry_balance.proofs.Turnover.{sums-push, bytes_eq-itself, alike}
use Rattle.assertions.specs.Kept.{Keeping, IsKept, no_values, and_at, keeps}
use Rattle.assertions.specs.Texts.{names_in, places_in}

-- ---- lists by their places

pub map-at : {X Y : Type 0} (f g : X → Y) (xs : List X) → ((i : ℕ) (d : X) → i < length xs → g (get_or xs i d) ≡ f (get_or xs i d)) → map f xs ≡ map g xs
map-at f g [] h = refl
map-at f g (x ∷ xs) h =
    let first = sym (h zero x (omega arith)) in
    let rest = map-at f g xs (λ i d less. h (suc i) d (omega arith)) in
    λ i. first i ∷ rest i

pub map-each : {X Y : Type 0} (f g : X → Y) (xs : List X) → ((x : X) → f x ≡ g x) → map f xs ≡ map g xs
map-each f g xs h = map-at f g xs (λ i d less. sym (h (get_or xs i d)))

set-map : {X Y : Type 0} (f g : X → Y) (xs : List X) (j : ℕ) (y : Y) → j < length xs → ((d : X) → g (get_or xs j d) ≡ y) → ((i : ℕ) (d : X) → i < length xs → (i ≡ j → ⊥) → g (get_or xs i d) ≡ f (get_or xs i d)) → set (map f xs) j y ≡ map g xs
set-map f g [] j y less here there = absurd (omega arith)
set-map f g (x ∷ xs) zero y less here there =
    let first = sym (here x) in
    let rest = map-at f g xs (λ i d h. there (suc i) d (omega arith) (λ e. omega (arith, e))) in
    λ i. first i ∷ rest i
set-map f g (x ∷ xs) (suc j) y less here there =
    let first = sym (there zero x (omega arith) (λ e. omega (arith, e))) in
    let rest = set-map f g xs j y (omega arith) here (λ i d h n. there (suc i) d (omega arith) (λ e. n (omega (arith, e)))) in
    λ i. first i ∷ rest i

pub map-more : {X Y : Type 0} (f : X → Y) (xs : List X) (x : X) → map f (xs ++ x ∷ []) ≡ map f xs ++ f x ∷ []
map-more f [] x = refl
map-more f (y ∷ xs) x = ap (λ ys. f y ∷ ys) (map-more f xs x)

get-map : {X Y : Type 0} (f : X → Y) (xs : List X) (j : ℕ) (d : X) (e : Y) → j < length xs → get_or (map f xs) j e ≡ f (get_or xs j d)
get-map f [] j d e h = absurd (omega arith)
get-map f (x ∷ xs) zero d e h = refl
get-map f (x ∷ xs) (suc j) d e h = get-map f xs j d e (omega arith)

length-map : {X Y : Type 0} (f : X → Y) (xs : List X) → length (map f xs) ≡ length xs
length-map f [] = refl
length-map f (x ∷ xs) = ap suc (length-map f xs)

length-more : {X : Type 0} (xs : List X) (x : X) → length (xs ++ x ∷ []) ≡ length xs + 1
length-more [] x = refl
length-more (y ∷ xs) x = omega (arith, length-more xs x)

get-more : {X : Type 0} (xs : List X) (x : X) (j : ℕ) (d : X) → j < length xs → get_or (xs ++ x ∷ []) j d ≡ get_or xs j d
get-more [] x j d h = absurd (omega arith)
get-more (y ∷ xs) x zero d h = refl
get-more (y ∷ xs) x (suc j) d h = get-more xs x j d (omega arith)

get-last : {X : Type 0} (xs : List X) (x : X) (d : X) → get_or (xs ++ x ∷ []) (length xs) d ≡ x
get-last [] x d = refl
get-last (y ∷ xs) x d = get-last xs x d

-- ---- places of names

held-put : (q s : List ℕ) (v : ℕ) (es : List (List ℕ × ℕ)) → held q (put (slice_cmp nat_cmp) s v es) ≡ cond (bytes_eq s q) (Some v) (held q es)
held-put q s v es = find-put (slice_cmp nat_cmp) nat_list_cmp_total q s v es ∙ ap (λ (b : Bool). cond b (Some v) (held q es)) (tie-bytes_eq q s)

held-new : (s : List ℕ) (v : ℕ) (es : List (List ℕ × ℕ)) → held s (put (slice_cmp nat_cmp) s v es) ≡ Some v
held-new s v es = held-put s s v es ∙ ap (λ (b : Bool). cond b (Some v) (held s es)) (bytes_eq-itself s)

some-not : {X : Type 0} (o : Option X) (x : X) → o ≡ Some x → o ≡ None → ⊥
some-not o x h k = let no : ⊥ = cc in no

some-one : {X : Type 0} (o : Option X) (x y : X) → o ≡ Some x → o ≡ Some y → x ≡ y
some-one o x y h k = let e : x ≡ y = cc in e

pub held-places : (es : List (Vec ℕ Global × ℕ)) (q : List ℕ) → lookup (is_at (λ (k : Vec ℕ Global). slice_cmp nat_cmp q k.items)) es ≡ held q (places_in es)
held-places [] q = refl
held-places (e ∷ es) q = ap (λ (o : Option ℕ). cond (is_eq (slice_cmp nat_cmp q e.0.items)) (Some e.1) o) (held-places es q)

pub places-insert : (es : List (Vec ℕ Global × ℕ)) (k : Vec ℕ Global) (v : ℕ) → places_in (insert_entry (λ (x y : Vec ℕ Global). slice_cmp nat_cmp x.items y.items) es k v) ≡ put (slice_cmp nat_cmp) k.items v (places_in es)
places-insert [] k v = refl
places-insert (e ∷ es) k v =
    elim (slice_cmp nat_cmp k.items e.0.items) as (λ o. places_in (match_ordering o ((k, v) ∷ e ∷ es) ((e.0, v) ∷ es) (e ∷ insert_entry (λ (x y : Vec ℕ Global). slice_cmp nat_cmp x.items y.items) es k v)) ≡ by_order o ((k.items, v) ∷ places_in (e ∷ es)) ((e.0.items, v) ∷ places_in es) ((e.0.items, e.1) ∷ put (slice_cmp nat_cmp) k.items v (places_in es))) [
      | Less ↦ refl
      | Equal ↦ refl
      | Greater ↦ ap (λ t. (e.0.items, e.1) ∷ t) (places-insert es k v)
    ]

pub names-more : (ns : List (Vec ℕ Global)) (n : Vec ℕ Global) → names_in (ns ++ n ∷ []) ≡ names_in ns ++ n.items ∷ []
names-more ns n = map-more (λ (m : Vec ℕ Global). m.items) ns n

pub names-length : (ns : List (Vec ℕ Global)) → length (names_in ns) ≡ length ns
names-length ns = length-map (λ (m : Vec ℕ Global). m.items) ns

-- ---- one more account

module _ (k k' : Keeping) (name : List ℕ) (new : held name k.1 ≡ None) (names : k'.0 ≡ k.0 ++ name ∷ []) (places : k'.1 ≡ put (slice_cmp nat_cmp) name (length k.0) k.1) (tallies : k'.2 ≡ k.2 ++ [] ∷ []) where
  count : length k'.0 ≡ length k.0 + 1
  count = ap length names ∙ length-more k.0 name

  held-more : (q : List ℕ) → held q k'.1 ≡ cond (bytes_eq name q) (Some (length k.0)) (held q k.1)
  held-more q = ap (λ (es : List (List ℕ × ℕ)). held q es) places ∙ held-put q name (length k.0) k.1

  held-other : (q : List ℕ) → bytes_eq name q ≡ false → held q k'.1 ≡ held q k.1
  held-other q e = held-more q ∙ ap (λ (b : Bool). cond b (Some (length k.0)) (held q k.1)) e

  held-this : held name k'.1 ≡ Some (length k.0)
  held-this = held-more name ∙ ap (λ (b : Bool). cond b (Some (length k.0)) (held name k.1)) (bytes_eq-itself name)

  -- a name that has a place already is another one
  other : (q : List ℕ) (j : ℕ) → held q k.1 ≡ Some j → bytes_eq name q ≡ false
  other q j h = elim (alike name q) [
    | inl same ↦ absurd (some-not (held name k.1) j (ap (λ (s : List ℕ). held s k.1) same ∙ h) new)
    | inr differ ↦ differ
  ]

  module _ (kept : IsKept no_values k) where
    found-more : (j : ℕ) (d : List ℕ) → j < length k'.0 → held (get_or k'.0 j d) k'.1 ≡ Some j
    found-more j d h = elim (cases_lt j (length k.0)) [
      | inl less ↦
          let at : get_or k'.0 j d ≡ get_or k.0 j d = ap (λ (xs : List (List ℕ)). get_or xs j d) names ∙ get-more k.0 name j d less in
          let there = kept.found j d less in
          ap (λ (q : List ℕ). held q k'.1) at ∙ held-other (get_or k.0 j d) (other (get_or k.0 j d) j there) ∙ there
      | inr more ↦
          let last : length k.0 ≡ j = omega (arith, count) in
          let at : get_or k'.0 j d ≡ name = ap (λ (xs : List (List ℕ)). get_or xs j d) names ∙ ap (λ n. get_or (k.0 ++ name ∷ []) n d) (sym last) ∙ get-last k.0 name d in
          ap (λ (q : List ℕ). held q k'.1) at ∙ held-this ∙ ap Some last
    ]

    within-more : (a : List ℕ) (j : ℕ) → held a k'.1 ≡ Some j → j < length k'.0
    within-more a j h = elim (alike name a) [
      | inl same ↦ let is : length k.0 ≡ j = some-one (held a k'.1) (length k.0) j (ap (λ (q : List ℕ). held q k'.1) (sym same) ∙ held-this) h in omega (arith, is, count)
      | inr differ ↦ let old = kept.within a j (sym (held-other a differ) ∙ h) in omega (arith, old, count)
    ]

    named-more : (a : List ℕ) (j : ℕ) (d : List ℕ) → held a k'.1 ≡ Some j → get_or k'.0 j d ≡ a
    named-more a j d h = elim (alike name a) [
      | inl same ↦
          let is : length k.0 ≡ j = some-one (held a k'.1) (length k.0) j (ap (λ (q : List ℕ). held q k'.1) (sym same) ∙ held-this) h in
          ap (λ (xs : List (List ℕ)). get_or xs j d) names ∙ ap (λ n. get_or (k.0 ++ name ∷ []) n d) (sym is) ∙ get-last k.0 name d ∙ same
      | inr differ ↦
          let before = sym (held-other a differ) ∙ h in
          ap (λ (xs : List (List ℕ)). get_or xs j d) names ∙ get-more k.0 name j d (kept.within a j before) ∙ kept.named a j d before
    ]

    pub asked_more : IsKept no_values k'
    asked_more = record {
      found = found-more;
      within = within-more;
      named = named-more;
      sums = tallies ∙ ap (λ (xs : List (List Value)). xs ++ [] ∷ []) kept.sums ∙ sym (map-more (λ name. sums_of (no_values name)) k.0 name) ∙ ap (map (λ name. sums_of (no_values name))) (sym names);
    }

  pub keeps_new : keeps name k' ≡ true
  keeps_new = ap is_some held-this

  pub keeps_stays : (a : List ℕ) → keeps a k ≡ true → keeps a k' ≡ true
  keeps_stays a h = ap is_some (held-more a) ∙ by (bytes_eq name a) h
    where
      by : (b : Bool) → keeps a k ≡ true → is_some (cond b (Some (length k.0)) (held a k.1)) ≡ true
      by true h = refl
      by false h = h

-- ---- one more value

pub kept_same : (values values' : List ℕ → List Value) (k : Keeping) → ((a : List ℕ) → values a ≡ values' a) → IsKept values k → IsKept values' k
kept_same values values' k same h = record {
  found = h.found;
  within = h.within;
  named = h.named;
  sums = h.sums ∙ map-each (λ name. sums_of (values name)) (λ name. sums_of (values' name)) k.0 (λ a. ap sums_of (same a));
}

pub kept_none : (values values' : List ℕ → List Value) (k : Keeping) → k.0 ≡ [] → IsKept values k → IsKept values' k
kept_none values values' k none h = record {
  found = h.found;
  within = h.within;
  named = h.named;
  sums = h.sums ∙ ap (map (λ name. sums_of (values name))) none ∙ sym (ap (map (λ name. sums_of (values' name))) none);
}

module _ (values : List ℕ → List Value) (k : Keeping) (name s : List ℕ) (v : Decimal) (kept : IsKept values k) where
  abbrev after : List ℕ → List Value
  after = and_at values name (s, v)

  after-other : (a : List ℕ) → bytes_eq a name ≡ false → after a ≡ values a
  after-other a e = ap (λ (b : Bool). values a ++ cond b ((s, v) ∷ []) []) e ∙ nothing (values a)
    where
      nothing : (vs : List Value) → vs ++ [] ≡ vs
      nothing [] = refl
      nothing (x ∷ vs) = ap (λ ys. x ∷ ys) (nothing vs)

  after-this : after name ≡ values name ++ (s, v) ∷ []
  after-this = ap (λ (b : Bool). values name ++ cond b ((s, v) ∷ []) []) (bytes_eq-itself name)

  -- an account that isn't asked for
  pub added_none : held name k.1 ≡ None → IsKept after k
  added_none none = record {
    found = kept.found;
    within = kept.within;
    named = kept.named;
    sums = kept.sums ∙ map-at (λ a. sums_of (values a)) (λ a. sums_of (after a)) k.0 (λ i d h. ap sums_of (after-other (get_or k.0 i d) (elim (alike (get_or k.0 i d) name) [
      | inl same ↦ absurd (some-not (held name k.1) i (ap (λ (q : List ℕ). held q k.1) (sym same) ∙ kept.found i d h) none)
      | inr differ ↦ differ
    ])));
  }

  module _ (j : ℕ) (at : held name k.1 ≡ Some j) where
    pub place_within : j < length k.2
    place_within = let less = kept.within name j at in omega (arith, less, ap length kept.sums, length-map (λ a. sums_of (values a)) k.0)

    pub sums-there : (d : List Value) → get_or k.2 j d ≡ sums_of (values name)
    sums-there d =
        ap (λ (xs : List (List Value)). get_or xs j d) kept.sums ∙ get-map (λ a. sums_of (values a)) k.0 j [] d (kept.within name j at)
        ∙ ap (λ (a : List ℕ). sums_of (values a)) (kept.named name j [] at)

    pub added_one : (k' : Keeping) → k'.0 ≡ k.0 → k'.1 ≡ k.1 → k'.2 ≡ set k.2 j (added_to (sums_of (values name)) s v) → IsKept after k'
    added_one k' names places tallies = record {
      found = λ i d h. ap (λ (q : List ℕ). held q k'.1) (ap (λ (xs : List (List ℕ)). get_or xs i d) names) ∙ ap (λ (es : List (List ℕ × ℕ)). held (get_or k.0 i d) es) places ∙ kept.found i d (let more = ap length names in omega (arith, h, more));
      within = λ a i h. let less = kept.within a i (ap (λ (es : List (List ℕ × ℕ)). held a es) (sym places) ∙ h) in omega (arith, less, ap length names);
      named = λ a i d h. ap (λ (xs : List (List ℕ)). get_or xs i d) names ∙ kept.named a i d (ap (λ (es : List (List ℕ × ℕ)). held a es) (sym places) ∙ h);
      sums = tallies ∙ ap (λ (xs : List (List Value)). set xs j (added_to (sums_of (values name)) s v)) kept.sums
          ∙ set-map (λ a. sums_of (values a)) (λ a. sums_of (after a)) k.0 j (added_to (sums_of (values name)) s v) (kept.within name j at)
          (λ d. ap (λ (a : List ℕ). sums_of (after a)) (kept.named name j d at) ∙ ap sums_of after-this ∙ sums-push (values name) s v)
          (λ i d h differ. ap sums_of (after-other (get_or k.0 i d) (elim (alike (get_or k.0 i d) name) [
            | inl same ↦ absurd (differ (some-one (held name k.1) i j (ap (λ (q : List ℕ). held q k.1) (sym same) ∙ kept.found i d h) at))
            | inr other ↦ other
          ])))
          ∙ ap (map (λ a. sums_of (after a))) (sym names);
    }
