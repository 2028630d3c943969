-- The kits of a house in memory.
use Rattle.std.proofs.Common.{◌≡◌, ℕ, suc, ◌+◌, ◌-◌, ◌<◌, ◌≤◌, ◌==◌, ◌^◌, Bool, true, false, if◌then◌else◌, min, List, [], ◌∷◌, ◌++◌, length, Some, refl, ap, sym, subst, ◌∙◌, append-nil, arith}
use Rattle.std.specs.List.{prefix_len, sum_by}
use Rattle.std.specs.declared.snapshot.Snapshot.{Snapshot}
use Rattle.std.proofs.lemmas.Bool.Decides.{nat_tests}
use Rattle.std.proofs.lemmas.List.{length-map, map-append}
use Rattle.std.proofs.lemmas.List.Sums.{sum_by_push}
use Rattle.desk_team.specs.Houses.{after_maker, mem_faultless, values_of}

zero_is : (n : ℕ) → (n == 0) ≡ true → n ≡ 0
zero_is n is = grind (arith, nat_tests)

-- a list without an item
pub no_items : {A : Type 0} (xs : List A) → length xs ≡ 0 → xs ≡ []
no_items [] none = refl
no_items (x ∷ xs) none = absurd (omega (arith, none))

pub empty : {A : Type 0} (xs : List A) → (length xs == 0) ≡ true → xs ≡ []
empty xs is = no_items xs (zero_is (length xs) is)

-- a kit that is handed out without a fault, where one is
one_less : (b c : Bool) (n : ℕ) → 0 < (if b then (if c then 1 + n else 0) else 0)
    → ((if b then (if c then 1 + n else 0) else 0) ≡ (if b then n else 0) + 1) × (c ≡ true)
one_less true true n some = (omega arith, refl)
one_less true false n some = absurd (omega (arith, some))
one_less false c n some = absurd (omega (arith, some))

no_kit : (b : Bool) → 0 < (if b then 0 else 0) → ⊥
no_kit true some = omega (arith, some)
no_kit false some = omega (arith, some)

is_so : (b : Bool) (n : ℕ) → 0 < (if b then n else 0) → b ≡ true
is_so true n some = refl
is_so false n some = absurd (omega (arith, some))

module _ {A : Type 0} where
  -- one more is handed out
  pub one_given : (made news : List (Snapshot A)) (s : Snapshot A) (kit : A) → news ≡ made ++ s ∷ [] → s.value ≡ kit
      → Some (values_of news) ≡ Some (values_of made ++ kit ∷ [])
  one_given made news s kit pushed is =
      ap (λ (l : List (Snapshot A)). Some (values_of l)) pushed
      ∙ ap (λ (l : List A). Some l) (map-append (λ (t : Snapshot A). t.value) made (s ∷ []))
      ∙ ap (λ (k : A). Some (values_of made ++ k ∷ [])) is

  -- none is
  pub none_given : (kits : List A) → Some kits ≡ Some (kits ++ [])
  none_given kits = ap (λ (l : List A). Some l) (sym (append-nil kits))

  -- no more came back than were handed out
  pub in_order : (made : List (Snapshot A)) (back : List A) → length back ≤ length made → length back + 0 ≤ length (values_of made)
  in_order made back le =
      let same = length-map made (λ (t : Snapshot A). t.value) in omega (arith, same, le)

  -- where one is out, there is room for it
  pub room_left : (made : List (Snapshot A)) (back : List A) → length back + 1 ≤ length (values_of made) → length back + 1 ≤ length made
  room_left made back out =
      let same = length-map made (λ (t : Snapshot A). t.value) in omega (arith, same, out)

  -- refusals that are counted up to the end of the counter
  pub one_more_refused : (refusals : A → ℕ) (back news : List A) (kit : A) → news ≡ back ++ kit ∷ []
      → min (sum_by refusals news) (2 ^ 64 - 1) ≡ after_maker (min (sum_by refusals back) (2 ^ 64 - 1)) (refusals kit)
  one_more_refused refusals back news kit pushed =
      let sum = ap (sum_by refusals) pushed ∙ sum_by_push refusals back kit in omega (arith, sum)

module _ {A : Type 0} (sound : A → Bool) where
  -- no call of a house in memory is to fail
  pub none_fails : (fails : List ℕ) (coming : List A) → 0 < mem_faultless sound fails coming → fails ≡ []
  none_fails fails coming some = empty fails (is_so (length fails == 0) (prefix_len sound coming) some)

  -- the next kit is handed out, and its door is sound
  pub one_faultless : (fails : List ℕ) (coming news : List A) (kit : A) → coming ≡ kit ∷ news → 0 < mem_faultless sound fails coming
      → (mem_faultless sound fails coming ≡ mem_faultless sound fails news + 1) × (sound kit ≡ true)
  one_faultless fails coming news kit is some =
      let there = subst (λ (kits : List A). 0 < mem_faultless sound fails kits) is some in
      let less = one_less (length fails == 0) (sound kit) (prefix_len sound news) there in
      (ap (mem_faultless sound fails) is ∙ less.0, less.1)

  pub no_faultless : (fails : List ℕ) (coming : List A) → coming ≡ [] → 0 < mem_faultless sound fails coming → ⊥
  no_faultless fails coming none some =
      no_kit (length fails == 0) (subst (λ (kits : List A). 0 < mem_faultless sound fails kits) none some)
