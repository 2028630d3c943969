-- What a front of a file is beside a half.
use Rattle.std.proofs.Common.{◌≡◌, ◌⊎◌, inl, inr, ⊎_elim, ℕ, zero, suc, ◌+◌, ◌-◌, ◌<◌, ◌≤◌, ◌^◌, ◌==◌, ◌&&◌, nat_le, Bool, true, false, List, [], ◌∷◌, ◌++◌, length, take, drop, min, if◌then◌else◌, Option, Some, None, refl, sym, ◌∙◌, ap, subst, arith, length-drop, length-take}
use Rattle.std.specs.Int.{w64, from_le_bytes}
use Rattle.std.specs.Str.{bytes_eq}
use Rattle.std.proofs.lemmas.Bool.{cases_lt, cases_eq}
use Rattle.std.proofs.lemmas.List.{take-take, take_all}
use Rattle.text_store.specs.Entries.{Entry, open_from, open_entries}
use Rattle.text_store.specs.Image.{Half, Content, letters, number_8, live, live_of, started, checkpointed}
use Rattle.text_store.specs.Stores.{IsChosen}
use Rattle.text_store.proofs.OpenEntries.{taken, not_whole, not_open}
use Rattle.text_store.proofs.Wholes.{live_nothing, live_short}

-- the first record of a front, if it has one, is that of the whole
abbrev pub FirstSame : List Entry → List Entry → Type 0
FirstSame part whole = (part ≡ []) ⊎ ((first : Entry) × (rest : List Entry) × (others : List Entry) × (part ≡ first ∷ rest) × (whole ≡ first ∷ others))

-- a front of what stands behind a gate and a kind, and what the whole has there
module _ (n m at gate kind k : ℕ) (rest : List ℕ) where
  abbrev cut : List ℕ
  cut = take k rest

  pub same_first : gate ≡ 1 → 8 + from_le_bytes w64 (take 8 cut) < length cut → FirstSame (open_from (suc n) at (gate ∷ kind ∷ cut)) (open_from (suc m) at (gate ∷ kind ∷ rest))
  unfolding open_from
  same_first is_open inside =
      let len = from_le_bytes w64 (take 8 cut) in
      let long : length cut ≡ min k (length rest) = length-take k rest in
      let eight : take 8 cut ≡ take 8 rest = take-take 8 k rest (omega (arith, long, inside)) in
      let same : from_le_bytes w64 (take 8 rest) ≡ len = ap (λ (l : List ℕ). from_le_bytes w64 l) (sym eight) in
      let whole : take len (drop 8 cut) ≡ take (from_le_bytes w64 (take 8 rest)) (drop 8 rest) =
      part 8 len k rest (omega (arith, long, inside)) ∙ ap (λ (j : ℕ). take j (drop 8 rest)) (sym same) in
      inr (
        record { at = at; kind = kind; payload = take len (drop 8 cut) },
        open_from n (at + 10 + len) (drop (8 + len) cut),
        open_from m (at + 10 + from_le_bytes w64 (take 8 rest)) (drop (8 + from_le_bytes w64 (take 8 rest)) rest),
        taken gate (8 + len) (length cut) _ [] is_open inside,
        taken gate (8 + from_le_bytes w64 (take 8 rest)) (length rest) _ [] is_open (omega (arith, long, inside, same))
            ∙ ap (λ (p : List ℕ). record { at = at; kind = kind; payload = p } ∷ open_from m (at + 10 + from_le_bytes w64 (take 8 rest)) (drop (8 + from_le_bytes w64 (take 8 rest)) rest)) (sym whole),
      )
    where
      -- a part that lies in a front
      part : (i j k : ℕ) (l : List ℕ) → i + j ≤ k → take j (drop i (take k l)) ≡ take j (drop i l)
      part zero j k l le = take-take j k l (omega (arith, le))
      part (suc i) j zero l le = absurd (omega arith)
      part (suc i) j (suc k) [] le = refl
      part (suc i) j (suc k) (x ∷ l) le = part i j k l (omega (arith, le))

  pub first_same : FirstSame (open_from (suc n) at (gate ∷ kind ∷ cut)) (open_from (suc m) at (gate ∷ kind ∷ rest))
  unfolding open_from
  first_same =
      elim (cases_eq gate 1) [
        | inr shut ↦ inl (not_open gate _ _ _ [] shut)
        | inl is_open ↦ elim (cases_lt (8 + from_le_bytes w64 (take 8 cut)) (length cut)) [
          | inr short ↦ inl (not_whole gate (8 + from_le_bytes w64 (take 8 cut)) (length cut) _ [] short)
          | inl inside ↦ same_first is_open inside
        ]
      ]

pub front_first : (n m at k : ℕ) (bytes : List ℕ) → length bytes ≤ m → FirstSame (open_from n at (take k bytes)) (open_from m at bytes)
unfolding open_from
front_first zero m at k bytes le = inl refl
front_first (suc n) m at zero bytes le = inl refl
front_first (suc n) m at (suc k) [] le = inl refl
front_first (suc n) m at (suc zero) (gate ∷ bytes) le = inl refl
front_first (suc n) m at (suc (suc k)) (gate ∷ []) le = inl refl
front_first (suc n) zero at (suc (suc k)) (gate ∷ kind ∷ rest) le = absurd (omega arith)
front_first (suc n) (suc m) at (suc (suc k)) (gate ∷ kind ∷ rest) le = first_same n m at gate kind k rest

-- a half is chosen beside a front of a file as beside the file
module _ (in_second : Bool) (generation : ℕ) where
  chosen_on : (head : List ℕ) (part whole : List Entry) → FirstSame part whole → IsChosen in_second generation (live_of head whole) → IsChosen in_second generation (live_of head part)
  chosen_on head part whole (inl none) is = subst (λ (o : Option Half). IsChosen in_second generation o) (sym (ap (λ (l : List Entry). live_of head l) none ∙ live_nothing head)) tt
  chosen_on head part whole (inr same) is =
      subst (λ (l : List Entry). IsChosen in_second generation (live_of head l)) (sym same.3)
      (by_start in_second (bytes_eq (take 8 head) (letters ++ 2 ∷ []) && nat_le (number_8 (drop 16 head)) 2 && nat_le (number_8 (drop 24 head)) (2 ^ 62)) (same.0.kind == 67)
      (checkpointed same.0.payload) (subst (λ (l : List Entry). IsChosen in_second generation (live_of head l)) same.4 is))
    where
      by_start : (place b c : Bool) (o : Option Content)
          → IsChosen place generation (if b then (if c then started (number_8 (drop 8 head)) (number_8 (drop 16 head)) (number_8 (drop 24 head)) o same.2 else None) else None)
          → IsChosen place generation (if b then (if c then started (number_8 (drop 8 head)) (number_8 (drop 16 head)) (number_8 (drop 24 head)) o same.1 else None) else None)
      by_start place false c o is = tt
      by_start place true false o is = tt
      by_start place true true None is = tt
      by_start true true true (Some start) is = is
      by_start false true true (Some start) is = is

  pub front_chosen : (file : List ℕ) (n : ℕ) → IsChosen in_second generation (live file) → IsChosen in_second generation (live (take n file))
  unfolding open_entries
  front_chosen file n is = ⊎_elim short long (cases_lt n 32)
    where
      short : n < 32 → IsChosen in_second generation (live (take n file))
      short less = subst (λ (o : Option Half). IsChosen in_second generation o) (sym (live_short (take n file) (omega (arith, length-take n file, less)))) tt

      long : 32 ≤ n → IsChosen in_second generation (live (take n file))
      long more =
          let head : take 32 (take n file) ≡ take 32 file = take-take 32 n file more in
          let behind : drop 32 (take n file) ≡ take (n - 32) (drop 32 file) = drop_take 32 n file more in
          let first = front_first (length (take n file)) (length file) 32 (n - 32) (drop 32 file) (omega (arith, length-drop 32 file)) in
          subst (λ (o : Option Half). IsChosen in_second generation o)
          (sym (λ i. live_of (head i) (open_from (length (take n file)) 32 (behind i))))
          (chosen_on (take 32 file) (open_from (length (take n file)) 32 (take (n - 32) (drop 32 file))) (open_from (length file) 32 (drop 32 file)) first is)
        where
          drop_take : (i n : ℕ) (l : List ℕ) → i ≤ n → drop i (take n l) ≡ take (n - i) (drop i l)
          drop_take zero n l le = ap (λ (k : ℕ). take k l) (omega arith)
          drop_take (suc i) zero l le = absurd (omega (arith, le))
          drop_take (suc i) (suc n) [] le = sym (take_all (suc n - suc i) [] (omega arith))
          drop_take (suc i) (suc n) (x ∷ l) le = drop_take i n l (omega (arith, le)) ∙ ap (λ (k : ℕ). take k (drop i l)) (omega arith)
