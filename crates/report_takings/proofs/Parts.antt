-- The front of a name that its first parts make up.
use Rattle.std.proofs.Common.{◌≡◌, ℕ, zero, suc, ◌+◌, ◌-◌, ◌<◌, ◌≤◌, ◌==◌, true, false, cond, List, [], ◌∷◌, length, get_or, take, drop, drop-cons, add-one, eq-eqb, refl, sym, ap, ◌∙◌, arith}
use Rattle.std.specs.List.{join_with_byte}
use Rattle.std.proofs.lemmas.Bool.{eqb-true, ne_eqb}
use Rattle.std.proofs.lemmas.List.{drop_all}
use Rattle.book.specs.Accounts.{onto, parts_of}
use Rattle.report_takings.specs.Fronts.{front_length}

-- there is a first part
record Some_first (parts : List (List ℕ)) : Type 0 where
  first : List ℕ
  rest : List (List ℕ)
  is : parts ≡ first ∷ rest

has_first : (bs : List ℕ) → Some_first (parts_of bs)
has_first [] = record { first = []; rest = []; is = refl }
has_first (b ∷ bs) =
    elim (b == 58) as (λ t. Some_first (cond t ([] ∷ parts_of bs) (onto b (parts_of bs)))) [
      | true ↦ record { first = []; rest = parts_of bs; is = refl }
      | false ↦ (let some = has_first bs in record { first = b ∷ some.first; rest = some.rest; is = ap (onto b) some.is })
    ]

join_onto : (b : ℕ) (part : List ℕ) (parts : List (List ℕ)) → join_with_byte 58 ((b ∷ part) ∷ parts) ≡ b ∷ join_with_byte 58 (part ∷ parts)
join_onto b part [] = refl
join_onto b part (next ∷ parts) = refl

-- a byte before the first part
more_of : (n b : ℕ) (parts : List (List ℕ)) → Some_first parts → join_with_byte 58 (take (suc n) (onto b parts)) ≡ b ∷ join_with_byte 58 (take (suc n) parts)
more_of n b [] some = absurd (let no : ⊥ = cc (some.is) in no)
more_of n b (part ∷ parts) some = join_onto b part (take n parts)

-- a colon, behind an empty first part
past_colon : (n : ℕ) (parts : List (List ℕ)) → Some_first parts → join_with_byte 58 (take (suc (suc n)) ([] ∷ parts)) ≡ 58 ∷ join_with_byte 58 (take (suc n) parts)
past_colon n [] some = absurd (let no : ⊥ = cc (some.is) in no)
past_colon n (part ∷ parts) some = refl

-- the first parts, one at least, are a front of the name
pub front_is : (n : ℕ) (bs : List ℕ) → join_with_byte 58 (take (suc n) (parts_of bs)) ≡ take (front_length (suc n) bs) bs
front_is zero [] = refl
front_is (suc n) [] = refl
front_is zero (b ∷ bs) =
    elim (b == 58) as (λ t. join_with_byte 58 (take 1 (cond t ([] ∷ parts_of bs) (onto b (parts_of bs)))) ≡ take (cond t 0 (suc (front_length 1 bs))) (b ∷ bs)) [
      | true ↦ refl
      | false ↦ more_of 0 b (parts_of bs) (has_first bs) ∙ ap (λ front. b ∷ front) (front_is zero bs)
    ]
front_is (suc n) (b ∷ bs) =
    elim (b == 58) as (λ t. (b == 58) ≡ t → join_with_byte 58 (take (suc (suc n)) (cond t ([] ∷ parts_of bs) (onto b (parts_of bs)))) ≡ b ∷ take (cond t (front_length (suc n) bs) (front_length (suc (suc n)) bs)) bs) [
      | true ↦ λ e. past_colon n (parts_of bs) (has_first bs) ∙ ap (λ front. 58 ∷ front) (front_is n bs) ∙ ap (λ c. c ∷ take (front_length (suc n) bs) bs) (sym (eqb-true b 58 e))
      | false ↦ λ e. more_of (suc n) b (parts_of bs) (has_first bs) ∙ ap (λ front. b ∷ front) (front_is (suc n) bs)
    ] refl

-- ---- the front, measured byte by byte

-- another byte
byte_more : (parts b : ℕ) (bs : List ℕ) → 1 ≤ parts → (b == 58) ≡ false → front_length parts (b ∷ bs) ≡ 1 + front_length parts bs
byte_more zero b bs some e = absurd (omega arith)
byte_more (suc zero) b bs some e = rw e (omega arith)
byte_more (suc (suc n)) b bs some e = rw e (omega arith)

-- a colon before the last part
colon_more : (parts b : ℕ) (bs : List ℕ) → 2 ≤ parts → (b == 58) ≡ true → front_length parts (b ∷ bs) ≡ 1 + front_length (parts - 1) bs
colon_more zero b bs some e = absurd (omega arith)
colon_more (suc zero) b bs some e = absurd (omega arith)
colon_more (suc (suc n)) b bs some e = let less : suc (suc n) - 1 ≡ suc n = omega arith in rw (e, less) (omega arith)

-- the colon behind the last part
colon_last : (b : ℕ) (bs : List ℕ) → (b == 58) ≡ true → front_length 1 (b ∷ bs) ≡ 0
colon_last b bs e = rw e refl

nothing_more : (parts : ℕ) → front_length parts [] ≡ 0
nothing_more zero = refl
nothing_more (suc n) = refl

left_at : (bs : List ℕ) (i : ℕ) → i < length bs → drop i bs ≡ get_or bs i 0 ∷ drop (i + 1) bs
left_at bs i lt = rw (add-one, drop-cons bs i 0) refl

module _ (bs : List ℕ) (i parts whole rest : ℕ) (so_far : whole ≡ i + front_length parts (drop i bs)) where
  pub front_byte : i < length bs → 1 ≤ parts → (get_or bs i 0 ≡ 58 → ⊥) → rest ≡ parts → whole ≡ i + 1 + front_length rest (drop (i + 1) bs)
  front_byte lt some other same =
      rw same (omega (arith, so_far, ap (front_length parts) (left_at bs i lt), byte_more parts (get_or bs i 0) (drop (i + 1) bs) some (ne_eqb (get_or bs i 0) 58 other)))

  pub front_colon : i < length bs → 1 ≤ parts → (parts ≡ 1 → ⊥) → get_or bs i 0 ≡ 58 → rest ≡ parts - 1 → whole ≡ i + 1 + front_length rest (drop (i + 1) bs)
  front_colon lt some other is less =
      rw less (omega (arith, so_far, ap (front_length parts) (left_at bs i lt), colon_more parts (get_or bs i 0) (drop (i + 1) bs) (omega arith) (eq-eqb (get_or bs i 0) 58 is)))

module _ (bs : List ℕ) (i parts whole : ℕ) (so_far : whole ≡ i + front_length parts (drop i bs)) where
  pub front_last : i < length bs → parts ≡ 1 → get_or bs i 0 ≡ 58 → whole ≡ i
  front_last lt one is = omega (arith, so_far, ap (front_length parts) (left_at bs i lt), ap (λ n. front_length n (get_or bs i 0 ∷ drop (i + 1) bs)) one, colon_last (get_or bs i 0) (drop (i + 1) bs) (eq-eqb (get_or bs i 0) 58 is))

  pub front_all : length bs ≤ i → whole ≡ i
  front_all le = omega (arith, so_far, ap (front_length parts) (drop_all i bs le), nothing_more parts)

-- a front of some length
pub front_of : (depth : ℕ) (bs : List ℕ) (n : ℕ) → 1 ≤ depth → n ≡ front_length depth bs → join_with_byte 58 (take depth (parts_of bs)) ≡ take n bs
front_of zero bs n some is = absurd (omega arith)
front_of (suc depth) bs n some is = front_is depth bs ∙ ap (λ k. take k bs) (sym is)
