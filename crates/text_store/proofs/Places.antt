-- Where a place of a text lies in the text's parts.
use Rattle.std.proofs.Common.{◌≡◌, ◌∙◌, inl, inr, ℕ, zero, suc, ◌+◌, ◌-◌, ◌<◌, ◌≤◌, nat_lt, Bool, true, false, if◌then◌else◌, List, [], ◌∷◌, ◌++◌, length, take, drop, Option, Some, None, Vec, Global, refl, sym, ap, subst, arith, length-append, length-drop, append_assoc}
use Rattle.std.proofs.lemmas.Bool.{cases_lt}
use Rattle.std.proofs.lemmas.Bool.Decides.{nat_tests}
use Rattle.std.proofs.lemmas.List.{take-append-drop, drop-drop}
use Rattle.text_store.specs.declared.pieces.PlaceInParts.{PlaceInParts}
use Rattle.text_store.specs.Joined.{joined}
use Rattle.text_store.specs.Pieces.{place_from, IsInside}

abbrev pub Part : Type 0
Part = Vec ℕ Global

-- a place in a text, so many parts and bytes from its start
pub record IsPlace (parts : List Part) (at n inside : ℕ) : Type 0 where
  pub within : n ≤ length parts
  pub reached : at ≤ length (joined parts)
  pub front : take at (joined parts) ≡ joined (take n parts) ++ take inside (joined (drop n parts))
  pub behind : drop at (joined parts) ≡ drop inside (joined (drop n parts))
  pub is_inside : IsInside inside (drop n parts)

abbrev pub Found : List Part → ℕ → ℕ → Option PlaceInParts → Type 0
Found parts at before None = length (joined parts) < at
Found parts at before (Some place) = (n : ℕ) × (place.part ≡ before + n) × IsPlace parts at n place.inside

lt_true : (a b : ℕ) → a < b → nat_lt a b ≡ true
lt_true a b less = grind (arith, nat_tests)

lt_false : (a b : ℕ) → b ≤ a → nat_lt a b ≡ false
lt_false a b le = grind (arith, nat_tests)

take_past : (n : ℕ) (xs ys : List ℕ) → length xs ≤ n → take n (xs ++ ys) ≡ xs ++ take (n - length xs) ys
take_past n [] ys le = ap (λ (m : ℕ). take m ys) (let e : n ≡ n - 0 = omega arith in e)
take_past zero (x ∷ xs) ys le = absurd (omega arith)
take_past (suc n) (x ∷ xs) ys le =
    ap (λ (l : List ℕ). x ∷ l) (take_past n xs ys (omega (arith, le)))
    ∙ ap (λ (m : ℕ). x ∷ (xs ++ take m ys)) (let e : n - length xs ≡ suc n - suc (length xs) = omega arith in e)

drop_past : (n : ℕ) (xs ys : List ℕ) → length xs ≤ n → drop n (xs ++ ys) ≡ drop (n - length xs) ys
drop_past n [] ys le = ap (λ (m : ℕ). drop m ys) (let e : n ≡ n - 0 = omega arith in e)
drop_past zero (x ∷ xs) ys le = absurd (omega arith)
drop_past (suc n) (x ∷ xs) ys le =
    drop_past n xs ys (omega (arith, le)) ∙ ap (λ (m : ℕ). drop m ys) (let e : n - length xs ≡ suc n - suc (length xs) = omega arith in e)

append_nil : (l : List ℕ) → l ++ [] ≡ l
append_nil [] = refl
append_nil (x ∷ l) = ap (λ (t : List ℕ). x ∷ t) (append_nil l)

take_zero : (l : List ℕ) → take 0 l ≡ []
take_zero [] = refl
take_zero (x ∷ l) = refl

drop_zero : (l : List ℕ) → drop 0 l ≡ l
drop_zero [] = refl
drop_zero (x ∷ l) = refl

pub joined-append : (xs ys : List Part) → joined (xs ++ ys) ≡ joined xs ++ joined ys
joined-append [] ys = refl
joined-append (x ∷ xs) ys = ap (λ (l : List ℕ). x.items ++ l) (joined-append xs ys) ∙ sym (append_assoc x.items (joined xs) (joined ys))

pub joined-push : (xs : List Part) (x : Part) → joined (xs ++ x ∷ []) ≡ joined xs ++ x.items
joined-push xs x = joined-append xs (x ∷ []) ∙ ap (λ (l : List ℕ). joined xs ++ l) (append_nil x.items)

-- a place behind the first part
on_cons : (part : Part) (parts : List Part) (left before : ℕ) → length part.items ≤ left → (o : Option PlaceInParts)
    → Found parts (left - length part.items) (before + 1) o → Found (part ∷ parts) left before o
on_cons part parts left before le None short = omega (arith, short, length-append part.items (joined parts))
on_cons part parts left before le (Some place) found =
    let n = found.0 in
    let at = found.2 in (
      suc n,
      omega (arith, found.1),
      record {
        within = omega (arith, at.within);
        reached = omega (arith, at.reached, length-append part.items (joined parts));
        front =
            take_past left part.items (joined parts) le ∙ ap (λ (l : List ℕ). part.items ++ l) at.front
            ∙ sym (append_assoc part.items (joined (take n parts)) (take place.inside (joined (drop n parts))));
        behind = drop_past left part.items (joined parts) le ∙ at.behind;
        is_inside = at.is_inside;
      },
    )

pub found : (parts : List Part) (left before : ℕ) → Found parts left before (place_from parts left before)
found [] left before =
    elim (cases_lt 0 left) [
      | inl some ↦ subst (λ (b : Bool). Found [] left before (if b then None else Some (record { part = before; inside = 0 }))) (sym (lt_true 0 left some)) some
      | inr none ↦ subst (λ (b : Bool). Found [] left before (if b then None else Some (record { part = before; inside = 0 }))) (sym (lt_false 0 left none)) (
        0,
        omega arith,
        subst (λ (k : ℕ). IsPlace [] k 0 0) (let e : 0 ≡ left = omega (arith, none) in e)
            (record { within = omega arith; reached = omega arith; front = refl; behind = refl; is_inside = refl }),
      )
    ]
found (part ∷ parts) left before =
    elim (cases_lt left (length part.items)) [
      | inl less ↦ subst (λ (b : Bool). Found (part ∷ parts) left before (if b then Some (record { part = before; inside = left }) else place_from parts (left - length part.items) (before + 1)))
          (sym (lt_true left (length part.items) less)) (
            0,
            omega arith,
            record {
              within = omega arith;
              reached = omega (arith, less, length-append part.items (joined parts));
              front = refl;
              behind = refl;
              is_inside = less;
            },
          )
      | inr le ↦ subst (λ (b : Bool). Found (part ∷ parts) left before (if b then Some (record { part = before; inside = left }) else place_from parts (left - length part.items) (before + 1)))
          (sym (lt_false left (length part.items) le))
          (on_cons part parts left before le (place_from parts (left - length part.items) (before + 1)) (found parts (left - length part.items) (before + 1)))
    ]

-- the place that was found, from the first part on
pub found_first : (parts seen : List Part) → seen ≡ parts → (at : ℕ) (place : PlaceInParts) → Some place ≡ place_from seen at 0 → IsPlace parts at place.part place.inside
found_first parts seen same at place is =
    let all : Found parts at 0 (Some place) = subst (λ (o : Option PlaceInParts). Found parts at 0 o) (sym (is ∙ ap (λ (l : List Part). place_from l at 0) same)) (found parts at 0) in
    let n = all.0 in
    let e : n ≡ place.part = omega (arith, all.1) in
    subst (λ (k : ℕ). IsPlace parts at k place.inside) e all.2

pub found_none : (parts seen : List Part) → seen ≡ parts → (at : ℕ) → None ≡ place_from seen at 0 → length (joined parts) < at
found_none parts seen same at is = subst (λ (o : Option PlaceInParts). Found parts at 0 o) (sym (is ∙ ap (λ (l : List Part). place_from l at 0) same)) (found parts at 0)

-- the parts before and behind a place
module _ (parts : List Part) (at n inside : ℕ) (is : IsPlace parts at n inside) (kept taken : List Part) (is_kept : kept ≡ take n parts) (is_taken : taken ≡ drop n parts) where
  pub split_border : inside ≡ 0 → (at ≤ length (joined parts)) × (joined kept ≡ take at (joined parts)) × (joined taken ≡ drop at (joined parts))
  split_border none = (
    is.reached,
    sym (append_nil (joined kept)) ∙ (λ i. joined (is_kept i) ++ sym (take_zero (joined (drop n parts))) i)
        ∙ ap (λ (k : ℕ). joined (take n parts) ++ take k (joined (drop n parts))) (sym none) ∙ sym is.front,
    sym (drop_zero (joined taken)) ∙ (λ i. drop (sym none i) (joined (is_taken i))) ∙ sym is.behind,
  )

  pub split_inside : (front : Part) (pushed behind : List Part) → front.items ≡ take inside (joined taken) → pushed ≡ kept ++ front ∷ [] → joined behind ≡ drop inside (joined taken)
      → (at ≤ length (joined parts)) × (joined pushed ≡ take at (joined parts)) × (joined behind ≡ drop at (joined parts))
  split_inside front pushed behind is_front is_pushed is_behind = (
    is.reached,
    ap joined is_pushed ∙ joined-push kept front ∙ ap (λ (l : List ℕ). joined kept ++ l) is_front
        ∙ (λ i. joined (is_kept i) ++ take inside (joined (is_taken i))) ∙ sym is.front,
    is_behind ∙ (λ i. drop inside (joined (is_taken i))) ∙ sym is.behind,
  )

-- a part more
pub more : (parts new : List Part) (part : Part) (rest front behind : List ℕ) (size : ℕ) → new ≡ parts ++ part ∷ [] → part.items ≡ front → front ≡ take size rest → behind ≡ drop size rest
    → joined new ++ behind ≡ joined parts ++ rest
more parts new part rest front behind size is is_part is_front is_behind =
    (λ i. joined (is i) ++ is_behind i) ∙ ap (λ (l : List ℕ). l ++ drop size rest) (joined-push parts part ∙ ap (λ (l : List ℕ). joined parts ++ l) (is_part ∙ is_front))
    ∙ append_assoc (joined parts) (take size rest) (drop size rest) ∙ ap (λ (l : List ℕ). joined parts ++ l) (take-append-drop size rest)

pub last_part : (parts new : List Part) (part : Part) (rest : List ℕ) → new ≡ parts ++ part ∷ [] → part.items ≡ rest → joined new ≡ joined parts ++ rest
last_part parts new part rest is is_part = ap joined is ∙ joined-push parts part ∙ ap (λ (l : List ℕ). joined parts ++ l) is_part

-- a part of a text is replaced
module _ (old behind rest front new inserted : List ℕ) (at removed : ℕ) where
  pub replaced : at ≤ length old → front ≡ take at old → behind ≡ drop at old → removed ≤ length behind → rest ≡ drop removed behind → new ≡ (front ++ inserted) ++ rest
      → (at + removed ≤ length old) × (new ≡ take at old ++ inserted ++ drop (at + removed) old)
  replaced reached is_front is_behind inside is_rest is = (
    omega (arith, reached, inside, ap length is_behind, length-drop at old),
    is ∙ (λ i. (is_front i ++ inserted) ++ later i),
  )
    where
      later : rest ≡ drop (at + removed) old
      later = is_rest ∙ ap (λ (l : List ℕ). drop removed l) is_behind ∙ drop-drop removed at old

  pub too_far : at ≤ length old → behind ≡ drop at old → length behind < removed → length old < at + removed
  too_far reached is_behind short = omega (arith, reached, short, ap length is_behind, length-drop at old)
