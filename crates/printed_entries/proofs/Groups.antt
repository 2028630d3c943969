-- Digits with group marks between them, as a number is printed and as it is read.
use Rattle.std.proofs.Common.{ℕ, ◌≡◌, ◌+◌, ◌-◌, ◌<◌, ◌≤◌, ◌⊎◌, inl, inr, Bool, true, false, cond, ◌==◌, ◌&&◌, ◌||◌, List, [], ◌∷◌, ◌++◌, length, reverse, Option, Some, None, refl, ap, ◌∙◌, arith}
use Rattle.std.specs.Prelude.{nat_lt, nat_le, max, encode_utf8}
use Rattle.std.specs.List.{filter, list_all}
use Rattle.std.proofs.lemmas.Bool.{false≢true}
use Rattle.std.proofs.lemmas.Bool.Decides.{nat_tests}
use Rattle.std.proofs.lemmas.List.{reverse-append}
use Rattle.std.proofs.lemmas.Str.{encode_ascii}
use Rattle.hl_num.specs.declared.printing.Shape.{Shape}
use Rattle.hl_num.specs.Printing.{ends_group, grouped, mark_text, separator}
use Rattle.hl_num.specs.Reading.{are_groups, group_sizes, is_digit, is_mark, other_mark, sizes_between, widened}
use Rattle.entry_reader.proofs.Both.{both_true}
use Rattle.entry_reader.specs.Lines.{first_is}
use Rattle.printed_entries.specs.Shapes.{IsApart}

-- ---- sizes of groups

abbrev pub is_some_size : ℕ → Bool
is_some_size size = nat_lt 0 size

-- one more byte in the last group
abbrev bumped : List ℕ → List ℕ
bumped [] = 1 ∷ []
bumped (s ∷ []) = (s + 1) ∷ []
bumped (s ∷ t ∷ ts) = s ∷ bumped (t ∷ ts)

some_widened : (xs : List ℕ) → 0 < length (widened xs)
some_widened [] = omega arith
some_widened (s ∷ ss) = omega arith

some_between : (xs : List ℕ) → 0 < length (sizes_between xs)
some_between [] = omega arith
some_between (b ∷ bs) = by (is_mark b)
  where
    by : (t : Bool) → 0 < length (cond t (0 ∷ sizes_between bs) (widened (sizes_between bs)))
    by true = omega arith
    by false = some_widened (sizes_between bs)

bumped_zero : (xs : List ℕ) → 0 < length xs → 0 ∷ bumped xs ≡ bumped (0 ∷ xs)
bumped_zero [] some = absurd (omega arith)
bumped_zero (s ∷ ss) some = refl

bumped_widened : (xs : List ℕ) → widened (bumped xs) ≡ bumped (widened xs)
bumped_widened [] = refl
bumped_widened (s ∷ []) = refl
bumped_widened (s ∷ t ∷ ts) = refl

-- a digit at the end
between_digit : (d : ℕ) (xs : List ℕ) → is_mark d ≡ false → sizes_between (xs ++ d ∷ []) ≡ bumped (sizes_between xs)
between_digit d [] none = ap (λ (t : Bool). cond t (0 ∷ (0 ∷ [])) (widened (0 ∷ []))) none
between_digit d (x ∷ xs) none =
    ap (λ (ss : List ℕ). cond (is_mark x) (0 ∷ ss) (widened ss)) (between_digit d xs none) ∙ by (is_mark x)
  where
    by : (t : Bool) → cond t (0 ∷ bumped (sizes_between xs)) (widened (bumped (sizes_between xs))) ≡ bumped (cond t (0 ∷ sizes_between xs) (widened (sizes_between xs)))
    by true = bumped_zero (sizes_between xs) (some_between xs)
    by false = bumped_widened (sizes_between xs)

-- a mark and a digit at the end
widened_more : (xs : List ℕ) → 0 < length xs → widened (xs ++ 1 ∷ []) ≡ widened xs ++ 1 ∷ []
widened_more [] some = absurd (omega arith)
widened_more (s ∷ ss) some = refl

between_group : (o d : ℕ) (xs : List ℕ) → is_mark o ≡ true → is_mark d ≡ false → sizes_between (xs ++ o ∷ d ∷ []) ≡ sizes_between xs ++ 1 ∷ []
between_group o d [] mark none = rw (mark, none) refl
between_group o d (x ∷ xs) mark none =
    ap (λ (ss : List ℕ). cond (is_mark x) (0 ∷ ss) (widened ss)) (between_group o d xs mark none) ∙ by (is_mark x)
  where
    by : (t : Bool) → cond t (0 ∷ (sizes_between xs ++ 1 ∷ [])) (widened (sizes_between xs ++ 1 ∷ [])) ≡ cond t (0 ∷ sizes_between xs) (widened (sizes_between xs)) ++ 1 ∷ []
    by true = refl
    by false = widened_more (sizes_between xs) (some_between xs)

-- all sizes stay above zero
one_above : (s : ℕ) → nat_lt 0 (s + 1) ≡ true
one_above s = grind (arith, nat_tests)

all_bumped : (xs : List ℕ) → list_all is_some_size xs ≡ true → list_all is_some_size (bumped xs) ≡ true
all_bumped [] h = refl
all_bumped (s ∷ []) h = ap (λ (t : Bool). t && true) (one_above s)
all_bumped (s ∷ t ∷ ts) h =
    let all = both_true (is_some_size s) (list_all is_some_size (t ∷ ts)) h in
    ap (λ (b : Bool). b && list_all is_some_size (bumped (t ∷ ts))) all.0 ∙ all_bumped (t ∷ ts) all.1

all_more : (xs : List ℕ) → list_all is_some_size xs ≡ true → list_all is_some_size (xs ++ 1 ∷ []) ≡ true
all_more [] h = refl
all_more (s ∷ ss) h =
    let all = both_true (is_some_size s) (list_all is_some_size ss) h in
    ap (λ (b : Bool). b && list_all is_some_size (ss ++ 1 ∷ [])) all.0 ∙ all_more ss all.1

groups_of : (xs : List ℕ) → list_all is_some_size xs ≡ true → are_groups xs ≡ true
groups_of [] h = refl
groups_of (s ∷ []) h = refl
groups_of (s ∷ t ∷ ts) h = h

-- ---- what is grouped

-- a digit, or the other mark
abbrev pub is_part : ℕ → ℕ → Bool
is_part o b = is_digit b || (b == o)

-- Digits with single marks between some of them.
pub record IsGrouped (o : ℕ) (ds g : List ℕ) : Type 0 where
  pub parts : list_all (is_part o) g ≡ true
  pub kept : filter is_digit g ≡ ds
  pub sizes : list_all is_some_size (group_sizes g) ≡ true
  pub first : first_is is_digit g ≡ true

pub are_grouped : (o : ℕ) (ds g : List ℕ) → IsGrouped o ds g → are_groups (group_sizes g) ≡ true
are_grouped o ds g is = groups_of (group_sizes g) is.sizes

pub digit_mark : (b : ℕ) → is_digit b ≡ true → is_mark b ≡ false
digit_mark b h = grind (arith, nat_tests)

pub mark_digit : (o : ℕ) → is_mark o ≡ true → is_digit o ≡ false
mark_digit o h = grind (arith, nat_tests)

same_byte : (o : ℕ) → (o == o) ≡ true
same_byte o = grind (arith, nat_tests)

digit_part : (o d : ℕ) → is_digit d ≡ true → is_part o d ≡ true
digit_part o d h = ap (λ (t : Bool). t || (d == o)) h

either_true : (a b : Bool) → b ≡ true → (a || b) ≡ true
either_true true b h = refl
either_true false b h = h

mark_part : (o : ℕ) → is_part o o ≡ true
mark_part o = either_true (is_digit o) (o == o) (same_byte o)

one_group : (o d : ℕ) → is_digit d ≡ true → IsGrouped o (d ∷ []) (d ∷ [])
one_group o d h =
    let part = digit_part o d h in
    let none = digit_mark d h in
    record {
      parts = ap (λ (t : Bool). t && true) part;
      kept = ap (λ (t : Bool). cond t (d ∷ []) []) h;
      sizes = ap (λ (t : Bool). list_all is_some_size (cond t (0 ∷ (0 ∷ [])) (widened (0 ∷ [])))) none;
      first = h;
    }

next_digit : (o d : ℕ) (ds g : List ℕ) → is_digit d ≡ true → IsGrouped o ds g → IsGrouped o (d ∷ ds) (d ∷ g)
next_digit o d ds g h is =
    let turned : group_sizes (d ∷ g) ≡ bumped (group_sizes g) = ap sizes_between (reverse-append (d ∷ []) g) ∙ between_digit d (reverse g) (digit_mark d h) in
    record {
      parts = ap (λ (t : Bool). t && list_all (is_part o) g) (digit_part o d h) ∙ is.parts;
      kept = ap (λ (t : Bool). cond t (d ∷ filter is_digit g) (filter is_digit g)) h ∙ ap (λ (xs : List ℕ). d ∷ xs) is.kept;
      sizes = ap (list_all is_some_size) turned ∙ all_bumped (group_sizes g) is.sizes;
      first = h;
    }

next_group : (o d : ℕ) (ds g : List ℕ) → is_mark o ≡ true → is_digit d ≡ true → IsGrouped o ds g → IsGrouped o (d ∷ ds) (d ∷ o ∷ g)
next_group o d ds g mark h is =
    let turned : group_sizes (d ∷ o ∷ g) ≡ group_sizes g ++ 1 ∷ [] = ap sizes_between (reverse-append (d ∷ o ∷ []) g) ∙ between_group o d (reverse g) mark (digit_mark d h) in
    record {
      parts =
          ap (λ (t : Bool). t && (is_part o o && list_all (is_part o) g)) (digit_part o d h)
          ∙ ap (λ (t : Bool). t && list_all (is_part o) g) (mark_part o)
          ∙ is.parts;
      kept =
          ap (λ (t : Bool). cond t (d ∷ filter is_digit (o ∷ g)) (filter is_digit (o ∷ g))) h
          ∙ ap (λ (t : Bool). d ∷ cond t (o ∷ filter is_digit g) (filter is_digit g)) (mark_digit o mark)
          ∙ ap (λ (xs : List ℕ). d ∷ xs) is.kept;
      sizes = ap (list_all is_some_size) turned ∙ all_more (group_sizes g) is.sizes;
      first = h;
    }

-- ---- what is printed

-- what stands behind a digit: nothing, or the other mark, and then more digits follow
abbrev Between : Shape → ℕ → ℕ → Type 0
Between shape o after = (separator shape after ≡ []) ⊎ ((separator shape after ≡ o ∷ []) × (0 < after))

both_parts : (a b : Bool) → (a && b) ≡ true → a ≡ true
both_parts true b h = refl
both_parts false b h = absurd (false≢true h)

at_most : (a b : ℕ) → nat_le a b ≡ true → a ≤ b
at_most a b h = grind (arith, nat_tests)

reaches : (k after : ℕ) → nat_le (max 1 k) after ≡ true → 0 < after
reaches k after h =
    let most : max 1 k ≤ after = at_most (max 1 k) after h in
    omega (arith, most)

mark_low : (o : ℕ) → is_mark o ≡ true → o < 128
mark_low o h = grind (arith, nat_tests)

other_is_mark : (m : ℕ) → is_mark (other_mark m) ≡ true
other_is_mark m = by (m == 46)
  where
    by : (t : Bool) → is_mark (cond t 44 46) ≡ true
    by true = refl
    by false = refl

between_by : (shape : Shape) (m after : ℕ) (t : Bool) (group : Option ℕ) → ends_group shape after ≡ t → IsApart group m
    → (cond t (mark_text group) [] ≡ []) ⊎ ((cond t (mark_text group) [] ≡ other_mark m ∷ []) × (0 < after))
between_by shape m after false group e is = inl refl
between_by shape m after true None e is = inl refl
between_by shape m after true (Some g) e is =
    inr (ap encode_utf8 is ∙ encode_ascii (other_mark m) (mark_low (other_mark m) (other_is_mark m)), reaches shape.first after (both_parts (nat_le (max 1 shape.first) after) _ e))

between : (shape : Shape) (m after : ℕ) → IsApart shape.group m → Between shape (other_mark m) after
between shape m after is = between_by shape m after (ends_group shape after) shape.group refl is

no_more : (s : List ℕ) (o d : ℕ) → is_digit d ≡ true → (s ≡ []) ⊎ ((s ≡ o ∷ []) × (0 < 0)) → IsGrouped o (d ∷ []) ((d ∷ s) ++ [])
no_more s o d h (inl none) = rw none (one_group o d h)
no_more s o d h (inr both) = absurd (omega (arith, both.1))

then_more : (s ds g : List ℕ) (o d k : ℕ) → is_mark o ≡ true → is_digit d ≡ true → IsGrouped o ds g → (s ≡ []) ⊎ ((s ≡ o ∷ []) × (0 < k)) → IsGrouped o (d ∷ ds) ((d ∷ s) ++ g)
then_more s ds g o d k mark h is (inl none) = rw none (next_digit o d ds g h is)
then_more s ds g o d k mark h is (inr both) = rw (both.0) (next_group o d ds g mark h is)

-- digits as they are grouped
pub grouped_is : (shape : Shape) (m d : ℕ) (ds : List ℕ) → IsApart shape.group m → is_digit d ≡ true → list_all is_digit ds ≡ true
    → IsGrouped (other_mark m) (d ∷ ds) (grouped shape (d ∷ ds))
grouped_is shape m d [] is h all = no_more (separator shape 0) (other_mark m) d h (between shape m 0 is)
grouped_is shape m d (e ∷ es) is h all =
    let both = both_true (is_digit e) (list_all is_digit es) all in
    then_more (separator shape (length (e ∷ es))) (e ∷ es) (grouped shape (e ∷ es)) (other_mark m) d (length (e ∷ es)) (other_is_mark m) h
    (grouped_is shape m e es is both.0 both.1) (between shape m (length (e ∷ es)) is)
