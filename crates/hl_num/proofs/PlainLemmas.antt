-- A text that is digits with one mark between them, and the number that it is.
use Rattle.std.proofs.Common.{ℕ, pos, ◌≡◌, ◌+◌, ◌-◌, ◌*◌, ◌^◌, ◌<◌, ◌≤◌, ◌==◌, Bool, true, false, cond, not, ◌||◌, ◌&&◌, nat_lt, nat_le, List, [], ◌∷◌, ◌++◌, length, get_or, take, drop, reverse, Option, Some, None, suc, refl, sym, ap, ◌∙◌, subst, arith, lit<}
use Rattle.std.specs.Prelude.{unwrap_or}
use Rattle.std.specs.List.{list_all, list_any, find, count_by, prefix_len}
use Rattle.std.specs.Option.{option_or}
use Rattle.std.proofs.lemmas.Bool.{and_parts, and_from}
use Rattle.std.proofs.lemmas.Bool.Decides.{nat_tests}
use Rattle.std.proofs.lemmas.List.{take-append-drop, drop_more, reverse-append}
use Rattle.std.proofs.lemmas.List.Folds.{find-append, list_all-append}
use Rattle.std.proofs.lemmas.List.Sums.{sum_by-cons, sum_by-append}
use Rattle.hl_num.specs.declared.reading.Number.{Number}
use Rattle.hl_num.specs.Reading.{is_digit, is_mark, is_number_byte, other_mark, kept_mark, decimal_mark, whole_len, widened, sizes_between, group_sizes, first_size, rest_size, are_groups, mantissa_of, is_written, number_with, number_of}
use Rattle.hl_num.proofs.ReadingLemmas.{number_with-some}

unmarked : (b : ℕ) → is_digit b ≡ true → is_mark b ≡ false
unmarked b h = grind (arith, nat_tests)

apart : (b m : ℕ) → is_digit b ≡ true → is_mark m ≡ true → (b == m) ≡ false
apart b m h k = grind (arith, nat_tests)

alike : (m : ℕ) → (m == m) ≡ true
alike m = grind (arith, nat_tests)

equal_from_test : (d m : ℕ) → (d == m) ≡ true → m ≡ d
equal_from_test d m h = grind (arith, nat_tests)

or_right : (x y : Bool) → y ≡ true → (x || y) ≡ true
or_right true y h = refl
or_right false y h = h

-- the front of a list that passes a test does
pub front_passes : (p : ℕ → Bool) (xs : List ℕ) → list_all p (take (prefix_len p xs) xs) ≡ true
front_passes p [] = refl
front_passes p (x ∷ xs) = by (p x) refl (front_passes p xs)
  where
    by : (b : Bool) → p x ≡ b → list_all p (take (prefix_len p xs) xs) ≡ true → list_all p (take (cond b (1 + prefix_len p xs) 0) (x ∷ xs)) ≡ true
    by true e rest =
        let on : 1 + prefix_len p xs ≡ suc (prefix_len p xs) = omega arith in
        ap (λ (n : ℕ). list_all p (take n (x ∷ xs))) on ∙ ap (λ (b : Bool). b && list_all p (take (prefix_len p xs) xs)) e ∙ rest
    by false e rest = refl

all_reversed : (p : ℕ → Bool) (xs : List ℕ) → list_all p xs ≡ true → list_all p (reverse xs) ≡ true
all_reversed p [] h = refl
all_reversed p (x ∷ xs) h =
    let both = and_parts (p x) (list_all p xs) h in
    let one : list_all p (x ∷ []) ≡ true = and_from (p x) true both.0 refl in
    ap (list_all p) (reverse-append (x ∷ []) xs)
    ∙ list_all-append p (reverse xs) (x ∷ [])
    ∙ and_from (list_all p (reverse xs)) (list_all p (x ∷ [])) (all_reversed p xs both.1) one

none_found : (xs : List ℕ) → list_all is_digit xs ≡ true → find is_mark xs ≡ None
none_found [] h = refl
none_found (x ∷ xs) h =
    let both = and_parts (is_digit x) (list_all is_digit xs) h in
    ap (λ (t : Bool). cond t (Some x) (find is_mark xs)) (unmarked x both.0) ∙ none_found xs both.1

digits_are : (xs : List ℕ) → list_all is_digit xs ≡ true → list_all is_number_byte xs ≡ true
digits_are [] h = refl
digits_are (x ∷ xs) h =
    let both = and_parts (is_digit x) (list_all is_digit xs) h in
    let one : is_number_byte x ≡ true = ap (λ (t : Bool). t || is_mark x) both.0 in
    and_from (is_number_byte x) (list_all is_number_byte xs) one (digits_are xs both.1)

one_group : (xs : List ℕ) → list_all is_digit xs ≡ true → sizes_between xs ≡ length xs ∷ []
one_group [] h = refl
one_group (x ∷ xs) h =
    let both = and_parts (is_digit x) (list_all is_digit xs) h in
    let wide : length xs + 1 ≡ suc (length xs) = omega arith in
    ap (λ (t : Bool). cond t (0 ∷ sizes_between xs) (widened (sizes_between xs))) (unmarked x both.0)
    ∙ ap widened (one_group xs both.1)
    ∙ ap (λ (n : ℕ). n ∷ []) wide

none_counted : (xs : List ℕ) (m : ℕ) → list_all is_digit xs ≡ true → is_mark m ≡ true → count_by (λ b. b == m) xs ≡ 0
none_counted [] m h k = refl
none_counted (x ∷ xs) m h k =
    let both = and_parts (is_digit x) (list_all is_digit xs) h in
    let first : cond (x == m) 1 0 ≡ 0 = ap (λ (t : Bool). cond t 1 0) (apart x m both.0 k) in
    sum_by-cons (λ b. cond (b == m) 1 0) x xs
    ∙ ap (λ (n : ℕ). n + count_by (λ b. b == m) xs) first
    ∙ ap (λ (n : ℕ). 0 + n) (none_counted xs m both.1 k)

-- digits with one mark between them
module _ (whole decimals : List ℕ) (m : ℕ) (a : list_all is_digit whole ≡ true) (d : list_all is_digit decimals ≡ true) (k : is_mark m ≡ true) where
  one_counted : count_by (λ b. b == m) (whole ++ (m ∷ decimals)) ≡ 1
  one_counted =
      let first : cond (m == m) 1 0 ≡ 1 = ap (λ (t : Bool). cond t 1 0) (alike m) in
      sum_by-append (λ b. cond (b == m) 1 0) whole (m ∷ decimals)
      ∙ ap (λ (n : ℕ). n + count_by (λ b. b == m) (m ∷ decimals)) (none_counted whole m a k)
      ∙ ap (λ (n : ℕ). 0 + n) (sum_by-cons (λ b. cond (b == m) 1 0) m decimals)
      ∙ ap (λ (n : ℕ). 0 + (n + count_by (λ b. b == m) decimals)) first
      ∙ ap (λ (n : ℕ). 0 + (1 + n)) (none_counted decimals m d k)

  last_is : find is_mark (reverse (whole ++ (m ∷ decimals))) ≡ Some m
  last_is =
      let found : find is_mark (m ∷ []) ≡ Some m = ap (λ (t : Bool). cond t (Some m) None) k in
      ap (find is_mark) (reverse-append whole (m ∷ decimals))
      ∙ ap (λ (l : List ℕ). find is_mark (l ++ reverse whole)) (reverse-append (m ∷ []) decimals)
      ∙ find-append is_mark (reverse decimals ++ (m ∷ [])) (reverse whole)
      ∙ ap (λ (o : Option ℕ). option_or o (find is_mark (reverse whole))) (find-append is_mark (reverse decimals) (m ∷ []))
      ∙ ap (λ (o : Option ℕ). option_or (option_or o (find is_mark (m ∷ []))) (find is_mark (reverse whole))) (none_found (reverse decimals) (all_reversed is_digit decimals d))
      ∙ ap (λ (o : Option ℕ). option_or o (find is_mark (reverse whole))) found

  is_kept : kept_mark (whole ++ (m ∷ decimals)) (Some m) ≡ Some m
  is_kept =
      let few : nat_lt (count_by (λ b. b == m) (whole ++ (m ∷ decimals))) 2 ≡ true = ap (λ (n : ℕ). nat_lt n 2) one_counted in
      ap (λ (t : Bool). cond t (Some m) None) (or_right (list_any (λ b. b == other_mark m) (whole ++ (m ∷ decimals))) (nat_lt (count_by (λ b. b == m) (whole ++ (m ∷ decimals))) 2) few)

  mark_is : (decided : Option ℕ) → (unwrap_or decided m == m) ≡ true → decimal_mark (whole ++ (m ∷ decimals)) decided ≡ Some m
  mark_is None own = ap (kept_mark (whole ++ (m ∷ decimals))) last_is ∙ is_kept
  mark_is (Some e) own =
      let same = equal_from_test e m own in
      subst (λ (n : ℕ). decimal_mark (whole ++ (m ∷ decimals)) (Some n) ≡ Some m) same
      (ap (λ (t : Bool). cond t (Some m) None) (stands whole))
    where
      stands : (xs : List ℕ) → list_any (λ b. b == m) (xs ++ (m ∷ decimals)) ≡ true
      stands [] = ap (λ (t : Bool). t || list_any (λ b. b == m) decimals) (alike m)
      stands (x ∷ xs) = or_right (x == m) (list_any (λ b. b == m) (xs ++ (m ∷ decimals))) (stands xs)

whole_is : (whole decimals : List ℕ) (m : ℕ) → list_all is_digit whole ≡ true → is_mark m ≡ true → prefix_len (λ b. not (b == m)) (whole ++ (m ∷ decimals)) ≡ length whole
whole_is [] decimals m a k = ap (λ (t : Bool). cond (not t) (1 + prefix_len (λ b. not (b == m)) decimals) 0) (alike m)
whole_is (x ∷ xs) decimals m a k =
    let both = and_parts (is_digit x) (list_all is_digit xs) a in
    let on : 1 + length xs ≡ suc (length xs) = omega arith in
    ap (λ (t : Bool). cond (not t) (1 + prefix_len (λ b. not (b == m)) (xs ++ (m ∷ decimals))) 0) (apart x m both.0 k)
    ∙ ap (λ (n : ℕ). 1 + n) (whole_is xs decimals m both.1 k)
    ∙ on

all_number : (whole decimals : List ℕ) (m : ℕ) → list_all is_digit whole ≡ true → list_all is_digit decimals ≡ true → is_mark m ≡ true → list_all is_number_byte (whole ++ (m ∷ decimals)) ≡ true
all_number whole decimals m a d k =
    list_all-append is_number_byte whole (m ∷ decimals)
    ∙ and_from (list_all is_number_byte whole) (list_all is_number_byte (m ∷ decimals)) (digits_are whole a)
    (and_from (is_number_byte m) (list_all is_number_byte decimals) (or_right (is_digit m) (is_mark m) k) (digits_are decimals d))

some_digit : (whole decimals : List ℕ) (m : ℕ) → list_all is_digit whole ≡ true → list_all is_digit decimals ≡ true → 1 < length (whole ++ (m ∷ decimals)) → list_any is_digit (whole ++ (m ∷ decimals)) ≡ true
some_digit (x ∷ xs) decimals m a d long = ap (λ (t : Bool). t || list_any is_digit (xs ++ (m ∷ decimals))) (and_parts (is_digit x) (list_all is_digit xs) a).0
some_digit [] (y ∷ ys) m a d long = or_right (is_digit m) (list_any is_digit (y ∷ ys)) (ap (λ (t : Bool). t || list_any is_digit ys) (and_parts (is_digit y) (list_all is_digit ys) d).0)
some_digit [] [] m a d long = absurd (omega arith)

front : (xs ys : List ℕ) → take (length xs) (xs ++ ys) ≡ xs
front [] [] = refl
front [] (y ∷ ys) = refl
front (x ∷ xs) ys = ap (λ (l : List ℕ). x ∷ l) (front xs ys)

behind : (xs ys : List ℕ) (m : ℕ) → drop (length xs + 1) (xs ++ (m ∷ ys)) ≡ ys
behind [] ys m = refl
behind (x ∷ xs) ys m =
    let on : suc (length xs) + 1 ≡ suc (length xs + 1) = omega arith in
    ap (λ (n : ℕ). drop n (x ∷ (xs ++ (m ∷ ys)))) on ∙ behind xs ys m

-- a number of its digits, what groups stand in it, and its mark
abbrev made : ℕ → ℕ → Option ℕ → Option ℕ → List ℕ → Option Number
made digits places mark group sizes = Some (record {
  value = record { mantissa = pos digits; places = places };
  mark = mark;
  group = group;
  first = first_size sizes;
  rest = rest_size sizes;
})

le_test : (x y : ℕ) → x ≤ y → nat_le x y ≡ true
le_test x y h = grind (arith, nat_tests)

lt_test : (x y : ℕ) → x < y → nat_lt x y ≡ true
lt_test x y h = grind (arith, nat_tests)

written : (whole decimals : List ℕ) (m : ℕ) → list_all is_digit whole ≡ true → list_all is_digit decimals ≡ true → is_mark m ≡ true → 1 < length (whole ++ (m ∷ decimals)) → length decimals ≤ 18
    → is_written (whole ++ (m ∷ decimals)) whole decimals ≡ true
written whole decimals m a d k long few =
    let groups : are_groups (group_sizes whole) ≡ true = ap are_groups (one_group (reverse whole) (all_reversed is_digit whole a)) in
    rw (all_number whole decimals m a d k, some_digit whole decimals m a d long, d, le_test (length decimals) 18 few, groups) refl

small_is : (n : ℕ) → n < 2 ^ 64 → n < 2 ^ 127
small_is n h = let wide : 2 ^ 64 < 2 ^ 127 = lit< tt in omega (arith, h, wide)

number_is : (whole decimals : List ℕ) (m digits : ℕ) (decided : Option ℕ) → list_all is_digit whole ≡ true → list_all is_digit decimals ≡ true → is_mark m ≡ true → (unwrap_or decided m == m) ≡ true
    → 1 < length (whole ++ (m ∷ decimals)) → length decimals ≤ 18 → digits ≡ mantissa_of (whole ++ (m ∷ decimals)) → digits < 2 ^ 64
    → number_of (whole ++ (m ∷ decimals)) decided ≡ made digits (length decimals) (Some m) None (0 ∷ [])
number_is whole decimals m digits decided a d k own long few value small =
    let text : List ℕ = whole ++ (m ∷ decimals) in
    let len = whole_is whole decimals m a k in
    let is_whole : whole ≡ take (whole_len text (Some m)) text = sym (ap (λ (n : ℕ). take n text) len ∙ front whole (m ∷ decimals)) in
    let is_decimals : decimals ≡ drop (whole_len text (Some m) + 1) text = sym (ap (λ (n : ℕ). drop (n + 1) text) len ∙ behind whole decimals m) in
    let below : nat_lt (mantissa_of text) (2 ^ 127) ≡ true = ap (λ (n : ℕ). nat_lt n (2 ^ 127)) (sym value) ∙ lt_test digits (2 ^ 127) (small_is digits small) in
    let sizes = one_group (reverse whole) (all_reversed is_digit whole a) in
    let shape : made (mantissa_of text) (length decimals) (Some m) (find is_mark whole) (group_sizes whole) ≡ made digits (length decimals) (Some m) None (0 ∷ []) =
    λ i. made (sym value i) (length decimals) (Some m) (none_found whole a i) (sizes i) in
    ap (number_with text) (mark_is whole decimals m a d k decided own)
    ∙ number_with-some text whole decimals (Some m) is_whole is_decimals (written whole decimals m a d k long few) below
    ∙ shape

-- the same of the text itself
pub plain_is : (text decimals : List ℕ) (end m digits : ℕ) (decided : Option ℕ) → end ≡ prefix_len is_digit text → end < length text → m ≡ get_or text end 0 → decimals ≡ drop (end + 1) text
    → list_all is_digit decimals ≡ true → is_mark m ≡ true → (unwrap_or decided m == m) ≡ true → 1 < length text → length decimals ≤ 18 → digits ≡ mantissa_of text → digits < 2 ^ 64
    → number_of text decided ≡ made digits (length decimals) (Some m) None (0 ∷ [])
plain_is text decimals end m digits decided is_end inside is_m is_decimals d k own long few value small =
    let split : take end text ++ (m ∷ decimals) ≡ text = rw (is_m, is_decimals) (ap (λ (l : List ℕ). take end text ++ l) (sym (drop_more text end 0 inside)) ∙ take-append-drop end text) in
    let a : list_all is_digit (take end text) ≡ true = rw is_end (front_passes is_digit text) in
    subst (λ (t : List ℕ). number_of t decided ≡ made digits (length decimals) (Some m) None (0 ∷ [])) split
    (number_is (take end text) decimals m digits decided a d k own
    (subst (λ (t : List ℕ). 1 < length t) (sym split) long)
    few
    (value ∙ ap mantissa_of (sym split))
    small)
