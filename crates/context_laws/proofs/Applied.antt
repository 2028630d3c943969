-- Names before accounts that are open are those that no later directive ended.
use Rattle.std.proofs.Common.{◌≡◌, ℕ, zero, suc, ◌+◌, ◌-◌, Bool, true, false, cond, ◌||◌, List, [], ◌∷◌, ◌++◌, length, map, take, count_by, refl, sym, ap, ◌∙◌, append_assoc, length-append, arith}
use Rattle.std.specs.Prelude.{nat_lt}
use Rattle.std.specs.List.{flat_map, fold, list_any}
use Rattle.std.proofs.lemmas.Bool.{false≢true}
use Rattle.std.proofs.lemmas.Bool.Decides.{nat_tests}
use Rattle.std.proofs.lemmas.List.{append-nil, length-take-le, take_all, take-append-le, take-take}
use Rattle.std.proofs.lemmas.List.Sums.{sum_by-cons}
use Rattle.book.specs.declared.directive.Directive.{Directive}
use Rattle.book.specs.declared.directive.Directive.TheVariants as directive
use Rattle.entry_reader.specs.Contexts.{applied_after}
use Rattle.context_laws.specs.Filters.{all_set, end_more, fronts, in_force, is_apply, is_end_aliases, is_end_apply, name_set}

-- ---- how many names that were open before are ended

abbrev pub ended_by : Bool → Bool → ℕ → ℕ
ended_by true end n = n - 1
ended_by false true n = suc n
ended_by false false n = n

abbrev pub ended : List Directive → ℕ
ended [] = 0
ended (d ∷ ds) = ended_by (is_apply d) (is_end_apply d) (ended ds)

-- a front has more ends than beginnings and this number of names
abbrev more_by : ℕ → List Directive → Bool
more_by m front = nat_lt (m + count_by is_apply front) (count_by is_end_apply front)

none_more : (m : ℕ) → nat_lt (m + 0) 0 ≡ false
none_more m = grind (arith, nat_tests)

any-map : {A B : Type 0} (test : B → Bool) (f : A → B) (xs : List A) → list_any test (map f xs) ≡ list_any (λ x. test (f x)) xs
any-map test f [] = refl
any-map test f (x ∷ xs) = ap (λ b. test (f x) || b) (any-map test f xs)

-- after a first one
any_after : (m : ℕ) (d : Directive) (ds : List Directive) → list_any (more_by m) (fronts (d ∷ ds)) ≡ list_any (λ front. more_by m (d ∷ front)) (fronts ds)
any_after m d ds = ap (λ b. b || list_any (more_by m) (map (λ front. d ∷ front) (fronts ds))) (none_more m) ∙ any-map (more_by m) (λ front. d ∷ front) (fronts ds)

counted : (m : ℕ) (d : Directive) (front : List Directive) → more_by m (d ∷ front) ≡ nat_lt (m + (cond (is_apply d) 1 0 + count_by is_apply front)) (cond (is_end_apply d) 1 0 + count_by is_end_apply front)
counted m d front = λ i. nat_lt (m + sum_by-cons (λ x. cond (is_apply x) 1 0) d front i) (sum_by-cons (λ x. cond (is_end_apply x) 1 0) d front i)

first_front : (test : List Directive → Bool) (ds : List Directive) → test [] ≡ true → list_any test (fronts ds) ≡ true
first_front test [] h = ap (λ b. b || false) h
first_front test (d ∷ ds) h = ap (λ b. b || list_any test (map (λ front. d ∷ front) (fronts ds))) h

lt_one : (a b : ℕ) → nat_lt (suc a) b ≡ nat_lt a (b - 1)
lt_one a b = grind (arith, nat_tests)

lt_suc : (a b : ℕ) → nat_lt (suc a) (suc b) ≡ nat_lt a b
lt_suc a b = grind (arith, nat_tests)

above_zero : (k : ℕ) → nat_lt 0 (suc k) ≡ true
above_zero k = grind (arith, nat_tests)

one_more : (m c e : ℕ) → nat_lt (m + (1 + c)) (0 + e) ≡ nat_lt (suc m + c) e
one_more m c e = grind (arith, nat_tests)

one_less : (m c e : ℕ) → nat_lt (suc m + (0 + c)) (1 + e) ≡ nat_lt (m + c) e
one_less m c e = grind (arith, nat_tests)

as_many : (m c e : ℕ) → nat_lt (m + (0 + c)) (0 + e) ≡ nat_lt (m + c) e
as_many m c e = grind (arith, nat_tests)

not_both : (d : Directive) → is_apply d ≡ true → is_end_apply d ≡ false
not_both (directive.Commodity s a) e = refl
not_both (directive.Default a) e = refl
not_both (directive.Account n t) e = refl
not_both (directive.Year year) e = refl
not_both (directive.Apply n) e = refl
not_both directive.EndApply e = absurd (false≢true e)
not_both (directive.Alias old new) e = refl
not_both directive.EndAliases e = refl
not_both (directive.Payee p) e = refl
not_both (directive.TagName t) e = refl
not_both (directive.DecimalMark m) e = refl

module _ (ds : List Directive) (rest : (m : ℕ) → list_any (more_by m) (fronts ds) ≡ nat_lt m (ended ds)) where
  one_step : (m : ℕ) (d : Directive) (a e : Bool) → is_apply d ≡ a → is_end_apply d ≡ e → (a ≡ true → e ≡ false)
      → list_any (λ front. nat_lt (m + (cond a 1 0 + count_by is_apply front)) (cond e 1 0 + count_by is_end_apply front)) (fronts ds) ≡ nat_lt m (ended_by a e (ended ds))
  one_step m d true true ap_is end_is apart = absurd (false≢true (sym (apart refl)))
  one_step m d true false ap_is end_is apart = (λ i. list_any (λ front. one_more m (count_by is_apply front) (count_by is_end_apply front) i) (fronts ds)) ∙ rest (suc m) ∙ lt_one m (ended ds)
  one_step zero d false true ap_is end_is apart = first_front (λ front. nat_lt (0 + (0 + count_by is_apply front)) (1 + count_by is_end_apply front)) ds refl ∙ sym (above_zero (ended ds))
  one_step (suc m) d false true ap_is end_is apart = (λ i. list_any (λ front. one_less m (count_by is_apply front) (count_by is_end_apply front) i) (fronts ds)) ∙ rest m ∙ sym (lt_suc m (ended ds))
  one_step m d false false ap_is end_is apart = (λ i. list_any (λ front. as_many m (count_by is_apply front) (count_by is_end_apply front) i) (fronts ds)) ∙ rest m

ended_more : (ds : List Directive) (m : ℕ) → list_any (more_by m) (fronts ds) ≡ nat_lt m (ended ds)
ended_more [] m = grind (arith, nat_tests)
ended_more (d ∷ ds) m = any_after m d ds ∙ (λ i. list_any (λ front. counted m d front i) (fronts ds)) ∙ one_step ds (ended_more ds) m d (is_apply d) (is_end_apply d) refl refl (not_both d)

-- a name is ended where the directives after it end more names than they begin
end_more_is : (ds : List Directive) → end_more ds ≡ nat_lt 0 (ended ds)
end_more_is ds = (λ i. list_any (λ front. nat_lt (none_add (count_by is_apply front) i) (count_by is_end_apply front)) (fronts ds)) ∙ ended_more ds 0
  where
    none_add : (n : ℕ) → n ≡ 0 + n
    none_add n = omega arith

-- ---- the names

take_less : (names : List (List ℕ)) (m : ℕ) (e : m ≡ length names) → take m names ≡ names
take_less names m e = take_all m names (omega (arith, e))

new_name : (k : ℕ) (b : Bool) (names : List (List ℕ)) (n : List ℕ) (rest : List (List ℕ)) → b ≡ nat_lt 0 k → take (length (names ++ n ∷ []) - k) (names ++ n ∷ []) ++ rest ≡ take (length names - (k - 1)) names ++ cond b rest (n ∷ rest)
new_name zero b names n rest e =
    let long : length (names ++ n ∷ []) - 0 ≡ length (names ++ n ∷ []) = omega arith in
    let short : length names - (0 - 1) ≡ length names = omega arith in
    (λ i. take_less (names ++ n ∷ []) (length (names ++ n ∷ []) - 0) long i ++ rest) ∙ append_assoc names (n ∷ []) rest
    ∙ (λ i. sym (take_less names (length names - (0 - 1)) short) i ++ cond (sym e i) rest (n ∷ rest))
new_name (suc k) b names n rest e =
    let long : length (names ++ n ∷ []) ≡ length names + 1 = length-append names (n ∷ []) in
    let same : length (names ++ n ∷ []) - suc k ≡ length names - (suc k - 1) = omega (arith, long) in
    (λ i. take (same i) (names ++ n ∷ []) ++ rest)
    ∙ (λ i. take-append-le (length names - (suc k - 1)) names (n ∷ []) (omega arith) i ++ cond (sym (e ∙ above_zero k) i) rest (n ∷ rest))

one_ended : (k : ℕ) (names rest : List (List ℕ)) → take (length (take (length names - 1) names) - k) (take (length names - 1) names) ++ rest ≡ take (length names - suc k) names ++ rest
one_ended k names rest =
    let long : length (take (length names - 1) names) ≡ length names - 1 = length-take-le (length names - 1) names (omega arith) in
    let same : length (take (length names - 1) names) - k ≡ length names - suc k = omega (arith, long) in
    (λ i. take (same i) (take (length names - 1) names) ++ rest) ∙ ap (λ xs. xs ++ rest) (take-take (length names - suc k) (length names - 1) names (omega arith))

no_name : (b : Bool) (names : List (List ℕ)) (o n : List ℕ) (later : List Directive) → names ++ all_set name_set later ≡ names ++ flat_map name_set (cond b (in_force later) (directive.Alias o n ∷ in_force later))
no_name true names o n later = refl
no_name false names o n later = refl

applied_one : (b : Bool) (n : List ℕ) (later : List Directive) → cond b (all_set name_set later) (n ∷ all_set name_set later) ≡ flat_map name_set (cond b (in_force later) (directive.Apply n ∷ in_force later))
applied_one true n later = refl
applied_one false n later = refl

pub all_names : (names : List (List ℕ)) (ds : List Directive) → fold applied_after names ds ≡ take (length names - ended ds) names ++ all_set name_set ds
all_names names [] = sym (append-nil (take (length names - 0) names) ∙ take_less names (length names - 0) (omega arith))
all_names names (directive.Commodity s a ∷ ds) = all_names names ds
all_names names (directive.Default a ∷ ds) = all_names names ds
all_names names (directive.Account n t ∷ ds) = all_names names ds
all_names names (directive.Year year ∷ ds) = all_names names ds
all_names names (directive.Apply n ∷ ds) = all_names (names ++ n ∷ []) ds ∙ new_name (ended ds) (end_more ds) names n (all_set name_set ds) (end_more_is ds) ∙ ap (λ xs. take (length names - (ended ds - 1)) names ++ xs) (applied_one (end_more ds) n ds)
all_names names (directive.EndApply ∷ ds) = all_names (take (length names - 1) names) ds ∙ one_ended (ended ds) names (all_set name_set ds)
all_names names (directive.Alias old new ∷ ds) = all_names names ds ∙ no_name (list_any is_end_aliases ds) (take (length names - ended ds) names) old new ds
all_names names (directive.EndAliases ∷ ds) = all_names names ds
all_names names (directive.Payee p ∷ ds) = all_names names ds
all_names names (directive.TagName t ∷ ds) = all_names names ds
all_names names (directive.DecimalMark m ∷ ds) = all_names names ds
