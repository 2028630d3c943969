-- Names among others that rise, and the names of two lists.
use Rattle.std.proofs.Common.{◌≡◌, ℕ, suc, ◌+◌, ◌-◌, ◌/◌, ◌<◌, ◌≤◌, Bool, true, false, cond, ◌&&◌, ◌||◌, List, [], ◌∷◌, ◌++◌, map, length, get_or, take, take_all, Some, None, Result, Ok, Err, IfOk, inl, inr, refl, sym, ap, subst, ◌∙◌, arith}
use Rattle.std.specs.declared.cmp.Ordering.{Ordering}
use Rattle.std.specs.declared.cmp.Ordering.TheVariants.{Less, Equal, Greater}
use Rattle.std.specs.List.{list_all, list_any, AllByRecursion}
use Rattle.std.specs.Str.{bytes_eq}
use Rattle.std.specs.FinMap.Entries.{find}
use Rattle.std.proofs.lemmas.Bool.{and_parts, both_ways, false≢true, or_cases}
use Rattle.std.proofs.lemmas.List.{get_or-map}
use Rattle.std.proofs.lemmas.List.Folds.{list_all_at, list_all_more, list_any-append}
use Rattle.std.proofs.lemmas.Option.{cond_some, none-some}
use Rattle.book.specs.Accounts.{account_cmp}
use Rattle.book.specs.Places.{IsGap, IsPlace, IsSplit}
use Rattle.book.proofs.Accounts.{account_ties, account_total}
use Rattle.book.proofs.Order.{find-made}
use Rattle.book.proofs.Places.{answered, find-at, find-gap, greater_from, smaller_from}
use Rattle.report_cells.specs.Report.{accounts_in}
use Rattle.report_cells.specs.Taken.{Taken}
use Rattle.report_cells.proofs.Holding.{alike}
use Rattle.index_cells.specs.Keys.{AreInOrder, AreOfBoth, is_in}
use Rattle.index_cells.specs.Named.{only}
use Rattle.index_cells.specs.Tells.{is_of}
use Rattle.index_cells.proofs.Celling.{sym_text}
use Rattle.index_cells.proofs.Keeping.{in_order}
use Rattle.index_cells.proofs.Naming.{account_among, among_in_order}

-- ---- where a name stands

-- each name with itself
abbrev pub twice : List (List ℕ) → List (List ℕ × List ℕ)
twice names = map (λ k. (k, k)) names

-- as an order sees the entries
abbrev pub Split : List (List ℕ) → List ℕ → ℕ → ℕ → Type 0
Split names name low high = IsSplit account_cmp (twice names) name low high

twice_length : (names : List (List ℕ)) → length (twice names) ≡ length names
twice_length [] = refl
twice_length (n ∷ names) = ap (λ (k : ℕ). suc k) (twice_length names)

pub split_all : (names : List (List ℕ)) (name : List ℕ) (low high : ℕ) → low ≡ 0 → high ≡ length names → Split names name low high
split_all names name low high from end = record {
  ordered = omega (arith, from);
  within = omega (arith, end, twice_length names);
  smaller = λ j d lt. absurd (omega (arith, lt, from));
  greater = λ j d le lt. absurd (omega (arith, le, lt, end, twice_length names));
}

pub middle_in : (low high : ℕ) → low < high → low + (high - low) / 2 < high
middle_in low high lt = omega (arith, lt)

pub middle_from : (low high : ℕ) → low ≤ low + (high - low) / 2
middle_from low high = omega arith

pub middle_within : (names : List (List ℕ)) (name : List ℕ) (low high : ℕ) → low < high → Split names name low high → low + (high - low) / 2 < length names
middle_within names name low high lt split = omega (arith, lt, split.within, twice_length names)

-- an entry is found where its name stands
looked_up : (names : List (List ℕ)) (name : List ℕ) → find account_cmp name (twice names) ≡ cond (is_in name names) (Some name) None
looked_up names name = find-made account_ties (λ (k : List ℕ). k) names name ∙ ap (λ (b : Bool). cond b (Some name) None) (among_in_order name names)

not_found : (b : Bool) (name : List ℕ) → cond b (Some name) None ≡ None → b ≡ false
not_found true name h = absurd (none-some name (sym h))
not_found false name h = refl

module _ (names : List (List ℕ)) (name : List ℕ) (rise : AreInOrder names) where
  -- no name stands where it would
  pub is_absent : (low high : ℕ) → high ≤ low → Split names name low high → is_in name names ≡ false
  is_absent low high over split =
      let gap : IsGap account_cmp (twice names) name low = record {
        within = omega (arith, split.ordered, split.within);
        smaller = split.smaller;
        greater = λ j d le lt. split.greater j d (omega (arith, over, le)) lt;
      } in
      not_found (is_in name names) name (sym (looked_up names name) ∙ find-gap account_total account_ties name (twice names) low gap)

  module _ (middle : ℕ) (x : List ℕ) (within : middle < length names) (read : x ≡ get_or names middle x) where
    read_at : (r : Ordering) → account_cmp x name ≡ r → (d : List ℕ × List ℕ) → account_cmp (get_or (twice names) middle d).0 name ≡ r
    read_at r is =
        let lt : middle < length (twice names) = omega (arith, within, twice_length names) in
        let here : get_or (twice names) middle (x, x) ≡ (x, x) = get_or-map (λ (k : List ℕ). (k, k)) names middle x (x, x) within ∙ ap (λ (k : List ℕ). (k, k)) (sym read) in
        answered account_total account_ties (twice names) name middle (x, x) r lt (ap (λ (e : List ℕ × List ℕ). account_cmp e.0 name) here ∙ is)

    pub split_above : (low high : ℕ) → middle < high → Split names name low high → account_cmp x name ≡ Less → Split names name (middle + 1) high
    split_above low high inside split is = record {
      ordered = omega (arith, inside);
      within = split.within;
      smaller = smaller_from account_total account_ties (twice names) name middle rise (omega (arith, within, twice_length names)) (read_at Less is);
      greater = split.greater;
    }

    pub split_below : (low high : ℕ) → low ≤ middle → Split names name low high → account_cmp x name ≡ Greater → Split names name low middle
    split_below low high le split is = record {
      ordered = le;
      within = omega (arith, within, twice_length names);
      smaller = split.smaller;
      greater = greater_from account_total account_ties (twice names) name middle rise (read_at Greater is);
    }

    pub is_here : account_cmp x name ≡ Equal → is_in name names ≡ true
    is_here is =
        let at : IsPlace (twice names) name middle = record {
          within = omega (arith, within, twice_length names);
          is = λ d. account_ties _ _ (read_at Equal is d);
        } in
        (cond_some (is_in name names) name _ (sym (looked_up names name) ∙ find-at account_total account_ties name (twice names) middle (x, x) rise at)).0

-- ---- the names of two lists

only_name : (names : List (List ℕ)) → AllByRecursion (λ (t : Taken). t.amount ≡ None) (map only names)
only_name [] = tt
only_name (name ∷ names) = (refl, only_name names)

pub only_names : (names more : List (List ℕ)) → AllByRecursion (λ (t : Taken). t.amount ≡ None) (map only names ++ map only more)
only_names [] more = only_name more
only_names (name ∷ names) more = (refl, only_names names more)

any_only : (q : List ℕ) (names : List (List ℕ)) → list_any (is_of q) (map only names) ≡ is_in q names
any_only q [] = refl
any_only q (name ∷ names) = (λ i. sym_text name q i || any_only q names i)

of_both : (names more all : List (List ℕ)) → all ≡ accounts_in (map only names ++ map only more) → AreOfBoth names more all
of_both names more all is =
    let ts = map only names ++ map only more in
    subst (AreOfBoth names more) (sym is) (record {
      rise = in_order ts;
      each = λ name.
          account_among name ts ∙ list_any-append (is_of name) (map only names) (map only more)
          ∙ (λ i. any_only name names i || any_only name more i);
    })

pub both_if : {E : Type 0} (r : Result (List (List ℕ)) E) (names more : List (List ℕ)) (ts : List Taken) → ts ≡ map only names ++ map only more → IfOk r (λ all. all ≡ accounts_in ts) → IfOk r (AreOfBoth names more)
both_if (Ok all) names more ts is h = of_both names more all (h ∙ ap accounts_in is)
both_if (Err e) names more ts is h = tt

-- ---- names that are there already

-- of two equal texts one is among others where the other is
same_name : (a b : List ℕ) (names : List (List ℕ)) → bytes_eq a b ≡ true → is_in b names ≡ true → is_in a names ≡ true
same_name a b names same h = elim (alike a b) [
  | inl is ↦ subst (λ (x : List ℕ). is_in x names ≡ true) (sym is) h
  | inr differ ↦ absurd (both_ways (bytes_eq a b) differ same)
]

pub named_already : (names more : List (List ℕ)) (name : List ℕ) → list_all (λ other. is_in other names) more ≡ true → is_in name more ≡ true → is_in name names ≡ true
named_already names [] name all h = absurd (false≢true h)
named_already names (other ∷ more) name all h =
    let both = and_parts (is_in other names) (list_all (λ other. is_in other names) more) all in
    elim (or_cases (bytes_eq name other) (is_in name more) h) [
      | inl same ↦ same_name name other names same both.0
      | inr later ↦ named_already names more name both.1 later
    ]

either_is : (a b : Bool) → (b ≡ true → a ≡ true) → a ≡ (a || b)
either_is true b h = refl
either_is false true h = h refl
either_is false false h = refl

pub already : (names more : List (List ℕ)) → AreInOrder names → list_all (λ other. is_in other names) more ≡ true → AreOfBoth names more names
already names more rise all = record {
  rise = rise;
  each = λ name. either_is (is_in name names) (is_in name more) (named_already names more name all);
}

-- ---- whether all are

pub all_more : (names more : List (List ℕ)) (i : ℕ) (x : List ℕ) → i < length more → x ≡ get_or more i x → list_all (λ name. is_in name names) (take i more) ≡ true → is_in x names ≡ true → list_all (λ name. is_in name names) (take (i + 1) more) ≡ true
all_more names more i x lt read so_far here =
    list_all_more (λ name. is_in name names) more i x lt
    ∙ (λ k. so_far k && (ap (λ (name : List ℕ). is_in name names) (sym read) ∙ here) k)

pub one_less : (names more : List (List ℕ)) (i : ℕ) (x : List ℕ) → i < length more → x ≡ get_or more i x → is_in x names ≡ false → list_all (λ name. is_in name names) more ≡ false
one_less names more i x lt read missing =
    list_all_at (λ name. is_in name names) more i x lt (ap (λ (name : List ℕ). is_in name names) (sym read) ∙ missing)

pub all_whole : (names more : List (List ℕ)) (i : ℕ) → length more ≤ i → list_all (λ name. is_in name names) (take i more) ≡ true → list_all (λ name. is_in name names) more ≡ true
all_whole names more i over h = ap (list_all (λ name. is_in name names)) (sym (take_all i more over)) ∙ h
