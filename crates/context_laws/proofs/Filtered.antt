-- The context that the reader keeps is the filter of the directives before an item.
use Rattle.std.proofs.Common.{◌≡◌, ℕ, zero, suc, Bool, true, false, cond, List, [], ◌∷◌, ◌++◌, reverse, take, ◌-◌, Option, Some, None, refl, sym, ap, ◌∙◌}
use mathlib.Core.List.{reverse-cons}
use Rattle.std.specs.List.{filter, find, last_or, list_any}
use Rattle.std.specs.Option.{option_or}
use Rattle.std.specs.Str.{bytes_eq}
use Rattle.std.proofs.lemmas.List.Folds.{find-append}
use Rattle.book.specs.declared.item.Item.{Item}
use Rattle.entry_reader.specs.Contexts.{context_from, context_of, directives_in, latest_mark, mark_found}
use Rattle.context_laws.specs.Filters.{context_before, is_end_aliases, last_mark}
use Rattle.context_laws.proofs.Applied.{all_names, ended}
use Rattle.context_laws.proofs.Folded.{all_aliases, all_marks, last_decimal, last_default, last_year}

none_before : {A : Type 0} (b : Bool) (xs : List A) → cond b [] [] ++ xs ≡ xs
none_before true xs = refl
none_before false xs = refl

no_names : (n : ℕ) (xs : List (List ℕ)) → take n [] ++ xs ≡ xs
no_names zero xs = refl
no_names (suc n) xs = refl

filtered_from : (year : Option ℕ) (items : List Item) → context_from year (directives_in items) ≡ context_before year items
filtered_from None items =
    let ds = directives_in items in
    let years = last_year None ds in
    let decimal = last_decimal None ds in
    let usuals = last_default None ds in
    let names = all_names [] ds ∙ no_names (0 - ended ds) _ in
    let others = all_aliases [] ds ∙ none_before (list_any is_end_aliases ds) _ in
    let marked = all_marks ds in
    λ i. record { year = years i; mark = decimal i; usual = usuals i; applied = names i; aliases = others i; marks = marked i }
filtered_from (Some y) items =
    let ds = directives_in items in
    let years = last_year (Some y) ds in
    let decimal = last_decimal None ds in
    let usuals = last_default None ds in
    let names = all_names [] ds ∙ no_names (0 - ended ds) _ in
    let others = all_aliases [] ds ∙ none_before (list_any is_end_aliases ds) _ in
    let marked = all_marks ds in
    λ i. record { year = years i; mark = decimal i; usual = usuals i; applied = names i; aliases = others i; marks = marked i }

pub context_is : (year : Option ℕ) (items : List Item) → context_of year items ≡ context_before year items
context_is year items = filtered_from year items

-- ---- the last directive of a symbol

last-alone : {A : Type 0} (o : Option A) (xs : List A) → last_or o xs ≡ option_or (last_or None xs) o
last-alone o [] = refl
last-alone o (x ∷ xs) = last-alone (Some x) xs ∙ or_some (last_or None xs) x o ∙ ap (λ r. option_or r o) (sym (last-alone (Some x) xs))
  where
    or_some : {A : Type 0} (r : Option A) (x : A) (o : Option A) → option_or r (Some x) ≡ option_or (option_or r (Some x)) o
    or_some None x o = refl
    or_some (Some y) x o = refl

or_none : {A : Type 0} (r : Option A) → option_or r None ≡ r
or_none None = refl
or_none (Some x) = refl

one_last : {A : Type 0} (b : Bool) (x : A) (xs : List A) → option_or (last_or None xs) (cond b (Some x) None) ≡ last_or None (cond b (x ∷ xs) xs)
one_last true x xs = sym (last-alone (Some x) xs)
one_last false x xs = or_none (last_or None xs)

find_reversed : {A : Type 0} (test : A → Bool) (xs : List A) → find test (reverse xs) ≡ last_or None (filter test xs)
find_reversed test [] = refl
find_reversed test (x ∷ xs) =
    ap (find test) (reverse-cons x xs) ∙ find-append test (reverse xs) (x ∷ [])
    ∙ ap (λ r. option_or r (cond (test x) (Some x) None)) (find_reversed test xs) ∙ one_last (test x) x (filter test xs)

pub latest_is : (marks : List (List ℕ × Option ℕ)) (symbol : List ℕ) → latest_mark marks symbol ≡ last_mark symbol marks
latest_is marks symbol = ap mark_found (find_reversed (λ entry. bytes_eq entry.0 symbol) marks)
