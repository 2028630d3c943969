-- Fields of the context that are all or the last of what directives in force set.
use Rattle.std.proofs.Common.{◌≡◌, ℕ, Bool, true, false, cond, List, [], ◌∷◌, ◌++◌, Option, Some, refl, sym, ap, ◌∙◌, append_assoc}
use Rattle.std.specs.List.{flat_map, fold, last_or, list_any}
use Rattle.std.proofs.lemmas.Bool.{false≢true}
use Rattle.std.proofs.lemmas.List.{append-nil}
use Rattle.book.specs.declared.directive.Directive.{Directive}
use Rattle.book.specs.declared.directive.Directive.TheVariants as directive
use Rattle.entry_reader.specs.Contexts.{aliases_after, mark_after, marks_after, usual_after, year_after}
use Rattle.context_laws.specs.Filters.{alias_set, all_set, commodity_set, default_set, end_more, in_force, is_end_aliases, is_ended, mark_set, year_set}

-- ---- kinds that nothing ends

-- only names and aliases end
only_these : (P : Directive → Type 0) → ((n : List ℕ) → P (directive.Apply n)) → ((o n : List ℕ) → P (directive.Alias o n)) → (d : Directive) (later : List Directive) → is_ended d later ≡ true → P d
only_these P name alias (directive.Commodity s a) later e = absurd (false≢true e)
only_these P name alias (directive.Default a) later e = absurd (false≢true e)
only_these P name alias (directive.Account n t) later e = absurd (false≢true e)
only_these P name alias (directive.Year year) later e = absurd (false≢true e)
only_these P name alias (directive.Apply n) later e = name n
only_these P name alias directive.EndApply later e = absurd (false≢true e)
only_these P name alias (directive.Alias old new) later e = alias old new
only_these P name alias directive.EndAliases later e = absurd (false≢true e)
only_these P name alias (directive.Payee p) later e = absurd (false≢true e)
only_these P name alias (directive.TagName t) later e = absurd (false≢true e)
only_these P name alias (directive.DecimalMark m) later e = absurd (false≢true e)

one_kept : {A : Type 0} (set : Directive → List A) (d : Directive) (later : List Directive) (b : Bool) → (b ≡ true → set d ≡ []) → flat_map set (in_force later) ≡ flat_map set later → flat_map set (cond b (in_force later) (d ∷ in_force later)) ≡ set d ++ flat_map set later
one_kept set d later true none rest = rest ∙ (λ i. sym (none refl) i ++ flat_map set later)
one_kept set d later false none rest = ap (λ xs. set d ++ xs) rest

-- what a kind sets that nothing ends is all that it sets
kept : {A : Type 0} (set : Directive → List A) → ((d : Directive) (later : List Directive) → is_ended d later ≡ true → set d ≡ []) → (ds : List Directive) → all_set set ds ≡ flat_map set ds
kept set none [] = refl
kept set none (d ∷ later) = one_kept set d later (is_ended d later) (none d later) (kept set none later)

last-both : {A : Type 0} (o : Option A) (xs ys : List A) → last_or o (xs ++ ys) ≡ last_or (last_or o xs) ys
last-both o [] ys = refl
last-both o (x ∷ xs) ys = last-both (Some x) xs ys

folded_last : {A : Type 0} (after : Option A → Directive → Option A) (set : Directive → List A) → ((o : Option A) (d : Directive) → after o d ≡ last_or o (set d)) → (o : Option A) (ds : List Directive) → fold after o ds ≡ last_or o (flat_map set ds)
folded_last after set one o [] = refl
folded_last after set one o (d ∷ ds) = ap (λ x. fold after x ds) (one o d) ∙ folded_last after set one (last_or o (set d)) ds ∙ sym (last-both o (set d) (flat_map set ds))

one_year : (o : Option ℕ) (d : Directive) → year_after o d ≡ last_or o (year_set d)
one_year o (directive.Commodity s a) = refl
one_year o (directive.Default a) = refl
one_year o (directive.Account n t) = refl
one_year o (directive.Year year) = refl
one_year o (directive.Apply n) = refl
one_year o directive.EndApply = refl
one_year o (directive.Alias old new) = refl
one_year o directive.EndAliases = refl
one_year o (directive.Payee p) = refl
one_year o (directive.TagName t) = refl
one_year o (directive.DecimalMark m) = refl

-- the last one
pub last_year : (o : Option ℕ) (ds : List Directive) → fold year_after o ds ≡ last_or o (all_set year_set ds)
last_year o ds = folded_last year_after year_set one_year o ds ∙ ap (last_or o) (sym (kept year_set (only_these (λ d. year_set d ≡ []) (λ n. refl) (λ o n. refl)) ds))

one_mark : (o : Option ℕ) (d : Directive) → mark_after o d ≡ last_or o (mark_set d)
one_mark o (directive.Commodity s a) = refl
one_mark o (directive.Default a) = refl
one_mark o (directive.Account n t) = refl
one_mark o (directive.Year year) = refl
one_mark o (directive.Apply n) = refl
one_mark o directive.EndApply = refl
one_mark o (directive.Alias old new) = refl
one_mark o directive.EndAliases = refl
one_mark o (directive.Payee p) = refl
one_mark o (directive.TagName t) = refl
one_mark o (directive.DecimalMark m) = refl

-- the last one
pub last_decimal : (o : Option ℕ) (ds : List Directive) → fold mark_after o ds ≡ last_or o (all_set mark_set ds)
last_decimal o ds = folded_last mark_after mark_set one_mark o ds ∙ ap (last_or o) (sym (kept mark_set (only_these (λ d. mark_set d ≡ []) (λ n. refl) (λ o n. refl)) ds))

one_usual : (o : Option (List ℕ × Option ℕ)) (d : Directive) → usual_after o d ≡ last_or o (default_set d)
one_usual o (directive.Commodity s a) = refl
one_usual o (directive.Default a) = refl
one_usual o (directive.Account n t) = refl
one_usual o (directive.Year year) = refl
one_usual o (directive.Apply n) = refl
one_usual o directive.EndApply = refl
one_usual o (directive.Alias old new) = refl
one_usual o directive.EndAliases = refl
one_usual o (directive.Payee p) = refl
one_usual o (directive.TagName t) = refl
one_usual o (directive.DecimalMark m) = refl

-- the last one
pub last_default : (o : Option (List ℕ × Option ℕ)) (ds : List Directive) → fold usual_after o ds ≡ last_or o (all_set default_set ds)
last_default o ds = folded_last usual_after default_set one_usual o ds ∙ ap (last_or o) (sym (kept default_set (only_these (λ d. default_set d ≡ []) (λ n. refl) (λ o n. refl)) ds))

one_commodity : (marks : List (List ℕ × Option ℕ)) (d : Directive) → marks_after marks d ≡ marks ++ commodity_set d
one_commodity marks (directive.Commodity s a) = refl
one_commodity marks (directive.Default a) = sym (append-nil marks)
one_commodity marks (directive.Account n t) = sym (append-nil marks)
one_commodity marks (directive.Year year) = sym (append-nil marks)
one_commodity marks (directive.Apply n) = sym (append-nil marks)
one_commodity marks directive.EndApply = sym (append-nil marks)
one_commodity marks (directive.Alias old new) = sym (append-nil marks)
one_commodity marks directive.EndAliases = sym (append-nil marks)
one_commodity marks (directive.Payee p) = sym (append-nil marks)
one_commodity marks (directive.TagName t) = sym (append-nil marks)
one_commodity marks (directive.DecimalMark m) = sym (append-nil marks)

folded_marks : (marks : List (List ℕ × Option ℕ)) (ds : List Directive) → fold marks_after marks ds ≡ marks ++ flat_map commodity_set ds
folded_marks marks [] = sym (append-nil marks)
folded_marks marks (d ∷ ds) = ap (λ x. fold marks_after x ds) (one_commodity marks d) ∙ folded_marks (marks ++ commodity_set d) ds ∙ append_assoc marks (commodity_set d) (flat_map commodity_set ds)

-- all of them
pub all_marks : (ds : List Directive) → fold marks_after [] ds ≡ all_set commodity_set ds
all_marks ds = folded_marks [] ds ∙ sym (kept commodity_set (only_these (λ d. commodity_set d ≡ []) (λ n. refl) (λ o n. refl)) ds)

-- ---- aliases

new_alias : (b : Bool) (aliases rest : List (List ℕ × List ℕ)) (o n : List ℕ) (later : List Directive) → rest ≡ all_set alias_set later → cond b [] (aliases ++ (o, n) ∷ []) ++ rest ≡ cond b [] aliases ++ flat_map alias_set (cond b (in_force later) (directive.Alias o n ∷ in_force later))
new_alias true aliases rest o n later e = e
new_alias false aliases rest o n later e = append_assoc aliases ((o, n) ∷ []) rest ∙ ap (λ xs. aliases ++ (o, n) ∷ xs) e

no_alias : (b c : Bool) (aliases : List (List ℕ × List ℕ)) (n : List ℕ) (later : List Directive) → cond b [] aliases ++ all_set alias_set later ≡ cond b [] aliases ++ flat_map alias_set (cond c (in_force later) (directive.Apply n ∷ in_force later))
no_alias b true aliases n later = refl
no_alias b false aliases n later = refl

none_left : (b : Bool) (rest : List (List ℕ × List ℕ)) → cond b [] [] ++ rest ≡ rest
none_left true rest = refl
none_left false rest = refl

pub all_aliases : (aliases : List (List ℕ × List ℕ)) (ds : List Directive) → fold aliases_after aliases ds ≡ cond (list_any is_end_aliases ds) [] aliases ++ all_set alias_set ds
all_aliases aliases [] = sym (append-nil aliases)
all_aliases aliases (directive.Commodity s a ∷ ds) = all_aliases aliases ds
all_aliases aliases (directive.Default a ∷ ds) = all_aliases aliases ds
all_aliases aliases (directive.Account n t ∷ ds) = all_aliases aliases ds
all_aliases aliases (directive.Year year ∷ ds) = all_aliases aliases ds
all_aliases aliases (directive.Apply n ∷ ds) = all_aliases aliases ds ∙ no_alias (list_any is_end_aliases ds) (end_more ds) aliases n ds
all_aliases aliases (directive.EndApply ∷ ds) = all_aliases aliases ds
all_aliases aliases (directive.Alias old new ∷ ds) = all_aliases (aliases ++ (old, new) ∷ []) ds ∙ new_alias (list_any is_end_aliases ds) aliases (all_set alias_set ds) old new ds refl
all_aliases aliases (directive.EndAliases ∷ ds) = all_aliases [] ds ∙ none_left (list_any is_end_aliases ds) (all_set alias_set ds)
all_aliases aliases (directive.Payee p ∷ ds) = all_aliases aliases ds
all_aliases aliases (directive.TagName t ∷ ds) = all_aliases aliases ds
all_aliases aliases (directive.DecimalMark m ∷ ds) = all_aliases aliases ds
