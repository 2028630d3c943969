-- Where the last piece of some lines begins.
use Rattle.std.proofs.Common.{ℕ, zero, suc, ◌≡◌, ◌+◌, ◌<◌, ◌≤◌, inl, inr, Bool, true, false, cond, ◌&&◌, ◌||◌, not, List, [], ◌∷◌, ◌++◌, length, take, refl, sym, ap, ◌∙◌, arith, length-append}
use Rattle.std.specs.List.{concat, list_any, prefix_len, take_while}
use Rattle.std.proofs.lemmas.Bool.{cases_lt}
use Rattle.std.proofs.lemmas.List.{take-append-le}
use Rattle.std.proofs.lemmas.List.Folds.{length-prefix_len}
use Rattle.hl_base.specs.Items.{closes_block, cut_from, is_indented, is_remark, kind_of, lines_more, lines_to_close}
use Rattle.hl_base.specs.declared.items.Kind.{Kind}
use Rattle.hl_base.specs.declared.items.Kind.TheVariants as kinds
use Rattle.hl_base.specs.declared.items.Piece.{Piece}
use Rattle.live_journal.specs.Edits.{is_block}
use Rattle.closed_journals.proofs.Cuts.{more_bound, open_in}

-- ---- a piece that ends before a line ends there with any such line

at_first : (a b : ℕ) (t u : Bool) → u ≡ t → cond t (1 + a) 0 ≤ 0 → cond u (1 + b) 0 ≡ cond t (1 + a) 0
at_first a b true u e h = absurd (omega arith)
at_first a b false u e h = ap (λ (v : Bool). cond v (1 + b) 0) e

none_first : (a : ℕ) (t : Bool) → cond t (1 + a) 0 ≤ 0 → 0 ≡ cond t (1 + a) 0
none_first a true h = absurd (omega arith)
none_first a false h = refl

on_run : (a b n : ℕ) (t : Bool) → cond t (1 + a) 0 ≤ suc n → (a ≤ n → b ≡ a) → cond t (1 + b) 0 ≡ cond t (1 + a) 0
on_run a b n true h f = ap (λ (k : ℕ). 1 + k) (f (omega arith))
on_run a b n false h f = refl

run_same : (p : List ℕ → Bool) (front : List (List ℕ)) (l m : List ℕ) (ls ms : List (List ℕ)) → p m ≡ p l → prefix_len p (front ++ l ∷ ls) ≤ length front → prefix_len p (front ++ m ∷ ms) ≡ prefix_len p (front ++ l ∷ ls)
run_same p [] l m ls ms e h = at_first (prefix_len p ls) (prefix_len p ms) (p l) (p m) e h
run_same p (x ∷ xs) l m ls ms e h = on_run (prefix_len p (xs ++ l ∷ ls)) (prefix_len p (xs ++ m ∷ ms)) (length xs) (p x) h (run_same p xs l m ls ms e)

run_alone : (p : List ℕ → Bool) (front : List (List ℕ)) (l : List ℕ) (ls : List (List ℕ)) → prefix_len p (front ++ l ∷ ls) ≤ length front → prefix_len p front ≡ prefix_len p (front ++ l ∷ ls)
run_alone p [] l ls h = none_first (prefix_len p ls) (p l) h
run_alone p (x ∷ xs) l ls h = on_run (prefix_len p (xs ++ l ∷ ls)) (prefix_len p xs) (length xs) (p x) h (run_alone p xs l ls)

close_same : (front ms : List (List ℕ)) (l : List ℕ) (ls : List (List ℕ)) → lines_to_close (front ++ l ∷ ls) ≤ length front → lines_to_close (front ++ ms) ≡ lines_to_close (front ++ l ∷ ls)
close_same [] ms l ls h = absurd (never (closes_block l) h)
  where
    never : (t : Bool) → cond t 1 (lines_to_close ls + 1) ≤ 0 → ⊥
    never true k = omega (arith, k)
    never false k = omega (arith, k)
close_same (x ∷ xs) ms l ls h = by (closes_block x) h (close_same xs ms l ls)
  where
    by : (t : Bool) → cond t 1 (lines_to_close (xs ++ l ∷ ls) + 1) ≤ suc (length xs) → (lines_to_close (xs ++ l ∷ ls) ≤ length xs → lines_to_close (xs ++ ms) ≡ lines_to_close (xs ++ l ∷ ls))
        → cond t 1 (lines_to_close (xs ++ ms) + 1) ≡ cond t 1 (lines_to_close (xs ++ l ∷ ls) + 1)
    by true k f = refl
    by false k f = ap (λ (n : ℕ). n + 1) (f (omega (arith, k)))

close_within : (front ms : List (List ℕ)) (l : List ℕ) (ls : List (List ℕ)) → lines_to_close (front ++ l ∷ ls) ≤ length front → list_any closes_block (front ++ ms) ≡ true
close_within [] ms l ls h = absurd (never (closes_block l) h)
  where
    never : (t : Bool) → cond t 1 (lines_to_close ls + 1) ≤ 0 → ⊥
    never true k = omega (arith, k)
    never false k = omega (arith, k)
close_within (x ∷ xs) ms l ls h = by (closes_block x) h (close_within xs ms l ls)
  where
    by : (t : Bool) → cond t 1 (lines_to_close (xs ++ l ∷ ls) + 1) ≤ suc (length xs) → (lines_to_close (xs ++ l ∷ ls) ≤ length xs → list_any closes_block (xs ++ ms) ≡ true)
        → (t || list_any closes_block (xs ++ ms)) ≡ true
    by true k f = refl
    by false k f = f (omega (arith, k))

runs : (p : List ℕ → Bool) (ls : List (List ℕ)) → length (take_while p ls) ≡ prefix_len p ls
runs p ls = length-prefix_len p ls

run_within : (p : List ℕ → Bool) (ls : List (List ℕ)) (n : ℕ) → length (take_while p ls) ≤ n → prefix_len p ls ≤ n
run_within p ls n h = omega (arith, h, length-prefix_len p ls)

pub more_same : (k : Kind) (front : List (List ℕ)) (l m : List ℕ) (ls ms : List (List ℕ)) → is_remark m ≡ is_remark l → is_indented m ≡ is_indented l
    → lines_more k (front ++ l ∷ ls) ≤ length front → lines_more k (front ++ m ∷ ms) ≡ lines_more k (front ++ l ∷ ls)
more_same kinds.Gap front l m ls ms a b h = runs is_remark (front ++ m ∷ ms) ∙ run_same is_remark front l m ls ms a (run_within is_remark (front ++ l ∷ ls) (length front) h) ∙ sym (runs is_remark (front ++ l ∷ ls))
more_same kinds.Block front l m ls ms a b h = close_same front (m ∷ ms) l ls h
more_same kinds.Entry front l m ls ms a b h = runs is_indented (front ++ m ∷ ms) ∙ run_same is_indented front l m ls ms b (run_within is_indented (front ++ l ∷ ls) (length front) h) ∙ sym (runs is_indented (front ++ l ∷ ls))
more_same kinds.Head front l m ls ms a b h = runs is_indented (front ++ m ∷ ms) ∙ run_same is_indented front l m ls ms b (run_within is_indented (front ++ l ∷ ls) (length front) h) ∙ sym (runs is_indented (front ++ l ∷ ls))
more_same kinds.Stray front l m ls ms a b h = runs is_indented (front ++ m ∷ ms) ∙ run_same is_indented front l m ls ms b (run_within is_indented (front ++ l ∷ ls) (length front) h) ∙ sym (runs is_indented (front ++ l ∷ ls))

close_alone : (front : List (List ℕ)) (l : List ℕ) (ls : List (List ℕ)) → lines_to_close (front ++ l ∷ ls) ≤ length front → lines_to_close front ≡ lines_to_close (front ++ l ∷ ls)
close_alone [] l ls h = absurd (never (closes_block l) h)
  where
    never : (t : Bool) → cond t 1 (lines_to_close ls + 1) ≤ 0 → ⊥
    never true k = omega (arith, k)
    never false k = omega (arith, k)
close_alone (x ∷ xs) l ls h = by (closes_block x) h (close_alone xs l ls)
  where
    by : (t : Bool) → cond t 1 (lines_to_close (xs ++ l ∷ ls) + 1) ≤ suc (length xs) → (lines_to_close (xs ++ l ∷ ls) ≤ length xs → lines_to_close xs ≡ lines_to_close (xs ++ l ∷ ls))
        → cond t 1 (lines_to_close xs + 1) ≡ cond t 1 (lines_to_close (xs ++ l ∷ ls) + 1)
    by true k f = refl
    by false k f = ap (λ (n : ℕ). n + 1) (f (omega (arith, k)))

pub more_alone : (k : Kind) (front : List (List ℕ)) (l : List ℕ) (ls : List (List ℕ)) → lines_more k (front ++ l ∷ ls) ≤ length front → lines_more k front ≡ lines_more k (front ++ l ∷ ls)
more_alone kinds.Gap front l ls h = runs is_remark front ∙ run_alone is_remark front l ls (run_within is_remark (front ++ l ∷ ls) (length front) h) ∙ sym (runs is_remark (front ++ l ∷ ls))
more_alone kinds.Block front l ls h = close_alone front l ls h
more_alone kinds.Entry front l ls h = runs is_indented front ∙ run_alone is_indented front l ls (run_within is_indented (front ++ l ∷ ls) (length front) h) ∙ sym (runs is_indented (front ++ l ∷ ls))
more_alone kinds.Head front l ls h = runs is_indented front ∙ run_alone is_indented front l ls (run_within is_indented (front ++ l ∷ ls) (length front) h) ∙ sym (runs is_indented (front ++ l ∷ ls))
more_alone kinds.Stray front l ls h = runs is_indented front ∙ run_alone is_indented front l ls (run_within is_indented (front ++ l ∷ ls) (length front) h) ∙ sym (runs is_indented (front ++ l ∷ ls))

shut_before : (k : Kind) (front ms : List (List ℕ)) (l : List ℕ) (ls : List (List ℕ)) → lines_more k (front ++ l ∷ ls) ≤ length front → (is_block k && not (list_any closes_block (front ++ ms))) ≡ false
shut_before kinds.Gap front ms l ls h = refl
shut_before kinds.Block front ms l ls h = ap not (close_within front ms l ls h)
shut_before kinds.Entry front ms l ls h = refl
shut_before kinds.Head front ms l ls h = refl
shut_before kinds.Stray front ms l ls h = refl

-- ---- the last piece

-- The lines before the last piece, its first line, and its others. Any such line there begins a piece of its own.
pub record Parts (taken : ℕ) (ls : List (List ℕ)) : Type 0 where
  pub front : List (List ℕ)
  pub first : List ℕ
  pub rest : List (List ℕ)
  pub is : ls ≡ front ++ first ∷ rest
  pub few : taken ≤ length front
  pub whole : lines_more (kind_of first) rest ≡ length rest
  pub cut : (at line : ℕ) (l : List ℕ) (more : List (List ℕ)) → is_remark l ≡ is_remark first → is_indented l ≡ is_indented first
      → cut_from taken at line (front ++ l ∷ more) ≡ cut_from taken at line front ++ cut_from 0 (at + length (concat front)) (line + length front) (l ∷ more)
  pub leaves : (l : List ℕ) (more : List (List ℕ)) → is_remark l ≡ is_remark first → is_indented l ≡ is_indented first
      → open_in taken (front ++ l ∷ more) ≡ open_in 0 (l ∷ more)

abbrev piece : ℕ → ℕ → ℕ → Kind → Piece
piece at len line kind = record { at = at; len = len; line = line; kind = kind }

place_is : (a x y : ℕ) {z : ℕ} → z ≡ x + y → a + x + y ≡ a + z
place_is a x y e = omega (arith, e)

number_is : (a n : ℕ) → a + 1 + n ≡ a + suc n
number_is a n = omega arith

further : (at line : ℕ) (x : List ℕ) (front more : List (List ℕ)) → cut_from 0 (at + length x + length (concat front)) (line + 1 + length front) more ≡ cut_from 0 (at + length (concat (x ∷ front))) (line + suc (length front)) more
further at line x front more =
    ap (λ (j : ℕ). cut_from 0 j (line + 1 + length front) more) (place_is at (length x) (length (concat front)) (length-append x (concat front)))
    ∙ ap (λ (j : ℕ). cut_from 0 (at + length (concat (x ∷ front))) j more) (number_is line (length front))

passed : (taken : ℕ) (x : List ℕ) (ls : List (List ℕ)) → Parts taken ls → Parts (suc taken) (x ∷ ls)
passed taken x ls r = record {
  front = x ∷ r.front;
  first = r.first;
  rest = r.rest;
  is = ap (λ (xs : List (List ℕ)). x ∷ xs) r.is;
  few = omega (arith, r.few);
  whole = r.whole;
  cut = λ at line l more a b. r.cut (at + length x) (line + 1) l more a b ∙ ap (λ (ps : List Piece). cut_from taken (at + length x) (line + 1) r.front ++ ps) (further at line x r.front (l ∷ more));
  leaves = λ l more a b. r.leaves l more a b;
}

alone : (x : List ℕ) (ls : List (List ℕ)) → lines_more (kind_of x) ls ≡ length ls → Parts 0 (x ∷ ls)
alone x ls h = record {
  front = [];
  first = x;
  rest = ls;
  is = refl;
  few = omega arith;
  whole = h;
  cut = λ at line l more a b. λ i. cut_from 0 (same at i) (same line i) (l ∷ more);
  leaves = λ l more a b. refl;
}
  where
    same : (n : ℕ) → n ≡ n + 0
    same n = omega arith

or_false : (a b : Bool) → a ≡ false → (a || b) ≡ b
or_false a b h = ap (λ (t : Bool). t || b) h

before : (x : List ℕ) (ls : List (List ℕ)) → Parts (lines_more (kind_of x) ls) ls → Parts 0 (x ∷ ls)
before x ls r = record {
  front = x ∷ r.front;
  first = r.first;
  rest = r.rest;
  is = ap (λ (xs : List (List ℕ)). x ∷ xs) r.is;
  few = omega arith;
  whole = r.whole;
  cut = cut;
  leaves = leaves;
}
  where
    stops : lines_more (kind_of x) (r.front ++ r.first ∷ r.rest) ≤ length r.front
    stops = omega (arith, r.few, ap (lines_more (kind_of x)) r.is)

    same : (l : List ℕ) (more : List (List ℕ)) → is_remark l ≡ is_remark r.first → is_indented l ≡ is_indented r.first → lines_more (kind_of x) (r.front ++ l ∷ more) ≡ lines_more (kind_of x) ls
    same l more a b = more_same (kind_of x) r.front r.first l r.rest more a b stops ∙ sym (ap (lines_more (kind_of x)) r.is)

    own : lines_more (kind_of x) r.front ≡ lines_more (kind_of x) ls
    own = more_alone (kind_of x) r.front r.first r.rest stops ∙ sym (ap (lines_more (kind_of x)) r.is)

    cut : (at line : ℕ) (l : List ℕ) (more : List (List ℕ)) → is_remark l ≡ is_remark r.first → is_indented l ≡ is_indented r.first
        → cut_from 0 at line (x ∷ (r.front ++ l ∷ more)) ≡ cut_from 0 at line (x ∷ r.front) ++ cut_from 0 (at + length (concat (x ∷ r.front))) (line + suc (length r.front)) (l ∷ more)
    cut at line l more a b =
        let m = lines_more (kind_of x) ls in
        ap (λ (j : ℕ). piece at (length x + length (concat (take j (r.front ++ l ∷ more)))) line (kind_of x) ∷ cut_from j (at + length x) (line + 1) (r.front ++ l ∷ more)) (same l more a b)
        ∙ ap (λ (xs : List (List ℕ)). piece at (length x + length (concat xs)) line (kind_of x) ∷ cut_from m (at + length x) (line + 1) (r.front ++ l ∷ more)) (take-append-le m r.front (l ∷ more) r.few)
        ∙ ap (λ (ps : List Piece). piece at (length x + length (concat (take m r.front))) line (kind_of x) ∷ ps)
        (r.cut (at + length x) (line + 1) l more a b ∙ ap (λ (ps : List Piece). cut_from m (at + length x) (line + 1) r.front ++ ps) (further at line x r.front (l ∷ more)))
        ∙ ap (λ (j : ℕ). (piece at (length x + length (concat (take j r.front))) line (kind_of x) ∷ cut_from j (at + length x) (line + 1) r.front) ++ cut_from 0 (at + length (concat (x ∷ r.front))) (line + suc (length r.front)) (l ∷ more)) (sym own)

    leaves : (l : List ℕ) (more : List (List ℕ)) → is_remark l ≡ is_remark r.first → is_indented l ≡ is_indented r.first → open_in 0 (x ∷ (r.front ++ l ∷ more)) ≡ open_in 0 (l ∷ more)
    leaves l more a b =
        or_false (is_block (kind_of x) && not (list_any closes_block (r.front ++ l ∷ more))) (open_in (lines_more (kind_of x) (r.front ++ l ∷ more)) (r.front ++ l ∷ more)) (shut_before (kind_of x) r.front (l ∷ more) r.first r.rest stops)
        ∙ ap (λ (j : ℕ). open_in j (r.front ++ l ∷ more)) (same l more a b)
        ∙ r.leaves l more a b

pub parts : (taken : ℕ) (ls : List (List ℕ)) → taken < length ls → Parts taken ls
parts taken [] h = absurd (omega arith)
parts (suc taken) (x ∷ ls) h = passed taken x ls (parts taken ls (omega arith))
parts zero (x ∷ ls) h =
    elim (cases_lt (lines_more (kind_of x) ls) (length ls)) [
      | inl less ↦ before x ls (parts (lines_more (kind_of x) ls) ls less)
      | inr most ↦ alone x ls (omega (arith, most, more_bound (kind_of x) ls))
    ]
