-- How many lines a piece takes of some, and of those behind them.
use Rattle.std.proofs.Common.{ℕ, suc, ◌≡◌, ◌+◌, ◌≤◌, Bool, true, false, cond, ◌==◌, ◌&&◌, ◌||◌, not, codes, List, [], ◌∷◌, ◌++◌, length, take, drop, refl, sym, ap, ◌∙◌, arith}
use Rattle.std.specs.Cmp.Lexicographic.{pointwise}
use Rattle.std.specs.List.{list_any, prefix_len, take_while}
use Rattle.std.proofs.lemmas.Bool.{eqb-true, false≢true}
use Rattle.std.proofs.lemmas.List.Folds.{length-prefix_len}
use Rattle.std.proofs.lemmas.List.Sums.{prefix_len-le-length}
use Rattle.hl_base.specs.Items.{begins_entry, closes_block, is_blank, is_indented, is_remark, kind_of, lines_more, lines_to_close, opens_block}
use Rattle.hl_base.specs.declared.items.Kind.{Kind}
use Rattle.hl_base.specs.declared.items.Kind.TheVariants as kinds
use Rattle.text_ends.specs.Ends.{is_block}

run_bound : (p : List ℕ → Bool) (ls : List (List ℕ)) → length (take_while p ls) ≤ length ls
run_bound p ls = omega (arith, length-prefix_len p ls, prefix_len-le-length p ls)

close_bound : (ls : List (List ℕ)) → lines_to_close ls ≤ length ls
close_bound [] = omega arith
close_bound (l ∷ ls) = by (closes_block l) (close_bound ls)
  where
    by : (t : Bool) → lines_to_close ls ≤ length ls → cond t 1 (lines_to_close ls + 1) ≤ suc (length ls)
    by true h = omega arith
    by false h = omega arith

pub more_bound : (k : Kind) (ls : List (List ℕ)) → lines_more k ls ≤ length ls
more_bound kinds.Gap ls = run_bound is_remark ls
more_bound kinds.Block ls = close_bound ls
more_bound kinds.Entry ls = run_bound is_indented ls
more_bound kinds.Head ls = run_bound is_indented ls
more_bound kinds.Stray ls = run_bound is_indented ls

pub run_on : (p : List ℕ → Bool) (ls more : List (List ℕ)) → prefix_len p ls ≡ length ls → prefix_len p (ls ++ more) ≡ length ls + prefix_len p more
run_on p [] more h = omega arith
run_on p (l ∷ ls) more h = by (p l) h (run_on p ls more)
  where
    by : (t : Bool) → cond t (1 + prefix_len p ls) 0 ≡ suc (length ls) → (prefix_len p ls ≡ length ls → prefix_len p (ls ++ more) ≡ length ls + prefix_len p more) → cond t (1 + prefix_len p (ls ++ more)) 0 ≡ suc (length ls) + prefix_len p more
    by true k f = let r = f (omega (arith, k)) in omega (arith, r)
    by false k f = absurd (omega (arith, k))

pub runs_on : (p : List ℕ → Bool) (ls more : List (List ℕ)) → prefix_len p ls ≡ length ls → length (take_while p (ls ++ more)) ≡ length ls + prefix_len p more
runs_on p ls more h = length-prefix_len p (ls ++ more) ∙ run_on p ls more h

pub close_front : (ls more : List (List ℕ)) → list_any closes_block ls ≡ true → lines_to_close (ls ++ more) ≡ lines_to_close ls
close_front [] more h = absurd (false≢true h)
close_front (l ∷ ls) more h = by (closes_block l) h (close_front ls more)
  where
    by : (t : Bool) → (t || list_any closes_block ls) ≡ true → (list_any closes_block ls ≡ true → lines_to_close (ls ++ more) ≡ lines_to_close ls) → cond t 1 (lines_to_close (ls ++ more) + 1) ≡ cond t 1 (lines_to_close ls + 1)
    by true k f = refl
    by false k f = ap (λ (n : ℕ). n + 1) (f k)

-- where none ends a block, those behind may
pub close_over : (ls more : List (List ℕ)) → list_any closes_block ls ≡ false → lines_to_close (ls ++ more) ≡ length ls + lines_to_close more
close_over [] more h = omega arith
close_over (l ∷ ls) more h = by (closes_block l) h (close_over ls more)
  where
    by : (t : Bool) → (t || list_any closes_block ls) ≡ false → (list_any closes_block ls ≡ false → lines_to_close (ls ++ more) ≡ length ls + lines_to_close more) → cond t 1 (lines_to_close (ls ++ more) + 1) ≡ suc (length ls) + lines_to_close more
    by true k f = absurd (false≢true (sym k))
    by false k f = let r = f k in omega (arith, r)

-- ---- lines that open and close blocks

opens_of : (o r i e : Bool) → is_block (cond o kinds.Block (cond r kinds.Gap (cond i kinds.Stray (cond e kinds.Entry kinds.Head)))) ≡ true → o ≡ true
opens_of true r i e h = refl
opens_of false true i e h = absurd (false≢true h)
opens_of false false true e h = absurd (false≢true h)
opens_of false false false true h = absurd (false≢true h)
opens_of false false false false h = absurd (false≢true h)

first_true : (a b c : Bool) → ((a && b) && c) ≡ true → a ≡ true
first_true true b c h = refl
first_true false b c h = h

apart : (l : List ℕ) → opens_block l ≡ true → closes_block l ≡ false
apart [] h = refl
apart (b ∷ bs) h =
    let is : (99 == b) ≡ true = first_true (99 == b) (pointwise (λ x y. x == y) (codes "omment") (take 6 bs)) (is_blank (drop 7 (b ∷ bs))) h in
    let other : (101 == b) ≡ false = ap (λ (k : ℕ). 101 == k) (sym (eqb-true 99 b is)) in
    ap (λ (t : Bool). (t && pointwise (λ x y. x == y) (codes "nd comment") (take 10 bs)) && is_blank (drop 11 (b ∷ bs))) other

block_opens : (l : List ℕ) → is_block (kind_of l) ≡ true → closes_block l ≡ false
block_opens l h = apart l (opens_of (opens_block l) (is_remark l) (is_indented l) (begins_entry l) h)

pub last_open : (k : Kind) (l : List ℕ) (ls : List (List ℕ)) → kind_of l ≡ k → (is_block k && not (closes_block l || list_any closes_block ls)) ≡ (is_block k && not (list_any closes_block ls))
last_open kinds.Gap l ls e = refl
last_open kinds.Entry l ls e = refl
last_open kinds.Head l ls e = refl
last_open kinds.Stray l ls e = refl
last_open kinds.Block l ls e = ap (λ (t : Bool). not (t || list_any closes_block ls)) (block_opens l (ap is_block e))
