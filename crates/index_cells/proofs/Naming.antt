-- The accounts that have a taking on some days are those of the takings, in their order.
use Rattle.std.proofs.Common.{◌≡◌, ℕ, Bool, true, false, cond, ◌||◌, T, List, [], ◌∷◌, map, filter, Some, None, refl, sym, ap, ◌∙◌}
use Rattle.std.specs.Ordering.{is_eq, eq_by_cmp}
use Rattle.std.specs.List.{list_any}
use Rattle.std.specs.Str.{bytes_eq}
use Rattle.std.specs.FinMap.Entries.{below_all, same_entries}
use Rattle.std.proofs.lemmas.Bool.{false≢true, or_parts}
use Rattle.hl_time.specs.declared.spans.Span.{Span}
use Rattle.book.specs.Accounts.{account_cmp}
use Rattle.book.proofs.Accounts.{account_total, account_ties}
use Rattle.book.proofs.Order.{contains-each_once, sorted-each_once, sorted-filter, find-made, find-passing}
use Rattle.book.proofs.Places.{first, second, less}
use Rattle.report_cells.specs.Taken.{Taken}
use Rattle.report_cells.specs.Report.{accounts_in}
use Rattle.report_cells.proofs.Gathering.{tie-account}
use Rattle.index_cells.specs.Days.{holds}
use Rattle.index_cells.specs.Keys.{is_in, EachOnce, AreInOrder}
use Rattle.index_cells.specs.Tells.{is_of, taken_on, Tells}
use Rattle.index_cells.specs.declared.kept.Kept.{Kept}
use Rattle.index_cells.proofs.Celling.{sym_text}

-- ---- lists that rise

apart : (a b : List ℕ) → eq_by_cmp account_cmp a b ≡ false → bytes_eq a b ≡ false
apart a b e = sym_text a b ∙ sym (tie-account a b) ∙ e

none_below : (a : List ℕ) (accounts : List (List ℕ)) → T (below_all account_cmp a (map (λ (k : List ℕ). (k, k)) accounts)) → is_in a accounts ≡ false
none_below a [] h = refl
none_below a (b ∷ accounts) h =
    ap (λ (t : Bool). t || is_in a accounts) (apart a b (ap is_eq (less _ (first _ _ h)))) ∙ none_below a accounts (second _ _ h)

pub once_in_order : (accounts : List (List ℕ)) → AreInOrder accounts → EachOnce accounts
once_in_order [] h = tt
once_in_order (a ∷ accounts) h = (none_below a accounts (first _ _ h), once_in_order accounts (second _ _ h))

-- ---- accounts of takings

any_along : (p r : List ℕ → Bool) → ((k : List ℕ) → p k ≡ r k) → (ks : List (List ℕ)) → list_any p ks ≡ list_any r ks
any_along p r same [] = refl
any_along p r same (k ∷ ks) = (λ i. same k i || any_along p r same ks i)

-- as the order sees them, and by their bytes
pub among_in_order : (q : List ℕ) (accounts : List (List ℕ)) → list_any (eq_by_cmp account_cmp q) accounts ≡ is_in q accounts
among_in_order q accounts = any_along (eq_by_cmp account_cmp q) (λ other. bytes_eq q other) (λ k. tie-account q k ∙ sym_text k q) accounts

any_account : (q : List ℕ) (ts : List Taken) → list_any (eq_by_cmp account_cmp q) (map (λ (t : Taken). t.account) ts) ≡ list_any (is_of q) ts
any_account q [] = refl
any_account q (t ∷ ts) = (λ i. tie-account q t.account i || any_account q ts i)

pub account_among : (q : List ℕ) (ts : List Taken) → is_in q (accounts_in ts) ≡ list_any (is_of q) ts
account_among q ts =
    sym (among_in_order q (accounts_in ts)) ∙ contains-each_once account_ties (map (λ (t : Taken). t.account) ts) q ∙ any_account q ts

-- ---- which accounts have takings on some days

pub none_kept : (p r : Taken → Bool) (ts : List Taken) → list_any p ts ≡ false → list_any p (filter r ts) ≡ false
none_kept p r [] h = refl
none_kept p r (t ∷ ts) h =
    let parts = or_parts (p t) (list_any p ts) h in
    let rest = none_kept p r ts parts.1 in
    elim (r t) as (λ b. list_any p (cond b (t ∷ filter r ts) (filter r ts)) ≡ false) [
      | true ↦ ap (λ (x : Bool). x || list_any p (filter r ts)) parts.0 ∙ rest
      | false ↦ rest
    ]

firsts-filter : (p : List ℕ → Bool) (ks : List (List ℕ)) → map (λ (e : List ℕ × List ℕ). e.0) (filter (λ (e : List ℕ × List ℕ). p e.1) (map (λ (k : List ℕ). (k, k)) ks)) ≡ filter p ks
firsts-filter p [] = refl
firsts-filter p (k ∷ ks) =
    elim (p k) as (λ b. map (λ (e : List ℕ × List ℕ). e.0) (cond b ((k, k) ∷ filter (λ (e : List ℕ × List ℕ). p e.1) (map (λ (k : List ℕ). (k, k)) ks)) (filter (λ (e : List ℕ × List ℕ). p e.1) (map (λ (k : List ℕ). (k, k)) ks))) ≡ cond b (k ∷ filter p ks) (filter p ks)) [
      | true ↦ ap (λ (t : List (List ℕ)). k ∷ t) (firsts-filter p ks)
      | false ↦ firsts-filter p ks
    ]

pub firsts : (ks : List (List ℕ)) → map (λ (e : List ℕ × List ℕ). e.0) (map (λ (k : List ℕ). (k, k)) ks) ≡ ks
firsts [] = refl
firsts (k ∷ ks) = ap (λ (t : List (List ℕ)). k ∷ t) (firsts ks)

module _ (kept : Kept) (ts : List Taken) (h : Tells ts kept) (days : Span) where
  abbrev window : List Taken
  window = taken_on days ts

  found : (q : List ℕ) (named has : Bool) → is_in q kept.accounts ≡ named → list_any (is_of q) window ≡ has → cond named (cond has (Some q) None) None ≡ cond has (Some q) None
  found q true has e g = refl
  found q false true e g = absurd (false≢true (sym (none_kept (is_of q) (λ t. holds days t.day) ts (h.accounts q e)) ∙ g))
  found q false false e g = refl

  pub names_are : filter (λ q. list_any (is_of q) window) kept.accounts ≡ accounts_in window
  names_are =
      let p : List ℕ → Bool = λ q. list_any (is_of q) window in
      let twice : List (List ℕ) → List (List ℕ × List ℕ) = map (λ (k : List ℕ). (k, k)) in
      let names = map (λ (t : Taken). t.account) window in
      let same = same_entries account_cmp account_total account_ties (filter (λ (e : List ℕ × List ℕ). p e.1) (twice kept.accounts)) (twice (accounts_in window))
      (sorted-filter account_cmp (λ (e : List ℕ × List ℕ). p e.1) (twice kept.accounts) h.ready.ordered)
      (sorted-each_once account_ties (λ (k : List ℕ). k) account_total names)
      (λ q.
      find-passing account_ties (λ (k : List ℕ). k) p kept.accounts q
      ∙ (λ i. cond (among_in_order q kept.accounts i) (cond (list_any (is_of q) window) (Some q) None) None)
      ∙ found q (is_in q kept.accounts) (list_any (is_of q) window) refl refl
      ∙ sym (find-made account_ties (λ (k : List ℕ). k) (accounts_in window) q
      ∙ ap (λ (b : Bool). cond b (Some q) None) (contains-each_once account_ties names q ∙ any_account q window))) in
      sym (firsts-filter p kept.accounts) ∙ ap (map (λ (e : List ℕ × List ℕ). e.0)) same ∙ firsts (accounts_in window)
