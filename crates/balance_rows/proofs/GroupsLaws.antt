-- The groups of some items: for each account, the cells that were given to it.
use Rattle.std.proofs.Common.{◌≡◌, ℕ, Bool, true, false, ◌||◌, cond, T, List, [], ◌∷◌, ◌++◌, map, filter, Option, Some, None, unwrap_or, inl, inr, refl, sym, ap, subst, ◌∙◌, append_assoc, append-nil}
use Rattle.std.specs.List.{AllByRecursion, fold, list_any}
use Rattle.std.specs.Ordering.{is_eq, eq_by_cmp}
use Rattle.std.specs.Str.{bytes_eq}
use Rattle.std.specs.FinMap.Entries.{find, put, find-put, is_sorted, is_sorted-put, same_entries}
use Rattle.std.proofs.lemmas.Bool.{false≢true}
use Rattle.std.proofs.lemmas.Cmp.{tied_itself}
use Rattle.std.proofs.lemmas.List.{map-append}
use Rattle.std.proofs.lemmas.List.Elements.{filter-append}
use Rattle.book.specs.Accounts.{account_cmp}
use Rattle.book.specs.Order.{each_once}
use Rattle.book.proofs.Accounts.{account_total, account_ties}
use Rattle.book.proofs.Order.{is_equal, contains-each_once, sorted-each_once, find-made}
use Rattle.balance_rows.specs.Groups.{AreOrdered, Groups, KeptCells, group_at, group_with, grouped}
use Rattle.balance_rows.proofs.Holding.{alike, bytes_eq-itself}

-- the cells that were given to an account
abbrev pub cells_of : List ℕ → List (List ℕ × KeptCells) → List KeptCells
cells_of account items = map (λ (item : List ℕ × KeptCells). item.1) (filter (λ (item : List ℕ × KeptCells). bytes_eq item.0 account) items)

abbrev pub has_any : List KeptCells → Bool
has_any [] = false
has_any (cells ∷ more) = true

has_any-push : (xs : List KeptCells) (x : KeptCells) → has_any (xs ++ x ∷ []) ≡ true
has_any-push [] x = refl
has_any-push (y ∷ ys) x = refl

-- accounts tie where their bytes are equal
pub tie-account : (q k : List ℕ) → eq_by_cmp account_cmp q k ≡ bytes_eq k q
tie-account q k = by (eq_by_cmp account_cmp q k) refl
  where
    by : (b : Bool) → eq_by_cmp account_cmp q k ≡ b → b ≡ bytes_eq k q
    by true e = sym (subst (λ (x : List ℕ). bytes_eq x q ≡ true) (account_ties q k (is_equal _ e)) (bytes_eq-itself q))
    by false e = elim (alike k q) [
      | inl same ↦ absurd (false≢true (sym e ∙ subst (λ (x : List ℕ). eq_by_cmp account_cmp x k ≡ true) same (ap is_eq (tied_itself account_total k))))
      | inr differ ↦ sym differ
    ]

-- the group of an account holds its cells, and there is none where it has none
abbrev pub HoldsGroup : Option (List KeptCells) → List KeptCells → Type 0
HoldsGroup None cells = cells ≡ []
HoldsGroup (Some group) cells = (group ≡ cells) × (has_any cells ≡ true)

pub record HoldsGroups (groups : Groups) (done : List (List ℕ × KeptCells)) : Type 0 where
  pub ordered : AreOrdered groups
  pub each : (account : List ℕ) → HoldsGroup (find account_cmp account groups) (cells_of account done)

group_holds : (o : Option (List KeptCells)) (cells : List KeptCells) → HoldsGroup o cells → unwrap_or o [] ≡ cells
group_holds None cells h = sym h
group_holds (Some group) cells h = h.0

cells_of-push : (account : List ℕ) (done : List (List ℕ × KeptCells)) (item : List ℕ × KeptCells) (b : Bool) → bytes_eq item.0 account ≡ b → cells_of account (done ++ item ∷ []) ≡ cells_of account done ++ cond b (item.1 ∷ []) []
cells_of-push account done item b e =
    let p = λ (item : List ℕ × KeptCells). bytes_eq item.0 account in
    let second = λ (item : List ℕ × KeptCells). item.1 in
    ap (map second) (filter-append p done (item ∷ []) ∙ ap (λ (c : Bool). filter p done ++ cond c (item ∷ []) []) e)
    ∙ map-append second (filter p done) (cond b (item ∷ []) [])
    ∙ ap (λ (t : List KeptCells). cells_of account done ++ t) (one b)
  where
    one : (b : Bool) → map (λ (item : List ℕ × KeptCells). item.1) (cond b (item ∷ []) []) ≡ cond b (item.1 ∷ []) []
    one true = refl
    one false = refl

module _ (groups : Groups) (done : List (List ℕ × KeptCells)) (item : List ℕ × KeptCells) (h : HoldsGroups groups done) where
  found : (q : List ℕ) (b : Bool) → bytes_eq item.0 q ≡ b → find account_cmp q (group_with groups item) ≡ cond b (Some (group_at item.0 groups ++ item.1 ∷ [])) (find account_cmp q groups)
  found q b e =
      find-put account_cmp account_total q item.0 (group_at item.0 groups ++ item.1 ∷ []) groups
      ∙ ap (λ (c : Bool). cond c (Some (group_at item.0 groups ++ item.1 ∷ [])) (find account_cmp q groups)) (tie-account q item.0 ∙ e)

  here : HoldsGroup (Some (group_at item.0 groups ++ item.1 ∷ [])) (cells_of item.0 (done ++ item ∷ []))
  here =
      let now : cells_of item.0 (done ++ item ∷ []) ≡ cells_of item.0 done ++ item.1 ∷ [] = cells_of-push item.0 done item true (bytes_eq-itself item.0) in (
        ap (λ (t : List KeptCells). t ++ item.1 ∷ []) (group_holds (find account_cmp item.0 groups) (cells_of item.0 done) (h.each item.0)) ∙ sym now,
        ap has_any now ∙ has_any-push (cells_of item.0 done) item.1,
      )

  each_more : (q : List ℕ) → HoldsGroup (find account_cmp q (group_with groups item)) (cells_of q (done ++ item ∷ []))
  each_more q = elim (alike item.0 q) [
    | inl same ↦ subst (λ (x : List ℕ). HoldsGroup (find account_cmp x (group_with groups item)) (cells_of x (done ++ item ∷ []))) same
        (subst (λ (o : Option (List KeptCells)). HoldsGroup o (cells_of item.0 (done ++ item ∷ []))) (sym (found item.0 true (bytes_eq-itself item.0))) here)
    | inr differ ↦ subst (λ (o : Option (List KeptCells)). HoldsGroup o (cells_of q (done ++ item ∷ []))) (sym (found q false differ))
        (subst (HoldsGroup (find account_cmp q groups)) (sym (cells_of-push q done item false differ ∙ append-nil (cells_of q done))) (h.each q))
  ]

  pub holds_item : HoldsGroups (group_with groups item) (done ++ item ∷ [])
  holds_item = record {
    ordered = is_sorted-put account_cmp account_total item.0 (group_at item.0 groups ++ item.1 ∷ []) groups h.ordered;
    each = each_more;
  }

pub ordered_with : (groups : Groups) (item : List ℕ × KeptCells) → AreOrdered groups → AreOrdered (group_with groups item)
ordered_with groups item h = is_sorted-put account_cmp account_total item.0 (group_at item.0 groups ++ item.1 ∷ []) groups h

pub ordered_after : (groups : Groups) (items : List (List ℕ × KeptCells)) → AreOrdered groups → AreOrdered (fold group_with groups items)
ordered_after groups [] h = h
ordered_after groups (item ∷ items) h = ordered_after (group_with groups item) items (ordered_with groups item h)

holds_items : (groups : Groups) (done items : List (List ℕ × KeptCells)) → HoldsGroups groups done → HoldsGroups (fold group_with groups items) (done ++ items)
holds_items groups done [] h = subst (HoldsGroups groups) (sym (append-nil done)) h
holds_items groups done (item ∷ items) h =
    subst (HoldsGroups (fold group_with (group_with groups item) items)) (append_assoc done (item ∷ []) items) (holds_items (group_with groups item) (done ++ item ∷ []) items (holds_item groups done item h))

holds_grouped : (items : List (List ℕ × KeptCells)) → HoldsGroups (grouped items) items
holds_grouped items = holds_items [] [] items (record { ordered = tt; each = λ account. refl })

any_account : (q : List ℕ) (items : List (List ℕ × KeptCells)) → list_any (eq_by_cmp account_cmp q) (map (λ (item : List ℕ × KeptCells). item.0) items) ≡ has_any (cells_of q items)
any_account q [] = refl
any_account q (item ∷ items) =
    ap (λ (b : Bool). b || list_any (eq_by_cmp account_cmp q) (map (λ (item : List ℕ × KeptCells). item.0) items)) (tie-account q item.0)
    ∙ (elim (bytes_eq item.0 q) as (λ b. (b || list_any (eq_by_cmp account_cmp q) (map (λ (item : List ℕ × KeptCells). item.0) items)) ≡ has_any (map (λ (item : List ℕ × KeptCells). item.1) (cond b (item ∷ filter (λ (item : List ℕ × KeptCells). bytes_eq item.0 q) items) (filter (λ (item : List ℕ × KeptCells). bytes_eq item.0 q) items)))) [ true ↦ refl | false ↦ any_account q items ])

found_group : (o : Option (List KeptCells)) (cells : List KeptCells) → HoldsGroup o cells → o ≡ cond (has_any cells) (Some cells) None
found_group None cells h = sym (ap (λ (cells : List KeptCells). cond (has_any cells) (Some cells) None) h)
found_group (Some group) cells h = ap Some h.0 ∙ sym (ap (λ (b : Bool). cond b (Some cells) None) h.1)

-- The groups are the accounts in their order, each with the cells that were given to it.
pub grouped-is : (items : List (List ℕ × KeptCells)) → grouped items ≡ map (λ account. (account, cells_of account items)) (each_once account_cmp (map (λ (item : List ℕ × KeptCells). item.0) items))
grouped-is items =
    let names = map (λ (item : List ℕ × KeptCells). item.0) items in
    let cells = λ (account : List ℕ). cells_of account items in
    let held = holds_grouped items in
    same_entries account_cmp account_total account_ties (grouped items) (map (λ account. (account, cells_of account items)) (each_once account_cmp names))
    held.ordered
    (sorted-each_once account_ties cells account_total names)
    (λ q.
    found_group (find account_cmp q (grouped items)) (cells_of q items) (held.each q)
    ∙ sym (find-made account_ties cells (each_once account_cmp names) q ∙ ap (λ (b : Bool). cond b (Some (cells q)) None) (contains-each_once account_ties names q ∙ any_account q items)))
