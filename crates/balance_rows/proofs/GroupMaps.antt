-- What a map of groups does with one more row.
use Rattle.std.proofs.Common.{◌≡◌, ℕ, List, [], ◌∷◌, ◌++◌, Option, Some, None, Result, Ok, Err, OnOk, sym, ap, ◌∙◌}
use Rattle.std.specs.BTreeMap.{insert_entry, is_at}
use Rattle.std.specs.Map.{lookup, set_value}
use Rattle.book.specs.Accounts.{account_cmp}
use Rattle.book.proofs.Accounts.{account_total}
use Rattle.report_cells.proofs.Keeping.{put_here, put_new, value_here, value_none}
use Rattle.balance_rows.specs.Groups.{AreOrdered, Groups, KeptCells, group_at, group_with}

pub on_ok : {E : Type 0} {P Q : Type 0} (r : Result (Unit {0}) E) → (P → Q) → OnOk r P → OnOk r Q
on_ok (Ok u) f h = f h
on_ok (Err e) f h = tt

module _ (groups : Groups) (k : List ℕ) (cells : KeptCells) where
  -- cells are added to a group that is there
  pub group_here : (old group : List KeptCells) → Some old ≡ lookup (is_at (account_cmp k)) groups → AreOrdered groups → group ≡ old ++ cells ∷ [] → set_value (is_at (account_cmp k)) groups group ≡ group_with groups (k, cells)
  group_here old group is ordered more =
      put_here account_total k groups [] old is ordered group (group_at k groups ++ cells ∷ [])
      (more ∙ ap (λ (g : List KeptCells). g ++ cells ∷ []) (sym (value_here account_total k groups [] old is)))

  -- a group is new
  pub group_new : (group : List KeptCells) → None ≡ lookup (is_at (account_cmp k)) groups → group ≡ cells ∷ [] → insert_entry account_cmp groups k group ≡ group_with groups (k, cells)
  group_new group is one =
      put_new account_total k groups [] group (group_at k groups ++ cells ∷ [])
      (one ∙ ap (λ (g : List KeptCells). g ++ cells ∷ []) (sym (value_none account_total k groups [] is)))
