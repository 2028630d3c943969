use Rattle.std.proofs.Common.{◌≡◌, List, ℕ, [], ◌∷◌, Some, None, sym, ap, subst, ◌∙◌}
use Rattle.std.specs.BTreeMap.{insert_entry, is_at}
use Rattle.std.specs.Map.{lookup, set_value}
use Rattle.book.specs.Accounts.{account_cmp}
use Rattle.balance_rows.specs.Groups.{AreOrdered, group_with}
use Rattle.balance_rows.proofs.GroupMaps.{on_ok, group_here, group_new}
use Rattle.balance_rows.proofs.GroupsLaws.{ordered_with}
use Rattle.balance_rows.proofs.groups.add_given.Goals as goal

pub returns-in-Some-clause-added : goal.returns-in-Some-clause-added
returns-in-Some-clause-added c =
    let groups = c.args.groups.now.entries in
    let key : c.in_ok-key.key ≡ c.args.account.now = c.in_ok-key.ensures in
    let is : Some c.in-Some.group.now ≡ lookup (is_at (account_cmp c.args.account.now)) groups =
    c.in-Some.ensures.value ∙ ap (λ (k : List ℕ). lookup (is_at (account_cmp k)) groups) key in
    on_ok c.push.result
    (λ (new : _). (c.get_mut.follows.holds c.push.new.self).0
    ∙ ap (λ (k : List ℕ). set_value (is_at (account_cmp k)) groups c.push.new.self) key
    ∙ group_here groups c.args.account.now c.args.cells.now c.in-Some.group.now c.push.new.self is c.requires new)
    c.push.ensures

pub returns-in-Some-clause-ordered : goal.returns-in-Some-clause-ordered
returns-in-Some-clause-ordered c =
    let groups = c.args.groups.now.entries in
    let key : c.in_ok-key.key ≡ c.args.account.now = c.in_ok-key.ensures in
    let is : Some c.in-Some.group.now ≡ lookup (is_at (account_cmp c.args.account.now)) groups =
    c.in-Some.ensures.value ∙ ap (λ (k : List ℕ). lookup (is_at (account_cmp k)) groups) key in
    on_ok c.push.result
    (λ (new : _). subst AreOrdered (sym ((c.get_mut.follows.holds c.push.new.self).0
    ∙ ap (λ (k : List ℕ). set_value (is_at (account_cmp k)) groups c.push.new.self) key
    ∙ group_here groups c.args.account.now c.args.cells.now c.in-Some.group.now c.push.new.self is c.requires new))
    (ordered_with groups (c.args.account.now, c.args.cells.now) c.requires))
    c.push.ensures

pub returns-clause-added : goal.returns-clause-added
returns-clause-added c =
    let groups = c.args.groups.now.entries in
    let key : c.in_ok-key.key ≡ c.args.account.now = c.in_ok-key.ensures in
    let is : None ≡ lookup (is_at (account_cmp c.args.account.now)) groups =
    c.in_default.ensures.value ∙ ap (λ (k : List ℕ). lookup (is_at (account_cmp k)) groups) key in
    c.in_ok-insert.ensures.entries
    ∙ ap (λ (m : _). insert_entry account_cmp m.entries c.in_ok-key.key c.in_ok-group.group) c.get_mut.follows.holds-at-none
    ∙ ap (λ (k : List ℕ). insert_entry account_cmp groups k c.in_ok-group.group) key
    ∙ group_new groups c.args.account.now c.args.cells.now c.in_ok-group.group is c.in_ok-group.ensures

pub returns-clause-ordered : goal.returns-clause-ordered
returns-clause-ordered c =
    let groups = c.args.groups.now.entries in
    let key : c.in_ok-key.key ≡ c.args.account.now = c.in_ok-key.ensures in
    let is : None ≡ lookup (is_at (account_cmp c.args.account.now)) groups =
    c.in_default.ensures.value ∙ ap (λ (k : List ℕ). lookup (is_at (account_cmp k)) groups) key in
    subst AreOrdered (sym (c.in_ok-insert.ensures.entries
    ∙ ap (λ (m : _). insert_entry account_cmp m.entries c.in_ok-key.key c.in_ok-group.group) c.get_mut.follows.holds-at-none
    ∙ ap (λ (k : List ℕ). insert_entry account_cmp groups k c.in_ok-group.group) key
    ∙ group_new groups c.args.account.now c.args.cells.now c.in_ok-group.group is c.in_ok-group.ensures))
    (ordered_with groups (c.args.account.now, c.args.cells.now) c.requires)
