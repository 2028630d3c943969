use Rattle.std.proofs.Common.{◌≡◌, ℕ, List, [], replicate, Option, Some, None, sym, ap, subst, ◌∙◌}
use Rattle.std.specs.BTreeMap.{insert_entry, is_at}
use Rattle.std.specs.Map.{lookup, set_value}
use Rattle.book.specs.Accounts.{account_cmp}
use Rattle.book.proofs.Accounts.{account_total}
use Rattle.report_cells.specs.Taken.{Shared, Taken}
use Rattle.report_cells.specs.Kept.{PlacedFits, with_placed, row_at}
use Rattle.report_cells.proofs.Keeping.{value_here, put_here, value_none, put_new}
use Rattle.report_cells.proofs.Walking.{on_ok}
use Rattle.report_cells.proofs.gather.add_taking.Goals as goal

pub add-requires : goal.add-requires
add-requires c =
    let rows = c.args.rows.now.entries in
    let t = c.args.taking.now in
    let keyed : c.new.result ≡ t.account = c.new.ensures ∙ ap (λ (t : Taken). t.account) c.taking.view_is in
    let amount : c.taking.inside.amount ≡ t.amount = ap (λ (t : Taken). t.amount) c.taking.view_is in
    let is : Some c.in-Some.row.now ≡ lookup (is_at (account_cmp t.account)) rows =
    c.in-Some.ensures.value ∙ ap (λ (k : List ℕ). lookup (is_at (account_cmp k)) rows) keyed in
    let here = value_here account_total t.account rows (replicate c.args.width []) c.in-Some.row.now is in
    subst (λ (a : Option Shared). PlacedFits c.args.place a c.in-Some.row.now) (sym amount) (subst (PlacedFits c.args.place t.amount) here c.requires.fits)

pub returns-in-Some : goal.returns-in-Some
returns-in-Some c =
    let rows = c.args.rows.now.entries in
    let t = c.args.taking.now in
    let keyed : c.new.result ≡ t.account = c.new.ensures ∙ ap (λ (t : Taken). t.account) c.taking.view_is in
    let amount : c.taking.inside.amount ≡ t.amount = ap (λ (t : Taken). t.amount) c.taking.view_is in
    let is : Some c.in-Some.row.now ≡ lookup (is_at (account_cmp t.account)) rows =
    c.in-Some.ensures.value ∙ ap (λ (k : List ℕ). lookup (is_at (account_cmp k)) rows) keyed in
    let here = value_here account_total t.account rows (replicate c.args.width []) c.in-Some.row.now is in
    on_ok c.add.result
    (λ (new : _). (c.get_mut.follows.holds c.add.new.self).0
    ∙ ap (λ (k : List ℕ). set_value (is_at (account_cmp k)) rows c.add.new.self) keyed
    ∙ put_here account_total t.account rows (replicate c.args.width []) c.in-Some.row.now is c.requires.ordered c.add.new.self (with_placed c.args.place t.amount (row_at c.args.width t.account rows))
    (new ∙ ap (λ (a : Option Shared). with_placed c.args.place a c.in-Some.row.now) amount ∙ ap (with_placed c.args.place t.amount) (sym here)))
    c.add.ensures

pub add-requires-2 : goal.add-requires-2
add-requires-2 c =
    let rows = c.args.rows.now.entries in
    let t = c.args.taking.now in
    let keyed : c.new.result ≡ t.account = c.new.ensures ∙ ap (λ (t : Taken). t.account) c.taking.view_is in
    let amount : c.taking.inside.amount ≡ t.amount = ap (λ (t : Taken). t.amount) c.taking.view_is in
    let is : None ≡ lookup (is_at (account_cmp t.account)) rows =
    c.in_default.ensures.value ∙ ap (λ (k : List ℕ). lookup (is_at (account_cmp k)) rows) keyed in
    let empty = value_none account_total t.account rows (replicate c.args.width []) is in
    subst (λ (a : Option Shared). PlacedFits c.args.place a c.in_ok-row.row) (sym amount)
    (subst (PlacedFits c.args.place t.amount) (empty ∙ sym c.in_ok-row.ensures) c.requires.fits)

pub returns : goal.returns
returns c =
    let rows = c.args.rows.now.entries in
    let t = c.args.taking.now in
    let keyed : c.new.result ≡ t.account = c.new.ensures ∙ ap (λ (t : Taken). t.account) c.taking.view_is in
    let keyed_again : c.new-2.result ≡ t.account = c.new-2.ensures ∙ ap (λ (t : Taken). t.account) c.taking.view_is in
    let amount : c.taking.inside.amount ≡ t.amount = ap (λ (t : Taken). t.amount) c.taking.view_is in
    let is : None ≡ lookup (is_at (account_cmp t.account)) rows =
    c.in_default.ensures.value ∙ ap (λ (k : List ℕ). lookup (is_at (account_cmp k)) rows) keyed in
    let empty = value_none account_total t.account rows (replicate c.args.width []) is in
    let new : c.add-2.new.self ≡ with_placed c.args.place t.amount (row_at c.args.width t.account rows) =
    c.in_ok-add.ensures
    ∙ ap (with_placed c.args.place c.taking.inside.amount) (c.in_ok-row.ensures ∙ sym empty)
    ∙ ap (λ (a : Option Shared). with_placed c.args.place a (row_at c.args.width t.account rows)) amount in
    c.in_ok-insert.ensures.entries
    ∙ ap (λ (m : _). insert_entry account_cmp m.entries c.new-2.result c.add-2.new.self) c.get_mut.follows.holds-at-none
    ∙ ap (λ (k : List ℕ). insert_entry account_cmp rows k c.add-2.new.self) keyed_again
    ∙ put_new account_total t.account rows (replicate c.args.width []) c.add-2.new.self (with_placed c.args.place t.amount (row_at c.args.width t.account rows)) new
