use Rattle.std.proofs.Common.{◌≡◌, ℕ, List, Some, None, sym, ap, ◌∙◌}
use Rattle.std.specs.BTreeMap.{insert_entry, is_at}
use Rattle.std.specs.Map.{lookup, set_value}
use Rattle.std.specs.Ordering.{nat_cmp}
use Rattle.std.specs.Cmp.Lexicographic.{slice_cmp, nat_list_cmp_total}
use Rattle.report_cells.specs.Taken.{Shared}
use Rattle.report_cells.specs.Turned.{is_full, turned}
use Rattle.report_cells.proofs.Keeping.{value_here, put_here, value_none, put_new}
use Rattle.report_cells.proofs.turnover.note_share.Goals as goal

pub returns-in-Some-clause-new : goal.returns-in-Some-clause-new
returns-in-Some-clause-new c =
    let kept = c.args.kept.now.entries in
    let share = c.args.share.now in
    let keyed : c.new.result ≡ share.0 = c.new.ensures ∙ ap (λ (s : Shared). s.0) c.share.view_is in
    let value : c.share.inside.value ≡ share.1 = ap (λ (s : Shared). s.1) c.share.view_is in
    let is : Some c.in-Some.turnover.now ≡ lookup (is_at (slice_cmp nat_cmp share.0)) kept =
    c.in-Some.ensures.value ∙ ap (λ (k : List ℕ). lookup (is_at (slice_cmp nat_cmp k)) kept) keyed in
    let here = value_here nat_list_cmp_total share.0 kept (0, 0) c.in-Some.turnover.now is in
    (c.get_mut.follows.holds c.add.new.self).0
    ∙ ap (λ (k : List ℕ). set_value (is_at (slice_cmp nat_cmp k)) kept c.add.new.self) keyed
    ∙ put_here nat_list_cmp_total share.0 kept (0, 0) c.in-Some.turnover.now is c.requires c.add.new.self _
    (c.add.ensures ∙ ap (turned c.in-Some.turnover.now) value ∙ ap (λ (t : ℕ × ℕ). turned t share.1) (sym here))

pub returns-clause-new : goal.returns-clause-new
returns-clause-new c =
    let kept = c.args.kept.now.entries in
    let share = c.args.share.now in
    let keyed : c.new.result ≡ share.0 = c.new.ensures ∙ ap (λ (s : Shared). s.0) c.share.view_is in
    let keyed_again : c.new-2.result ≡ share.0 = c.new-2.ensures ∙ ap (λ (s : Shared). s.0) c.share.view_is in
    let value : c.share.inside.value ≡ share.1 = ap (λ (s : Shared). s.1) c.share.view_is in
    let is : None ≡ lookup (is_at (slice_cmp nat_cmp share.0)) kept =
    c.in_default.ensures.value ∙ ap (λ (k : List ℕ). lookup (is_at (slice_cmp nat_cmp k)) kept) keyed in
    let empty = value_none nat_list_cmp_total share.0 kept (0, 0) is in
    c.in_ok-insert.ensures.entries
    ∙ ap (λ (m : _). insert_entry (slice_cmp nat_cmp) m.entries c.new-2.result c.add-2.new.self) c.get_mut.follows.holds-at-none
    ∙ ap (λ (k : List ℕ). insert_entry (slice_cmp nat_cmp) kept k c.add-2.new.self) keyed_again
    ∙ put_new nat_list_cmp_total share.0 kept (0, 0) c.add-2.new.self _
    (c.add-2.ensures ∙ ap (λ (t : ℕ × ℕ). turned t c.share.inside.value) (c.none-turnover.ensures ∙ sym empty) ∙ ap (turned _) value)

pub returns-in-Some-clause-fills : goal.returns-in-Some-clause-fills
returns-in-Some-clause-fills c =
    let kept = c.args.kept.now.entries in
    let share = c.args.share.now in
    let keyed : c.new.result ≡ share.0 = c.new.ensures ∙ ap (λ (s : Shared). s.0) c.share.view_is in
    let value : c.share.inside.value ≡ share.1 = ap (λ (s : Shared). s.1) c.share.view_is in
    let is : Some c.in-Some.turnover.now ≡ lookup (is_at (slice_cmp nat_cmp share.0)) kept =
    c.in-Some.ensures.value ∙ ap (λ (k : List ℕ). lookup (is_at (slice_cmp nat_cmp k)) kept) keyed in
    let here = value_here nat_list_cmp_total share.0 kept (0, 0) c.in-Some.turnover.now is in
    c.is_full.ensures
    ∙ ap is_full (c.add.ensures ∙ ap (turned c.in-Some.turnover.now) value ∙ ap (λ (t : ℕ × ℕ). turned t share.1) (sym here))

pub returns-clause-fills : goal.returns-clause-fills
returns-clause-fills c =
    let kept = c.args.kept.now.entries in
    let share = c.args.share.now in
    let keyed : c.new.result ≡ share.0 = c.new.ensures ∙ ap (λ (s : Shared). s.0) c.share.view_is in
    let value : c.share.inside.value ≡ share.1 = ap (λ (s : Shared). s.1) c.share.view_is in
    let is : None ≡ lookup (is_at (slice_cmp nat_cmp share.0)) kept =
    c.in_default.ensures.value ∙ ap (λ (k : List ℕ). lookup (is_at (slice_cmp nat_cmp k)) kept) keyed in
    let empty = value_none nat_list_cmp_total share.0 kept (0, 0) is in
    c.is_full-full.ensures
    ∙ ap is_full (c.add-2.ensures ∙ ap (λ (t : ℕ × ℕ). turned t c.share.inside.value) (c.none-turnover.ensures ∙ sym empty) ∙ ap (turned _) value)
