use Rattle.std.proofs.Common.{◌≡◌, Bool, ◌&&◌, map, sym, ap, subst, ◌∙◌}
use Rattle.std.specs.List.{list_all}
use Rattle.report_cells.specs.Report.{accounts_in}
use Rattle.index_cells.specs.Keys.{AreInOrder, is_in}
use Rattle.index_cells.specs.Named.{by_symbols, named}
use Rattle.index_cells.specs.Staying.{are_kept}
use Rattle.index_cells.proofs.staying.no_name_goes.Goals as goal

pub are_named-accounts_stay-requires : goal.are_named-accounts_stay-requires
are_named-accounts_stay-requires c = subst AreInOrder (sym c.as_slice.ensures) c.requires.accounts

pub are_named-symbols_stay-requires : goal.are_named-symbols_stay-requires
are_named-symbols_stay-requires c = subst AreInOrder (sym c.as_slice-3.ensures) c.requires.symbols

pub returns-then-not-replaced : goal.returns-then-not-replaced
returns-then-not-replaced c =
    let kept = c.args.kept.now in
    let gone = c.args.gone.now in
    sym (ap (λ (b : Bool). b && (are_kept (accounts_in (map named gone)) kept.accounts && are_kept (accounts_in (by_symbols gone)) kept.symbols))
    (sym c.are_replaced-replaced.ensures ∙ c.if-not-replaced.true))

pub returns-then-not-accounts_stay : goal.returns-then-not-accounts_stay
returns-then-not-accounts_stay c =
    let kept = c.args.kept.now in
    let gone = c.args.gone.now in
    let accounts : c.are_named-accounts_stay.result ≡ are_kept (accounts_in (map named gone)) kept.accounts =
    c.are_named-accounts_stay.ensures ∙ (λ i. list_all (λ name. is_in name (c.as_slice.ensures i)) ((c.as_slice-2.ensures ∙ c.in_ok-accounts.ensures) i)) in
    sym (λ i. (sym c.are_replaced-replaced.ensures ∙ c.if-not-replaced.false) i && ((sym accounts ∙ c.if-not-accounts_stay.true) i && are_kept (accounts_in (by_symbols gone)) kept.symbols))

pub returns : goal.returns
returns c =
    let kept = c.args.kept.now in
    let gone = c.args.gone.now in
    let accounts : c.are_named-accounts_stay.result ≡ are_kept (accounts_in (map named gone)) kept.accounts =
    c.are_named-accounts_stay.ensures ∙ (λ i. list_all (λ name. is_in name (c.as_slice.ensures i)) ((c.as_slice-2.ensures ∙ c.in_ok-accounts.ensures) i)) in
    let symbols : c.are_named-symbols_stay.result ≡ are_kept (accounts_in (by_symbols gone)) kept.symbols =
    c.are_named-symbols_stay.ensures ∙ (λ i. list_all (λ name. is_in name (c.as_slice-3.ensures i)) ((c.as_slice-4.ensures ∙ c.in_ok-symbols.ensures) i)) in
    sym (λ i. (sym c.are_replaced-replaced.ensures ∙ c.if-not-replaced.false) i && ((sym accounts ∙ c.if-not-accounts_stay.false) i && sym symbols i))
