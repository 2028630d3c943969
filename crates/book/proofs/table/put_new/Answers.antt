use Rattle.std.proofs.Common.{◌≡◌, ℕ, [], List, ap, ◌∙◌}
use Rattle.std.specs.List.{insert}
use Rattle.book.specs.declared.style.Style.{Style}
use Rattle.book.specs.Standing.{Numbered, with_number}
use Rattle.book.proofs.Tables.{noted-gap}
use Rattle.book.proofs.table.put_new.Goals as goal

pub returns-clause-ok : goal.returns-clause-ok
returns-clause-ok c =
    let copied : c.in_ok-symbol.symbol ≡ c.args.symbol.now = c.in_ok-symbol.ensures ∙ c.as_str.ensures in
    let put : c.put.new.self ≡ with_number c.args.number c.args.style [] = c.in_ok-put.ensures.ok ∙ ap (λ (m : Numbered Style). with_number c.args.number c.args.style m) c.new-marks.ensures in
    c.in_ok-insert.ensures.items
    ∙ ap (λ (x : List ℕ). insert c.args.entries.now.items c.args.at (x, c.put.new.self)) copied
    ∙ ap (λ (m : Numbered Style). insert c.args.entries.now.items c.args.at (c.args.symbol.now, m)) put
    ∙ noted-gap c.args.entries.now.items c.args.symbol.now c.args.at c.args.number c.args.style c.requires.gap
