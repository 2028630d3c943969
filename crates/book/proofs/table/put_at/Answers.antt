use Rattle.std.proofs.Common.{set, Result, Ok, Err, ap, ◌∙◌}
use Rattle.std.specs.Prelude.{OnOk}
use Rattle.book.specs.declared.style.Style.{Style}
use Rattle.book.specs.Standing.{Numbered}
use Rattle.book.proofs.Tables.{noted-at}
use Rattle.book.proofs.table.put_at.Goals as goal

on_ok : {X E : Type 0} (r : Result X E) {P Q : Type 0} → (P → Q) → OnOk r P → OnOk r Q
on_ok (Ok x) f p = f p
on_ok (Err e) f p = p

pub returns-clause-ok : goal.returns-clause-ok
returns-clause-ok c =
    on_ok c.put.result
    (λ (put : _). ap (λ (m : Numbered Style). set c.args.entries.now.items c.args.at (c.index_mut.result.now.0, m)) put
    ∙ noted-at c.args.entries.now.items c.args.symbol.now c.args.at c.index_mut.result.now c.args.number c.args.style c.requires.rising c.requires.place c.index_mut.ensures.value)
    c.put.ensures.ok
