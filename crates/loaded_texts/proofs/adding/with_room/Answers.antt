use Rattle.std.proofs.Common.{◌≡◌, ◌+◌, ◌≤◌, length, ap, sym, subst, ◌∙◌, arith}
use Rattle.loaded_texts.specs.Ways.{HasRoom}
use Rattle.loaded_texts.specs.declared.adding.Addition.{Addition}
use Rattle.loaded_texts.proofs.adding.with_room.Goals as goal

pub returns-clause-grown : goal.returns-clause-grown
returns-clause-grown c = ap (λ (a : Addition). a.grown) c.in_ok-boxed.ensures

pub returns-clause-parts : goal.returns-clause-parts
returns-clause-parts c = ap (λ (a : Addition). a.parts) c.in_ok-boxed.ensures

pub returns-clause-room : goal.returns-clause-room
returns-clause-room c =
    subst (HasRoom c.args.loaded.now.items c.args.loaded.now.book.txns) (sym c.in_ok-boxed.ensures)
    (record {
      item_room = omega (arith, c.in_ok-item_room.ensures, c.len.ensures, c.len-2.ensures);
      txn_room = omega (arith, c.in_ok-txn_room.ensures, c.len-3.ensures, c.len-4.ensures, c.args.parts.vacants.ok.0);
    })
