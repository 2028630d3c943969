use Rattle.std.proofs.Common.{List, sym, ap, ◌∙◌}
use Rattle.std.specs.List.{list_any}
use Rattle.std.specs.Str.{bytes_eq}
use Rattle.book.specs.declared.item.Placed.{Placed}
use Rattle.book_care.specs.Declarations.{declared_of}
use Rattle.book_care.specs.Names.{has}
use Rattle.book_care.proofs.Naming.{start_any}
use Rattle.book_care.proofs.declarations.Declared.new.Goals as goal

pub loop-placed-init : goal.loop-placed-init
loop-placed-init c =
    λ q. ap (λ (l : List Placed). list_any (bytes_eq q) (declared_of c.args.check l)) (sym c.as_slice-placed-items.ensures)
    ∙ start_any (list_any (bytes_eq q) (declared_of c.args.check c.as_slice-placed-items.result.now)) (has c.new-names.result q) (c.new-names.ensures q)
