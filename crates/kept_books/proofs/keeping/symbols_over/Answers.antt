use Rattle.std.proofs.Common.{◌∷◌, [], subst}
use Rattle.kept_books.specs.Renewing.{AreWithin}
use Rattle.kept_books.proofs.Gathered.{over_old}
use Rattle.kept_books.proofs.Renewing.{lent_of}
use Rattle.kept_books.proofs.keeping.symbols_over.Goals as goal

pub returns-then-among : goal.returns-then-among
returns-then-among c = over_old c.args.renewal.now c.args.old.now c.args.symbols c.requires.there c.requires.alone c.requires.both (subst (λ rs. AreWithin (c.args.old.now ∷ []) (lent_of rs)) c.as_slice.ensures.value (c.in_ok-among.ensures c.if-among.true))

pub returns-else-among : goal.returns-else-among
returns-else-among c = c.gathered.ensures
