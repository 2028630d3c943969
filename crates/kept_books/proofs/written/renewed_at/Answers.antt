use Rattle.std.proofs.Common.{◌≡◌, ℕ, min, length, slice_get, ap, ◌∙◌, arith}
use Rattle.kept_books.specs.Renewing.{renewed}
use Rattle.kept_books.proofs.Renewing.{lent_of}
use Rattle.kept_books.proofs.written.renewed_at.Goals as goal

pub renewed_from-requires : goal.renewed_from-requires
renewed_from-requires c = omega arith

pub returns : goal.returns
returns c =
    let start : c.lesser-start.result ≡ min c.args.first (length c.args.former.now) = omega arith in
    c.renewed_from.ensures ∙ ap (λ (n : ℕ). slice_get (renewed n (lent_of c.args.former.now) (lent_of c.args.forms.now)) c.args.number) start
