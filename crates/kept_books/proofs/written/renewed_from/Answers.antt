use Rattle.std.proofs.Common.{◌-◌, sym, ◌∙◌, arith}
use Rattle.kept_books.proofs.Renewing.{get_form, get_front, get_rest, lent_of, lent_size}
use Rattle.kept_books.proofs.written.renewed_from.Goals as goal

pub returns-then-before : goal.returns-then-before
returns-then-before c =
    let first = c.requires in
    let size = lent_size c.args.former.now in
    c.lent_at.ensures ∙ sym (get_front c.args.first (lent_of c.args.former.now) (lent_of c.args.forms.now) c.args.number (omega arith) (omega (arith, first, size)))

pub returns-then-behind : goal.returns-then-behind
returns-then-behind c =
    let first = c.requires in
    let size = lent_size c.args.former.now in
    let forms = lent_size c.args.forms.now in
    c.lent_at-then-behind.ensures ∙ sym (get_rest c.args.first (lent_of c.args.former.now) (lent_of c.args.forms.now) c.args.number (omega (arith, forms)) (omega (arith, first, size)))

pub returns : goal.returns
returns c =
    let first = c.requires in
    let size = lent_size c.args.former.now in
    let forms = lent_size c.args.forms.now in
    c.lent_at-2.ensures ∙ sym (get_form c.args.first (lent_of c.args.former.now) (lent_of c.args.forms.now) (c.args.number - c.args.first) c.args.number (omega (arith, first, size)) (omega arith) (omega (arith, forms)))
