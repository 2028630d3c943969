use Rattle.std.proofs.Common.{◌≡◌, cond, Some, None, sym, ap, rules}
use Rattle.std.specs.declared.cmp.Ordering.{Ordering}
use Rattle.std.specs.declared.cmp.Ordering.TheVariants.{Less, Equal, Greater}
use Rattle.std.specs.Ordering.{is_eq, nat_cmp}
use Rattle.std.specs.Cmp.Lexicographic.{slice_cmp}
use Rattle.counted_styles.proofs.mark.style_if.Goals as goal

pub returns-in-Equal : goal.returns-in-Equal
returns-in-Equal c =
    let order : slice_cmp nat_cmp c.args.symbol.now c.args.mark.now.symbol ≡ Equal = search rules in
    sym (ap (λ (r : Ordering). cond (is_eq r) (Some c.args.mark.now.style) None) order)

pub returns-in-Less : goal.returns-in-Less
returns-in-Less c =
    let order : slice_cmp nat_cmp c.args.symbol.now c.args.mark.now.symbol ≡ Less = search rules in
    sym (ap (λ (r : Ordering). cond (is_eq r) (Some c.args.mark.now.style) None) order)

pub returns-in-Greater : goal.returns-in-Greater
returns-in-Greater c =
    let order : slice_cmp nat_cmp c.args.symbol.now c.args.mark.now.symbol ≡ Greater = search rules in
    sym (ap (λ (r : Ordering). cond (is_eq r) (Some c.args.mark.now.style) None) order)
