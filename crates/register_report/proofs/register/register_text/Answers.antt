use Rattle.std.proofs.Common.{[], sym, subst, ap, ◌∙◌}
use Rattle.book.specs.Styles.{style_in}
use Rattle.report_cells.specs.Kept.{Cell}
use Rattle.register_report.specs.Summed.{SumsFit, summed}
use Rattle.register_report.proofs.Counting.{earlier_fit, shown_fit, register_is}
use Rattle.register_report.proofs.register.register_text.Goals as goal

pub sums_of-requires : goal.sums_of-requires
sums_of-requires c =
    subst (SumsFit []) (sym c.split_at.ensures.front) (earlier_fit c.args.takings.now c.in_ok-check_range.ensures.fits c.in_ok-check_range.ensures.few _)

pub push_postings-requires : goal.push_postings-requires
push_postings-requires c =
    let ts = c.args.takings.now in
    subst (λ (m : Cell). SumsFit m c.split_at.result.1.now) (sym (c.in_ok-sums.ensures ∙ ap (summed []) c.split_at.ensures.front))
    (subst (SumsFit _) (sym c.split_at.ensures.back) (shown_fit ts c.in_ok-check_range.ensures.fits c.in_ok-check_range.ensures.few _))

pub returns-clause-text : goal.returns-clause-text
returns-clause-text c =
    register_is c.args.takings.now c.in_ok-check_range.ensures.fits c.in_ok-check_range.ensures.few _ (style_in c.args.styles.now) c.args.heads.now
    c.split_at.result.0.now c.split_at.result.1.now c.in_ok-sums.sums _ c.push_postings.new.out.items _
    c.opening.ensures c.split_at.ensures.front c.split_at.ensures.back c.in_ok-sums.ensures c.new-out.ensures.items
    c.in_ok-push_postings.ensures c.from_vec.ensures
