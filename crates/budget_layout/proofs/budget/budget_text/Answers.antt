use Rattle.std.proofs.Common.{ℕ, List, [], ◌∷◌, ◌++◌, length, Option, refl, sym, ap, subst, ◌∙◌}
use Rattle.std.proofs.lemmas.Result.{err_from_is_err_and}
use Rattle.hl_base.specs.Ascii.{line_feed}
use Rattle.book.specs.Styles.{style_in}
use Rattle.report_table.specs.Tables.{head_line, lines_text, thick}
use Rattle.report_table.specs.declared.lines.TableLine.{TableLine}
use Rattle.report_table.specs.declared.lines.TableLine.TheVariants as table_line
use Rattle.balance_layouts.specs.Averages.{least}
use Rattle.balance_layouts.specs.Balance.{IsFault}
use Rattle.budget_layout.specs.Told.{told_by}
use Rattle.budget_layout.specs.Written.{outs}
use Rattle.budget_layout.proofs.Whole.{text_is}
use Rattle.budget_layout.proofs.budget.budget_text.Goals as goal

pub returns-clause-text : goal.returns-clause-text
returns-clause-text c =
    c.in_ok-titled_lines.ensures
    ∙ ap (λ (all : List TableLine). c.in_ok-title.title ++ (line_feed ∷ line_feed ∷ []) ++ lines_text c.len-count.result all) c.as_slice-2.ensures.value
    ∙ text_is c.args.layout.now (style_in c.args.styles.now) c.args.cells.columns c.as_slice-columns.result.now (told_by c.args.cells) (told_by c.args.goals)
    c.in_ok-title.title c.in_ok-heads.heads c.len-count.result (length c.as_slice-columns.result.now) c.in_ok-lines.lines.items c.push_body.new.lines.items
    c.as_slice-columns.ensures c.in_ok-title.ensures c.in_ok-heads.ensures c.len-count.ensures refl
    (c.in_ok-lines.ensures ∙ ap (λ (heads : List (List ℕ)). head_line heads ∷ table_line.Rule thick ∷ []) c.as_slice.ensures)
    c.in_ok-push_body.ensures.lines

pub returns-clause-told : goal.returns-clause-told
returns-clause-told c =
    sym (ap (λ (n : ℕ). least (outs c.args.layout.now n (style_in c.args.styles.now) (told_by c.args.cells) (told_by c.args.goals)))
    (ap length c.as_slice-columns.ensures))
    ∙ c.in_ok-push_body.ensures.told

pub returns-in_err-push_body-clause-fault : goal.returns-in_err-push_body-clause-fault
returns-in_err-push_body-clause-fault c =
    let same = ap (λ (n : ℕ). least (outs c.args.layout.now n (style_in c.args.styles.now) (told_by c.args.cells) (told_by c.args.goals)))
    (ap length c.as_slice-columns.ensures) in
    let p = err_from_is_err_and c.from_residual-in_err-push_body.result c.from_residual-in_err-push_body.ensures.1 in
    rw (p.1, p.2) (subst (λ (out : Option (List ℕ)). IsFault out c.in_err-push_body.field-0.0) same c.in_err-push_body.ensures.fault)
