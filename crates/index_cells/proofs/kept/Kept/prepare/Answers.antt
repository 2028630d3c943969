use Rattle.std.proofs.Common.{List, sym, subst, ◌∙◌}
use Rattle.report_cells.specs.Taken.{Taken}
use Rattle.index_cells.specs.Exchange.{CanBecome, IsExchange}
use Rattle.index_cells.specs.Posted.{posted_in}
use Rattle.index_cells.specs.Staying.{no_name_goes}
use Rattle.index_cells.proofs.Only.{names_put}
use Rattle.index_cells.proofs.Swapping.{becomes}
use Rattle.index_cells.proofs.kept.Kept.prepare.Goals as goal

pub returns-clause-keeps : goal.returns-clause-keeps
returns-clause-keeps c = λ before after can.
    let gone = c.deref.ensures.value ∙ c.in_ok-gone.ensures in
    let more = c.deref-2.ensures.value ∙ c.in_ok-more.ensures in
    becomes (posted_in before) c.deref.result.now c.deref-2.result.now (posted_in after) c.args.self.now
    (subst (λ (ts : List Taken). CanBecome c.args.self.now (posted_in before) ts c.deref-2.result.now (posted_in after)) (sym gone)
    (subst (λ (ts : List Taken). CanBecome c.args.self.now (posted_in before) (posted_in c.args.gone.now) ts (posted_in after)) (sym more) can))
    c.in_ok-changed.changed c.in_ok-changed.ensures.made

pub returns-clause-still : goal.returns-clause-still
returns-clause-still c =
    let gone = c.deref.ensures.value ∙ c.in_ok-gone.ensures in
    let more = c.deref-2.ensures.value ∙ c.in_ok-more.ensures in
    c.in_ok-changed.ensures.made.still ∙ (λ i. no_name_goes c.args.self.now (gone i) (more i))

pub returns-clause-names : goal.returns-clause-names
returns-clause-names c = λ before after can stay names.
    let gone = c.deref.ensures.value ∙ c.in_ok-gone.ensures in
    let more = c.deref-2.ensures.value ∙ c.in_ok-more.ensures in
    names_put (posted_in before) c.deref.result.now c.deref-2.result.now (posted_in after) c.args.self.now c.in_ok-changed.changed c.in_ok-changed.ensures.made
    (subst (λ (ts : List Taken). IsExchange (posted_in before) ts c.deref-2.result.now (posted_in after)) (sym gone)
    (subst (λ (ts : List Taken). IsExchange (posted_in before) (posted_in c.args.gone.now) ts (posted_in after)) (sym more) can.exchange))
    stay names
