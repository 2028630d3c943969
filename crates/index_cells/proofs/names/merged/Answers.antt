use Rattle.std.proofs.Common.{◌≡◌, ◌++◌, List, map, None, sym, ap, subst, ◌∙◌}
use Rattle.std.specs.List.{AllByRecursion}
use Rattle.report_cells.specs.Taken.{Taken}
use Rattle.index_cells.specs.Named.{only}
use Rattle.index_cells.proofs.Merging.{both_if, only_names}
use Rattle.index_cells.proofs.names.merged.Goals as goal

pub names_of-requires : goal.names_of-requires
names_of-requires c =
    let all : c.deref.result.now ≡ map only c.args.names.now ++ map only c.args.more.now =
    c.deref.ensures.value ∙ c.in_ok-push_names-2.ensures ∙ ap (λ (ts : List Taken). ts ++ map only c.args.more.now) (c.in_ok-push_names.ensures ∙ ap (λ (ts : List Taken). ts ++ map only c.args.names.now) c.new-others.ensures.items) in
    subst (AllByRecursion (λ (t : Taken). t.amount ≡ None)) (sym all) (only_names c.args.names.now c.args.more.now)

pub returns : goal.returns
returns c =
    let all : c.deref.result.now ≡ map only c.args.names.now ++ map only c.args.more.now =
    c.deref.ensures.value ∙ c.in_ok-push_names-2.ensures ∙ ap (λ (ts : List Taken). ts ++ map only c.args.more.now) (c.in_ok-push_names.ensures ∙ ap (λ (ts : List Taken). ts ++ map only c.args.names.now) c.new-others.ensures.items) in
    both_if c.names_of.result c.args.names.now c.args.more.now c.deref.result.now all c.names_of.ensures
