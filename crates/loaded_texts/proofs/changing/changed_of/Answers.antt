use Rattle.std.proofs.Common.{◌≡◌, suc, ◌+◌, ◌<◌, ◌≤◌, List, length, take, sym, ap, subst, ◌∙◌, arith, length-take}
use Rattle.book.specs.Postings.{txns_of}
use Rattle.book.specs.declared.item.Placed.{Placed}
use Rattle.loaded_texts.specs.declared.changing.Changed.{Changed}
use Rattle.loaded_texts.proofs.changing.changed_of.Goals as goal

pub returns-clause-number : goal.returns-clause-number
returns-clause-number c = ap (λ (x : Changed). x.number) c.in_ok-boxed.ensures

pub returns-clause-met : goal.returns-clause-met
returns-clause-met c = ap (λ (x : Changed). x.met) c.in_ok-boxed.ensures

pub returns-clause-parts : goal.returns-clause-parts
returns-clause-parts c = ap (λ (x : Changed). x.parts) c.in_ok-boxed.ensures

pub returns-clause-first : goal.returns-clause-first
returns-clause-first c =
    let front = c.split_at.ensures.front ∙ ap (take c.args.number) c.as_slice.ensures in
    ap (λ (x : Changed). x.first) c.in_ok-boxed.ensures ∙ omega (arith, c.count_txns-first.ensures.count, ap (λ (xs : List Placed). length (txns_of xs)) front)
