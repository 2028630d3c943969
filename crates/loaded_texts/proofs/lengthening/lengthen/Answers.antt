use Rattle.std.proofs.Common.{◌≡◌, ◌+◌, ◌-◌, ◌<◌, ◌≤◌, List, length, map, take, drop, ◌++◌, sym, ap, subst, ◌∙◌, arith}
use Rattle.std.specs.List.{AllByRecursion}
use Rattle.std.proofs.lemmas.List.{with_items_is}
use Rattle.book.specs.declared.item.Placed.{Placed}
use Rattle.loaded_texts.specs.Growing.{lengthened}
use Rattle.loaded_texts.proofs.Lengths.{lengthened_is, tail_all}
use Rattle.loaded_texts.proofs.lengthening.lengthen.Goals as goal

pub lengthen_from-requires-clause-from : goal.lengthen_from-requires-clause-from
lengthen_from-requires-clause-from c = omega (arith, c.saturating_sub-from.ensures, c.len.ensures)

pub lengthen_from-requires-clause-room : goal.lengthen_from-requires-clause-room
lengthen_from-requires-clause-room c =
    let all : c.deref_mut.result.now ≡ c.args.items.now = c.deref_mut.ensures.value ∙ c.into_vec-all.ensures ∙ c.replace-list.ensures.value in
    let owned : c.into_vec-all.result.items ≡ c.args.items.now = c.into_vec-all.ensures ∙ c.replace-list.ensures.value in
    let from : c.saturating_sub-from.result ≡ length c.args.items.now - 1 = omega (arith, c.saturating_sub-from.ensures, c.len.ensures, ap length owned) in
    subst (λ (xs : List Placed). AllByRecursion (λ p. p.piece.len + c.args.more < 18446744073709551616) (drop c.saturating_sub-from.result xs)) (sym all)
    (tail_all (λ p. p.piece.len + c.args.more < 18446744073709551616) c.saturating_sub-from.result c.args.items.now from c.requires)

pub returns : goal.returns
returns c =
    let all : c.deref_mut.result.now ≡ c.args.items.now = c.deref_mut.ensures.value ∙ c.into_vec-all.ensures ∙ c.replace-list.ensures.value in
    let owned : c.into_vec-all.result.items ≡ c.args.items.now = c.into_vec-all.ensures ∙ c.replace-list.ensures.value in
    let from : c.saturating_sub-from.result ≡ length c.args.items.now - 1 = omega (arith, c.saturating_sub-from.ensures, c.len.ensures, ap length owned) in
    lengthened_is c.args.more c.saturating_sub-from.result c.args.items.now _ from
    (c.from_vec.ensures ∙ with_items_is c.into_vec-all.result c.lengthen_from.new.items (c.lengthen_from.auto.items ∙ c.deref_mut.ensures.len)
    ∙ c.lengthen_from.ensures ∙ (λ i. take c.saturating_sub-from.result (all i) ++ map (lengthened c.args.more) (drop c.saturating_sub-from.result (all i))))
