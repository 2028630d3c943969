use Rattle.std.proofs.Common.{◌≡◌, ◌<◌, ◌++◌, ◌∷◌, [], ℕ, List, find, Option, Some, sym, ap, subst, ◌∙◌, rules}
use Rattle.std.specs.Option.{option_copied}
use Rattle.counted_styles.specs.declared.mark.Mark.{Mark}
use Rattle.counted_styles.specs.Marks.{is_past}
use Rattle.counted_styles.proofs.Naming.{IsNaming, fewer-to-come, naming-begins, naming-done, naming-on, to_come}
use Rattle.counted_styles.proofs.symbols.put_symbols.Goals as goal

pub loop-next-init : goal.loop-next-init
loop-next-init c = naming-begins c.args.marks.now _ c.args.names.now.items c.first_mark-next.ensures.rises c.first_mark-next.ensures.mark

pub loop-next-preserved : goal.loop-next-preserved
loop-next-preserved c =
    let here : option_copied c.loop-next.next ≡ Some c.in-Some.mark.now = ap option_copied c.in-Some.is in
    let found : option_copied c.next_mark-next.result ≡ find (is_past c.in-Some.mark.now.symbol) c.args.marks.now = c.next_mark-next.ensures.mark ∙ ap (λ (q : List ℕ). find (is_past q) c.args.marks.now) c.as_bytes.ensures in
    let grown : c.push.new.self.items ≡ c.loop-next.names.items ++ c.in-Some.mark.now.symbol ∷ [] = search rules in
    naming-on c.args.marks.now c.in-Some.mark.now (option_copied c.next_mark-next.result) c.args.names.now.items c.loop-next.names.items c.push.new.self.items
    (subst (λ (o : Option Mark). IsNaming c.args.marks.now o c.args.names.now.items c.loop-next.names.items) here c.loop-next.invariant) found grown

pub loop-next-smaller : goal.loop-next-smaller
loop-next-smaller c =
    let here : option_copied c.loop-next.next ≡ Some c.in-Some.mark.now = ap option_copied c.in-Some.is in
    let found : option_copied c.next_mark-next.result ≡ find (is_past c.in-Some.mark.now.symbol) c.args.marks.now = c.next_mark-next.ensures.mark ∙ ap (λ (q : List ℕ). find (is_past q) c.args.marks.now) c.as_bytes.ensures in
    subst (λ (o : Option Mark). to_come (option_copied c.next_mark-next.result) c.args.marks.now < to_come o c.args.marks.now) (sym here)
    (fewer-to-come c.args.marks.now c.in-Some.mark.now (option_copied c.next_mark-next.result) found)

pub returns-clause-others : goal.returns-clause-others
returns-clause-others c = c.loop-next.invariant.others

pub returns-clause-named : goal.returns-clause-named
returns-clause-named c = naming-done c.args.marks.now (option_copied c.loop-next.next) c.args.names.now.items c.loop-next.names.items (ap option_copied c.in_default.is) c.loop-next.invariant
