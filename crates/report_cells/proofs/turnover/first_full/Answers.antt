use Rattle.std.proofs.Common.{◌≡◌, ℕ, List, ◌∷◌, ◌++◌, find, Some, sym, ap, ◌∙◌}
use Rattle.std.specs.Option.{option_map}
use Rattle.std.proofs.lemmas.Map.Iter.{rest_more, rest_so_far}
use Rattle.report_cells.specs.Turned.{is_full}
use Rattle.report_cells.proofs.Walking.{whole, find-first, find-push}
use Rattle.report_cells.proofs.turnover.first_full.Goals as goal

pub returns-then-is_full : goal.returns-then-is_full
returns-then-is_full c =
    let all = c.args.kept.entries in
    let e : List ℕ × (ℕ × ℕ) = (c.in-Some.key, c.in-Some.turnover) in
    let so_far = rest_so_far (λ (p : List ℕ × (ℕ × ℕ)). p) c.loop-key.yielded c.into_iter-key-iterator.result c.loop-key.key-iterator c.loop-key.yielded_by in
    let next = rest_more (λ (p : List ℕ × (ℕ × ℕ)). p) c.loop-key.key-iterator c.next.new.self c.next.result e c.in-Some.is c.next.ensures.steps in
    let is : all ≡ c.loop-key.yielded ++ e ∷ c.next.new.self = whole all c.into_iter-key-iterator.result c.loop-key.yielded c.loop-key.key-iterator e c.next.new.self c.into_iter-key-iterator.ensures.into_iter_gives.0 so_far next in
    let found = find-first (λ (e : List ℕ × (ℕ × ℕ)). is_full e.1) c.loop-key.yielded e c.next.new.self c.loop-key.invariant (sym c.is_full.ensures ∙ c.if-is_full.true) in
    ap (λ (s : List ℕ). Some s) c.symbol.ensures
    ∙ sym (ap (option_map (λ (e : List ℕ × (ℕ × ℕ)). e.0)) (ap (find (λ (e : List ℕ × (ℕ × ℕ)). is_full e.1)) is ∙ found))

pub loop-key-preserved : goal.loop-key-preserved
loop-key-preserved c = find-push (λ (e : List ℕ × (ℕ × ℕ)). is_full e.1) c.loop-key.yielded (c.in-Some.key, c.in-Some.turnover) c.loop-key.invariant (sym c.is_full.ensures ∙ c.if-is_full.false)
