use Rattle.std.proofs.Common.{◌≡◌, ◌∷◌, [], ◌==◌, ◌&&◌, ℕ, List, Option, Some, None, Vec, Global, unsigned_abs, string_bytes, sym, ap, subst, ◌∙◌, arith, rules}
use Rattle.std.proofs.lemmas.Map.Text.{btree_map_updates_text}
use Rattle.entry_balance.proofs.Adding.{on_ok}
use Rattle.kept_turnover.specs.Keeping.{more_at}
use Rattle.kept_turnover.specs.declared.part.Part.{Part}
use Rattle.kept_turnover.proofs.Holding.{more_after, part_there}
use Rattle.kept_turnover.proofs.postings.add_number.Goals as goal

pub returns-in-Some : goal.returns-in-Some
returns-in-Some c =
    let old = c.args.symbols.now in
    let s = c.args.symbol.now in
    let d = c.args.number in
    let v = c.raise.new.parts in
    let new = c.get_mut.follows.lender v in
    on_ok c.raise.result
    (λ raised. more_after old new s v (btree_map_updates_text s old new (Some v) ((c.get_mut.follows.holds v).3 (search rules))) d
    (λ n. raised n ∙ ap (more_at (d.places == n) (unsigned_abs d.mantissa)) (sym (part_there old s c.in-Some.parts.now c.in-Some.ensures.value n))))
    c.raise.ensures
