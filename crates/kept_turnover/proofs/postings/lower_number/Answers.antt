use Rattle.std.proofs.Common.{◌≡◌, ◌∷◌, [], ◌==◌, ◌&&◌, ℕ, List, Option, Some, None, Vec, Global, unsigned_abs, string_bytes, sym, ap, subst, ◌∙◌, arith, rules}
use Rattle.std.proofs.lemmas.Map.Text.{btree_map_updates_text}
use Rattle.kept_turnover.specs.Keeping.{less_at}
use Rattle.kept_turnover.specs.declared.part.Part.{Part}
use Rattle.kept_turnover.proofs.Holding.{less_after, less_missing, part_there}
use Rattle.kept_turnover.proofs.postings.lower_number.Goals as goal

pub returns-in-Some : goal.returns-in-Some
returns-in-Some c =
    let old = c.args.symbols.now in
    let s = c.args.symbol.now in
    let d = c.args.number in
    let v = c.lower.new.parts in
    let new = c.get_mut.follows.lender v in
    less_after old new s v (btree_map_updates_text s old new (Some v) ((c.get_mut.follows.holds v).3 (search rules))) d
    (λ n. c.lower.ensures n ∙ ap (less_at (d.places == n) (unsigned_abs d.mantissa)) (sym (part_there old s c.in-Some.parts.now c.in-Some.ensures.value n)))

pub returns-in-None : goal.returns-in-None
returns-in-None c = less_missing c.args.symbols.now _ c.args.symbol.now c.args.number c.get_mut.follows.holds-at-none c.in-None.ensures.value
