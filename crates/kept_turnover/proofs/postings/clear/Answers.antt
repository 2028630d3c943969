use Rattle.std.proofs.Common.{◌≡◌, ◌∷◌, [], ◌==◌, ◌&&◌, ℕ, List, Option, Some, None, Vec, Global, unsigned_abs, string_bytes, sym, ap, subst, ◌∙◌, arith, rules}
use Rattle.std.proofs.lemmas.Map.Text.{btree_map_updates_text}
use Rattle.kept_turnover.proofs.Holding.{cleared}
use Rattle.kept_turnover.proofs.postings.clear.Goals as goal

pub returns : goal.returns
returns c =
    let old = c.args.symbols.now in
    let new = c.remove.new.self in
    let s = c.args.symbol.now in
    cleared old new s (btree_map_updates_text s old new None c.remove.ensures.updates) c.requires
