use Rattle.std.proofs.Common.{◌≡◌, ◌∷◌, [], ◌==◌, ◌&&◌, ℕ, List, Option, Some, None, Vec, Global, unsigned_abs, string_bytes, sym, ap, subst, ◌∙◌, arith, rules}
use Rattle.std.specs.BTreeMap.{get_by_text}
use Rattle.std.specs.Option.{option_map_or}
use Rattle.std.proofs.lemmas.Map.Text.{btree_map_updates_text}
use Rattle.kept_turnover.specs.Keeping.{HasMore, more_at}
use Rattle.kept_turnover.specs.declared.part.Part.{Part}
use Rattle.kept_turnover.proofs.Holding.{more_after, part_missing}
use Rattle.kept_turnover.proofs.postings.put_first.Goals as goal

pub returns : goal.returns
returns c =
    let old = c.args.symbols.now in
    let new = c.insert.new.self in
    let s = string_bytes c.in_ok-name.name in
    let d = c.args.number in
    let v = c.in_ok-parts.parts in
    let none : None ≡ get_by_text old s = sym c.requires ∙ ap (get_by_text old) (sym c.in_ok-name.ensures.ok) in
    subst (λ (k : List ℕ). HasMore k d old new) c.in_ok-name.ensures.ok
    (more_after old new s v (btree_map_updates_text s old new (Some v) c.in_ok-insert.ensures.updates) d
    (λ n. c.in_ok-parts.ensures n ∙ ap (more_at (d.places == n) (unsigned_abs d.mantissa)) (sym (part_missing old s none n))))
