-- The rows of a section, one after another.
use Rattle.std.proofs.Common.{◌≡◌, ℕ, ◌+◌, ◌<◌, Bool, cond, List, [], ◌∷◌, ◌++◌, length, get_or, map, filter, take, Option, refl, sym, ap, ◌∙◌}
use Rattle.std.proofs.lemmas.List.{map-append, take_more}
use Rattle.std.proofs.lemmas.List.Elements.{filter-append}
use Rattle.report_cells.specs.declared.cells.CellRow.{CellRow}
use Rattle.report_cells.specs.Report.{row_seen}
use Rattle.balance_rows.specs.Rows.{Row}
use Rattle.statements.specs.declared.statement.Part.{Part}
use Rattle.statements.specs.Chosen.{is_in, part_rows}
use Rattle.statements.specs.Described.{is_turned}
use Rattle.statements.specs.Turned.{row_shown}

module _ (own : List ℕ → Option ℕ) (part : Part) where
  rows-append : (xs ys : List Row) → part_rows own part (xs ++ ys) ≡ part_rows own part xs ++ part_rows own part ys
  rows-append xs ys =
      ap (map (row_shown (is_turned part))) (filter-append (is_in own part) xs ys)
      ∙ map-append (row_shown (is_turned part)) (filter (is_in own part) xs) (filter (is_in own part) ys)

  pub part_more : (rows now new : List CellRow) (i : ℕ) (row : CellRow) → i < length rows → row ≡ get_or rows i row
      → map row_seen now ≡ part_rows own part (map row_seen (take i rows))
      → map row_seen new ≡ map row_seen now ++ part_rows own part (row_seen row ∷ [])
      → map row_seen new ≡ part_rows own part (map row_seen (take (i + 1) rows))
  part_more rows now new i row within read was more =
      more ∙ ap (λ (t : List Row). t ++ part_rows own part (row_seen row ∷ [])) was
      ∙ sym (ap (λ (t : List CellRow). part_rows own part (map row_seen t)) (take_more rows i row within ∙ ap (λ (x : CellRow). take i rows ++ x ∷ []) (sym read))
      ∙ ap (part_rows own part) (map-append row_seen (take i rows) (row ∷ []))
      ∙ rows-append (map row_seen (take i rows)) (row_seen row ∷ []))
