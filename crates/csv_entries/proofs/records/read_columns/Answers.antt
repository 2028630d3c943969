use Rattle.std.proofs.Common.{Bor, List, ℕ, sym, ap, ◌∙◌, ◌++◌, ◌∷◌, [], map, option_map}
use Rattle.csv.specs.Records.{fields_of}
use Rattle.csv_entries.specs.Spaces.{stripped}
use Rattle.csv_entries.proofs.RowTexts.{next_column}
use Rattle.csv_entries.proofs.records.read_columns.Goals as goal

pub loop-i-preserved : goal.loop-i-preserved
loop-i-preserved c =
    next_column (map stripped (fields_of c.args.row.now)) c.loop-i.columns.items c.push.new.self.items (fields_of c.args.row.now) c.loop-i.i c.in-Some.column.now
    c.loop-i.invariant (sym c.get.ensures.value ∙ ap (option_map (λ (s : Bor (List ℕ)). s.now)) c.in-Some.is)
    (c.in_ok-push-in-Some.ensures.items ∙ ap (λ x. c.loop-i.columns.items ++ x ∷ []) (c.in_ok-text_of-in-Some.ensures ∙ c.stripped.ensures.value))
