-- What becomes of the file of an import.
use Rattle.std.proofs.Common.{◌≡◌, inl, inr, ℕ, ◌+◌, List, [], ◌∷◌, ◌++◌, map, length, Option, Some, None, IfSome, Result, Ok, Err, refl, sym, ap, subst, ◌∙◌, arith}
use Rattle.book.specs.declared.transaction.Txn.{Txn}
use Rattle.query.specs.Building.{IsOneOf}
use Rattle.query.proofs.Alike.{known_alike}
use Rattle.query_terms.specs.Readings.{known_by}
use Rattle.query_terms.specs.Sought.{known_of}
use Rattle.csv_rules.specs.Building.{form_sources, sheet_sources}
use Rattle.csv_rules.specs.Drafts.{Progress, put, start}
use Rattle.csv_rules.specs.Forms.{form_of}
use Rattle.csv_rules.specs.Reading.{IsRefusedLine, IsRulesOf, Reads, or_line, read_from, rules_of}
use Rattle.csv_rules.specs.declared.faults.RulesFault.{RulesFault}
use Rattle.csv_rules.specs.declared.faults.RulesFault.TheVariants as rules_fault
use Rattle.csv_rules.specs.declared.forms.Form.{Form}
use Rattle.csv_rules.specs.declared.kinds.Sheet.{Sheet}
use Rattle.csv_rules.specs.declared.reading.Rules.{Rules}
use Rattle.csv_rules.proofs.Built.{only_source}
use Rattle.csv_entries.specs.Conversion.{cause_in, conversion_by}
use Rattle.csv_entries.specs.declared.faults.ConvertFault.{ConvertFault}
use Rattle.csv_entries.specs.declared.faults.ConvertFault.TheVariants as convert_fault
use Rattle.desk.specs.declared.csv_fault.CsvFault.TheVariants as csv_fault
use Rattle.desk.specs.declared.reply.Reply.{Reply}
use Rattle.desk.specs.declared.reply.Reply.TheVariants as reply
use Rattle.desk.specs.Files.{TellsUnmade, Unmade, convert_reply, rules_reply}
use Rattle.desk.specs.Imports.{as_csv, entries_of, line_with, lines_of_form, made_by, pattern_lines, pattern_lines_from}
use Rattle.desk.specs.States.{refused_line}
use Rattle.desk.proofs.SameFinds.{conversion_same}

-- the entries of a file are those that the rules convert it to
pub entries_are : (text csv : List ℕ) (rules : Rules) → IsRulesOf text rules → entries_of text csv ≡ as_csv (conversion_by rules csv)
unfolding entries_of
entries_are text csv rules is =
    let same = known_alike (sheet_sources rules.sheet) rules.regexes.items is.built in
    ap (λ (r : Result Sheet ℕ). made_by r csv) is.read
    ∙ ap as_csv (sym (conversion_same (known_of rules.regexes.items) (known_by (sheet_sources rules.sheet)) same rules.sheet csv))

pub converted : (text csv : List ℕ) (rules : Rules) (txns : List Txn) → IsRulesOf text rules → conversion_by rules csv ≡ Ok txns → entries_of text csv ≡ Ok txns
converted text csv rules txns is made = entries_are text csv rules is ∙ ap as_csv made

refused_so : (text csv : List ℕ) (rules : Rules) (fault : ConvertFault) → IsRulesOf text rules → conversion_by rules csv ≡ Err fault → Unmade text csv (reply.Csv (csv_fault.Convert fault))
refused_so text csv rules fault is made = inr (inl (csv_fault.Convert fault, entries_are text csv rules is ∙ ap as_csv made, refl))

-- a record is refused
pub unconverted : (text csv : List ℕ) (rules : Rules) (before now : ℕ) (last_before last_now : Option (List ℕ)) (fault : ConvertFault)
    → Reads text before now last_before last_now (Ok rules) → IfSome (cause_in fault) (λ f. conversion_by rules csv ≡ Err f)
    → Unmade text csv (convert_reply fault) × TellsUnmade text before now last_before last_now (convert_reply fault)
unconverted text csv rules before now last_before last_now convert_fault.Memory is made = (inl refl, is.1)
unconverted text csv rules before now last_before last_now (convert_fault.BadRecord n) is made = (refused_so text csv rules _ is.0 made, is.1)
unconverted text csv rules before now last_before last_now (convert_fault.NoDate n) is made = (refused_so text csv rules _ is.0 made, is.1)
unconverted text csv rules before now last_before last_now (convert_fault.NoAmount n) is made = (refused_so text csv rules _ is.0 made, is.1)
unconverted text csv rules before now last_before last_now (convert_fault.TwoAmounts n) is made = (refused_so text csv rules _ is.0 made, is.1)
unconverted text csv rules before now last_before last_now (convert_fault.CsvRefused n) is made = (refused_so text csv rules _ is.0 made, is.1)

-- a line behind others is among all
behind : (x : Reply) (xs ys : List ℕ) → IsOneOf x (map refused_line ys) → IsOneOf x (map refused_line (xs ++ ys))
behind x [] ys among = among
behind x (n ∷ xs) ys among = inr (behind x xs ys among)

-- those of the lines behind one that is of its form
later_line : (o : Option Form) (n : ℕ) (rest : Form → List ℕ) (read : Form → Result Progress ℕ) (progress : Progress) (x : Reply)
    → ((form : Form) → read form ≡ Ok progress → IsOneOf x (map refused_line (rest form))) → or_line n o read ≡ Ok progress
    → IsOneOf x (map refused_line (lines_of_form (λ form. line_with n (form_sources form) ++ rest form) o))
later_line None n rest read progress x found h = cc
later_line (Some form) n rest read progress x found h = behind x (line_with n (form_sources form)) (rest form) (found form h)

-- the line itself
line_here : (o : Option Form) (form : Form) (n line : ℕ) (rest : Form → List ℕ) (source : List ℕ) → o ≡ Some form → form_sources form ≡ source ∷ [] → line ≡ n
    → IsOneOf (refused_line line) (map refused_line (lines_of_form (λ f. line_with n (form_sources f) ++ rest f) o))
line_here o form n line rest source is only number =
    let P : List ℕ → Type 0 = λ lines. IsOneOf (refused_line line) (map refused_line lines) in
    let here : P (n ∷ rest form) = inl (ap refused_line (sym number)) in
    let with_sources : P (line_with n (form_sources form) ++ rest form) = subst (λ (s : List (List ℕ)). P (line_with n s ++ rest form)) (sym only) here in
    subst (λ (x : Option Form). P (lines_of_form (λ f. line_with n (form_sources f) ++ rest f) x)) (sym is) with_sources

-- a line with a pattern is among those that have one, where the lines before it are of their forms
line_from : (p : Progress) (n line : ℕ) (earlier later : List (List ℕ)) (content : List ℕ) (progress : Progress) (form : Form) (source : List ℕ)
    → read_from p n earlier ≡ Ok progress → line ≡ length earlier + n → form_of progress.stage content ≡ Some form → form_sources form ≡ source ∷ []
    → IsOneOf (refused_line line) (map refused_line (pattern_lines_from p n (earlier ++ content ∷ later)))
line_from p n line [] later content progress form source read number is only =
    let same : p ≡ progress = cc in
    line_here (form_of p.stage content) form n line (λ f. pattern_lines_from (put p f) (n + 1) later) source (ap (λ (q : Progress). form_of q.stage content) same ∙ is) only (omega arith)
line_from p n line (l ∷ earlier) later content progress form source read number is only =
    later_line (form_of p.stage l) n (λ f. pattern_lines_from (put p f) (n + 1) (earlier ++ content ∷ later)) (λ f. read_from (put p f) (n + 1) earlier) progress (refused_line line)
    (λ f h. line_from (put p f) (n + 1) line earlier later content progress form source h (omega arith) is only) read

-- a line whose pattern was refused is one that may be told
pub line_among : (text : List ℕ) (line before now : ℕ) (last_now : Option (List ℕ)) → IsRefusedLine text line before now last_now
    → IsOneOf (refused_line line) (map refused_line (pattern_lines text))
line_among text line before now last_now h =
    let P : List (List ℕ) → Type 0 = λ ls. IsOneOf (refused_line line) (map refused_line (pattern_lines_from start 1 ls)) in
    subst P (sym h.earlier.place)
    (line_from start 1 line h.earlier.earlier h.later h.content h.progress h.form h.refusal.source h.earlier.read h.earlier.number h.said (only_source h.form h.refusal.source h.refusal.among))

pub bad_line : (text csv : List ℕ) (line : ℕ) → rules_of text ≡ Err line → entries_of text csv ≡ Err (csv_fault.Rules (rules_fault.BadRule line))
unfolding entries_of
bad_line text csv line is = ap (λ (r : Result Sheet ℕ). made_by r csv) is

-- the rules don't read
pub unread : (text csv : List ℕ) (before now : ℕ) (last_before last_now : Option (List ℕ)) (fault : RulesFault)
    → Reads text before now last_before last_now (Err fault)
    → Unmade text csv (rules_reply fault) × TellsUnmade text before now last_before last_now (rules_reply fault)
unread text csv before now last_before last_now rules_fault.Memory h = (inl refl, h)
unread text csv before now last_before last_now (rules_fault.BadRule line) h = (inr (inl (_, bad_line text csv line h.0.is, refl)), h.1)
unread text csv before now last_before last_now (rules_fault.PatternRefused line) h = (inr (inr (line_among text line before now last_now h)), h)
