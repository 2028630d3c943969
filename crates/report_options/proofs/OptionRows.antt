-- Words of reports worked out by hand from the rules, on 2024-06-15.
use Rattle.std.proofs.Common.{◌≡◌, Err, [], ◌∷◌, refl}
use Rattle.std.specs.Prelude.{codes}
use Rattle.hl_time.specs.Words.{is_word, keyword, near_word, one_word, many_word, interval_word, word_of, blanks, run, word_start, word_stop, words, place_of}
use Rattle.hl_time.specs.Periods.{moment, after, ended, since_moment, span_of, period_of_words, period_of}
use Rattle.report_options.specs.Names.{name_of, interval_name, shown_name, sum_name, layout_name}
use Rattle.report_options.specs.Items.{items_in}
use Rattle.report_options.specs.Conflicts.{conflict_in}
use Rattle.report_options.specs.Options.{reading}
use Rattle.report_options.specs.Programs.{program_reading}
use Rattle.report_options.specs.declared.command.Command.TheVariants as commands
use Rattle.report_options.specs.declared.fault.OptionFault.TheVariants as faults

pub two_intervals : reading commands.Balance 739_052 (codes "food" ∷ codes "-M" ∷ codes "--weekly" ∷ []) ≡ Err (faults.Conflict (codes "-M") (codes "--weekly"))
unfolding name_of interval_name shown_name sum_name layout_name items_in conflict_in
two_intervals = refl

-- balancesheet stands last
pub sheet_last : reading commands.BalanceSheet 739_052 (codes "-T" ∷ codes "-t" ∷ codes "-l" ∷ []) ≡ Err (faults.Conflict (codes "-t") (codes "-l"))
unfolding name_of interval_name shown_name sum_name layout_name items_in conflict_in
sheet_last = refl

pub sheet_alone : reading commands.BalanceSheet 739_052 (codes "-A" ∷ []) ≡ Err (faults.Conflict (codes "-A") (codes "bs"))
unfolding name_of interval_name shown_name sum_name layout_name items_in conflict_in
sheet_alone = refl

-- a bad option comes before a conflict
pub lone_begin : reading commands.Balance 739_052 (codes "-M" ∷ codes "-W" ∷ codes "-b" ∷ []) ≡ Err (faults.BadOption (codes "-b"))
unfolding name_of interval_name shown_name sum_name layout_name items_in conflict_in
lone_begin = refl

pub begin_soon : reading commands.Balance 739_052 (codes "-b" ∷ codes "soon" ∷ codes "-z" ∷ []) ≡ Err (faults.BadOption (codes "soon"))
unfolding name_of interval_name shown_name sum_name layout_name items_in is_word keyword near_word one_word many_word interval_word word_of blanks run word_start word_stop words place_of moment after ended since_moment span_of period_of_words period_of
begin_soon = refl

-- a journal is named in the program alone
pub request_file : reading commands.Print 739_052 (codes "-f" ∷ codes "a" ∷ []) ≡ Err (faults.BadOption (codes "-f"))
unfolding name_of items_in
request_file = refl

pub file_and_store : program_reading commands.Check 739_052 (codes "-f" ∷ codes "-" ∷ codes "--store=s" ∷ []) ≡ Err (faults.Conflict (codes "-f") (codes "--store=s"))
unfolding name_of items_in conflict_in
file_and_store = refl
