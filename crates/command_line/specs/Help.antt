-- What the program says of itself.
use Rattle.std.specs.Prelude.{ℕ, List, codes}
use Rattle.report_options.specs.declared.command.Command.{Command}
use Rattle.report_options.specs.declared.command.Command.TheVariants as commands
use Rattle.command_words.specs.declared.chores.Chore.{Chore}
use Rattle.command_words.specs.declared.chores.Chore.TheVariants as chores
use Rattle.command_words.specs.declared.task.Subject.{Subject}
use Rattle.command_words.specs.declared.task.Subject.TheVariants as subjects

unfoldable pub help_text : List ℕ
help_text = codes "nibcactus: plain text accounting\n\nnibcactus COMMAND [OPTIONS] [QUERY] < JOURNAL\nnibcactus COMMAND -f FILE [OPTIONS] [QUERY]\n\nReports\n  balance, bal          each account's sums, and the total\n  register, reg         the postings by day, with a running total\n  incomestatement, is   revenues and expenses\n  balancesheet, bs      assets and liabilities at the end of each period\n  print                 the transactions by day\n  accounts              the names of the accounts\n  check                 nothing, or the journal's first fault\n\nOthers over a text\n  strict NAME ..        accounts, commodities, payees, tags, ordereddates: what isn't declared\n  close --on=DAY        the entries that close accounts and open them again\n  explain [FILE]        the first fault of the journal, or of a bank's file, and how\n                        it is mended; --rules=NAME, else FILE.rules\n  hours                 the hours of a time log, as a journal\n\nStores\n  init STORE            a store of the journal; --limit=N: bytes of each file\n  add STORE             adds the entry on standard input\n  import STORE FILE     adds a bank's file; --rules=NAME, else FILE.rules\n  export STORE          the text of a store\n  items STORE           the number, line, day and first line of each item\n  replace STORE         replaces its text with the journal; --base=N: only at that revision\n  serve STORE           over HTTP, to several people; --host, --port, --workers=N,\n                        --connections=N, --allow=LEVEL: view, add (the default) or edit;\n                        --page: with a page for browsers\n  feed STORE            its records, as frames\n  follow REPLICA        a store that keeps the frames on standard input; --limit=N\n\nOthers\n  talk                  one HTTP connection over standard input and output\n                        --allow=LEVEL: view, add (the default) or edit\n  sample N              loads a journal of N entries, and says how long it is\n  --help [COMMAND]      this text, or the help of a command\n  --version             the version\n\nThe journal\n  -f FILE               read it from a file; - is standard input, the default\n  --store=NAME          read it from a store\n\nPeriods and intervals\n  -b, --begin DAY       from that day on\n  -e, --end DAY         before that day\n  -p, --period PERIOD   both, and the interval\n  -D -W -M -Q -Y        columns of days, weeks, months, quarters, years\n\nPostings\n  -U -P -C              unmarked, pending, cleared\n  -R, --real            no virtual ones\n  --depth=N             accounts cut to N parts\n  -E, --empty           sums of zero too\n\nValues\n  -B, --cost            at cost\n  -V, --market          in the default currency, at the end of each period\n  -X, --exchange SYM    in that symbol\n  --value=WHEN[,SYM]    cost, then, end, now or a day\n\nRules\n  --auto                what automated rules add\n  --forecast[=PERIOD]   transactions of periodic rules that are to come\n  --budget              balance: amounts beside the goals of periodic rules\n\nLayout\n  -H, --cumulative, --change   where the sums begin\n  -l, --flat; -t, --tree       a list or a tree\n  -A, -T, -N, -S               average, row total, no total, by amount\n  -x, --explicit               print: all amounts\n\nBank files\n  --name=NAME           the name under which a file is remembered; else FILE\n  --dry-run             writes the entries that would be added, and stores nothing\n\nClosing entries and time logs\n  --on=DAY              the day of the closing entry\n  --into=ACCOUNT        what takes the balances; else equity:closing\n  --close               close: the closing entry only\n  --open                close: the opening entry only\n  --dot                 the log is timedot, else timeclock\n\nA query has words of account names, and terms: acct:, desc:, payee:, note:,\ncode:, date:, status:, real:, amt:, cur:, tag:, type:, depth:, not:.\n"

unfoldable pub version_text : List ℕ
version_text = codes "nibcactus 0.2.0\n"

-- ---- each command

unfoldable pub balance_help : List ℕ
balance_help = codes "nibcactus balance: each account's sums, and the total\n\nnibcactus balance [OPTIONS] [QUERY] < JOURNAL\nnibcactus bal [OPTIONS] [QUERY] < JOURNAL\n\nThe journal\n  -f FILE               read it from a file; - is standard input, the default\n  --store=NAME          read it from a store\n\nPeriods and intervals\n  -b, --begin DAY       from that day on\n  -e, --end DAY         before that day\n  -p, --period PERIOD   both, and the interval\n  -D -W -M -Q -Y        columns of days, weeks, months, quarters, years\n\nPostings\n  -U -P -C              unmarked, pending, cleared\n  -R, --real            no virtual ones\n  --depth=N             accounts cut to N parts\n  -E, --empty           sums of zero too\n\nValues\n  -B, --cost            at cost\n  -V, --market          in the default currency, at the end of each period\n  -X, --exchange SYM    in that symbol\n  --value=WHEN[,SYM]    cost, then, end, now or a day\n\nRules\n  --auto                what automated rules add\n  --forecast[=PERIOD]   transactions of periodic rules that are to come\n  --budget              amounts beside the goals of periodic rules\n\nLayout\n  -H, --cumulative, --change   where the sums begin\n  -l, --flat; -t, --tree       a list or a tree\n  -A, -T, -N, -S               average, row total, no total, by amount\n\nA query has words of account names, and terms: acct:, desc:, payee:, note:,\ncode:, date:, status:, real:, amt:, cur:, tag:, type:, depth:, not:.\n"

unfoldable pub register_help : List ℕ
register_help = codes "nibcactus register: the postings by day, with a running total\n\nnibcactus register [OPTIONS] [QUERY] < JOURNAL\nnibcactus reg [OPTIONS] [QUERY] < JOURNAL\n\nThe journal\n  -f FILE               read it from a file; - is standard input, the default\n  --store=NAME          read it from a store\n\nPeriods\n  -b, --begin DAY       from that day on\n  -e, --end DAY         before that day\n  -p, --period PERIOD   both\n\nPostings\n  -U -P -C              unmarked, pending, cleared\n  -R, --real            no virtual ones\n  --depth=N             accounts cut to N parts\n\nValues\n  -B, --cost            at cost\n  -V, --market          in the default currency, at the end of each period\n  -X, --exchange SYM    in that symbol\n  --value=WHEN[,SYM]    cost, then, end, now or a day\n\nRules\n  --auto                what automated rules add\n  --forecast[=PERIOD]   transactions of periodic rules that are to come\n\nLayout\n  -H, --historical      the total begins with what was before\n\nA query has words of account names, and terms: acct:, desc:, payee:, note:,\ncode:, date:, status:, real:, amt:, cur:, tag:, type:, depth:, not:.\n"

unfoldable pub income_help : List ℕ
income_help = codes "nibcactus incomestatement: revenues and expenses\n\nnibcactus incomestatement [OPTIONS] [QUERY] < JOURNAL\nnibcactus is [OPTIONS] [QUERY] < JOURNAL\n\nThe journal\n  -f FILE               read it from a file; - is standard input, the default\n  --store=NAME          read it from a store\n\nPeriods and intervals\n  -b, --begin DAY       from that day on\n  -e, --end DAY         before that day\n  -p, --period PERIOD   both, and the interval\n  -D -W -M -Q -Y        columns of days, weeks, months, quarters, years\n\nPostings\n  -U -P -C              unmarked, pending, cleared\n  -R, --real            no virtual ones\n  --depth=N             accounts cut to N parts\n  -E, --empty           sums of zero too\n\nValues\n  -B, --cost            at cost\n  -V, --market          in the default currency, at the end of each period\n  -X, --exchange SYM    in that symbol\n  --value=WHEN[,SYM]    cost, then, end, now or a day\n\nRules\n  --auto                what automated rules add\n  --forecast[=PERIOD]   transactions of periodic rules that are to come\n\nLayout\n  -l, --flat; -t, --tree       a list or a tree\n  -A, -T, -N, -S               average, row total, no total, by amount\n\nA query has words of account names, and terms: acct:, desc:, payee:, note:,\ncode:, date:, status:, real:, amt:, cur:, tag:, type:, depth:, not:.\n"

unfoldable pub sheet_help : List ℕ
sheet_help = codes "nibcactus balancesheet: assets and liabilities at the end of each period\n\nnibcactus balancesheet [OPTIONS] [QUERY] < JOURNAL\nnibcactus bs [OPTIONS] [QUERY] < JOURNAL\n\nThe journal\n  -f FILE               read it from a file; - is standard input, the default\n  --store=NAME          read it from a store\n\nPeriods and intervals\n  -b, --begin DAY       from that day on\n  -e, --end DAY         before that day\n  -p, --period PERIOD   both, and the interval\n  -D -W -M -Q -Y        columns of days, weeks, months, quarters, years\n\nPostings\n  -U -P -C              unmarked, pending, cleared\n  -R, --real            no virtual ones\n  --depth=N             accounts cut to N parts\n  -E, --empty           sums of zero too\n\nValues\n  -B, --cost            at cost\n  -V, --market          in the default currency, at the end of each period\n  -X, --exchange SYM    in that symbol\n  --value=WHEN[,SYM]    cost, then, end, now or a day\n\nRules\n  --auto                what automated rules add\n  --forecast[=PERIOD]   transactions of periodic rules that are to come\n\nLayout\n  -l, --flat; -t, --tree       a list or a tree\n  -N, -S                       no total, by amount\n\nA query has words of account names, and terms: acct:, desc:, payee:, note:,\ncode:, date:, status:, real:, amt:, cur:, tag:, type:, depth:, not:.\n"

unfoldable pub print_help : List ℕ
print_help = codes "nibcactus print: the transactions by day\n\nnibcactus print [OPTIONS] [QUERY] < JOURNAL\n\nThe journal\n  -f FILE               read it from a file; - is standard input, the default\n  --store=NAME          read it from a store\n\nPeriods\n  -b, --begin DAY       from that day on\n  -e, --end DAY         before that day\n  -p, --period PERIOD   both\n\nPostings\n  -U -P -C              unmarked, pending, cleared\n  -R, --real            no virtual ones\n\nRules\n  --auto                what automated rules add\n  --forecast[=PERIOD]   transactions of periodic rules that are to come\n\nLayout\n  -x, --explicit        all amounts\n\nA query has words of account names, and terms: acct:, desc:, payee:, note:,\ncode:, date:, status:, real:, amt:, cur:, tag:, type:, depth:, not:.\n"

unfoldable pub accounts_help : List ℕ
accounts_help = codes "nibcactus accounts: the names of the accounts\n\nnibcactus accounts [OPTIONS] [QUERY] < JOURNAL\n\nThe journal\n  -f FILE               read it from a file; - is standard input, the default\n  --store=NAME          read it from a store\n\nPeriods\n  -b, --begin DAY       from that day on\n  -e, --end DAY         before that day\n  -p, --period PERIOD   both\n\nPostings\n  -U -P -C              unmarked, pending, cleared\n  -R, --real            no virtual ones\n  --depth=N             accounts cut to N parts\n\nRules\n  --auto                what automated rules add\n  --forecast[=PERIOD]   transactions of periodic rules that are to come\n\nA query has words of account names, and terms: acct:, desc:, payee:, note:,\ncode:, date:, status:, real:, amt:, cur:, tag:, type:, depth:, not:.\n"

unfoldable pub check_help : List ℕ
check_help = codes "nibcactus check: nothing, or the journal's first fault\n\nnibcactus check [OPTIONS] [QUERY] < JOURNAL\n\nThe journal\n  -f FILE               read it from a file; - is standard input, the default\n  --store=NAME          read it from a store\n\nA query has words of account names, and terms: acct:, desc:, payee:, note:,\ncode:, date:, status:, real:, amt:, cur:, tag:, type:, depth:, not:.\n"

unfoldable pub hours_help : List ℕ
hours_help = codes "nibcactus hours: the hours of a time log, as a journal\n\nnibcactus hours [OPTIONS] < LOG\n\nThe log\n  -f FILE               read it from a file; - is standard input, the default\n  --dot                 it is timedot, else timeclock\n"

unfoldable pub strict_help : List ℕ
strict_help = codes "nibcactus strict: checks of a journal that loads\n\nnibcactus strict CHECK .. [OPTIONS] < JOURNAL\n\nChecks\n  accounts              each account of a posting is declared\n  commodities           each symbol is declared\n  payees                each payee is declared\n  tags                  each tag but date is declared\n  ordereddates          no entry is before the one above it\n\nThe journal\n  -f FILE               read it from a file; - is standard input, the default\n  --store=NAME          read it from a store\n"

unfoldable pub close_help : List ℕ
close_help = codes "nibcactus close: the entries that close accounts and open them again\n\nnibcactus close --on=DAY [OPTIONS] [QUERY] < JOURNAL\n\nThe entries\n  --on=DAY              the day of the closing entry\n  --into=ACCOUNT        what takes the balances; else equity:closing\n  --close               the closing entry only\n  --open                the opening entry only\n  QUERY                 the accounts that are closed; else type:AL\n\nThe journal\n  -f FILE               read it from a file; - is standard input, the default\n  --store=NAME          read it from a store\n\nA query has words of account names, and terms: acct:, desc:, payee:, note:,\ncode:, date:, status:, real:, amt:, cur:, tag:, type:, depth:, not:.\n"

unfoldable pub explain_help : List ℕ
explain_help = codes "nibcactus explain: the first fault of a journal or of a bank's file, and how it is mended\n\nnibcactus explain [OPTIONS] < JOURNAL\nnibcactus explain -f JOURNAL\nnibcactus explain FILE [--rules=NAME]\n\nThe journal\n  -f FILE               read it from a file; - is standard input, the default\n  --store=NAME          read it from a store\n\nA bank's file\n  FILE                  why import refuses it, or the line of its rules\n  --rules=NAME          the file of its rules; else FILE.rules\n"

unfoldable pub init_help : List ℕ
init_help = codes "nibcactus init: a store of a journal\n\nnibcactus init STORE [OPTIONS] < JOURNAL\n\nOptions\n  -f FILE               read the journal from a file; - is standard input, the default\n  --limit=N             the most bytes of each of the store's two files; else 1099511627776\n"

unfoldable pub add_help : List ℕ
add_help = codes "nibcactus add: adds the entries on standard input to a store\n\nnibcactus add STORE < ENTRIES\n"

unfoldable pub import_help : List ℕ
import_help = codes "nibcactus import: adds the new entries of a bank's file to a store\n\nnibcactus import STORE FILE [OPTIONS]\n\nOptions\n  --rules=NAME          the file of its rules; else FILE.rules\n  --name=NAME           the name under which it is remembered; else FILE\n  --dry-run             writes the entries that would be added, and stores nothing\n"

unfoldable pub replace_help : List ℕ
replace_help = codes "nibcactus replace: replaces the text of a store with a journal\n\nnibcactus replace STORE [OPTIONS] < JOURNAL\n\nOptions\n  -f FILE               read the journal from a file; - is standard input, the default\n  --base=N              only while the store has revision N\n"

unfoldable pub export_help : List ℕ
export_help = codes "nibcactus export: the text of a store\n\nnibcactus export STORE\n"

unfoldable pub items_help : List ℕ
items_help = codes "nibcactus items: the items of a store's journal, a line each\n\nnibcactus items STORE\n\nA line has the item's number, which /edit takes, the number of its first line, the\nday of a transaction, and the first line, with tabs between them.\n"

unfoldable pub serve_help : List ℕ
serve_help = codes "nibcactus serve: a store over HTTP, to several people\n\nnibcactus serve STORE [OPTIONS]\n\nOptions\n  --host=HOST           the address of this machine; else 127.0.0.1\n  --port=PORT           the port; else 5000\n  --allow=LEVEL         what requests may do: view, add (the default) or edit\n  --workers=N           N requests at once, 1 to 16; else 4\n  --connections=N       each worker ends after N connections\n  --page                a page at / that shows and edits the journal\n"

unfoldable pub feed_help : List ℕ
feed_help = codes "nibcactus feed: the records of a store, as frames\n\nnibcactus feed STORE\n"

unfoldable pub follow_help : List ℕ
follow_help = codes "nibcactus follow: a store that keeps the frames on standard input\n\nnibcactus follow REPLICA [OPTIONS] < FRAMES\n\nOptions\n  --limit=N             the most bytes of each of its two files; else 1099511627776\n"

unfoldable pub talk_help : List ℕ
talk_help = codes "nibcactus talk: one HTTP connection over standard input and output\n\nnibcactus talk [OPTIONS]\n\nOptions\n  -f FILE               a journal in memory that begins as the text of a file; else it is empty\n  --store=NAME          the journal of a store\n  --allow=LEVEL         what requests may do: view, add (the default) or edit\n"

unfoldable pub sample_help : List ℕ
sample_help = codes "nibcactus sample: loads a journal of N entries, and says how long it is\n\nnibcactus sample N\n\nN is from 1 to 100000.\n"

abbrev pub report_help : Command → List ℕ
report_help commands.Balance = balance_help
report_help commands.Register = register_help
report_help commands.IncomeStatement = income_help
report_help commands.BalanceSheet = sheet_help
report_help commands.Print = print_help
report_help commands.Accounts = accounts_help
report_help commands.Check = check_help

abbrev pub chore_help : Chore → List ℕ
chore_help chores.Hours = hours_help
chore_help chores.Strict = strict_help
chore_help chores.Close = close_help
chore_help chores.Explain = explain_help
chore_help chores.Init = init_help
chore_help chores.Add = add_help
chore_help chores.Import = import_help
chore_help chores.Replace = replace_help
chore_help chores.Export = export_help
chore_help chores.Items = items_help
chore_help chores.Feed = feed_help
chore_help chores.Follow = follow_help
chore_help chores.Talk = talk_help
chore_help chores.Sample = sample_help

-- the help of the program, and that of each command: its usage and what it does, and then each option that it takes
abbrev pub help_of : Subject → List ℕ
help_of subjects.Program = help_text
help_of (subjects.Report command) = report_help command
help_of (subjects.Other chore) = chore_help chore
help_of subjects.Serve = serve_help
