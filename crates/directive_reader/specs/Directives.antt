-- The pieces that begin with a word or a mark: directives, prices and rules.
use Rattle.std.specs.Prelude.{ℕ, List, [], ◌∷◌, Result, Ok, Err}
use Rattle.book.specs.declared.directive.Directive.{Directive}
use Rattle.book.specs.declared.fault.Fault.{Fault}
use Rattle.book.specs.declared.fault.Cause.TheVariants as cause
use Rattle.book.specs.declared.item.Item.{Item}
use Rattle.book.specs.declared.item.Item.TheVariants as item
use Rattle.entry_reader.specs.Causes.{fault_at, ◌>>=◌}
use Rattle.entry_reader.specs.Contexts.{Context}
use Rattle.directive_reader.specs.Commodities.{commodity_of, default_of}
use Rattle.directive_reader.specs.Declarations.{account_of, apply_of, end_apply_of, alias_of, end_aliases_of, payee_of, tag_of, year_of, decimal_mark_of}
use Rattle.directive_reader.specs.Keywords.{keyword_at}
use Rattle.directive_reader.specs.Prices.{price_of}
use Rattle.directive_reader.specs.Rules.{auto_of, periodic_of}
use Rattle.directive_reader.specs.declared.keyword.Keyword.{Keyword}
use Rattle.directive_reader.specs.declared.keyword.Keyword.TheVariants as keywords

-- what a directive says that begins with a keyword; no other word begins one
abbrev pub directive_by : Keyword → Context → ℕ → List ℕ → List (List ℕ) → Result Directive Fault
directive_by keywords.Commodity context line text after = commodity_of context line text after
directive_by keywords.Default context line text after = default_of context line text after
directive_by keywords.Account context line text after = account_of context line text after
directive_by keywords.Year context line text after = year_of line text after
directive_by keywords.Apply context line text after = apply_of line text after
directive_by keywords.EndApply context line text after = end_apply_of context line text after
directive_by keywords.Alias context line text after = alias_of line text after
directive_by keywords.EndAliases context line text after = end_aliases_of line text after
directive_by keywords.Payee context line text after = payee_of line text after
directive_by keywords.Tag context line text after = tag_of line text after
directive_by keywords.DecimalMark context line text after = decimal_mark_of line text after
directive_by _ context line text after = Err (fault_at line cause.Directive)

-- the item that begins with a keyword, of the text behind that and of the lines after it
abbrev pub item_by : Keyword → Context → ℕ → List ℕ → List (List ℕ) → Result Item Fault
item_by keywords.Price context line text after = price_of context line text after >>= λ p. Ok (item.Price p)
item_by keywords.Auto context line text after = auto_of context line text after >>= λ r. Ok (item.Auto r)
item_by keywords.Periodic context line text after = periodic_of context line text after >>= λ r. Ok (item.Periodic r)
item_by keyword context line text after = directive_by keyword context line text after >>= λ d. Ok (item.Directive d)

unfoldable pub item_with : Context → ℕ → List ℕ → List (List ℕ) → Result Item Fault
item_with context line content after = item_by (keyword_at content).0 context line (keyword_at content).1 after

-- the directive, price or rule that some lines say
abbrev pub head_item : Context → ℕ → List (List ℕ) → Result Item Fault
head_item context line [] = Err (fault_at line cause.Form)
head_item context line (c ∷ cs) = item_with context line c cs
