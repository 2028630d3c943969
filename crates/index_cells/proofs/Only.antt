-- Names of takings, and of these with more.
use Rattle.std.proofs.Common.{◌≡◌, ℕ, Bool, true, false, cond, ◌&&◌, ◌||◌, List, [], ◌∷◌, ◌++◌, map, Some, None, unwrap_or, refl, sym, ap, ◌∙◌}
use Rattle.std.specs.List.{list_any}
use Rattle.std.specs.FinMap.Entries.{same_entries}
use Rattle.std.proofs.lemmas.Bool.{and_parts}
use Rattle.book.specs.Accounts.{account_cmp}
use Rattle.book.specs.Order.{each_once}
use Rattle.book.proofs.Accounts.{account_total, account_ties}
use Rattle.book.proofs.Order.{find-made}
use Rattle.report_cells.specs.Report.{accounts_in}
use Rattle.report_cells.specs.Taken.{Taken}
use Rattle.index_cells.specs.Changed.{IsMadeOf, put_in}
use Rattle.index_cells.specs.Exchange.{IsExchange}
use Rattle.index_cells.specs.Keys.{is_in, AreInOrder, AreOfBoth}
use Rattle.index_cells.specs.Named.{by_symbol, by_symbols, named}
use Rattle.index_cells.specs.Names.{NamesOf, symbols_in}
use Rattle.index_cells.specs.Staying.{are_kept, are_replaced}
use Rattle.index_cells.specs.Tells.{is_of}
use Rattle.index_cells.specs.declared.changes.ChangedKept.{ChangedKept}
use Rattle.index_cells.specs.declared.kept.Kept.{Kept}
use Rattle.index_cells.proofs.Keeping.{any_named, in_order}
use Rattle.index_cells.proofs.Merging.{named_already}
use Rattle.index_cells.proofs.Naming.{account_among, among_in_order, firsts}
use Rattle.index_cells.proofs.Remaining.{bears, fewer, known_before, of_account, of_symbol}
use Rattle.index_cells.proofs.Weighing.{any_among}

-- ---- lists of the same names

same_names : (a b : List (List ℕ)) → AreInOrder a → AreInOrder b → ((q : List ℕ) → is_in q a ≡ is_in q b) → a ≡ b
same_names a b rise also same =
    sym (firsts a)
    ∙ ap (map (λ (e : List ℕ × List ℕ). e.0))
    (same_entries account_cmp account_total account_ties (map (λ (k : List ℕ). (k, k)) a) (map (λ (k : List ℕ). (k, k)) b) rise also
    (λ q.
    find-made account_ties (λ (k : List ℕ). k) a q
    ∙ ap (λ (t : Bool). cond t (Some q) None) (among_in_order q a ∙ same q ∙ sym (among_in_order q b))
    ∙ sym (find-made account_ties (λ (k : List ℕ). k) b q)))
    ∙ firsts b

-- ---- accounts

map_named : (ts : List Taken) → map (λ (t : Taken). t.account) (map named ts) ≡ map (λ (t : Taken). t.account) ts
map_named [] = refl
map_named (t ∷ ts) = ap (λ (accounts : List (List ℕ)). t.account ∷ accounts) (map_named ts)

pub accounts_named : (ts : List Taken) → accounts_in (map named ts) ≡ accounts_in ts
accounts_named ts = ap (each_once account_cmp) (map_named ts)

-- ---- symbols

or_joined : (x a b : Bool) → (x || (a || b)) ≡ ((x || a) || b)
or_joined true a b = refl
or_joined false a b = refl

any_append : (p : Taken → Bool) (a b : List Taken) → list_any p (a ++ b) ≡ (list_any p a || list_any p b)
any_append p [] b = refl
any_append p (x ∷ a) b = ap (λ (r : Bool). p x || r) (any_append p a b) ∙ or_joined (p x) (list_any p a) (list_any p b)

any_borne : (symbol : List ℕ) (ts : List Taken) → list_any (is_of symbol) (by_symbols ts) ≡ list_any (bears symbol) ts
any_borne symbol [] = refl
any_borne symbol (t ∷ ts) =
    any_append (is_of symbol) (by_symbol t.day t.amount) (by_symbols ts) ∙ ap (λ (r : Bool). bears symbol t || r) (any_borne symbol ts)

symbol_among : (symbol : List ℕ) (ts : List Taken) → is_in symbol (symbols_in ts) ≡ list_any (bears symbol) ts
symbol_among symbol ts = account_among symbol (by_symbols ts) ∙ any_borne symbol ts

-- ---- where no name goes

module _ (before gone more after : List Taken) (whole : IsExchange before gone more after) (replaced : are_replaced gone more ≡ true) where
  accounts_after : (old new : List (List ℕ)) → old ≡ accounts_in before → AreOfBoth old (accounts_in (map named more)) new → are_kept (accounts_in (map named gone)) old ≡ true → new ≡ accounts_in after
  accounts_after old new is both known =
      same_names new (accounts_in after) both.rise (in_order after)
      (λ q.
      both.each q
      ∙ (λ i. (ap (is_in q) is ∙ account_among q before) i || (account_among q (map named more) ∙ any_named q more) i)
      ∙ sym (any_among (is_of q) before gone more after whole (fewer (is_of q) (of_account q) gone more replaced)
      (λ none. known_before (is_in q (accounts_in (map named gone))) (is_in q old) (list_any (is_of q) gone) (list_any (is_of q) before)
      (account_among q (map named gone) ∙ any_named q gone) (ap (is_in q) is ∙ account_among q before) (named_already old (accounts_in (map named gone)) q known) none))
      ∙ sym (account_among q after))

  symbols_after : (old new : List (List ℕ)) → old ≡ symbols_in before → AreOfBoth old (accounts_in (by_symbols more)) new → are_kept (accounts_in (by_symbols gone)) old ≡ true → new ≡ symbols_in after
  symbols_after old new is both known =
      same_names new (symbols_in after) both.rise (in_order (by_symbols after))
      (λ q.
      both.each q
      ∙ (λ i. (ap (is_in q) is ∙ symbol_among q before) i || symbol_among q more i)
      ∙ sym (any_among (bears q) before gone more after whole (fewer (bears q) (of_symbol q) gone more replaced)
      (λ none. known_before (is_in q (accounts_in (by_symbols gone))) (is_in q old) (list_any (bears q) gone) (list_any (bears q) before)
      (symbol_among q gone) (ap (is_in q) is ∙ symbol_among q before) (named_already old (accounts_in (by_symbols gone)) q known) none))
      ∙ sym (symbol_among q after))

-- then the names are those of all
pub names_put : (before gone more after : List Taken) (old : Kept) (changed : ChangedKept) → IsMadeOf gone more old changed → IsExchange before gone more after → changed.names_stay ≡ true → NamesOf before old → NamesOf after (put_in changed old)
names_put before gone more after old changed made whole stay names =
    let parts = and_parts (are_replaced gone more) (are_kept (accounts_in (map named gone)) old.accounts && are_kept (accounts_in (by_symbols gone)) old.symbols) (sym made.still ∙ stay) in
    let known = and_parts (are_kept (accounts_in (map named gone)) old.accounts) (are_kept (accounts_in (by_symbols gone)) old.symbols) parts.1 in
    record {
      accounts = accounts_after before gone more after whole parts.0 old.accounts (unwrap_or changed.accounts old.accounts) names.accounts made.accounts known.0;
      symbols = symbols_after before gone more after whole parts.0 old.symbols (unwrap_or changed.symbols old.symbols) names.symbols made.symbols known.1;
    }
