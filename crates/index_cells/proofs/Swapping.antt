-- What is kept after some takings went and others were put in.
use Rattle.std.proofs.Common.{◌≡◌, List, ◌++◌, map, sym, ap, subst, ◌∙◌}
use Rattle.std.proofs.lemmas.Bool.{or_parts}
use Rattle.live_index.specs.declared.row.Row.{Row}
use Rattle.live_index.specs.Net.{net, SameNet}
use Rattle.live_index.specs.Rows.{TurnoverFits}
use Rattle.live_index.specs.Standing.{Preparing, standing}
use Rattle.live_index.proofs.NetLaws.{fits-by}
use Rattle.report_cells.specs.Report.{accounts_in}
use Rattle.report_cells.specs.Taken.{Taken}
use Rattle.index_cells.specs.Changed.{IsMadeOf, put_in}
use Rattle.index_cells.specs.Exchange.{CanBecome}
use Rattle.index_cells.specs.Keeps.{Keeps}
use Rattle.index_cells.specs.Keys.{is_in}
use Rattle.index_cells.specs.Named.{by_symbols, named}
use Rattle.index_cells.specs.Rowed.{rowed, rowed_all, rowed_off}
use Rattle.index_cells.specs.Tells.{is_of}
use Rattle.index_cells.specs.declared.changes.ChangedKept.{ChangedKept}
use Rattle.index_cells.specs.declared.kept.Kept.{Kept}
use Rattle.index_cells.proofs.Keeping.{any_named, no_turnover}
use Rattle.index_cells.proofs.Naming.{account_among}
use Rattle.index_cells.proofs.Taking.{rowed_fit}
use Rattle.index_cells.proofs.Weighing.{exchanged, net_rowed, none_among, none_turned, rowed_off_net}

module _ (before gone more after : List Taken) (old : Kept) (can : CanBecome old before gone more after) where
  amounts_same : SameNet (rowed_all after) (old.sums ++ (rowed_off gone ++ rowed_all more))
  amounts_same =
      exchanged rowed_all rowed_off (λ q t. net q (rowed t.account t.day t.amount)) net_rowed rowed_off_net before gone more after old.sums can.exchange can.keeps.sums

  -- what putting in asks for
  pub amounts_fit : (rows : List Row) → rows ≡ rowed_off gone ++ rowed_all more → TurnoverFits (standing (old.sums ++ rows))
  amounts_fit rows is =
      fits-by (rowed_all after) (old.sums ++ rows) (subst (λ (rs : List Row). SameNet (rowed_all after) (old.sums ++ rs)) (sym is) amounts_same) (rowed_fit after can.fits)

  -- what is kept then
  pub becomes : (changed : ChangedKept) → IsMadeOf gone more old changed → Keeps after (put_in changed old)
  becomes changed made = record {
    fits = can.fits;
    sums = subst (SameNet (rowed_all after)) (sym (ap (λ (p : Preparing). p.after) made.sums)) amounts_same;
    names = record {
      accounts_rise = made.accounts.rise;
      symbols_rise = made.symbols.rise;
      accounts = λ account none.
          let both = or_parts (is_in account old.accounts) (is_in account (accounts_in (map named more))) (sym (made.accounts.each account) ∙ none) in
          none_among (is_of account) before gone more after can.exchange (can.keeps.names.accounts account both.0)
          (sym (account_among account (map named more) ∙ any_named account more) ∙ both.1);
      symbols = λ symbol none.
          let both = or_parts (is_in symbol old.symbols) (is_in symbol (accounts_in (by_symbols more))) (sym (made.symbols.each symbol) ∙ none) in
          none_turned symbol before gone more after can.exchange (can.keeps.names.symbols symbol both.0)
          (no_turnover symbol more (sym (account_among symbol (by_symbols more)) ∙ both.1));
    };
  }
