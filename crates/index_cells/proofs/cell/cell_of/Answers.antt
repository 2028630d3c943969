use Rattle.std.proofs.Common.{◌≡◌, ◌<◌, ℕ, List, length, get_or, take_all, ap, subst, arith}
use Rattle.index_cells.proofs.Asking.{asks_none, asks_next, asks_one, asks_some}
use Rattle.index_cells.proofs.Celling.{celled_none, symbol_fits, celled_more, celled_done}
use Rattle.index_cells.proofs.cell.cell_of.Goals as goal

pub loop-symbol-init : goal.loop-symbol-init
loop-symbol-init g c = record {
  celled = celled_none c.args.kept.now c.args.account.now c.args.days c.new-sums.result c.new-sums.ensures;
  asked = asks_none 0 c.args.steps.now;
}

pub sum_over-value-requires-clause-fits : goal.sum_over-value-requires-clause-fits
sum_over-value-requires-clause-fits g c = c.requires.ready.sums_fit

pub add_share-requires : goal.add_share-requires
add_share-requires g c =
    let i : ℕ = c.loop-symbol.symbol-index in
    let x : List ℕ = c.symbol-item.result in
    let same = c.as_slice-symbol-items.ensures in
    let inside : i < length c.args.kept.now.symbols = omega (arith, ap length same) in
    symbol_fits c.args.kept.now c.args.account.now c.args.days c.loop-symbol.sums i x c.sum_over-value.result c.requires.ready inside
    (subst (λ (xs : List (List ℕ)). x ≡ get_or xs i x) same c.symbol-item.is) c.sum_over-value.ensures.sum (omega arith) c.loop-symbol.invariant.celled

pub loop-symbol-preserved : goal.loop-symbol-preserved
loop-symbol-preserved g c =
    let i : ℕ = c.loop-symbol.symbol-index in
    let x : List ℕ = c.symbol-item.result in
    let same = c.as_slice-symbol-items.ensures in
    let inside : i < length c.args.kept.now.symbols = omega (arith, ap length same) in
    record {
      celled = celled_more c.args.kept.now c.args.account.now c.args.days c.loop-symbol.sums i x c.sum_over-value.result c.requires.ready inside
          (subst (λ (xs : List (List ℕ)). x ≡ get_or xs i x) same c.symbol-item.is) c.sum_over-value.ensures.sum (omega arith) c.loop-symbol.invariant.celled c.add_share.new.sums c.in_ok-add_share.ensures;
      asked = asks_next 44 i c.args.steps.now c.loop-symbol.steps c.sum_over-value.new.steps c.loop-symbol.invariant.asked c.sum_over-value.ensures.asked;
    }

pub returns-clause-sums : goal.returns-clause-sums
returns-clause-sums g c =
    let i : ℕ = c.loop-symbol.symbol-index in
    let whole = take_all i c.args.kept.now.symbols (omega (arith, ap length c.as_slice-symbol-items.ensures)) in
    celled_done c.args.kept.now c.args.account.now c.args.days c.loop-symbol.sums i whole c.loop-symbol.invariant.celled

pub returns-clause-asked : goal.returns-clause-asked
returns-clause-asked g c =
    asks_some 44 c.loop-symbol.symbol-index (length c.args.kept.now.symbols) c.args.steps.now c.loop-symbol.steps (omega (arith, ap length c.as_slice-symbol-items.ensures)) c.loop-symbol.invariant.asked

pub returns-in_err-add_share-clause-asked : goal.returns-in_err-add_share-clause-asked
returns-in_err-add_share-clause-asked g c =
    asks_one 44 c.loop-symbol.symbol-index (length c.args.kept.now.symbols) c.args.steps.now c.loop-symbol.steps c.sum_over-value.new.steps (omega (arith, ap length c.as_slice-symbol-items.ensures))
    c.loop-symbol.invariant.asked c.sum_over-value.ensures.asked
