use Rattle.std.proofs.Common.{◌≡◌, ◌+◌, ◌<◌, true, List, [], ◌∷◌, ◌++◌, length, take, sym, subst, arith}
use Rattle.prices.specs.declared.quote.Quote.{Quote}
use Rattle.prices.specs.Index.{HasBoth, has_pair}
use Rattle.prices.proofs.Both.{take_more, stands_last}
use Rattle.prices.proofs.index.first_pairs.Goals as goal

pub loop-quote-preserved : goal.loop-quote-preserved
loop-quote-preserved c =
    let done : List Quote = take c.loop-quote.quote-index c.args.sorted.now in
    let within : c.loop-quote.quote-index < length c.args.sorted.now = omega arith in
    let more : take (c.loop-quote.quote-index + 1) c.args.sorted.now ≡ done ++ c.quote-item.result ∷ [] = take_more c.args.sorted.now c.loop-quote.quote-index c.quote-item.result within c.quote-item.is in
    let both = c.in_ok-add_pair.ensures done c.loop-quote.invariant.both c.loop-quote.invariant.before in
    record {
      both = subst (λ (l : List Quote). HasBoth l c.add_pair.new.pairs.items) (sym more) both;
      before = subst (λ (l : List Quote). has_pair c.quote-item.result.symbol c.quote-item.result.target l ≡ true) (sym more) (stands_last done c.quote-item.result);
    }
