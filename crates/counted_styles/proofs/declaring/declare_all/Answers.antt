use Rattle.std.proofs.Common.{◌≡◌, ◌<◌, ◌≤◌, ◌++◌, ◌∷◌, [], List, length, sym, ap, ◌∙◌, arith, rules}
use Rattle.std.proofs.lemmas.List.{take_all}
use Rattle.book.specs.declared.item.Placed.{Placed}
use Rattle.book.specs.declared.style.Style.{Style}
use Rattle.book.specs.Styles.{style_standing}
use Rattle.counted_styles.specs.Directives.{declarations, declared}
use Rattle.counted_styles.proofs.Telling.{declared-more}
use Rattle.counted_styles.proofs.declaring.declare_all.Goals as goal

pub loop-symbol-preserved : goal.loop-symbol-preserved
loop-symbol-preserved c = λ standing are.
    let i = c.loop-symbol.symbol-index in
    let symbol = c.symbol-item.result in
    let inside : c.loop-symbol.symbol-index < length c.args.symbols.now = search rules in
    let styled : c.style-look.result ≡ style_standing standing c.symbol-item.result = c.style-look.ensures standing are in
    let more : c.push.new.self.items ≡ c.loop-symbol.items.items ++ declared c.symbol-item.result c.style-look.result ∷ [] = search rules in
    more
    ∙ ap (λ (s : Style). c.loop-symbol.items.items ++ declared symbol s ∷ []) styled
    ∙ ap (λ (l : List Placed). l ++ declared symbol (style_standing standing symbol) ∷ []) (c.loop-symbol.invariant standing are)
    ∙ sym (declared-more (style_standing standing) c.args.symbols.now i symbol inside c.symbol-item.is)

pub returns : goal.returns
returns c = λ standing are.
    let past : length c.args.symbols.now ≤ c.loop-symbol.symbol-index = omega arith in
    c.loop-symbol.invariant standing are ∙ ap (declarations (style_standing standing)) (take_all c.loop-symbol.symbol-index c.args.symbols.now past)
