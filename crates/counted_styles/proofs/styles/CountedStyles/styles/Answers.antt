use Rattle.std.proofs.Common.{◌≡◌, ℕ, List, ap, ◌∙◌}
use Rattle.book.specs.declared.item.Placed.{Placed}
use Rattle.book.specs.Style.{style_of}
use Rattle.book.specs.Styles.{style_standing}
use Rattle.counted_styles.specs.Directives.{declarations}
use Rattle.counted_styles.proofs.Telling.{AreAllNamed, declared-is, told-all}
use Rattle.counted_styles.proofs.styles.CountedStyles.styles.Goals as goal

pub returns : goal.returns
returns c = λ standing are q.
    let names : List (List ℕ) = c.in_ok-symbols.symbols.items in
    let named : AreAllNamed c.in_ok-symbols.symbols.items c.args.self.now = record {
      commodities = c.in_ok-symbols.ensures.commodities;
      defaults = c.in_ok-symbols.ensures.defaults;
      first = c.in_ok-symbols.ensures.first;
      second = c.in_ok-symbols.ensures.second;
    } in
    let items : c.as_slice-directives.result.now ≡ declarations (style_standing standing) c.in_ok-symbols.symbols.items =
    c.as_slice-directives.ensures.value ∙ c.in_ok-items.ensures standing are ∙ ap (declarations (style_standing standing)) c.as_slice-names.ensures.value in
    c.in_ok-styles.ensures.styles q
    ∙ ap (λ (l : List Placed). style_of l q) items
    ∙ declared-is (style_standing standing) c.in_ok-symbols.symbols.items q
    ∙ told-all standing c.args.self.now c.in_ok-symbols.symbols.items q are named
