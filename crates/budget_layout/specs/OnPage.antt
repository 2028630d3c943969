-- What a budget is shown with.
use Rattle.std.specs.Prelude.{ℕ, List}
use Rattle.book.specs.Styles.{style_in}
use Rattle.book.specs.declared.style.Style.{Style}
use Rattle.balance_rows.specs.declared.layout.Layout.{Layout}
use Rattle.budget_layout.specs.declared.page.Page.{Page}

abbrev pub layout_on : Page → Layout
layout_on page = page.layout.now

abbrev pub style_on : Page → List ℕ → Style
style_on page = style_in page.styles.now
