-- What the sums of a report are made of, for what is asked over the items of a text.
use Rattle.std.specs.Prelude.{◌≡◌, ℕ, List}
use Rattle.book.specs.Style.{style_of}
use Rattle.book.specs.Styles.{style_in}
use Rattle.book.specs.declared.item.Placed.{Placed}
use Rattle.prices.specs.Quotes.{quotes_in}
use Rattle.query.specs.Made.{IsQueryOf}
use Rattle.query.specs.OwnLetters.{own_in}
use Rattle.report_sums.specs.declared.job.Job.{Job}
use Rattle.report_commands.specs.Matters.{letters_in}
use Rattle.report_commands.specs.declared.asked.Asked.{Asked}
use Rattle.report_commands.specs.declared.reporting.Material.{Material}

-- the options that are asked, the query of its words, and the letters, the styles and the prices of the text
pub record IsMadeFor (asked : Asked) (items : List Placed) (job : Job) : Type 0 where
  pub options : job.scope.options.now ≡ asked.options
  pub query : IsQueryOf job.scope.day.0 asked.words job.scope.query.now
  pub letters : (name : List ℕ) → own_in job.scope.types.now name ≡ letters_in items name
  pub styles : (symbol : List ℕ) → style_in job.styles.now symbol ≡ style_of items symbol
  pub quotes : job.prices.now ≡ quotes_in items

-- the letters, the styles and the prices of these items
pub record IsMaterialOf (items : List Placed) (material : Material) : Type 0 where
  pub letters : (name : List ℕ) → own_in material.types.now name ≡ letters_in items name
  pub styles : (symbol : List ℕ) → style_in material.styles.now symbol ≡ style_of items symbol
  pub quotes : material.prices.now ≡ quotes_in items
