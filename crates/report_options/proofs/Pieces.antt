-- What a word reads as, by what it is.
use Rattle.std.proofs.Common.{◌≡◌, ℕ, true, false, List, Ok, refl}
use Rattle.report_options.specs.Names.{has_option}
use Rattle.report_options.specs.Items.{is_option, option_name, next_of, piece_of, item_of, query_word, valued, bad_option}
use Rattle.report_options.specs.declared.command.Command.{Command}
use Rattle.report_options.specs.declared.names.Place.{Place}

module _ (place : Place) (command : Command) (day : ℕ) (word : List ℕ) (rest : List (List ℕ)) where
  pub item_word : is_option word ≡ false → item_of place command day (piece_of word (next_of word rest)) ≡ Ok (query_word word)
  item_word none = rw none refl

  pub item_option : is_option word ≡ true → has_option place command (option_name word) ≡ true → item_of place command day (piece_of word (next_of word rest)) ≡ valued day word (next_of word rest)
  item_option is has = rw (is, has) refl

  pub item_bad : is_option word ≡ true → has_option place command (option_name word) ≡ false → item_of place command day (piece_of word (next_of word rest)) ≡ bad_option word
  item_bad is none = rw (is, none) refl
