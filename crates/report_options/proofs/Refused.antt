-- Words that name no journal read alike at both places, so what is refused at one is refused at the other.
use Rattle.std.proofs.Common.{◌≡◌, ℕ, Bool, true, false, List, [], ◌∷◌, map, Option, Some, None, Result, Ok, Err, IfErr, if◌then◌else◌, refl, ap, sym, ◌∙◌, subst}
use Rattle.std.proofs.lemmas.Bool.{false≢true}
use Rattle.std.specs.List.{AllByRecursion}
use Rattle.report_options.specs.Items.{Piece, words, option, all_read, bad_option, is_end, is_option, item_of, items_in, items_of, option_name, piece_of, pieces, takes_next, valued, with_sheet}
use Rattle.report_options.specs.Names.{has_option, is_among}
use Rattle.report_options.specs.Options.{judged, reading, reading_of}
use Rattle.report_options.specs.Programs.{NamesNoJournal, program_reading, program_reading_of}
use Rattle.report_options.specs.declared.command.Command.{Command}
use Rattle.report_options.specs.declared.fault.OptionFault.{OptionFault}
use Rattle.report_options.specs.declared.items.Item.{Item}
use Rattle.report_options.specs.declared.names.Name.{Name}
use Rattle.report_options.specs.declared.names.Name.TheVariants as names
use Rattle.report_options.specs.declared.names.Place.TheVariants as places

-- ---- an option that names no journal

same_option : (command : Command) (name : Name) → is_among name (names.File ∷ names.Store ∷ []) ≡ false
    → has_option places.Request command name ≡ has_option places.Program command name
same_option command names.Word none = refl
same_option command names.Sheet none = refl
same_option command names.Begin none = refl
same_option command names.End none = refl
same_option command names.Period none = refl
same_option command names.Unmarked none = refl
same_option command names.Pending none = refl
same_option command names.Cleared none = refl
same_option command names.Real none = refl
same_option command names.Auto none = refl
same_option command names.Forecast none = refl
same_option command names.Depth none = refl
same_option command names.Daily none = refl
same_option command names.Weekly none = refl
same_option command names.Monthly none = refl
same_option command names.Quarterly none = refl
same_option command names.Yearly none = refl
same_option command names.Empty none = refl
same_option command names.Cost none = refl
same_option command names.Market none = refl
same_option command names.Exchange none = refl
same_option command names.Value none = refl
same_option command names.Historical none = refl
same_option command names.Cumulative none = refl
same_option command names.Change none = refl
same_option command names.Budget none = refl
same_option command names.Explicit none = refl
same_option command names.Flat none = refl
same_option command names.Tree none = refl
same_option command names.Average none = refl
same_option command names.RowTotal none = refl
same_option command names.NoTotal none = refl
same_option command names.SortAmount none = refl
same_option command names.File none = absurd (false≢true (sym none))
same_option command names.Store none = absurd (false≢true (sym none))

-- ---- the words, piece by piece

abbrev Read : Type 0
Read = Result Item OptionFault

module _ (command : Command) (day : ℕ) where
  abbrev asked : Piece → Read
  asked piece = item_of places.Request command day piece

  abbrev given : Piece → Read
  given piece = item_of places.Program command day piece

  by_kind : (b : Bool) (word : List ℕ) (next : Option (List ℕ)) → NamesNoJournal word
      → asked (if b then option word next else words word) ≡ given (if b then option word next else words word)
  by_kind true word next none =
      ap (λ (has : Bool). if has then valued day word next else bad_option word) (same_option command (option_name word) none)
  by_kind false word next none = refl

  same_piece : (word : List ℕ) (next : Option (List ℕ)) → NamesNoJournal word → asked (piece_of word next) ≡ given (piece_of word next)
  same_piece word next none = by_kind (is_option word) word next none

  same_words : (those : List (List ℕ)) → map asked (map words those) ≡ map given (map words those)
  same_words [] = refl
  same_words (word ∷ those) = ap (λ (rest : List Read). asked (words word) ∷ rest) (same_words those)

  joined : (first other : Read) (rest others : List Read) → first ≡ other → rest ≡ others → first ∷ rest ≡ other ∷ others
  joined first other rest others one more = ap (λ (x : Read). x ∷ rest) one ∙ ap (λ (xs : List Read). other ∷ xs) more

  at_end : (b : Bool) (word : List ℕ) → NamesNoJournal word
      → map asked (if b then [] else piece_of word None ∷ []) ≡ map given (if b then [] else piece_of word None ∷ [])
  at_end true word none = refl
  at_end false word none = joined (asked (piece_of word None)) (given (piece_of word None)) [] [] (same_piece word None none) refl

  with_next : (takes : Bool) (word next : List ℕ) (rest : List (List ℕ)) → NamesNoJournal word
      → map asked (pieces rest) ≡ map given (pieces rest) → map asked (pieces (next ∷ rest)) ≡ map given (pieces (next ∷ rest))
      → map asked (if takes then piece_of word (Some next) ∷ pieces rest else piece_of word None ∷ pieces (next ∷ rest))
      ≡ map given (if takes then piece_of word (Some next) ∷ pieces rest else piece_of word None ∷ pieces (next ∷ rest))
  with_next true word next rest none behind all =
      joined (asked (piece_of word (Some next))) (given (piece_of word (Some next))) (map asked (pieces rest)) (map given (pieces rest))
      (same_piece word (Some next) none) behind
  with_next false word next rest none behind all =
      joined (asked (piece_of word None)) (given (piece_of word None)) (map asked (pieces (next ∷ rest))) (map given (pieces (next ∷ rest)))
      (same_piece word None none) all

  further : (ends : Bool) (word next : List ℕ) (rest : List (List ℕ)) → NamesNoJournal word
      → map asked (pieces rest) ≡ map given (pieces rest) → map asked (pieces (next ∷ rest)) ≡ map given (pieces (next ∷ rest))
      → map asked (if ends then map words (next ∷ rest) else if takes_next word then piece_of word (Some next) ∷ pieces rest else piece_of word None ∷ pieces (next ∷ rest))
      ≡ map given (if ends then map words (next ∷ rest) else if takes_next word then piece_of word (Some next) ∷ pieces rest else piece_of word None ∷ pieces (next ∷ rest))
  further true word next rest none behind all = same_words (next ∷ rest)
  further false word next rest none behind all = with_next (takes_next word) word next rest none behind all

  same_pieces : (those : List (List ℕ)) → AllByRecursion NamesNoJournal those → map asked (pieces those) ≡ map given (pieces those)
  same_pieces [] none = refl
  same_pieces (word ∷ []) none = at_end (is_end word) word none.0
  same_pieces (word ∷ next ∷ rest) none =
      further (is_end word) word next rest none.0 (same_pieces rest none.1.1) (same_pieces (next ∷ rest) none.1)

  same_items : (those : List (List ℕ)) → AllByRecursion NamesNoJournal those
      → items_in places.Request command day those ≡ items_in places.Program command day those
  unfolding items_in
  same_items those none = ap (λ (read : List Read). all_read read) (same_pieces those none)

  pub same_read : (those : List (List ℕ)) → AllByRecursion NamesNoJournal those
      → items_of places.Request command day those ≡ items_of places.Program command day those
  same_read those none = ap (λ (read : Result (List Item) OptionFault). with_sheet command read) (same_items those none)

  -- a fault of the words is the fault at both places
  by_items : (read : Result (List Item) OptionFault) → IfErr (reading_of command read) (λ fault. program_reading_of command read ≡ Err fault)
  by_items (Ok items) = tt
  by_items (Err fault) = refl

  -- words that are refused in a request are refused so behind the program's name
  pub refused_so : (those : List (List ℕ)) → AllByRecursion NamesNoJournal those
      → IfErr (reading command day those) (λ fault. program_reading command day those ≡ Err fault)
  refused_so those none =
      subst (λ (read : Result (List Item) OptionFault). IfErr (reading command day those) (λ fault. program_reading_of command (judged read) ≡ Err fault))
      (same_read those none) (by_items (judged (items_of places.Request command day those)))
