-- What words say in a request, they say behind the program's name too, of no file and of no store.
use Rattle.std.proofs.Common.{◌≡◌, ℕ, Bool, true, false, cond, List, [], ◌∷◌, ◌++◌, map, find, reverse, Option, Some, None, Result, Ok, Err, IfOk, if◌then◌else◌, refl, ap, sym, ◌∙◌, subst}
use Rattle.std.proofs.lemmas.Bool.{false≢true}
use mathlib.Core.List.{reverse-cons}
use Rattle.report_options.specs.Conflicts.{conflict_in}
use Rattle.report_options.specs.Items.{Piece, words, option, all_read, bad_option, item_of, items_in, items_of, option_name, own_value, pieces, put_first, query_word, sheet_item, valued, with_sheet, with_value}
use Rattle.report_options.specs.Names.{has_option, is_among, is_reached, is_sheet, reach_of}
use Rattle.report_options.specs.Options.{judged, latest, options_of, query_words, reading, reading_of, unless_conflict}
use Rattle.report_options.specs.Programs.{given_of as journal_of, name_behind, name_of, program_reading, program_reading_of, unnamed}
use Rattle.report_options.specs.Values.{value_of}
use Rattle.report_options.specs.declared.command.Command.{Command}
use Rattle.report_options.specs.declared.fault.OptionFault.{OptionFault}
use Rattle.report_options.specs.declared.fault.OptionFault.TheVariants as faults
use Rattle.report_options.specs.declared.items.Item.{Item}
use Rattle.report_options.specs.declared.names.Name.{Name}
use Rattle.report_options.specs.declared.names.Name.TheVariants as names
use Rattle.report_options.specs.declared.names.Place.TheVariants as places
use Rattle.report_options.specs.declared.names.Reach.{Reach}
use Rattle.report_options.specs.declared.names.Reach.TheVariants as reaches
use Rattle.report_options.specs.declared.options.Options.{Options}
use Rattle.report_options.specs.declared.program.Given.{Given}
use Rattle.report_options.specs.declared.values.Value.{Value}
use Rattle.std.specs.Option.{option_or}
use Rattle.std.specs.Prelude.{is_ok, unwrap_or}

-- ---- the options of a request are options of the program

reached : (command : Command) (reach : Reach) → is_reached places.Request command reach ≡ true → is_reached places.Program command reach ≡ true
reached command reaches.Nowhere h = h
reached command reaches.Reports h = h
reached command reaches.Columns h = h
reached command reaches.Depths h = h
reached command reaches.Values h = h
reached command reaches.Sums h = h
reached command reaches.Balance h = h
reached command reaches.Print h = h
reached command reaches.Program h = refl

-- and none of them names a journal
pub record Unnaming (name : Name) : Type 0 where
  pub file : is_among name (names.File ∷ []) ≡ false
  pub store : is_among name (names.Store ∷ []) ≡ false

unnaming : (command : Command) (name : Name) → has_option places.Request command name ≡ true → Unnaming name
unnaming command names.Word h = record { file = refl; store = refl }
unnaming command names.Sheet h = record { file = refl; store = refl }
unnaming command names.Begin h = record { file = refl; store = refl }
unnaming command names.End h = record { file = refl; store = refl }
unnaming command names.Period h = record { file = refl; store = refl }
unnaming command names.Depth h = record { file = refl; store = refl }
unnaming command names.Exchange h = record { file = refl; store = refl }
unnaming command names.Value h = record { file = refl; store = refl }
unnaming command names.Forecast h = record { file = refl; store = refl }
unnaming command names.Daily h = record { file = refl; store = refl }
unnaming command names.Weekly h = record { file = refl; store = refl }
unnaming command names.Monthly h = record { file = refl; store = refl }
unnaming command names.Quarterly h = record { file = refl; store = refl }
unnaming command names.Yearly h = record { file = refl; store = refl }
unnaming command names.Unmarked h = record { file = refl; store = refl }
unnaming command names.Pending h = record { file = refl; store = refl }
unnaming command names.Cleared h = record { file = refl; store = refl }
unnaming command names.Real h = record { file = refl; store = refl }
unnaming command names.Empty h = record { file = refl; store = refl }
unnaming command names.Cost h = record { file = refl; store = refl }
unnaming command names.Market h = record { file = refl; store = refl }
unnaming command names.Auto h = record { file = refl; store = refl }
unnaming command names.Historical h = record { file = refl; store = refl }
unnaming command names.Cumulative h = record { file = refl; store = refl }
unnaming command names.Change h = record { file = refl; store = refl }
unnaming command names.Budget h = record { file = refl; store = refl }
unnaming command names.Explicit h = record { file = refl; store = refl }
unnaming command names.Flat h = record { file = refl; store = refl }
unnaming command names.Tree h = record { file = refl; store = refl }
unnaming command names.Average h = record { file = refl; store = refl }
unnaming command names.RowTotal h = record { file = refl; store = refl }
unnaming command names.NoTotal h = record { file = refl; store = refl }
unnaming command names.SortAmount h = record { file = refl; store = refl }
unnaming command names.File h = absurd (false≢true h)
unnaming command names.Store h = absurd (false≢true h)

-- ---- a piece of words

abbrev failing : (A : Type 0) → OptionFault → Result A OptionFault
failing A fault = Err fault

err_ok : (A : Type 0) (fault : OptionFault) (x : A) → failing A fault ≡ Ok x → ⊥
err_ok A fault x e = false≢true (ap (λ (r : Result A OptionFault). is_ok r) e)

abbrev got : Item → Result Item OptionFault → Item
got other (Ok item) = item
got other (Err fault) = other

-- what was read has the name of its option
has_name : (word holder : List ℕ) (name : Name) (value : Option Value) (item : Item) → with_value word holder name value ≡ Ok item → name ≡ item.name
has_name word holder name (Some value) item e = ap (λ (r : Result Item OptionFault). (got item r).name) e
has_name word holder name None item e = absurd (err_ok Item (faults.BadOption holder) item e)

module _ (command : Command) (day : ℕ) where
  record Kept (piece : Piece) (item : Item) : Type 0 where
    pub read : item_of places.Program command day piece ≡ Ok item
    pub unnamed : Unnaming item.name

  by_option : (word : List ℕ) (next : Option (List ℕ)) (item : Item) (b : Bool) → has_option places.Request command (option_name word) ≡ b
      → (if b then valued day word next else bad_option word) ≡ Ok item → Kept (option word next) item
  by_option word next item true is e = record {
    read = ap (λ (b : Bool). if b then valued day word next else bad_option word) (reached command (reach_of (option_name word)) is) ∙ e;
    unnamed = subst (λ (n : Name). Unnaming n) (has_name word (unwrap_or next word) (option_name word) (value_of day (option_name word) (option_or (own_value word) next)) item e)
        (unnaming command (option_name word) is);
  }
  by_option word next item false is e = absurd (err_ok Item (faults.BadOption word) item e)

  kept : (piece : Piece) (item : Item) → item_of places.Request command day piece ≡ Ok item → Kept piece item
  kept (words word) item e = record {
    read = e;
    unnamed = subst (λ (i : Item). Unnaming i.name) (ap (got item) e) (record { file = refl; store = refl });
  }
  kept (option word next) item e = by_option word next item (has_option places.Request command (option_name word)) refl e

-- ---- all of them

abbrev pub Unnamings : List Item → Type 0
Unnamings [] = Unit {0}
Unnamings (item ∷ items) = Unnaming item.name × Unnamings items

abbrev got_all : List Item → Result (List Item) OptionFault → List Item
got_all other (Ok items) = items
got_all other (Err fault) = other

module _ (command : Command) (day : ℕ) where
  record AllKept (ps : List Piece) (items : List Item) : Type 0 where
    pub read : all_read (map (item_of places.Program command day) ps) ≡ Ok items
    pub unnamed : Unnamings items

  put_kept : (piece : Piece) (ps : List Piece) (items : List Item) (first : Result Item OptionFault) (rest : Result (List Item) OptionFault)
      → item_of places.Request command day piece ≡ first → ((more : List Item) → rest ≡ Ok more → AllKept ps more)
      → put_first first rest ≡ Ok items → AllKept (piece ∷ ps) items
  put_kept piece ps items (Ok item) (Ok more) is all e =
      let k = kept command day piece item is in
      let a = all more refl in
      record {
        read = ap (λ (r : Result Item OptionFault). put_first r (all_read (map (item_of places.Program command day) ps))) k.read
            ∙ ap (λ (r : Result (List Item) OptionFault). put_first (Ok item) r) a.read ∙ e;
        unnamed = subst (λ (l : List Item). Unnamings l) (ap (got_all items) e) (k.unnamed, a.unnamed);
      }
  put_kept piece ps items (Ok item) (Err fault) is all e = absurd (err_ok (List Item) fault items e)
  put_kept piece ps items (Err fault) rest is all e = absurd (err_ok (List Item) fault items e)

  all_kept : (ps : List Piece) (items : List Item) → all_read (map (item_of places.Request command day) ps) ≡ Ok items → AllKept ps items
  all_kept [] items e = record { read = e; unnamed = subst (λ (l : List Item). Unnamings l) (ap (got_all items) e) tt }
  all_kept (piece ∷ ps) items e =
      put_kept piece ps items (item_of places.Request command day piece) (all_read (map (item_of places.Request command day) ps)) refl (all_kept ps) e

  record ItemsKept (those : List (List ℕ)) (items : List Item) : Type 0 where
    pub read : items_in places.Program command day those ≡ Ok items
    pub unnamed : Unnamings items

  in_kept : (those : List (List ℕ)) (items : List Item) → items_in places.Request command day those ≡ Ok items → ItemsKept those items
  unfolding items_in
  in_kept those items e = let a = all_kept (pieces those) items e in record { read = a.read; unnamed = a.unnamed }

-- one more at the end
one_more : (items : List Item) (item : Item) → Unnamings items → Unnaming item.name → Unnamings (items ++ item ∷ [])
one_more [] item all one = (one, tt)
one_more (x ∷ xs) item all one = (all.0, one_more xs item all.1 one)

pub turned : (items : List Item) → Unnamings items → Unnamings (reverse items)
turned [] all = tt
turned (x ∷ xs) all = subst (λ (l : List Item). Unnamings l) (sym (reverse-cons x xs)) (one_more (reverse xs) x (turned xs all.1) all.0)

with_last : (b : Bool) (items : List Item) → Unnamings items → Unnamings (if b then items ++ sheet_item ∷ [] else items)
with_last true items all = one_more items sheet_item all (record { file = refl; store = refl })
with_last false items all = all

module _ (command : Command) (day : ℕ) (those : List (List ℕ)) where
  pub record WordsKept (items : List Item) : Type 0 where
    pub read : items_of places.Program command day those ≡ Ok items
    pub unnamed : Unnamings items

  sheet_kept : (items : List Item) (r : Result (List Item) OptionFault) → items_in places.Request command day those ≡ r → with_sheet command r ≡ Ok items
      → WordsKept items
  sheet_kept items (Ok inner) is e =
      let k = in_kept command day those inner is in
      record {
        read = ap (λ (r : Result (List Item) OptionFault). with_sheet command r) k.read ∙ e;
        unnamed = subst (λ (l : List Item). Unnamings l) (ap (got_all items) e) (with_last (is_sheet command) inner k.unnamed);
      }
  sheet_kept items (Err fault) is e = absurd (err_ok (List Item) fault items e)

  pub words_kept : (items : List Item) → items_of places.Request command day those ≡ Ok items → WordsKept items
  words_kept items e = sheet_kept items (items_in places.Request command day those) refl e

-- ---- such items name no journal

pub no_file : (items : List Item) → Unnamings items → find (λ (item : Item). is_among item.name (names.File ∷ [])) items ≡ None
no_file [] all = refl
no_file (x ∷ xs) all =
    ap (λ (b : Bool). cond b (Some x) (find (λ (item : Item). is_among item.name (names.File ∷ [])) xs)) (all.0.file) ∙ no_file xs all.1

pub no_store : (items : List Item) → Unnamings items → find (λ (item : Item). is_among item.name (names.Store ∷ [])) items ≡ None
no_store [] all = refl
no_store (x ∷ xs) all =
    ap (λ (b : Bool). cond b (Some x) (find (λ (item : Item). is_among item.name (names.Store ∷ [])) xs)) (all.0.store) ∙ no_store xs all.1

abbrev journal : Option (List ℕ) → Option (List ℕ) → Given
journal file store = record { file = file; store = store }

no_journal : (items : List Item) → Unnamings items → journal_of items ≡ unnamed
no_journal items all =
    let back = turned items all in
    let file : name_behind items (names.File ∷ []) ≡ None = ap name_of (no_file (reverse items) back) in
    let store : name_behind items (names.Store ∷ []) ≡ None = ap name_of (no_store (reverse items) back) in
    ap (λ (f : Option (List ℕ)). journal f (name_behind items (names.Store ∷ []))) file ∙ ap (λ (s : Option (List ℕ)). journal None s) store

-- ---- the options, the query and the journal

abbrev pub Read : Type 0
Read = Options × List (List ℕ)

abbrev got_read : Read → Result Read OptionFault → Read
got_read other (Ok read) = read
got_read other (Err fault) = other

abbrev pub told : Given → Read → Result (Given × Options × List (List ℕ)) OptionFault
told given read = Ok (given, read.0, read.1)

by_conflict : (command : Command) (items : List Item) (read : Read) (c : Option OptionFault) → Unnamings items
    → reading_of command (unless_conflict items c) ≡ Ok read → program_reading_of command (unless_conflict items c) ≡ told unnamed read
by_conflict command items read None all e =
    ap (λ (g : Given). told g (options_of command items, query_words items)) (no_journal items all) ∙ ap (told unnamed) (ap (got_read read) e)
by_conflict command items read (Some fault) all e = absurd (err_ok Read fault read e)

module _ (command : Command) (day : ℕ) (those : List (List ℕ)) where
  by_items : (read : Read) (r : Result (List Item) OptionFault) → items_of places.Request command day those ≡ r → reading_of command (judged r) ≡ Ok read
      → program_reading command day those ≡ told unnamed read
  by_items read (Ok items) is e =
      let k = words_kept command day those items is in
      ap (λ (r : Result (List Item) OptionFault). program_reading_of command (judged r)) k.read ∙ by_conflict command items read (conflict_in items) k.unnamed e
  by_items read (Err fault) is e = absurd (err_ok Read fault read e)

  -- words that read in a request read so behind the program's name
  pub read_so : (read : Read) → reading command day those ≡ Ok read → program_reading command day those ≡ told unnamed read
  read_so read e = by_items read (items_of places.Request command day those) refl e
