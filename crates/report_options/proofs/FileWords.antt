-- What words say in a request, they say behind the program's name with `-f` and a name in front of them, of that file.
use Rattle.std.proofs.Common.{◌≡◌, ℕ, Bool, true, false, cond, List, [], ◌∷◌, ◌++◌, map, find, reverse, codes, Option, Some, None, Result, Ok, Err, IfOk, IfErr, if◌then◌else◌, refl, ap, sym, ◌∙◌, subst}
use Rattle.std.specs.List.{AllByRecursion}
use Rattle.std.proofs.lemmas.Bool.{false≢true}
use Rattle.std.specs.Option.{option_or}
use mathlib.Core.List.{reverse-cons}
use Rattle.report_options.specs.Conflicts.{clash_among, conflict_in, fault_of, is_clash, pairs_after}
use Rattle.report_options.specs.Items.{Piece, option, all_read, item_of, items_in, items_of, pieces, put_first, sheet_item, with_sheet, with_value}
use Rattle.report_options.specs.Names.{has_columns, intervals, is_among, is_sheet, name_of as option_named}
use Rattle.report_options.specs.Options.{days_of, depth_of, end_in, from_in, has, interval_in, judged, latest, options_of, query_words, reading, reading_of, start, unless_conflict, worth_of}
use Rattle.report_options.specs.Programs.{NamesNoJournal, given_of, name_of, program_reading, program_reading_of}
use Rattle.report_options.specs.declared.command.Command.{Command}
use Rattle.report_options.specs.declared.command.Command.TheVariants as commands
use Rattle.report_options.specs.declared.fault.OptionFault.{OptionFault}
use Rattle.report_options.specs.declared.items.Item.{Item}
use Rattle.report_options.specs.declared.names.Name.{Name}
use Rattle.report_options.specs.declared.names.Name.TheVariants as names
use Rattle.report_options.specs.declared.names.Place.TheVariants as places
use Rattle.report_options.specs.declared.options.Options.{Options}
use Rattle.report_options.specs.declared.program.Given.{Given}
use Rattle.report_options.specs.declared.values.Value.TheVariants as values
use Rattle.report_options.proofs.Clashing.{clash_append}
use Rattle.report_options.proofs.Refused.{same_read}
use Rattle.report_options.proofs.Requests.{Read, Unnaming, Unnamings, no_file, no_store, told, turned, words_kept}

abbrev read_items : List Item → Result (List Item) OptionFault
read_items items = Ok items

abbrev file_item : List ℕ → Item
file_item name = record { word = codes "-f"; name = names.File; value = values.Named name }

-- ---- the words are one item more

pieces_are : (name : List ℕ) (those : List (List ℕ)) → pieces (codes "-f" ∷ name ∷ those) ≡ option (codes "-f") (Some name) ∷ pieces those
unfolding option_named
pieces_are name those = refl

item_is : (command : Command) (day : ℕ) (name : List ℕ) → item_of places.Program command day (option (codes "-f") (Some name)) ≡ Ok (file_item name)
unfolding option_named
item_is command day name = refl

abbrev put : Item → Result (List Item) OptionFault → Result (List Item) OptionFault
put item r = put_first (Ok item) r

put_by : (b : Bool) (item : Item) (inner : List Item) → (if b then (item ∷ inner) ++ sheet_item ∷ [] else item ∷ inner) ≡ item ∷ (if b then inner ++ sheet_item ∷ [] else inner)
put_by true item inner = refl
put_by false item inner = refl

with_sheet_too : (command : Command) (item : Item) (r : Result (List Item) OptionFault) → with_sheet command (put item r) ≡ put item (with_sheet command r)
with_sheet_too command item (Ok inner) = ap (λ (items : List Item). read_items items) (put_by (is_sheet command) item inner)
with_sheet_too command item (Err fault) = refl

items_are : (command : Command) (day : ℕ) (name : List ℕ) (those : List (List ℕ))
    → items_of places.Program command day (codes "-f" ∷ name ∷ those) ≡ put (file_item name) (items_of places.Program command day those)
unfolding items_in
items_are command day name those =
    let behind = all_read (map (item_of places.Program command day) (pieces those)) in
    let read : all_read (map (item_of places.Program command day) (pieces (codes "-f" ∷ name ∷ those))) ≡ put (file_item name) behind =
    ap (λ (ps : List Piece). all_read (map (item_of places.Program command day) ps)) (pieces_are name those)
    ∙ ap (λ (r : Result Item OptionFault). put_first r behind) (item_is command day name) in
    ap (λ (r : Result (List Item) OptionFault). with_sheet command r) read ∙ with_sheet_too command (file_item name) behind

-- ---- it excludes none of the others

apart : (n : Name) → Unnaming n → is_clash names.File n ≡ false
apart names.Word is = refl
apart names.Sheet is = refl
apart names.Begin is = refl
apart names.End is = refl
apart names.Period is = refl
apart names.Depth is = refl
apart names.Exchange is = refl
apart names.Value is = refl
apart names.Forecast is = refl
apart names.Daily is = refl
apart names.Weekly is = refl
apart names.Monthly is = refl
apart names.Quarterly is = refl
apart names.Yearly is = refl
apart names.Unmarked is = refl
apart names.Pending is = refl
apart names.Cleared is = refl
apart names.Real is = refl
apart names.Empty is = refl
apart names.Cost is = refl
apart names.Market is = refl
apart names.Auto is = refl
apart names.Historical is = refl
apart names.Cumulative is = refl
apart names.Change is = refl
apart names.Budget is = refl
apart names.Explicit is = refl
apart names.Flat is = refl
apart names.Tree is = refl
apart names.Average is = refl
apart names.RowTotal is = refl
apart names.NoTotal is = refl
apart names.SortAmount is = refl
apart names.File is = absurd (false≢true (sym is.file))
apart names.Store is = absurd (false≢true (sym is.store))

abbrev with_later : Item → Item → Item × Item
with_later later earlier = (earlier, later)

find_skips : (p : Item × Item → Bool) (pair : Item × Item) (pairs : List (Item × Item)) → p pair ≡ false → find p (pair ∷ pairs) ≡ find p pairs
find_skips p pair pairs is = ap (λ (b : Bool). cond b (Some pair) (find p pairs)) is

clash_apart : (item : Item) (before rest : List Item) → item.name ≡ names.File → Unnamings rest → clash_among (pairs_after (item ∷ before) rest) ≡ clash_among (pairs_after before rest)
clash_apart item before [] is all = refl
clash_apart item before (later ∷ rest) is all =
    let here = map (with_later later) before in
    find_skips (λ pair. is_clash pair.0.name pair.1.name) (item, later) (here ++ pairs_after (item ∷ (before ++ later ∷ [])) rest)
    (ap (λ (n : Name). is_clash n later.name) is ∙ apart later.name all.0)
    ∙ clash_append here (pairs_after (item ∷ (before ++ later ∷ [])) rest)
    ∙ ap (λ (o : Option (Item × Item)). option_or (clash_among here) o) (clash_apart item (before ++ later ∷ []) rest is all.1)
    ∙ sym (clash_append here (pairs_after (before ++ later ∷ []) rest))

conflict_apart : (name : List ℕ) (items : List Item) → Unnamings items → conflict_in (file_item name ∷ items) ≡ conflict_in items
unfolding conflict_in
conflict_apart name items all = ap fault_of (clash_apart (file_item name) [] items refl all)

-- ---- and says nothing but the file

find_end : (p : Item → Bool) (items : List Item) (item : Item) → p item ≡ false → find p (items ++ item ∷ []) ≡ find p items
find_end p [] item is = ap (λ (b : Bool). cond b (Some item) None) is
find_end p (x ∷ xs) item is = ap (λ (o : Option Item). cond (p x) (Some x) o) (find_end p xs item is)

find_last_by : (b : Bool) (x item : Item) (rest more : Option Item) → (rest ≡ None → more ≡ Some item) → cond b (Some x) rest ≡ None → cond b (Some x) more ≡ Some item
find_last_by true x item rest more go none = absurd (some_none none)
  where
    some_none : Some x ≡ None → ⊥
    some_none e = cc
find_last_by false x item rest more go none = go none

find_last : (p : Item → Bool) (items : List Item) (item : Item) → find p items ≡ None → p item ≡ true → find p (items ++ item ∷ []) ≡ Some item
find_last p [] item none is = ap (λ (b : Bool). cond b (Some item) None) is
find_last p (x ∷ xs) item none is =
    find_last_by (p x) x item (find p xs) (find p (xs ++ item ∷ [])) (λ n. find_last p xs item n is) none

module _ (name : List ℕ) (items : List Item) where
  abbrev more : List Item
  more = file_item name ∷ items

  latest_apart : (those : List Name) → is_among names.File those ≡ false → latest more those ≡ latest items those
  latest_apart those is =
      ap (λ (l : List Item). find (λ item. is_among item.name those) l) (reverse-cons (file_item name) items)
      ∙ find_end (λ item. is_among item.name those) (reverse items) (file_item name) is

  options_apart : (command : Command) → options_of command more ≡ options_of command items
  options_apart command =
      let both = latest_apart (names.Period ∷ intervals) refl in
      let each = latest_apart intervals refl in
      let period = latest_apart (names.Period ∷ []) refl in
      let begin = latest_apart (names.Begin ∷ []) refl in
      let end = latest_apart (names.End ∷ []) refl in
      let deep = latest_apart (names.Depth ∷ []) refl in
      let worth = latest_apart (names.Market ∷ names.Exchange ∷ names.Value ∷ []) refl in
      let forecast = latest_apart (names.Forecast ∷ []) refl in
      λ i. record {
        command = command;
        bounds = record {
          from = option_or (from_in (days_of (begin i))) (from_in (days_of (period i)));
          end = option_or (end_in (days_of (end i))) (end_in (days_of (period i)));
          interval = if has_columns command then option_or (interval_in (days_of (both i))) (interval_in (days_of (each i))) else None;
        };
        unmarked = has items names.Unmarked;
        pending = has items names.Pending;
        cleared = has items names.Cleared;
        real_only = has items names.Real;
        empty = has items names.Empty;
        depth = depth_of (deep i);
        cost = has items names.Cost;
        value = worth_of (worth i);
        auto = has items names.Auto;
        forecast = days_of (forecast i);
        start = start command items;
        tree = has items names.Tree;
        average = has items names.Average;
        row_total = has items names.RowTotal;
        no_total = has items names.NoTotal;
        sort_amount = has items names.SortAmount;
        budget = has items names.Budget;
        explicit = has items names.Explicit;
      }

  journal_is : Unnamings items → given_of more ≡ record { file = Some name; store = None }
  journal_is all =
      let back = turned items all in
      let turn = reverse-cons (file_item name) items in
      let file : latest more (names.File ∷ []) ≡ Some (file_item name) =
      ap (λ (l : List Item). find (λ item. is_among item.name (names.File ∷ [])) l) turn
      ∙ find_last (λ item. is_among item.name (names.File ∷ [])) (reverse items) (file_item name) (no_file (reverse items) back) refl in
      let store : latest more (names.Store ∷ []) ≡ None = latest_apart (names.Store ∷ []) refl ∙ no_store (reverse items) back in
      λ i. record { file = name_of (file i); store = name_of (store i) }

-- ---- the words

abbrev told_of : Given → Result Read OptionFault → Result (Given × Options × List (List ℕ)) OptionFault
told_of given (Ok read) = told given read
told_of given (Err fault) = Err fault

module _ (command : Command) (day : ℕ) (name : List ℕ) where
  abbrev of_file : Given
  of_file = record { file = Some name; store = None }

  unless_so : (items : List Item) (c : Option OptionFault) → Unnamings items
      → program_reading_of command (unless_conflict (file_item name ∷ items) c) ≡ told_of of_file (reading_of command (unless_conflict items c))
  unless_so items None all = λ i. told (journal_is name items all i) (options_apart name items command i, query_words items)
  unless_so items (Some fault) all = refl

  judged_so : (items : List Item) → Unnamings items
      → program_reading_of command (judged (Ok (file_item name ∷ items))) ≡ told_of of_file (reading_of command (judged (Ok items)))
  judged_so items all =
      ap (λ (c : Option OptionFault). program_reading_of command (unless_conflict (file_item name ∷ items) c)) (conflict_apart name items all)
      ∙ unless_so items (conflict_in items) all

  module _ (those : List (List ℕ)) where
    abbrev IsRead : Result (Given × Options × List (List ℕ)) OptionFault → Type 0
    IsRead r = program_reading command day (codes "-f" ∷ name ∷ those) ≡ r

    abbrev Asked : Result (List Item) OptionFault
    Asked = items_of places.Request command day those

    -- of words whose items are these, whatever the conflict
    from_items : (items : List Item) → Asked ≡ Ok items → IsRead (told_of of_file (reading command day those))
    from_items items is =
        let k = words_kept command day those items is in
        ap (λ (r : Result (List Item) OptionFault). program_reading_of command (judged r))
        (items_are command day name those ∙ ap (λ (r : Result (List Item) OptionFault). put (file_item name) r) k.read)
        ∙ judged_so items k.unnamed
        ∙ sym (ap (λ (r : Result (List Item) OptionFault). told_of of_file (reading_of command (judged r))) is)

    -- of words one of which doesn't read, and of which none names a journal
    from_fault : (fault : OptionFault) → Asked ≡ Err fault → AllByRecursion NamesNoJournal those → IsRead (told_of of_file (reading command day those))
    from_fault fault is none =
        ap (λ (r : Result (List Item) OptionFault). program_reading_of command (judged r))
        (items_are command day name those ∙ ap (λ (r : Result (List Item) OptionFault). put (file_item name) r) (sym (same_read command day those none) ∙ is))
        ∙ sym (ap (λ (r : Result (List Item) OptionFault). told_of of_file (reading_of command (judged r))) is)

    if_ok : (r : Result Read OptionFault) → IsRead (told_of of_file r) → IfOk r (λ read. IsRead (told of_file read))
    if_ok (Ok read) is = is
    if_ok (Err fault) is = tt

    if_err : (r : Result Read OptionFault) → IsRead (told_of of_file r) → IfErr r (λ fault. IsRead (Err fault))
    if_err (Ok read) is = tt
    if_err (Err fault) is = is

    by_items : (r : Result (List Item) OptionFault) → Asked ≡ r → IfOk (reading command day those) (λ read. IsRead (told of_file read))
    by_items (Ok items) is = if_ok (reading command day those) (from_items items is)
    by_items (Err fault) is =
        subst (λ (r : Result (List Item) OptionFault). IfOk (reading_of command (judged r)) (λ read. IsRead (told of_file read))) (sym is) tt

    by_fault : (r : Result (List Item) OptionFault) → Asked ≡ r → AllByRecursion NamesNoJournal those → IfErr (reading command day those) (λ fault. IsRead (Err fault))
    by_fault (Ok items) is none = if_err (reading command day those) (from_items items is)
    by_fault (Err fault) is none = if_err (reading command day those) (from_fault fault is none)

-- words that a request reads say the same of the file that stands in front of them
pub read_of_file : (command : Command) (day : ℕ) (name : List ℕ) (those : List (List ℕ))
    → IfOk (reading command day those) (λ read. program_reading command day (codes "-f" ∷ name ∷ those) ≡ Ok (record { file = Some name; store = None }, read.0, read.1))
read_of_file command day name those = by_items command day name those (items_of places.Request command day those) refl

-- and words of which none names a journal are refused so
pub refused_of_file : (command : Command) (day : ℕ) (name : List ℕ) (those : List (List ℕ)) → AllByRecursion NamesNoJournal those
    → IfErr (reading command day those) (λ fault. program_reading command day (codes "-f" ∷ name ∷ those) ≡ Err fault)
refused_of_file command day name those none = by_fault command day name those (items_of places.Request command day those) refl none
