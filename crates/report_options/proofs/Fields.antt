-- Items that are walked for the fields of the options.
use Rattle.std.proofs.Common.{◌≡◌, ℕ, ◌+◌, ◌<◌, Bool, true, false, List, [], ◌∷◌, ◌++◌, find, reverse, take, length, get_or, Some, None, Result, Ok, Err, refl, sym, ap, ◌∙◌}
use Rattle.std.proofs.lemmas.List.{take_more, reverse-append}
use Rattle.report_options.specs.Names.{is_among, is_same_name}
use Rattle.report_options.specs.Conflicts.{conflict_in}
use Rattle.report_options.specs.Options.{latest, query_words, options_of, judged, reading_of}
use Rattle.report_options.specs.Programs.{given_of, program_reading_of}
use Rattle.report_options.specs.declared.command.Command.{Command}
use Rattle.report_options.specs.declared.fault.OptionFault.{OptionFault}
use Rattle.report_options.specs.declared.items.Item.{Item}
use Rattle.report_options.specs.declared.names.Name.{Name}
use Rattle.report_options.specs.declared.names.Name.TheVariants as names

latest_by : (items older : List Item) (last : Item) (those : List Name) → items ≡ older ++ last ∷ [] → latest items those ≡ find (λ item. is_among item.name those) (last ∷ reverse older)
latest_by items older last those e = ap (λ l. find (λ item. is_among item.name those) l) (ap reverse e ∙ reverse-append older (last ∷ []))

-- the last item is one of the options, or the last of the older ones counts
pub latest_found : (items older : List Item) (last : Item) (those : List Name) → items ≡ older ++ last ∷ [] → is_among last.name those ≡ true → latest items those ≡ Some last
latest_found items older last those e is = latest_by items older last those e ∙ rw is refl

pub latest_older : (items older : List Item) (last : Item) (those : List Name) → items ≡ older ++ last ∷ [] → is_among last.name those ≡ false → latest items those ≡ latest older those
latest_older items older last those e is = latest_by items older last those e ∙ rw is refl

kept_last : (items : List Item) (item : Item) → is_same_name item.name names.Word ≡ true → query_words (items ++ item ∷ []) ≡ query_words items ++ item.word ∷ []
kept_last [] item e = rw e refl
kept_last (other ∷ items) item e = kept_by other items item (is_same_name other.name names.Word) refl (kept_last items item e)
  where
    kept_by : (other : Item) (items : List Item) (item : Item) (b : Bool) → is_same_name other.name names.Word ≡ b → query_words (items ++ item ∷ []) ≡ query_words items ++ item.word ∷ [] → query_words (other ∷ items ++ item ∷ []) ≡ query_words (other ∷ items) ++ item.word ∷ []
    kept_by other items item true e h = rw e (ap (λ l. other.word ∷ l) h)
    kept_by other items item false e h = rw e h

passed_last : (items : List Item) (item : Item) → is_same_name item.name names.Word ≡ false → query_words (items ++ item ∷ []) ≡ query_words items
passed_last [] item e = rw e refl
passed_last (other ∷ items) item e = passed_by other items item (is_same_name other.name names.Word) refl (passed_last items item e)
  where
    passed_by : (other : Item) (items : List Item) (item : Item) (b : Bool) → is_same_name other.name names.Word ≡ b → query_words (items ++ item ∷ []) ≡ query_words items → query_words (other ∷ items ++ item ∷ []) ≡ query_words (other ∷ items)
    passed_by other items item true e h = rw e (ap (λ l. other.word ∷ l) h)
    passed_by other items item false e h = rw e h

taken : (items : List Item) (i : ℕ) (item : Item) → i < length items → item ≡ get_or items i item → take (i + 1) items ≡ take i items ++ item ∷ []
taken items i item lt is = take_more items i item lt ∙ ap (λ x. take i items ++ x ∷ []) (sym is)

-- one more item, which is a word of the query or isn't
pub word_more : (items : List Item) (i : ℕ) (item : Item) (found next : List (List ℕ)) → found ≡ query_words (take i items) → i < length items → item ≡ get_or items i item → is_same_name item.name names.Word ≡ true → next ≡ found ++ item.word ∷ [] → next ≡ query_words (take (i + 1) items)
word_more items i item found next so_far lt is word pushed =
    pushed ∙ ap (λ l. l ++ item.word ∷ []) so_far ∙ sym (kept_last (take i items) item word) ∙ ap query_words (sym (taken items i item lt is))

pub word_passed : (items : List Item) (i : ℕ) (item : Item) (found : List (List ℕ)) → found ≡ query_words (take i items) → i < length items → item ≡ get_or items i item → is_same_name item.name names.Word ≡ false → found ≡ query_words (take (i + 1) items)
word_passed items i item found so_far lt is other =
    so_far ∙ sym (passed_last (take i items) item other) ∙ ap query_words (sym (taken items i item lt is))

-- the ways in which items are judged
module _ (read : Result (List Item) OptionFault) where
  pub judged_bad : (fault : OptionFault) → read ≡ Err fault → judged read ≡ Err fault
  judged_bad fault e = rw e refl

  pub judged_clash : (items : List Item) (fault : OptionFault) → read ≡ Ok items → conflict_in items ≡ Some fault → judged read ≡ Err fault
  judged_clash items fault e clash = rw (e, clash) refl

  pub judged_read : (items : List Item) → read ≡ Ok items → conflict_in items ≡ None → judged read ≡ Ok items
  judged_read items e none = rw (e, none) refl

-- the ways in which words read
module _ (command : Command) (read : Result (List Item) OptionFault) where
  pub reading_bad : (fault : OptionFault) → read ≡ Err fault → reading_of command read ≡ Err fault
  reading_bad fault e = rw e refl

  pub reading_read : (items : List Item) → read ≡ Ok items → reading_of command read ≡ Ok (options_of command items, query_words items)
  reading_read items e = rw e refl

  pub program_bad : (fault : OptionFault) → read ≡ Err fault → program_reading_of command read ≡ Err fault
  program_bad fault e = rw e refl

  pub program_read : (items : List Item) → read ≡ Ok items → program_reading_of command read ≡ Ok (given_of items, options_of command items, query_words items)
  program_read items e = rw e refl
