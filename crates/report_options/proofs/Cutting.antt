-- Words cut piece by piece.
use Rattle.std.proofs.Common.{◌≡◌, ℕ, Bool, true, false, List, [], ◌∷◌, ◌++◌, map, length, ◌≤◌, ◌<◌, ◌+◌, get_or, take, Option, Some, None, IfSome, Result, Ok, Err, refl, sym, ap, ◌∙◌, append_assoc, arith}
use Rattle.std.proofs.lemmas.List.{take_more}
use Rattle.report_options.specs.Items.{is_end, takes_next, piece_of, pieces, item_of, query_word, put_first, all_read, items_in, next_of, left_of, words, with_sheet, sheet_item, option_name, has_value, after_equals, with_value, valued, next_valued}
use Rattle.report_options.specs.Names.{takes_value, is_sheet}
use Rattle.report_options.specs.Values.{bare_value, written_value}
use Rattle.report_options.specs.declared.command.Command.{Command}
use Rattle.report_options.specs.declared.fault.OptionFault.{OptionFault}
use Rattle.report_options.specs.declared.items.Item.{Item}
use Rattle.report_options.specs.declared.names.Place.{Place}

-- items before those that are read
abbrev pub behind : List Item → Result (List Item) OptionFault → Result (List Item) OptionFault
behind items (Ok more) = Ok (items ++ more)
behind items (Err fault) = Err fault

append_none : (items : List Item) → items ++ [] ≡ items
append_none [] = refl
append_none (item ∷ items) = ap (λ l. item ∷ l) (append_none items)

pub behind_nothing : (rest : Result (List Item) OptionFault) → rest ≡ behind [] rest
behind_nothing (Ok more) = refl
behind_nothing (Err fault) = refl

behind_more : (items : List Item) (item : Item) (rest : Result (List Item) OptionFault) → behind items (put_first (Ok item) rest) ≡ behind (items ++ item ∷ []) rest
behind_more items item (Ok more) = ap (λ l. Ok l) (sym (append_assoc items (item ∷ []) more))
behind_more items item (Err fault) = refl

-- the words from here on are a piece and what is left behind it
pieces_taken : (word next : List ℕ) (rest : List (List ℕ)) (taken : Bool) → takes_next word ≡ taken → is_end word ≡ false → pieces (word ∷ next ∷ rest) ≡ piece_of word (next_of word (next ∷ rest)) ∷ pieces (left_of (takes_next word) (next ∷ rest))
pieces_taken word next rest true e goes = rw (goes, e) refl
pieces_taken word next rest false e goes = rw (goes, e) refl

pieces_step : (word : List ℕ) (rest : List (List ℕ)) → is_end word ≡ false → pieces (word ∷ rest) ≡ piece_of word (next_of word rest) ∷ pieces (left_of (takes_next word) rest)
pieces_step word [] goes = rw goes refl
pieces_step word (next ∷ rest) goes = pieces_taken word next rest (takes_next word) refl goes

pieces_end : (word : List ℕ) (rest : List (List ℕ)) → is_end word ≡ true → pieces (word ∷ rest) ≡ map words rest
pieces_end word [] end = rw end refl
pieces_end word (next ∷ rest) end = rw end refl

pub items_step : (place : Place) (command : Command) (day : ℕ) (word : List ℕ) (rest : List (List ℕ)) → is_end word ≡ false → items_in place command day (word ∷ rest) ≡ put_first (item_of place command day (piece_of word (next_of word rest))) (items_in place command day (left_of (takes_next word) rest))
unfolding items_in
items_step place command day word rest goes = ap (λ ps. all_read (map (item_of place command day) ps)) (pieces_step word rest goes)

words_read : (place : Place) (command : Command) (day : ℕ) (rest : List (List ℕ)) → all_read (map (item_of place command day) (map words rest)) ≡ Ok (map query_word rest)
words_read place command day [] = refl
words_read place command day (word ∷ rest) = ap (put_first (Ok (query_word word))) (words_read place command day rest)

items_end : (place : Place) (command : Command) (day : ℕ) (word : List ℕ) (rest : List (List ℕ)) → is_end word ≡ true → items_in place command day (word ∷ rest) ≡ Ok (map query_word rest)
unfolding items_in
items_end place command day word rest end =
    ap (λ ps. all_read (map (item_of place command day) ps)) (pieces_end word rest end) ∙ words_read place command day rest

-- the ways to go on and to end, over what is left
module _ (place : Place) (command : Command) (day : ℕ) (whole : Result (List Item) OptionFault) (items : List Item) (left : List (List ℕ)) (so_far : whole ≡ behind items (items_in place command day left)) where
  pub read_end : (word : List ℕ) (rest : List (List ℕ)) → left ≡ word ∷ rest → is_end word ≡ true → whole ≡ Ok (items ++ map query_word rest)
  read_end word rest here end = rw (so_far, here, items_end place command day word rest end) refl

  pub read_more : (word : List ℕ) (rest : List (List ℕ)) (item : Item) → left ≡ word ∷ rest → is_end word ≡ false → item_of place command day (piece_of word (next_of word rest)) ≡ Ok item → whole ≡ behind (items ++ item ∷ []) (items_in place command day (left_of (takes_next word) rest))
  read_more word rest item here goes read =
      rw (so_far, here, items_step place command day word rest goes, read) (behind_more items item (items_in place command day (left_of (takes_next word) rest)))

  pub read_bad : (word : List ℕ) (rest : List (List ℕ)) (fault : OptionFault) → left ≡ word ∷ rest → is_end word ≡ false → item_of place command day (piece_of word (next_of word rest)) ≡ Err fault → whole ≡ Err fault
  read_bad word rest fault here goes read = rw (so_far, here, items_step place command day word rest goes, read) refl

  -- the fault of a word that doesn't read is that of all, if it is told
  pub bad_told : (word : List ℕ) (rest : List (List ℕ)) → left ≡ word ∷ rest → is_end word ≡ false → (cause : Option OptionFault) → IfSome cause (λ fault. item_of place command day (piece_of word (next_of word rest)) ≡ Err fault) → IfSome cause (λ fault. whole ≡ Err fault)
  bad_told word rest here goes None told = tt
  bad_told word rest here goes (Some fault) told = read_bad word rest fault here goes told

  pub read_all : left ≡ [] → whole ≡ Ok items
  unfolding items_in
  read_all here = rw (so_far, here) (ap (λ l. Ok l) (append_none items))

-- what is left behind a word and its value is no longer
left_by : (word next : List ℕ) (rest : List (List ℕ)) (taken : Bool) → takes_next word ≡ taken → length (left_of (takes_next word) (next ∷ rest)) ≤ length (next ∷ rest)
left_by word next rest true e = rw e (omega arith)
left_by word next rest false e = rw e (omega arith)

left_length : (word : List ℕ) (rest : List (List ℕ)) → length (left_of (takes_next word) rest) ≤ length rest
left_length word [] = omega arith
left_length word (next ∷ rest) = left_by word next rest (takes_next word) refl

pub left_shorter : (word : List ℕ) (left rest : List (List ℕ)) → left ≡ word ∷ rest → length (left_of (takes_next word) rest) < length left
left_shorter word left rest here = rw here (omega (arith, left_length word rest))

-- the value of an option by where it stands
next_none : (word : List ℕ) (rest : List (List ℕ)) → takes_next word ≡ false → next_of word rest ≡ None
next_none word [] e = refl
next_none word (next ∷ rest) e = rw e refl

own_takes : (word : List ℕ) (b : Bool) → takes_value (option_name word) ≡ b → has_value word ≡ true → takes_next word ≡ false
own_takes word true t e = rw (t, e) refl
own_takes word false t e = rw t refl

pub valued_own : (day : ℕ) (word : List ℕ) (rest : List (List ℕ)) → has_value word ≡ true → valued day word (next_of word rest) ≡ with_value word word (option_name word) (written_value day (option_name word) (after_equals word))
valued_own day word rest e =
    rw (next_none word rest (own_takes word (takes_value (option_name word)) refl e), e) refl

pub valued_bare : (day : ℕ) (word : List ℕ) (rest : List (List ℕ)) → has_value word ≡ false → takes_value (option_name word) ≡ false → valued day word (next_of word rest) ≡ with_value word word (option_name word) (bare_value (option_name word))
valued_bare day word rest e t =
    let no_next : takes_next word ≡ false = rw t refl in
    rw (next_none word rest no_next, e) refl

pub valued_next : (day : ℕ) (word : List ℕ) (rest : List (List ℕ)) → has_value word ≡ false → takes_value (option_name word) ≡ true → valued day word (next_of word rest) ≡ next_valued day word (option_name word) rest
valued_next day word [] e t = rw e refl
valued_next day word (next ∷ rest) e t =
    let takes : takes_next word ≡ true = rw (t, e) refl in
    rw (takes, e) refl

map_last : (ws : List (List ℕ)) (w : List ℕ) → map query_word (ws ++ w ∷ []) ≡ map query_word ws ++ query_word w ∷ []
map_last [] w = refl
map_last (v ∷ vs) w = ap (λ l. query_word v ∷ l) (map_last vs w)

-- one more word of the query behind the items
pub pushed_more : (start now next : List Item) (those : List (List ℕ)) (i : ℕ) (word : List ℕ) → now ≡ start ++ map query_word (take i those) → i < length those → word ≡ get_or those i word → next ≡ now ++ query_word word ∷ [] → next ≡ start ++ map query_word (take (i + 1) those)
pushed_more start now next those i word so_far lt is pushed =
    pushed ∙ ap (λ l. l ++ query_word word ∷ []) so_far ∙ append_assoc start (map query_word (take i those)) (query_word word ∷ [])
    ∙ ap (λ l. start ++ l) (sym (map_last (take i those) word) ∙ ap (map query_word) (sym (take_more those i word lt ∙ ap (λ w. take i those ++ w ∷ []) (sym is))))

-- balancesheet stands last
pub with_sheet_last : (command : Command) (read : Result (List Item) OptionFault) (items : List Item) → read ≡ Ok items → is_sheet command ≡ true → with_sheet command read ≡ Ok (items ++ sheet_item ∷ [])
with_sheet_last command read items e sheet = rw (e, sheet) refl

pub without_sheet : (command : Command) (read : Result (List Item) OptionFault) (items : List Item) → read ≡ Ok items → is_sheet command ≡ false → with_sheet command read ≡ Ok items
without_sheet command read items e sheet = rw (e, sheet) refl

pub fault_stays : (command : Command) (read : Result (List Item) OptionFault) (fault : OptionFault) → read ≡ Err fault → with_sheet command read ≡ Err fault
fault_stays command read fault e = rw e refl
