-- Words one after another.
use Rattle.std.proofs.Common.{◌≡◌, ◌≤◌, ◌<◌, ℕ, Bool, true, false, List, [], ◌∷◌, map, length, Option, Some, None, IfSome, Result, Ok, Err, refl, sym, ap, ◌∙◌, subst, arith}
use Rattle.hl_base.specs.Gives.{Gives}
use Rattle.report_options.specs.Items.{is_end, is_option, left_of, piece_of, words}
use Rattle.command_words.specs.Said.{all_said, item_of, items_in, named_item, next_of, onto, option_name, pieces, plain_item, plain_items, put_first, takes_next, with_item}
use Rattle.command_words.specs.Usage.{usage_cause}
use Rattle.command_words.specs.declared.chores.Chore.{Chore}
use Rattle.command_words.specs.declared.items.Item.{Item}
use Rattle.command_words.specs.declared.said.Said.{Said}
use Rattle.command_words.specs.declared.usage.UsageFault.{UsageFault}

abbrev Reading : Type 0
Reading = Result Said UsageFault

onto_more : (said : Said) (item : Item) (rest : Result (List Item) UsageFault) → onto said (put_first (Ok item) rest) ≡ onto (with_item said item) rest
onto_more said item (Ok more) = refl
onto_more said item (Err fault) = refl

-- a word by itself
pub item_option : (chore : Chore) (word : List ℕ) (next : Option (List ℕ)) → is_option word ≡ true
    → item_of chore (piece_of word next) ≡ named_item chore (option_name word) word next
item_option chore word next e = rw e refl

pub item_plain : (chore : Chore) (word : List ℕ) (next : Option (List ℕ)) → is_option word ≡ false → item_of chore (piece_of word next) ≡ plain_item chore word
item_plain chore word next e = rw e refl

-- ---- words that are no options

plain_step : (chore : Chore) (word : List ℕ) (rest : List (List ℕ)) → plain_items chore (word ∷ rest) ≡ put_first (plain_item chore word) (plain_items chore rest)
unfolding plain_items
plain_step chore word rest = refl

-- the ways to go on and to end, over what is left
module _ (chore : Chore) (whole : Reading) (said : Said) (left : List (List ℕ)) (so_far : whole ≡ onto said (plain_items chore left)) where
  plain_here : (word : List ℕ) (rest : List (List ℕ)) → left ≡ word ∷ rest → whole ≡ onto said (put_first (plain_item chore word) (plain_items chore rest))
  plain_here word rest here =
      so_far ∙ ap (λ (l : List (List ℕ)). onto said (plain_items chore l)) here
      ∙ ap (λ (x : Result (List Item) UsageFault). onto said x) (plain_step chore word rest)

  pub plain_more : (word : List ℕ) (rest : List (List ℕ)) (item : Item) (more : Said) → left ≡ word ∷ rest → plain_item chore word ≡ Ok item → more ≡ with_item said item
      → whole ≡ onto more (plain_items chore rest)
  plain_more word rest item more here read is =
      plain_here word rest here ∙ ap (λ (x : Result Item UsageFault). onto said (put_first x (plain_items chore rest))) read
      ∙ onto_more said item (plain_items chore rest) ∙ ap (λ (s : Said). onto s (plain_items chore rest)) (sym is)

  plain_bad : (word : List ℕ) (rest : List (List ℕ)) (fault : UsageFault) → left ≡ word ∷ rest → plain_item chore word ≡ Err fault → whole ≡ Err fault
  plain_bad word rest fault here read =
      plain_here word rest here ∙ ap (λ (x : Result Item UsageFault). onto said (put_first x (plain_items chore rest))) read

  pub plain_told : (word : List ℕ) (rest : List (List ℕ)) → left ≡ word ∷ rest → (cause : Option UsageFault)
      → IfSome cause (λ fault. plain_item chore word ≡ Err fault) → IfSome cause (λ fault. whole ≡ Err fault)
  plain_told word rest here None told = tt
  plain_told word rest here (Some fault) told = plain_bad word rest fault here told

  pub plain_none : left ≡ [] → whole ≡ Ok said
  unfolding plain_items
  plain_none here = so_far ∙ ap (λ (l : List (List ℕ)). onto said (plain_items chore l)) here

-- ---- options too

-- the words from here on are a piece and what is left behind it
pieces_taken : (word next : List ℕ) (rest : List (List ℕ)) (taken : Bool) → takes_next word ≡ taken → is_end word ≡ false
    → pieces (word ∷ next ∷ rest) ≡ piece_of word (Some next) ∷ pieces (left_of (takes_next word) (next ∷ rest))
pieces_taken word next rest true e goes = rw (goes, e) refl
pieces_taken word next rest false e goes = rw (goes, e) refl

pieces_step : (word : List ℕ) (rest : List (List ℕ)) → is_end word ≡ false → pieces (word ∷ rest) ≡ piece_of word (next_of rest) ∷ pieces (left_of (takes_next word) rest)
pieces_step word [] goes = rw goes refl
pieces_step word (next ∷ rest) goes = pieces_taken word next rest (takes_next word) refl goes

pieces_end : (word : List ℕ) (rest : List (List ℕ)) → is_end word ≡ true → pieces (word ∷ rest) ≡ map words rest
pieces_end word [] end = rw end refl
pieces_end word (next ∷ rest) end = rw end refl

items_step : (chore : Chore) (word : List ℕ) (rest : List (List ℕ)) → is_end word ≡ false
    → items_in chore (word ∷ rest) ≡ put_first (item_of chore (piece_of word (next_of rest))) (items_in chore (left_of (takes_next word) rest))
unfolding items_in
items_step chore word rest goes = ap (λ ps. all_said (map (item_of chore) ps)) (pieces_step word rest goes)

words_plain : (chore : Chore) (rest : List (List ℕ)) → all_said (map (item_of chore) (map words rest)) ≡ plain_items chore rest
unfolding plain_items
words_plain chore [] = refl
words_plain chore (word ∷ rest) = ap (put_first (plain_item chore word)) (words_plain chore rest)

items_end : (chore : Chore) (word : List ℕ) (rest : List (List ℕ)) → is_end word ≡ true → items_in chore (word ∷ rest) ≡ plain_items chore rest
unfolding items_in
items_end chore word rest end = ap (λ ps. all_said (map (item_of chore) ps)) (pieces_end word rest end) ∙ words_plain chore rest

module _ (chore : Chore) (whole : Reading) (said : Said) (left : List (List ℕ)) (so_far : whole ≡ onto said (items_in chore left)) where
  -- no more options
  ended : (word : List ℕ) (rest : List (List ℕ)) → left ≡ word ∷ rest → is_end word ≡ true → whole ≡ onto said (plain_items chore rest)
  ended word rest here end =
      so_far ∙ ap (λ (l : List (List ℕ)). onto said (items_in chore l)) here
      ∙ ap (λ (x : Result (List Item) UsageFault). onto said x) (items_end chore word rest end)

  pub read_end : (word : List ℕ) (rest : List (List ℕ)) (r : Reading) → left ≡ word ∷ rest → is_end word ≡ true
      → Gives (λ (s : Said). s) usage_cause r (onto said (plain_items chore rest)) → Gives (λ (s : Said). s) usage_cause r whole
  read_end word rest r here end told =
      let F : Reading → Type 0 = λ x. Gives (λ (s : Said). s) usage_cause r x in
      subst F (sym (ended word rest here end)) told

  read_here : (word : List ℕ) (rest : List (List ℕ)) → left ≡ word ∷ rest → is_end word ≡ false
      → whole ≡ onto said (put_first (item_of chore (piece_of word (next_of rest))) (items_in chore (left_of (takes_next word) rest)))
  read_here word rest here goes =
      so_far ∙ ap (λ (l : List (List ℕ)). onto said (items_in chore l)) here
      ∙ ap (λ (x : Result (List Item) UsageFault). onto said x) (items_step chore word rest goes)

  pub read_more : (word : List ℕ) (rest : List (List ℕ)) (item : Item) (more : Said) → left ≡ word ∷ rest → is_end word ≡ false
      → item_of chore (piece_of word (next_of rest)) ≡ Ok item → more ≡ with_item said item → whole ≡ onto more (items_in chore (left_of (takes_next word) rest))
  read_more word rest item more here goes read is =
      read_here word rest here goes
      ∙ ap (λ (x : Result Item UsageFault). onto said (put_first x (items_in chore (left_of (takes_next word) rest)))) read
      ∙ onto_more said item (items_in chore (left_of (takes_next word) rest)) ∙ ap (λ (s : Said). onto s (items_in chore (left_of (takes_next word) rest))) (sym is)

  read_bad : (word : List ℕ) (rest : List (List ℕ)) (fault : UsageFault) → left ≡ word ∷ rest → is_end word ≡ false
      → item_of chore (piece_of word (next_of rest)) ≡ Err fault → whole ≡ Err fault
  read_bad word rest fault here goes read =
      read_here word rest here goes
      ∙ ap (λ (x : Result Item UsageFault). onto said (put_first x (items_in chore (left_of (takes_next word) rest)))) read

  pub read_told : (word : List ℕ) (rest : List (List ℕ)) → left ≡ word ∷ rest → is_end word ≡ false → (cause : Option UsageFault)
      → IfSome cause (λ fault. item_of chore (piece_of word (next_of rest)) ≡ Err fault) → IfSome cause (λ fault. whole ≡ Err fault)
  read_told word rest here goes None told = tt
  read_told word rest here goes (Some fault) told = read_bad word rest fault here goes told

  pub read_none : left ≡ [] → whole ≡ Ok said
  unfolding items_in
  read_none here = so_far ∙ ap (λ (l : List (List ℕ)). onto said (items_in chore l)) here

-- what is left behind a word and its value is no longer
left_by : (word next : List ℕ) (rest : List (List ℕ)) (taken : Bool) → takes_next word ≡ taken → length (left_of (takes_next word) (next ∷ rest)) ≤ length (next ∷ rest)
left_by word next rest true e = rw e (omega arith)
left_by word next rest false e = rw e (omega arith)

left_length : (word : List ℕ) (rest : List (List ℕ)) → length (left_of (takes_next word) rest) ≤ length rest
left_length word [] = omega arith
left_length word (next ∷ rest) = left_by word next rest (takes_next word) refl

pub left_shorter : (word : List ℕ) (left rest : List (List ℕ)) → left ≡ word ∷ rest → length (left_of (takes_next word) rest) < length left
left_shorter word left rest here = rw here (omega (arith, left_length word rest))
