-- The steps of loops over declarations, names and lines.
use Rattle.std.proofs.Common.{◌≡◌, ℕ, ◌+◌, ◌<◌, ◌≤◌, Bool, true, false, not, ◌&&◌, ◌||◌, List, length, get_or, drop, map, Option, Some, None, sym, ap, subst, ◌∙◌}
use Rattle.std.specs.List.{find, flat_map, list_any}
use Rattle.std.specs.Option.{option_map, option_to_list}
use Rattle.std.specs.Str.{bytes_eq}
use Rattle.std.proofs.lemmas.Bool.{false≢true}
use Rattle.book.specs.declared.item.Placed.{Placed}
use Rattle.book.specs.declared.transaction.Posting.{Posting}
use Rattle.book.specs.declared.transaction.Tag.{Tag}
use Rattle.book.specs.declared.transaction.Txn.{Txn}
use Rattle.entry_reader.specs.Contexts.{Context}
use Rattle.book_care.specs.Asked.{Asked, entries_in, entries_of, means_of}
use Rattle.book_care.specs.Declarations.{declared_in, declared_of}
use Rattle.book_care.specs.Judged.{is_bare, is_fine}
use Rattle.book_care.specs.Lines.{Moved}
use Rattle.book_care.specs.Reads.{reads_back}
use Rattle.book_care.specs.Uses.{Use, amount_symbol, cost_symbol, wanted_symbol, symbols_in, head_names, in_line, lacks, is_lacking, posting_uses, tag_names, uses_in, uses_of}
use Rattle.book_care.specs.declared.declarations.Declared.{Declared}
use Rattle.book_care.specs.declared.faults.Check.{Check}
use Rattle.book_care.proofs.Finding.{item_here, item_more, item_none, named_here, named_more, named_none, part_here, part_more, part_none, of_two_first, of_two_second, of_three_first, of_three_second, of_three_third, find_in_line}
use Rattle.book_care.proofs.Naming.{any_more, any_all, one_more, one_all}

-- ---- declarations

pub declared_more : (whole old new : Bool) (check : Check) (items : List Placed) (i : ℕ) (p : Placed) (q : List ℕ) → whole ≡ (list_any (bytes_eq q) (declared_of check (drop i items)) || old) → i < length items → p ≡ get_or items i p → new ≡ (list_any (bytes_eq q) (declared_in check p.item) || old) → whole ≡ (list_any (bytes_eq q) (declared_of check (drop (i + 1) items)) || new)
declared_more whole old new check items i p q e lt is n =
    any_more (λ (x : Placed). declared_in check x.item) (bytes_eq q) items i whole old new p lt is e n

pub declared_all : (whole old : Bool) (check : Check) (items : List Placed) (i : ℕ) (q : List ℕ) → whole ≡ (list_any (bytes_eq q) (declared_of check (drop i items)) || old) → length items ≤ i → old ≡ whole
declared_all whole old check items i q e le =
    any_all (λ (x : Placed). declared_in check x.item) (bytes_eq q) items i whole old old le e

-- ---- names that lack their declaration

module _ (d : Declared) where
  pub tag_here : (whole : Option (List ℕ)) (tags : List Tag) (i : ℕ) (t : Tag) → whole ≡ find (lacks d) (tag_names (drop i tags)) → i < length tags → t ≡ get_or tags i t → lacks d t.name ≡ true → whole ≡ Some t.name
  tag_here whole tags i t e lt is b = named_here (lacks d) (λ (x : Tag). x.name) tags i whole e t lt is b

  pub tag_more : (whole : Option (List ℕ)) (tags : List Tag) (i : ℕ) (t : Tag) → whole ≡ find (lacks d) (tag_names (drop i tags)) → i < length tags → t ≡ get_or tags i t → lacks d t.name ≡ false → whole ≡ find (lacks d) (tag_names (drop (i + 1) tags))
  tag_more whole tags i t e lt is b = named_more (lacks d) (λ (x : Tag). x.name) tags i whole e t lt is b

  pub tag_none : (whole : Option (List ℕ)) (tags : List Tag) (i : ℕ) → whole ≡ find (lacks d) (tag_names (drop i tags)) → length tags ≤ i → whole ≡ None
  tag_none whole tags i e le = named_none (lacks d) (λ (x : Tag). x.name) tags i whole e le

  pub posting_here : (whole : Option Use) (ps : List Posting) (i : ℕ) (p : Posting) (u : Use) → whole ≡ find (is_lacking d) (flat_map (posting_uses d.check) (drop i ps)) → i < length ps → p ≡ get_or ps i p → find (is_lacking d) (posting_uses d.check p) ≡ Some u → whole ≡ Some u
  posting_here whole ps i p u e lt is b = part_here (is_lacking d) (posting_uses d.check) ps i whole e p u lt is b

  pub posting_more : (whole : Option Use) (ps : List Posting) (i : ℕ) (p : Posting) → whole ≡ find (is_lacking d) (flat_map (posting_uses d.check) (drop i ps)) → i < length ps → p ≡ get_or ps i p → find (is_lacking d) (posting_uses d.check p) ≡ None → whole ≡ find (is_lacking d) (flat_map (posting_uses d.check) (drop (i + 1) ps))
  posting_more whole ps i p e lt is b = part_more (is_lacking d) (posting_uses d.check) ps i whole e p lt is b

  pub posting_none : (whole : Option Use) (ps : List Posting) (i : ℕ) → whole ≡ find (is_lacking d) (flat_map (posting_uses d.check) (drop i ps)) → length ps ≤ i → whole ≡ None
  posting_none whole ps i e le = part_none (is_lacking d) (posting_uses d.check) ps i whole e le

  pub txn_here : (whole : Option Use) (ts : List Txn) (i : ℕ) (t : Txn) (u : Use) → whole ≡ find (is_lacking d) (uses_of d.check (drop i ts)) → i < length ts → t ≡ get_or ts i t → find (is_lacking d) (uses_in d.check t) ≡ Some u → whole ≡ Some u
  txn_here whole ts i t u e lt is b = part_here (is_lacking d) (uses_in d.check) ts i whole e t u lt is b

  pub txn_more : (whole : Option Use) (ts : List Txn) (i : ℕ) (t : Txn) → whole ≡ find (is_lacking d) (uses_of d.check (drop i ts)) → i < length ts → t ≡ get_or ts i t → find (is_lacking d) (uses_in d.check t) ≡ None → whole ≡ find (is_lacking d) (uses_of d.check (drop (i + 1) ts))
  txn_more whole ts i t e lt is b = part_more (is_lacking d) (uses_in d.check) ts i whole e t lt is b

  pub txn_none : (whole : Option Use) (ts : List Txn) (i : ℕ) → whole ≡ find (is_lacking d) (uses_of d.check (drop i ts)) → length ts ≤ i → whole ≡ None
  txn_none whole ts i e le = part_none (is_lacking d) (uses_in d.check) ts i whole e le

-- ---- accounts that are meant

module _ (asked : Asked) (q : List ℕ) (whole old new : Bool) where
  pub meant_more : (t : Txn) (ps : List Posting) (i : ℕ) (p : Posting) → whole ≡ (list_any (means_of asked q) (map (λ (x : Posting). (x, t)) (drop i ps)) || old) → i < length ps → p ≡ get_or ps i p → new ≡ (means_of asked q (p, t) || old) → whole ≡ (list_any (means_of asked q) (map (λ (x : Posting). (x, t)) (drop (i + 1) ps)) || new)
  meant_more t ps i p e lt is n = one_more (λ (x : Posting). (x, t)) (means_of asked q) ps i whole old new p lt is e n

  pub meant_all : (t : Txn) (ps : List Posting) (i : ℕ) → whole ≡ (list_any (means_of asked q) (map (λ (x : Posting). (x, t)) (drop i ps)) || old) → length ps ≤ i → old ≡ whole
  meant_all t ps i e le = one_all (λ (x : Posting). (x, t)) (means_of asked q) ps i whole old new le e

  pub entries_more : (ts : List Txn) (i : ℕ) (t : Txn) → whole ≡ (list_any (means_of asked q) (entries_of (drop i ts)) || old) → i < length ts → t ≡ get_or ts i t → new ≡ (list_any (means_of asked q) (entries_in t) || old) → whole ≡ (list_any (means_of asked q) (entries_of (drop (i + 1) ts)) || new)
  entries_more ts i t e lt is n = any_more entries_in (means_of asked q) ts i whole old new t lt is e n

  pub entries_all : (ts : List Txn) (i : ℕ) → whole ≡ (list_any (means_of asked q) (entries_of (drop i ts)) || old) → length ts ≤ i → old ≡ whole
  entries_all ts i e le = any_all entries_in (means_of asked q) ts i whole old new le e

-- ---- lines that can't be written

module _ (whole : Option Moved) (lines : List Moved) (i : ℕ) where
  pub renamed_here : (context : Context) (m : Moved) → whole ≡ find (λ (x : Moved). not (reads_back context x.account)) (drop i lines) → i < length lines → m ≡ get_or lines i m → not (reads_back context m.account) ≡ true → whole ≡ Some m
  renamed_here context m e lt is b = item_here (λ (x : Moved). not (reads_back context x.account)) lines i whole e m lt is b

  pub renamed_more : (context : Context) (m : Moved) → whole ≡ find (λ (x : Moved). not (reads_back context x.account)) (drop i lines) → i < length lines → m ≡ get_or lines i m → not (reads_back context m.account) ≡ false → whole ≡ find (λ (x : Moved). not (reads_back context x.account)) (drop (i + 1) lines)
  renamed_more context m e lt is b = item_more (λ (x : Moved). not (reads_back context x.account)) lines i whole e m lt is b

  pub renamed_none : (context : Context) → whole ≡ find (λ (x : Moved). not (reads_back context x.account)) (drop i lines) → length lines ≤ i → whole ≡ None
  renamed_none context e le = item_none (λ (x : Moved). not (reads_back context x.account)) lines i whole e le

  pub bare_here : (m : Moved) → whole ≡ find is_bare (drop i lines) → i < length lines → m ≡ get_or lines i m → is_bare m ≡ true → whole ≡ Some m
  bare_here m e lt is b = item_here is_bare lines i whole e m lt is b

  pub bare_more : (m : Moved) → whole ≡ find is_bare (drop i lines) → i < length lines → m ≡ get_or lines i m → is_bare m ≡ false → whole ≡ find is_bare (drop (i + 1) lines)
  bare_more m e lt is b = item_more is_bare lines i whole e m lt is b

  pub bare_none : whole ≡ find is_bare (drop i lines) → length lines ≤ i → whole ≡ None
  bare_none e le = item_none is_bare lines i whole e le

  pub fine_here : (m : Moved) → whole ≡ find is_fine (drop i lines) → i < length lines → m ≡ get_or lines i m → is_fine m ≡ true → whole ≡ Some m
  fine_here m e lt is b = item_here is_fine lines i whole e m lt is b

  pub fine_more : (m : Moved) → whole ≡ find is_fine (drop i lines) → i < length lines → m ≡ get_or lines i m → is_fine m ≡ false → whole ≡ find is_fine (drop (i + 1) lines)
  fine_more m e lt is b = item_more is_fine lines i whole e m lt is b

  pub fine_none : whole ≡ find is_fine (drop i lines) → length lines ≤ i → whole ≡ None
  fine_none e le = item_none is_fine lines i whole e le

-- ---- names of one posting and of one transaction

module _ (d : Declared) where
  pub symbols_first : (p : Posting) (o : Option (List ℕ)) (s : List ℕ) → o ≡ amount_symbol p → find (lacks d) (option_to_list o) ≡ Some s → find (lacks d) (symbols_in p) ≡ Some s
  symbols_first p o s is h =
      of_three_first (lacks d) (option_to_list (amount_symbol p)) (option_to_list (cost_symbol p)) (option_to_list (wanted_symbol p)) s
      (ap (λ (x : Option (List ℕ)). find (lacks d) (option_to_list x)) (sym is) ∙ h)

  pub symbols_second : (p : Posting) (o c : Option (List ℕ)) (s : List ℕ) → o ≡ amount_symbol p → c ≡ cost_symbol p → find (lacks d) (option_to_list o) ≡ None → find (lacks d) (option_to_list c) ≡ Some s → find (lacks d) (symbols_in p) ≡ Some s
  symbols_second p o c s is also none h =
      of_three_second (lacks d) (option_to_list (amount_symbol p)) (option_to_list (cost_symbol p)) (option_to_list (wanted_symbol p)) s
      (ap (λ (x : Option (List ℕ)). find (lacks d) (option_to_list x)) (sym is) ∙ none)
      (ap (λ (x : Option (List ℕ)). find (lacks d) (option_to_list x)) (sym also) ∙ h)

  pub symbols_third : (p : Posting) (o c w : Option (List ℕ)) → o ≡ amount_symbol p → c ≡ cost_symbol p → w ≡ wanted_symbol p → find (lacks d) (option_to_list o) ≡ None → find (lacks d) (option_to_list c) ≡ None → find (lacks d) (symbols_in p) ≡ find (lacks d) (option_to_list w)
  symbols_third p o c w is also last none second =
      of_three_third (lacks d) (option_to_list (amount_symbol p)) (option_to_list (cost_symbol p)) (option_to_list (wanted_symbol p))
      (ap (λ (x : Option (List ℕ)). find (lacks d) (option_to_list x)) (sym is) ∙ none)
      (ap (λ (x : Option (List ℕ)). find (lacks d) (option_to_list x)) (sym also) ∙ second)
      ∙ ap (λ (x : Option (List ℕ)). find (lacks d) (option_to_list x)) (sym last)

  pub used_in_line : (line : ℕ) (names : List (List ℕ)) → find (is_lacking d) (in_line line names) ≡ option_map (λ (n : List ℕ). (line, n)) (find (lacks d) names)
  used_in_line line names = find_in_line (lacks d) line names

  pub used_by : (line : ℕ) (names : List (List ℕ)) (name : Option (List ℕ)) (used : Option Use) → used ≡ option_map (λ (n : List ℕ). (line, n)) name → name ≡ find (lacks d) names → used ≡ find (is_lacking d) (in_line line names)
  used_by line names name used made is =
      subst (λ (x : Option (List ℕ)). used ≡ option_map (λ (n : List ℕ). (line, n)) x) is made ∙ sym (used_in_line line names)

  pub uses_first : (t : Txn) (u : Use) → find (is_lacking d) (in_line t.line (head_names d.check t)) ≡ Some u → find (is_lacking d) (uses_in d.check t) ≡ Some u
  uses_first t u h = of_two_first (is_lacking d) (in_line t.line (head_names d.check t)) (flat_map (posting_uses d.check) t.postings) u h

  pub uses_second : (t : Txn) → find (is_lacking d) (in_line t.line (head_names d.check t)) ≡ None → find (is_lacking d) (uses_in d.check t) ≡ find (is_lacking d) (flat_map (posting_uses d.check) t.postings)
  uses_second t h = of_two_second (is_lacking d) (in_line t.line (head_names d.check t)) (flat_map (posting_uses d.check) t.postings) h

-- ---- one posting that is meant, or isn't

means_by : (m a old new : Bool) → m ≡ true → new ≡ (a || old) → new ≡ ((m && a) || old)
means_by true a old new e h = h
means_by false a old new e h = absurd (false≢true e)

means_not : (m a old new : Bool) → m ≡ false → new ≡ old → new ≡ ((m && a) || old)
means_not true a old new e h = absurd (false≢true (sym e))
means_not false a old new e h = h

module _ (asked : Asked) (q : List ℕ) (p : Posting) (t : Txn) (old new : Bool) where
  pub meant_one : asked.means (p, t) ≡ true → new ≡ (bytes_eq q p.account || old) → new ≡ (means_of asked q (p, t) || old)
  meant_one e h = means_by (asked.means (p, t)) (bytes_eq q p.account) old new e h

  pub meant_none : asked.means (p, t) ≡ false → new ≡ old → new ≡ (means_of asked q (p, t) || old)
  meant_none e h = means_not (asked.means (p, t)) (bytes_eq q p.account) old new e h
