-- The words of a query, cut by runs of bytes.
use Rattle.std.proofs.Common.{◌≡◌, ℕ, suc, ◌+◌, ◌<◌, Bool, true, false, cond, ◌==◌, ◌||◌, not, nat_lt, List, [], ◌∷◌, ◌++◌, length, take, drop, refl, sym, ap, subst, ◌∙◌, append_assoc, arith}
use Rattle.std.specs.List.{prefix_len, before_first, after_first}
use Rattle.std.specs.Str.{is_utf8}
use Rattle.std.proofs.lemmas.Bool.Decides.{nat_tests}
use Rattle.std.proofs.lemmas.List.{append-nil, nil_from_length, length-drop}
use Rattle.std.proofs.lemmas.List.Elements.{filter-append}
use Rattle.std.proofs.lemmas.Str.{is_utf8-from_IsUtf8}
use Rattle.hl_base.specs.Items.{is_white}
use Rattle.hl_base.specs.Lines.{onto}
use Rattle.entry_reader.specs.Lines.{begins, first_is, has_byte}
use Rattle.entry_reader.proofs.Texts.{rest_utf8, front_utf8, stop_cut, white_below}
use Rattle.directive_reader.specs.QueryWords.{words_from, filled, query_words, is_plain, joins}

pub joins_more : (a b : List ℕ) (words : List (List ℕ)) → joins (a ++ b) words ≡ joins a (joins b words)
joins_more [] b words = refl
joins_more (x ∷ a) b words = ap (onto x) (joins_more a b words)

pub joins_end : (front : List ℕ) (words : List (List ℕ)) → joins front ([] ∷ words) ≡ front ∷ words
joins_end [] words = refl
joins_end (x ∷ front) words = ap (onto x) (joins_end front words)

or_false : (t u : Bool) → t ≡ false → (t || u) ≡ true → u ≡ true
or_false true u e h = absurd cc
or_false false u e h = h

-- up to the second quote
quoted_by : (t : Bool) (b : ℕ) (bs : List ℕ) → (b == 34) ≡ t → (t ≡ false → words_from true bs ≡ joins (before_first (λ c. c == 34) bs) (words_from false (after_first (λ c. c == 34) bs)))
    → words_from true (b ∷ bs) ≡ joins (before_first (λ c. c == 34) (b ∷ bs)) (words_from false (after_first (λ c. c == 34) (b ∷ bs)))
unfolding words_from
quoted_by true b bs e more = rw e refl
quoted_by false b bs e more =
    let k : 1 + prefix_len (λ c. not (c == 34)) bs ≡ suc (prefix_len (λ c. not (c == 34)) bs) = omega arith in
    let j : suc (prefix_len (λ c. not (c == 34)) bs) + 1 ≡ suc (prefix_len (λ c. not (c == 34)) bs + 1) = omega arith in
    rw (e, k, j, more refl) refl

pub quoted : (text : List ℕ) → has_byte 34 text ≡ true → words_from true text ≡ joins (before_first (λ c. c == 34) text) (words_from false (after_first (λ c. c == 34) text))
quoted [] h = absurd cc
quoted (b ∷ bs) h = quoted_by (b == 34) b bs refl (λ e. quoted bs (or_false (b == 34) (has_byte 34 bs) e h))

-- a text that begins with a quote, which another follows or not
pub quoted_run : (text : List ℕ) → begins text 34 ≡ true → has_byte 34 (drop 1 text) ≡ true
    → words_from false text ≡ joins (before_first (λ c. c == 34) (drop 1 text)) (words_from false (after_first (λ c. c == 34) (drop 1 text)))
unfolding words_from
quoted_run [] e h = absurd cc
quoted_run (b ∷ bs) e h = rw (e, h) (quoted bs h)

pub lone_quote : (text : List ℕ) → begins text 34 ≡ true → has_byte 34 (drop 1 text) ≡ false → words_from false text ≡ joins (34 ∷ []) (words_from false (drop 1 text))
unfolding words_from
lone_quote [] e h = absurd cc
lone_quote (b ∷ bs) e h =
    let is : b ≡ 34 = grind (arith, nat_tests, e) in
    subst (λ (x : ℕ). words_from false (x ∷ bs) ≡ onto 34 (words_from false bs)) (sym is) (rw h refl)

-- bytes that are neither white space nor a quote
not_either : (w q : Bool) → not (w || q) ≡ true → (w ≡ false) × (q ≡ false)
not_either true q e = absurd cc
not_either false true e = absurd cc
not_either false false e = (refl, refl)

plain_by : (t : Bool) (b : ℕ) (bs : List ℕ) → is_plain b ≡ t → words_from false bs ≡ joins (take (prefix_len is_plain bs) bs) (words_from false (drop (prefix_len is_plain bs) bs))
    → words_from false (b ∷ bs) ≡ joins (take (cond t (1 + prefix_len is_plain bs) 0) (b ∷ bs)) (words_from false (drop (cond t (1 + prefix_len is_plain bs) 0) (b ∷ bs)))
unfolding words_from
plain_by true b bs e more =
    let k : 1 + prefix_len is_plain bs ≡ suc (prefix_len is_plain bs) = omega arith in
    let f = not_either (is_white b) (b == 34) e in
    rw (k, f.1, f.0) (ap (onto b) more)
plain_by false b bs e more = refl

pub plain_run : (text : List ℕ) → words_from false text ≡ joins (take (prefix_len is_plain text) text) (words_from false (drop (prefix_len is_plain text) text))
plain_run [] = refl
plain_run (b ∷ bs) = plain_by (is_plain b) b bs refl (plain_run bs)

plain_below : (b : ℕ) → is_plain b ≡ false → b < 128
plain_below b e = by (is_white b) (b == 34) b refl refl e
  where
    by : (w q : Bool) (b : ℕ) → is_white b ≡ w → (b == 34) ≡ q → not (w || q) ≡ false → b < 128
    by true q b f g e = white_below b f
    by false true b f g e = grind (arith, nat_tests)
    by false false b f g e = absurd cc

pub plain_utf8 : (text : List ℕ) → is_utf8 text ≡ true → is_utf8 (take (prefix_len is_plain text) text) ≡ true
plain_utf8 text e = front_utf8 text (prefix_len is_plain text) (stop_cut is_plain text plain_below) e

pub after_plain_utf8 : (text : List ℕ) → is_utf8 text ≡ true → is_utf8 (drop (prefix_len is_plain text) text) ≡ true
after_plain_utf8 text e = rest_utf8 text (prefix_len is_plain text) (stop_cut is_plain text plain_below) e

pub quote_utf8 : is_utf8 (34 ∷ []) ≡ true
unfolding lib.Utf8.encode
quote_utf8 = is_utf8-from_IsUtf8 (34 ∷ []) (34 ∷ [], (refl, refl))

-- what is left is shorter
shorter_by : (t : Bool) (n : ℕ) (b : ℕ) (bs : List ℕ) → t ≡ true → length (drop (cond t (1 + n) 0) (b ∷ bs)) < suc (length bs)
shorter_by true n b bs e =
    let len = length-drop (1 + n) (b ∷ bs) in
    omega (arith, len)
shorter_by false n b bs e = absurd cc

pub plain_shorter : (text : List ℕ) → 0 < length text → first_is is_white text ≡ false → begins text 34 ≡ false → length (drop (prefix_len is_plain text) text) < length text
plain_shorter [] lt w q = absurd (omega arith)
plain_shorter (b ∷ bs) lt w q =
    let e : is_plain b ≡ true = rw (w, q) refl in
    shorter_by (is_plain b) (prefix_len is_plain bs) b bs e

pub quoted_shorter : (text : List ℕ) → 0 < length text → length (after_first (λ c. c == 34) (drop 1 text)) < length text
quoted_shorter text lt =
    let one = length-drop 1 text in
    let more = length-drop (prefix_len (λ c. not (c == 34)) (drop 1 text) + 1) (drop 1 text) in
    omega (arith, one, more)

-- a word that ends
fill_one : (word : List ℕ) (words : List (List ℕ)) → filled (word ∷ words) ≡ filled (word ∷ []) ++ filled words
fill_one word words = filter-append (λ (w : List ℕ). nat_lt 0 (length w)) (word ∷ []) words

white_cut : (rest : List ℕ) → first_is is_white rest ≡ true → words_from false rest ≡ [] ∷ words_from false (drop 1 rest)
unfolding words_from
white_cut [] e = absurd cc
white_cut (b ∷ bs) e =
    let q : (b == 34) ≡ false = grind (arith, nat_tests, e) in
    rw (q, e) refl

pub white_end : (word rest text : List ℕ) → first_is is_white rest ≡ true → joins word (words_from false rest) ≡ words_from false text → query_words text ≡ filled (word ∷ []) ++ query_words (drop 1 rest)
white_end word rest text e so_far =
    ap filled (sym so_far ∙ ap (joins word) (white_cut rest e) ∙ joins_end word (words_from false (drop 1 rest))) ∙ fill_one word (words_from false (drop 1 rest))

nothing_left : (rest : List ℕ) → length rest ≡ 0 → rest ≡ []
nothing_left rest e = nil_from_length rest e

pub text_end : (word rest text : List ℕ) → length rest ≡ 0 → joins word (words_from false rest) ≡ words_from false text → query_words text ≡ filled (word ∷ []) ++ query_words rest
unfolding words_from
text_end word rest text e so_far =
    let none = nothing_left rest e in
    let one : words_from false text ≡ word ∷ [] = sym so_far ∙ ap (λ (r : List ℕ). joins word (words_from false r)) none ∙ joins_end word [] in
    ap filled one ∙ sym (ap (λ (r : List ℕ). filled (word ∷ []) ++ query_words r) none ∙ append-nil (filled (word ∷ [])))

pub run_more : (word run rest more text : List ℕ) → words_from false rest ≡ joins run (words_from false more) → joins word (words_from false rest) ≡ words_from false text → joins (word ++ run) (words_from false more) ≡ words_from false text
run_more word run rest more text e so_far = joins_more word run (words_from false more) ∙ ap (joins word) (sym e) ∙ so_far

-- all words
pub words_more : (front found : List (List ℕ)) (word rest more text : List ℕ) → query_words rest ≡ filled (word ∷ []) ++ query_words more → found ≡ front ++ filled (word ∷ []) → front ++ query_words rest ≡ query_words text
    → found ++ query_words more ≡ query_words text
words_more front found word rest more text e made so_far =
    rw made (append_assoc front (filled (word ∷ [])) (query_words more) ∙ ap (λ (ws : List (List ℕ)). front ++ ws) (sym e) ∙ so_far)

pub words_done : (front : List (List ℕ)) (rest text : List ℕ) → length rest ≡ 0 → front ++ query_words rest ≡ query_words text → front ≡ query_words text
unfolding words_from
words_done front rest text e so_far = sym (append-nil front) ∙ ap (λ (r : List ℕ). front ++ query_words r) (sym (nothing_left rest e)) ∙ so_far
