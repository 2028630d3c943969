-- The tags of a text, one colon after the other.
use Rattle.std.proofs.Common.{◌≡◌, ℕ, zero, suc, ◌+◌, ◌-◌, ◌<◌, ◌≤◌, Bool, true, false, cond, ◌==◌, not, List, [], ◌∷◌, ◌++◌, length, codes, get_or, drop, Some, None, refl, sym, ap, ◌∙◌, arith, append_assoc}
use Rattle.std.specs.List.{position_or_len, suffix_len, find}
use Rattle.std.specs.Str.{is_utf8, bytes_eq}
use Rattle.std.specs.Prelude.{option_map}
use Rattle.std.proofs.lemmas.Bool.{eqb-true}
use Rattle.entry_reader.specs.Comments.{is_date_tag, date_value}
use Rattle.std.proofs.lemmas.List.{length-drop, append-nil, nil_from_length}
use Rattle.std.proofs.lemmas.List.Sums.{suffix_len_is}
use Rattle.hl_base.specs.Items.{is_white}
use Rattle.book.specs.declared.transaction.Tag.{Tag}
use Rattle.entry_reader.specs.Lines.{has_byte, after_byte}
use Rattle.entry_reader.specs.Tags.{tag_name, tag_value, tag_at, after_tag, tags_within, tags_of, last_word}
use Rattle.entry_reader.proofs.Texts.{past_utf8, white_below}

filled : (byte : ℕ) (text : List ℕ) → has_byte byte text ≡ true → 0 < length text
filled byte [] e = absurd cc
filled byte (b ∷ bs) e = omega arith

pub behind_shorter : (byte : ℕ) (text : List ℕ) → 0 < length text → length (after_byte byte text) < length text
behind_shorter byte text h = omega (arith, length-drop (position_or_len (λ b. b == byte) text + 1) text)

behind_le : (byte : ℕ) (text : List ℕ) → length (after_byte byte text) ≤ length text
behind_le byte text = omega (arith, length-drop (position_or_len (λ b. b == byte) text + 1) text)

shorter_by : (t : Bool) (text : List ℕ) → 0 < length text → length (cond t (after_byte 58 text) (after_byte 44 (after_byte 58 text))) < length text
shorter_by true text h = behind_shorter 58 text h
shorter_by false text h = omega (arith, behind_shorter 58 text h, behind_le 44 (after_byte 58 text))

pub after_shorter : (text : List ℕ) → has_byte 58 text ≡ true → length (after_tag text) < length text
after_shorter text e = shorter_by (length (tag_name text) == 0) text (filled 58 text e)

-- how many are sought doesn't matter, where they are no fewer than the bytes
no_tags : (n : ℕ) (text : List ℕ) → length text ≤ 0 → tags_within n text ≡ []
unfolding tags_within
no_tags zero text h = refl
no_tags (suc n) [] h = refl
no_tags (suc n) (b ∷ bs) h = absurd (omega arith)

enough_by : (t : Bool) (n m : ℕ) (text : List ℕ) → has_byte 58 text ≡ t → (t ≡ true → tags_within n (after_tag text) ≡ tags_within m (after_tag text))
    → cond t (tag_at text ++ tags_within n (after_tag text)) [] ≡ cond t (tag_at text ++ tags_within m (after_tag text)) []
enough_by true n m text e h = ap (λ (ts : List Tag). tag_at text ++ ts) (h refl)
enough_by false n m text e h = refl

enough : (n m : ℕ) (text : List ℕ) → length text ≤ n → length text ≤ m → tags_within n text ≡ tags_within m text
unfolding tags_within
enough zero m text h k = sym (no_tags m text h)
enough (suc n) zero text h k = no_tags (suc n) text k
enough (suc n) (suc m) text h k =
    enough_by (has_byte 58 text) n m text refl (λ e. let s = after_shorter text e in enough n m (after_tag text) (omega arith) (omega arith))

-- the first tag before those that follow it
pub tags_step : (text : List ℕ) → has_byte 58 text ≡ true → tags_of text ≡ tag_at text ++ tags_of (after_tag text)
unfolding tags_within
tags_step [] e = absurd cc
tags_step (b ∷ bs) e =
    let s = after_shorter (b ∷ bs) e in
    rw e (ap (λ (ts : List Tag). tag_at (b ∷ bs) ++ ts) (enough (length bs) (length (after_tag (b ∷ bs))) (after_tag (b ∷ bs)) (omega (arith, s)) (omega arith)))

pub tags_end : (text : List ℕ) → has_byte 58 text ≡ false → tags_of text ≡ []
unfolding tags_within
tags_end [] e = refl
tags_end (b ∷ bs) e = rw e refl

-- a walk over the tags: those so far before those of what is left
pub tags_more : (so_far before found : List Tag) (text whole : List ℕ) → has_byte 58 text ≡ true → found ≡ so_far ++ tag_at text → so_far ++ tags_of text ≡ before ++ tags_of whole
    → found ++ tags_of (after_tag text) ≡ before ++ tags_of whole
tags_more so_far before found text whole e f h = rw f (append_assoc so_far (tag_at text) (tags_of (after_tag text)) ∙ ap (λ (ts : List Tag). so_far ++ ts) (sym (tags_step text e)) ∙ h)

pub tags_all : (so_far before : List Tag) (text whole : List ℕ) → has_byte 58 text ≡ false → so_far ++ tags_of text ≡ before ++ tags_of whole → so_far ≡ before ++ tags_of whole
tags_all so_far before text whole e h = sym (append-nil so_far) ∙ ap (λ (ts : List Tag). so_far ++ ts) (sym (tags_end text e)) ∙ h

-- where the last word begins: behind white space, or at the text's beginning
pub word_is : (text : List ℕ) (n : ℕ) → n ≤ length text → ((k : ℕ) → n ≤ k → k < length text → not (is_white (get_or text k 0)) ≡ true) → (0 < n → is_white (get_or text (n - 1) 0) ≡ true) → drop n text ≡ last_word text
word_is text n le solid white =
    let e = suffix_len_is (λ b. not (is_white b)) text n 0 le solid (λ h. ap not (white h)) in
    let k : length text - suffix_len (λ b. not (is_white b)) text ≡ n = omega arith in
    rw k refl

pub word_utf8 : (text : List ℕ) (n : ℕ) → 0 < n → n ≤ length text → is_white (get_or text (n - 1) 0) ≡ true → is_utf8 text ≡ true → is_utf8 (drop n text) ≡ true
word_utf8 text n some le white e =
    let k : n - 1 + 1 ≡ n = omega arith in
    rw (← k) (past_utf8 text (n - 1) (λ _. white_below (get_or text (n - 1) 0) white) e)

-- the first tag `date`, where the first colon has it or not
front_by : (t u : Bool) (text : List ℕ) (ts : List Tag) → (length (tag_name text) == 0) ≡ t → bytes_eq (tag_name text) (codes "date") ≡ u
    → option_map (λ tag. tag.value) (find is_date_tag (tag_at text ++ ts)) ≡ cond u (Some (tag_value text)) (option_map (λ tag. tag.value) (find is_date_tag ts))
front_by true true text ts e f =
    let none : tag_name text ≡ [] = nil_from_length (tag_name text) (eqb-true _ _ e) in
    let other : bytes_eq (tag_name text) (codes "date") ≡ false = rw none refl in
    absurd cc
front_by true false text ts e f = rw e refl
front_by false true text ts e f = rw (e, f) refl
front_by false false text ts e f = rw (e, f) refl

step_date : (text : List ℕ) (u : Bool) → has_byte 58 text ≡ true → bytes_eq (tag_name text) (codes "date") ≡ u → date_value text ≡ cond u (Some (tag_value text)) (date_value (after_tag text))
step_date text u e f =
    ap (λ (ts : List Tag). option_map (λ tag. tag.value) (find is_date_tag ts)) (tags_step text e) ∙ front_by (length (tag_name text) == 0) u text (tags_of (after_tag text)) refl f

pub date_here : (text whole name value : List ℕ) → has_byte 58 text ≡ true → name ≡ tag_name text → bytes_eq name (codes "date") ≡ true → value ≡ tag_value text → date_value text ≡ date_value whole → Some value ≡ date_value whole
date_here text whole name value e n f v so_far =
    let d = step_date text true e (ap (λ (w : List ℕ). bytes_eq w (codes "date")) (sym n) ∙ f) in
    ap (λ (w : List ℕ). Some w) v ∙ sym d ∙ so_far

pub date_later : (text whole name : List ℕ) → has_byte 58 text ≡ true → name ≡ tag_name text → bytes_eq name (codes "date") ≡ false → date_value text ≡ date_value whole → date_value (after_tag text) ≡ date_value whole
date_later text whole name e n f so_far =
    let d = step_date text false e (ap (λ (w : List ℕ). bytes_eq w (codes "date")) (sym n) ∙ f) in
    sym d ∙ so_far

pub date_nowhere : (text whole : List ℕ) → has_byte 58 text ≡ false → date_value text ≡ date_value whole → None ≡ date_value whole
date_nowhere text whole e so_far = sym (ap (λ (ts : List Tag). option_map (λ tag. tag.value) (find is_date_tag ts)) (tags_end text e)) ∙ so_far
