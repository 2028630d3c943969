-- What the front of a text begins with, the text begins with.
use Rattle.std.proofs.Common.{Ok, None, ◌≡◌, ℕ, zero, suc, ◌+◌, ◌<◌, Bool, true, false, cond, ◌==◌, ◌&&◌, not, List, [], ◌∷◌, length, take, drop, refl, sym, ap, ◌∙◌, arith}
use Rattle.std.specs.List.{prefix_len, suffix_len}
use Rattle.std.proofs.lemmas.Bool.{false≢true}
use Rattle.std.proofs.lemmas.List.{nil_from_length}
use Rattle.hl_base.specs.Items.{is_white}
use Rattle.entry_reader.specs.Comments.{is_comment, comment_text, comments_in, comment_of, tags_in, day_in}
use Rattle.entry_reader.specs.Lines.{first_is, begins, after_white, before_white, contents_of}
use Rattle.entry_reader.specs.Tags.{tags_within}
use Rattle.entry_reader.proofs.Lines.{inside, contents_cut}

first_of_front : (p : ℕ → Bool) (n : ℕ) (text : List ℕ) → first_is p (take n text) ≡ true → first_is p text ≡ true
first_of_front p zero text h = absurd (false≢true h)
first_of_front p (suc n) [] h = h
first_of_front p (suc n) (b ∷ bs) h = h

past_white : (t : Bool) (b n byte : ℕ) (bs : List ℕ) → (begins (after_white (take n bs)) byte ≡ true → begins (after_white bs) byte ≡ true)
    → begins (drop (cond t (1 + prefix_len is_white (take n bs)) 0) (b ∷ take n bs)) byte ≡ true
    → begins (drop (cond t (1 + prefix_len is_white bs) 0) (b ∷ bs)) byte ≡ true
past_white true b n byte bs more h =
    let i : 1 + prefix_len is_white (take n bs) ≡ suc (prefix_len is_white (take n bs)) = omega arith in
    let j : 1 + prefix_len is_white bs ≡ suc (prefix_len is_white bs) = omega arith in
    ap (λ (k : ℕ). begins (drop k (b ∷ bs)) byte) j ∙ more (sym (ap (λ (k : ℕ). begins (drop k (b ∷ take n bs)) byte) i) ∙ h)
past_white false b n byte bs more h = h

white_of_front : (n byte : ℕ) (text : List ℕ) → begins (after_white (take n text)) byte ≡ true → begins (after_white text) byte ≡ true
white_of_front zero byte text h = absurd (false≢true h)
white_of_front (suc n) byte [] h = h
white_of_front (suc n) byte (b ∷ bs) h = past_white (is_white b) b n byte bs (white_of_front n byte bs) h

left : (a b : Bool) → (a && b) ≡ true → a ≡ true
left true b h = refl
left false b h = absurd (false≢true h)

right : (a b : Bool) → (a && b) ≡ true → b ≡ true
right true b h = h
right false b h = absurd (false≢true h)

comment_of_front : (n : ℕ) (text : List ℕ) → is_comment (take n text) ≡ true → is_comment text ≡ true
comment_of_front n text h =
    ap (λ (t : Bool). t && begins (after_white text) 59) (first_of_front is_white n text (left (first_is is_white (take n text)) (begins (after_white (take n text)) 59) h))
    ∙ white_of_front n 59 text (right (first_is is_white (take n text)) (begins (after_white (take n text)) 59) h)

none_first : (c : List ℕ) (cs : List (List ℕ)) → (is_comment c ≡ true → ⊥) → comments_in (c ∷ cs) ≡ []
none_first c cs never = by (is_comment c) never
  where
    by : (t : Bool) → (t ≡ true → ⊥) → cond t (comment_text c ∷ comments_in cs) [] ≡ []
    by true never = absurd (never refl)
    by false never = refl

-- a text that doesn't begin as a comment line has none in front
pub no_remark : (text : List ℕ) → is_comment text ≡ false → comments_in (contents_of text) ≡ []
no_remark [] h = refl
no_remark (b ∷ bs) h =
    let text : List ℕ = b ∷ bs in
    let content : List ℕ = take (inside (b ∷ bs)) (b ∷ bs) in
    ap comments_in (contents_cut (b ∷ bs) (omega arith))
    ∙ none_first (before_white content) (contents_of (drop (inside (b ∷ bs) + 1) (b ∷ bs)))
    (λ t. false≢true (sym h ∙ comment_of_front (inside (b ∷ bs)) (b ∷ bs) (comment_of_front _ content t)))

-- nothing is written in comments
pub no_comments : (own after : List ℕ) → length own ≡ 0 → length after ≡ 0 → [] ≡ comment_of own (comments_in (contents_of after))
no_comments own after e f = rw (nil_from_length own e, nil_from_length after f) refl

pub no_tags : (own after : List ℕ) → length own ≡ 0 → length after ≡ 0 → [] ≡ tags_in (own ∷ comments_in (contents_of after))
unfolding tags_within
no_tags own after e f = rw (nil_from_length own e, nil_from_length after f) refl

pub no_day : (year line : ℕ) (own after : List ℕ) → length own ≡ 0 → length after ≡ 0 → day_in year line (own ∷ comments_in (contents_of after)) ≡ Ok None
unfolding tags_within
no_day year line own after e f = rw (nil_from_length own e, nil_from_length after f) refl
