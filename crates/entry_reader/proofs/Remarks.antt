-- The comment lines that a text begins with.
use Rattle.std.proofs.Common.{◌≡◌, ℕ, true, false, List, [], ◌∷◌, ◌++◌, length, refl, sym, ap, ◌∙◌, append_assoc}
use Rattle.std.specs.List.{flat_map}
use Rattle.std.proofs.lemmas.List.{nil_from_length, append-nil}
use Rattle.book.specs.declared.transaction.Tag.{Tag}
use Rattle.entry_reader.specs.Lines.{contents_of}
use Rattle.entry_reader.specs.Comments.{is_comment, comment_text, comments_in, tags_in}
use Rattle.entry_reader.specs.Tags.{tags_of}

pub one_comment : (text content rest : List ℕ) → contents_of text ≡ content ∷ contents_of rest → is_comment content ≡ true → comments_in (contents_of text) ≡ comment_text content ∷ comments_in (contents_of rest)
one_comment text content rest e t = rw (e, t) refl

pub no_comment : (text content rest : List ℕ) → contents_of text ≡ content ∷ contents_of rest → is_comment content ≡ false → comments_in (contents_of text) ≡ []
no_comment text content rest e t = rw (e, t) refl

pub no_line : (text : List ℕ) → length text ≡ 0 → comments_in (contents_of text) ≡ []
no_line text e = rw (nil_from_length text e) refl

-- a comment of which some lines are joined, and of which more follow
abbrev pub joined_on : List ℕ → List (List ℕ) → List ℕ
joined_on so_far texts = so_far ++ flat_map (λ text. 10 ∷ text) texts

pub joined_more : (so_far with_end found text : List ℕ) (more whole : List (List ℕ)) (all : List ℕ) → whole ≡ text ∷ more → with_end ≡ so_far ++ 10 ∷ [] → found ≡ with_end ++ text
    → joined_on so_far whole ≡ all → joined_on found more ≡ all
joined_more so_far with_end found text more whole all e f g h =
    let one : joined_on so_far whole ≡ joined_on found more =
    rw (e, g, f) (sym (rw (append_assoc, append_assoc) refl)) in
    sym one ∙ h

pub joined_all : (so_far all : List ℕ) (whole : List (List ℕ)) → whole ≡ [] → joined_on so_far whole ≡ all → so_far ≡ all
joined_all so_far all whole e h = sym (append-nil so_far) ∙ ap (joined_on so_far) (sym e) ∙ h

pub tags_on : (so_far found : List Tag) (text : List ℕ) (more whole : List (List ℕ)) (all : List Tag) → whole ≡ text ∷ more → found ≡ so_far ++ tags_of text → so_far ++ tags_in whole ≡ all → found ++ tags_in more ≡ all
tags_on so_far found text more whole all e f h =
    rw f (append_assoc so_far (tags_of text) (tags_in more) ∙ ap (λ (w : List (List ℕ)). so_far ++ tags_in w) (sym e) ∙ h)

pub tags_done : (so_far all : List Tag) (whole : List (List ℕ)) → whole ≡ [] → so_far ++ tags_in whole ≡ all → so_far ≡ all
tags_done so_far all whole e h = sym (append-nil so_far) ∙ ap (λ (w : List (List ℕ)). so_far ++ tags_in w) (sym e) ∙ h
