-- Words that are lent one after another.
use Rattle.std.proofs.Common.{◌≡◌, ◌∙◌, ℕ, ◌+◌, ◌<◌, List, [], ◌∷◌, ◌++◌, length, get_or, take, refl, sym, ap}
use Rattle.std.specs.Borrow.{Bor}
use Rattle.std.proofs.lemmas.List.{take_more}
use Rattle.serve_line.specs.Words.{lent_texts}

texts_push : (lent : List (Bor (List ℕ))) (word : Bor (List ℕ)) → lent_texts (lent ++ word ∷ []) ≡ lent_texts lent ++ word.now ∷ []
texts_push [] word = refl
texts_push (x ∷ xs) word = ap (λ (l : List (List ℕ)). x.now ∷ l) (texts_push xs word)

-- one word more
pub lent_more : (words : List (List ℕ)) (i : ℕ) (lent more : List (Bor (List ℕ))) (word : Bor (List ℕ)) → i < length words
    → lent_texts lent ≡ take i words → more ≡ lent ++ word ∷ [] → word.now ≡ get_or words i [] → lent_texts more ≡ take (i + 1) words
lent_more words i lent more word lt so_far pushed is =
    ap lent_texts pushed ∙ (texts_push lent word ∙ (
    ap (λ (l : List (List ℕ)). l ++ word.now ∷ []) so_far ∙ (
    ap (λ (t : List ℕ). take i words ++ t ∷ []) is ∙ sym (take_more words i [] lt))))
