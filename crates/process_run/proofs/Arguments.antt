-- The arguments as words.
use Rattle.std.proofs.Common.{◌≡◌, ◌∙◌, ℕ, List, [], ◌∷◌, ◌++◌, map, String, string_bytes, sym, ap}
use Rattle.std.proofs.lemmas.List.{map-append}

-- one word more
pub text_more : {Z : Type 0} (texts more : List (List ℕ)) (words : List (String Z)) (word : String Z) (text : List ℕ) → more ≡ texts ++ text ∷ []
    → texts ≡ map string_bytes words → text ≡ string_bytes word → more ≡ map string_bytes (words ++ word ∷ [])
text_more texts more words word text pushed so_far is =
    pushed
    ∙ ap (λ (l : List (List ℕ)). l ++ text ∷ []) so_far
    ∙ ap (λ (t : List ℕ). map string_bytes words ++ t ∷ []) is
    ∙ sym (map-append string_bytes words (word ∷ []))
