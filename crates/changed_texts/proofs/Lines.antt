-- A text by its lines, and other lines in the place of some of them.
use Rattle.std.proofs.Common.{◌≡◌, ℕ, ◌==◌, Bool, true, false, cond, List, [], ◌∷◌, ◌++◌, refl, sym, ap, subst, ◌∙◌, append_assoc, append-nil}
use Rattle.std.specs.List.{concat}
use Rattle.hl_base.specs.Lines.{lines_of, onto}

-- it is a whole line of each text that begins with it
abbrev pub IsLine : List ℕ → Type 0
IsLine l = (more : List ℕ) → lines_of (l ++ more) ≡ l ∷ lines_of more

-- they are the lines of a text, of which the last may lack its end
abbrev pub AreLines : List (List ℕ) → Type 0
AreLines [] = Unit {0}
AreLines (l ∷ []) = lines_of l ≡ l ∷ []
AreLines (l ∷ k ∷ ls) = IsLine l × AreLines (k ∷ ls)

ended_lines : (b : ℕ) (ls : List (List ℕ)) → (b == 10) ≡ true → AreLines ls → AreLines ((b ∷ []) ∷ ls)
ended_lines b [] e h = ap (λ (t : Bool). cond t ((b ∷ []) ∷ []) (onto b [])) e
ended_lines b (l ∷ ls) e h = (λ more. ap (λ (t : Bool). cond t ((b ∷ []) ∷ lines_of more) (onto b (lines_of more))) e, h)

onto_lines : (b : ℕ) (ls : List (List ℕ)) → (b == 10) ≡ false → AreLines ls → AreLines (onto b ls)
onto_lines b [] e h = ap (λ (t : Bool). cond t ((b ∷ []) ∷ []) (onto b [])) e
onto_lines b (l ∷ []) e h = ap (λ (t : Bool). cond t ((b ∷ []) ∷ lines_of l) (onto b (lines_of l))) e ∙ ap (onto b) h
onto_lines b (l ∷ k ∷ ls) e h =
    (λ more. ap (λ (t : Bool). cond t ((b ∷ []) ∷ lines_of (l ++ more)) (onto b (lines_of (l ++ more)))) e ∙ ap (onto b) (h.0 more), h.1)

pub are_lines : (text : List ℕ) → AreLines (lines_of text)
are_lines [] = tt
are_lines (b ∷ bs) = by (b == 10) refl (are_lines bs)
  where
    by : (t : Bool) → (b == 10) ≡ t → AreLines (lines_of bs) → AreLines (cond t ((b ∷ []) ∷ lines_of bs) (onto b (lines_of bs)))
    by true e h = ended_lines b (lines_of bs) e h
    by false e h = onto_lines b (lines_of bs) e h

-- lines before other ones stay, whatever stands behind them
pub front_lines : (pre : List (List ℕ)) (l : List ℕ) (ls : List (List ℕ)) → AreLines (pre ++ l ∷ ls) → (more : List ℕ) → lines_of (concat pre ++ more) ≡ pre ++ lines_of more
front_lines [] l ls h more = refl
front_lines (p ∷ []) l ls h more = ap lines_of (append_assoc p [] more) ∙ h.0 more
front_lines (p ∷ q ∷ ps) l ls h more =
    ap lines_of (append_assoc p (concat (q ∷ ps)) more) ∙ h.0 (concat (q ∷ ps) ++ more) ∙ ap (λ (ks : List (List ℕ)). p ∷ ks) (front_lines (q ∷ ps) l ls h.1 more)

-- those behind others are lines too
pub back_lines : (pre ls : List (List ℕ)) → AreLines (pre ++ ls) → AreLines ls
back_lines [] ls h = h
back_lines (p ∷ []) [] h = tt
back_lines (p ∷ []) (l ∷ ls) h = h.1
back_lines (p ∷ q ∷ ps) ls h = back_lines (q ∷ ps) ls h.1

-- and those before others
pub front_are : (xs ys : List (List ℕ)) → AreLines (xs ++ ys) → AreLines xs
front_are [] ys h = tt
front_are (x ∷ []) [] h = h
front_are (x ∷ []) (y ∷ ys) h = ap lines_of (sym (append-nil x)) ∙ h.0 []
front_are (x ∷ z ∷ xs) ys h = (h.0, front_are (z ∷ xs) ys h.1)

-- the lines of the text that some lines make up
pub whole_lines : (ls : List (List ℕ)) → AreLines ls → lines_of (concat ls) ≡ ls
whole_lines [] h = refl
whole_lines (l ∷ []) h = ap lines_of (append-nil l) ∙ h
whole_lines (l ∷ k ∷ ls) h = h.0 (concat (k ∷ ls)) ∙ ap (λ (ks : List (List ℕ)). l ∷ ks) (whole_lines (k ∷ ls) h.1)

-- lines between others
pub own_lines : (own post : List (List ℕ)) → AreLines (own ++ post) → lines_of (concat own) ≡ own
own_lines own [] h = whole_lines own (subst AreLines (append-nil own) h)
own_lines own (l ∷ ls) h = ap lines_of (sym (append-nil (concat own))) ∙ front_lines own l ls h [] ∙ append-nil own

pub concat_both : (xs ys : List (List ℕ)) → concat (xs ++ ys) ≡ concat xs ++ concat ys
concat_both [] ys = refl
concat_both (x ∷ xs) ys = ap (λ (zs : List ℕ). x ++ zs) (concat_both xs ys) ∙ sym (append_assoc x (concat xs) (concat ys))
