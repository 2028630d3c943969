-- The pieces of a text, put one behind the other, are the text.
use Rattle.std.proofs.Common.{◌≡◌, ℕ, zero, suc, ◌+◌, Bool, true, false, cond, eqb, List, [], ◌∷◌, ◌++◌, length, take, drop, map, refl, sym, ap, ◌∙◌, arith, length-append, drop-drop}
use Rattle.std.specs.List.{concat}
use Rattle.std.proofs.lemmas.List.{take-append-drop, take_all}
use Rattle.std.proofs.lemmas.List.Folds.{concat-append}
use Rattle.std.proofs.lemmas.List.Sums.{sum_by-cons}
use Rattle.hl_base.specs.Items.{cut_from, items_of, kind_of, lines_more}
use Rattle.hl_base.specs.Lines.{lines_of, onto}
use Rattle.hl_base.specs.Pieces.{bytes_in, span}
use Rattle.hl_base.specs.declared.items.Piece.{Piece}
use Rattle.text_pieces.specs.ItemBytes.{bytes_of, cut_by}

-- ---- each at its place

first_place : (at : ℕ) (ls : List (List ℕ)) → at + span zero ls ≡ at
first_place at ls = omega arith

next_place : (taken at : ℕ) (l : List ℕ) (ls : List (List ℕ)) → at + span (suc taken) (l ∷ ls) ≡ (at + length l) + span taken ls
next_place taken at l ls = omega (arith, length-append l (concat (take taken ls)))

-- pieces that are cut from some lines of a text take their bytes where they say
cut_at : (text : List ℕ) (taken at line : ℕ) (ls : List (List ℕ)) → cut_by (cut_from taken at line ls) (drop (at + span taken ls) text) ≡ map (bytes_of text) (cut_from taken at line ls)
cut_at text zero at line [] = refl
cut_at text (suc taken) at line [] = refl
cut_at text (suc taken) at line (l ∷ ls) =
    ap (λ (n : ℕ). cut_by (cut_from taken (at + length l) (line + 1) ls) (drop n text)) (next_place taken at l ls)
    ∙ cut_at text taken (at + length l) (line + 1) ls
cut_at text zero at line (l ∷ ls) =
    let more = lines_more (kind_of l) ls in
    let size : ℕ = length l + span more ls in
    let rest : List Piece = cut_from more (at + length l) (line + 1) ls in
    let next : at + size ≡ (at + length l) + span more ls = omega arith in
    ap (λ (n : ℕ). take size (drop n text) ∷ cut_by rest (drop size (drop n text))) (first_place at (l ∷ ls))
    ∙ ap (λ (bytes : List ℕ). take size (drop at text) ∷ cut_by rest bytes) (drop-drop size at text ∙ ap (λ (n : ℕ). drop n text) next)
    ∙ ap (λ (all : List (List ℕ)). take size (drop at text) ∷ all) (cut_at text more (at + length l) (line + 1) ls)

pub each_at : (text : List ℕ) (pieces : List Piece) → pieces ≡ items_of text → cut_by pieces text ≡ map (bytes_of text) (items_of text)
each_at text pieces is =
    let none : 0 + span zero (lines_of text) ≡ 0 = omega arith in
    ap (λ (ps : List Piece). cut_by ps text) is
    ∙ ap (λ (n : ℕ). cut_by (items_of text) (drop n text)) (sym none)
    ∙ cut_at text zero 0 1 (lines_of text)

-- ---- all of them

take_none : (n : ℕ) → take {A = ℕ} n [] ≡ []
take_none zero = refl
take_none (suc n) = refl

take_both : (m n : ℕ) (xs : List ℕ) → take (m + n) xs ≡ take m xs ++ take n (drop m xs)
take_both zero n xs = let e : 0 + n ≡ n = omega arith in ap (λ (k : ℕ). take k xs) e
take_both (suc m) n [] = take_none (suc m + n) ∙ sym (take_none n)
take_both (suc m) n (x ∷ xs) = let e : suc m + n ≡ suc (m + n) = omega arith in ap (λ (k : ℕ). take k (x ∷ xs)) e ∙ ap (λ (ys : List ℕ). x ∷ ys) (take_both m n xs)

front_is : (pieces : List Piece) (text : List ℕ) → concat (cut_by pieces text) ≡ take (bytes_in pieces) text
front_is [] text = refl
front_is (p ∷ ps) text =
    ap (λ (bytes : List ℕ). take p.len text ++ bytes) (front_is ps (drop p.len text))
    ∙ sym (take_both p.len (bytes_in ps) text)
    ∙ ap (λ (n : ℕ). take n text) (sym (sum_by-cons (λ (q : Piece). q.len) p ps))

-- pieces that are cut from some lines have all their bytes but those of the first few lines
bytes_from : (taken at line : ℕ) (ls : List (List ℕ)) → bytes_in (cut_from taken at line ls) ≡ length (concat (drop taken ls))
bytes_from zero at line [] = refl
bytes_from (suc taken) at line [] = refl
bytes_from (suc taken) at line (l ∷ ls) = bytes_from taken (at + length l) (line + 1) ls
bytes_from zero at line (l ∷ ls) =
    let more = lines_more (kind_of l) ls in
    let rest : List Piece = cut_from more (at + length l) (line + 1) ls in
    let first : Piece = record { at = at; len = length l + span more ls; line = line; kind = kind_of l } in
    let all : length (concat ls) ≡ span more ls + length (concat (drop more ls)) =
    ap (λ (ks : List (List ℕ)). length (concat ks)) (sym (take-append-drop more ls)) ∙ ap length (concat-append (take more ls) (drop more ls)) ∙ length-append (concat (take more ls)) (concat (drop more ls)) in
    omega (arith, sum_by-cons (λ (q : Piece). q.len) first rest, bytes_from more (at + length l) (line + 1) ls, all, length-append l (concat ls))

concat_onto : (b : ℕ) (ls : List (List ℕ)) → concat (onto b ls) ≡ b ∷ concat ls
concat_onto b [] = refl
concat_onto b (l ∷ ls) = refl

concat_lines : (text : List ℕ) → concat (lines_of text) ≡ text
concat_lines [] = refl
concat_lines (b ∷ bs) = by (eqb b 10) (concat_lines bs)
  where
    by : (t : Bool) → concat (lines_of bs) ≡ bs → concat (cond t ((b ∷ []) ∷ lines_of bs) (onto b (lines_of bs))) ≡ b ∷ bs
    by true h = ap (λ (xs : List ℕ). b ∷ xs) h
    by false h = concat_onto b (lines_of bs) ∙ ap (λ (xs : List ℕ). b ∷ xs) h

pub whole_text : (text : List ℕ) (pieces : List Piece) → pieces ≡ items_of text → concat (cut_by pieces text) ≡ text
whole_text text pieces is =
    let all : bytes_in pieces ≡ length text = ap bytes_in is ∙ bytes_from zero 0 1 (lines_of text) ∙ ap length (concat_lines text) in
    front_is pieces text ∙ ap (λ (n : ℕ). take n text) all ∙ take_all (length text) text (omega arith)
