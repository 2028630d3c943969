-- What writes and cuts make of a file's bytes.
use Rattle.std.proofs.Common.{◌≡◌, ℕ, zero, suc, ◌+◌, ◌-◌, ◌≤◌, max, List, [], ◌∷◌, ◌++◌, length, take, drop, replicate, sym, ◌∙◌, ap, arith, length-append, length-take}
use Rattle.std.proofs.lemmas.List.{drop-drop}
use Rattle.std.proofs.lemmas.Slice.{between_is}
use Rattle.hl_base.specs.Disk.{overwritten}

pub take_past : (xs ys : List ℕ) (m n : ℕ) → m ≡ length xs + n → take m (xs ++ ys) ≡ xs ++ take n ys
take_past [] ys m n is = let same : m ≡ n = omega arith in ap (λ (k : ℕ). take k ys) same
take_past (x ∷ xs) ys zero n is = absurd (omega arith)
take_past (x ∷ xs) ys (suc m) n is = ap (λ (l : List ℕ). x ∷ l) (take_past xs ys m n (omega arith))

pub same_behind : (xs ys : List ℕ) (at n : ℕ) → drop at xs ≡ drop at ys → drop (at + n) xs ≡ drop (at + n) ys
same_behind xs ys at n same = sym (drop-drop n at xs) ∙ ap (λ (l : List ℕ). drop n l) same ∙ drop-drop n at ys

-- a write within a buffer whose front is the file
pub written_over : (buffer cleared new piece : List ℕ) (len at : ℕ) → len ≤ length buffer → at + length piece ≤ length buffer
    → take at cleared ≡ take at (take len buffer ++ replicate (at - len) 0) → drop at cleared ≡ drop at buffer → length cleared ≡ length buffer
    → new ≡ take at cleared ++ piece ++ drop (at + length piece) cleared
    → take (max len (at + length piece)) new ≡ overwritten (take len buffer) at piece
written_over buffer cleared new piece len at inside room front back same is =
    let file = take len buffer in
    let m = at + length piece in
    let size : length file ≡ len = omega (arith, length-take len buffer) in
    let head : take at cleared ≡ take at (file ++ replicate (at - length file) 0) = front ∙ ap (λ (k : ℕ). take at (file ++ replicate (at - k) 0)) (sym size) in
    let long : length (take at cleared ++ piece) ≡ m = omega (arith, length-append (take at cleared) piece, length-take at cleared) in
    let behind : drop m cleared ≡ drop m buffer = same_behind cleared buffer at (length piece) back in
    ap (λ (l : List ℕ). take (max len m) l) is
    ∙ take_past (take at cleared ++ piece) (drop m cleared) (max len m) (len - m) (omega (arith, long))
    ∙ ap (λ (l : List ℕ). take at cleared ++ piece ++ take (len - m) l) behind
    ∙ ap (λ (l : List ℕ). take at cleared ++ piece ++ l) (between_is buffer m len)
    ∙ ap (λ (l : List ℕ). l ++ piece ++ drop m file) head
