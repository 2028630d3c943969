-- A part of a text that is replaced where it lies.
use Rattle.std.proofs.Common.{◌≡◌, ◌∙◌, ℕ, ◌+◌, List, ◌++◌, length, take, drop, sym, ap, arith, append_assoc, length-append, length-drop, length-take, take-append-drop, drop-drop, take_at, drop_at}
use Rattle.hl_base.specs.declared.change.Splice.{Splice as Part}
use Rattle.follower.specs.Changing.{turned, with_part}

-- of a text in three parts the second and the third change places
pub turned_is : (x y z : List ℕ) (from count : ℕ) → length x ≡ from → length y ≡ count → turned from count (x ++ (y ++ z)) ≡ x ++ (z ++ y)
turned_is x y z from count first second =
    let front : take from (x ++ (y ++ z)) ≡ x = take_at x (y ++ z) from first in
    let rest : drop from (x ++ (y ++ z)) ≡ y ++ z = drop_at x (y ++ z) from first in
    let last : drop count (drop from (x ++ (y ++ z))) ≡ z = ap (λ (l : List ℕ). drop count l) rest ∙ drop_at y z count second in
    let mid : take count (drop from (x ++ (y ++ z))) ≡ y = ap (λ (l : List ℕ). take count l) rest ∙ take_at y z count second in
    (λ i. front i ++ (last i ++ mid i))

-- what is inserted goes to the end, then what is removed, which is cut off, and then what stands behind the part
pub part_put : (text : List ℕ) (part : Part) (behind kept : ℕ) (longer once cut made : List ℕ) → part.at + part.removed + behind ≡ length text
    → kept ≡ part.at + behind + length part.inserted → longer ≡ text ++ part.inserted → once ≡ turned part.at part.removed longer → cut ≡ take kept once
    → made ≡ turned part.at behind cut → made ≡ with_part text part
part_put text part behind kept longer once cut made sum is_kept is_longer is_once is_cut is_made =
    let a = take part.at text in
    let r = take part.removed (drop part.at text) in
    let b = drop part.removed (drop part.at text) in
    let i = part.inserted in
    let whole : text ≡ a ++ (r ++ b) =
    sym (ap (λ (l : List ℕ). a ++ l) (take-append-drop part.removed (drop part.at text)) ∙ take-append-drop part.at text) in
    let first : length a ≡ part.at = omega (arith, length-take part.at text, sum) in
    let second : length r ≡ part.removed = omega (arith, length-take part.removed (drop part.at text), length-drop part.at text, sum) in
    let third : length b ≡ behind = omega (arith, length-drop part.removed (drop part.at text), length-drop part.at text, sum) in
    let all : longer ≡ a ++ (r ++ (b ++ i)) =
    is_longer ∙ ap (λ (l : List ℕ). l ++ i) whole ∙ append_assoc a (r ++ b) i ∙ ap (λ (l : List ℕ). a ++ l) (append_assoc r b i) in
    let removed_last : once ≡ a ++ ((b ++ i) ++ r) =
    is_once ∙ ap (λ (l : List ℕ). turned part.at part.removed l) all ∙ turned_is a r (b ++ i) part.at part.removed first second in
    let long : length (a ++ (b ++ i)) ≡ kept = omega (arith, length-append a (b ++ i), length-append b i, first, third, is_kept) in
    let cut_off : cut ≡ a ++ (b ++ i) =
    is_cut ∙ ap (λ (l : List ℕ). take kept l) (removed_last ∙ sym (append_assoc a (b ++ i) r)) ∙ take_at (a ++ (b ++ i)) r kept long in
    let put : made ≡ a ++ (i ++ b) = is_made ∙ ap (λ (l : List ℕ). turned part.at behind l) cut_off ∙ turned_is a b i part.at behind first third in
    put ∙ sym (append_assoc a i b) ∙ ap (λ (l : List ℕ). a ++ i ++ l) (drop-drop part.removed part.at text)
