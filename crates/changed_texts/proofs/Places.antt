-- One of some things is replaced, and those behind it are moved; and put back.
use Rattle.std.proofs.Common.{ℕ, zero, suc, ◌≡◌, ◌+◌, ◌<◌, List, [], ◌∷◌, ◌++◌, length, take, drop, map, get_or, set, Some, refl, sym, ap, ◌∙◌, arith}
use Rattle.std.specs.List.{slice_get, AllByRecursion}
use Rattle.std.proofs.lemmas.Option.{none-some, same_Some, slice_get-get_or}
use Rattle.book.specs.declared.item.Placed.{Placed}
use Rattle.moved_lines.specs.Moving.{CanMovePlaced, back_offset, moved_placed}
use Rattle.moved_lines.specs.declared.shift.Offset.{Offset}
use Rattle.moved_lines.proofs.Backs.{each-home, placed-can, placed-home}
use Rattle.changed_texts.specs.Replacing.{changed_at}

module _ {X : Type 0} (f : X → X) where
  put_at : (n : ℕ) (x : X) (xs : List X) → n < length xs → set (take (suc n) xs ++ map f (drop (suc n) xs)) n x ≡ changed_at f n x xs
  put_at n x [] h = absurd (omega (arith, h))
  put_at zero x (y ∷ ys) h = refl
  put_at (suc n) x (y ∷ ys) h = ap (λ (zs : List X). y ∷ zs) (put_at n x ys (omega (arith, h)))

  got_at : (n : ℕ) (d : X) (xs : List X) → n < length xs → get_or (take (suc n) xs ++ map f (drop (suc n) xs)) n d ≡ get_or xs n d
  got_at n d [] h = absurd (omega (arith, h))
  got_at zero d (y ∷ ys) h = refl
  got_at (suc n) d (y ∷ ys) h = got_at n d ys (omega (arith, h))

  -- those before a number and those moved from the next one on, with another thing in its place
  pub put_is : (n m : ℕ) (x : X) (xs moved new : List X) → m ≡ n + 1 → n < length xs → moved ≡ take m xs ++ map f (drop m xs) → new ≡ set moved n x → new ≡ changed_at f n x xs
  put_is n m x xs moved new e h is there =
      let step : m ≡ suc n = omega (arith, e) in
      there ∙ ap (λ (zs : List X). set zs n x) (is ∙ ap (λ (k : ℕ). take k xs ++ map f (drop k xs)) step) ∙ put_at n x xs h

  pub old_is : (n m : ℕ) (x : X) (xs moved : List X) → m ≡ n + 1 → n < length xs → moved ≡ take m xs ++ map f (drop m xs) → x ≡ get_or moved n x → slice_get xs n ≡ Some x
  old_is n m x xs moved e h is there =
      let step : m ≡ suc n = omega (arith, e) in
      slice_get-get_or xs n x h
      ∙ ap (λ (y : X). Some y) (sym (there ∙ ap (λ (zs : List X). get_or zs n x) (is ∙ ap (λ (k : ℕ). take k xs ++ map f (drop k xs)) step) ∙ got_at n x xs h))

module _ {X : Type 0} (f g : X → X) where
  put_back : (n : ℕ) (xs : List X) (old new : X) → slice_get xs n ≡ Some old → map g (map f (drop (suc n) xs)) ≡ drop (suc n) xs → changed_at g n old (changed_at f n new xs) ≡ xs
  put_back n [] old new h home = absurd (none-some old h)
  put_back zero (x ∷ xs) old new h home = λ i. sym (same_Some x old h) i ∷ home i
  put_back (suc n) (x ∷ xs) old new h home = ap (λ (ys : List X). x ∷ ys) (put_back n xs old new h home)

pub put_back_is : (by : Offset) (items : List Placed) (n : ℕ) (old new : Placed) → slice_get items n ≡ Some old → AllByRecursion (CanMovePlaced by) (drop (suc n) items)
    → changed_at (moved_placed (back_offset by)) n old (changed_at (moved_placed by) n new items) ≡ items
put_back_is by items n old new h can =
    put_back (moved_placed by) (moved_placed (back_offset by)) n items old new h
    (each-home (moved_placed by) (moved_placed (back_offset by)) (CanMovePlaced by) (CanMovePlaced (back_offset by)) (placed-home by) (placed-can by) (drop (suc n) items) can)
