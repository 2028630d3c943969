-- What a crash leaves of a disk in memory after one call more.
use Rattle.std.proofs.Common.{◌≡◌, ◌⊎◌, inl, inr, ℕ, zero, suc, ◌+◌, ◌-◌, ◌^◌, ◌≤◌, min, List, [], ◌∷◌, ◌++◌, length, take, drop, replicate, refl, sym, ◌∙◌, ap, subst, arith, length-append, length-take, length-drop, Option, None, Some}
use Rattle.std.proofs.lemmas.List.{length-replicate, drop-drop, take_all, take-append-le, take-take}
use Rattle.std.proofs.lemmas.Bool.{cases_eq}
use Rattle.hl_base.specs.Causes.{Rose}
use Rattle.hl_base.specs.Disk.{overwritten, Torn, Cut}
use Rattle.hl_base.specs.History.{Step, Still, Wrote, Shortened, Synced, Recorded, content, MayLeave, MayLeaveOf, added}

pub torn_same : (at n : ℕ) (c : List ℕ) → Torn at n c c
torn_same at n c = record { before = refl; after = refl; no_shorter = omega arith; no_longer = omega arith }

pub cut_same : (n : ℕ) (c : List ℕ) → Cut n c c
cut_same n c = record { no_shorter = omega arith; front = take_all (length c) c (omega arith) }

drop_past : (xs ys : List ℕ) (m n : ℕ) → m ≡ length xs + n → drop m (xs ++ ys) ≡ drop n ys
drop_past [] ys m n is = let same : m ≡ n = omega arith in ap (λ (k : ℕ). drop k ys) same
drop_past (x ∷ xs) ys zero n is = absurd (omega arith)
drop_past (x ∷ xs) ys (suc m) n is = drop_past xs ys m n (omega arith)

-- a write of which a front came through
pub torn_write : (file bytes : List ℕ) (at count : ℕ) → count ≤ length bytes → Torn at (length bytes) file (overwritten file at (take count bytes))
torn_write file bytes at count le =
    let n = length bytes in
    let piece = take count bytes in
    let size : length piece ≡ count = omega (arith, length-take count bytes) in
    let padded = file ++ replicate (at - length file) 0 in
    let wide : length padded ≡ length file + (at - length file) = omega (arith, length-append file (replicate (at - length file) 0), length-replicate {A = ℕ} (at - length file) 0) in
    let head = take at padded in
    let head_size : length head ≡ at = omega (arith, length-take at padded, wide) in
    let front_size : length (head ++ piece) ≡ at + count = omega (arith, length-append head piece, head_size, size) in
    let m = min at (length file) in
    let inside : m ≤ length head = omega (arith, head_size) in
    let inside_front : m ≤ length (head ++ piece) = omega (arith, front_size) in
    let back = drop (at + length piece) file in
    let short : at + length piece ≡ at + count = omega (arith, size) in
    let back_size : length back ≡ length file - (at + count) = omega (arith, length-drop (at + length piece) file, size) in
    let total : length (head ++ piece ++ back) ≡ at + count + (length file - (at + count)) = omega (arith, length-append (head ++ piece) back, front_size, back_size) in
    record {
      before = take-append-le m (head ++ piece) back inside_front ∙ take-append-le m head piece inside ∙ take-take m at padded (omega arith)
          ∙ take-append-le m file (replicate (at - length file) 0) (omega arith);
      after = drop_past (head ++ piece) back (at + n) (n - count) (omega (arith, front_size))
          ∙ drop-drop (n - count) (at + length piece) file ∙ ap (λ (k : ℕ). drop k file) (omega (arith, size));
      no_shorter = omega (arith, total);
      no_longer = omega (arith, total);
    }

pub torn_whole : (file bytes : List ℕ) (at : ℕ) → Torn at (length bytes) file (overwritten file at bytes)
torn_whole file bytes at =
    subst (λ (l : List ℕ). Torn at (length bytes) file (overwritten file at l)) (take_all (length bytes) bytes (omega arith)) (torn_write file bytes at (length bytes) (omega arith))

pub cut_done : (n : ℕ) (file : List ℕ) → Cut n file (take n file)
cut_done n file =
    let size : length (take n file) ≡ min n (length file) = length-take n file in
    record { no_shorter = omega (arith, size); front = shorter n file }
  where
    shorter : (n : ℕ) (xs : List ℕ) → take (length (take n xs)) xs ≡ take n xs
    shorter zero xs = refl
    shorter (suc n) [] = refl
    shorter (suc n) (x ∷ xs) = ap (λ (l : List ℕ). x ∷ l) (shorter n xs)

-- what a read gives may be left
pub now_may : (first : List ℕ) (steps : List Step) → MayLeave first steps (content first steps)
now_may first [] = refl
now_may first (Still ∷ older) = now_may first older
now_may first (Wrote at bytes ∷ older) =
    inr (length bytes, omega arith, ap (λ (l : List ℕ). overwritten (content first older) at l) (sym (take_all (length bytes) bytes (omega arith))))
now_may first (Shortened len ∷ older) = inr refl
now_may first (Synced ∷ older) = refl

pub refused_leaves : (o s n : Option Recorded) → s ≡ o → (n ≡ s) ⊎ (n ≡ added s Still) → (c : List ℕ) → MayLeaveOf n c → MayLeaveOf o c
refused_leaves o s n same (inl is) c left = subst (λ (l : Option Recorded). MayLeaveOf l c) (is ∙ same) left
refused_leaves o s n same (inr is) c left = still o c (subst (λ (l : Option Recorded). MayLeaveOf l c) (is ∙ ap (λ (l : Option Recorded). added l Still) same) left)
  where
    still : (o : Option Recorded) (c : List ℕ) → MayLeaveOf (added o Still) c → MayLeaveOf o c
    still None c left = left
    still (Some r) c left = left

pub synced_leaves : (o n : Option Recorded) → n ≡ added o Synced → (c : List ℕ) → MayLeaveOf n c → MayLeaveOf o c
synced_leaves o n is c left = synced o c (subst (λ (l : Option Recorded). MayLeaveOf l c) is left)
  where
    synced : (o : Option Recorded) (c : List ℕ) → MayLeaveOf (added o Synced) c → MayLeaveOf o c
    synced None c left = left
    synced (Some r) c left = subst (λ (l : List ℕ). MayLeave r.first r.steps l) (sym left) (now_may r.first r.steps)

pub wrote_leaves : (o n : Option Recorded) (at : ℕ) (bytes : List ℕ) → n ≡ added o (Wrote at bytes) → (c : List ℕ) → MayLeaveOf n c
    → (d : List ℕ) × MayLeaveOf o d × Torn at (length bytes) d c
wrote_leaves o n at bytes is c left = wrote o at bytes c (subst (λ (l : Option Recorded). MayLeaveOf l c) is left)
  where
    wrote : (o : Option Recorded) (at : ℕ) (bytes c : List ℕ) → MayLeaveOf (added o (Wrote at bytes)) c → (d : List ℕ) × MayLeaveOf o d × Torn at (length bytes) d c
    wrote None at bytes c left = (c, tt, torn_same at (length bytes) c)
    wrote (Some r) at bytes c (inl before) = (c, before, torn_same at (length bytes) c)
    wrote (Some r) at bytes c (inr front) =
        let file = content r.first r.steps in
        (file, now_may r.first r.steps, subst (λ (l : List ℕ). Torn at (length bytes) file l) (sym front.2) (torn_write file bytes at front.0 front.1))

pub cut_leaves : (o n : Option Recorded) (len : ℕ) → n ≡ added o (Shortened len) → (c : List ℕ) → MayLeaveOf n c → (d : List ℕ) × MayLeaveOf o d × Cut len d c
cut_leaves o n len is c left = shortened o len c (subst (λ (l : Option Recorded). MayLeaveOf l c) is left)
  where
    shortened : (o : Option Recorded) (len : ℕ) (c : List ℕ) → MayLeaveOf (added o (Shortened len)) c → (d : List ℕ) × MayLeaveOf o d × Cut len d c
    shortened None len c left = (c, tt, cut_same len c)
    shortened (Some r) len c (inl before) = (c, before, cut_same len c)
    shortened (Some r) len c (inr done) =
        let file = content r.first r.steps in
        (file, now_may r.first r.steps, subst (λ (l : List ℕ). Cut len file l) (sym done) (cut_done len file))

-- a count that goes up by one, but for its last value
pub rose_by_one : (before now : ℕ) → now ≡ min (before + 1) (2 ^ 64 - 1) → Rose before now
rose_by_one before now is = elim (cases_eq now (2 ^ 64 - 1)) [ inl last ↦ inr last | inr below ↦ inl (omega arith) ]
