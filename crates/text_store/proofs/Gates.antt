-- What the writes and cuts at a gate make of a file.
use Rattle.std.proofs.Common.{◌≡◌, inl, inr, ℕ, zero, suc, ◌+◌, ◌-◌, ◌≤◌, ◌<◌, min, List, [], ◌∷◌, ◌++◌, length, get_or, take, drop, replicate, refl, sym, ◌∙◌, ap, arith, append_assoc, length-append, take-append-drop}
use Rattle.std.proofs.lemmas.List.{take_at, drop_at, drop_more, take_all, drop_all, append-nil, take-append-le}
use Rattle.hl_base.specs.Disk.{overwritten, Torn, Cut}
use Rattle.hl_base.proofs.Files.{take_past}
use Rattle.text_store.specs.Rest.{IsAt, HasHeadBegun}

-- a front of a front
pub fronts : (m n : ℕ) (l : List ℕ) → (k : ℕ) × (take m (take n l) ≡ take k l)
fronts zero n l = (0, refl)
fronts (suc m) zero l = (0, refl)
fronts (suc m) (suc n) [] = (0, refl)
fronts (suc m) (suc n) (x ∷ l) = let r = fronts m n l in (suc r.0, ap (λ (t : List ℕ). x ∷ t) r.1)

module _ (front : List ℕ) (g : ℕ) (size : length front ≡ g) where
  one_longer : (x : ℕ) → length (front ++ x ∷ []) ≡ g + 1
  one_longer x = omega (arith, length-append front (x ∷ []), size)

  longer : (x : ℕ) (rest : List ℕ) → length (front ++ x ∷ rest) ≡ g + 1 + length rest
  longer x rest = omega (arith, length-append front (x ∷ rest), size)

  regroup : (x : ℕ) (rest : List ℕ) → front ++ x ∷ rest ≡ (front ++ x ∷ []) ++ rest
  regroup x rest = sym (append_assoc front (x ∷ []) rest)

  behind_gate : (x : ℕ) (rest : List ℕ) → drop (g + 1) (front ++ x ∷ rest) ≡ rest
  behind_gate x rest = ap (λ (l : List ℕ). drop (g + 1) l) (regroup x rest) ∙ drop_at (front ++ x ∷ []) rest (g + 1) (one_longer x)

  -- a write behind the gate leaves the gate
  pub torn_behind : (x n : ℕ) (c : List ℕ) → Torn (g + 1) n (front ++ x ∷ []) c → c ≡ front ++ x ∷ drop (g + 1) c
  torn_behind x n c torn =
      let file = front ++ x ∷ [] in
      let long = one_longer x in
      let all : min (g + 1) (length file) ≡ g + 1 = omega (arith, long) in
      let head : take (g + 1) c ≡ file =
      ap (λ (k : ℕ). take k c) (sym all) ∙ torn.before ∙ take_all (min (g + 1) (length file)) file (omega (arith, long)) in
      sym (take-append-drop (g + 1) c) ∙ ap (λ (l : List ℕ). l ++ drop (g + 1) c) head ∙ append_assoc front (x ∷ []) (drop (g + 1) c)

  pub written_behind : (x : ℕ) (entry : List ℕ) → overwritten (front ++ x ∷ []) (g + 1) entry ≡ front ++ x ∷ entry
  written_behind x entry =
      let file = front ++ x ∷ [] in
      let hole = replicate (g + 1 - length file) 0 in
      ap (λ (l : List ℕ). l ++ entry ++ drop (g + 1 + length entry) file) (take_at file hole (g + 1) (one_longer x))
      ∙ ap (λ (l : List ℕ). file ++ entry ++ l) (drop_all (g + 1 + length entry) file (omega (arith, one_longer x)))
      ∙ append-nil (file ++ entry) ∙ append_assoc front (x ∷ []) entry

  -- a write of the gate leaves what stands behind it
  pub torn_gate : (x : ℕ) (rest c : List ℕ) → Torn g 1 (front ++ x ∷ rest) c → c ≡ front ++ get_or c g 0 ∷ rest
  torn_gate x rest c torn =
      let file = front ++ x ∷ rest in
      let long = longer x rest in
      let all : min g (length file) ≡ g = omega (arith, long) in
      let head : take g c ≡ front =
      ap (λ (k : ℕ). take k c) (sym all) ∙ torn.before ∙ ap (λ (k : ℕ). take k file) all ∙ take_at front (x ∷ rest) g size in
      let inside : g < length c = omega (arith, long, torn.no_shorter) in
      let tail : drop g c ≡ get_or c g 0 ∷ rest =
      drop_more c g 0 inside ∙ ap (λ (l : List ℕ). get_or c g 0 ∷ l) (torn.after ∙ behind_gate x rest) in
      sym (take-append-drop g c) ∙ ap (λ (l : List ℕ). l ++ drop g c) head ∙ ap (λ (l : List ℕ). front ++ l) tail

  pub written_gate : (x y : ℕ) (rest : List ℕ) → overwritten (front ++ x ∷ rest) g (y ∷ []) ≡ front ++ y ∷ rest
  written_gate x y rest =
      let file = front ++ x ∷ rest in
      let hole = replicate (g - length file) 0 in
      let head : take g (file ++ hole) ≡ front = take-append-le g file hole (omega (arith, longer x rest)) ∙ take_at front (x ∷ rest) g size in
      ap (λ (l : List ℕ). l ++ (y ∷ []) ++ drop (g + 1) file) head
      ∙ ap (λ (l : List ℕ). front ++ (y ∷ []) ++ l) (behind_gate x rest)
      ∙ append_assoc front (y ∷ []) rest

  -- a cut behind the gate leaves the gate
  pub cut_form : (x : ℕ) (tail d c : List ℕ) → d ≡ front ++ x ∷ tail → Cut (g + 1) d c → c ≡ front ++ x ∷ take (length c - (g + 1)) tail
  cut_form x tail d c is cut =
      let long : length d ≡ g + 1 + length tail = ap length is ∙ longer x tail in
      let above : g + 1 ≤ length c = omega (arith, cut.no_shorter, long) in
      sym cut.front ∙ ap (λ (l : List ℕ). take (length c) l) (is ∙ regroup x tail)
      ∙ take_past (front ++ x ∷ []) tail (length c) (length c - (g + 1)) (omega (arith, above, one_longer x))
      ∙ append_assoc front (x ∷ []) (take (length c - (g + 1)) tail)

  pub cut_stays : (entry d c : List ℕ) → IsAt front entry d → Cut (g + 1) d c → IsAt front entry c
  cut_stays entry d c (inl at) cut = inl (take (length c - (g + 1)) at.0, cut_form 0 at.0 d c at.1 cut)
  cut_stays entry d c (inr at) cut =
      let n = length c - (g + 1) in
      let part = fronts n at.1 entry in
      inr (at.0, part.0, cut_form at.0 (take at.1 entry) d c at.2 cut ∙ ap (λ (l : List ℕ). front ++ at.0 ∷ l) part.1)

  pub cut_done : (entry d : List ℕ) → IsAt front entry d → (x : ℕ) × (take (g + 1) d ≡ front ++ x ∷ [])
  cut_done entry d (inl at) = (0, ap (λ (l : List ℕ). take (g + 1) l) (at.1 ∙ regroup 0 at.0) ∙ take_at (front ++ 0 ∷ []) at.0 (g + 1) (one_longer 0))
  cut_done entry d (inr at) = (at.0, ap (λ (l : List ℕ). take (g + 1) l) (at.2 ∙ regroup at.0 (take at.1 entry)) ∙ take_at (front ++ at.0 ∷ []) (take at.1 entry) (g + 1) (one_longer at.0))

  pub behind_at : (n : ℕ) (entry c : List ℕ) → Torn (g + 1) n (front ++ 0 ∷ []) c → IsAt front entry c
  behind_at n entry c torn = inl (drop (g + 1) c, torn_behind 0 n c torn)

  pub gate_at : (x : ℕ) (entry c : List ℕ) → Torn g 1 (front ++ x ∷ entry) c → IsAt front entry c
  gate_at x entry c torn =
      inr (get_or c g 0, length entry, torn_gate x entry c torn ∙ ap (λ (l : List ℕ). front ++ get_or c g 0 ∷ l) (sym (take_all (length entry) entry (omega arith))))

  pub end_at : (x : ℕ) (entry c : List ℕ) → Torn g 1 (front ++ x ∷ []) c → IsAt front entry c
  end_at x entry c torn = inr (get_or c g 0, 0, torn_gate x [] c torn)

-- a write at the end of a file
pub over_rest : (a b : List ℕ) (n : ℕ) → length a ≡ n → overwritten a n b ≡ a ++ b
over_rest a b n size =
    ap (λ (l : List ℕ). l ++ b ++ drop (n + length b) a) (take_at a (replicate (n - length a) 0) n size)
    ∙ ap (λ (l : List ℕ). a ++ b ++ l) (drop_all (n + length b) a (omega (arith, size))) ∙ append-nil (a ++ b)

-- the first bytes of a header are those of it without its gate
pub head_of_header : (header head c : List ℕ) → header ≡ head ++ 0 ∷ [] → length header ≡ 33 → HasHeadBegun header c → HasHeadBegun head c
head_of_header header head c same size (inl short) = inl short
head_of_header header head c same size (inr begun) =
    inr (begun.0 ∙ ap (λ (l : List ℕ). take 8 l) same ∙ take-append-le 8 head (0 ∷ []) (omega (arith, ap length same, length-append head (0 ∷ []), size)), begun.1)
