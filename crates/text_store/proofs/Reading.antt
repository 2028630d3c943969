-- How the records of a file are read one after the other.
use Rattle.std.proofs.Common.{◌≡◌, ◌≢◌, ℕ, zero, suc, ◌+◌, ◌-◌, ◌<◌, ◌≤◌, List, [], ◌∷◌, ◌++◌, length, get_or, take, drop, refl, sym, ◌∙◌, ap, arith, length-drop, length-take, subst, take-append-drop}
use Rattle.std.specs.Int.{w64, from_le_bytes}
use Rattle.std.proofs.lemmas.List.{drop_more, drop-drop, take-take, drop-take}
use Rattle.hl_base.proofs.Files.{take_past}
use Rattle.text_store.specs.Entries.{Entry, open_from, open_entries, IsFront}
use Rattle.text_store.specs.Reads.{from_place}
use Rattle.text_store.proofs.OpenEntries.{taken, not_whole, enough, shut_gate, front_grows}

pub begins : (header : ℕ) (file : List ℕ) → open_entries header file ≡ from_place file header
unfolding open_entries
begins header file = refl

pub short_none : (n at : ℕ) (bytes : List ℕ) → length bytes < 11 → open_from n at bytes ≡ []
unfolding open_from
short_none zero at bytes short = refl
short_none (suc n) at [] short = refl
short_none (suc n) at (gate ∷ []) short = refl
short_none (suc n) at (gate ∷ kind ∷ rest) short = not_whole gate (8 + from_le_bytes w64 (take 8 rest)) (length rest) _ [] (omega arith)

pub short_end : (file : List ℕ) (at : ℕ) → length file - at < 11 → from_place file at ≡ []
short_end file at short = short_none (length file) at (drop at file) (omega (arith, length-drop at file))

pub shut_end : (file : List ℕ) (at : ℕ) → at < length file → get_or file at 0 ≢ 1 → from_place file at ≡ []
shut_end file at inside shut =
    ap (λ (l : List ℕ). open_from (length file) at l) (drop_more file at 0 inside) ∙ shut_gate (length file) at (get_or file at 0) (drop (at + 1) file) shut

cut_short : (n at kind : ℕ) (rest : List ℕ) → length rest ≤ 8 + from_le_bytes w64 (take 8 rest) → open_from n at (1 ∷ kind ∷ rest) ≡ []
unfolding open_from
cut_short zero at kind rest short = refl
cut_short (suc n) at kind rest short = not_whole 1 (8 + from_le_bytes w64 (take 8 rest)) (length rest) _ [] short

one_entry : (n at kind : ℕ) (rest : List ℕ) → length rest + 2 ≤ n → 8 + from_le_bytes w64 (take 8 rest) < length rest
    → open_from n at (1 ∷ kind ∷ rest) ≡ record { at = at; kind = kind; payload = take (from_le_bytes w64 (take 8 rest)) (drop 8 rest) }
    ∷ open_from n (at + 10 + from_le_bytes w64 (take 8 rest)) (drop (8 + from_le_bytes w64 (take 8 rest)) rest)
unfolding open_from
one_entry zero at kind rest le whole = absurd (omega arith)
one_entry (suc n) at kind rest le whole =
    let len = from_le_bytes w64 (take 8 rest) in
    let entry : Entry = record { at = at; kind = kind; payload = take len (drop 8 rest) } in
    taken 1 (8 + len) (length rest) _ [] refl whole
    ∙ ap (λ (l : List Entry). entry ∷ l) (enough n (suc n) (at + 10 + len) (drop (8 + len) rest) (omega (arith, length-drop (8 + len) rest)) (omega (arith, length-drop (8 + len) rest)))

module _ (file : List ℕ) (at : ℕ) (inside : at + 11 ≤ length file) (is_open : get_or file at 0 ≡ 1) where
  split : drop at file ≡ 1 ∷ get_or file (at + 1) 0 ∷ drop (at + 2) file
  split =
      let next : at + 1 + 1 ≡ at + 2 = omega arith in
      drop_more file at 0 (omega arith) ∙ ap (λ (l : List ℕ). get_or file at 0 ∷ l) (drop_more file (at + 1) 0 (omega arith))
      ∙ ap (λ (k : ℕ). get_or file at 0 ∷ get_or file (at + 1) 0 ∷ drop k file) next
      ∙ ap (λ (k : ℕ). k ∷ get_or file (at + 1) 0 ∷ drop (at + 2) file) is_open

  pub cut_end : (len : ℕ) → len ≡ from_le_bytes w64 (take 8 (drop (at + 2) file)) → length file - at - 10 ≤ len → from_place file at ≡ []
  cut_end len is short =
      ap (λ (l : List ℕ). open_from (length file) at l) split
      ∙ cut_short (length file) at (get_or file (at + 1) 0) (drop (at + 2) file) (omega (arith, length-drop (at + 2) file, is))

  pub next_entry : (len : ℕ) → len ≡ from_le_bytes w64 (take 8 (drop (at + 2) file)) → len < length file - at - 10
      → from_place file at ≡ record { at = at; kind = get_or file (at + 1) 0; payload = take len (drop (at + 10) file) } ∷ from_place file (at + 10 + len)
  next_entry len is whole =
      let rest = drop (at + 2) file in
      let kind = get_or file (at + 1) 0 in
      let payload_at : drop 8 rest ≡ drop (at + 10) file = drop-drop 8 (at + 2) file ∙ ap (λ (k : ℕ). drop k file) (omega arith) in
      let behind : drop (8 + len) rest ≡ drop (at + 10 + len) file = drop-drop (8 + len) (at + 2) file ∙ ap (λ (k : ℕ). drop k file) (omega arith) in
      ap (λ (l : List ℕ). open_from (length file) at l) split
      ∙ one_entry (length file) at kind rest (omega (arith, length-drop (at + 2) file)) (omega (arith, length-drop (at + 2) file, is))
      ∙ ap (λ (k : ℕ). record { at = at; kind = kind; payload = take k (drop 8 rest) } ∷ open_from (length file) (at + 10 + k) (drop (8 + k) rest)) (sym is)
      ∙ (λ i. record { at = at; kind = kind; payload = take len (payload_at i) } ∷ open_from (length file) (at + 10 + len) (behind i))

  -- up to the gate behind it
  pub next_front : (len : ℕ) → len ≡ from_le_bytes w64 (take 8 (drop (at + 2) file)) → len < length file - at - 10 → (header : ℕ) (entries : List Entry)
      → IsFront header (take at file) entries
      → IsFront header (take (at + 10 + len) file) (entries ++ record { at = at; kind = get_or file (at + 1) 0; payload = take len (drop (at + 10) file) } ∷ [])
  next_front len is whole header entries front =
      let kind = get_or file (at + 1) 0 in
      let rest = take (8 + len) (drop (at + 2) file) in
      let long : length rest ≡ 8 + len = omega (arith, length-take (8 + len) (drop (at + 2) file), length-drop (at + 2) file, whole, inside) in
      let eight : take 8 rest ≡ take 8 (drop (at + 2) file) = take-take 8 (8 + len) (drop (at + 2) file) (omega arith) in
      let reads : length rest ≡ 8 + from_le_bytes w64 (take 8 rest) = long ∙ ap (λ (n : ℕ). 8 + n) (is ∙ ap (λ (l : List ℕ). from_le_bytes w64 l) (sym eight)) in
      let payload : drop 8 rest ≡ take len (drop (at + 10) file) =
      drop-take 8 len (drop (at + 2) file) ∙ ap (λ (l : List ℕ). take len l) (drop-drop 8 (at + 2) file ∙ ap (λ (k : ℕ). drop k file) (omega arith)) in
      let size : length (take at file) ≡ at = omega (arith, length-take at file, inside) in
      let bytes : take at file ++ 1 ∷ kind ∷ rest ≡ take (at + 10 + len) file =
      ap (λ (l : List ℕ). take at file ++ l) (ap (λ (l : List ℕ). take (suc (suc (8 + len))) l) (sym split))
      ∙ sym (take_past (take at file) (drop at file) (at + 10 + len) (suc (suc (8 + len))) (omega (arith, size)))
      ∙ ap (λ (l : List ℕ). take (at + 10 + len) l) (take-append-drop at file) in
      subst (λ (l : List ℕ). IsFront header l (entries ++ record { at = at; kind = kind; payload = take len (drop (at + 10) file) } ∷ [])) bytes
      (subst (λ (p : List ℕ). IsFront header (take at file ++ 1 ∷ kind ∷ rest) (entries ++ record { at = at; kind = kind; payload = p } ∷ [])) payload
      (subst (λ (n : ℕ). IsFront header (take at file ++ 1 ∷ kind ∷ rest) (entries ++ record { at = n; kind = kind; payload = drop 8 rest } ∷ [])) size
      (front_grows header (take at file) entries front kind rest reads)))
