-- A file behind whose front no open record stands.
use Rattle.std.proofs.Common.{◌≡◌, ◌∙◌, inl, inr, ℕ, suc, ◌+◌, ◌-◌, ◌<◌, List, [], ◌∷◌, ◌++◌, length, get_or, take, drop, sym, ap, arith, append_assoc, length-append, length-take, length-drop, take-append-drop}
use Rattle.std.proofs.lemmas.List.{take_at, drop_more, append-nil, take-append-le}
use Rattle.hl_base.specs.Disk.{Torn, Cut}
use Rattle.text_store.specs.Ends.{IsShutAt}
use Rattle.text_store.specs.Entries.{Entry, open_from}
use Rattle.text_store.specs.Halves.{IsHalf}
use Rattle.text_store.specs.Image.{live, live_of}
use Rattle.text_store.specs.Reads.{from_place}
use Rattle.text_store.proofs.Gates.{cut_form, torn_gate}
use Rattle.text_store.proofs.OpenEntries.{enough, lone_gate}
use Rattle.text_store.proofs.Prefixes.{FirstSame, front_first}

none_first : (part : List Entry) (whole : List Entry) → whole ≡ [] → FirstSame part whole → part ≡ []
none_first part whole none (inl is) = is
none_first part whole none (inr same) = absurd (clash (sym none ∙ same.4))
  where
    clash : [] ≡ same.0 ∷ same.2 → ⊥
    clash e = cc

module _ (front : List ℕ) (g : ℕ) (size : length front ≡ g) where
  pub cut_end_stays : (d c : List ℕ) → IsShutAt front d → Cut (g + 1) d c → IsShutAt front c
  cut_end_stays d c at cut =
      let n = length c - (g + 1) in (
        at.0,
        take n at.1,
        cut_form front g size at.0 at.1 d c at.2 cut,
        none_first (open_from (length (at.0 ∷ take n at.1)) (length front) (at.0 ∷ take n at.1)) (open_from (length (at.0 ∷ at.1)) (length front) (at.0 ∷ at.1)) at.3
            (front_first (length (at.0 ∷ take n at.1)) (length (at.0 ∷ at.1)) (length front) (suc n) (at.0 ∷ at.1) (omega arith)),
      )

  pub cut_end_done : (d : List ℕ) → IsShutAt front d → (x : ℕ) × (take (g + 1) d ≡ front ++ x ∷ [])
  cut_end_done d at = (
    at.0,
    ap (λ (l : List ℕ). take (g + 1) l) (at.2 ∙ sym (append_assoc front (at.0 ∷ []) at.1)) ∙ take_at (front ++ at.0 ∷ []) at.1 (g + 1) (omega (arith, length-append front (at.0 ∷ []), size)),
  )

  pub end_shut : (x : ℕ) (c : List ℕ) → Torn g 1 (front ++ x ∷ []) c → IsShutAt front c
  end_shut x c torn = (get_or c g 0, [], torn_gate front g size x [] c torn, lone_gate (length {A = ℕ} (get_or c g 0 ∷ [])) (length front) (get_or c g 0))

-- a file whose records end at a gate
pub shut_from : (file : List ℕ) (gate : ℕ) → gate < length file → from_place file gate ≡ [] → IsShutAt (take gate file) file
shut_from file gate inside none =
    let behind = drop_more file gate 0 inside in
    let size : length (take gate file) ≡ gate = omega (arith, length-take gate file, inside) in (
      get_or file gate 0,
      drop (gate + 1) file,
      sym (take-append-drop gate file) ∙ ap (λ (l : List ℕ). take gate file ++ l) behind,
      ap (λ (n : ℕ). open_from (length (get_or file gate 0 ∷ drop (gate + 1) file)) n (get_or file gate 0 ∷ drop (gate + 1) file)) size
          ∙ ap (λ (l : List ℕ). open_from (length l) gate l) (sym behind)
          ∙ enough (length (drop gate file)) (length file) gate (drop gate file) (omega arith) (omega (arith, length-drop gate file)) ∙ none,
    )

-- each such file with one front is the same half
pub same_half : (front : List ℕ) (entries : List Entry) → IsHalf front entries → (c : List ℕ) → IsShutAt front c → live c ≡ live_of (take 32 front) entries
same_half front entries is c at =
    ap live at.2
    ∙ (λ i. live_of (take-append-le 32 front (at.0 ∷ at.1) is.records.behind i)
    ((is.records.opens at.0 at.1 ∙ ap (λ (l : List Entry). entries ++ l) at.3 ∙ append-nil entries) i))
