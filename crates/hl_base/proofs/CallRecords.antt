-- How a call more, with its bytes, stands in the record of a disk in memory.
use Rattle.std.proofs.Common.{◌≡◌, ℕ, suc, ◌+◌, ◌≤◌, List, [], ◌∷◌, ◌++◌, length, take, drop, refl, sym, ◌∙◌, ap, arith, length-drop}
use Rattle.std.proofs.lemmas.List.{take_all, take-append-le, drop-append-le, drop-drop}
use Rattle.hl_base.specs.declared.disk_record.Call.{Call}
use Rattle.hl_base.specs.Calls.{piece_len, step_of, written, history}
use Rattle.hl_base.specs.History.{Step}

pub written-push : (calls : List Call) (call : Call) → written (calls ++ call ∷ []) ≡ written calls + piece_len call
written-push [] call = omega arith
written-push (k ∷ calls) call = omega (arith, written-push calls call)

pub history-push : (earlier : List Step) (calls : List Call) (bytes : List ℕ) (call : Call) (piece : List ℕ) → written calls ≡ length bytes
    → piece_len call ≡ length piece → history earlier (calls ++ call ∷ []) (bytes ++ piece) ≡ step_of call piece ∷ history earlier calls bytes
history-push earlier [] [] call piece total size = ap (λ (l : List ℕ). step_of call l ∷ earlier) (take_all (piece_len call) piece (omega arith))
history-push earlier [] (b ∷ bytes) call piece total size = absurd (omega arith)
history-push earlier (k ∷ calls) bytes call piece total size =
    let p = piece_len k in
    let inside : p ≤ length bytes = omega arith in
    let rest : written calls ≡ length (drop p bytes) = omega (arith, length-drop p bytes) in
    (λ i. history (step_of k (take-append-le p bytes piece inside i) ∷ earlier) (calls ++ call ∷ []) (drop-append-le p bytes piece inside i))
    ∙ history-push (step_of k (take p bytes) ∷ earlier) calls (drop p bytes) call piece rest size

pub length-history : (earlier : List Step) (calls : List Call) (bytes : List ℕ) → length (history earlier calls bytes) ≡ length earlier + length calls
length-history earlier [] bytes = omega arith
length-history earlier (k ∷ calls) bytes = omega (arith, length-history (step_of k (take (piece_len k) bytes) ∷ earlier) calls (drop (piece_len k) bytes))

-- the newest calls stand in front
pub drop-history : (earlier : List Step) (calls : List Call) (bytes : List ℕ) → drop (length calls) (history earlier calls bytes) ≡ earlier
drop-history earlier [] bytes = refl
drop-history earlier (k ∷ calls) bytes =
    let step = step_of k (take (piece_len k) bytes) in
    let all = history (step ∷ earlier) calls (drop (piece_len k) bytes) in
    let one : suc (length calls) ≡ length calls + 1 = omega arith in
    ap (λ (n : ℕ). drop n all) one ∙ sym (drop-drop 1 (length calls) all) ∙ ap (λ (l : List Step). drop 1 l) (drop-history (step ∷ earlier) calls (drop (piece_len k) bytes))
