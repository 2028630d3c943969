-- Postings are taken transaction by transaction.
use Rattle.std.proofs.Common.{◌≡◌, ℕ, ◌+◌, ◌<◌, List, [], ◌∷◌, ◌++◌, map, length, take, get_or, append-nil, refl, sym, ap, ◌∙◌}
use Rattle.std.proofs.lemmas.List.{append_assoc, take_more}
use Rattle.book.specs.declared.transaction.Posting.{Posting}
use Rattle.book.specs.declared.transaction.Txn.{Txn}
use Rattle.report_cells.specs.Taken.{Taken}
use Rattle.report_takings.specs.Entries.{Entry, entries_in, entries_of}
use Rattle.index_cells.specs.Posted.{posted, posted_in}

mapped : (txn : Txn) (ps : List Posting) → map posted (map (λ (p : Posting). (p, txn)) ps) ≡ map (λ (p : Posting). posted (p, txn)) ps
mapped txn [] = refl
mapped txn (p ∷ ps) = ap (λ (ts : List Taken). posted (p, txn) ∷ ts) (mapped txn ps)

joined : (xs ys : List Entry) → map posted (xs ++ ys) ≡ map posted xs ++ map posted ys
joined [] ys = refl
joined (x ∷ xs) ys = ap (λ (ts : List Taken). posted x ∷ ts) (joined xs ys)

posted-push : (txns : List Txn) (txn : Txn) → posted_in (txns ++ txn ∷ []) ≡ posted_in txns ++ map (λ (p : Posting). posted (p, txn)) txn.postings
posted-push [] txn = ap (map posted) (append-nil (entries_in txn)) ∙ mapped txn txn.postings
posted-push (t ∷ txns) txn =
    joined (entries_in t) (entries_of (txns ++ txn ∷ []))
    ∙ ap (λ (ts : List Taken). map posted (entries_in t) ++ ts) (posted-push txns txn)
    ∙ sym (append_assoc (map posted (entries_in t)) (posted_in txns) (map (λ (p : Posting). posted (p, txn)) txn.postings))
    ∙ ap (λ (ts : List Taken). ts ++ map (λ (p : Posting). posted (p, txn)) txn.postings) (sym (joined (entries_in t) (entries_of txns)))

pub posted_more : (txns : List Txn) (i : ℕ) (txn : Txn) (old new : List Taken) → i < length txns → txn ≡ get_or txns i txn → old ≡ posted_in (take i txns) → new ≡ old ++ map (λ (p : Posting). posted (p, txn)) txn.postings → new ≡ posted_in (take (i + 1) txns)
posted_more txns i txn old new lt read is more =
    let done : take (i + 1) txns ≡ take i txns ++ txn ∷ [] = take_more txns i txn lt ∙ ap (λ x. take i txns ++ x ∷ []) (sym read) in
    more ∙ ap (λ (ts : List Taken). ts ++ map (λ (p : Posting). posted (p, txn)) txn.postings) is
    ∙ sym (ap posted_in done ∙ posted-push (take i txns) txn)
