-- The texts of the entries that an import adds.
use Rattle.std.proofs.Common.{◌≡◌, ℕ, ◌+◌, ◌<◌, ◌≤◌, ◌==◌, Bool, true, false, List, [], ◌∷◌, ◌++◌, map, length, get_or, take, Option, Some, None, Ok, refl, sym, ap, ◌∙◌, append_assoc, arith}
use Rattle.std.specs.List.{flat_map}
use Rattle.std.proofs.lemmas.Bool.Decides.{nat_tests}
use Rattle.std.proofs.lemmas.List.{take_all, take_more}
use Rattle.hl_base.specs.declared.change.Latest.{Latest}
use Rattle.book.specs.declared.item.Placed.{Placed}
use Rattle.book.specs.declared.transaction.Txn.{Txn}
use Rattle.entry_reader.specs.Contexts.{Context, context_of}
use Rattle.live_journal.specs.Loading.{reading_in}
use Rattle.live_journal.specs.declared.edit.Edit.TheVariants as edits
use Rattle.desk.specs.declared.deed.Deed.{Deed}
use Rattle.desk.specs.Imports.{context_at, context_in, deed_for, entries_text, entry_text}

-- ---- further entries

flat_map_push : (f : Txn → List ℕ) (xs : List Txn) (x : Txn) → flat_map f (xs ++ x ∷ []) ≡ flat_map f xs ++ f x
flat_map_push f [] x = nil_after (f x)
  where
    nil_after : (bytes : List ℕ) → bytes ++ [] ≡ [] ++ bytes
    nil_after [] = refl
    nil_after (b ∷ bytes) = ap (λ (l : List ℕ). b ∷ l) (nil_after bytes)
flat_map_push f (y ∷ xs) x = ap (λ (l : List ℕ). f y ++ l) (flat_map_push f xs x) ∙ sym (append_assoc (f y) (flat_map f xs) (f x))

pub one_further : (text : Txn → List ℕ) (txns : List Txn) (i : ℕ) (txn : Txn) (first old mid new : List ℕ) → i < length txns → txn ≡ get_or txns i txn
    → old ≡ first ++ flat_map (λ next. 10 ∷ text next) (take i txns) → mid ≡ old ++ 10 ∷ [] → new ≡ mid ++ text txn
    → new ≡ first ++ flat_map (λ next. 10 ∷ text next) (take (i + 1) txns)
one_further text txns i txn first old mid new less is so_far lf put =
    let f : Txn → List ℕ = λ next. 10 ∷ text next in
    let taken : take (i + 1) txns ≡ take i txns ++ txn ∷ [] = take_more txns i txn less ∙ ap (λ (t : Txn). take i txns ++ t ∷ []) (sym is) in
    put ∙ ap (λ (l : List ℕ). l ++ text txn) lf ∙ append_assoc old (10 ∷ []) (text txn) ∙ ap (λ (l : List ℕ). l ++ f txn) so_far
    ∙ append_assoc first (flat_map f (take i txns)) (f txn) ∙ ap (λ (l : List ℕ). first ++ l) (sym (flat_map_push f (take i txns) txn) ∙ ap (flat_map f) (sym taken))

pub all_further : (text : Txn → List ℕ) (txns : List Txn) (i : ℕ) (first new : List ℕ) → length txns ≤ i
    → new ≡ first ++ flat_map (λ next. 10 ∷ text next) (take i txns) → new ≡ first ++ flat_map (λ next. 10 ∷ text next) txns
all_further text txns i first new long so_far = so_far ∙ ap (λ (ts : List Txn). first ++ flat_map (λ next. 10 ∷ text next) ts) (take_all i txns long)

-- ---- all of them

pub no_entries : (context : Context) (txns : List Txn) (bytes : List ℕ) → bytes ≡ [] → length txns ≡ 0 → bytes ≡ entries_text context txns
no_entries context [] bytes is none = is
no_entries context (t ∷ ts) bytes is none = absurd (omega (arith, none))

pub some_entries : (context : Context) (txns : List Txn) (first : Txn) (further : List Txn) (start mid end made : List ℕ) → start ≡ [] → mid ≡ start ++ entry_text context first
    → end ≡ mid ++ flat_map (λ next. 10 ∷ entry_text context next) further → made ≡ end → txns ≡ first ∷ further → made ≡ entries_text context txns
some_entries context txns first further start mid end made none one more is cases =
    let rest = flat_map (λ next. 10 ∷ entry_text context next) further in
    is ∙ more ∙ ap (λ (l : List ℕ). l ++ rest) (one ∙ ap (λ (l : List ℕ). l ++ entry_text context first) none) ∙ ap (entries_text context) (sym cases)

-- ---- the edit

pub nothing_new : (text : List ℕ) (new : List Txn) (mark : Option Latest) (empty : Bool) → empty ≡ (length new == 0) → empty ≡ true → None ≡ deed_for text new mark
nothing_new text [] mark empty is h = refl
nothing_new text (t ∷ ts) mark empty is h = absurd (never (sym is ∙ h))
  where
    never : (length (t ∷ ts) == 0) ≡ true → ⊥
    never e = grind (arith, nat_tests)

pub something_new : (text : List ℕ) (year : Option ℕ) (new : List Txn) (mark : Option Latest) (items : List Placed) (context : Context) (entry : List ℕ) (empty : Bool)
    → empty ≡ (length new == 0) → empty ≡ false → year ≡ None → reading_in year text ≡ Ok items → (seen : List Placed) → seen ≡ items → context ≡ context_of None (map (λ p. p.item) seen)
    → entry ≡ entries_text context new → Some (record { edit = edits.Add entry; mark = mark }) ≡ deed_for text new mark
something_new text year [] mark items context entry empty is h no_year read seen same made printed = absurd (never (sym is ∙ h))
  where
    never : (length {A = Txn} [] == 0) ≡ false → ⊥
    never e = cc
something_new text year (t ∷ ts) mark items context entry empty is h no_year read seen same made printed =
    let reads : reading_in None text ≡ Ok items = ap (λ (y : Option ℕ). reading_in y text) (sym no_year) ∙ read in
    let at : context ≡ context_at text = made ∙ ap (λ (l : List Placed). context_of None (map (λ p. p.item) l)) same ∙ ap context_in (sym reads) in
    ap (λ (e : List ℕ). deed_with e) (printed ∙ ap (λ (x : Context). entries_text x (t ∷ ts)) at)
  where
    deed_with : List ℕ → Option Deed
    deed_with e = Some (record { edit = edits.Add e; mark = mark })
