-- The postings that are kept transaction by transaction are those of the whole book that are chosen.
use Rattle.std.proofs.Common.{◌≡◌, Bool, true, false, cond, List, [], ◌∷◌, ◌++◌, map, filter, refl, sym, ap, ◌∙◌}
use Rattle.std.specs.List.{flat_map}
use Rattle.std.proofs.lemmas.List.{map-append}
use Rattle.std.proofs.lemmas.List.Elements.{filter-append}
use Rattle.hl_time.specs.declared.spans.Span.{Span}
use Rattle.book.specs.declared.transaction.Posting.{Posting}
use Rattle.book.specs.declared.transaction.Txn.{Txn}
use Rattle.report_options.specs.declared.options.Start.{Start}
use Rattle.report_options.specs.declared.options.Start.TheVariants.{Historical}
use Rattle.report_takings.specs.Entries.{Entry, entries_in}
use Rattle.report_takings.specs.Asking.{Question}
use Rattle.report_takings.specs.Takings.{before, is_chosen, is_kept, names_earlier, taken}
use Rattle.report_takings.specs.Walked.{chosen_in, chosen_of, taken_in, taken_of}
use Rattle.report_takings.specs.declared.entries.Part.TheVariants.{Counted, Named}

module _ (start : Start) (asked : Question) (shown : Span) where
  one_txn : (t : Txn) (ps : List Posting) → flat_map (λ (p : Posting). chosen_of start asked shown (p, t)) ps ≡ filter (is_chosen start asked shown) (map (λ (p : Posting). (p, t)) ps)
  one_txn t [] = refl
  one_txn t (p ∷ ps) =
      elim (is_chosen start asked shown (p, t)) as (λ b. cond b ((p, t) ∷ []) [] ++ flat_map (λ (q : Posting). chosen_of start asked shown (q, t)) ps ≡ cond b ((p, t) ∷ filter (is_chosen start asked shown) (map (λ (q : Posting). (q, t)) ps)) (filter (is_chosen start asked shown) (map (λ (q : Posting). (q, t)) ps))) [
        | true ↦ ap (λ es. (p, t) ∷ es) (one_txn t ps)
        | false ↦ one_txn t ps
      ]

  pub chosen_are : (ts : List Txn) → flat_map (chosen_in start asked shown) ts ≡ filter (is_chosen start asked shown) (flat_map entries_in ts)
  chosen_are [] = refl
  chosen_are (t ∷ ts) =
      ap (λ es. es ++ flat_map (chosen_in start asked shown) ts) (one_txn t t.postings)
      ∙ ap (λ es. filter (is_chosen start asked shown) (entries_in t) ++ es) (chosen_are ts)
      ∙ sym (filter-append (is_chosen start asked shown) (entries_in t) (flat_map entries_in ts))

-- what passes no test
none : (es : List Entry) → filter (λ (e : Entry). false) es ≡ []
none [] = refl
none (e ∷ es) = none es

-- where the accounts of earlier postings stand, these are what is chosen before the span
pub named_are : (asked : Question) (shown : Span) (es kept : List Entry) → names_earlier asked ≡ true → kept ≡ filter (is_chosen Historical asked (before shown)) es → kept ≡ filter (is_kept Named asked shown) es
named_are asked shown es kept named e =
    e ∙ sym (ap (λ (b : Bool). filter (λ (entry : Entry). cond b (is_chosen Historical asked (before shown) entry) false) es) named)

-- where they don't, there is none
pub none_named : (asked : Question) (shown : Span) (es kept : List Entry) → names_earlier asked ≡ false → kept ≡ [] → kept ≡ filter (is_kept Named asked shown) es
none_named asked shown es kept unnamed e =
    e ∙ sym (none es) ∙ sym (ap (λ (b : Bool). filter (λ (entry : Entry). cond b (is_chosen Historical asked (before shown) entry) false) es) unnamed)

-- what is made of each item of the parts is what is made of each item of the whole
made_of_parts : {X Y Z : Type 0} (f : Y → Z) (g : X → List Y) (xs : List X) → flat_map (λ (x : X). map f (g x)) xs ≡ map f (flat_map g xs)
made_of_parts f g [] = refl
made_of_parts f g (x ∷ xs) = ap (λ l. map f (g x) ++ l) (made_of_parts f g xs) ∙ sym (map-append f (g x) (flat_map g xs))

-- what is taken transaction by transaction is what is taken of the whole book
pub taken_are : (asked : Question) (shown : Span) (ts : List Txn) → flat_map (taken_in asked shown) ts ≡ map (taken Counted asked) (filter (is_kept Counted asked shown) (flat_map entries_in ts))
taken_are asked shown ts =
    let start = asked.options.start in
    (λ i. flat_map (λ (t : Txn). made_of_parts (taken Counted asked) (λ (p : Posting). chosen_of start asked shown (p, t)) t.postings i) ts)
    ∙ made_of_parts (taken Counted asked) (chosen_in start asked shown) ts
    ∙ ap (map (taken Counted asked)) (chosen_are start asked shown ts)

-- what is taken of a posting that is chosen, and of one that isn't
pub taken_some : (asked : Question) (shown : Span) (e : Entry) → is_chosen asked.options.start asked shown e ≡ true → taken_of asked shown e ≡ taken Counted asked e ∷ []
taken_some asked shown e h = ap (λ (b : Bool). map (taken Counted asked) (cond b (e ∷ []) [])) h

pub taken_none : (asked : Question) (shown : Span) (e : Entry) → is_chosen asked.options.start asked shown e ≡ false → taken_of asked shown e ≡ []
taken_none asked shown e h = ap (λ (b : Bool). map (taken Counted asked) (cond b (e ∷ []) [])) h
