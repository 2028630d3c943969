-- The ends that are gathered posting by posting are those of all days.
use Rattle.std.proofs.Common.{◌≡◌, ℕ, true, false, cond, List, [], ◌∷◌, map, filter, Option, Some, None, refl, sym, ap, ◌∙◌}
use Rattle.std.specs.List.{fold, flat_map}
use Rattle.std.proofs.lemmas.List.Sums.{fold-append}
use Rattle.std.proofs.lemmas.List.Folds.{fold-map}
use Rattle.book.specs.declared.transaction.Posting.{Posting}
use Rattle.book.specs.declared.transaction.Txn.{Txn}
use Rattle.query.specs.Matching.{least, later}
use Rattle.report_takings.specs.Asking.{Question, question_of}
use Rattle.report_takings.specs.Ended.{ends_of, with_day, with_entry, with_txn}
use Rattle.report_takings.specs.Entries.{Entry, entries_in, day_in}
use Rattle.report_takings.specs.declared.ends.Ends.{Ends}
use Rattle.report_takings.specs.declared.scope.Scope.{Scope}

-- some days, each there
abbrev pub there : List ℕ → List (Option ℕ)
there days = map (λ day. Some day) days

module _ (asked : Question) where
  -- the days of those of some postings that are meant
  abbrev pub days_in : List Entry → List ℕ
  days_in es = map day_in (filter asked.means_undated es)

  gathered : (es : List Entry) (ends : Ends) → fold (with_entry asked) ends es ≡ record { first = fold least ends.first (there (days_in es)); last = fold later ends.last (there (days_in es)) }
  gathered [] ends = refl
  gathered (e ∷ es) ends =
      elim (asked.means_undated e) as (λ b. fold (with_entry asked) (cond b (with_day ends (day_in e)) ends) es ≡ record {
        first = fold least ends.first (there (map day_in (cond b (e ∷ filter asked.means_undated es) (filter asked.means_undated es))));
        last = fold later ends.last (there (map day_in (cond b (e ∷ filter asked.means_undated es) (filter asked.means_undated es))));
      }) [ true ↦ gathered es (with_day ends (day_in e)) | false ↦ gathered es ends ]

  by_txn : (ts : List Txn) (ends : Ends) → fold (with_txn asked) ends ts ≡ fold (with_entry asked) ends (flat_map entries_in ts)
  by_txn [] ends = refl
  by_txn (t ∷ ts) ends =
      by_txn ts (with_txn asked ends t)
      ∙ ap (λ (now : Ends). fold (with_entry asked) now (flat_map entries_in ts)) (sym (fold-map (with_entry asked) (λ (p : Posting). (p, t)) ends t.postings))
      ∙ sym (fold-append (with_entry asked) ends (entries_in t) (flat_map entries_in ts))

-- those of a report's book
pub ends_are : (scope : Scope) → fold (with_txn (question_of scope)) (record { first = None; last = None }) scope.book.now.txns ≡ ends_of (question_of scope)
ends_are scope =
    by_txn (question_of scope) scope.book.now.txns (record { first = None; last = None })
    ∙ gathered (question_of scope) (flat_map entries_in scope.book.now.txns) (record { first = None; last = None })
