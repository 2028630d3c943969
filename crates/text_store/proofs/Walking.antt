-- How a content goes on over the records of a file.
use Rattle.std.proofs.Common.{◌≡◌, ◌∙◌, ℕ, zero, suc, ◌+◌, ◌*◌, ◌-◌, ◌<◌, ◌≤◌, ◌^◌, List, [], ◌∷◌, ◌++◌, length, take, drop, Option, Some, None, Ok, Err, refl, sym, ap, subst, arith, append_assoc}
use Rattle.hl_base.specs.declared.change.Latest.{Latest}
use Rattle.text_store.specs.declared.records.Record.{Record}
use Rattle.text_store.specs.Contents.{IsEnd}
use Rattle.text_store.specs.Entries.{Entry, IsFront}
use Rattle.text_store.specs.Files.{HaveShortNames, AreWritable}
use Rattle.text_store.specs.Image.{Content, with_mark, have_own_names, with_first, more_marks, mark_at, marks_at, changed, going_on, folded}
use Rattle.text_store.specs.Reads.{entry_of, from_place, IsNext}
use Rattle.text_store.proofs.Writable.{own_with, short_with}

-- so far on the way from a place, over so many records
pub record Walked (file : List ℕ) (start at count : ℕ) (first content : Content) : Type 0 where
  pub inside : at < length file
  pub folds : folded (from_place file at) content ≡ folded (from_place file start) first
  pub counted : count + length (from_place file at) ≡ length (from_place file start)
  pub few : 10 * count + start ≤ at
  pub front : (header : ℕ) (before : List Entry) → IsFront header (take start file) before
      → (entries : List Entry) × IsFront header (take at file) entries × (entries ++ from_place file at ≡ before ++ from_place file start)

pub walk_begins : (file : List ℕ) (start : ℕ) (content : Content) → start < length file → Walked file start start 0 content content
walk_begins file start content inside = record {
  inside = inside;
  folds = refl;
  counted = omega arith;
  few = omega arith;
  front = λ header before front. (before, front, refl);
}

module _ (file : List ℕ) (start at count : ℕ) (first content : Content) (walked : Walked file start at count first content) where
  pub walk_ends : from_place file at ≡ [] → (folded (from_place file start) first ≡ Ok content) × IsEnd file start at count
  walk_ends none = (
    sym walked.folds ∙ ap (λ (l : List Entry). folded l content) none,
    record {
      inside = walked.inside;
      shut = none;
      counted = omega (arith, walked.counted, ap length none);
      few = walked.few;
      front = λ header before front.
          let on = walked.front header before front in
          subst (λ (l : List Entry). IsFront header (take at file) l)
          (sym (append_nil on.0) ∙ ap (λ (l : List Entry). on.0 ++ l) (sym none) ∙ on.2) on.1;
    },
  )
    where
      append_nil : (l : List Entry) → l ++ [] ≡ l
      append_nil [] = refl
      append_nil (x ∷ l) = ap (λ (t : List Entry). x ∷ t) (append_nil l)

  module _ (r : Record) (is : IsNext file at (Some r)) where
    pub walk_stops : changed content (entry_of file r) ≡ None → folded (from_place file start) first ≡ Err r.at
    walk_stops bad =
        sym walked.folds ∙ ap (λ (l : List Entry). folded l content) is.0
        ∙ ap (λ (o : Option Content). going_on o r.at (λ next. folded (from_place file (r.payload + r.len)) next)) bad

    pub walk_on : (next : Content) → changed content (entry_of file r) ≡ Some next → Walked file start (r.payload + r.len) (count + 1) first next
    walk_on next good = record {
      inside = is.2;
      folds =
          sym (ap (λ (l : List Entry). folded l content) is.0
          ∙ ap (λ (o : Option Content). going_on o r.at (λ next. folded (from_place file (r.payload + r.len)) next)) good)
          ∙ walked.folds;
      counted = omega (arith, walked.counted, ap length is.0);
      few = omega (arith, walked.few, is.1);
      front = λ header before front.
          let on = walked.front header before front in (
            on.0 ++ entry_of file r ∷ [],
            is.3 header on.0 on.1,
            append_assoc on.0 (entry_of file r ∷ []) (from_place file (r.payload + r.len)) ∙ ap (λ (l : List Entry). on.0 ++ l) (sym is.0) ∙ on.2,
          );
    }

-- the record that was read is the one of the slice
abbrev pub sliced : List ℕ → Record → Entry
sliced file r = record { at = r.at; kind = r.kind; payload = take (r.payload + r.len - r.payload) (drop r.payload file) }

pub entry_is : (file : List ℕ) (r : Record) → entry_of file r ≡ sliced file r
entry_is file r =
    let width : r.len ≡ r.payload + r.len - r.payload = omega arith in
    ap (λ (n : ℕ). record { at = r.at; kind = r.kind; payload = take n (drop r.payload file) }) width

-- a state more keeps the states writable
pub mark_writable : (state : Latest) (before latest : List Latest) → latest ≡ with_mark state before → length state.name < 2 ^ 32 → length latest < 2 ^ 32 → AreWritable before → AreWritable latest
mark_writable state before latest is short few writable = (
  few,
  subst (λ (l : List Latest). HaveShortNames l) (sym is) (short_with state before short writable.1),
  ap (λ (l : List Latest). have_own_names l) is ∙ own_with state before writable.2,
)

-- states before others
abbrev pub with_all : List Latest → Option (List Latest × List ℕ) → Option (List Latest × List ℕ)
with_all states None = None
with_all states (Some (marks, rest)) = Some (states ++ marks, rest)

pub all_first : (states : List Latest) (state : Latest) (o : Option (List Latest × List ℕ)) → with_all states (with_first state o) ≡ with_all (states ++ state ∷ []) o
all_first states state None = refl
all_first states state (Some (marks, rest)) = ap (λ (l : List Latest). Some (l, rest)) (sym (append_assoc states (state ∷ []) marks))

pub marks_step : (n : ℕ) (states : List Latest) (state : Latest) (bytes rest : List ℕ) → 0 < n → mark_at bytes ≡ Some (state, rest)
    → with_all states (marks_at n bytes) ≡ with_all (states ++ state ∷ []) (marks_at (n - 1) rest)
marks_step zero states state bytes rest some is = absurd (omega arith)
marks_step (suc n) states state bytes rest some is =
    ap (λ (o : Option (Latest × List ℕ)). with_all states (more_marks o (λ behind. marks_at n behind))) is ∙ all_first states state (marks_at n rest)
    ∙ ap (λ (m : ℕ). with_all (states ++ state ∷ []) (marks_at m rest)) (let e : n ≡ suc n - 1 = omega arith in e)

pub marks_stop : (n : ℕ) (states : List Latest) (bytes : List ℕ) → 0 < n → mark_at bytes ≡ None → with_all states (marks_at n bytes) ≡ None
marks_stop zero states bytes some is = absurd (omega arith)
marks_stop (suc n) states bytes some is = ap (λ (o : Option (Latest × List ℕ)). with_all states (more_marks o (λ behind. marks_at n behind))) is

pub short_push : (states : List Latest) (state : Latest) → HaveShortNames states → length state.name < 2 ^ 32 → HaveShortNames (states ++ state ∷ [])
short_push [] state short is = (is, tt)
short_push (s ∷ states) state short is = (short.0, short_push states state short.1 is)
