-- What is said of a sample, by its text.
use Rattle.std.proofs.Common.{◌≡◌, inl, inr, ℕ, List, [], Option, None, Some, Result, Err, length, sym, subst}
use Rattle.live_journal.specs.Loading.{fault_of}
use Rattle.live_journal.specs.declared.fault.OpenFault.{OpenFault}
use Rattle.refusals.specs.declared.refusal.Refusal.{Refusal}
use Rattle.sample_text.specs.Sample.{sample_line, sample_text}
use Rattle.store_making.specs.Lines.{line_of as making_line, status_of as making_status}
use Rattle.store_making.specs.Refusals.{IsOfText}
use Rattle.store_making.specs.declared.refusal.JournalRefusal.{JournalRefusal}
use Rattle.store_making.specs.declared.refusal.JournalRefusal.TheVariants as making
use Rattle.command_line.specs.Samples.{ToldLine, ToldSample, sample_answer, sample_said}
use Rattle.command_line.specs.StoreTasks.{RefusedAs}

module _ (count : ℕ) (text : List ℕ) (is : text ≡ sample_text count) where
  -- it loads
  pub loaded_sample : (r : Result (List ℕ) Refusal) → fault_of None text ≡ None → ToldLine (sample_line count (length text)) r → ToldSample (sample_answer count) r
  loaded_sample r loads told =
      let of_sample : fault_of None (sample_text count) ≡ None = subst (λ (t : List ℕ). fault_of None t ≡ None) is loads in
      let line : ToldLine (sample_line count (length (sample_text count))) r = subst (λ (t : List ℕ). ToldLine (sample_line count (length t)) r) is told in
      subst (λ (o : Option OpenFault). ToldSample (sample_said count o) r) (sym of_sample) line

  by_fault : (e : JournalRefusal) (o : Option OpenFault) (x : Refusal) → IsOfText e o → RefusedAs (making_status e) (making_line [] e) x
      → ToldSample (sample_said count o) (Err x)
  by_fault (making.Store r) o x of told = absurd of
  by_fault (making.Load fault) o x of told = subst (λ (f : Option OpenFault). ToldSample (sample_said count f) (Err x)) (sym of) (inl told)
  by_fault (making.TooLarge limit size) o x of told = subst (λ (f : Option OpenFault). ToldSample (sample_said count f) (Err x)) (sym of) (inl told)
  by_fault making.Memory None x of told = told
  by_fault making.Memory (Some fault) x of told = inr told

  -- or it doesn't
  pub refused_sample : (e : JournalRefusal) (x : Refusal) → IsOfText e (fault_of None text) → RefusedAs (making_status e) (making_line [] e) x
      → ToldSample (sample_answer count) (Err x)
  refused_sample e x of told =
      by_fault e (fault_of None (sample_text count)) x (subst (λ (t : List ℕ). IsOfText e (fault_of None t)) is of) told
